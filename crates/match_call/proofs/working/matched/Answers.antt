use Rattle.match_call.proofs.AloneLaws.{alone}
use Rattle.match_call.proofs.working.matched.Goals as goal

pub matched_with-requires : goal.matched_with-requires
matched_with-requires c = search alone
