use Rattle.count_call.proofs.CallLaws.{tallying, rows-done}
use Rattle.count_call.proofs.CallLaws.{tallying}
use Rattle.count_call.proofs.checking.Given.write_views.Goals as goal

pub fill_rows-requires-clause-out_len : goal.fill_rows-requires-clause-out_len
fill_rows-requires-clause-out_len c = search tallying

pub tally-requires : goal.tally-requires
tally-requires c = search tallying

pub returns : goal.returns
returns c = search (tallying, rows-done, c.slice_known-3-1.given)
