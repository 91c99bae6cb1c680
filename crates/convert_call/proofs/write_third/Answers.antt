use Rattle.convert_call.proofs.Converting.{filing}
use Rattle.convert_call.proofs.write_third.Goals as goal

pub put_contents-requires : goal.put_contents-requires
put_contents-requires c = search filing

pub returns : goal.returns
returns c = search filing
