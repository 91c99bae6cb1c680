use Rattle.numbers.proofs.Searches.{Seeking}
use Rattle.plan.specs.File.{plan_of}
use Rattle.match_agreement.specs.MatchParts.{out_agrees_at}
use Rattle.match_agreement.proofs.InputPair.first_value_off.Given as goal

abbrev pub invariant-loop-o : goal.invariant-loop-o
invariant-loop-o l = Seeking (out_agrees_at (plan_of l.self.plan.now.bytes.now) l.self.set l.before l.after) l.self.plan.now.header.outs l.o
