use Rattle.numbers.specs.Bytes.{numbers}
use Rattle.match_agreement.proofs.AgreeLaws.{Comparing}
use Rattle.match_agreement.proofs.InputPair.first_input_off.Given as goal

abbrev pub invariant-loop-g : goal.invariant-loop-g
invariant-loop-g l = Comparing l.self.plan.now.bytes.now l.self.plan.now.header.gates l.self.set (numbers l.self.first.now) (numbers l.self.second.now) l.next l.g
