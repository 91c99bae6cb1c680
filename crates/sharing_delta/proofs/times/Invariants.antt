use Rattle.sharing_delta.proofs.Factors.{Carried}
use Rattle.sharing_delta.proofs.times.Given as goal

abbrev pub invariant-loop-coefficient : goal.invariant-loop-coefficient
invariant-loop-coefficient l = Carried l.f.p l.a l.b l.initial.out l.out l.before l.coefficient-index
