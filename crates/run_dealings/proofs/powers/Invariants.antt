use Rattle.run_dealings.proofs.PowerLaws.{Powering}
use Rattle.run_dealings.proofs.powers.Given as goal

abbrev pub invariant-loop-place : goal.invariant-loop-place
invariant-loop-place l = Powering l.f.p l.x l.power l.initial.row l.row l.place-index
