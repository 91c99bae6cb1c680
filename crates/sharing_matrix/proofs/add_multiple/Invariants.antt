use Rattle.sharing_matrix.proofs.Fitting.{Added}
use Rattle.sharing_matrix.proofs.add_multiple.Given as goal

abbrev pub invariant-loop-j : goal.invariant-loop-j
invariant-loop-j l = Added l.f.p l.c l.polynomial l.initial.out l.out l.j
