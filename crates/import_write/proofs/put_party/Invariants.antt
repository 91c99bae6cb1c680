use Rattle.import_write.proofs.Bytes.{Naming}
use Rattle.import_write.proofs.put_party.Given as goal

abbrev pub invariant-loop-i : goal.invariant-loop-i
invariant-loop-i l = Naming l.version l.start l.party l.count l.initial.out l.i l.out
