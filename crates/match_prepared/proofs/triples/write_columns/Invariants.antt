use Prim.Native.Nat.{◌*◌}
use Rattle.numbers.specs.Bytes.{width}
use Rattle.sharing_openings.proofs.Rows.{Written}
use Rattle.match_prepared.proofs.TripleLaws.{column_bytes}
use Rattle.match_prepared.proofs.triples.write_columns.Given as goal

abbrev pub invariant-loop-d : goal.invariant-loop-d
invariant-loop-d l = Written (column_bytes l.n l.table l.gates) (width * l.gates) l.n l.initial.out l.out l.d
