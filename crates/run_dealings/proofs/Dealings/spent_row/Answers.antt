use native.Mathlib.Omega.{arith}
use Rattle.run_dealings.proofs.SpendLaws.{triple_below, part-next}
use Rattle.run_dealings.proofs.Dealings.spent_row.Goals as goal

pub spent_share-requires-clause-c_lt_p : goal.spent_share-requires-clause-c_lt_p
spent_share-requires-clause-c_lt_p c = triple_below _ _ _ _ c.requires.spending _ _ _ c.loop-i-test.true (omega arith) c.triple_number-c.ensures

pub loop-i-preserved : goal.loop-i-preserved
loop-i-preserved c = part-next _ _ _ _ _ _ _ _ _ _ _ c.loop-i.invariant _ _ c.loop-i-test.true c.triple_number-c.ensures c.spent_share.ensures
