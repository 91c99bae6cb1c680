use Rattle.run_dealings.proofs.RowLaws.{row-entry-below}
use Rattle.run_dealings.proofs.SpendLaws.{triple_below, differ-next}
use Rattle.run_dealings.proofs.Dealings.differences.Goals as goal

pub sub-requires : goal.sub-requires
sub-requires c = record {
  left = row-entry-below _ _ _ _ c.requires.rowed _ c.loop-d-test.true;
  right = triple_below _ _ _ _ c.requires.spending _ _ _ c.loop-d-test.true c.requires.j_bound c.triple_number.ensures;
}

pub loop-d-preserved : goal.loop-d-preserved
loop-d-preserved c = differ-next _ _ _ _ _ _ _ _ _ c.loop-d.invariant _ _ c.loop-d-test.true c.triple_number.ensures c.sub.ensures
