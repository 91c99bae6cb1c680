use Rattle.import_check.proofs.Marks.{inv_on, two_not, two_on, both_then, both_else}
use Rattle.import_check.proofs.fits.Goals as goal
use Rattle.import_check.proofs.fits.Goals.{then-is_set-2, else-is_set-2}

pub returns-then-is_set-3 : goal.returns-then-is_set-3
returns-then-is_set-3 c =
    two_on _ _ _ _ _ c.in-Xor.is _
    (elim c.if-is_set-2.branch [
      | then-is_set-2 w ↦ both_then _ _ _ _ _ c.is_set-in-Xor.ensures _ w.if-is_set-2.true w.is_set-then-is_set-2.ensures w.value-is
      | else-is_set-2 w ↦ both_else _ _ _ _ _ c.is_set-in-Xor.ensures w.if-is_set-2.false w.value-is
    ])
    _ c.if-is_set-3.true c.can_set-then-is_set-3.ensures

pub returns-else-is_set-3 : goal.returns-else-is_set-3
returns-else-is_set-3 c =
    two_not _ _ _ _ _ c.in-Xor.is _
    (elim c.if-is_set-2.branch [
      | then-is_set-2 w ↦ both_then _ _ _ _ _ c.is_set-in-Xor.ensures _ w.if-is_set-2.true w.is_set-then-is_set-2.ensures w.value-is
      | else-is_set-2 w ↦ both_else _ _ _ _ _ c.is_set-in-Xor.ensures w.if-is_set-2.false w.value-is
    ])
    c.if-is_set-3.false

pub returns-then-is_set : goal.returns-then-is_set
returns-then-is_set c = inv_on _ _ _ _ c.in-Inv.is _ c.is_set.ensures _ c.if-is_set.true c.can_set.ensures
