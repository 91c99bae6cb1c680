use Rattle.std.proofs.Common.{inl, inr}
use Rattle.plan.proofs.Handed.{handed_on}
use Rattle.seat_admission.proofs.CheckLaws.{owning, own-outside}
use Rattle.seat_admission.proofs.check_own.Goals.{then-seat-lt1-via-then-seat-lt1, then-seat-lt1-via-else-seat-lt1+then-h-seat}
use Rattle.seat_admission.proofs.check_own.Goals as goal

pub returns-then-seat-lt1 : goal.returns-then-seat-lt1
returns-then-seat-lt1 c = elim c.then-seat-lt1.branch [
  | then-seat-lt1-via-then-seat-lt1 w ↦ own-outside _ _ c.args.seat.now.plan.now.planned _ _ _ _ (inl w.if-seat-lt1.true)
  | then-seat-lt1-via-else-seat-lt1+then-h-seat w ↦ own-outside _ _ c.args.seat.now.plan.now.planned _ _ _ _ (inr w.if-h-seat.true)
]

pub returns-in_err-check_inputs : goal.returns-in_err-check_inputs
returns-in_err-check_inputs c = rw (handed_on _ _ c.from_residual.ensures.1) (search (owning, c.in_err-check_inputs.was))

pub returns-in_err-check_coins : goal.returns-in_err-check_coins
returns-in_err-check_coins c = rw (handed_on _ _ c.from_residual-in_err-check_coins.ensures.1) (search (owning, c.in_ok-check_inputs.was, c.in_err-check_coins.was))

pub returns : goal.returns
returns c = search (owning, c.in_ok-check_inputs.was, c.in_ok-check_coins.was)
