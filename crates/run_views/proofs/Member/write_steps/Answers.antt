use lib.ListN.{replicate, length-replicate}
use Prim.Native.Nat.{ℕ}
use Rattle.run_views.proofs.ViewLaws.{point_there, point_small, run_powers, all_powers}
use Rattle.run_views.proofs.Member.write_steps.Goals as goal

pub power_row-requires : goal.power_row-requires
power_row-requires c = point_there _ _ c.args.self.now.run.now.plan.now.planned _ _ _ _ c.args.self.now.run.now.fitted _ c.args.self.now.among.0 c.args.self.now.among.1

pub put_pieces-requires : goal.put_pieces-requires
put_pieces-requires c =
    run_powers _ _ c.args.self.now.run.now.plan.now.planned _ _ _ _ c.args.self.now.run.now.fitted _ c.args.self.now.among.0 c.args.self.now.among.1 _ c.in-Reduction.is
    c.power_row.ensures.some c.power_row.ensures.few c.power_row.ensures.are

pub bounds-dealings-j : goal.bounds-dealings-j
bounds-dealings-j c = point_there _ _ c.args.self.now.run.now.plan.now.planned _ _ _ _ c.args.self.now.run.now.fitted _ c.args.self.now.among.0 c.args.self.now.among.1

pub powers-requires : goal.powers-requires
powers-requires c =
    record { x_lt_p = point_small _ _ c.args.self.now.run.now.plan.now.planned _ _ _ _ c.args.self.now.run.now.fitted _ c.args.self.now.among.0 c.args.self.now.among.1 }

pub put_pieces-requires-in-Truncation : goal.put_pieces-requires-in-Truncation
put_pieces-requires-in-Truncation c =
    all_powers _ _ c.args.self.now.run.now.plan.now.planned _ _ _ _ c.args.self.now.run.now.fitted _ c.args.self.now.among.0 c.args.self.now.among.1 (replicate {A = ℕ} 16 0) _ c.in-Truncation.is
    (length-replicate {A = ℕ} 16 0) c.powers.ensures
