use mathlib.Core.Path.{sym, ap, ◌∙◌}
use Prim.Native.Nat.{ℕ}
use lib.ListN.{length, length-replicate}
use Rattle.plan.proofs.Handed.{handed_on}
use Rattle.plan.proofs.Refusals.{try-none, try_passed}
use Rattle.run_views.proofs.ViewLaws.{out_within, start_fits, end_fits, bytes_fit, row_within}
use Rattle.run_bench.proofs.OutLaws.{points_over, points_elements, rows_room, part_counted, out_here, outs_stop}
use Rattle.run_bench.proofs.outs.check_outs.Goals as goal

pub new-checker-requires-clause-points_value : goal.new-checker-requires-clause-points_value
new-checker-requires-clause-points_value c = let run = c.args.run.now in points_elements _ _ run.plan.now.planned _ _ _ _ run.fitted

pub new-checker-requires-clause-t_in_bounds : goal.new-checker-requires-clause-t_in_bounds
new-checker-requires-clause-t_in_bounds c = let run = c.args.run.now in points_over _ _ run.plan.now.planned _ _ _ _ run.fitted

pub new-checker-requires-clause-room_len : goal.new-checker-requires-clause-room_len
new-checker-requires-clause-room_len c = let run = c.args.run.now in rows_room _ _ run.plan.now.planned _ _ _ _ run.fitted _ (length-replicate {A = ℕ} 225 0)

pub loop-k-init : goal.loop-k-init
loop-k-init c = try-none _ _

pub overflow_mul-from : goal.overflow_mul-from
overflow_mul-from c = start_fits _ _ c.requires.running _ (out_within c.args.run.now.plan.now.planned _ _ c.loop-k-test.true c.out_at-o.ensures)

pub overflow_add-from : goal.overflow_add-from
overflow_add-from c = end_fits _ _ c.requires.running _ (out_within c.args.run.now.plan.now.planned _ _ c.loop-k-test.true c.out_at-o.ensures)

pub offset_bounds-table-from : goal.offset_bounds-table-from
offset_bounds-table-from c = bytes_fit _ _ c.requires.running _ (out_within c.args.run.now.plan.now.planned _ _ c.loop-k-test.true c.out_at-o.ensures)

pub slice_bounds-check_shares-end : goal.slice_bounds-check_shares-end
slice_bounds-check_shares-end c = row_within _ _ c.requires.running _ (out_within c.args.run.now.plan.now.planned _ _ c.loop-k-test.true c.out_at-o.ensures)

pub check_shares-requires-clause-shares_len : goal.check_shares-requires-clause-shares_len
check_shares-requires-clause-shares_len c =
    let run = c.args.run.now in
    part_counted _ _ run.plan.now.planned _ c.requires.running _ _ c.loop-k-test.true c.out_at-o.ensures _ _ _ _ run.fitted ∙ sym (ap length c.new-checker.ensures.points_value)

pub returns-in_err-check_shares : goal.returns-in_err-check_shares
returns-in_err-check_shares c =
    let run = c.args.run.now in
    let checker = c.new-checker.ensures in
    let here = out_here _ _ run.plan.now.planned _ c.requires.running _ _ c.loop-k-test.true c.out_at-o.ensures _ _ _ _ run.fitted _ _ _ _ checker.field_value checker.t_value checker.points_value c.check_shares.ensures in
    handed_on _ _ c.from_residual.ensures.1 ∙ outs_stop _ _ run.plan.now.planned _ _ c.loop-k.invariant _ _ c.loop-k-test.true here c.in_err-check_shares.was

pub loop-k-preserved : goal.loop-k-preserved
loop-k-preserved c =
    let run = c.args.run.now in
    let checker = c.new-checker.ensures in
    let here = out_here _ _ run.plan.now.planned _ c.requires.running _ _ c.loop-k-test.true c.out_at-o.ensures _ _ _ _ run.fitted _ _ _ _ checker.field_value checker.t_value checker.points_value c.check_shares.ensures in
    try_passed _ _ _ c.loop-k.invariant _ c.loop-k-test.true here c.in_ok-check_shares.was
