use mathlib.Core.Path.{sym, ◌∙◌}
use borrow.Author.Rules.{rules}
use Rattle.plan.proofs.Handed.{handed_on}
use Rattle.run_bench.proofs.BenchLaws.{filled, run_stands, run_broken, run_kept, run_done, run-written, unspent_run}
use Rattle.run_bench.proofs.write_checked.Goals.{then-not-is_empty+in_ok-check_outs, else-not-is_empty}
use Rattle.run_bench.proofs.write_checked.Goals as goal

pub check_outs-requires : goal.check_outs-requires
check_outs-requires c =
    let plan = c.args.run.now.plan.now in
    let given = c.requires.given in
    record { running = run_stands plan.planned _ _ _ given _ (filled plan.planned _ _ _ given _ c.fill.ensures.table_after) }

pub returns-in_err-check_outs-clause-answer : goal.returns-in_err-check_outs-clause-answer
returns-in_err-check_outs-clause-answer c =
    let plan = c.args.run.now.plan.now in
    let given = c.requires.given in
    handed_on _ _ c.from_residual.ensures.1 ∙ sym c.in_err-check_outs.was
    ∙ run_broken plan.planned _ _ _ given _ (filled plan.planned _ _ _ given _ c.fill.ensures.table_after) _ c.check_outs.ensures

pub returns-in_err-check_outs-clause-out_after : goal.returns-in_err-check_outs-clause-out_after
returns-in_err-check_outs-clause-out_after c =
    let plan = c.args.run.now.plan.now in
    let given = c.requires.given in
    run_kept plan.planned _ _ _ given _ (filled plan.planned _ _ _ given _ c.fill.ensures.table_after) _ c.check_outs.ensures _ _ _ c.in_err-check_outs.was

pub returns-clause-answer : goal.returns-clause-answer
returns-clause-answer c =
    let plan = c.args.run.now.plan.now in
    let given = c.requires.given in
    elim c.if-not-is_empty.branch [
      | then-not-is_empty+in_ok-check_outs w ↦
          sym w.in_ok-check_outs.was ∙ run_broken plan.planned _ _ _ given _ (filled plan.planned _ _ _ given _ c.fill.ensures.table_after) _ w.check_outs.ensures
      | else-not-is_empty w ↦ unspent_run plan.planned _ _ _ given (search rules)
    ]

pub returns-clause-out_after : goal.returns-clause-out_after
returns-clause-out_after c =
    let plan = c.args.run.now.plan.now in
    let given = c.requires.given in
    run_done plan.planned _ _ _ given _ _ _ (returns-clause-answer c) (run-written plan.planned _ _ _ given _ c.requires.set_bound _ c.write_views.ensures)
