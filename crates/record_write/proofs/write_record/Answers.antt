use mathlib.Core.Path.{refl, sym, ◌∙◌}
use Rattle.record_write.proofs.Recording.{writing, record-kept}
use Rattle.record_write.proofs.write_record.Goals as goal

pub put_contents-requires : goal.put_contents-requires
put_contents-requires c = search writing

pub slice_bounds-write_run-count : goal.slice_bounds-write_run-count
slice_bounds-write_run-count c = search writing

pub slice_bounds-write_run-start : goal.slice_bounds-write_run-start
slice_bounds-write_run-start c = search writing

pub returns-in_err-write_run-clause-out_after : goal.returns-in_err-write_run-clause-out_after
returns-in_err-write_run-clause-out_after c =
    record-kept c.args.plan.now.planned _ c.requires.out_len _ refl _ c.everyone-set.ensures _ _ _ _ _ (sym c.write_run.ensures.answer ∙ c.in_err-write_run.was) c.write_run.ensures.out_after
