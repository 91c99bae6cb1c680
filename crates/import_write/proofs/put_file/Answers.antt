use Rattle.import_write.proofs.Whole.{filing, file_written}
use Rattle.import_write.proofs.put_file.Goals as goal

pub put_contents-requires : goal.put_contents-requires
put_contents-requires c = search filing

pub put_all-requires : goal.put_all-requires
put_all-requires c = search filing

pub overflow_sub-h : goal.overflow_sub-h
overflow_sub-h c = search filing

pub put_outs-requires : goal.put_outs-requires
put_outs-requires c = search filing

pub out_start-points-requires : goal.out_start-points-requires
out_start-points-requires c = search filing

pub returns : goal.returns
returns c =
    file_written _ _ _ _ _ _ _ c.requires _ c.version_for-version.ensures _ _ _ _ _ _ _ c.put_contents.ensures (c.put_all.ensures.held, c.put_all.ensures.out) c.put_outs.ensures
    c.out_start-points.ensures c.put_first_points.ensures
