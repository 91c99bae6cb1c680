use Rattle.bench_text.proofs.Appending.{list-line}
use Rattle.bench_text.proofs.Text.put_list_line.Goals as goal

pub returns-clause-put : goal.returns-clause-put
returns-clause-put c = list-line _ _ _ _ _ _ _ _ _ _ _ _ _ c.put_bytes.ensures.put c.put_field.ensures.put c.put_fields.ensures.put c.end_line.ensures.put
