use Rattle.run_views.proofs.ViewLaws.{copying}
use Rattle.run_views.proofs.writer.Writer.put_part.Goals as goal

pub returns : goal.returns
returns c = search copying
