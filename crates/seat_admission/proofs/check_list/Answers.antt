use Rattle.std.proofs.Common.{rules}
use Rattle.seat_admission.proofs.CheckLaws.{list_over}
use Rattle.seat_admission.proofs.check_list.Goals as goal

pub returns-in-Some : goal.returns-in-Some
returns-in-Some g c =
    list_over c.args.few g.over_at c.args.p c.args.count _ c.count_is.result (search rules) (search rules) c.first_over.result (search rules) c.in-Some.i c.over.result (search rules) (c.requires.1.1 _ _ c.over.ensures)
