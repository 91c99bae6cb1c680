use lib.ListN.{length, get_or}
use Prim.Native.Nat.{◌<◌}
use mathlib.Core.Path.{ap, ◌∙◌}
use borrow.Author.Rules.{rules}
use Rattle.numbers.specs.Tables.{tab}
use Rattle.field.specs.Mod.{add}
use Rattle.run_dealings.proofs.TruncationLaws.{adding_rows}
use Rattle.run_dealings.proofs.add_rows.Goals as goal

pub returns : goal.returns
returns c =
    c.fill_row.ensures (λ j. add c.args.f.p (get_or c.args.left.now j 0) (get_or c.args.right.now j 0)) (λ j r l q. search rules)
    ∙ ap (tab (λ j. add c.args.f.p (get_or c.args.left.now j 0) (get_or c.args.right.now j 0))) c.requires.row_len

pub fill_row-requires : goal.fill_row-requires
fill_row-requires c = λ j l. let within : j < length c.args.left.now = rw c.requires.row_len at l in search (adding_rows, within)
