use Rattle.run_dealings.proofs.RowLaws.{entries, row-given}
use Rattle.run_dealings.proofs.row_by.Goals as goal

pub fill_row-requires : goal.fill_row-requires
fill_row-requires g c = λ j l. c.requires.callable j (rw (entries c.args.n c.requires.n_bound) at l)

pub returns : goal.returns
returns g c =
    λ entry is.
    row-given entry c.args.n c.requires.n_bound _ (c.fill_row.ensures entry (λ j r l q. is j r (rw (entries c.args.n c.requires.n_bound) at l) q))
