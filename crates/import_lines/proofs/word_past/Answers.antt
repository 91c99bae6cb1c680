use Rattle.std.proofs.Common.{rules}
use Rattle.import_lines.proofs.Reading.{word_beyond, word_other, word_more, word_is}
use Rattle.import_lines.proofs.word_past.Goals as goal
use Rattle.import_lines.proofs.word_past.Goals.{then-s-at-via-then-s-at, then-s-at-via-else-s-at+then-not-starts_with}

pub returns-then-s-at : goal.returns-then-s-at
returns-then-s-at c =
    elim c.then-s-at.branch [
      | then-s-at-via-then-s-at w ↦ word_beyond _ _ _ w.if-s-at.true
      | then-s-at-via-else-s-at+then-not-starts_with w ↦ word_other _ _ _ _ w.if-s-at.false w.starts_with.ensures.value w.if-not-starts_with.true
    ]

pub returns-then-not-line_over : goal.returns-then-not-line_over
returns-then-not-line_over c =
    word_more _ _ _ _ c.if-s-at.false c.starts_with.ensures.value c.if-not-starts_with.false 3 c.told-word (c.starts_with.ensures.bound (search rules)) _ c.blanks.ensures _
    c.line_over.ensures c.if-not-line_over.true

pub returns : goal.returns
returns c =
    word_is _ _ _ _ c.if-s-at.false c.starts_with.ensures.value c.if-not-starts_with.false 3 c.told-word (c.starts_with.ensures.bound (search rules)) _ c.blanks.ensures _
    c.line_over.ensures c.if-not-line_over.false
