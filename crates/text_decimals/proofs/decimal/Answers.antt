use Rattle.text_decimals.proofs.Laws.{placing}
use Rattle.text_decimals.proofs.decimal.Goals.{then-limit-eq0-via-then-limit-eq0, then-limit-eq0-via-else-limit-eq0+then-is_digit}
use Rattle.text_decimals.proofs.decimal.Goals as goal

pub returns-then-not-is_digit : goal.returns-then-not-is_digit
returns-then-not-is_digit c = search placing

pub returns-then-b-ne48 : goal.returns-then-b-ne48
returns-then-b-ne48 c = search placing

pub returns-then-limit-eq0 : goal.returns-then-limit-eq0
returns-then-limit-eq0 c = elim c.then-limit-eq0.branch [ then-limit-eq0-via-then-limit-eq0 w ↦ search placing | then-limit-eq0-via-else-limit-eq0+then-is_digit w ↦ search placing ]

pub returns : goal.returns
returns c = search placing
