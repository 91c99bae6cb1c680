use Rattle.run_dealings.proofs.PolynomialLaws.{counting-terms}
use Rattle.run_dealings.proofs.terms.Goals as goal

pub returns-in-0-to-3 : goal.returns-in-0-to-3
returns-in-0-to-3 c = search counting-terms

pub returns-in-4-to-7 : goal.returns-in-4-to-7
returns-in-4-to-7 c = search counting-terms

pub returns-in_default : goal.returns-in_default
returns-in_default c = search counting-terms
