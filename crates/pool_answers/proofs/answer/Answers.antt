use Rattle.std.proofs.Common.{rules, ◌∙◌}
use Rattle.pool_answers.proofs.Answers.{cut_answer}
use Rattle.pool_answers.proofs.answer.Goals as goal

pub returns : goal.returns
returns c = c.answer.ensures ∙ cut_answer _ c.args.r c.map.result c.map.ensures.cases (λ x y h. search rules)
