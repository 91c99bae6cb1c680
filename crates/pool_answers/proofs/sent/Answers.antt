use Rattle.std.proofs.Common.{rules, ◌∙◌}
use Rattle.pool_answers.proofs.Answers.{same_answer}
use Rattle.pool_answers.proofs.sent.Goals as goal

pub returns : goal.returns
returns c = c.answer.ensures ∙ same_answer _ c.args.b c.map.result c.map.ensures.cases (λ x y h. search rules)
