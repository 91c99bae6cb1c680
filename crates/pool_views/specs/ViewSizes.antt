-- The size of the list of views, as the C interface answers it.
use Rattle.std.specs.Prelude.{ℕ, List}
use Rattle.plan.specs.File.{plan_of}
use Rattle.plan_codes.specs.Values.{value_of}
use Rattle.count_laws.specs.CountCalls.{count_size, count_size_answer}

unfoldable pub views_size : List ℕ → ℕ → ℕ
views_size bs set = value_of (count_size_answer bs set) (count_size (plan_of bs) set)
