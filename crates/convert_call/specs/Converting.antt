-- A plan of version 1 or 2 as one of version 3: the same n, t, p, gates, outs and points, in order.
use Rattle.std.specs.Prelude.{ℕ, List, [], ◌∷◌, ◌++◌, eqb, length, take, drop}
use Rattle.plan.specs.Refusals.{Checked}
use Rattle.plan.specs.declared.Refusal.TheVariants as refusal
use Rattle.plan.specs.Refusals.{first_of, need}
use Rattle.plan.specs.File.{version_at, between, plan_checks, plan_of}
use Rattle.plan_file.specs.Bodies.{file_as}
use Rattle.seat_messages.specs.Calls.{unless_refused}

-- the checks of a plan, but for 2: any version but 1 and 2 is refused
unfoldable pub old_checks : List ℕ → List Checked
old_checks bs = take 1 (plan_checks bs) ++ (need refusal.Version (between 1 2 (version_at bs)) ∷ drop 2 (plan_checks bs))

unfoldable pub converted_file : List ℕ → List ℕ
converted_file bs = file_as 3 (plan_of bs)

-- then 19
unfoldable pub convert_checks : List ℕ → ℕ → List Checked
convert_checks bs room = old_checks bs ++ (need refusal.BufferLength (eqb room (length (converted_file bs))) ∷ [])

unfoldable pub convert_answer : List ℕ → ℕ → Checked
convert_answer bs room = first_of (convert_checks bs room)

-- the lent buffer afterwards
unfoldable pub convert_after : List ℕ → List ℕ → List ℕ
convert_after bs out = unless_refused (convert_answer bs (length out)) (converted_file bs) out
