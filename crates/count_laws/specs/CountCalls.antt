-- Counting the views as its caller sees it: the first refusal or none, and the lent list afterwards.
use Rattle.std.specs.Prelude.{ℕ, ◌+◌, ◌*◌, Bool, ◌&&◌, List, [], ◌∷◌, ◌++◌, eqb, leb, length}
use Rattle.numbers.specs.Bytes.{width, numbers, bytes_of}
use Rattle.plan.specs.Refusals.{Checked}
use Rattle.plan.specs.declared.Refusal.TheVariants as refusal
use Rattle.plan.specs.Refusals.{first_of, need}
use Rattle.plan.specs.Plans.{Plan, input_count, kind_count}
use Rattle.plan.specs.File.{plan_checks, plan_of}
use Rattle.plan_coalition.specs.Coalitions.{members, set_ok}
use Rattle.seat_messages.specs.Calls.{unless_refused}
use Rattle.seat_admission.specs.Parts.{list_checks}
use Rattle.run_protocol.specs.Rounds.{view_count}
use Rattle.count_laws.specs.Settings.{member_coins, setting_count, views_of}
use Rattle.count_laws.specs.Rows.{rows_of, listed}

-- ---- the list: a row a setting
-- the numbers of a row: a view's, and its count
unfoldable pub row_width : Plan → ℕ → ℕ
row_width plan set = view_count plan (members set) + 1

unfoldable pub view_list : Plan → ℕ → List ℕ → List ℕ → List ℕ
view_list plan set xs cs = listed (setting_count plan set) (row_width plan set) (rows_of (views_of plan set xs cs))

-- in bytes
unfoldable pub count_size : Plan → ℕ → ℕ
count_size plan set = width * (row_width plan set * setting_count plan set)

-- ---- refusal 30: at most 65,536 settings, and no gate of kind 6 or 7
unfoldable pub settings_ok : Plan → ℕ → Bool
settings_ok plan set = leb (setting_count plan set) 65536 && eqb (kind_count plan 6 + kind_count plan 7) 0

-- ---- the call
-- refusals 10 to 13, of the members' coins alone
unfoldable pub member_checks : Plan → ℕ → List ℕ → List ℕ → List Checked
member_checks plan set xs cs =
    list_checks refusal.InputCount refusal.InputValue plan.p (input_count plan) xs
    ++ list_checks refusal.CoinCount refusal.CoinValue plan.p (member_coins plan set) cs

-- refusals 9 to 13, 30 and 19
unfoldable pub counting_checks : Plan → ℕ → List ℕ → List ℕ → ℕ → List Checked
counting_checks plan set xs cs room =
    need refusal.Coalition (set_ok plan set)
    ∷ member_checks plan set xs cs
    ++ (need refusal.Settings (settings_ok plan set)
    ∷ need refusal.BufferLength (eqb room (count_size plan set))
    ∷ [])

unfoldable pub count_checks : List ℕ → ℕ → List ℕ → List ℕ → ℕ → List Checked
count_checks bs set xs cs room = plan_checks bs ++ counting_checks (plan_of bs) set xs cs room

unfoldable pub count_answer : List ℕ → ℕ → List ℕ → List ℕ → ℕ → Checked
count_answer bs set xs cs room = first_of (count_checks bs set xs cs room)

-- the lent list afterwards
unfoldable pub count_after : List ℕ → ℕ → List ℕ → List ℕ → List ℕ → List ℕ
count_after bs set xs cs out =
    unless_refused (count_answer bs set xs cs (length out)) (bytes_of (view_list (plan_of bs) set (numbers xs) (numbers cs))) out

-- of these refusals, those that the plan and the set decide
unfoldable pub count_size_answer : List ℕ → ℕ → Checked
count_size_answer bs set =
    first_of (plan_checks bs ++ (need refusal.Coalition (set_ok (plan_of bs) set) ∷ need refusal.Settings (settings_ok (plan_of bs) set) ∷ []))
