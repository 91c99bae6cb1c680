-- The matching as its caller sees it: the first refusal or none, and the lent buffer afterwards.
use Rattle.std.specs.Prelude.{ℕ, ◌*◌, not, ◌||◌, List, [], ◌∷◌, ◌++◌, eqb, length, get_or}
use Rattle.numbers.specs.Tables.{first_failing}
use Rattle.numbers.specs.Bytes.{width, numbers, bytes_of, holds_count, first_over}
use Rattle.plan.specs.Refusals.{Checked}
use Rattle.plan.specs.declared.Refusal.TheVariants as refusal
use Rattle.plan.specs.Refusals.{first_of, need, unless_found}
use Rattle.plan.specs.Plans.{Plan, input_owners, input_count, coin_count, kind_count}
use Rattle.plan.specs.File.{plan_checks, plan_of}
use Rattle.plan_coalition.specs.Coalitions.{members, set_ok, in_set}
use Rattle.seat_messages.specs.Calls.{unless_refused}
use Rattle.run_protocol.specs.Ideal.{values}
use Rattle.match_privacy.specs.Matching.{matched_coins}

-- refusal 21: the first input of a member at which the two lists differ
unfoldable pub inputs_agree : Plan → ℕ → List ℕ → List ℕ → Checked
inputs_agree plan set xs ys =
    unless_found refusal.InputsDiffer
    (first_failing (λ i. not (in_set set (get_or (input_owners plan) i 0)) || eqb (get_or xs i 0) (get_or ys i 0)) (input_count plan))

-- refusal 22: the first out of a member at which the plan's values differ
unfoldable pub outs_agree : Plan → ℕ → List ℕ → List ℕ → Checked
outs_agree plan set vs ws =
    unless_found refusal.OutputsDiffer
    (first_failing (λ o. not (in_set set (get_or plan.outs o (record { party = 0; wire = 0 })).party) || eqb (get_or vs (get_or plan.outs o (record { party = 0; wire = 0 })).wire 0) (get_or ws (get_or plan.outs o (record { party = 0; wire = 0 })).wire 0))
    (length plan.outs))

-- refusals 9 to 13, 29, 19, 21 and 22: both counts of inputs come before both lists' numbers. A plan that spends triples is not matched alone
unfoldable pub pair_checks : Plan → ℕ → List ℕ → List ℕ → List ℕ → ℕ → List Checked
pair_checks plan set xs ys coins room =
    need refusal.Coalition (set_ok plan set)
    ∷ need refusal.InputCount (holds_count (input_count plan) xs)
    ∷ need refusal.InputCount (holds_count (input_count plan) ys)
    ∷ unless_found refusal.InputValue (first_over plan.p (numbers xs))
    ∷ unless_found refusal.InputValue (first_over plan.p (numbers ys))
    ∷ need refusal.CoinCount (holds_count (coin_count plan) coins)
    ∷ unless_found refusal.CoinValue (first_over plan.p (numbers coins))
    ∷ need refusal.Triples (eqb (kind_count plan 7) 0)
    ∷ need refusal.BufferLength (eqb room (width * coin_count plan))
    ∷ inputs_agree plan set (numbers xs) (numbers ys)
    ∷ outs_agree plan set (values plan (numbers xs)) (values plan (numbers ys))
    ∷ []

unfoldable pub match_answer : List ℕ → ℕ → List ℕ → List ℕ → List ℕ → ℕ → Checked
match_answer bs set xs ys coins room = first_of (plan_checks bs ++ pair_checks (plan_of bs) set xs ys coins room)

-- the lent buffer afterwards
unfoldable pub matched_after : List ℕ → ℕ → List ℕ → List ℕ → List ℕ → List ℕ → List ℕ
matched_after bs set xs ys coins out =
    unless_refused (match_answer bs set xs ys coins (length out))
    (bytes_of (matched_coins (plan_of bs) (members set) (numbers xs) (numbers ys) (numbers coins))) out
