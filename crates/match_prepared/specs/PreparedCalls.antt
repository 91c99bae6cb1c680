-- The matching of a preparing and a main run as its caller sees it: the first refusal or none, and the lent buffer afterwards. The joint list is the
-- preparing plan's draws and coins, then the main plan's coins.
use Rattle.std.specs.Prelude.{ℕ, ◌+◌, ◌*◌, Bool, cond, ◌&&◌, List, [], ◌∷◌, ◌++◌, eqb, leb, ltb, length, get_or}
use Rattle.numbers.specs.Tables.{first_failing}
use Rattle.numbers.specs.Bytes.{width, numbers, bytes_of, holds_count, first_over}
use Rattle.plan.specs.Refusals.{Checked}
use Rattle.plan.specs.declared.Refusal.TheVariants as refusal
use Rattle.plan.specs.Refusals.{first_of, need, unless_found}
use Rattle.plan.specs.Plans.{Plan, input_count, coin_count, kind_count}
use Rattle.plan.specs.File.{plan_checks, plan_of}
use Rattle.plan_coalition.specs.Coalitions.{members, set_ok}
use Rattle.seat_messages.specs.Calls.{unless_refused}
use Rattle.run_protocol.specs.Ideal.{values}
use Rattle.run_protocol.specs.Preparing.{prepares}
use Rattle.match_agreement.specs.MatchCalls.{inputs_agree, outs_agree}
use Rattle.match_joint.specs.Joint.{matched_joint}

-- the checks of two plans, number by number, those of the first before those of the second
unfoldable pub in_turn : List Checked → List Checked → List Checked
in_turn [] ds = ds
in_turn (c ∷ cs) [] = c ∷ cs
in_turn (c ∷ cs) (d ∷ ds) = c ∷ d ∷ in_turn cs ds

unfoldable pub preparing_count : Plan → ℕ
preparing_count prep = input_count prep + coin_count prep

unfoldable pub joint_count : Plan → Plan → ℕ
joint_count prep plan = preparing_count prep + coin_count plan

-- number i of the joint list is below its own plan's p; and the first that is not
unfoldable pub joint_below : Plan → Plan → List ℕ → ℕ → Bool
joint_below prep plan cs i = ltb (get_or cs i 0) (cond (ltb i (preparing_count prep)) prep.p plan.p)

unfoldable pub joint_over : Plan → Plan → List ℕ → Checked
joint_over prep plan cs = unless_found refusal.CoinValue (first_failing (joint_below prep plan cs) (length cs))

-- refusal 29: the main plan spends triples, and the other makes them
unfoldable pub prepared_ok : Plan → Plan → Bool
prepared_ok prep plan = leb 1 (kind_count plan 7) && prepares prep plan

-- refusals 9 to 13, 29, 19, 21 and 22
unfoldable pub joint_checks : Plan → Plan → ℕ → List ℕ → List ℕ → List ℕ → ℕ → List Checked
joint_checks prep plan set xs ys coins room =
    need refusal.Coalition (set_ok prep set)
    ∷ need refusal.Coalition (set_ok plan set)
    ∷ need refusal.InputCount (holds_count (input_count plan) xs)
    ∷ need refusal.InputCount (holds_count (input_count plan) ys)
    ∷ unless_found refusal.InputValue (first_over plan.p (numbers xs))
    ∷ unless_found refusal.InputValue (first_over plan.p (numbers ys))
    ∷ need refusal.CoinCount (holds_count (joint_count prep plan) coins)
    ∷ joint_over prep plan (numbers coins)
    ∷ need refusal.Triples (prepared_ok prep plan)
    ∷ need refusal.BufferLength (eqb room (width * joint_count prep plan))
    ∷ inputs_agree plan set (numbers xs) (numbers ys)
    ∷ outs_agree plan set (values plan (numbers xs)) (values plan (numbers ys))
    ∷ []

unfoldable pub prepared_checks : List ℕ → List ℕ → ℕ → List ℕ → List ℕ → List ℕ → ℕ → List Checked
prepared_checks prep bs set xs ys coins room =
    in_turn (plan_checks prep) (plan_checks bs) ++ joint_checks (plan_of prep) (plan_of bs) set xs ys coins room

unfoldable pub prepared_answer : List ℕ → List ℕ → ℕ → List ℕ → List ℕ → List ℕ → ℕ → Checked
prepared_answer prep bs set xs ys coins room = first_of (prepared_checks prep bs set xs ys coins room)

-- the lent buffer afterwards
unfoldable pub prepared_after : List ℕ → List ℕ → ℕ → List ℕ → List ℕ → List ℕ → List ℕ → List ℕ
prepared_after prep bs set xs ys coins out =
    unless_refused (prepared_answer prep bs set xs ys coins (length out))
    (bytes_of (matched_joint (plan_of prep) (plan_of bs) (members set) (numbers xs) (numbers ys) (numbers coins))) out
