-- The matching's checks in parts: the set and the inputs, the coins and the buffer, and where the two lists agree.
use Rattle.std.specs.Prelude.{Ok, ℕ, ◌+◌, ◌*◌, ◌≡◌, Bool, true, not, ◌||◌, List, [], ◌∷◌, eqb, length, get_or}
use Rattle.numbers.specs.Bytes.{width, numbers, holds_count, first_over, all_below}
use Rattle.plan.specs.declared.Header.{Header}
use Rattle.plan.specs.declared.Output.{Output}
use Rattle.plan.specs.declared.Rule.TheVariants.{Truncation}
use Rattle.plan.specs.Refusals.{Checked}
use Rattle.plan.specs.declared.Refusal.TheVariants as refusal
use Rattle.plan.specs.Refusals.{need, unless_found}
use Rattle.plan.specs.Plans.{Plan, input_owners, input_count, coin_count, kind_count}
use Rattle.plan.specs.File.{plan_of}
use Rattle.plan_coalition.specs.Coalitions.{set_ok, in_set}
use Rattle.run_protocol.specs.Ideal.{values}
use Rattle.match_agreement.specs.MatchCalls.{inputs_agree, outs_agree}

-- refusals 9 to 11
unfoldable pub input_checks : Plan → ℕ → List ℕ → List ℕ → List Checked
input_checks plan set xs ys =
    need refusal.Coalition (set_ok plan set)
    ∷ need refusal.InputCount (holds_count (input_count plan) xs)
    ∷ need refusal.InputCount (holds_count (input_count plan) ys)
    ∷ unless_found refusal.InputValue (first_over plan.p (numbers xs))
    ∷ unless_found refusal.InputValue (first_over plan.p (numbers ys))
    ∷ []

-- refusals 12, 13, 29 and 19
unfoldable pub coin_checks : Plan → List ℕ → ℕ → List Checked
coin_checks plan coins room =
    need refusal.CoinCount (holds_count (coin_count plan) coins)
    ∷ unless_found refusal.CoinValue (first_over plan.p (numbers coins))
    ∷ need refusal.Triples (eqb (kind_count plan 7) 0)
    ∷ need refusal.BufferLength (eqb room (width * coin_count plan))
    ∷ []

-- refusals 21 and 22
unfoldable pub agree_checks : Plan → ℕ → List ℕ → List ℕ → List Checked
agree_checks plan set xs ys =
    inputs_agree plan set xs ys
    ∷ outs_agree plan set (values plan xs) (values plan ys)
    ∷ []

-- input i, party s's, is no member's, or the same in both lists
unfoldable pub same_input : ℕ → ℕ → List ℕ → List ℕ → ℕ → Bool
same_input set s xs ys i = not (in_set set s) || eqb (get_or xs i 0) (get_or ys i 0)

unfoldable pub input_agrees : Plan → ℕ → List ℕ → List ℕ → ℕ → Bool
input_agrees plan set xs ys i = same_input set (get_or (input_owners plan) i 0) xs ys i

-- the same of input j of a gate that takes its inputs from these parties, from place `next` of both lists on
unfoldable pub gate_agrees : ℕ → List ℕ → List ℕ → List ℕ → ℕ → ℕ → Bool
gate_agrees set owners xs ys next j = same_input set (get_or owners j 0) xs ys (next + j)

-- an out is no member's, or has the same value in both lists of values
unfoldable pub out_agrees : ℕ → List ℕ → List ℕ → Output → Bool
out_agrees set vs ws out = not (in_set set out.party) || eqb (get_or vs out.wire 0) (get_or ws out.wire 0)

unfoldable pub out_agrees_at : Plan → ℕ → List ℕ → List ℕ → ℕ → Bool
out_agrees_at plan set vs ws o = out_agrees set vs ws (get_or plan.outs o (record { party = 0; wire = 0 }))

-- what a matching takes, once its checks have passed; that the members' inputs agree, only a plan by truncation needs
pub record Matchable (bs : List ℕ) (h : Header) (set : ℕ) (xs ys coins : List ℕ) (room : ℕ) : Type 0 where
  pub set_ok_lem : set_ok (plan_of bs) set ≡ true
  pub first_below : all_below h.field.p (numbers xs) ≡ true
  pub second_below : all_below h.field.p (numbers ys) ≡ true
  pub coins_below : all_below h.field.p (numbers coins) ≡ true
  pub coins_long : length coins ≡ width * coin_count (plan_of bs)
  pub room_long : room ≡ width * coin_count (plan_of bs)
  pub no-spend : kind_count (plan_of bs) 7 ≡ 0
  pub agree : (plan_of bs).rule ≡ Truncation → inputs_agree (plan_of bs) set (numbers xs) (numbers ys) ≡ Ok tt
