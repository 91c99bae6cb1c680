-- The checks of two runs together in parts, and what the preparing plan's gates are compared with.
use Rattle.std.specs.Prelude.{Ok, Err, ℕ, ◌+◌, ◌*◌, ◌/◌, ◌%◌, ◌≡◌, Bool, true, cond, ◌&&◌, List, [], ◌∷◌, ◌++◌, eqb, leb, length, take, get_or}
use mathlib.Core.List.{flat_map}
use Rattle.numbers.specs.Tables.{tab}
use Rattle.numbers.specs.Bytes.{width, numbers, all_below, holds_count}
use Rattle.field.specs.Mod.{add}
use Rattle.plan.specs.declared.Gate.{Gate}
use Rattle.plan.specs.declared.Gate.TheVariants.{Input, Multiply, Random}
use Rattle.plan.specs.declared.Refusal.TheVariants as refusal
use Rattle.plan.specs.Refusals.{Checked, number_of, need}
use Rattle.plan.specs.Plans.{Plan, input_count}
use Rattle.plan.specs.File.{same_bytes, plan_of}
use Rattle.plan_coalition.specs.Coalitions.{set_ok}
use Rattle.run_protocol.specs.Preparing.{triple_gates, gate_numbers, prepares}
use Rattle.match_agreement.specs.MatchCalls.{inputs_agree}
use Rattle.match_prepared.specs.PreparedCalls.{joint_count, joint_over, prepared_ok}

-- of two answers of the checks of a plan the earlier one, at equal checks the first
unfoldable pub earlier : Checked → Checked → Checked
earlier (Ok tt) d = d
earlier (Err r) (Ok tt) = Err r
earlier (Err r) (Err q) = cond (leb (number_of r) (number_of q)) (Err r) (Err q)

-- refusals 12, 13, 29 and 19
unfoldable pub joint_coin_checks : Plan → Plan → List ℕ → ℕ → List Checked
joint_coin_checks prep plan coins room =
    need refusal.CoinCount (holds_count (joint_count prep plan) coins)
    ∷ joint_over prep plan (numbers coins)
    ∷ need refusal.Triples (prepared_ok prep plan)
    ∷ need refusal.BufferLength (eqb room (width * joint_count prep plan))
    ∷ []

-- ---- the preparing plan's gates
unfoldable pub same_gate : Gate → Gate → Bool
same_gate g h = same_bytes (gate_numbers g) (gate_numbers h)

-- gates 3k, 3k + 1 and 3k + 2 are two random wires and their product
unfoldable pub makes_at : List Gate → ℕ → Bool
makes_at gs k =
    same_gate (get_or gs (3 * k) (Input 0)) Random
    && (same_gate (get_or gs (3 * k + 1) (Input 0)) Random
    && same_gate (get_or gs (3 * k + 2) (Input 0)) (Multiply (3 * k) (3 * k + 1)))

-- the gates are those that make k triples
unfoldable pub made_as : List Gate → ℕ → Bool
made_as gs k = same_bytes (flat_map gate_numbers gs) (flat_map gate_numbers (flat_map triple_gates (tab (λ i. i) k)))

-- ---- the moved draws
-- a block is written from place k on, those before it stay, and `next` is the place after it
pub record Put (k : ℕ) (block old new : List ℕ) (next : ℕ) : Type 0 where
  pub place : next ≡ k + length block
  pub long : length new ≡ length old
  pub front : take next new ≡ take k old ++ block

-- draw i of n parties' draws, where party `low`'s for each random wire takes that wire's change
unfoldable pub moved_at : ℕ → ℕ → ℕ → List ℕ → List ℕ → ℕ → ℕ
moved_at p n low changes ds i = cond (eqb (i % n + 1) low) (add p (get_or ds i 0) (get_or changes (i / n) 0)) (get_or ds i 0)

-- what the joint matching takes, once its checks have passed
pub record Jointly (prep bs : List ℕ) (set : ℕ) (xs ys coins : List ℕ) (room : ℕ) : Type 0 where
  pub prepared : prepares (plan_of prep) (plan_of bs) ≡ true
  pub set_ok_first : set_ok (plan_of prep) set ≡ true
  pub set_ok_lem : set_ok (plan_of bs) set ≡ true
  pub first_long : length xs ≡ width * input_count (plan_of bs)
  pub second_long : length ys ≡ width * input_count (plan_of bs)
  pub first_below : all_below (plan_of bs).p (numbers xs) ≡ true
  pub second_below : all_below (plan_of bs).p (numbers ys) ≡ true
  pub coins_below : all_below (plan_of bs).p (numbers coins) ≡ true
  pub coins_long : length coins ≡ width * joint_count (plan_of prep) (plan_of bs)
  pub room_long : room ≡ width * joint_count (plan_of prep) (plan_of bs)
  pub agree : inputs_agree (plan_of bs) set (numbers xs) (numbers ys) ≡ Ok tt
