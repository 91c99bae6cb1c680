-- The coins that a gate takes.
--     coins_input .. coins_else      by its kind, and by the rule
-- Assumes nothing.
use Prim.Native.Nat.{ℕ, ◌+◌, ◌*◌, ◌≤◌}
use mathlib.Core.Path.{◌≡◌, refl, sym, ap, ap₂, ◌∙◌}
use mathlib.Core.List.{List, [], flat_map}
use native.Mathlib.Nat.{mul-le-mul}
use native.Mathlib.Omega.{arith}
use borrow.Author.Rules.{rules}
use lib.ListN.{length, length-replicate}
use mir.Syntax.{w64}
use mir.Val.{Fits}
use Rattle.plan.specs.declared.Gate.{Gate}
use Rattle.plan.specs.declared.Gate.TheVariants.{Input, Add, Scale, Offset, Multiply, Random, Spend}
use Rattle.plan.specs.declared.Rule.TheVariants.{Reduction, Truncation}
use Rattle.plan.specs.declared.Header.{Header}
use Rattle.plan.specs.Plans.{Plan, dealings_at, coin_owners_at}
use Rattle.plan.specs.File.{plan_of}
use Rattle.plan.specs.Planned.{Planned}
use Rattle.plan.proofs.Planned.{plan_t, plan_n, plan_rule, plan_dealers}
use Rattle.run_protocol.proofs.Owners.{length_blocks}
use Rattle.run_protocol.proofs.Dealt.{input-owners, reduction-owners, truncation-owners, random-owners}

-- ---- a gate by its kind
-- gates of the other kinds take none
pub no_owners : (plan : Plan) (x : Gate) → ((i : ℕ) → x ≡ Input i → ⊥) → ((a b : ℕ) → x ≡ Multiply a b → ⊥) → (x ≡ Random → ⊥) → coin_owners_at plan x ≡ []
unfolding coin_owners_at dealings_at flat_map
no_owners plan (Input i) n m r = absurd (n i refl)
no_owners plan (Add a b) n m r = refl
no_owners plan (Scale a c) n m r = refl
no_owners plan (Offset a c) n m r = refl
no_owners plan (Multiply a b) n m r = absurd (m a b refl)
no_owners plan Random n m r = absurd (r refl)
no_owners plan (Spend a b) n m r = refl

module _ (bs : List ℕ) (h : Header) (k : Planned bs h) where
  pub coins-at-input : (s : ℕ) → length (coin_owners_at (plan_of bs) (Input s)) ≡ h.t
  coins-at-input s = ap length (input-owners (plan_of bs) s) ∙ length-replicate {A = ℕ} (plan_of bs).t s ∙ plan_t k

  pub coins-at-reduction : (a b : ℕ) → h.rule ≡ Reduction → length (coin_owners_at (plan_of bs) (Multiply a b)) ≡ h.t * (h.t + h.t + 1)
  coins-at-reduction a b r =
      ap length (reduction-owners (plan_of bs) a b (plan_rule k ∙ r)) ∙ length_blocks (plan_of bs).t 0 _ ∙ ap₂ (λ (x y : ℕ). x * y) (plan_t k) (plan_dealers k)

  pub coins-at-truncation : (a b : ℕ) → h.rule ≡ Truncation → length (coin_owners_at (plan_of bs) (Multiply a b)) ≡ 3 * h.t * h.n
  coins-at-truncation a b r =
      ap length (truncation-owners (plan_of bs) a b (plan_rule k ∙ r)) ∙ length_blocks (3 * (plan_of bs).t) 0 _ ∙ ap₂ (λ (x y : ℕ). 3 * x * y) (plan_t k) (plan_n k)

  coins-at-random : length (coin_owners_at (plan_of bs) Random) ≡ h.t * h.n
  coins-at-random = ap length (random-owners (plan_of bs)) ∙ length_blocks (plan_of bs).t 0 _ ∙ ap₂ (λ (x y : ℕ). x * y) (plan_t k) (plan_n k)

  module _ (gate : Gate) where
    pub coins_input : (s : ℕ) → gate ≡ Input s → h.t ≡ length (coin_owners_at (plan_of bs) gate)
    coins_input s e = rw e (sym (coins-at-input s))

    pub coins_else : ((i : ℕ) → gate ≡ Input i → ⊥) → ((a b : ℕ) → gate ≡ Multiply a b → ⊥) → (gate ≡ Random → ⊥) → 0 ≡ length (coin_owners_at (plan_of bs) gate)
    coins_else i m r = sym (ap length (no_owners (plan_of bs) gate i m r))

    pub coins_reduction : (a b : ℕ) → gate ≡ Multiply a b → h.rule ≡ Reduction → h.t * (h.t + h.t + 1) ≡ length (coin_owners_at (plan_of bs) gate)
    coins_reduction a b e r = rw e (sym (coins-at-reduction a b r))

    pub coins_truncation : (a b : ℕ) → gate ≡ Multiply a b → h.rule ≡ Truncation → 3 * h.t * h.n ≡ length (coin_owners_at (plan_of bs) gate)
    coins_truncation a b e r = rw e (sym (coins-at-truncation a b r))

    pub coins_random : gate ≡ Random → h.t * h.n ≡ length (coin_owners_at (plan_of bs) gate)
    coins_random e = rw e (sym coins-at-random)

-- ---- how many they are
module _ (bs : List ℕ) (h : Header) (k : Planned bs h) where
  pub coins_few : h.t * (h.t + h.t + 1) ≤ 630
  coins_few = omega (arith, mul-le-mul {n₁ = h.t} {m₁ = h.t + h.t + 1} {n₂ = 14} {m₂ = 29} (omega (arith, k.threshold, k.n-high)) (omega (arith, k.threshold, k.n-high)))

  pub coins-fit : Fits w64 (h.t * (h.t + h.t + 1))
  coins-fit = record { fits = omega (arith, coins_few) }

  pub truncation-few : 3 * h.t * h.n ≤ 630
  truncation-few = omega (arith, mul-le-mul {n₁ = 3 * h.t} {m₁ = h.n} {n₂ = 42} {m₂ = 15} (omega (arith, k.threshold, k.n-high)) k.n-high)

  pub truncation-fits : Fits w64 (3 * h.t * h.n)
  truncation-fits = record { fits = omega (arith, truncation-few) }

  pub draws-few : h.t * h.n ≤ 630
  draws-few = omega (arith, mul-le-mul {n₁ = h.t} {m₁ = h.n} {n₂ = 14} {m₂ = 15} (omega (arith, k.threshold, k.n-high)) k.n-high)

  pub draws-fit : Fits w64 (h.t * h.n)
  draws-fit = record { fits = omega (arith, draws-few) }

-- As it is: answers name this set, since the check leaves their goals open by `using` alone.
pub ruleset taking_coins = (rules, coins_input, coins_reduction, coins_truncation, truncation-few, truncation-fits, coins_random, coins_else, coins_few, coins-fit, draws-few, draws-fit)
