-- What the proofs use of a plan, and that a plan that passes has it.
--     Valid, valid            all that the protocol asks: 2t < n only where there is a gate of kind 5 or 7
--     Sized, sized            what its lists and calls need beside
--     points-apart            no two points are the same
--     some-dealt              there is an input or a random wire
--     few_spends              how many gates of a plan that passes spend a triple
--     none_or_majority        no gate of kinds 5 and 7, or 2t < n
-- Assumes nothing.
use Rattle.std.proofs.Common.{Option, Some, None, Ok}
use Prim.Native.Nat.{ℕ, zero, suc, ◌+◌, ◌-◌, ◌*◌, ◌%◌, ◌<◌, ◌≤◌}
use native.Mathlib.Nat.{mod-eq_of_lt}
use native.Mathlib.Omega.{arith}
use mathlib.Core.Path.{◌≡◌, refl, sym, ap, subst}
use mathlib.Core.Logic.{◌≢◌, ◌⊎◌, inl, inr}
use mathlib.Core.Bool.{Bool, true, false, cond, ◌||◌}
use mathlib.Core.List.{List, [], ◌∷◌}
use borrow.Author.Tests.{ltb-true, leb-true, eqb-false, not-true}
use lib.Dec.{T, eqb, ltb, leb}
use lib.ListN.{length, get_or}
use Rattle.numbers.specs.Tables.{tab, first_failing, count_where}
use Rattle.numbers.specs.Bytes.{limit}
use Rattle.numbers.proofs.Tables.{length-tab, get_or-tab}
use Rattle.numbers.proofs.Counts.{count_where-le-length}
use Rattle.numbers.proofs.Searches.{nothing_passes}
use Rattle.numbers.proofs.Truth.{both_true}
use Rattle.field.specs.Prime.{Prime}
use Rattle.field.specs.Field.{Ready}
use Rattle.field.proofs.Primes.{prime_sound}
use Rattle.sharing_laws.specs.Interp.{All, Distinct}
use Rattle.sharing_laws.proofs.Shares.{distinct-tab}
use Rattle.sharing_laws.proofs.Alls.{all-tab, all_at}
use Rattle.plan.specs.declared.Gate.{Gate}
use Rattle.plan.specs.declared.Gate.TheVariants.{Input, Add, Scale, Offset, Multiply, Random, Spend}
use Rattle.plan.specs.declared.Header.{Header}
use Rattle.plan.specs.Plans.{Plan, party_count, kind_of, is_kind, kind_count, multiplying}
use Rattle.plan.specs.File.{n_at, t_at, p_at, gate_count_at, out_count_at, gate_at, out_at, point_at, gate_ok, out_ok, spends_kept, gate_kept, out_kept, found_none, point_apart, point_kept, plan_check, plan_of}
use Rattle.plan.specs.Planned.{Planned}
use Rattle.plan.proofs.Planned.{Passing, passing, passing_majority, laid, between-true, modulus_prime, modulus_small, plan_t, plan_p, plan_n, plan_gates, plan_gate}

pub record Valid (plan : Plan) : Type 0 where
  pub prime : Prime plan.p
  pub threshold : plan.t < party_count plan
  -- 2t < n
  pub majority : (g : ℕ) → g < length plan.gates → multiplying (get_or plan.gates g (Input 0)) ≡ true → plan.t + plan.t < party_count plan
  pub distinct : Distinct plan.p plan.points
  pub nonzero : All (λ x. x % plan.p ≢ 0) plan.points
  pub small : All (λ x. x < plan.p) plan.points
  pub gates : (g : ℕ) → g < length plan.gates → gate_ok (party_count plan) plan.p g (get_or plan.gates g (Input 0)) ≡ true
  pub outs : (o : ℕ) → o < length plan.outs → out_ok (party_count plan) (length plan.gates) (get_or plan.outs o (record { party = 0; wire = 0 })) ≡ true

-- an element and a call's number have room in a list that is lent; the gates are its own and those of its preparing plan
pub record Sized (plan : Plan) : Type 0 where
  pub few : plan.p ≤ limit
  pub short : length plan.gates + 3 * kind_count plan 7 ≤ 4096

-- ---- no two points are the same
apart_from : (p : ℕ) (xs : List ℕ) → Distinct p xs → (i j : ℕ) → j < i → i < length xs → get_or xs i 0 ≢ get_or xs j 0
apart_from p [] d i j l m e = omega arith
apart_from p (x ∷ xs) d zero j l m e = omega arith
apart_from p (x ∷ xs) d (suc i) zero l m e = all_at (λ y. y % p ≢ x % p) xs i d.0 (omega arith) (ap (λ (y : ℕ). y % p) e)
apart_from p (x ∷ xs) d (suc i) (suc j) l m e = apart_from p xs d.1 i j (omega arith) (omega arith) e

pub points-apart : (plan : Plan) → Valid plan → (i j : ℕ) → j < i → i < party_count plan → get_or plan.points i 0 ≢ get_or plan.points j 0
unfolding party_count
points-apart plan valid = apart_from plan.p plan.points valid.distinct

-- ---- a plan that passes
none_found : (f : Option ℕ) → found_none f ≡ true → f ≡ None
unfolding found_none
none_found (Some i) e = let z : ◌≡◌ {A = ℕ} 0 1 = cc in absurd (omega arith)
none_found None e = refl

-- the first gate reads no wire
first-gate : (n p : ℕ) (x : Gate) (gs : List Gate) → gate_ok n p 0 x ≡ true → 1 ≤ count_where (is_kind 1) (x ∷ gs) + count_where (is_kind 6) (x ∷ gs)
unfolding gate_ok count_where is_kind kind_of
first-gate n p (Input s) gs e = omega arith
first-gate n p (Add a b) gs e = absurd (omega (arith, ltb-true a 0 (both_true (ltb a 0) (ltb b 0) e).0))
first-gate n p (Scale a c) gs e = absurd (omega (arith, ltb-true a 0 (both_true (ltb a 0) (ltb c p) e).0))
first-gate n p (Offset a c) gs e = absurd (omega (arith, ltb-true a 0 (both_true (ltb a 0) (ltb c p) e).0))
first-gate n p (Multiply a b) gs e = absurd (omega (arith, ltb-true a 0 (both_true (ltb a 0) (ltb b 0) e).0))
first-gate n p Random gs e = omega arith
first-gate n p (Spend a b) gs e = absurd (omega (arith, ltb-true a 0 (both_true (ltb a 0) (ltb b 0) e).0))

module _ (bs : List ℕ) (h : plan_check bs ≡ (Ok tt)) where
  checks : Passing bs
  checks = passing bs h

  point_parts : (i : ℕ) → i < n_at bs → (0 < point_at bs i) × (point_at bs i < p_at bs) × (found_none (first_failing (point_apart bs i) i) ≡ true)
  unfolding point_kept
  point_parts i l =
      let a = both_true (ltb 0 (point_at bs i)) _ (nothing_passes (point_kept bs) (n_at bs) checks.points i l) in
      let b = both_true (ltb (point_at bs i) (p_at bs)) _ a.1 in
      (ltb-true 0 (point_at bs i) a.0, ltb-true (point_at bs i) (p_at bs) b.0, b.1)

  apart : (i j : ℕ) → j < i → i < n_at bs → point_at bs i ≢ point_at bs j
  unfolding point_apart
  apart i j l m e =
      eqb-false (point_at bs j) (point_at bs i)
      (not-true (eqb (point_at bs j) (point_at bs i))
      (nothing_passes (point_apart bs i) i (none_found (first_failing (point_apart bs i) i) (point_parts i m).2) j l)) (sym e)

  below_n : t_at bs < n_at bs
  below_n = ltb-true (t_at bs) (n_at bs) checks.threshold

  kept_parts : (g : ℕ) → g < gate_count_at bs → (gate_ok (n_at bs) (p_at bs) g (gate_at bs g) ≡ true) × (spends_kept bs g ≡ true)
  unfolding gate_kept
  kept_parts g l = both_true (gate_ok (n_at bs) (p_at bs) g (gate_at bs g)) (spends_kept bs g) (nothing_passes (gate_kept bs) (gate_count_at bs) checks.gates g l)

  gates-kept : (g : ℕ) → g < gate_count_at bs → gate_ok (n_at bs) (p_at bs) g (gate_at bs g) ≡ true
  gates-kept g l = (kept_parts g l).0

  outs-kept : (o : ℕ) → o < out_count_at bs → out_ok (n_at bs) (gate_count_at bs) (out_at bs o) ≡ true
  unfolding out_kept
  outs-kept o l = nothing_passes (out_kept bs) (out_count_at bs) checks.outs o l

  -- a plan that passes is valid
  pub valid : Valid (plan_of bs)
  unfolding plan_of party_count
  valid =
      record {
        prime = prime_sound (p_at bs) (subst T (sym (modulus_prime (n_at bs) (p_at bs) checks.modulus)) tt);
        threshold = rw (length-tab (point_at bs) (n_at bs)) below_n;
        majority =
            λ g l m.
            let k : g < gate_count_at bs = rw (← length-tab (gate_at bs) (gate_count_at bs)) l in
            let is : multiplying (gate_at bs g) ≡ true = rw (get_or-tab (gate_at bs) (gate_count_at bs) g (Input 0) k) at m in
            rw (length-tab (point_at bs) (n_at bs)) (omega (arith, passing_majority bs checks g k is));
        distinct = distinct-tab (p_at bs) (point_at bs) (n_at bs) (λ i l. (point_parts i l).1) apart;
        nonzero =
            all-tab (λ x. x % p_at bs ≢ 0) (point_at bs) (n_at bs)
            (λ i l e. omega (arith, (point_parts i l).0, mod-eq_of_lt {n = point_at bs i} {m = p_at bs} (point_parts i l).1));
        small = all-tab (λ x. x < p_at bs) (point_at bs) (n_at bs) (λ i l. (point_parts i l).1);
        gates =
            λ g l.
            let k : g < gate_count_at bs = rw (← length-tab (gate_at bs) (gate_count_at bs)) l in
            rw (length-tab (point_at bs) (n_at bs), get_or-tab (gate_at bs) (gate_count_at bs) g (Input 0) k) (gates-kept g k);
        outs =
            λ o l.
            let k : o < out_count_at bs = rw (← length-tab (out_at bs) (out_count_at bs)) l in
            rw (length-tab (point_at bs) (n_at bs), length-tab (gate_at bs) (gate_count_at bs), get_or-tab (out_at bs) (out_count_at bs) o (record { party = 0; wire = 0 }) k)
            (outs-kept o k);
      }

  -- its lists have room
  pub sized : Sized (plan_of bs)
  unfolding plan_of kind_count
  sized =
      record {
        few = omega (arith, modulus_small (n_at bs) (p_at bs) checks.modulus);
        short =
            omega (
              arith,
              length-tab (gate_at bs) (gate_count_at bs),
              (between-true 1 1024 (gate_count_at bs) (laid bs checks.layout).gates).1,
              count_where-le-length (is_kind 7) (tab (gate_at bs) (gate_count_at bs)),
            );
      }

  some-gates : 1 ≤ gate_count_at bs
  some-gates = (between-true 1 1024 (gate_count_at bs) (laid bs checks.layout).gates).0

  -- something is dealt: the first gate is an input or a random wire
  pub some-dealt : 1 ≤ kind_count (plan_of bs) 1 + kind_count (plan_of bs) 6
  unfolding plan_of kind_count tab
  some-dealt = by (gate_count_at bs) some-gates (gates-kept 0 some-gates)
    where
      by : (c : ℕ) → 1 ≤ c → gate_ok (n_at bs) (p_at bs) 0 (gate_at bs 0) ≡ true → 1 ≤ count_where (is_kind 1) (tab (gate_at bs) c) + count_where (is_kind 6) (tab (gate_at bs) c)
      by zero l e = absurd (omega arith)
      by (suc c) l e = first-gate (n_at bs) (p_at bs) (gate_at bs 0) (tab (λ k. gate_at bs (suc k)) c) e

  -- the last gate's count is that of all
  pub few_spends : kind_count (plan_of bs) 7 ≤ 341
  unfolding plan_of kind_count spends_kept
  few_spends =
      let last : suc (gate_count_at bs - 1) ≡ gate_count_at bs = omega (arith, some-gates) in
      let kept : leb (count_where (is_kind 7) (tab (gate_at bs) (gate_count_at bs))) 341 ≡ true = rw last at (kept_parts (gate_count_at bs - 1) (omega (arith, some-gates))).1 in
      leb-true _ 341 kept

-- ---- no gate of kinds 5 and 7, or 2t < n
abbrev NoneMultiplies : List Gate → Type 0
NoneMultiplies gs = (count_where (is_kind 5) gs ≡ 0) × (count_where (is_kind 7) gs ≡ 0)

none_or : (P : Type 0) (gs : List Gate) → ((g : ℕ) → g < length gs → multiplying (get_or gs g (Input 0)) ≡ true → P) → NoneMultiplies gs ⊎ P
unfolding count_where multiplying
none_or P [] h = inl (refl, refl)
none_or P (x ∷ gs) h = pick (is_kind 5 x) (is_kind 7 x) (h 0 (omega arith)) (none_or P gs (λ g l. h (suc g) (omega arith)))
  where
    pick :
        (t s : Bool) → ((t || s) ≡ true → P) → NoneMultiplies gs ⊎ P
        → ((cond t (suc (count_where (is_kind 5) gs)) (count_where (is_kind 5) gs) ≡ 0) × (cond s (suc (count_where (is_kind 7) gs)) (count_where (is_kind 7) gs) ≡ 0)) ⊎ P
    pick true s m r = inr (m refl)
    pick false true m r = inr (m refl)
    pick false false m r = r

pub none_or_majority : (plan : Plan) → Valid plan → ((kind_count plan 5 ≡ 0) × (kind_count plan 7 ≡ 0)) ⊎ (plan.t + plan.t < party_count plan)
unfolding kind_count
none_or_majority plan valid = none_or (plan.t + plan.t < party_count plan) plan.gates valid.majority

-- ---- as the code asks it
module _ (bs : List ℕ) (h : Header) (k : Planned bs h) where
  pub planned-ready : Ready h.field.p
  planned-ready = record { prime = rw (← plan_p k) (valid bs k.passes).prime; small = omega (arith, k.p-high) }

  pub gate-kept : (g : ℕ) (gate : Gate) → g < h.gates → gate ≡ gate_at bs g → gate_ok h.n h.field.p g gate ≡ true
  gate-kept g gate l e =
      rw (e, ← plan_n k, ← plan_p k, ← plan_gate k g l) ((valid bs k.passes).gates g (rw (plan_gates k) l))

  pub planned_or : (kind_count (plan_of bs) 5 ≡ 0) ⊎ (2 * h.t < h.n)
  planned_or = by (none_or_majority (plan_of bs) (valid bs k.passes))
    where
      by : ((kind_count (plan_of bs) 5 ≡ 0) × (kind_count (plan_of bs) 7 ≡ 0)) ⊎ ((plan_of bs).t + (plan_of bs).t < party_count (plan_of bs)) → (kind_count (plan_of bs) 5 ≡ 0) ⊎ (2 * h.t < h.n)
      by (inl e) = inl e.0
      by (inr l) = inr (omega (arith, plan_t k, plan_n k))

  -- 2t < n where a gate of the plan multiplies
  pub gate_majority : (g : ℕ) (gate : Gate) → g < h.gates → gate ≡ gate_at bs g → multiplying gate ≡ true → 2 * h.t < h.n
  gate_majority g gate l e m =
      let is : multiplying (get_or (plan_of bs).gates g (Input 0)) ≡ true = rw (plan_gate k g l, ← e) m in
      omega (arith, (valid bs k.passes).majority g (rw (plan_gates k) l) is, plan_t k, plan_n k)

-- a gate's constant is an element
module _ (n p g : ℕ) (gate : Gate) (ok : gate_ok n p g gate ≡ true) where
  pub scale_constant : (a c : ℕ) → gate ≡ Scale a c → c < p
  unfolding gate_ok
  scale_constant a c e = ltb-true c p (both_true (ltb a g) (ltb c p) (rw e at ok)).1

  pub offset_constant : (a c : ℕ) → gate ≡ Offset a c → c < p
  unfolding gate_ok
  offset_constant a c e = ltb-true c p (both_true (ltb a g) (ltb c p) (rw e at ok)).1
