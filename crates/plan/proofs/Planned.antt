-- What a plan that passes is.
--     Passing, passing              the checks, one by one
--     passing_majority              2t < n where a gate multiplies
--     laid_gate .. gates_there      its gates stand in the file
--     planned, planned_read         the bounds of its contents
--     party-count .. out-of-plan    the plan's parts, by its contents
-- Assumes nothing.
use Rattle.std.proofs.Common.{None, Ok}
use mathlib.Core.Path.{◌≡◌, sym, ap, ◌∙◌}
use mathlib.Core.Bool.{true, cond, ◌&&◌}
use mathlib.Core.List.{List}
use Prim.Native.Nat.{ℕ, ◌+◌, ◌*◌, ◌<◌, ◌≤◌}
use native.Mathlib.Nat.{mul-le-mul_left}
use native.Mathlib.Omega.{arith}
use borrow.Author.Tests.{ltb-true, leb-true, eqb-true}
use lib.Dec.{eqb, leb, ltb}
use lib.ListN.{length, get_or}
use Rattle.numbers.specs.Tables.{tab, first_failing}
use Rattle.numbers.proofs.Tables.{length-tab, get_or-tab}
use Rattle.numbers.proofs.Searches.{nothing_passes}
use Rattle.numbers.proofs.Truth.{both_true}
use Rattle.field.specs.Prime.{is_prime}
use Rattle.plan.specs.declared.Gate.TheVariants.{Input}
use Rattle.plan.specs.declared.Header.{Header}
use Rattle.plan.specs.declared.Layout.{Layout}
use Rattle.plan.specs.declared.Refusal.TheVariants as refusal
use Rattle.plan.specs.Refusals.{first_of}
use Rattle.plan.specs.Plans.{multiplying, party_count, dealer_count}
use Rattle.plan.specs.File.{modulus_limit, version_at, n_at, t_at, p_at, gate_count_at, out_count_at, layout_of, field_at, gate_start, gate_place, out_place, point_place, between, parties_ok, threshold_ok, modulus_ok, gate_at, out_at, majority_ok, point_at, gate_kept, out_kept, majority_kept, point_kept, points_placed, layout_ok, majority_check, points_check, plan_checks, plan_check, plan_of}
use Rattle.plan.specs.Planned.{HeaderOf, Planned, Gated}
use Rattle.plan.proofs.Refusals.{passed_both, passed-need, passed_found}
use Rattle.plan.proofs.Layouts.{layout_rows}

-- ---- the checks of a plan that passes
pub record Passing (bs : List ℕ) : Type 0 where
  pub version : between 1 4 (version_at bs) ≡ true
  pub parties : parties_ok (n_at bs) ≡ true
  pub threshold : threshold_ok (n_at bs) (t_at bs) ≡ true
  pub modulus : modulus_ok (n_at bs) (p_at bs) ≡ true
  pub layout : layout_ok bs ≡ true
  pub gates : first_failing (gate_kept bs) (gate_count_at bs) ≡ None
  pub outs : first_failing (out_kept bs) (out_count_at bs) ≡ None
  pub majority : first_failing (majority_kept bs) (gate_count_at bs) ≡ None
  pub points : first_failing (point_kept bs) (n_at bs) ≡ None

pub passing : (bs : List ℕ) → plan_check bs ≡ (Ok tt) → Passing bs
unfolding plan_check plan_checks first_of majority_check points_check
passing bs h =
    let a = passed_both _ _ h in
    let b = passed_both _ _ a.1 in
    let c = passed_both _ _ b.1 in
    let d = passed_both _ _ c.1 in
    let e = passed_both _ _ d.1 in
    let f = passed_both _ _ e.1 in
    let g = passed_both _ _ f.1 in
    let o = passed_both _ _ g.1 in
    let m = passed_both _ _ o.1 in
    let q = passed_both _ _ m.1 in
    record {
      version = passed-need refusal.Version _ b.0;
      parties = passed-need refusal.Parties _ c.0;
      threshold = passed-need refusal.Threshold _ d.0;
      modulus = passed-need refusal.Modulus _ e.0;
      layout = passed-need refusal.Layout _ f.0;
      gates = passed_found refusal.GateRule _ g.0;
      outs = passed_found refusal.OutputRule _ o.0;
      majority = passed_found (λ g. refusal.Majority) _ m.0;
      points = passed_found (λ i. refusal.Points) _ q.0;
    }

-- a gate that multiplies has its majority
pub passing_majority : (bs : List ℕ) → Passing bs → (g : ℕ) → g < gate_count_at bs → multiplying (gate_at bs g) ≡ true → 2 * t_at bs < n_at bs
unfolding majority_kept majority_ok
passing_majority bs q g l m =
    let kept : cond (multiplying (gate_at bs g)) (ltb (2 * t_at bs) (n_at bs)) true ≡ true = nothing_passes (majority_kept bs) (gate_count_at bs) q.majority g l in
    ltb-true (2 * t_at bs) (n_at bs) (rw m at kept)

-- ---- its bounds
module _ (n p : ℕ) (h : modulus_ok n p ≡ true) where
  pub modulus_prime : is_prime p ≡ true
  modulus_prime = (both_true (ltb p modulus_limit) (is_prime p) (both_true (ltb p modulus_limit && is_prime p) (ltb n p) h).0).1

  pub modulus_small : p < 2147483648
  modulus_small = ltb-true p modulus_limit (both_true (ltb p modulus_limit) (is_prime p) (both_true (ltb p modulus_limit && is_prime p) (ltb n p) h).0).0

  pub modulus_above : n < p
  modulus_above = ltb-true n p (both_true (ltb p modulus_limit && is_prime p) (ltb n p) h).1

pub between-true : (a b x : ℕ) → between a b x ≡ true → (a ≤ x) × (x ≤ b)
unfolding between
between-true a b x h = let t = both_true (leb a x) (leb x b) h in (leb-true a x t.0, leb-true x b t.1)

pub record Laid (bs : List ℕ) : Type 0 where
  pub gates : between 1 1024 (gate_count_at bs) ≡ true
  pub outs : leb (out_count_at bs) 64 ≡ true
  pub long : length bs ≡ point_place bs (n_at bs)

pub laid : (bs : List ℕ) → layout_ok bs ≡ true → Laid bs
unfolding layout_ok points_placed
laid bs h =
    let a = both_true (eqb (get_or bs 7 0) 0) _ h in
    let b = both_true (eqb (field_at bs 1) _) _ a.1 in
    let c = both_true (between 1 1024 (gate_count_at bs)) _ b.1 in
    let d = both_true (eqb (field_at bs 3) (out_place bs 0)) _ c.1 in
    let e = both_true (leb (out_count_at bs) 64) _ d.1 in
    let f = both_true (cond (eqb (layout_of bs).point 0) true (eqb (field_at bs 5) (point_place bs 0))) (eqb (length bs) (point_place bs (n_at bs))) e.1 in
    record { gates = c.0; outs = e.0; long = eqb-true (length bs) (point_place bs (n_at bs)) f.1 }

-- a field of the file has at most four bytes
narrow_field : (bs : List ℕ) (l : Layout) → l ≡ layout_of bs → l.field ≤ 4
narrow_field bs l e = rw e (layout_rows (λ k. k.field ≤ 4) (omega arith) (omega arith) (omega arith) (version_at bs))

-- all gates stand in the file
pub laid_gate : (bs : List ℕ) (g : ℕ) → layout_ok bs ≡ true → g < gate_count_at bs → gate_place bs (g + 1) ≤ length bs
unfolding point_place out_place gate_place gate_start
laid_gate bs g h l =
    let m : (2 + 2 * (layout_of bs).field) * (g + 1) ≤ (2 + 2 * (layout_of bs).field) * gate_count_at bs = mul-le-mul_left (2 + 2 * (layout_of bs).field) (omega arith) in
    omega (arith, m, (laid bs h).long)

pub laid_within : (bs : List ℕ) (gates g : ℕ) (l : Layout) → layout_ok bs ≡ true → gates ≡ field_at bs 2 → g < gates → l ≡ layout_of bs → l.head ≤ 32 → Gated bs l (g + 1)
laid_within bs gates g l h e lt el hi =
    let most : gate_count_at bs ≤ 1024 = (between-true 1 1024 (gate_count_at bs) (laid bs h).gates).1 in
    record { is = el; high = hi; narrow = narrow_field bs l el; few = omega arith; long = laid_gate bs g h (omega arith) }

pub laid_gates : (bs : List ℕ) (count : ℕ) (l : Layout) → layout_ok bs ≡ true → count ≡ field_at bs 2 → l ≡ layout_of bs → l.head ≤ 32 → Gated bs l count
unfolding point_place out_place
laid_gates bs count l h e el hi =
    let most : gate_count_at bs ≤ 1024 = (between-true 1 1024 (gate_count_at bs) (laid bs h).gates).1 in
    record { is = el; high = hi; narrow = narrow_field bs l el; few = omega arith; long = rw e (omega (arith, (laid bs h).long)) }

pub planned : (bs : List ℕ) (x : Header) → plan_check bs ≡ (Ok tt) → HeaderOf bs x → Planned bs x
planned bs x h k =
    let q : Passing bs = passing bs h in
    let l : Laid bs = laid bs q.layout in
    let n = between-true 1 15 (n_at bs) q.parties in
    let g = between-true 1 1024 (gate_count_at bs) l.gates in
    let o : out_count_at bs ≤ 64 = leb-true (out_count_at bs) 64 l.outs in
    let threshold : t_at bs < n_at bs = ltb-true (t_at bs) (n_at bs) q.threshold in
    let above : n_at bs < p_at bs = modulus_above (n_at bs) (p_at bs) q.modulus in
    let small : p_at bs < 2147483648 = modulus_small (n_at bs) (p_at bs) q.modulus in
    record {
      passes = h;
      is = k;
      n_low = omega (arith, n.0);
      n-high = omega (arith, n.1);
      threshold = omega arith;
      p_low = omega arith;
      p-high = omega arith;
      gates_low = omega (arith, g.0);
      gates-high = omega (arith, g.1);
      outs-high = omega arith;
    }

-- ---- the plan by its contents
module _ (bs : List ℕ) where
  pub length_gates : length (plan_of bs).gates ≡ gate_count_at bs
  unfolding plan_of
  length_gates = length-tab (gate_at bs) (gate_count_at bs)

  pub length_outs : length (plan_of bs).outs ≡ out_count_at bs
  unfolding plan_of
  length_outs = length-tab (out_at bs) (out_count_at bs)

module _ {bs : List ℕ} {h : Header} (k : Planned bs h) where
  pub plan_t : (plan_of bs).t ≡ h.t
  unfolding plan_of
  plan_t = sym k.is.t

  pub plan_p : (plan_of bs).p ≡ h.field.p
  unfolding plan_of
  plan_p = sym k.is.p

  pub plan_points : (plan_of bs).points ≡ tab (point_at bs) h.n
  unfolding plan_of
  plan_points = ap (tab (point_at bs)) (sym k.is.n)

  pub plan_rule : (plan_of bs).rule ≡ h.rule
  unfolding plan_of
  plan_rule = sym k.is.rule

  pub plan_n : party_count (plan_of bs) ≡ h.n
  unfolding party_count
  plan_n = ap length plan_points ∙ length-tab (point_at bs) h.n

  pub plan_dealers : dealer_count (plan_of bs) ≡ h.t + h.t + 1
  unfolding dealer_count
  plan_dealers = rw plan_t

  pub plan_gates : length (plan_of bs).gates ≡ h.gates
  plan_gates = length_gates bs ∙ sym k.is.gates

  pub plan_outs : length (plan_of bs).outs ≡ h.outs
  plan_outs = length_outs bs ∙ sym k.is.outs

  pub gate_within : (l : Layout) (g : ℕ) → g < h.gates → l ≡ layout_of bs → l.head ≤ 32 → Gated bs l (g + 1)
  gate_within l g lt e hi = laid_within bs h.gates g l (passing bs k.passes).layout k.is.gates lt e hi

  pub gates_there : (l : Layout) → l ≡ layout_of bs → l.head ≤ 32 → Gated bs l h.gates
  gates_there l e hi = laid_gates bs h.gates l (passing bs k.passes).layout k.is.gates e hi

  pub plan_gate : (g : ℕ) → g < h.gates → get_or (plan_of bs).gates g (Input 0) ≡ gate_at bs g
  unfolding plan_of
  plan_gate g l =
      let e : g < gate_count_at bs = rw (← length_gates bs, plan_gates) l in
      get_or-tab (gate_at bs) (gate_count_at bs) g (Input 0) e

  pub plan_out : (o : ℕ) → o < h.outs → get_or (plan_of bs).outs o (record { party = 0; wire = 0 }) ≡ out_at bs o
  unfolding plan_of
  plan_out o l =
      let e : o < out_count_at bs = rw (← length_outs bs, plan_outs) l in
      get_or-tab (out_at bs) (out_count_at bs) o (record { party = 0; wire = 0 }) e
