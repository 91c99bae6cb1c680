-- The file of a plan that passes, written in a version that has points and the plan's rule, passes and has the same plan.
--     same-plan     it reads back as the plan
--     same-passes   no refusal falls on it
-- Assumes nothing.
use Rattle.std.proofs.Common.{None, Ok}
use Prim.Native.Nat.{ℕ, suc, ◌<◌, ◌≤◌}
use mathlib.Core.Path.{◌≡◌, refl, sym, ap, ◌∙◌}
use mathlib.Core.Bool.{Bool, true, false, cond, ◌&&◌}
use mathlib.Core.List.{List}
use native.Mathlib.Omega.{arith}
use borrow.Author.Tests.{le-leb, leb-true, eqb-true, eqb-false, ne_eqb}
use lib.Dec.{eqb, leb}
use lib.ListN.{length, take, get_or}
use Rattle.numbers.specs.Tables.{first_failing, count_where}
use Rattle.numbers.proofs.Tables.{length-tab, get_or-tab, tab-ext}
use Rattle.numbers.proofs.Bytes.{span}
use Rattle.numbers.proofs.Searches.{first_ext}
use Rattle.sharing_laws.proofs.Alls.{all_at}
use Rattle.plan.specs.declared.Gate.{Gate}
use Rattle.plan.specs.declared.Gate.TheVariants.{Input}
use Rattle.plan.specs.declared.Rule.TheVariants.{Reduction, Truncation}
use Rattle.plan.specs.declared.Layout.{Layout}
use Rattle.plan.specs.declared.Refusal.{Refusal}
use Rattle.plan.specs.declared.Refusal.TheVariants as refusal
use Rattle.plan.specs.Refusals.{unless_found}
use Rattle.plan.specs.Plans.{Plan, party_count, is_kind}
use Rattle.plan.specs.File.{magic, same_bytes, between, rule_for, layout_for, gate_start, version_at, n_at, t_at, p_at, gate_count_at, out_count_at, gate_at, out_at, point_at, gate_from, spends_kept, gate_kept, out_kept, majority_kept, point_apart, point_kept, layout_ok, majority_check, points_check, plan_checks, plan_check, plan_of}
use Rattle.plan.proofs.Refusals.{need-true, next_passes, first_of-nil}
use Rattle.plan.proofs.Layouts.{layout_rows}
use Rattle.plan.proofs.Planned.{Passing, passing, laid, between-true, length_gates, length_outs}
use Rattle.plan.proofs.Valid.{Valid, valid}
use Rattle.plan_file.specs.Bodies.{started, contents, place_in, out_start, file_size, file_as, field_limit}
use Rattle.plan_file.proofs.Writing.{limit_span}
use Rattle.plan_file.proofs.Files.{Readable, gate-readable, Roomy, a_room, b_room, out_parts, field_room, file_long, version_back, n_back, t_back, p_back, gates-back, outs_back, layout-back, gate-back, out-back, point-back, plan-back}

module _ (bs : List ℕ) (passes : plan_check bs ≡ (Ok tt)) (v : ℕ) (known : between 2 4 v ≡ true) (rule : (plan_of bs).rule ≡ rule_for v) (fits : p_at bs < field_limit v) where
  abbrev plan : Plan
  plan = plan_of bs

  abbrev file : List ℕ
  file = file_as v plan

  checks : Passing bs
  checks = passing bs passes

  holds : Valid plan
  holds = valid bs passes

  version : (2 ≤ v) × (v ≤ 4)
  version = between-true 2 4 v known

  count : party_count plan ≡ n_at bs
  unfolding plan_of party_count
  count = length-tab (point_at bs) (n_at bs)

  n-small : n_at bs ≤ 15
  n-small = (between-true 1 15 (n_at bs) checks.parties).1

  gates_few : length plan.gates ≤ 1024
  gates_few = omega (arith, length_gates bs, (between-true 1 1024 (gate_count_at bs) (laid bs checks.layout).gates).1)

  outs_few : length plan.outs ≤ 64
  outs_few = omega (arith, length_outs bs, leb-true (out_count_at bs) 64 (laid bs checks.layout).outs)

  -- such a version has points, as wide as its fields
  points-wide : (layout_for v).point ≡ (layout_for v).field
  unfolding layout_for
  points-wide = rw (ne_eqb v 1 (λ e. omega (arith, version.0))) (pick (eqb v 2))
    where
      pick : (b : Bool) → (cond {A = Layout} b (record { head = 20; field = 2; point = 2 }) (record { head = 32; field = 4; point = 4 })).point ≡ (cond {A = Layout} b (record { head = 20; field = 2; point = 2 }) (record { head = 32; field = 4; point = 4 })).field
      pick true = refl
      pick false = refl

  p-fits : plan.p < span (layout_for v).field
  unfolding plan_of
  p-fits = rw (limit_span v) at fits

  roomy : Roomy v plan
  roomy =
      let m : ℕ = span (layout_for v).field in
      let room : 65536 ≤ m = field_room v in
      record {
        readable = read-gates;
        a_small = λ g l. a_room (party_count plan) plan.p g m (omega (arith, count, n-small)) (omega (arith, p-fits)) (omega (arith, gates_few)) (get_or plan.gates g (Input 0)) (holds.gates g l);
        b_small = λ g l. b_room (party_count plan) plan.p g m (omega (arith, count, n-small)) (omega (arith, p-fits)) (omega (arith, gates_few)) (get_or plan.gates g (Input 0)) (holds.gates g l);
        wire_small = λ o l. omega (arith, gates_few, (out_parts (party_count plan) (length plan.gates) (get_or plan.outs o (record { party = 0; wire = 0 })) (holds.outs o l)).1);
        point_small = λ i l s. rw points-wide (omega (arith, p-fits, all_at (λ x. x < plan.p) plan.points i holds.small l));
        first = λ e. absurd (none (sym points-wide ∙ e));
      }
    where
      read-gates : (g : ℕ) → g < length (plan_of bs).gates → Readable (get_or (plan_of bs).gates g (Input 0))
      read-gates g l = unfold plan_of in rw (get_or-tab (gate_at bs) (gate_count_at bs) g (Input 0) (rw (length_gates bs) at l)) (unfold gate_at in unfold gate_from in gate-readable _ _ _ _)

      none : (layout_for v).field ≡ 0 → ⊥
      none = layout_rows (λ l. l.field ≡ 0 → ⊥) (λ e. omega arith) (λ e. omega arith) (λ e. omega arith) v

  pub same-plan : plan_of file ≡ plan_of bs
  same-plan = plan-back v plan gates_few outs_few roomy rule

  -- ---- its contents
  n-same : n_at file ≡ n_at bs
  n-same = n_back v plan ∙ count

  t_same : t_at file ≡ t_at bs
  unfolding plan_of
  t_same = t_back v plan

  p-same : p_at file ≡ p_at bs
  unfolding plan_of
  p-same = p_back v plan

  gates_same : gate_count_at file ≡ gate_count_at bs
  gates_same = gates-back v plan gates_few outs_few ∙ length_gates bs

  outs_same : out_count_at file ≡ out_count_at bs
  outs_same = outs_back v plan gates_few outs_few ∙ length_outs bs

  gate_same : (g : ℕ) → g < gate_count_at bs → gate_at file g ≡ gate_at bs g
  gate_same g l = gate-back v plan gates_few outs_few roomy g (rw (length_gates bs) l) ∙ (unfold plan_of in get_or-tab (gate_at bs) (gate_count_at bs) g (Input 0) l)

  out-same : (o : ℕ) → o < out_count_at bs → out_at file o ≡ out_at bs o
  out-same o l = out-back v plan gates_few outs_few roomy o (rw (length_outs bs) l) ∙ (unfold plan_of in get_or-tab (out_at bs) (out_count_at bs) o (record { party = 0; wire = 0 }) l)

  point-same : (i : ℕ) → i < n_at bs → point_at file i ≡ point_at bs i
  point-same i l =
      let long : length plan.points ≡ n_at bs = unfold party_count in count in
      point-back v plan gates_few outs_few roomy i (rw long l) ∙ (unfold plan_of in get_or-tab (point_at bs) (n_at bs) i 0 l)

  -- ---- its checks
  begun : (leb 18 (length file) && same_bytes (take 4 file) magic) ≡ true
  unfolding file_size out_start place_in gate_start
  begun =
      let low : 18 ≤ (layout_for v).head = layout_rows (λ l. 18 ≤ l.head) (omega arith) (omega arith) (omega arith) v in
      rw (le-leb 18 (length file) (omega (arith, file_long v plan))) letters
    where
      letters : same_bytes (take 4 file) magic ≡ true
      letters = unfold file_as in unfold contents in unfold started in unfold magic in unfold same_bytes in refl

  -- the one version with the rule of truncation is that of the plan
  fourth : v ≡ 4 → version_at bs ≡ v
  unfolding plan_of
  fourth e = by (eqb (version_at bs) 4) refl (rule ∙ ap rule_for e)
    where
      by : (b : Bool) → eqb (version_at bs) 4 ≡ b → cond b Truncation Reduction ≡ Truncation → version_at bs ≡ v
      by true q r = eqb-true (version_at bs) 4 q ∙ sym e
      by false q r = let z : ◌≡◌ {A = ℕ} 0 1 = cc in absurd (omega arith)

  versioned : between 1 4 (version_at file) ≡ true
  versioned = rw (version_back v plan) (by (eqb v 2) (eqb v 3) refl refl)
    where
      by : (a b : Bool) → eqb v 2 ≡ a → eqb v 3 ≡ b → between 1 4 v ≡ true
      by true b e f = rw (eqb-true v 2 e) (unfold between in refl)
      by false true e f = rw (eqb-true v 3 f) (unfold between in refl)
      by false false e f = rw (← fourth (omega (arith, version.0, version.1, eqb-false v 2 e, eqb-false v 3 f))) checks.version

  laid-file : layout_ok file ≡ true
  laid-file = layout-back v plan gates_few outs_few ∙ rw (length_gates bs, length_outs bs, (laid bs checks.layout).gates, (laid bs checks.layout).outs)

  spends-same : (g : ℕ) → g < gate_count_at bs → spends_kept file g ≡ spends_kept bs g
  unfolding spends_kept
  spends-same g l = ap (λ (gs : List Gate). leb (count_where (is_kind 7) gs) 341) (tab-ext (gate_at file) (gate_at bs) (suc g) (λ i m. gate_same i (omega arith)))

  gates-kept : first_failing (gate_kept file) (gate_count_at file) ≡ None
  gates-kept =
      ap (first_failing (gate_kept file)) gates_same
      ∙ first_ext (gate_kept file) (gate_kept bs) (gate_count_at bs) (λ g l. unfold gate_kept in rw (n-same, p-same, gate_same g l, spends-same g l)) ∙ checks.gates

  outs-kept : first_failing (out_kept file) (out_count_at file) ≡ None
  outs-kept =
      ap (first_failing (out_kept file)) outs_same
      ∙ first_ext (out_kept file) (out_kept bs) (out_count_at bs) (λ o l. unfold out_kept in rw (n-same, gates_same, out-same o l)) ∙ checks.outs

  majority-kept : first_failing (majority_kept file) (gate_count_at file) ≡ None
  majority-kept =
      ap (first_failing (majority_kept file)) gates_same
      ∙ first_ext (majority_kept file) (majority_kept bs) (gate_count_at bs) (λ g l. unfold majority_kept in rw (n-same, t_same, gate_same g l)) ∙ checks.majority

  point-kept : (i : ℕ) → i < n_at bs → point_kept file i ≡ point_kept bs i
  unfolding point_kept
  point-kept i l =
      rw (
        p-same,
        point-same i l,
        first_ext (point_apart file i) (point_apart bs i) i (λ j m. unfold point_apart in rw (point-same i l, point-same j (omega arith))),
      )

  points_kept : first_failing (point_kept file) (n_at file) ≡ None
  points_kept = ap (first_failing (point_kept file)) n-same ∙ first_ext (point_kept file) (point_kept bs) (n_at bs) point-kept ∙ checks.points

  pub same-passes : plan_check file ≡ (Ok tt)
  unfolding plan_check plan_checks majority_check points_check
  same-passes =
      next_passes _ _ (need-true refusal.Magic _ begun)
      (next_passes _ _ (need-true refusal.Version _ versioned)
      (next_passes _ _ (need-true refusal.Parties _ (rw n-same checks.parties))
      (next_passes _ _ (need-true refusal.Threshold _ (rw (n-same, t_same) checks.threshold))
      (next_passes _ _ (need-true refusal.Modulus _ (rw (n-same, p-same) checks.modulus))
      (next_passes _ _ (need-true refusal.Layout _ laid-file)
      (next_passes _ _ (ap (unless_found refusal.GateRule) gates-kept ∙ none refusal.GateRule)
      (next_passes _ _ (ap (unless_found refusal.OutputRule) outs-kept ∙ none refusal.OutputRule)
      (next_passes _ _ (ap (unless_found (λ g. refusal.Majority)) majority-kept ∙ none (λ g. refusal.Majority))
      (next_passes _ _ (ap (unless_found (λ i. refusal.Points)) points_kept ∙ none (λ i. refusal.Points)) first_of-nil)))))))))
    where
      none : (r : ℕ → Refusal) → unless_found r None ≡ (Ok tt)
      none r = unfold unless_found in refl
