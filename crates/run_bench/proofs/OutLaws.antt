-- Refusal 20 of a run, out by out.
--     checking                 the check of one out's shares
--     each                     the loop over the outs
--     end_shares, broken_is    what the table tells is what the calls leave
--     none_broken              where all shares lie on polynomials no out breaks
-- Assumes nothing.
use Rattle.std.proofs.Common.{Option, Some, None, Ok, Err}
use mathlib.Core.Path.{◌≡◌, sym, ap, ◌∙◌}
use mathlib.Core.Bool.{true}
use mathlib.Core.List.{List, [], ◌∷◌, map, map-map}
use Prim.Native.Nat.{ℕ, suc, ◌+◌, ◌-◌, ◌*◌, ◌<◌, ◌≤◌}
use native.Mathlib.Nat.{mul-le-mul}
use native.Mathlib.Omega.{arith}
use borrow.Author.Rules.{rules}
use borrow.Author.Tests.{ltb-true}
use lib.ListN.{length, take, drop, get_or}
use lib.Seq.{length-take-le, get_or-drop}
use mir.Syntax.{w64}
use mir.Val.{Fits}
use Rattle.numbers.specs.Bytes.{all_below}
use Rattle.numbers.proofs.Tables.{tab-ext, tab-map, list-tab}
use Rattle.numbers.proofs.Truth.{both_true}
use Rattle.field.specs.declared.Field.{Field}
use Rattle.sharing_laws.specs.Sharing.{first_off}
use Rattle.sharing_laws.proofs.OffLine.{off_within}
use Rattle.sharing_laws.proofs.Lists.{get_or-map-in, map-all}
use Rattle.plan.specs.declared.Output.{Output}
use Rattle.plan.specs.declared.Header.{Header}
use Rattle.plan.specs.declared.Refusal.{Refusal}
use Rattle.plan.specs.declared.Refusal.TheVariants as refusal
use Rattle.plan.specs.Refusals.{Checked, first_of}
use Rattle.plan.specs.Plans.{Plan, party_count, parties, point_of, coin_count}
use Rattle.plan.specs.File.{between, out_ok, out_at, plan_of}
use Rattle.plan.specs.Planned.{Planned}
use Rattle.plan.proofs.Parties.{parties_points, each-party}
use Rattle.plan.proofs.Planned.{plan_p, plan_t, plan_outs, plan_out}
use Rattle.plan.proofs.Refusals.{first_of-nil, next_passes, found_at, found_nothing, Tried, try_refused, try_all}
use Rattle.plan.proofs.Valid.{Valid}
use Rattle.seat_messages.specs.Calls.{on_polynomial}
use Rattle.seat_messages.proofs.PointLaws.{plan_points_long, plan_points_below}
use Rattle.run_protocol.specs.Rounds.{call_of, at_end}
use Rattle.run_protocol.specs.Shares.{wire_at, share_table}
use Rattle.run_protocol.specs.Tables.{Tabled}
use Rattle.run_protocol.proofs.Accepted.{Lies}
use Rattle.run_protocol.proofs.Runs.{triples-table}
use Rattle.run_protocol.proofs.Table.{length-table}
use Rattle.run_dealings.specs.Rows.{rows_of, Fitted}
use Rattle.run_views.specs.Flat.{row_in, Running}
use Rattle.run_views.proofs.ViewLaws.{out_within, row_is, row_long, row_below}
use Rattle.run_views.proofs.FlatLaws.{row_flat}
use Rattle.run_bench.specs.Checks.{out_check, broken_in}
use Rattle.run_bench.specs.BenchCalls.{shares_at_end, broken_check}

-- ---- the shares of one out
module _ (p t : ℕ) (points shares : List ℕ) (f : Option ℕ) (ef : f ≡ first_off p t points shares) where
  pub shares_off : (i : ℕ) → f ≡ Some i → Err (refusal.OffPolynomial (i + 1)) ≡ on_polynomial p t points shares
  unfolding on_polynomial
  shares_off i q = sym (found_at (λ i. refusal.OffPolynomial (i + 1)) (first_off p t points shares) i (sym ef ∙ q))

  pub shares_on : f ≡ None → (Ok tt) ≡ on_polynomial p t points shares
  unfolding on_polynomial
  shares_on q = sym (found_nothing (λ i. refusal.OffPolynomial (i + 1)) (first_off p t points shares) (sym ef ∙ q))

  pub off_fits : (i : ℕ) → length points ≤ 15 → f ≡ Some i → Fits w64 (i + 1)
  off_fits i l q = record { fits = omega (arith, off_within p t points shares i (sym ef ∙ q)) }

pub ruleset checking = (rules, off_fits, shares_off, shares_on)

-- ---- the loop over the outs
module _ (bs : List ℕ) (h : Header) (k : Planned bs h) where
  used-small : (h.t + 1) * h.n ≤ 225
  used-small = mul-le-mul {n₁ = h.t + 1} {m₁ = h.n} {n₂ = 15} {m₂ = 15} (omega (arith, k.threshold, k.n-high)) k.n-high

  pub used_fits : Fits w64 ((h.t + 1) * h.n)
  used_fits = record { fits = omega (arith, used-small) }

  pub used_within : (room : List ℕ) → length room ≡ 225 → (h.t + 1) * h.n ≤ length room
  used_within room size = omega (arith, used-small)

  module _ (p t : ℕ) (points ws : List ℕ) (fitted : Fitted bs h p t points ws) where
    points_long : length points ≡ h.n
    points_long = ap length fitted.are ∙ plan_points_long bs h k

    pub points_over : h.t < length points
    points_over = omega (arith, points_long, k.threshold)

    pub points_few : length points ≤ 15
    points_few = omega (arith, points_long, k.n-high)

    pub points_many : length points ≤ 65536
    points_many = omega (arith, points_few)

    pub points_elements : all_below h.field.p points ≡ true
    points_elements = rw fitted.are (plan_points_below bs h k)

    pub rows_room : (room : List ℕ) → length room ≡ 225 → length (take ((h.t + 1) * h.n) room) ≡ (h.t + 1) * length points
    rows_room room size = rw points_long (length-take-le ((h.t + 1) * h.n) room (used_within room size))

  -- an out's row in the flat table
  module _ (table : List ℕ) (running : Running h table) (j : ℕ) (o : Output) (l : j < h.outs) (e : o ≡ out_at bs j) where
    row_there : take (h.n * o.wire + h.n - h.n * o.wire) (drop (h.n * o.wire) table) ≡ row_in h.n table o.wire
    row_there = row_is h table running o.wire (out_within k j o l e)

    pub part_below : all_below h.field.p (take (h.n * o.wire + h.n - h.n * o.wire) (drop (h.n * o.wire) table)) ≡ true
    part_below = rw row_there (row_below h table running o.wire (out_within k j o l e))

    module _ (p t : ℕ) (points ws : List ℕ) (fitted : Fitted bs h p t points ws) where
      pub part_counted : length (take (h.n * o.wire + h.n - h.n * o.wire) (drop (h.n * o.wire) table)) ≡ length points
      part_counted = ap length row_there ∙ row_long h table running o.wire (out_within k j o l e) ∙ sym (points_long p t points ws fitted)

      pub out_here : (f : Field) (u : ℕ) (qs : List ℕ) (c : Checked) → f ≡ h.field → u ≡ h.t → qs ≡ points
          → c ≡ on_polynomial f.p u qs (take (h.n * o.wire + h.n - h.n * o.wire) (drop (h.n * o.wire) table)) → c ≡ out_check (plan_of bs) h.n table j
      unfolding out_check
      out_here f u qs c ef eu eq ec =
          ec ∙ rw (ef, eu, eq, fitted.are, ← plan_p k, ← plan_t k, row_there)
          (ap (λ (x : Output). on_polynomial (plan_of bs).p (plan_of bs).t (plan_of bs).points (row_in h.n table x.wire)) (e ∙ sym (plan_out k j l)))

  -- the first out that breaks, or none
  module _ (table : List ℕ) (j : ℕ) (tried : Tried (out_check (plan_of bs) h.n table) h.outs j) where
    pub outs_stop : (c : Checked) (r : Refusal) → j < h.outs → c ≡ out_check (plan_of bs) h.n table j → c ≡ Err r → Err r ≡ broken_in (plan_of bs) h.n table
    unfolding broken_in
    outs_stop c r l is e = sym e ∙ rw (plan_outs k) (try_refused (out_check (plan_of bs) h.n table) h.outs j tried c r l is e)

    pub outs_pass : h.outs ≤ j → (Ok tt) ≡ broken_in (plan_of bs) h.n table
    unfolding broken_in
    outs_pass l = rw (plan_outs k) (try_all (out_check (plan_of bs) h.n table) h.outs j tried l)

pub ruleset each = (rules, used_fits, used_within, points_few, points_many, part_below, outs_pass)

-- an out's wire is a gate's
pub wire_within : (plan : Plan) → Valid plan → (o : ℕ) → o < length plan.outs → (get_or plan.outs o (record { party = 0; wire = 0 })).wire < length plan.gates
unfolding out_ok
wire_within plan ok o l =
    let out : Output = get_or plan.outs o (record { party = 0; wire = 0 }) in
    ltb-true out.wire (length plan.gates) (both_true (between 1 (party_count plan) out.party) _ (ok.outs o l)).1

-- ---- what the table tells is what the calls leave
module _ (plan : Plan) (ok : Valid plan) (xs cs ts : List ℕ) (tf : List (ℕ → ℕ)) (full : length cs ≡ coin_count plan) (tabled : Tabled plan ts tf) where
  abbrev shares : List (ℕ → ℕ)
  shares = share_table plan xs cs tf

  share_left : (w : ℕ) → w < length plan.gates → (i : ℕ) → 1 ≤ i → i ≤ party_count plan → get_or (call_of i (at_end plan xs cs ts)).state (suc w) 0 ≡ wire_at shares w (point_of plan i)
  unfolding wire_at
  share_left w l i from1 upto =
      let state : List ℕ = (call_of i (at_end plan xs cs ts)).state in
      let q : 1 + w ≡ suc w = omega arith in
      sym (get_or-drop 1 state w 0 ∙ ap (λ (m : ℕ). get_or state m 0) q)
      ∙ ap (λ (s : List ℕ). get_or s w 0) (triples-table plan ok xs cs ts tf full tabled i from1 upto)
      ∙ get_or-map-in (λ f. f (point_of plan i)) shares w (λ x. 0) 0 (omega (arith, length-table plan xs cs tf))

  pub end_shares : (w : ℕ) → w < length plan.gates → shares_at_end plan (at_end plan xs cs ts) w ≡ map (wire_at shares w) plan.points
  unfolding shares_at_end
  end_shares w l =
      map-all (λ i. get_or (call_of i (at_end plan xs cs ts)).state (suc w) 0) (λ i. wire_at shares w (point_of plan i)) (parties plan)
      (each-party plan (λ i. get_or (call_of i (at_end plan xs cs ts)).state (suc w) 0 ≡ wire_at shares w (point_of plan i)) (share_left w l))
      ∙ sym (map-map (wire_at shares w) (point_of plan) (parties plan))
      ∙ ap (map (wire_at shares w)) (sym (parties_points plan))

  pub broken_is : (table : List ℕ) → table ≡ rows_of plan.points shares → broken_in plan (party_count plan) table ≡ broken_check plan (at_end plan xs cs ts)
  unfolding broken_in broken_check out_check party_count
  broken_is table is =
      let none : Output = record { party = 0; wire = 0 } in
      let check : Output → Checked = λ o. on_polynomial plan.p plan.t plan.points (shares_at_end plan (at_end plan xs cs ts) o.wire) in
      ap first_of
      (tab-ext _ (λ k. check (get_or plan.outs k none)) (length plan.outs)
      (λ k l.
      let o : Output = get_or plan.outs k none in
      let w : o.wire < length plan.gates = wire_within plan ok k l in
      ap (on_polynomial plan.p plan.t plan.points) (row_flat plan xs cs tf table is o.wire w ∙ sym (end_shares o.wire w)))
      ∙ sym (ap (map check) (list-tab plan.outs none) ∙ tab-map check (λ k. get_or plan.outs k none) (length plan.outs)))

  -- where every wire's shares lie on one polynomial no out breaks
  pub none_broken : Lies plan shares → broken_check plan (at_end plan xs cs ts) ≡ Ok tt
  unfolding broken_check on_polynomial
  none_broken lies = all_pass plan.outs (λ o l. passes _ (wire_within plan ok o l))
    where
      check : Output → Checked
      check o = on_polynomial plan.p plan.t plan.points (shares_at_end plan (at_end plan xs cs ts) o.wire)

      passes : (w : ℕ) → w < length plan.gates → on_polynomial plan.p plan.t plan.points (shares_at_end plan (at_end plan xs cs ts) w) ≡ Ok tt
      passes w l = found_nothing (λ i. refusal.OffPolynomial (i + 1)) _ (ap (first_off plan.p plan.t plan.points) (end_shares w l) ∙ lies w l)

      all_pass : (os : List Output) → ((o : ℕ) → o < length os → check (get_or os o (record { party = 0; wire = 0 })) ≡ Ok tt) → first_of (map check os) ≡ Ok tt
      all_pass [] h = first_of-nil
      all_pass (o ∷ os) h = next_passes (check o) (map check os) (h 0 (omega arith)) (all_pass os (λ k l. h (suc k) (omega arith)))
