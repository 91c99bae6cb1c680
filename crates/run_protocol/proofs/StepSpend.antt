-- The step OpenSpent, of a multiply by a triple: every party sends its two differences, and the triple is spent.
--     sends-spent, learns-spent      its two laws
-- Assumes nothing.
use mathlib.Core.Path.{◌≡◌, refl, sym, ap, ap₂, subst, ◌∙◌}
use mathlib.Core.Bool.{true}
use mathlib.Core.List.{List, [], ◌∷◌, flat_map}
use Prim.Native.Nat.{ℕ, suc, ◌+◌, ◌-◌, ◌<◌, ◌≤◌}
use native.Mathlib.Omega.{arith}
use lib.ListN.{get_or, take, drop, set, take-append-drop}
use Rattle.numbers.specs.Tables.{tab, count_where}
use Rattle.numbers.proofs.Counts.{count_where-append}
use Rattle.field.specs.Mod.{sub}
use Rattle.sharing_laws.specs.Sharing.{opened}
use Rattle.seat_messages.specs.Messages.{set_all, opened_at, spent_share, learnt, resume_at, spend_from, send_at}
use Rattle.plan.specs.declared.Gate.TheVariants.{Spend}
use Rattle.plan.specs.declared.Step.TheVariants.{OpenSpent}
use Rattle.plan.specs.Plans.{Plan, party_count, point_of, own_inputs, own_coins, own_triples, triple_numbers, triple_at, kind_of, is_kind, kind_count}
use Rattle.run_protocol.specs.Shares.{wire_at, difference_at, difference_of, gate_share}
use Rattle.run_protocol.specs.Tables.{before_gate, table_mail, Tabled}
use Rattle.run_protocol.proofs.Following.{frontier, Is}
use Rattle.plan.proofs.Valid.{Valid}
use Rattle.run_protocol.proofs.Table.{before-triples}
use Rattle.run_protocol.proofs.Known.{learn_known, right_at, gate_reads, table_gate, Left, spend-one, triple_next}
use Rattle.run_protocol.proofs.Expected.{Sends, Learns, at_point, mail_rows, column, share_read}

count-take : (plan : Plan) (g : ℕ) → count_where (is_kind 7) (take g plan.gates) ≤ count_where (is_kind 7) plan.gates
count-take plan g =
    omega (arith, ap (count_where (is_kind 7)) (take-append-drop g plan.gates), count_where-append (is_kind 7) (take g plan.gates) (drop g plan.gates))

module _ (plan : Plan) (valid : Valid plan) (xs cs ts : List ℕ) (tf : List (ℕ → ℕ)) (tabled : Tabled plan ts tf) (g a b : ℕ) (is : Is plan g (Spend a b)) where
  next : triple_at plan (suc g) ≡ triple_at plan g + 3
  unfolding is_kind kind_of
  next = let q = triple_next plan g (Spend a b) is true refl in q

  within : triple_at plan g + 3 ≤ triple_numbers plan
  unfolding triple_at triple_numbers kind_count
  within = omega (arith, next, count-take plan (suc g))

  -- a party's triple at the gate, where those before it are spent
  triple-read : (i : ℕ) → 1 ≤ i → i ≤ party_count plan → (triples : List ℕ) → Left (own_triples plan i ts) (triple_at plan g) triples → (j : ℕ) → j < 3
      → get_or triples (triple_at plan g + j) 0 ≡ wire_at (before_gate plan xs cs tf g).triples j (point_of plan i)
  triple-read i from1 upto triples left j l =
      left.left (triple_at plan g + j) (omega arith)
      ∙ tabled.same i from1 upto (triple_at plan g + j) (omega (arith, within))
      ∙ sym (ap (λ (f : ℕ → ℕ). f (point_of plan i)) (before-triples plan xs cs tf g j))

  -- the two differences at a point
  row : ℕ → List ℕ
  row x = difference_at plan (before_gate plan xs cs tf g) a 0 x ∷ difference_at plan (before_gate plan xs cs tf g) b 1 x ∷ []

  reads : (a < g) × (b < g)
  reads = gate_reads plan valid xs cs tf 0 g (Spend a b) is

  pub sends-spent : (taken : ℕ → List ℕ) → Sends plan xs cs ts tf (OpenSpent g a b) taken
  unfolding send_at table_mail difference_at frontier row
  sends-spent taken shares triples holds i from1 upto =
      mail_rows plan (λ j. get_or (send_at plan j (OpenSpent g a b) (own_inputs plan j xs) (own_coins plan j cs) (triples j) (shares j) (taken j)) (i - 1) []) row
      (λ j l m.
      let z : ℕ = point_of plan j in
      let zero-plus : triple_at plan g + 0 ≡ triple_at plan g = omega arith in
      let known = (holds j l m).known in
      at_point plan i from1 upto
      (λ x. sub plan.p (get_or (shares j) a 0) (get_or (triples j) (triple_at plan g) 0) ∷ sub plan.p (get_or (shares j) b 0) (get_or (triples j) (triple_at plan g + 1) 0) ∷ []) []
      ∙ ap₂ (λ (u v : ℕ). u ∷ v ∷ [])
      (ap₂ (sub plan.p) (share_read plan valid xs cs tf z g is.0 Unit (shares j) known a reads.0)
      (ap (λ (k : ℕ). get_or (triples j) k 0) (sym zero-plus) ∙ triple-read j l m (triples j) (holds j l m).left 0 (omega arith)))
      (ap₂ (sub plan.p) (share_read plan valid xs cs tf z g is.0 Unit (shares j) known b reads.1) (triple-read j l m (triples j) (holds j l m).left 1 (omega arith))))

  opened-first : opened_at plan 2 0 (flat_map row plan.points) ≡ difference_of plan (before_gate plan xs cs tf g) a 0
  unfolding opened_at difference_of row
  opened-first = ap (opened plan.p plan.t plan.points) (column plan row 2 0 (λ x. refl) (omega arith))

  opened-second : opened_at plan 2 1 (flat_map row plan.points) ≡ difference_of plan (before_gate plan xs cs tf g) b 1
  unfolding opened_at difference_of row
  opened-second = ap (opened plan.p plan.t plan.points) (column plan row 2 1 (λ x. refl) (omega arith))

  spent-triples : (own triples : List ℕ) → Left own (triple_at plan g) triples → Left own (triple_at plan (suc g)) (set_all triples (tab (λ j. triple_at plan g + j) 3) (0 ∷ 0 ∷ 0 ∷ []))
  unfolding set_all tab
  spent-triples own triples h =
      let k : ℕ = triple_at plan g in
      let a0 : k ≡ k + 0 = omega arith in
      let a1 : suc (k + 0) ≡ k + 1 = omega arith in
      let a2 : suc (k + 1) ≡ k + 2 = omega arith in
      let a3 : suc (k + 2) ≡ triple_at plan (suc g) = omega (arith, next) in
      let u : Left own (k + 0) triples = subst (λ (m : ℕ). Left own m triples) a0 h in
      let v : Left own (k + 1) (set triples (k + 0) 0) = subst (λ (m : ℕ). Left own m (set triples (k + 0) 0)) a1 (spend-one u) in
      let w : Left own (k + 2) (set (set triples (k + 0) 0) (k + 1) 0) = subst (λ (m : ℕ). Left own m (set (set triples (k + 0) 0) (k + 1) 0)) a2 (spend-one v) in
      subst (λ (m : ℕ). Left own m (set (set (set triples (k + 0) 0) (k + 1) 0) (k + 2) 0)) a3 (spend-one w)

  pub learns-spent : Learns plan xs cs ts tf (OpenSpent g a b)
  unfolding learnt resume_at spend_from set_all table_mail frontier right_at gate_share row
  learns-spent i from1 upto shares triples h =
      let z : ℕ = point_of plan i in
      let s = before_gate plan xs cs tf g in
      record {
        known =
            learn_known h.known
            (spent_share plan.p (get_or triples (triple_at plan g + 2) 0) (get_or shares a 0) (get_or shares b 0) (opened_at plan 2 0 (flat_map row plan.points)) (opened_at plan 2 1 (flat_map row plan.points)))
            (rw (
              triple-read i from1 upto triples h.left 2 (omega arith),
              share_read plan valid xs cs tf z g is.0 Unit shares h.known a reads.0,
              share_read plan valid xs cs tf z g is.0 Unit shares h.known b reads.1,
              opened-first,
              opened-second,
            )
            (sym (table_gate plan valid xs cs tf z g (Spend a b) is)));
        left = spent-triples (own_triples plan i ts) triples h.left;
      }
