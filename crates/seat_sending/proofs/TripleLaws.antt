-- Laws of a gate that spends a triple: two differences to each party.
--     taking_off        a difference
--     pairing           the loop that writes two numbers to each party
--     spend_sending     what the step sends
-- Assumes nothing.
use mathlib.Core.Path.{◌≡◌, refl, sym, ap, ap₂, subst, ◌∙◌}
use mathlib.Core.List.{List, [], ◌∷◌, map, flat_map}
use Prim.Native.Nat.{ℕ, ◌+◌, ◌*◌, ◌<◌, ◌≤◌}
use native.Mathlib.Omega.{arith}
use borrow.Author.Rules.{rules}
use lib.ListN.{length, get_or}
use mir.Syntax.{w64}
use mir.Val.{Fits}
use Rattle.numbers.specs.Tables.{tab}
use Rattle.numbers.specs.Bytes.{width, limit, numbers, stored}
use Rattle.field.specs.Mod.{sub}
use Rattle.field.specs.Field.{Is, Below2}
use Rattle.sharing.proofs.Coding.{entry_below}
use Rattle.plan.specs.declared.Step.TheVariants.{OpenSpent}
use Rattle.plan.specs.declared.Header.{Header}
use Rattle.plan.specs.Plans.{party_count, triple_at, sent_by}
use Rattle.plan.specs.File.{plan_of}
use Rattle.plan.specs.Planned.{Planned}
use Rattle.plan.proofs.Planned.{plan_p, plan_n, plan_gates}
use Rattle.plan.proofs.Valid.{planned-ready}
use Rattle.plan_counts.specs.Counts.{Stepped}
use Rattle.seat_messages.specs.Messages.{send_at}
use Rattle.seat_sending.specs.Sending.{Sent, Elements, pairs, outgoing}
use Rattle.seat_sending.proofs.SendLaws.{flat, Rows, rows_none, rows_next, rows_all, rows-length, sent-one, sent_more}

-- ---- a difference
module _ (bs : List ℕ) (h : Header) (w : Planned bs h) (inputs coins triples shares mail : List ℕ) (e : Elements (plan_of bs) inputs coins triples shares mail) where
  pub parts_below : (a k x y : ℕ) → x ≡ get_or (numbers shares) a 0 → y ≡ get_or (numbers triples) k 0 → Below2 h.field.p x y
  parts_below a k x y ex ey = record {
    left = rw ex (entry_below h.field.p (numbers shares) a (planned-ready bs h w) (rw (← plan_p w) e.shares_below));
    right = rw ey (entry_below h.field.p (numbers triples) k (planned-ready bs h w) (rw (← plan_p w) e.triples_below));
  }

pub difference-is : (bs : List ℕ) (h : Header) → Planned bs h → (triples shares : List ℕ) (a k x y v : ℕ) → x ≡ get_or (numbers shares) a 0 → y ≡ get_or (numbers triples) k 0 → Is h.field.p (sub h.field.p x y) v
    → Is h.field.p (sub (plan_of bs).p (get_or (numbers shares) a 0) (get_or (numbers triples) k 0)) v
difference-is bs h w triples shares a k x y v ex ey is = record { eq = is.eq ∙ rw (plan_p w, ex, ey); lt = is.lt }

pub ruleset taking_off = (rules, parts_below, difference-is)

-- ---- two numbers to each party
pairs-tab : (d e : ℕ) (xs : List ℕ) → flat (tab (λ i. d ∷ e ∷ []) (length xs)) ≡ pairs d e xs
unfolding pairs flat_map tab
pairs-tab d e [] = refl
pairs-tab d e (x ∷ xs) = ap (λ (l : List ℕ). d ∷ e ∷ l) (pairs-tab d e xs)

-- the invariant: the numbers of the first j parties stand
pub record Paired (d e n : ℕ) (o x : List ℕ) (j : ℕ) : Type 0 where
  pub rows : Rows (λ i. d ∷ e ∷ []) 2 n o x (2 * j) j

module _ (d e n : ℕ) (o : List ℕ) where
  pub pair-none : Paired d e n o o 0
  pair-none = record { rows = rows_none (λ i. d ∷ e ∷ []) 2 n o }

  pub pair-next : (x y z : List ℕ) (j : ℕ) → Paired d e n o x j → j < n → d < limit → e < limit → y ≡ stored x (2 * j) d → z ≡ stored y (2 * j + 1) e → Paired d e n o z (j + 1)
  pair-next x y z j r l ld le ey ez =
      let two : 2 * j + 1 + 1 ≡ 2 * (j + 1) = omega arith in
      let both : Sent (d ∷ e ∷ []) (2 * j) x z (2 * j + 1 + 1) = sent_more (d ∷ []) (e ∷ []) x y z (2 * j) (2 * j + 1) (2 * j + 1 + 1) (sent-one x y (2 * j) d ey ld) (sent-one y z (2 * j + 1) e ez le) in
      record { rows = subst (λ (a : ℕ). Rows (λ i. d ∷ e ∷ []) 2 n o z a (j + 1)) two (rows_next (λ i. d ∷ e ∷ []) 2 n o x z (2 * j) j (2 * j + 1 + 1) r.rows l (omega arith) both) }

module _ (bs : List ℕ) (h : Header) (w : Planned bs h) where
  pub pair-done : (d e : ℕ) (o x : List ℕ) (j : ℕ) → Paired d e h.n o x j → h.n ≤ j → length o ≡ width * (2 * party_count (plan_of bs)) → numbers x ≡ pairs d e (plan_of bs).points
  unfolding party_count
  pair-done d e o x j r l q =
      rows_all (λ i. d ∷ e ∷ []) 2 h.n o x (2 * j) j r.rows l (omega (arith, q, plan_n w, rows-length (λ i. d ∷ e ∷ []) 2 h.n (λ i. refl)))
      ∙ ap (λ (n : ℕ). flat (tab (λ i. d ∷ e ∷ []) n)) (sym (plan_n w))
      ∙ pairs-tab d e (plan_of bs).points

  pub pair_fits : (j : ℕ) → j < h.n → Fits w64 (2 * j)
  pair_fits j l = record { fits = omega (arith, w.n-high) }

  pub pair_fits_next : (j : ℕ) → j < h.n → Fits w64 (2 * j + 1)
  pair_fits_next j l = record { fits = omega (arith, w.n-high) }

-- As it is: answers name this set, since the check leaves their goals open by `using` alone.
pub ruleset pairing = (rules, pair-none, pair-next, pair-done, pair_fits, pair_fits_next)

-- ---- the step
flat-pairs : (d e : ℕ) (xs : List ℕ) → flat (map (λ x. d ∷ e ∷ []) xs) ≡ pairs d e xs
unfolding pairs flat_map
flat-pairs d e [] = refl
flat-pairs d e (x ∷ xs) = ap (λ (l : List ℕ). d ∷ e ∷ l) (flat-pairs d e xs)

module _ (bs : List ℕ) (h : Header) (w : Planned bs h) (i g a b : ℕ) (step : Stepped (plan_of bs) (OpenSpent g a b)) where
  pub spent_inside : g ≤ h.gates
  unfolding Stepped
  spent_inside = omega (arith, step.within, plan_gates w)

  pub spent_room : (out : List ℕ) → length out ≡ width * sent_by (plan_of bs) i (OpenSpent g a b) → length out ≡ width * (2 * party_count (plan_of bs))
  unfolding sent_by
  spent_room out e = e

  pub spent_done : (inputs coins triples shares mail xs : List ℕ) (at d e : ℕ) → at ≡ triple_at (plan_of bs) g
      → Is h.field.p (sub (plan_of bs).p (get_or shares a 0) (get_or triples at 0)) d → Is h.field.p (sub (plan_of bs).p (get_or shares b 0) (get_or triples (at + 1) 0)) e
      → xs ≡ pairs d e (plan_of bs).points → xs ≡ outgoing (plan_of bs) i (OpenSpent g a b) inputs coins triples shares mail
  unfolding send_at
  spent_done inputs coins triples shares mail xs at d e ea ed ee q =
      q ∙ ap₂ (λ (x y : ℕ). pairs x y (plan_of bs).points) (ed.eq ∙ ap (λ (n : ℕ). sub (plan_of bs).p (get_or shares a 0) (get_or triples n 0)) ea)
      (ee.eq ∙ ap (λ (n : ℕ). sub (plan_of bs).p (get_or shares b 0) (get_or triples (n + 1) 0)) ea)
      ∙ sym (flat-pairs _ _ (plan_of bs).points)

pub element_small : (bs : List ℕ) (h : Header) → Planned bs h → (v x : ℕ) → Is h.field.p v x → x < limit
element_small bs h w v x is = omega (arith, is.lt, (planned-ready bs h w).small)

-- As it is: answers name this set, since the check leaves their goals open by `using` alone.
pub ruleset spend_sending = (rules, spent_inside, spent_room, spent_done, element_small)
