-- What each way through the code that moves the coins of a multiply by truncation says of its definition.
--     counting, preparing          the points that the change is fitted to
--     changing, fitting, gaining   the change of the product, and what the coins gain that take it up
--     Keeping, keeping             coins as they are
--     zeroing, masking             one party's
--     Parting, moving_parties      all parties'
--     moving_truncated             the gate's
-- Assumes nothing.
use mathlib.Core.Path.{◌≡◌, refl, sym, ap, ap₂, ◌∙◌}
use mathlib.Core.Bool.{Bool, true, false, cond}
use mathlib.Core.List.{List, [], ◌∷◌, ◌++◌, map, flat_map, append_assoc, append-nil}
use Prim.Native.Nat.{ℕ, zero, suc, ◌+◌, ◌-◌, ◌*◌, ◌/◌, ◌^◌, ◌<◌, ◌≤◌}
use native.Mathlib.Numerals.{add-one}
use native.Mathlib.Nat.{mul-zero, mul-le-mul, mul-suc, mul-le-mul_left}
use native.Mathlib.Omega.{arith}
use borrow.Author.Rules.{rules}
use borrow.Author.Tests.{ltb-true, lt-ltb, le-ltb, eq-eqb, ne_eqb}
use lib.Dec.{ltb}
use lib.ListN.{length, get_or, take, drop, length-drop}
use lib.Seq.{take_at, length-take-le, get_or-take, get_or-drop, drop-drop}
use mir.Syntax.{w64}
use mir.Val.{Fits}
use Rattle.numbers.specs.Tables.{tab}
use Rattle.numbers.specs.Bytes.{width, limit, numbers, stored, all_below}
use Rattle.numbers.proofs.Tables.{tab-next, tab-ext, is-tab}
use Rattle.numbers.proofs.Bytes.{numbers-length}
use Rattle.numbers.proofs.Below.{all_below_at, all_below-tab, all_below-take}
use Rattle.numbers.proofs.Rows.{flat-snoc}
use Rattle.field.specs.Mod.{mul, sub}
use Rattle.field.specs.Field.{Is, Ready}
use Rattle.field.proofs.Solve.{canon-lt, sub_canon}
use Rattle.field.proofs.Inverse.{pos}
use Rattle.sharing_laws.specs.Poly.{padded, scale}
use Rattle.sharing_laws.specs.Sharing.{mixture}
use Rattle.sharing_laws.specs.Basis.{basis, fitted}
use Rattle.sharing_laws.proofs.Elements.{scale-below, sum_below, padded-below}
use Rattle.sharing.proofs.Coding.{entry_below}
use Rattle.sharing_matrix.specs.Matrix.{Few}
use Rattle.plan.specs.declared.Rule.{Rule}
use Rattle.plan.specs.declared.Rule.TheVariants.{Reduction, Truncation}
use Rattle.plan.specs.declared.Header.{Header}
use Rattle.plan_coalition.specs.Coalitions.{in_set}
use Rattle.run_dealings.specs.Rows.{products_of}
use Rattle.match_moves.specs.Moves.{moved, Lent, Written, Advanced}
use Rattle.match_moves.specs.Truncations.{changes_of, change_by, gain_of, gains_of, zero_row, mask_change_of, party_row, party_at, party_rows, truncated_coins, fitted_by, Fitted, Truncating}
use Rattle.match_moves.proofs.MoveLaws.{Writing, write-none, write-place, write_next, written_all}

-- ---- how many points the change is fitted to
module _ (r : Rule) (n t : ℕ) where
  pub count-reduction : r ≡ Reduction → 0 ≡ fitted_by r n t
  unfolding fitted_by
  count-reduction e = rw e

  pub count-truncation : r ≡ Truncation → 2 * t < n → t + t + 1 ≡ fitted_by r n t
  unfolding fitted_by
  count-truncation e l = rw (e, lt-ltb (2 * t) n l)

  pub count-minority : r ≡ Truncation → n ≤ 2 * t → 0 ≡ fitted_by r n t
  unfolding fitted_by
  count-minority e l = rw (e, le-ltb (2 * t) n l)

pub ruleset counting = (rules, count-reduction, count-truncation, count-minority)

-- at most n, and at most 15
fitted-most : (r : Rule) (n t : ℕ) → n ≤ 15 → fitted_by r n t ≤ n
unfolding fitted_by
fitted-most Reduction n t le = omega arith
fitted-most Truncation n t le = pick (ltb (2 * t) n) refl
  where
    pick : (b : Bool) → ltb (2 * t) n ≡ b → cond b (t + t + 1) 0 ≤ n
    pick true e = omega (arith, ltb-true (2 * t) n e)
    pick false e = omega arith

square-most : (m : ℕ) → m ≤ 15 → m * m ≤ 225
square-most m le = mul-le-mul {n₁ = m} {m₁ = m} {n₂ = 15} {m₂ = 15} le le

module _ (h : Header) (points : List ℕ) (m : ℕ) (em : m ≡ fitted_by h.rule h.n h.t) (many : (length points ≡ h.n) × (h.n ≤ 15)) where
  most : m ≤ h.n
  most = rw em (fitted-most h.rule h.n h.t many.1)

  pub prepare-points : m ≤ length points
  prepare-points = omega (arith, most, many.0)

  pub prepare-count : length (take m points) ≡ m
  prepare-count = length-take-le m points prepare-points

  module _ (d : ℕ) (ed : d ≡ m - 1) where
    pub prepare-few : all_below h.field.p points ≡ true → Few h.field.p d (take m points)
    prepare-few b = record {
      elements = all_below-take h.field.p m points b;
      count = omega (arith, prepare-count, most, many.1);
      degree = omega (arith, most, many.1);
    }

    used-is : (d + 1) * m ≤ 225
    used-is = by m refl
      where
        by : (k : ℕ) → m ≡ k → (d + 1) * m ≤ 225
        by zero e = let z : (d + 1) * m ≡ 0 = rw (e, mul-zero) in omega arith
        by (suc k) e = let q : d + 1 ≡ m = omega arith in rw q (square-most m (omega (arith, most, many.1)))

    pub prepare-room : (room : List ℕ) → length room ≡ 225 → (d + 1) * m ≤ length room
    prepare-room room e = omega (arith, used-is)

    pub prepare-used : (room : List ℕ) → length room ≡ 225 → length (take ((d + 1) * m) room) ≡ (d + 1) * length (take m points)
    prepare-used room e = length-take-le ((d + 1) * m) room (prepare-room room e) ∙ ap (λ (k : ℕ). (d + 1) * k) (sym prepare-count)

    pub prepare-fits : (d + 1) * m < 2 ^ 64
    prepare-fits = omega (arith, used-is)

    pub prepared : (p t' : ℕ) (dealers : List ℕ) → p ≡ h.field.p → t' ≡ d → dealers ≡ take m points → Fitted h points p t' dealers
    prepared p t' dealers ep et ed' = record {
      field = ep;
      are = ed' ∙ ap (λ (k : ℕ). take k points) em;
      dealers = ap length ed' ∙ prepare-count ∙ em;
      degree = et ∙ ed ∙ ap (λ (k : ℕ). k - 1) (sym (ap length ed' ∙ prepare-count));
    }

pub ruleset preparing = (rules, prepare-points, prepare-count, prepare-few, prepare-room, prepare-used, prepare-fits, prepared)

-- ---- the change of the product
-- an entry of what stands in front
pub front_below : (p m : ℕ) (row : List ℕ) (i : ℕ) → all_below p (take m row) ≡ true → length row ≡ 15 → m ≤ 15 → i < m → get_or row i 0 < p
front_below p m row i b e le l =
    rw (get_or-take m row i 0 l) at (all_below_at p (take m row) i b (rw (length-take-le m row (omega arith)) l))

abbrev pub entry_change : ℕ → List ℕ → List ℕ → ℕ → ℕ
entry_change p first second i = sub p (get_or second i 0) (get_or first i 0)

module _ (p n m a b : ℕ) (before after first second row : List ℕ) (e : take m first ≡ products_of p n m a b before) (e' : take m second ≡ products_of p n m a b after)
    (made : take m row ≡ tab (entry_change p first second) m) where
  pub changes-are : take m row ≡ changes_of p n m a b before after
  unfolding changes_of
  changes-are =
      made
      ∙ tab-ext (entry_change p first second) (λ i. sub p (get_or (products_of p n m a b after) i 0) (get_or (products_of p n m a b before) i 0)) m
      (λ i l. ap₂ (sub p) (sym (get_or-take m second i 0 l) ∙ ap (λ (r : List ℕ). get_or r i 0) e') (sym (get_or-take m first i 0 l) ∙ ap (λ (r : List ℕ). get_or r i 0) e))

  pub changes_below : Ready p → all_below p (take m row) ≡ true
  changes_below r = rw made (all_below-tab p (entry_change p first second) m (λ i l. canon-lt (pos r.prime) (sub_canon _ _)))

pub ruleset changing = (rules, front_below, changes-are, changes_below)

-- ---- as a polynomial
mixture-below : (p : ℕ) → 0 < p → (ws : List ℕ) (fs : List (List ℕ)) → all_below p (mixture p ws fs) ≡ true
unfolding mixture all_below
mixture-below p above [] fs = refl
mixture-below p above (w ∷ ws) [] = refl
mixture-below p above (w ∷ ws) (f ∷ fs) = sum_below p above (scale p w f) (mixture p ws fs) (scale-below p above w f) (mixture-below p above ws fs)

change-below : (p m : ℕ) (points changes : List ℕ) → 0 < p → all_below p (change_by p m points changes) ≡ true
unfolding change_by fitted
change-below p m points changes above =
    padded-below p above m _ (all_below-take p m (mixture p changes (map (basis p points) points)) (mixture-below p above changes (map (basis p points) points)))

module _ (h : Header) (p t' : ℕ) (points spares : List ℕ) (w : Truncating h p t' points spares) (by : h.rule ≡ Truncation) (l : 2 * h.t < h.n) where
  pub dealers-are : length points ≡ h.t + h.t + 1
  dealers-are = w.dealers ∙ sym (count-truncation h.rule h.n h.t by l)

  pub degree-is : t' + 1 ≡ h.t + h.t + 1
  degree-is = omega (arith, w.degree, dealers-are)

  pub fit-values : (row : List ℕ) → length row ≡ 15 → h.n ≤ 15 → length (take (h.t + h.t + 1) row) ≡ length points
  fit-values row long le = length-take-le (h.t + h.t + 1) row (omega arith) ∙ sym dealers-are

  pub fit-room : (row : List ℕ) → length row ≡ 15 → h.n ≤ 15 → length (take (h.t + h.t + 1) row) ≡ t' + 1
  fit-room row long le = length-take-le (h.t + h.t + 1) row (omega arith) ∙ sym degree-is

  module _ (changes values out row : List ℕ) (same : length out ≡ length (take (h.t + h.t + 1) row)) (long : length row ≡ 15) (le : h.n ≤ 15)
      (ev : values ≡ changes) (eo : out ≡ padded (t' + 1) (take (t' + 1) (fitted p points values))) where
    out-is : out ≡ change_by h.field.p (h.t + h.t + 1) points changes
    unfolding change_by
    out-is =
        eo ∙ ap (λ (k : ℕ). padded k (take k (fitted p points values))) degree-is
        ∙ ap₂ (λ (q : ℕ) (vs : List ℕ). padded (h.t + h.t + 1) (take (h.t + h.t + 1) (fitted q points vs))) w.field ev

    pub fit-front : (rest : List ℕ) → take (h.t + h.t + 1) (out ++ rest) ≡ change_by h.field.p (h.t + h.t + 1) points changes
    fit-front rest = take_at out rest (h.t + h.t + 1) (same ∙ length-take-le (h.t + h.t + 1) row (omega arith)) ∙ out-is

    pub fit-below : (rest : List ℕ) → Ready h.field.p → all_below h.field.p (take (h.t + h.t + 1) (out ++ rest)) ≡ true
    fit-below rest r = rw (fit-front rest) (change-below h.field.p (h.t + h.t + 1) points changes (pos r.prime))

pub ruleset fitting = (rules, fit-values, fit-room, fit-front, fit-below)

-- ---- what the coins gain
pub gain-is : (p : ℕ) (es f : List ℕ) (j a b r : ℕ) → a ≡ get_or es j 0 → b ≡ mul p (get_or f 0 0) a → r ≡ sub p b (get_or f (j + 1) 0) → r ≡ gain_of p es f j
unfolding gain_of
gain-is p es f j a b r ea eb er = er ∙ ap (λ (y : ℕ). sub p y (get_or f (j + 1) 0)) (eb ∙ ap (mul p (get_or f 0 0)) ea)

gains-small : (p k : ℕ) (es f : List ℕ) → 0 < p → all_below p (gains_of p k es f) ≡ true
unfolding gains_of gain_of
gains-small p k es f above = all_below-tab p (λ j. sub p (mul p (get_or f 0 0) (get_or es j 0)) (get_or f (j + 1) 0)) k (λ j l. canon-lt above (sub_canon _ _))

module _ (p k : ℕ) (es f row : List ℕ) (made : take k row ≡ tab (gain_of p es f) k) where
  pub gains-are : take k row ≡ gains_of p k es f
  unfolding gains_of
  gains-are = made

  pub gains_below : Ready p → all_below p (take k row) ≡ true
  gains_below r = rw gains-are (gains-small p k es f (pos r.prime))

pub ruleset gaining = (rules, entry_below, gain-is, gains-are, gains_below)

-- ---- coins as they are
abbrev pub coin_at : List ℕ → ℕ → ℕ → ℕ
coin_at cs at m = get_or cs (at + m) 0

pub keep_none : (p k at : ℕ) (coins old : List ℕ) → Lent p at k coins old → Writing (coin_at (numbers coins) at) k at old old 0
keep_none p k at coins old l = write-none (coin_at (numbers coins) at) p k at coins old l

module _ (k at : ℕ) (coins old new : List ℕ) (j : ℕ) (w : Writing (coin_at (numbers coins) at) k at old new j) where
  pub keep_next :
      (c : ℕ) (new' : List ℕ) → j < k → c < limit → c ≡ get_or (numbers coins) (at + j) 0 → new' ≡ stored new (at + j) c
      → Writing (coin_at (numbers coins) at) k at old new' (j + 1)
  keep_next c new' l small ec en = write_next (coin_at (numbers coins) at) k at old new j w c new' small l ec en

  pub keep_done : k ≤ j → at + k ≤ length coins / width → Written at k (take k (drop at (numbers coins))) old new
  keep_done l m = record {
    front =
        written_all (coin_at (numbers coins) at) k at old new j w l
        ∙ ap (λ (b : List ℕ). take at (numbers old) ++ b)
        (sym (is-tab (coin_at (numbers coins) at) k (take k (drop at (numbers coins))) 0
        (length-take-le k (drop at (numbers coins)) (omega (arith, length-drop at (numbers coins), numbers-length coins)))
        (λ i lt. get_or-take k (drop at (numbers coins)) i 0 lt ∙ get_or-drop at (numbers coins) i 0)));
  }

pub ruleset keeping = (rules, keep_none, write-place, keep_next, keep_done)

-- ---- one party's
module _ (p t low : ℕ) (gains cs : List ℕ) (at i : ℕ) (old new : List ℕ) where
  pub zero_taking :
      length gains ≡ t + t → i + 1 ≡ low → Written at (length gains) (moved p 1 gains (take (length gains) (drop at cs))) old new
      → Written at (t + t) (zero_row p t low gains (drop at cs) i) old new
  unfolding zero_row
  zero_taking long e w = let here : suc i ≡ low = omega arith in rw (eq-eqb (suc i) low here) (rw long at w)

  pub zero_kept : (i + 1 ≡ low → ⊥) → Written at (t + t) (take (t + t) (drop at cs)) old new → Written at (t + t) (zero_row p t low gains (drop at cs) i) old new
  unfolding zero_row
  zero_kept n w = rw (ne_eqb (suc i) low (λ e. n (omega arith))) w

pub zero_lent : (p t at : ℕ) (gains coins out : List ℕ) → length gains ≡ t + t → Lent p at (t + t) coins out → Lent p at (length gains) coins out
zero_lent p t at gains coins out e l = rw e l

pub ruleset zeroing = (rules, zero_taking, zero_kept, zero_lent)

module _ (h : Header) (p t' : ℕ) (points spares : List ℕ) (w : Truncating h p t' points spares) (i : ℕ) (l : i < h.n) where
  pub spare_in : i < length spares
  spare_in = omega (arith, w.many)

  pub spare_small : get_or spares i 0 < h.field.p
  spare_small = all_below_at h.field.p spares i w.elements spare_in

module _ (p set : ℕ) (spares : List ℕ) (e i : ℕ) (m : Bool) (em : m ≡ in_set set (i + 1)) where
  member_at : in_set set (suc i) ≡ m
  member_at = ap (in_set set) (sym (add-one i)) ∙ sym em

  pub mask_member : m ≡ true → 0 ≡ mask_change_of p set spares e i
  unfolding mask_change_of
  mask_member h = rw (member_at, h)

  pub mask_other : (r : ℕ) → m ≡ false → r ≡ mul p e (get_or spares i 0) → r ≡ mask_change_of p set spares e i
  unfolding mask_change_of
  mask_other r h er = rw (member_at, h) er

pub ruleset masking = (rules, spare_in, spare_small, mask_member, mask_other)

module _ (p t at : ℕ) (es coins out : List ℕ) (lent : Lent p at (3 * t) coins out) where
  pub party-zeros : Lent p at (t + t) coins out
  party-zeros = record { below = lent.below; here = omega (arith, lent.here); there = omega (arith, lent.there) }

  pub party-masks : (new : List ℕ) → length es ≡ t → length new ≡ length out → Lent p (at + (t + t)) (length es) coins new
  party-masks new long same = record { below = lent.below; here = omega (arith, lent.here); there = omega (arith, lent.there) }

  pub party-fits : length coins * 1 < 2 ^ 63 → Fits w64 (at + (t + t))
  party-fits f = record { fits = omega (arith, lent.here) }

pub party-done :
    (p t set low : ℕ) (es spares : List ℕ) (e : ℕ) (gains cs : List ℕ) (at i d : ℕ) (old new new' : List ℕ) → length es ≡ t → Is p (mask_change_of p set spares e i) d
    → Written at (t + t) (zero_row p t low gains (drop at cs) i) old new
    → Written (at + (t + t)) (length es) (moved p d es (take (length es) (drop (at + (t + t)) cs))) new new'
    → Written at (3 * t) (party_row p t set low es spares e gains (drop at cs) i) old new'
unfolding party_row
party-done p t set low es spares e gains cs at i d old new new' long ed z m = record {
  front =
      let end : at + 3 * t ≡ at + (t + t) + length es = omega arith in
      rw (end, m.front, z.front, append_assoc, long, drop-drop (t + t) at cs, ed.eq);
}

pub ruleset moving_party = (rules, party-zeros, party-masks, party-fits, party-done)

-- ---- all parties'
-- the invariant at party i, counted from 0: the coins of the parties before it are written, k each
pub record Parting (F : ℕ → List ℕ) (k n at : ℕ) (old new : List ℕ) (place i : ℕ) : Type 0 where
  pub within : i ≤ n
  pub long : length new ≡ length old
  pub stands : place ≡ at + k * i
  pub front : take place (numbers new) ≡ take at (numbers old) ++ flat_map F (tab (λ j. j) i)

module _ (p n t set low : ℕ) (es spares : List ℕ) (e : ℕ) (gains coins : List ℕ) (at : ℕ) (old : List ℕ) where
  abbrev F : ℕ → List ℕ
  F = party_at p t set low es spares e gains (drop at (numbers coins))

  pub part-none : Parting F (3 * t) n at old old at 0
  unfolding tab flat_map
  part-none = record { within = omega arith; long = refl; stands = omega (arith, mul-zero (3 * t)); front = sym (append-nil (take at (numbers old))) }

  module _ (new : List ℕ) (place i : ℕ) (w : Parting F (3 * t) n at old new place i) where
    part_room : i < n → 3 * t * i + 3 * t ≤ 3 * t * n
    part_room l = omega (arith, mul-suc (3 * t) i, mul-le-mul_left {m = suc i} {n = n} (3 * t) (omega arith))

    pub part-lent : i < n → Lent p at (3 * t * n) coins old → Lent p place (3 * t) coins new
    part-lent l k = record {
      below = k.below;
      here = omega (arith, w.stands, part_room l, k.here);
      there = omega (arith, w.stands, part_room l, k.there, w.long);
    }

    pub part-fits : i < n → Lent p at (3 * t * n) coins old → length coins * 1 < 2 ^ 63 → Fits w64 (place + 3 * t)
    part-fits l k f = record { fits = omega (arith, w.stands, part_room l, k.here) }

    pub part-next :
        (new' : List ℕ) → i < n → length new' ≡ length new → Written place (3 * t) (party_row p t set low es spares e gains (drop place (numbers coins)) i) new new'
        → Parting F (3 * t) n at old new' (place + 3 * t) (i + 1)
    unfolding party_at
    part-next new' l same k =
        let there : drop (3 * t * i) (drop at (numbers coins)) ≡ drop place (numbers coins) =
        drop-drop (3 * t * i) at (numbers coins) ∙ ap (λ (m : ℕ). drop m (numbers coins)) (sym w.stands) in
        record {
          within = omega arith;
          long = same ∙ w.long;
          stands = omega (arith, w.stands, mul-suc (3 * t) i);
          front =
              k.front ∙ ap (λ (b : List ℕ). b ++ party_row p t set low es spares e gains (drop place (numbers coins)) i) w.front
              ∙ append_assoc (take at (numbers old)) (flat_map F (tab (λ j. j) i)) (party_row p t set low es spares e gains (drop place (numbers coins)) i)
              ∙ ap (λ (b : List ℕ). take at (numbers old) ++ b)
              (ap (λ (cs : List ℕ). flat_map F (tab (λ j. j) i) ++ party_row p t set low es spares e gains cs i) (sym there)
              ∙ sym (flat-snoc F (tab (λ j. j) i) i) ∙ ap (flat_map F) (sym (tab-next (λ j. j) i)));
        }

    pub part-done : n ≤ i → Advanced at (3 * t * n) (party_rows p n t set low es spares e gains (drop at (numbers coins))) old new place
    unfolding party_rows
    part-done l =
        let end : i ≡ n = omega (arith, w.within) in
        let there : place ≡ at + 3 * t * n = w.stands ∙ ap (λ (k : ℕ). at + 3 * t * k) end in
        record { front = rw (← there, ← end) w.front; place = there }

pub ruleset moving_parties = (rules, part-none, part-lent, part-fits, part-next, part-done)

-- ---- the gate's
pub truncated-done :
    (p n t set low : ℕ) (es spares f change row cs : List ℕ) (at : ℕ) (old new : List ℕ) (r : ℕ) → take (t + t + 1) change ≡ f
    → take (t + t) row ≡ gains_of p (t + t) es (take (t + t + 1) change)
    → Advanced at (3 * t * n) (party_rows p n t set low es spares (get_or change 0 0) (take (t + t) row) cs) old new r
    → Advanced at (3 * t * n) (truncated_coins p n t set low es spares f cs) old new r
unfolding truncated_coins
truncated-done p n t set low es spares f change row cs at old new r ef eg w =
    let first : get_or f 0 0 ≡ get_or change 0 0 = ap (λ (l : List ℕ). get_or l 0 0) (sym ef) ∙ get_or-take (t + t + 1) change 0 0 (omega arith) in
    rw (first, ← ef, ← eg) w

pub ruleset moving_truncated = (rules, front_below, truncated-done)
