-- What each way through the code that moves coins says of its definition.
--     Gathered, gathering        the points of a set's members
--     Writing                    coins that are written one after the other
--     moving                     the coins of one dealing
--     moving_dealing             by the change of what its dealer deals
--     Blocking, moving_blocks    the coins of several dealings
-- Assumes nothing.
use mathlib.Core.Path.{◌≡◌, refl, sym, ap, ap₂, ◌∙◌}
use mathlib.Core.Bool.{Bool, true, false, cond}
use mathlib.Core.List.{List, [], ◌∷◌, ◌++◌, map, tail, append_assoc, append-nil}
use Prim.Native.Nat.{ℕ, suc, ◌+◌, ◌-◌, ◌*◌, ◌/◌, ◌%◌, ◌^◌, ◌<◌, ◌≤◌}
use native.Mathlib.Numerals.{add-one}
use native.Mathlib.Nat.{add-zero, mul-zero, mul-suc, mul-le-mul, mul-le-mul_left}
use native.Mathlib.Omega.{arith}
use borrow.Author.Rules.{rules}
use lib.ListN.{length, get_or, take, drop, set, length-set, length-drop, length-map, drop_of_length-le, get_or-eq_default}
use lib.Seq.{take-suc-set, take-set-le, length-take-le, get_or-drop, drop-cons, drop-drop}
use mir.Syntax.{w64}
use mir.Val.{Fits}
use Rattle.numbers.specs.Tables.{tab}
use Rattle.numbers.specs.Bytes.{width, limit, numbers, all_below, stored}
use Rattle.numbers.proofs.Tables.{tab-zero, tab-next, tab-ext, length-tab, get_or-tab}
use Rattle.numbers.proofs.Bytes.{numbers-length, numbers-stored, length-stored}
use Rattle.field.specs.Mod.{add, mul, sub}
use Rattle.field.specs.Field.{Below2, Is, is_wide, kept, sum_bound, Ready}
use Rattle.field.proofs.SumLaws.{kept_same, kept-bound, bound-more}
use Rattle.numbers.proofs.Below.{all_below-take, all_below-drop}
use Rattle.field.proofs.Solve.{Canon, #, quote, solve}
use Rattle.sharing_laws.specs.Poly.{sum_of, scale}
use Rattle.sharing_laws.specs.Interp.{All}
use Rattle.sharing_laws.proofs.Alls.{below_canon}
use Rattle.sharing.proofs.Coding.{entry_below, step_value, is_by, ready_positive}
use Rattle.plan_coalition.specs.Coalitions.{in_set, members_from, members}
use Rattle.match_moves.specs.Moves.{member_points, moved, change_of, moved_blocks, Lent, Written, Advanced}

-- ---- the points of a set's members: those of members below i stand in front
pub entry-past : (list : List ℕ) (i : ℕ) → length list ≤ i → 0 ≡ get_or list i 0
entry-past list i l = sym (get_or-eq_default list 0 {n = i} l)

pub record Gathered (points : List ℕ) (coalition : ℕ) (d : List ℕ) (k i : ℕ) : Type 0 where
  pub low : 1 ≤ i
  pub high : i ≤ 17
  pub few : k + 1 ≤ i
  pub long : length d ≡ 16
  pub rest : take k d ++ map (λ j. get_or points (j - 1) 0) (members_from coalition i (17 - i)) ≡ member_points points coalition

pub gather_none : (points : List ℕ) (coalition : ℕ) (d : List ℕ) → length d ≡ 16 → Gathered points coalition d 0 1
unfolding members member_points
gather_none points coalition d e = record { low = omega arith; high = omega arith; few = omega arith; long = e; rest = refl }

-- one more where the test holds
front_with : (at : ℕ → ℕ) (coalition : ℕ) (d : List ℕ) (k i n : ℕ) → k < length d → (t : Bool) → in_set coalition i ≡ t
    → take (k + cond t 1 0) (set d k (at i)) ++ map at (members_from coalition (suc i) n) ≡ take k d ++ map at (members_from coalition i (suc n))
unfolding members_from
front_with at coalition d k i n l true e = rw (e, add-one, take-suc-set d k (at i) l, append_assoc)
front_with at coalition d k i n l false e = rw (e, add-zero, take-set-le k d k (at i) (omega arith))

module _ (points : List ℕ) (coalition : ℕ) (d : List ℕ) (k i : ℕ) (h : Gathered points coalition d k i) where
  abbrev at : ℕ → ℕ
  at j = get_or points (j - 1) 0

  pub gather_place : i ≤ 16 → k < length d
  gather_place l = omega (arith, h.few, h.long)

  pub gather_next : (t : Bool) (o v : ℕ) → i ≤ 16 → v ≡ get_or points (i - 1) 0 → t ≡ in_set coalition i → o ≡ cond t 1 0 → o ≤ 1
      → Gathered points coalition (set d k v) (k + o) (i + 1)
  gather_next t o v l ev et eo le =
      let e : 17 - i ≡ suc (17 - suc i) = omega (arith, h.high) in
      record {
        low = omega arith;
        high = omega arith;
        few = omega (arith, h.few);
        long = length-set d k v ∙ h.long;
        rest =
            rw (ev, eo, et, add-one) (front_with at coalition d k i (17 - suc i) (gather_place l) (in_set coalition i) refl
            ∙ ap (λ (n : ℕ). take k d ++ map at (members_from coalition i n)) (sym e) ∙ h.rest);
      }

  pub gathered : 16 < i → take k d ≡ member_points points coalition
  unfolding members_from
  gathered l =
      let e : 17 - i ≡ 0 = omega (arith, h.high) in
      sym (append-nil (take k d)) ∙ ap (λ (n : ℕ). take k d ++ map at (members_from coalition i n)) (sym e) ∙ h.rest

  pub gathered_few : k ≤ 16
  gathered_few = omega (arith, h.few, h.high)

  pub gathered_count : 16 < i → k ≡ length (members coalition)
  unfolding member_points
  gathered_count l = sym (length-take-le k d (omega (arith, h.few, h.high, h.long))) ∙ ap length (gathered l) ∙ length-map (members coalition) at

pub ruleset gathering = (rules, entry-past, gather_none, gather_place, gather_next, gathered, gathered_few, gathered_count)

-- ---- the coins of one dealing
-- coin m, moved
abbrev pub moved_at : ℕ → ℕ → List ℕ → List ℕ → ℕ → ℕ → ℕ
moved_at p d es cs at m = add p (get_or cs (at + m) 0) (mul p d (get_or es m 0))

moved_front : (p d : ℕ) (es cs : List ℕ) → length es ≤ length cs → tab (λ m. add p (get_or cs m 0) (mul p d (get_or es m 0))) (length es) ≡ moved p d es (take (length es) cs)
unfolding moved tab sum_of scale
moved_front p d [] cs l = refl
moved_front p d (e ∷ es) [] l = absurd (omega arith)
moved_front p d (e ∷ es) (c ∷ cs) l = ap (λ (r : List ℕ). add p c (mul p d e) ∷ r) (moved_front p d es cs (omega arith))

moved-tab : (p d : ℕ) (es cs : List ℕ) (at : ℕ) → at + length es ≤ length cs → tab (moved_at p d es cs at) (length es) ≡ moved p d es (take (length es) (drop at cs))
moved-tab p d es cs at l =
    tab-ext (moved_at p d es cs at) (λ m. add p (get_or (drop at cs) m 0) (mul p d (get_or es m 0))) (length es)
    (λ m o. ap (λ (c : ℕ). add p c (mul p d (get_or es m 0))) (sym (get_or-drop at cs m 0)))
    ∙ moved_front p d es (drop at cs) (omega (arith, length-drop at cs))

-- ---- coins that are written one after the other
-- the invariant at coin j of the k coins f 0, f 1, ..
pub record Writing (f : ℕ → ℕ) (k at : ℕ) (old new : List ℕ) (j : ℕ) : Type 0 where
  pub within : j ≤ k
  pub room : at + k ≤ length new / width
  pub long : length new ≡ length old
  pub front : take (at + j) (numbers new) ≡ take at (numbers old) ++ tab f j

module _ (f : ℕ → ℕ) (p k at : ℕ) (coins old : List ℕ) where
  pub write-none : Lent p at k coins old → Writing f k at old old 0
  write-none l = record { within = omega arith; room = l.there; long = refl; front = rw (add-zero, tab-zero f, append-nil) }

module _ (f : ℕ → ℕ) (k at : ℕ) (old new : List ℕ) (j : ℕ) (w : Writing f k at old new j) where
  pub write-place : (coins : List ℕ) → j < k → length coins * 1 < 2 ^ 63 → at + k ≤ length coins / width → Fits w64 (at + j)
  write-place coins l m r = record { fits = omega arith }

  pub write_next : (v : ℕ) (new' : List ℕ) → v < limit → j < k → v ≡ f j → new' ≡ stored new (at + j) v → Writing f k at old new' (j + 1)
  write_next v new' small l ev en =
      let e : at + (j + 1) ≡ suc (at + j) = omega arith in
      record {
        within = omega arith;
        room = rw (en, length-stored) w.room;
        long = ap length en ∙ length-stored new (at + j) v ∙ w.long;
        front =
            rw (en, numbers-stored new (at + j) v small, e, take-suc-set (numbers new) (at + j) v (omega (arith, w.room, numbers-length new)), w.front, append_assoc, tab-next, ev);
      }

  pub written_all : k ≤ j → take (at + k) (numbers new) ≡ take at (numbers old) ++ tab f k
  written_all l = let e : j ≡ k = omega (arith, w.within) in rw (← e) w.front

-- ---- moved
pub move-none : (p d : ℕ) (es : List ℕ) (at : ℕ) (coins old : List ℕ) → Lent p at (length es) coins old → Writing (moved_at p d es (numbers coins) at) (length es) at old old 0
move-none p d es at coins old l = write-none (moved_at p d es (numbers coins) at) p (length es) at coins old l

module _ (p d : ℕ) (es : List ℕ) (at : ℕ) (coins old new : List ℕ) (j : ℕ) (w : Writing (moved_at p d es (numbers coins) at) (length es) at old new j) where
  pub move-next :
      (c v : ℕ) (new' : List ℕ) → Ready p → j < length es → c ≡ get_or (numbers coins) (at + j) 0 → Is p ((c + d * get_or es j 0) % p) v → new' ≡ stored new (at + j) v
      → Writing (moved_at p d es (numbers coins) at) (length es) at old new' (j + 1)
  move-next c v new' r l ec ev en =
      let is : v ≡ moved_at p d es (numbers coins) at j = ev.eq ∙ step_value p c d (get_or es j 0) ∙ ap (λ (x : ℕ). add p x (mul p d (get_or es j 0))) ec in
      write_next (moved_at p d es (numbers coins) at) (length es) at old new j w v new' (omega (arith, ev.lt, r.small)) l is en

  pub move-done : length es ≤ j → at + length es ≤ length coins / width → Written at (length es) (moved p d es (take (length es) (drop at (numbers coins)))) old new
  move-done l m = record {
    front =
        written_all (moved_at p d es (numbers coins) at) (length es) at old new j w l
        ∙ ap (λ (b : List ℕ). take at (numbers old) ++ b) (moved-tab p d es (numbers coins) at (omega (arith, numbers-length coins)));
  }

-- one coin c moved by d times e, by the sums of the prime q, which is p
module _ (p q c d e : ℕ) (same_p : q ≡ p) (r : Ready p) (lc : c < p) (ld : d < p) (le : e < p) where
  pub coin_low : c ≤ 4294967296 * q
  coin_low = omega (arith, same_p)

  pub coin_pair : Below2 q d e
  coin_pair = rw same_p (record { left = ld; right = le })

  coin_small : c ≤ sum_bound p 1
  unfolding sum_bound
  coin_small = pick (is_wide p)
    where
      pick : (w : Bool) → c ≤ cond w (4294967296 * p) (1 * (p * p))
      pick true = omega arith
      pick false = omega (arith, mul-le-mul {n₁ = 1} {m₁ = p} {n₂ = p} {m₂ = p} (omega arith) (omega arith))

  module _ (x : ℕ) (ex : x ≡ kept q (c + d * e)) where
    pub coin_bound : x ≤ sum_bound q 16
    coin_bound = rw (ex, same_p) (omega (arith, kept-bound p r.small d e ld le 1 c coin_small, bound-more p r.small 2 16 (omega arith)))

    pub coin_moved : (v : ℕ) → Is q (x % q) v → Is p ((c + d * e) % p) v
    coin_moved v i = is_by p _ _ v ((kept_same p (c + d * e)).rest) (rw (ex, same_p) at i)

pub ruleset moving = (rules, entry_below, move-none, write-place, move-next, move-done)

-- ---- by the change of what a dealer deals
pub sum-nil : (p : ℕ) (cs : List ℕ) → sum_of p cs [] ≡ cs
unfolding sum_of
sum-nil p [] = refl
sum-nil p (c ∷ cs) = refl

pub moved-stay : (p : ℕ) → 0 < p → (es cs : List ℕ) → length es ≤ length cs → All (Canon p) cs → moved p 0 es cs ≡ cs
unfolding moved sum_of scale
moved-stay p above [] cs l can = sum-nil p cs
moved-stay p above (e ∷ es) [] l can = absurd (omega arith)
moved-stay p above (e ∷ es) (c ∷ cs) l can =
    let is : Canon p c = can.0 in
    ap₂ (λ (x : ℕ) (l : List ℕ). x ∷ l) (solve p (search (quote, # c, # e)) (omega arith)) (moved-stay p above es cs (omega arith) can.1)

module _ (p : ℕ) (es coins : List ℕ) (at : ℕ) (m : Bool) (s z : ℕ) (old new : List ℕ) where
  -- a member's coins stay
  pub member_kept : 0 < p → m ≡ true → Lent p at (length es) coins old → Written at (length es) (take (length es) (drop at (numbers coins))) old new
      → Written at (length es) (moved p (change_of p m s z) es (take (length es) (drop at (numbers coins)))) old new
  unfolding change_of
  member_kept above e lent w =
      let long : length (take (length es) (drop at (numbers coins))) ≡ length es =
      length-take-le (length es) (drop at (numbers coins)) (omega (arith, lent.here, numbers-length coins, length-drop at (numbers coins))) in
      let below : all_below p (take (length es) (drop at (numbers coins))) ≡ true = all_below-take p (length es) _ (all_below-drop p at (numbers coins) lent.below) in
      rw (e, moved-stay p above es (take (length es) (drop at (numbers coins))) (omega (arith, long)) (below_canon p _ below)) w

  -- another's move by the change
  pub other_moved : (d : ℕ) → m ≡ false → Is p (sub p z s) d → Written at (length es) (moved p d es (take (length es) (drop at (numbers coins)))) old new
      → Written at (length es) (moved p (change_of p m s z) es (take (length es) (drop at (numbers coins)))) old new
  unfolding change_of
  other_moved d e is w = rw (e, ← is.eq) w

pub ruleset moving_dealing = (rules, ready_positive, member_kept, other_moved)

-- ---- the coins of several dealings
-- the invariant at party i, counted from 0: what is written, and what is left to write from its place on
pub record Blocking (p coalition : ℕ) (es ss zs cs : List ℕ) (at m : ℕ) (old new : List ℕ) (place i : ℕ) : Type 0 where
  pub within : i ≤ m
  pub long : length new ≡ length old
  pub stands : place ≡ at + length es * i
  pub rest :
      take place (numbers new) ++ moved_blocks p (length es) coalition es (drop i (tab suc m)) (drop i ss) (drop i zs) (drop place cs)
      ≡ take at (numbers old) ++ moved_blocks p (length es) coalition es (tab suc m) ss zs (drop at cs)

module _ (p coalition : ℕ) (es ss zs coins : List ℕ) (at m : ℕ) (old : List ℕ) where
  pub block_none : Blocking p coalition es ss zs (numbers coins) at m old old at 0
  block_none = record { within = omega arith; long = refl; stands = omega (arith, mul-zero (length es)); rest = refl }

  module _ (new : List ℕ) (place i : ℕ) (w : Blocking p coalition es ss zs (numbers coins) at m old new place i) where
    step_room : i < m → length es * i + length es ≤ length es * m
    step_room l = omega (arith, mul-suc (length es) i, mul-le-mul_left {m = suc i} {n = m} (length es) (omega arith))

    pub block-lent : i < m → Lent p at (length es * m) coins old → Lent p place (length es) coins new
    block-lent l k = record {
      below = k.below;
      here = omega (arith, w.stands, step_room l, k.here);
      there = omega (arith, w.stands, step_room l, k.there, w.long);
    }

    pub block-fits : i < m → Lent p at (length es * m) coins old → length coins * 1 < 2 ^ 63 → Fits w64 (place + length es)
    block-fits l k f = record { fits = omega (arith, w.stands, step_room l, k.here) }

    front-next :
        (new' block : List ℕ) → Written place (length es) block new new'
        → (tail : List ℕ) → take (place + length es) (numbers new') ++ tail ≡ take place (numbers new) ++ (block ++ tail)
    front-next new' block k tail = rw (k.front, append_assoc)

    pub block-next :
        (new' : List ℕ) → i < m
        → Written place (length es) (moved p (change_of p (in_set coalition (i + 1)) (get_or ss i 0) (get_or zs i 0)) es (take (length es) (drop place (numbers coins)))) new new'
        → length new' ≡ length new
        → Blocking p coalition es ss zs (numbers coins) at m old new' (place + length es) (i + 1)
    unfolding moved_blocks
    block-next new' l k same =
        let d : ℕ = change_of p (in_set coalition (i + 1)) (get_or ss i 0) (get_or zs i 0) in
        let at_i : drop i (tab suc m) ≡ suc i ∷ drop (suc i) (tab suc m) =
        drop-cons (tab suc m) i 0 (rw length-tab l) ∙ rw (get_or-tab suc m i 0 l) in
        let s-i : get_or (drop i ss) 0 0 ≡ get_or ss i 0 = get_or-drop i ss 0 0 ∙ rw add-zero in
        let z-i : get_or (drop i zs) 0 0 ≡ get_or zs i 0 = get_or-drop i zs 0 0 ∙ rw add-zero in
        let is : d ≡ change_of p (in_set coalition (suc i)) (get_or (drop i ss) 0 0) (get_or (drop i zs) 0 0) =
        rw (s-i, z-i) (ap (λ (k : ℕ). change_of p (in_set coalition k) (get_or ss i 0) (get_or zs i 0)) (omega arith)) in
        record {
          within = omega arith;
          long = same ∙ w.long;
          stands = omega (arith, w.stands, mul-suc (length es) i);
          rest =
              front-next new' (moved p d es (take (length es) (drop place (numbers coins)))) k _
              ∙ rw (← drop-drop 1 i ss, ← drop-drop 1 i zs, ← drop-drop (length es) place (numbers coins), is, add-one)
              (rw at_i at w.rest);
        }

    pub block-done :
        m ≤ i → Advanced at (length es * m) (moved_blocks p (length es) coalition es (tab suc m) ss zs (drop at (numbers coins))) old new place
    unfolding moved_blocks
    block-done l =
        let e : i ≡ m = omega (arith, w.within) in
        let there : place ≡ at + length es * m = w.stands ∙ ap (λ (k : ℕ). at + length es * k) e in
        let none : drop i (tab suc m) ≡ [] = drop_of_length-le (tab suc m) {i = i} (rw length-tab l) in
        record {
          front = ap (λ (k : ℕ). take k (numbers new)) (sym there) ∙ sym (append-nil (take place (numbers new))) ∙ (rw none at w.rest);
          place = there;
        }

-- As it is: answers name this set, since the check leaves their goals open by `using` alone.
pub ruleset moving_blocks = (rules, entry_below, block_none, block-lent, block-fits, block-next, block-done)
