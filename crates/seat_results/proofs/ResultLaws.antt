-- Laws of the results: the openings of a party's own outs.
--     copying       the loop that copies the shares of an out
--     dot_from_one  of mail in which each party sent one number: those that are missing weigh nothing
--     opening_one   the opening of an out
--     opening_all   the loop over the outs
-- Assumes nothing.
use mathlib.Core.Path.{◌≡◌, refl, sym, ap, ap₂, ◌∙◌}
use mathlib.Core.Bool.{true}
use mathlib.Core.List.{List, [], ◌∷◌, ◌++◌}
use Prim.Native.Nat.{ℕ, zero, suc, ◌+◌, ◌*◌, ◌/◌, ◌^◌, ◌<◌, ◌≤◌}
use native.Mathlib.Nat.{mod-eq_of_lt, mul-le-mul}
use native.Mathlib.Numerals.{add-one}
use native.Mathlib.Omega.{arith}
use borrow.Author.Rules.{rules}
use lib.ListN.{length, get_or, take, drop, set, length-set, length-append}
use lib.Seq.{take-suc-set, take_at, length-take-le}
use Rattle.numbers.specs.Tables.{tab}
use Rattle.numbers.specs.Bytes.{width, numbers, all_below, stored}
use Rattle.numbers.proofs.Tables.{tab-next, length-tab, get_or-tab, tab-ext}
use Rattle.numbers.proofs.Below.{at-all_below, all_below-take}
use Rattle.numbers.proofs.Fills.{Numbered, number-none, number-next, numbered-all}
use Rattle.field.specs.Mod.{add, mul}
use Rattle.field.specs.Field.{Is, Ready}
use Rattle.sharing_laws.specs.Interp.{weights, dot, interpolate}
use Rattle.sharing_laws.specs.Sharing.{opened}
use Rattle.sharing.proofs.Coding.{entry_below}
use Rattle.sharing_laws.proofs.Interpolation.{length-weights}
use Rattle.sharing_openings.proofs.Rows.{weights_below}
use Rattle.plan.specs.declared.Header.{Header}
use Rattle.plan.specs.File.{plan_of}
use Rattle.plan.specs.Planned.{Planned}
use Rattle.plan.proofs.Planned.{plan_t, plan_p, plan_n}
use Rattle.plan.proofs.Valid.{planned-ready}
use Rattle.seat_messages.specs.Messages.{from_each, opened_at}
use Rattle.seat_results.specs.Opened.{Openings, opened_by, opened_outs}
use Rattle.seat_messages.proofs.PointLaws.{plan_points_below, points-within, points-part, points-count}

-- ---- the shares of an out
-- the invariant: the first i of n stand
pub record Copied (n own j : ℕ) (mail d : List ℕ) (i : ℕ) : Type 0 where
  pub within : i ≤ n
  pub long : length d ≡ 15
  pub front : take i d ≡ from_each i own j mail

module _ (n own j : ℕ) (mail : List ℕ) where
  pub copy-none : (d : List ℕ) → length d ≡ 15 → Copied n own j mail d 0
  unfolding from_each tab
  copy-none d e = record { within = omega arith; long = e; front = refl }

  module _ (d : List ℕ) (i : ℕ) (h : Copied n own j mail d i) where
    pub copy_next : (v : ℕ) → n ≤ 15 → i < n → v ≡ get_or mail (own * i + j) 0 → Copied n own j mail (set d i v) (i + 1)
    unfolding from_each
    copy_next v few l e = record {
      within = omega arith;
      long = length-set d i v ∙ h.long;
      front = rw (add-one, take-suc-set d i v (omega (arith, h.long)), h.front, ← add-one i, tab-next, e);
    }

    pub copied : n ≤ i → take n d ≡ from_each n own j mail
    copied l = let e : i ≡ n = omega (arith, h.within) in ap (λ (m : ℕ). take m d) (sym e) ∙ h.front ∙ ap (λ (m : ℕ). from_each m own j mail) e

    near : own ≤ 65536 → n ≤ 15 → own * i ≤ 65536 * 15
    near m few = mul-le-mul {n₁ = own} {m₁ = i} {n₂ = 65536} {m₂ = 15} m (omega (arith, h.within))

    pub copy-fits : own ≤ 65536 → n ≤ 15 → own * i < 2 ^ 64
    copy-fits m few = omega (arith, near m few)

    pub copy-place : own ≤ 65536 → n ≤ 15 → j < own → own * i + j < 2 ^ 64
    copy-place m few l = omega (arith, near m few)

-- As it is: answers name this set, since the check leaves their goals open by `using` alone.
pub ruleset copying = (rules, copy-none, copy_next, copied, copy-fits, copy-place)

-- ---- an opening
pub shares_below : (p n own j : ℕ) (mail : List ℕ) → Ready p → all_below p mail ≡ true → all_below p (from_each n own j mail) ≡ true
unfolding from_each
shares_below p n own j mail r h =
    at-all_below p (from_each n own j mail) (λ i l.
    let m : i < n = omega (arith, length-tab (λ i. get_or mail (own * i + j) 0) n) in
    rw (get_or-tab (λ i. get_or mail (own * i + j) 0) n i 0 m) (entry_below p mail (own * i + j) r h))

pub shares_long : (n own j : ℕ) (mail : List ℕ) → length (from_each n own j mail) ≡ n
unfolding from_each
shares_long n own j mail = length-tab (λ i. get_or mail (own * i + j) 0) n

-- ---- of mail in which each party sent one number
from_one : (n : ℕ) (vs : List ℕ) → from_each n 1 0 vs ≡ tab (λ j. get_or vs j 0) n
unfolding from_each
from_one n vs = tab-ext (λ i. get_or vs (1 * i + 0) 0) (λ j. get_or vs j 0) n (λ i l. let e : 1 * i + 0 ≡ i = omega arith in ap (λ (k : ℕ). get_or vs k 0) e)

dot-nil : (p : ℕ) (ws : List ℕ) → dot p ws [] ≡ 0
unfolding dot
dot-nil p [] = refl
dot-nil p (w ∷ ws) = refl

add_zeros : (p w : ℕ) → 0 < p → add p (mul p w 0) 0 ≡ 0
unfolding add mul
add_zeros p w l = let z : w * 0 ≡ 0 = omega arith in rw (z, mod-eq_of_lt {n = 0} {m = p} l, mod-eq_of_lt {n = 0 + 0} {m = p} l)

dot_read : (p : ℕ) → 0 < p → (ws vs : List ℕ) (m : ℕ) → length ws ≤ m → dot p ws (tab (λ j. get_or vs j 0) m) ≡ dot p ws vs
unfolding dot tab
dot_read p l [] vs m h = refl
dot_read p l (w ∷ ws) vs zero h = absurd (omega arith)
dot_read p l (w ∷ ws) [] (suc m) h = rw (dot_read p l ws [] m (omega arith), dot-nil p ws) (add_zeros p w l)
dot_read p l (w ∷ ws) (v ∷ vs) (suc m) h = rw (dot_read p l ws vs m (omega arith))

pub dot_from_one : (p : ℕ) → 0 < p → (ws vs : List ℕ) (m : ℕ) → length ws ≤ m → dot p ws (from_each m 1 0 vs) ≡ dot p ws vs
dot_from_one p l ws vs m h = ap (dot p ws) (from_one m vs) ∙ dot_read p l ws vs m h

module _ (h : Header) (ws mail : List ℕ) (o : Openings h ws mail) (own j : ℕ) (d : List ℕ) (e : take h.n d ≡ from_each h.n own j (numbers mail)) where
  pub front_long : length (take h.n d) ≡ h.n
  front_long = ap length e ∙ shares_long h.n own j (numbers mail)

  pub front_below : Ready h.field.p → all_below h.field.p (take h.n d) ≡ true
  front_below r = rw e (shares_below h.field.p h.n own j (numbers mail) r o.mail_below)

  pub front_room : length ws ≤ length (take h.n d)
  front_room = omega (arith, front_long, o.short)

  pub front_few : length ws ≤ 65536
  front_few = omega (arith, o.short, o.few)

  pub opening-is : (v : ℕ) → Is h.field.p (dot h.field.p ws (take h.n d)) v → Is h.field.p (dot h.field.p ws (from_each h.n own j (numbers mail))) v
  opening-is v is = record { eq = is.eq ∙ ap (dot h.field.p ws) e; lt = is.lt }

pub ruleset opening_one = (rules, front_long, front_below, front_room, front_few, opening-is)

-- ---- the openings
-- the invariant: the first j of the own outs are opened
pub record Opened (p : ℕ) (ws : List ℕ) (n own : ℕ) (mail d₀ d : List ℕ) (j : ℕ) : Type 0 where
  pub within : j ≤ own
  pub long : length d ≡ length d₀
  pub is : Numbered (λ j. dot p ws (from_each n own j mail)) own d₀ d j

module _ (p : ℕ) (ws : List ℕ) (n own : ℕ) (mail : List ℕ) where
  pub open_none : (d : List ℕ) → own ≡ length d / width → Opened p ws n own mail d d 0
  open_none d e = record { within = omega arith; long = refl; is = number-none (λ j. dot p ws (from_each n own j mail)) own d (omega arith) }

  pub open_next : (d₀ d d' : List ℕ) (j v : ℕ) → Opened p ws n own mail d₀ d j → j < own → Ready p → Is p (dot p ws (from_each n own j mail)) v → d' ≡ stored d j v → Opened p ws n own mail d₀ d' (j + 1)
  open_next d₀ d d' j v h l r is st =
      let next : Numbered (λ j. dot p ws (from_each n own j mail)) own d₀ d' (j + 1) =
      number-next (λ j. dot p ws (from_each n own j mail)) own d₀ d j h.is v d' l is.eq (omega (arith, is.lt, r.small)) st in
      record { within = next.within; long = next.long; is = next }

  pub open_done : (d₀ d : List ℕ) (j : ℕ) → Opened p ws n own mail d₀ d j → own ≤ j → own ≡ length d₀ / width → numbers d ≡ opened_by p ws n (length d₀ / width) mail
  unfolding opened_by
  open_done d₀ d j h l e =
      numbered-all (λ j. dot p ws (from_each n own j mail)) own d₀ d j h.is l (omega arith) ∙ ap (λ (m : ℕ). opened_by p ws n m mail) e

-- As it is: answers name this set, since the check leaves their goals open by `using` alone.
pub ruleset opening_all = (rules, open_none, open_next, open_done)

-- ---- by the weights of the first t + 1 points
module _ (bs : List ℕ) (h : Header) (w : Planned bs h) (pts : List ℕ) (e : take h.n pts ≡ (plan_of bs).points) where
  low : h.t + 1 ≤ h.n
  low = omega (arith, w.threshold)

  pub firsts_in : h.t + 1 ≤ length pts
  firsts_in = points-within bs h w pts e (h.t + 1) low

  firsts : take (h.t + 1) pts ≡ take (h.t + 1) (plan_of bs).points
  firsts = points-part bs h w pts e (h.t + 1) low

  pub firsts_long : length (take (h.t + 1) pts) ≡ h.t + 1
  firsts_long = points-count bs h w pts e (h.t + 1) low

  pub firsts_below : all_below h.field.p (take (h.t + 1) pts) ≡ true
  firsts_below = rw firsts (all_below-take h.field.p (h.t + 1) (plan_of bs).points (plan_points_below bs h w))

  pub zero_below : 0 < h.field.p
  zero_below = omega (arith, w.p_low)

  pub room_long : (d : List ℕ) → length d ≡ 15 → length (take (h.t + 1) d) ≡ h.t + 1
  room_long d l = length-take-le (h.t + 1) d (omega (arith, low, w.n-high))

  pub room_sized : (d : List ℕ) → length d ≡ 15 → length (take (h.t + 1) d) ≡ length (take (h.t + 1) pts)
  room_sized d l = room_long d l ∙ sym firsts_long

  module _ (d ys : List ℕ) (is : ys ≡ weights h.field.p 0 (take (h.t + 1) pts)) where
    long : length ys ≡ h.t + 1
    long = ap length is ∙ length-weights h.field.p 0 (take (h.t + 1) pts) ∙ firsts_long

    front : take (h.t + 1) (ys ++ drop (h.t + 1) d) ≡ ys
    front = take_at ys (drop (h.t + 1) d) (h.t + 1) long

    pub weights-in : h.t + 1 ≤ length (ys ++ drop (h.t + 1) d)
    weights-in = rw length-append (omega (arith, long))

    pub weights-long : length (take (h.t + 1) (ys ++ drop (h.t + 1) d)) ≡ h.t + 1
    weights-long = ap length front ∙ long

    pub weights-open : (mail : List ℕ) → all_below (plan_of bs).p (numbers mail) ≡ true → Openings h (take (h.t + 1) (ys ++ drop (h.t + 1) d)) mail
    weights-open mail m = record {
      few = w.n-high;
      short = omega (arith, weights-long, w.threshold);
      weights_below = rw (front, is) (weights_below (planned-ready _ _ w).prime 0 (take (h.t + 1) pts));
      mail_below = rw (← plan_p w) m;
    }

    pub results-are : (own : ℕ) (mail out : List ℕ) → numbers out ≡ opened_by h.field.p (take (h.t + 1) (ys ++ drop (h.t + 1) d)) h.n own mail → numbers out ≡ opened_outs (plan_of bs) own mail
    unfolding opened_by opened_outs opened_at opened interpolate
    results-are own mail out q =
        q
        ∙ ap (λ (ws : List ℕ). opened_by h.field.p ws h.n own mail) (front ∙ is ∙ ap (weights h.field.p 0) firsts)
        ∙ sym
        (ap (λ (n : ℕ). tab (λ j. dot (plan_of bs).p (weights (plan_of bs).p 0 (take ((plan_of bs).t + 1) (plan_of bs).points)) (from_each n own j mail)) own) (plan_n w)
        ∙ ap₂ (λ (p t : ℕ). tab (λ j. dot p (weights p 0 (take (t + 1) (plan_of bs).points)) (from_each h.n own j mail)) own) (plan_p w) (plan_t w))

-- As it is: answers name this set, since the check leaves their goals open by `using` alone.
pub ruleset resulting = (rules, firsts_in, firsts_long, firsts_below, zero_below, room_long, room_sized, weights-in, weights-long, weights-open, results-are)
