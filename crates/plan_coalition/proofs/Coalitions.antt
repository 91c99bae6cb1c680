-- Coalitions: bits and members.
--     member_in, in_member           the members are the parties whose bit is set
--     members_ascending, ascending_distinct     they stand in order, and differ
--     member_party                   in a set that a plan admits, each is a party of the plan
--     bits                           what closes the needs of the functions over a set
-- Assumes nothing.
use mathlib.Core.Path.{◌≡◌, refl, sym, ap, ◌∙◌}
use mathlib.Core.Logic.{◌≢◌, ⊎_elim}
use mathlib.Core.Bool.{Bool, true, false, not, cond}
use mathlib.Core.List.Memᴰ
use mathlib.Core.List.{List, [], ◌∷◌, Memᴰ}
use Prim.Native.Nat.{ℕ, zero, suc, ◌+◌, ◌-◌, ◌/◌, ◌%◌, ◌^◌, ◌<◌, ◌≤◌}
use native.Mathlib.Nat.{mod-eq_of_lt, div-eq_of_lt, div-lt_iff_lt-mul, div-one, div-div-eq-div-mul, pow-suc, lt_of_lt_of_le, one-mul, eq-or-lt_of_le}
use native.Mathlib.Omega.{arith}
use borrow.Author.Rules.{rules}
use borrow.Author.Tests.{ltb-true, lt-ltb, le-ltb, lt-leb, eqb-true, eqb-false, ne_eqb, leb-true, leb-false}
use mir.Syntax.{w16}
use mir.Val.{Fits, bool_byte}
use lib.Bits.{bit_and, and_mask}
use lib.Count.{ones, ones_step}
use Rattle.std.proofs.lemmas.Nat.{ones-le}
use lib.Pow.{pow_pos, pow_mono}
use lib.Dec.{eqb, leb, ltb}
use lib.ListN.{length}
use Rattle.sharing_laws.specs.Interp.{All, Distinct}
use Rattle.plan.specs.declared.Header.{Header}
use Rattle.plan.specs.File.{plan_of}
use Rattle.plan.specs.Planned.{Planned}
use Rattle.plan.proofs.Planned.{plan_n, plan_t}
use Rattle.plan_coalition.specs.Coalitions.{in_set, members_from, members, set_fits, set_ok}
use Rattle.numbers.proofs.Truth.{both_true}

-- ---- one bit
-- a bit at or above n of a number below 2 ^ n is none
bit-none : (set n i : ℕ) → set < 2 ^ n → n < i → in_set set i ≡ false
unfolding in_set
bit-none set n i l m =
    let z : set / 2 ^ (i - 1) ≡ 0 = div-eq_of_lt (lt_of_lt_of_le l (pow_mono {i = n} {j = i - 1} (omega arith))) in
    rw z

pub bit_past : (set i : ℕ) → Fits w16 set → 16 < i → false ≡ in_set set i
bit_past set i f l = sym (bit-none set 16 i f.fits l)

pub bit_first : (set i : ℕ) → i ≡ 0 → eqb (bit_and set 1) 1 ≡ in_set set i
unfolding in_set
bit_first set i e = rw (e, and_mask set 1, div-one set)

pub bit_at : (set i : ℕ) → eqb (bit_and (set / 2 ^ (i - 1)) 1) 1 ≡ in_set set i
unfolding in_set
bit_at set i = rw (and_mask (set / 2 ^ (i - 1)) 1)

-- ---- the members are counted by their bits
one_more : (t : Bool) (i : ℕ) (xs : List ℕ) → length (cond t (i ∷ xs) xs) ≡ bool_byte t + length xs
one_more true i xs = omega arith
one_more false i xs = omega arith

bit_of : (x : ℕ) → bool_byte (eqb (x % 2) 1) ≡ x % 2
bit_of x = pick (eqb (x % 2) 1) refl
  where
    pick : (t : Bool) → eqb (x % 2) 1 ≡ t → bool_byte t ≡ x % 2
    pick true e = omega (arith, eqb-true (x % 2) 1 e)
    pick false e = omega (arith, eqb-false (x % 2) 1 e)

in_bit : (set j : ℕ) → in_set set (suc j) ≡ eqb (set / 2 ^ j % 2) 1
unfolding in_set
in_bit set j = let e : suc j - 1 ≡ j = omega arith in rw e

halved : (set j : ℕ) → set / 2 ^ j / 2 ≡ set / 2 ^ suc j
halved set j = div-div-eq-div-mul set (2 ^ j) 2 ∙ rw (pow-suc 2 j)

-- of the k parties from j + 1 on, where no party above them is named
members_from-ones : (set k j : ℕ) → set / 2 ^ j < 2 ^ k → length (members_from set (suc j) k) ≡ ones (set / 2 ^ j)
unfolding members_from ones
members_from-ones set zero j l = let z : set / 2 ^ j ≡ 0 = omega arith in rw z
members_from-ones set (suc k) j l =
    let e : set / 2 ^ j / 2 ≡ set / 2 ^ suc j = halved set j in
    let m : set / 2 ^ suc j < 2 ^ k = omega (arith, e, pow-suc 2 k) in
    one_more (in_set set (suc j)) (suc j) (members_from set (suc (suc j)) k)
    ∙ rw (members_from-ones set k (suc j) m, in_bit set j, bit_of (set / 2 ^ j), ← e) (sym (ones_step (set / 2 ^ j)))

module _ (set k : ℕ) (f : Fits w16 set) (e : k ≡ ones set) where
  pub members_ones : k ≡ length (members set)
  unfolding members
  members_ones = e ∙ sym (members_from-ones set 16 0 (rw (div-one set) f.fits) ∙ ap ones (div-one set))

  pub members-le : k ≤ 16
  members-le = omega (arith, e, ones-le 16 set f.fits)

-- ---- a set that a plan admits
pub above_bit : (set n : ℕ) → n < 16 → not (eqb (set / 2 ^ n) 0) ≡ leb (2 ^ n) set
above_bit set n l = pick (leb (2 ^ n) set) refl
  where
    pick : (t : Bool) → leb (2 ^ n) set ≡ t → not (eqb (set / 2 ^ n) 0) ≡ t
    pick true e =
        let le : 2 ^ n ≤ set = leb-true (2 ^ n) set e in
        rw (ne_eqb (set / 2 ^ n) 0 (λ z. omega (arith, (div-lt_iff_lt-mul {k = 2 ^ n} {x = set} {y = 1} (pow_pos n)).0 (omega arith), one-mul (2 ^ n))))
    pick false e = rw (div-eq_of_lt (leb-false (2 ^ n) set e))

pub above-none : (set n : ℕ) → Fits w16 set → 16 ≤ n → false ≡ leb (2 ^ n) set
above-none set n f l = rw (lt-leb (2 ^ n) set (lt_of_lt_of_le f.fits (pow_mono {i = 16} {j = n} l)))

leb-ltb : (a b : ℕ) (t : Bool) → t ≡ leb a b → ltb b a ≡ not t
leb-ltb a b true e = le-ltb b a (leb-true a b (sym e))
leb-ltb a b false e = lt-ltb b a (leb-false a b (sym e))

module _ (n most set : ℕ) (t : Bool) (e : t ≡ leb (2 ^ n) set) where
  pub set_above : t ≡ true → false ≡ set_fits n most set
  set_above f = rw (leb-ltb (2 ^ n) set t e, f)

  pub set_within : t ≡ false → (k : ℕ) → k ≡ length (members set) → leb k most ≡ set_fits n most set
  set_within f k q = rw (leb-ltb (2 ^ n) set t e, f, q)

-- the plan's own words for it
pub set_ok_lem : (bs : List ℕ) (h : Header) (set : ℕ) → Planned bs h → set_fits h.n h.t set ≡ set_ok (plan_of bs) set
unfolding set_ok
set_ok_lem bs h set p = rw (plan_n p, plan_t p)

pub ruleset bits = (rules, bit_past, bit_first, bit_at, members_ones, members-le, above_bit, above-none, set_above, set_within)

-- ---- the members
-- numbers from a on, each above the one before it
abbrev pub Ascending : ℕ → List ℕ → Type 0
Ascending a [] = Unit
Ascending a (x ∷ xs) = (a ≤ x) × Ascending (suc x) xs

-- what holds of a member among the k parties from i on
pub record Among (set i k m : ℕ) : Type 0 where
  pub from : i ≤ m
  pub below : m < i + k
  pub bit : in_set set m ≡ true

module _ (set : ℕ) where
  wider : (i k m : ℕ) → Among set (suc i) k m → Among set i (suc k) m
  wider i k m a = record { from = omega (arith, a.from); below = omega (arith, a.below); bit = a.bit }

  first : (i k m : ℕ) → in_set set i ≡ true → m ≡ i → Among set i (suc k) m
  first i k m e q = record { from = omega arith; below = omega arith; bit = ap (in_set set) q ∙ e }

  among_step : (i k m : ℕ) (xs : List ℕ) (t : Bool) → in_set set i ≡ t → (Memᴰ m xs → Among set (suc i) k m) → Memᴰ m (cond t (i ∷ xs) xs) → Among set i (suc k) m
  among_step i k m xs true e rest w = ⊎_elim (first i k m e) (λ v. wider i k m (rest v)) (Memᴰ.cases_cons w)
  among_step i k m xs false e rest w = wider i k m (rest w)

  among : (k i m : ℕ) → Memᴰ m (members_from set i k) → Among set i k m
  unfolding members_from
  among zero i m w = absurd (Memᴰ.not-nil w)
  among (suc k) i m w = among_step i k m (members_from set (suc i) k) (in_set set i) refl (among k (suc i) m) w

  there_step : (i m : ℕ) (xs : List ℕ) (t : Bool) → Memᴰ m xs → Memᴰ m (cond t (i ∷ xs) xs)
  there_step i m xs true w = Memᴰ.tail w
  there_step i m xs false w = w

  there : (k i m : ℕ) → Among set i k m → Memᴰ m (members_from set i k)
  unfolding members_from
  there zero i m a = absurd (omega (arith, a.from, a.below))
  there (suc k) i m a =
      ⊎_elim
      (λ q. let e : in_set set i ≡ true = ap (in_set set) q ∙ a.bit in rw e (Memᴰ.head (sym q)))
      (λ l. there_step i m (members_from set (suc i) k) (in_set set i) (there k (suc i) m (record { from = l; below = omega (arith, a.below); bit = a.bit })))
      (eq-or-lt_of_le a.from)

  rises_on : (a b : ℕ) (xs : List ℕ) → a ≤ b → Ascending b xs → Ascending a xs
  rises_on a b [] l h = tt
  rises_on a b (x ∷ xs) l h = (omega (arith, h.0), h.1)

  rises_step : (i : ℕ) (xs : List ℕ) (t : Bool) → Ascending (suc i) xs → Ascending i (cond t (i ∷ xs) xs)
  rises_step i xs true h = (omega arith, h)
  rises_step i xs false h = rises_on i (suc i) xs (omega arith) h

  rises : (k i : ℕ) → Ascending i (members_from set i k)
  unfolding members_from
  rises zero i = tt
  rises (suc k) i = rises_step i (members_from set (suc i) k) (in_set set i) (rises k (suc i))

  -- a member's bit is set
  pub member_in : (m : ℕ) → Memᴰ m (members set) → Among set 1 16 m
  unfolding members
  member_in m w = among 16 1 m w

  -- a party whose bit is set is a member
  pub in_member : (m : ℕ) → 1 ≤ m → m ≤ 16 → in_set set m ≡ true → Memᴰ m (members set)
  unfolding members
  in_member m l h e = there 16 1 m (record { from = l; below = omega arith; bit = e })

  pub members_ascending : Ascending 1 (members set)
  unfolding members
  members_ascending = rises 16 1

-- what holds of each member holds of all
pub all-members : (P : ℕ → Type 0) (xs : List ℕ) → ((m : ℕ) → Memᴰ m xs → P m) → All P xs
all-members P [] h = tt
all-members P (x ∷ xs) h = (h x (Memᴰ.head refl), all-members P xs (λ m w. h m (Memᴰ.tail w)))

away : (p x a : ℕ) (xs : List ℕ) → x < a → x < p → Ascending a xs → All (λ y. y < p) xs → All (λ y. y % p ≢ x % p) xs
away p x a [] l k h s = tt
away p x a (y ∷ xs) l k h s = (
  λ e. omega (arith, e, mod-eq_of_lt {n = y} {m = p} s.0, mod-eq_of_lt {n = x} {m = p} k, h.0),
  away p x (suc y) xs (omega (arith, h.0)) k h.1 s.1,
)

-- numbers below p that ascend are distinct modulo p
pub ascending_distinct : (p a : ℕ) (xs : List ℕ) → Ascending a xs → All (λ y. y < p) xs → Distinct p xs
ascending_distinct p a [] h s = tt
ascending_distinct p a (x ∷ xs) h s = (away p x (suc x) xs (omega arith) s.0 h.1 s.1, ascending_distinct p (suc x) xs h.1 s.1)

-- ---- in a set that a plan admits every member is a party of the plan, and there are at most t
not_above : (set n m : ℕ) → set < 2 ^ n → in_set set m ≡ true → (n < m) → ⊥
not_above set n m l e k = let z : true ≡ false = sym e ∙ bit-none set n m l k in let y : ◌≡◌ {A = ℕ} 0 1 = cc in omega arith

module _ (n t set : ℕ) (h : set_fits n t set ≡ true) where
  pub member_party : (m : ℕ) → Memᴰ m (members set) → m ≤ n
  member_party m w =
      let l : set < 2 ^ n = ltb-true set (2 ^ n) (both_true (ltb set (2 ^ n)) (leb (length (members set)) t) h).0 in
      leb-true m n (pick (leb m n) refl l)
    where
      pick : (b : Bool) → leb m n ≡ b → set < 2 ^ n → leb m n ≡ true
      pick true e l = e
      pick false e l = absurd (not_above set n m l (member_in set m w).bit (leb-false m n e))

  pub member_most : length (members set) ≤ t
  member_most = leb-true (length (members set)) t (both_true (ltb set (2 ^ n)) (leb (length (members set)) t) h).1

  pub members_distinct : (p : ℕ) → n < p → Distinct p (members set)
  members_distinct p l =
      ascending_distinct p 1 (members set) (members_ascending set) (all-members (λ y. y < p) (members set) (λ m w. omega (arith, member_party m w)))
