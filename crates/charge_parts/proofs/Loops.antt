-- The loops over the parts.
--     putting       parts as a list
--     sum_is        a sum
--     seeking       the greatest
--     dividing      parts rounded down, with what that leaves over
-- Assumes nothing.
use mathlib.Core.Path.{◌≡◌, refl, sym, ap, ◌∙◌}
use mathlib.Core.List.{List, [], ◌∷◌, map}
use Rattle.std.proofs.lemmas.List.{get_or-map, length-map, map-set}
use Prim.Native.Nat.{ℕ, suc, ◌+◌, ◌-◌, ◌*◌, ◌/◌, ◌%◌, ◌<◌, ◌≤◌}
use Rattle.std.specs.List.{sum}
use Rattle.std.proofs.lemmas.List.Sums.{sum_by-cons}
use native.Mathlib.Nat.{mul-le-mul}
use native.Mathlib.Numerals.{add-one}
use native.Mathlib.Omega.{arith}
use borrow.Author.Rules.{rules}
use borrow.Author.Tests.{lt-ltb, le-ltb}
use lib.ListN.{length, get_or, set, length-set}
use mir.Syntax.{w64}
use mir.Val.{Fits}
use Rattle.numbers.specs.Tables.{tab, total}
use Rattle.numbers.specs.Bytes.{width, bytes_of, stored}
use Rattle.numbers.proofs.Tables.{list-tab}
use Rattle.numbers.proofs.Fills.{Filled, fill_none, fill_next, filled, Stored, store-next, stored-all, storing}
use Rattle.charge_laws.specs.Charges.{floor_at, remainder_at, greater_at, greatest_from, greatest}
use Rattle.charge_parts.specs.declared.Portion.{Portion}
use Rattle.charge_laws.proofs.Totals.{entry-total, greater_in}

-- ---- the two lists of shares
abbrev pub parts_in : List Portion → List ℕ
parts_in xs = map (λ s. s.part) xs

abbrev pub rests_in : List Portion → List ℕ
rests_in xs = map (λ s. s.rest) xs

pub part_is : (xs : List Portion) (i : ℕ) (d : Portion) → i < length xs → (get_or xs i d).part ≡ get_or (parts_in xs) i 0
part_is xs i d l = sym (get_or-map (λ s. s.part) xs i d 0 l)

pub rest_is : (xs : List Portion) (i : ℕ) (d : Portion) → i < length xs → (get_or xs i d).rest ≡ get_or (rests_in xs) i 0
rest_is xs i d l = sym (get_or-map (λ s. s.rest) xs i d 0 l)

pub length_parts : (xs : List Portion) → length (parts_in xs) ≡ length xs
length_parts xs = simp length-map

pub length_rests : (xs : List Portion) → length (rests_in xs) ≡ length xs
length_rests xs = simp length-map

-- ---- the parts as a list
module _ (xs : List Portion) (d₀ d : List ℕ) (i : ℕ) (h : Stored (λ k. get_or (parts_in xs) k 0) (length xs) d₀ d i) where
  pub part_put : (v : ℕ) (x : Portion) (new : List ℕ) → i < length xs → v ≡ (get_or xs i x).part → new ≡ stored d i v → Stored (λ k. get_or (parts_in xs) k 0) (length xs) d₀ new (i + 1)
  part_put v x new l e f = store-next (λ k. get_or (parts_in xs) k 0) (length xs) d₀ d i h v new l (e ∙ part_is xs i x l) f

  pub parts_put : length xs ≤ i → length d₀ ≡ width * length xs → d ≡ bytes_of (parts_in xs)
  parts_put l e =
      stored-all (λ k. get_or (parts_in xs) k 0) (length xs) d₀ d i h l e
      ∙ ap bytes_of (ap (tab (λ k. get_or (parts_in xs) k 0)) (sym (length_parts xs)) ∙ sym (list-tab (parts_in xs) 0))

-- As it is: answers name this set, since the check leaves their goals open by `using` alone.
pub ruleset putting = (storing, part_put, parts_put)

-- ---- a sum
pub sum_is : (xs : List ℕ) → sum xs ≡ total xs
unfolding total
sum_is [] = refl
sum_is (x ∷ xs) = sum_by-cons (λ y. y) x xs ∙ ap (λ (k : ℕ). x + k) (sum_is xs)

-- ---- the greatest
pub greater_second : (rs : List ℕ) (b i : ℕ) → get_or rs b 0 < get_or rs i 0 → i ≡ greater_at rs b i
unfolding greater_at
greater_second rs b i l = rw (lt-ltb (get_or rs b 0) (get_or rs i 0) l)

pub greater_first : (rs : List ℕ) (b i : ℕ) → get_or rs i 0 ≤ get_or rs b 0 → b ≡ greater_at rs b i
unfolding greater_at
greater_first rs b i l = rw (le-ltb (get_or rs b 0) (get_or rs i 0) l)

-- what is left to look at
pub record Seeking (rs : List ℕ) (b i : ℕ) : Type 0 where
  pub within : i ≤ length rs
  pub place : b < length rs
  pub is : greatest_from (length rs - i) rs b i ≡ greatest rs

pub seek_none : (rs : List ℕ) → 1 ≤ length rs → Seeking rs 0 0
unfolding greatest
seek_none rs l = let e : length rs - 0 ≡ length rs = omega arith in record { within = omega arith; place = l; is = rw e }

module _ (rs : List ℕ) (b i : ℕ) (h : Seeking rs b i) where
  pub seek_next : (c : ℕ) → i < length rs → c ≡ greater_at rs b i → Seeking rs c (i + 1)
  unfolding greatest_from
  seek_next c l e =
      let m : length rs - i ≡ suc (length rs - (i + 1)) = omega arith in
      record {
        within = omega arith;
        place = rw e (greater_in (length rs) rs b i h.place l);
        is = rw (e, add-one) (rw (m, add-one) at h.is);
      }

  pub seek_all : length rs ≤ i → b ≡ greatest rs
  unfolding greatest_from
  seek_all l = let z : length rs - i ≡ 0 = omega arith in rw z at h.is

-- of shares: the places stand in the list of shares
module _ (xs : List Portion) (b i : ℕ) (d : Portion) (lb : b < length xs) (li : i < length xs) where
  pub share_second : (get_or xs b d).rest < (get_or xs i d).rest → i ≡ greater_at (rests_in xs) b i
  share_second l = greater_second (rests_in xs) b i (omega (arith, rest_is xs b d lb, rest_is xs i d li))

  pub share_first : (get_or xs i d).rest ≤ (get_or xs b d).rest → b ≡ greater_at (rests_in xs) b i
  share_first l = greater_first (rests_in xs) b i (omega (arith, rest_is xs b d lb, rest_is xs i d li))

pub seek_begin : (xs : List Portion) → 1 ≤ length xs → Seeking (rests_in xs) 0 0
seek_begin xs l = seek_none (rests_in xs) (omega (arith, length_rests xs))

module _ (xs : List Portion) (b i : ℕ) (h : Seeking (rests_in xs) b i) where
  pub seek_on : (c : ℕ) → i < length xs → c ≡ greater_at (rests_in xs) b i → Seeking (rests_in xs) c (i + 1)
  seek_on c l e = seek_next (rests_in xs) b i h c (omega (arith, length_rests xs)) e

  pub seek_place : b < length xs
  seek_place = omega (arith, h.place, length_rests xs)

  pub seek_end : length xs ≤ i → b ≡ greatest (rests_in xs)
  seek_end l = seek_all (rests_in xs) b i h (omega (arith, length_rests xs))

-- As it is: answers name this set, since the check leaves their goals open by `using` alone.
pub ruleset seeking = (rules, share_second, share_first, seek_begin, seek_on, seek_place, seek_end)

-- ---- rounded down
pub record Dividing (bill : ℕ) (es : List ℕ) (xs₀ xs : List Portion) (i : ℕ) : Type 0 where
  pub parts : Filled (floor_at bill es) (parts_in xs₀) (parts_in xs) i
  pub rests : Filled (remainder_at bill es) (rests_in xs₀) (rests_in xs) i

module _ (bill sent : ℕ) (es : List ℕ) (sum : sent ≡ total es) (some : 1 ≤ sent) (few : sent ≤ 692160) (high : bill < 4294967296) where
  pub product_fits : (i : ℕ) → Fits w64 (bill * get_or es i 0)
  product_fits i =
      let e : get_or es i 0 ≤ 692160 = omega (arith, entry-total es i) in
      record { fits = omega (arith, mul-le-mul {n₁ = bill} {m₁ = get_or es i 0} {n₂ = 4294967296} {m₂ = 692160} (omega arith) e) }

  floor_is : (i : ℕ) → bill * get_or es i 0 / sent ≡ floor_at bill es i
  unfolding floor_at
  floor_is i = rw sum

  remainder_is : (i : ℕ) → bill * get_or es i 0 % sent ≡ remainder_at bill es i
  unfolding remainder_at
  remainder_is i = rw sum

  module _ (xs₀ : List Portion) (long : length xs₀ ≡ length es) where
    pub divide_none : Dividing bill es xs₀ xs₀ 0
    divide_none = record {
      parts = record { within = omega arith; long = refl; front = fill_none (floor_at bill es) (parts_in xs₀) };
      rests = record { within = omega arith; long = refl; front = fill_none (remainder_at bill es) (rests_in xs₀) };
    }

    module _ (xs : List Portion) (i : ℕ) (h : Dividing bill es xs₀ xs i) where
      pub divide_long : length xs ≡ length xs₀
      divide_long = sym (length_parts xs) ∙ h.parts.long ∙ length_parts xs₀

      pub share_in : i < length es → i < length xs
      share_in l = omega (arith, divide_long)

      pub divide_next : i < length es → Dividing bill es xs₀ (set xs i (record { part = bill * get_or es i 0 / sent; rest = bill * get_or es i 0 % sent })) (i + 1)
      divide_next l = record {
        parts = rw (map-set (λ s. s.part) xs i (record { part = bill * get_or es i 0 / sent; rest = bill * get_or es i 0 % sent })) (record {
          within = omega (arith, h.parts.within, length_parts xs₀);
          long = length-set (parts_in xs) i (bill * get_or es i 0 / sent) ∙ h.parts.long;
          front = fill_next (floor_at bill es) i (parts_in xs) (bill * get_or es i 0 / sent) (omega (arith, share_in l, length_parts xs)) (floor_is i) h.parts.front;
        });
        rests = rw (map-set (λ s. s.rest) xs i (record { part = bill * get_or es i 0 / sent; rest = bill * get_or es i 0 % sent })) (record {
          within = omega (arith, h.rests.within, length_rests xs₀);
          long = length-set (rests_in xs) i (bill * get_or es i 0 % sent) ∙ h.rests.long;
          front = fill_next (remainder_at bill es) i (rests_in xs) (bill * get_or es i 0 % sent) (omega (arith, share_in l, length_rests xs)) (remainder_is i) h.rests.front;
        });
      }

      pub divided_parts : length es ≤ i → parts_in xs ≡ tab (floor_at bill es) (length es)
      divided_parts l =
          filled (floor_at bill es) (parts_in xs₀) (parts_in xs) i (omega (arith, length_parts xs₀)) h.parts
          ∙ ap (tab (floor_at bill es)) (length_parts xs₀ ∙ long)

      pub divided_rests : length es ≤ i → rests_in xs ≡ tab (remainder_at bill es) (length es)
      divided_rests l =
          filled (remainder_at bill es) (rests_in xs₀) (rests_in xs) i (omega (arith, length_rests xs₀)) h.rests
          ∙ ap (tab (remainder_at bill es)) (length_rests xs₀ ∙ long)

-- As it is: answers name this set, since the check leaves their goals open by `using` alone.
pub ruleset dividing = (rules, product_fits, divide_none, divide_long, share_in, divide_next, divided_parts, divided_rests)
