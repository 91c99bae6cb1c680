-- Loops that fill a row.
--     Making, entry-none, entry-next, entries-made     loops that fill a row, or its first n entries
--     row-given                                        a row that is given
-- Assumes nothing.
use mathlib.Core.Path.{◌≡◌, refl, sym, ap, ◌∙◌}
use mathlib.Core.Bool.{true}
use mathlib.Core.List.{List, [], ◌∷◌, ◌++◌, map}
use Prim.Native.Nat.{ℕ, zero, suc, ◌+◌, ◌-◌, ◌*◌, ◌^◌, ◌<◌, ◌≤◌}
use native.Mathlib.Numerals.{add-one}
use native.Mathlib.Omega.{arith}
use borrow.Author.Rules.{rules}
use borrow.Author.Tests.{lt-ltb}
use lib.ListN.{length, take, drop, set, get_or, replicate, length-replicate, length-drop, length-set}
use lib.Seq.{take_at, drop_at, take-nil, drop-nil, take-suc-set, get_or-take, get_or-drop, take-take, length-take-le}
use mir.Syntax.{w64}
use mir.Val.{Fits}
use Rattle.numbers.specs.Tables.{tab}
use Rattle.numbers.specs.Bytes.{all_below}
use Rattle.numbers.proofs.Tables.{length-tab, tab-next, tab-zero, get_or-tab, row_room}
use Rattle.numbers.proofs.Below.{all_below_at, all_below-take, all_below-drop}
use Rattle.numbers.proofs.Fills.{Filled, fill_none, fill_next, filled}
use Rattle.field.specs.Mod.{mul}
use Rattle.field.specs.Field.{Is}
use Rattle.field.proofs.Solve.{#, quote, solve}
use Rattle.sharing_laws.specs.Interp.{dot}
use Rattle.sharing_laws.proofs.Alls.{map-tab}
use Rattle.run_dealings.specs.Rows.{Rowed, Standing}

-- an entry of a list of values
pub get_or-values : (F : ℕ → ℕ) (xs : List ℕ) (j : ℕ) → j < length xs → get_or (map F xs) j 0 ≡ F (get_or xs j 0)
get_or-values F xs j l = ap (λ (r : List ℕ). get_or r j 0) (map-tab F xs) ∙ get_or-tab (λ i. F (get_or xs i 0)) (length xs) j 0 l

-- a part of what stands in front
pub take-drop : (l : List ℕ) (a k : ℕ) → take k (drop a l) ≡ drop a (take (a + k) l)
take-drop l zero k = let e : zero + k ≡ k = omega arith in rw e
take-drop [] (suc a) k = rw (take-nil (suc a + k), take-nil k, drop-nil (suc a))
take-drop (x ∷ l) (suc a) k = let e : suc a + k ≡ suc (a + k) = omega arith in rw e (take-drop l a k)

pub part_front : (l : List ℕ) (m a k : ℕ) → a + k ≤ m → take k (drop a l) ≡ take k (drop a (take m l))
part_front l m a k le = take-drop l a k ∙ ap (drop a) (sym (take-take (a + k) m l le)) ∙ sym (take-drop (take m l) a k)

-- a row that stands
pub standing-row : (p n g w : ℕ) (table : List ℕ) → Standing p n g table → w < g → Rowed p n w table
standing-row p n g w table s l = record {
  room = omega (arith, s.room, row_room n w g l);
  below =
      rw (part_front table (n * g) (n * w) n (row_room n w g l))
      (all_below-take p n (drop (n * w) (take (n * g) table)) (all_below-drop p (n * w) (take (n * g) table) s.below));
}

pub drop_zeros : (n m : ℕ) → drop n (replicate {A = ℕ} m 0) ≡ replicate (m - n) 0
drop_zeros zero m = let e : m - zero ≡ m = omega arith in rw e
drop_zeros (suc n) zero = let e : zero - suc n ≡ zero = omega arith in rw e
drop_zeros (suc n) (suc m) = let e : suc m - suc n ≡ m - n = omega arith in rw e (drop_zeros n m)

-- ---- a loop that fills the first n entries of a row
pub record Making (f : ℕ → ℕ) (n : ℕ) (d : List ℕ) (j : ℕ) : Type 0 where
  pub within : j ≤ n
  pub long : n ≤ length d
  pub front : take j d ≡ tab f j

module _ (f : ℕ → ℕ) (n : ℕ) where
  pub make-none : (d : List ℕ) → n ≤ length d → Making f n d 0
  make-none d l = record { within = omega arith; long = l; front = sym (tab-zero f) }

  module _ (d : List ℕ) (j : ℕ) (h : Making f n d j) where
    pub make-next : (v : ℕ) → j < n → v ≡ f j → Making f n (set d j v) (j + 1)
    make-next v l e = record {
      within = omega arith;
      long = omega (arith, h.long, length-set d j v);
      front = rw (tab-next, add-one, take-suc-set d j v (omega (arith, h.long)), h.front, e);
    }

    pub made : n ≤ j → take n d ≡ tab f n
    made l = let q : j ≡ n = omega (arith, h.within) in rw (← q) h.front

-- ---- a loop over all entries of a row
module _ (f : ℕ → ℕ) (d₀ : List ℕ) where
  pub entry-none : Filled f d₀ d₀ 0
  entry-none = record { within = omega arith; long = refl; front = fill_none f d₀ }

  module _ (d : List ℕ) (j : ℕ) (h : Filled f d₀ d j) where
    pub entry-next : (v : ℕ) → j < length d₀ → v ≡ f j → Filled f d₀ (set d j v) (j + 1)
    entry-next v l e = record {
      within = omega arith;
      long = length-set d j v ∙ h.long;
      front = fill_next f j d v (omega (arith, h.long)) e h.front;
    }

    pub entries-made : length d₀ ≤ j → d ≡ tab f (length d₀)
    entries-made l = filled f d₀ d j (omega (arith, h.long)) h

-- ---- n entries of an array of 15, and zeros after them
pub entries : (n : ℕ) → n ≤ 15 → length (take n (replicate {A = ℕ} 15 0)) ≡ n
entries n m = length-take-le n (replicate 15 0) (omega (arith, length-replicate {A = ℕ} 15 0))

pub row-given : (f : ℕ → ℕ) (n : ℕ) → n ≤ 15 → (ys : List ℕ) → ys ≡ tab f (length (take n (replicate {A = ℕ} 15 0)))
    → (take n (ys ++ drop n (replicate 15 0)) ≡ tab f n) × (drop n (ys ++ drop n (replicate 15 0)) ≡ replicate (15 - n) 0)
row-given f n m ys e =
    let is : ys ≡ tab f n = e ∙ ap (tab f) (entries n m) in
    let k : length ys ≡ n = ap length is ∙ length-tab f n in (
      take_at ys (drop n (replicate 15 0)) n k ∙ is,
      drop_at ys (drop n (replicate 15 0)) n k ∙ drop_zeros n 15,
    )

-- ---- reading a row of the table
module _ (p n w : ℕ) (table : List ℕ) (r : Rowed p n w table) where
  pub row_start_fits : length table * 8 < 2 ^ 63 → Fits w64 (n * w)
  row_start_fits f = record { fits = omega (arith, r.room) }

  module _ (j : ℕ) (l : j < n) where
    pub entry-within : n * w + j < length table
    entry-within = omega (arith, r.room)

    pub entry-fits : length table * 8 < 2 ^ 63 → Fits w64 (n * w + j)
    entry-fits f = record { fits = omega (arith, r.room) }

    pub entry-place-fits : length table * 8 < 2 ^ 63 → Fits w64 ((n * w + j) * 8)
    entry-place-fits f = record { fits = omega (arith, r.room) }

    pub row-entry-below : get_or table (n * w + j) 0 < p
    row-entry-below =
        let m : j < length (take n (drop (n * w) table)) = rw (length-take-le n (drop (n * w) table) (rw length-drop (omega (arith, r.room)))) l in
        rw (get_or-take n (drop (n * w) table) j 0 l, get_or-drop (n * w) table j 0) at (all_below_at p (take n (drop (n * w) table)) j r.below m)

  -- the same for the first m parties
  pub first_entry_below : (m j : ℕ) → m ≤ n → j < m → get_or table (n * w + j) 0 < p
  first_entry_below m j le l = row-entry-below j (omega arith)

-- the product that party j deals
abbrev pub product_at : ℕ → ℕ → ℕ → ℕ → List ℕ → ℕ → ℕ
product_at p n a b table j = mul p (get_or table (n * a + j) 0) (get_or table (n * b + j) 0)

-- one product as a sum
pub one_product : (p a b : ℕ) → dot p (a ∷ []) (b ∷ []) ≡ mul p a b
unfolding dot
one_product p a b = solve p (search (quote, # a, # b)) (omega arith)

pub product-is : (p a b r : ℕ) → Is p (dot p (a ∷ []) (b ∷ [])) r → r ≡ mul p a b
product-is p a b r i = i.eq ∙ one_product p a b

pub entry-alone : (p a : ℕ) → a < p → all_below p (a ∷ []) ≡ true
unfolding all_below
entry-alone p a l = rw (lt-ltb a p l)

pub ruleset row_reading = (rules, product-is, entry-alone, first_entry_below, row_start_fits, entry-within, entry-fits, entry-place-fits, row-entry-below)
