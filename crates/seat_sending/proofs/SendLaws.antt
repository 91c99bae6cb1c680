-- Laws of numbers that are written one after the other to a lent list.
--     sent-none, sent-one, sent_more, sent_all_lem      the list after each of them
--     Rows, rows_none, rows_next, rows_all          lists written one after the other
-- Assumes nothing.
use mathlib.Core.Path.{◌≡◌, refl, sym, ap, ap₂, ◌∙◌}
use mathlib.Core.Bool.{Bool, true, false, cond}
use mathlib.Core.List.{List, [], ◌∷◌, ◌++◌, map, append-nil, append_assoc, flat_map}
use Prim.Native.Nat.{ℕ, zero, suc, ◌+◌, ◌*◌, ◌<◌, ◌≤◌}
use native.Mathlib.Numerals.{add-one}
use native.Mathlib.Nat.{mul-suc, suc-mul}
use native.Mathlib.Omega.{arith}
use lib.ListN.{length, length-append}
use lib.Seq.{sets}
use Rattle.numbers.specs.Tables.{tab}
use Rattle.numbers.specs.Bytes.{width, limit, numbers, stored}
use Rattle.numbers.proofs.Bytes.{numbers-length, length-stored, numbers-stored}
use Rattle.numbers.proofs.Tables.{tab-next}
use Rattle.numbers.proofs.Rows.{sets-append, sets_all}
use Rattle.seat_sending.specs.Sending.{Sent}

-- ---- a number that is there or not
pub one_long : (b : Bool) (v : ℕ) → length (cond b (v ∷ []) []) ≤ 1
one_long true v = omega arith
one_long false v = omega arith

pub cond-cons : (b : Bool) (x : ℕ) (xs ys zs : List ℕ) → xs ≡ ys ++ zs → cond b (x ∷ xs) xs ≡ cond b (x ∷ ys) ys ++ zs
cond-cons true x xs ys zs e = ap (λ (l : List ℕ). x ∷ l) e
cond-cons false x xs ys zs e = e

-- ---- a lent list
pub sent-none : (old : List ℕ) (at : ℕ) → Sent [] at old old at
sent-none old at = record { long = refl; place = omega arith; is = refl }

pub sent-one : (old new : List ℕ) (at v : ℕ) → new ≡ stored old at v → v < limit → Sent (v ∷ []) at old new (at + 1)
sent-one old new at v e l = record {
  long = ap length e ∙ length-stored old at v;
  place = refl;
  is = ap numbers e ∙ numbers-stored old at v l;
}

module _ (vs ws old mid new : List ℕ) (at middle next : ℕ) where
  pub sent_more : Sent vs at old mid middle → Sent ws middle mid new next → Sent (vs ++ ws) at old new next
  sent_more a b = record {
    long = b.long ∙ a.long;
    place = omega (arith, a.place, b.place, length-append vs ws);
    is = b.is ∙ ap (λ (l : List ℕ). sets l middle ws) a.is ∙ ap (λ (n : ℕ). sets (sets (numbers old) at vs) n ws) a.place ∙ sym (sets-append (numbers old) at vs ws);
  }

pub sent_all_lem : (vs old new : List ℕ) (next : ℕ) → Sent vs 0 old new next → length old ≡ width * length vs → numbers new ≡ vs
sent_all_lem vs old new next s e = s.is ∙ sets_all (numbers old) vs (omega (arith, numbers-length old))

-- ---- a number that is written where a test holds
pub sent_unless : (b : Bool) (v at : ℕ) (old : List ℕ) → b ≡ false → Sent (cond b (v ∷ []) []) at old old at
sent_unless b v at old e = rw e (sent-none old at)

pub sent_where : (b : Bool) (v at : ℕ) (old new : List ℕ) → b ≡ true → new ≡ stored old at v → v < limit → Sent (cond b (v ∷ []) []) at old new (at + 1)
sent_where b v at old new e is l = rw e (sent-one old new at v is l)

-- ---- lists that are written one after the other
-- the lists of a list, one after the other
abbrev pub flat : List (List ℕ) → List ℕ
flat xss = flat_map (λ l. l) xss

flat_append : (xss yss : List (List ℕ)) → flat (xss ++ yss) ≡ flat xss ++ flat yss
unfolding flat_map
flat_append [] yss = refl
flat_append (xs ∷ xss) yss = ap (λ (l : List ℕ). xs ++ l) (flat_append xss yss) ∙ sym (append_assoc xs (flat xss) (flat yss))

flat-one : (xs : List ℕ) → flat (xs ∷ []) ≡ xs
unfolding flat_map
flat-one xs = append-nil xs

-- of lists of one number
pub flat_ones : (f : ℕ → ℕ) (xs : List ℕ) → flat (map (λ x. f x ∷ []) xs) ≡ map f xs
unfolding flat_map
flat_ones f [] = refl
flat_ones f (x ∷ xs) = ap (λ (l : List ℕ). f x ∷ l) (flat_ones f xs)

pub flat_next : (f : ℕ → List ℕ) (j : ℕ) → flat (tab f (j + 1)) ≡ flat (tab f j) ++ f j
flat_next f j = ap flat (tab-next f j) ∙ flat_append (tab f j) (f j ∷ []) ∙ ap (λ (l : List ℕ). flat (tab f j) ++ l) (flat-one (f j))

pub flat-none : (f : ℕ → List ℕ) → flat (tab f 0) ≡ []
unfolding flat_map tab
flat-none f = refl

-- j of n lists stand, each of at most `most` numbers
pub record Rows (f : ℕ → List ℕ) (most n : ℕ) (d₀ d : List ℕ) (at j : ℕ) : Type 0 where
  pub within : j ≤ n
  pub near : at ≤ most * j
  pub sent : Sent (flat (tab f j)) 0 d₀ d at

module _ (f : ℕ → List ℕ) (most n : ℕ) where
  pub rows_none : (d : List ℕ) → Rows f most n d d 0 0
  rows_none d = record { within = omega arith; near = omega arith; sent = rw (flat-none f) (sent-none d 0) }

  pub rows_next : (d₀ d e : List ℕ) (at j next : ℕ) → Rows f most n d₀ d at j → j < n → length (f j) ≤ most → Sent (f j) at d e next → Rows f most n d₀ e next (j + 1)
  rows_next d₀ d e at j next r l few s =
      let q : most * (j + 1) ≡ most * j + most = rw (add-one, mul-suc) in
      record {
        within = omega arith;
        near = omega (arith, r.near, s.place);
        sent = rw (flat_next f j) (sent_more (flat (tab f j)) (f j) d₀ d e 0 at next r.sent s);
      }

  pub rows_all : (d₀ d : List ℕ) (at j : ℕ) → Rows f most n d₀ d at j → n ≤ j → length d₀ ≡ width * length (flat (tab f n)) → numbers d ≡ flat (tab f n)
  rows_all d₀ d at j r l e =
      let q : j ≡ n = omega (arith, r.within) in
      sent_all_lem (flat (tab f n)) d₀ d at (rw (← q) r.sent) e

-- how long n lists of one length are
pub rows-length : (f : ℕ → List ℕ) (k n : ℕ) → ((j : ℕ) → length (f j) ≡ k) → length (flat (tab f n)) ≡ n * k
unfolding flat_map tab
rows-length f k zero e = omega arith
rows-length f k (suc n) e = length-append (f 0) (flat (tab (λ j. f (suc j)) n)) ∙ ap₂ (λ (a b : ℕ). a + b) (e 0) (rows-length (λ j. f (suc j)) k n (λ j. e (suc j))) ∙ omega (arith, suc-mul n k)
