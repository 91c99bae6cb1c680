-- Sorted views, counted from the first on, are the rows of the definition.
--     row_of, tally_from, tally_of     the count along a list
--     tally-sorted
-- Assumes nothing.
use Prim.Native.Nat.{ℕ, suc}
use mathlib.Core.Path.{◌≡◌, refl, sym, ap, ◌∙◌}
use mathlib.Core.Bool.{Bool, true, false, cond}
use mathlib.Core.List.{List, [], ◌∷◌}
use borrow.Author.Tests.{clash}
use Rattle.plan.specs.File.{same_bytes}
use Rattle.count_rows.specs.Tables.{is_before}
use Rattle.count_rows.specs.Sorts.{inserted, sorted}
use Rattle.count_rows.proofs.Orders.{before_asym}
use Rattle.count_laws.specs.Rows.{Row, counted, rows_of}
use Rattle.count_laws.proofs.Orders.{same_refl, same-eq, before_other, before_other', before_by}

abbrev pub row_of : List ℕ → ℕ → Row
row_of x c = record { seen = x; count = c }

unfoldable pub tally_from : List ℕ → ℕ → List (List ℕ) → List Row
tally_from x c [] = row_of x c ∷ []
tally_from x c (y ∷ ys) = cond (same_bytes x y) (tally_from x (suc c) ys) (row_of x c ∷ tally_from y 1 ys)

unfoldable pub tally_of : List (List ℕ) → List Row
tally_of [] = []
tally_of (x ∷ xs) = tally_from x 1 xs

-- ---- one setting more, by where its view stands
count_same : (x : List ℕ) (c : ℕ) (rs : List Row) → counted x (row_of x c ∷ rs) ≡ row_of x (suc c) ∷ rs
unfolding counted
count_same x c rs = rw (same_refl x)

count_before : (s x : List ℕ) (c : ℕ) (rs : List Row) → is_before s x ≡ true → counted s (row_of x c ∷ rs) ≡ row_of s 1 ∷ (row_of x c ∷ rs)
unfolding counted
count_before s x c rs h = rw (before_other s x h, h)

count_behind : (s x : List ℕ) (c : ℕ) (rs : List Row) → is_before x s ≡ true → counted s (row_of x c ∷ rs) ≡ row_of x c ∷ counted s rs
unfolding counted
count_behind s x c rs h = rw (before_other' x s h, before_asym x s h)

-- the same view
one_more_by : (x y : List ℕ) (c : ℕ) (ys : List (List ℕ)) (b : Bool) → counted x (tally_from x (suc c) ys) ≡ tally_from x (suc (suc c)) ys
    → counted x (cond b (tally_from x (suc c) ys) (row_of x c ∷ tally_from y 1 ys)) ≡ cond b (tally_from x (suc (suc c)) ys) (row_of x (suc c) ∷ tally_from y 1 ys)
one_more_by x y c ys true h = h
one_more_by x y c ys false h = count_same x c (tally_from y 1 ys)

one_more : (x : List ℕ) (c : ℕ) (ys : List (List ℕ)) → counted x (tally_from x c ys) ≡ tally_from x (suc c) ys
unfolding tally_from
one_more x c [] = count_same x c []
one_more x c (y ∷ ys) = one_more_by x y c ys (same_bytes x y) (one_more x (suc c) ys)

-- a view before all
in_front_by : (s x y : List ℕ) (c : ℕ) (ys : List (List ℕ)) (b : Bool) → is_before s x ≡ true
    → counted s (tally_from x (suc c) ys) ≡ row_of s 1 ∷ tally_from x (suc c) ys
    → counted s (cond b (tally_from x (suc c) ys) (row_of x c ∷ tally_from y 1 ys)) ≡ row_of s 1 ∷ cond b (tally_from x (suc c) ys) (row_of x c ∷ tally_from y 1 ys)
in_front_by s x y c ys true l h = h
in_front_by s x y c ys false l h = count_before s x c (tally_from y 1 ys) l

in_front : (s x : List ℕ) (c : ℕ) (ys : List (List ℕ)) → is_before s x ≡ true → counted s (tally_from x c ys) ≡ row_of s 1 ∷ tally_from x c ys
unfolding tally_from
in_front s x c [] l = count_before s x c [] l
in_front s x c (y ∷ ys) l = in_front_by s x y c ys (same_bytes x y) l (in_front s x (suc c) ys l)

-- a view that is not behind y
at_front_by : (s y : List ℕ) (ys : List (List ℕ)) (b : Bool) → same_bytes s y ≡ b → is_before y s ≡ false
    → cond b (tally_from s 2 ys) (row_of s 1 ∷ tally_from y 1 ys) ≡ counted s (tally_from y 1 ys)
at_front_by s y ys true e h = sym (ap (λ (z : List ℕ). counted s (tally_from z 1 ys)) (sym (same-eq s y e)) ∙ one_more s 1 ys)
at_front_by s y ys false e h = sym (in_front s y 1 ys (before_by s y (is_before s y) refl e h))

at_front : (s y : List ℕ) (ys : List (List ℕ)) → is_before y s ≡ false → tally_from s 1 (y ∷ ys) ≡ counted s (tally_from y 1 ys)
unfolding tally_from
at_front s y ys h = at_front_by s y ys (same_bytes s y) refl h

-- a view behind x
new_row : (s x : List ℕ) (c : ℕ) (rs : List (List ℕ)) → is_before x s ≡ true → tally_from x c (s ∷ rs) ≡ row_of x c ∷ tally_from s 1 rs
unfolding tally_from
new_row s x c rs h = rw (before_other x s h)

behind_by : (s x y : List ℕ) (c : ℕ) (ys : List (List ℕ)) (p b : Bool) → is_before y s ≡ p → same_bytes x y ≡ b → is_before x s ≡ true
    → tally_from x (suc c) (inserted s ys) ≡ counted s (tally_from x (suc c) ys)
    → (is_before y s ≡ true → tally_from y 1 (inserted s ys) ≡ counted s (tally_from y 1 ys))
    → tally_from x c (cond p (y ∷ inserted s ys) (s ∷ (y ∷ ys))) ≡ counted s (cond b (tally_from x (suc c) ys) (row_of x c ∷ tally_from y 1 ys))
unfolding tally_from
behind_by s x y c ys true true p q l f g = rw q f
behind_by s x y c ys true false p q l f g = rw q (ap (λ (z : List Row). row_of x c ∷ z) (g p) ∙ sym (count_behind s x c (tally_from y 1 ys) l))
behind_by s x y c ys false true p q l f g = absurd (clash (sym (ap (λ (z : List ℕ). is_before z s) (same-eq x y q) ∙ p) ∙ l))
behind_by s x y c ys false false p q l f g =
    new_row s x c (y ∷ ys) l ∙ ap (λ (z : List Row). row_of x c ∷ z) (at_front s y ys p) ∙ sym (count_behind s x c (tally_from y 1 ys) l)

behind : (s x : List ℕ) (c : ℕ) (l : List (List ℕ)) → is_before x s ≡ true → tally_from x c (inserted s l) ≡ counted s (tally_from x c l)
unfolding tally_from inserted counted
behind s x c [] h = new_row s x c [] h ∙ sym (count_behind s x c [] h)
behind s x c (y ∷ ys) h =
    behind_by s x y c ys (is_before y s) (same_bytes x y) refl refl h (behind s x (suc c) ys h) (λ g. behind s y 1 ys g)

-- ---- any view
tally_by : (s y : List ℕ) (ys : List (List ℕ)) (p : Bool) → is_before y s ≡ p → tally_of (cond p (y ∷ inserted s ys) (s ∷ (y ∷ ys))) ≡ counted s (tally_from y 1 ys)
unfolding tally_of
tally_by s y ys true e = behind s y 1 ys e
tally_by s y ys false e = at_front s y ys e

pub tally-inserted : (s : List ℕ) (l : List (List ℕ)) → tally_of (inserted s l) ≡ counted s (tally_of l)
unfolding tally_of inserted tally_from counted
tally-inserted s [] = refl
tally-inserted s (y ∷ ys) = tally_by s y ys (is_before y s) refl

pub tally-sorted : (vs : List (List ℕ)) → tally_of (sorted vs) ≡ rows_of vs
unfolding sorted rows_of tally_of
tally-sorted [] = refl
tally-sorted (v ∷ vs) = tally-inserted v (sorted vs) ∙ ap (counted v) (tally-sorted vs)
