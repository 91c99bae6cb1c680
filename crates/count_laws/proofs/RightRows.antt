-- The rows of any list of views: right, complete and ascending, and their counts add up.
--     tallied
-- Assumes nothing.
use Prim.Native.Nat.{ℕ, zero, suc, ◌+◌, ◌<◌, ◌≤◌}
use mathlib.Core.Path.{◌≡◌, refl, sym, ap, subst, ◌∙◌}
use mathlib.Core.Bool.{Bool, true, false, cond}
use mathlib.Core.List.{List, [], ◌∷◌, map}
use borrow.Author.Tests.{clash}
use native.Mathlib.Omega.{arith}
use lib.ListN.{length, get_or}
use Rattle.numbers.specs.Tables.{count_where}
use Rattle.plan.specs.File.{same_bytes}
use Rattle.count_rows.specs.Tables.{is_before}
use Rattle.count_rows.proofs.Orders.{before_asym, up_trans}
use Rattle.count_laws.specs.Rows.{Row, counted, rows_of, times_in, counts_of, Tallied}
use Rattle.count_laws.proofs.Orders.{same_refl, same-eq, before_other, before_other', before_by}
use Rattle.count_laws.proofs.Tallies.{row_of}

-- ---- the counts add up, and there are no more rows than settings
-- one setting more
sum_step : (v : List ℕ) (r : Row) (rs more : List Row) (x y : Bool) → counts_of more ≡ suc (counts_of rs)
    → counts_of (cond x (record { seen = r.seen; count = suc r.count } ∷ rs) (cond y (record { seen = v; count = 1 } ∷ (r ∷ rs)) (r ∷ more)))
    ≡ suc (r.count + counts_of rs)
unfolding counts_of
sum_step v r rs more true y h = omega arith
sum_step v r rs more false true h = omega arith
sum_step v r rs more false false h = omega (arith, h)

sum-counted : (v : List ℕ) (rs : List Row) → counts_of (counted v rs) ≡ suc (counts_of rs)
unfolding counted counts_of
sum-counted v [] = refl
sum-counted v (r ∷ rs) = sum_step v r rs (counted v rs) (same_bytes v r.seen) (is_before v r.seen) (sum-counted v rs)

counts_sum : (vs : List (List ℕ)) → counts_of (rows_of vs) ≡ length vs
unfolding rows_of counts_of
counts_sum [] = refl
counts_sum (v ∷ vs) = omega (arith, sum-counted v (rows_of vs), counts_sum vs)

few_step : (v : List ℕ) (r : Row) (rs more : List Row) (x y : Bool) → length more ≤ suc (length rs)
    → length (cond x (record { seen = r.seen; count = suc r.count } ∷ rs) (cond y (record { seen = v; count = 1 } ∷ (r ∷ rs)) (r ∷ more)))
    ≤ suc (suc (length rs))
few_step v r rs more true y h = omega arith
few_step v r rs more false true h = omega arith
few_step v r rs more false false h = omega (arith, h)

few-counted : (v : List ℕ) (rs : List Row) → length (counted v rs) ≤ suc (length rs)
unfolding counted
few-counted v [] = omega arith
few-counted v (r ∷ rs) = few_step v r rs (counted v rs) (same_bytes v r.seen) (is_before v r.seen) (few-counted v rs)

rows_few : (vs : List (List ℕ)) → length (rows_of vs) ≤ length vs
unfolding rows_of
rows_few [] = omega arith
rows_few (v ∷ vs) = omega (arith, few-counted v (rows_of vs), rows_few vs)

-- ---- the order
before_trans : (a b c : List ℕ) → is_before a b ≡ true → is_before b c ≡ true → is_before a c ≡ true
before_trans a b c x y = by (is_before a c) refl
  where
    by : (t : Bool) → is_before a c ≡ t → is_before a c ≡ true
    by true e = e
    by false e = absurd (clash (sym (up_trans c a b e (before_asym a b x)) ∙ y))

behind_of : (v x : List ℕ) → same_bytes v x ≡ false → is_before v x ≡ false → is_before x v ≡ true
behind_of v x s b = before_by x v (is_before x v) refl (flip (same_bytes x v) refl) b
  where
    flip : (t : Bool) → same_bytes x v ≡ t → same_bytes x v ≡ false
    flip true e = absurd (clash (sym (ap (same_bytes v) (sym (same-eq x v e)) ∙ s) ∙ same_refl v))
    flip false e = e

-- ---- ascending rows
unfoldable Above : List ℕ → List Row → Type 0
Above x [] = Unit {0}
Above x (r ∷ rs) = (is_before x r.seen ≡ true) × Above x rs

unfoldable Asc : List Row → Type 0
Asc [] = Unit {0}
Asc (r ∷ rs) = Above r.seen rs × Asc rs

above_lower : (x y : List ℕ) (rs : List Row) → is_before x y ≡ true → Above y rs → Above x rs
unfolding Above
above_lower x y [] h a = tt
above_lower x y (r ∷ rs) h a = (before_trans x y r.seen h a.0, above_lower x y rs h a.1)

above_by : (x v : List ℕ) (r : Row) (rs more : List Row) (s b : Bool) → is_before x v ≡ true → Above x (r ∷ rs) → Above x more
    → Above x (cond s (row_of r.seen (suc r.count) ∷ rs) (cond b (row_of v 1 ∷ (r ∷ rs)) (r ∷ more)))
unfolding Above
above_by x v r rs more true b h a m = (a.0, a.1)
above_by x v r rs more false true h a m = (h, a)
above_by x v r rs more false false h a m = (a.0, m)

above-counted : (x v : List ℕ) (rs : List Row) → is_before x v ≡ true → Above x rs → Above x (counted v rs)
unfolding Above counted
above-counted x v [] h a = (h, tt)
above-counted x v (r ∷ rs) h a = above_by x v r rs (counted v rs) (same_bytes v r.seen) (is_before v r.seen) h a (above-counted x v rs h a.1)

asc_by : (v : List ℕ) (r : Row) (rs more : List Row) (s b : Bool) → same_bytes v r.seen ≡ s → is_before v r.seen ≡ b → Asc (r ∷ rs) → Asc more
    → (is_before r.seen v ≡ true → Above r.seen more)
    → Asc (cond s (row_of r.seen (suc r.count) ∷ rs) (cond b (row_of v 1 ∷ (r ∷ rs)) (r ∷ more)))
unfolding Asc Above
asc_by v r rs more true b p q a m f = a
asc_by v r rs more false true p q a m f = ((q, above_lower v r.seen rs q a.0), a)
asc_by v r rs more false false p q a m f = (f (behind_of v r.seen p q), m)

asc-counted : (v : List ℕ) (rs : List Row) → Asc rs → Asc (counted v rs)
unfolding Asc Above counted
asc-counted v [] a = (tt, tt)
asc-counted v (r ∷ rs) a =
    asc_by v r rs (counted v rs) (same_bytes v r.seen) (is_before v r.seen) refl refl a (asc-counted v rs a.1) (λ h. above-counted r.seen v rs h a.0)

asc_rows : (vs : List (List ℕ)) → Asc (rows_of vs)
unfolding Asc rows_of
asc_rows [] = tt
asc_rows (v ∷ vs) = asc-counted v (rows_of vs) (asc_rows vs)

abbrev none : Row
none = record { seen = []; count = 0 }

above_at : (x : List ℕ) (rs : List Row) (i : ℕ) → Above x rs → i < length rs → is_before x (get_or rs i none).seen ≡ true
unfolding Above
above_at x [] i a l = absurd (omega arith)
above_at x (r ∷ rs) zero a l = a.0
above_at x (r ∷ rs) (suc i) a l = above_at x rs i a.1 (omega arith)

asc_at : (rs : List Row) (i : ℕ) → Asc rs → suc i < length rs → is_before (get_or rs i none).seen (get_or rs (suc i) none).seen ≡ true
unfolding Asc
asc_at [] i a l = absurd (omega arith)
asc_at (r ∷ rs) zero a l = above_at r.seen rs 0 a.0 (omega arith)
asc_at (r ∷ rs) (suc i) a l = asc_at rs i a.1 (omega arith)

-- ---- the count of a view
unfoldable count_at : List ℕ → List Row → ℕ
count_at x [] = 0
count_at x (r ∷ rs) = cond (same_bytes x r.seen) r.count (count_at x rs)

none_above : (x : List ℕ) (rs : List Row) → Above x rs → count_at x rs ≡ 0
unfolding Above count_at
none_above x [] a = refl
none_above x (r ∷ rs) a = rw (before_other x r.seen a.0, none_above x rs a.1)

none_same : (x : List ℕ) (rs : List Row) → Above x rs → count_where (same_bytes x) (map (λ r. r.seen) rs) ≡ 0
unfolding Above count_where
none_same x [] a = refl
none_same x (r ∷ rs) a = rw (before_other x r.seen a.0, none_same x rs a.1)

count_by : (x v : List ℕ) (r : Row) (rs more : List Row) (s b y : Bool) → same_bytes v r.seen ≡ s → is_before v r.seen ≡ b → same_bytes x v ≡ y → Asc (r ∷ rs)
    → count_at x more ≡ cond y (suc (count_at x rs)) (count_at x rs)
    → count_at x (cond s (row_of r.seen (suc r.count) ∷ rs) (cond b (row_of v 1 ∷ (r ∷ rs)) (r ∷ more)))
    ≡ cond y (suc (cond (same_bytes x r.seen) r.count (count_at x rs))) (cond (same_bytes x r.seen) r.count (count_at x rs))
unfolding count_at Asc Above
count_by x v r rs more true b true p q e a m =
    let z : same_bytes x r.seen ≡ true = ap (λ (u : List ℕ). same_bytes u r.seen) (same-eq x v e) ∙ p in
    rw z
count_by x v r rs more true b false p q e a m =
    let z : same_bytes x r.seen ≡ false = ap (same_bytes x) (sym (same-eq v r.seen p)) ∙ e in
    rw z
count_by x v r rs more false true true p q e a m =
    let f : x ≡ v = same-eq x v e in
    let z : same_bytes x r.seen ≡ false = ap (λ (u : List ℕ). same_bytes u r.seen) f ∙ p in
    let o : count_at x rs ≡ 0 = none_above x rs (above_lower x r.seen rs (ap (λ (u : List ℕ). is_before u r.seen) f ∙ q) a.0) in
    rw (e, z, o)
count_by x v r rs more false true false p q e a m = rw e
count_by x v r rs more false false true p q e a m =
    let z : same_bytes x r.seen ≡ false = ap (λ (u : List ℕ). same_bytes u r.seen) (same-eq x v e) ∙ p in
    rw z m
count_by x v r rs more false false false p q e a m = ap (cond (same_bytes x r.seen) r.count) m

count-counted : (x v : List ℕ) (rs : List Row) → Asc rs → count_at x (counted v rs) ≡ cond (same_bytes x v) (suc (count_at x rs)) (count_at x rs)
unfolding count_at counted Asc
count-counted x v [] a = refl
count-counted x v (r ∷ rs) a =
    count_by x v r rs (counted v rs) (same_bytes v r.seen) (is_before v r.seen) (same_bytes x v) refl refl refl a (count-counted x v rs a.1)

count_rows_lem : (x : List ℕ) (vs : List (List ℕ)) → count_at x (rows_of vs) ≡ times_in x vs
unfolding rows_of times_in count_where count_at
count_rows_lem x [] = refl
count_rows_lem x (v ∷ vs) =
    count-counted x v (rows_of vs) (asc_rows vs) ∙ ap (λ (n : ℕ). cond (same_bytes x v) (suc n) n) (count_rows_lem x vs)

count_at_lem : (rs : List Row) (i : ℕ) → Asc rs → i < length rs → count_at (get_or rs i none).seen rs ≡ (get_or rs i none).count
unfolding count_at Asc
count_at_lem [] i a l = absurd (omega arith)
count_at_lem (r ∷ rs) zero a l = rw (same_refl r.seen)
count_at_lem (r ∷ rs) (suc i) a l = rw (before_other' r.seen (get_or rs i none).seen (above_at r.seen rs i a.0 (omega arith)), count_at_lem rs i a.1 (omega arith))

-- ---- no count is 0
unfoldable Some : List Row → Type 0
Some [] = Unit {0}
Some (r ∷ rs) = (1 ≤ r.count) × Some rs

some_by : (v : List ℕ) (r : Row) (rs more : List Row) (s b : Bool) → Some (r ∷ rs) → Some more
    → Some (cond s (row_of r.seen (suc r.count) ∷ rs) (cond b (row_of v 1 ∷ (r ∷ rs)) (r ∷ more)))
unfolding Some
some_by v r rs more true b a m = (omega arith, a.1)
some_by v r rs more false true a m = (omega arith, a)
some_by v r rs more false false a m = (a.0, m)

some-counted : (v : List ℕ) (rs : List Row) → Some rs → Some (counted v rs)
unfolding Some counted
some-counted v [] a = (omega arith, tt)
some-counted v (r ∷ rs) a = some_by v r rs (counted v rs) (same_bytes v r.seen) (is_before v r.seen) a (some-counted v rs a.1)

some_rows : (vs : List (List ℕ)) → Some (rows_of vs)
unfolding Some rows_of
some_rows [] = tt
some_rows (v ∷ vs) = some-counted v (rows_of vs) (some_rows vs)

some_at : (rs : List Row) (i : ℕ) → Some rs → i < length rs → 1 ≤ (get_or rs i none).count
unfolding Some
some_at [] i a l = absurd (omega arith)
some_at (r ∷ rs) zero a l = a.0
some_at (r ∷ rs) (suc i) a l = some_at rs i a.1 (omega arith)

-- ---- a view that is reached has one row
once_by : (v : List ℕ) (r : Row) (rs : List Row) (s : Bool) → same_bytes v r.seen ≡ s → Above r.seen rs → 1 ≤ cond s r.count (count_at v rs)
    → (1 ≤ count_at v rs → count_where (same_bytes v) (map (λ r. r.seen) rs) ≡ 1)
    → cond s (suc (count_where (same_bytes v) (map (λ r. r.seen) rs))) (count_where (same_bytes v) (map (λ r. r.seen) rs)) ≡ 1
once_by v r rs true e a l f = ap suc (none_same v rs (subst (λ (u : List ℕ). Above u rs) (sym (same-eq v r.seen e)) a))
once_by v r rs false e a l f = f l

once : (v : List ℕ) (rs : List Row) → Asc rs → 1 ≤ count_at v rs → count_where (same_bytes v) (map (λ r. r.seen) rs) ≡ 1
unfolding count_at Asc count_where
once v [] a l = absurd (omega arith)
once v (r ∷ rs) a l = once_by v r rs (same_bytes v r.seen) refl a.0 l (λ m. once v rs a.1 m)

pub tallied : (vs : List (List ℕ)) → Tallied vs
unfolding times_in
tallied vs = record {
  right = λ i l. (sym (count_at_lem (rows_of vs) i (asc_rows vs) l) ∙ count_rows_lem (get_or (rows_of vs) i none).seen vs, some_at (rows_of vs) i (some_rows vs) l);
  complete = λ v l. once v (rows_of vs) (asc_rows vs) (subst (λ (n : ℕ). 1 ≤ n) (sym (count_rows_lem v vs)) l);
  ascending = λ i l. asc_at (rows_of vs) i (asc_rows vs) l;
  sum = counts_sum vs;
  few = rows_few vs;
}
