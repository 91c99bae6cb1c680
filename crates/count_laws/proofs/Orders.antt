-- The order of views, and sameness.
--     same_refl, same-eq              sameness
--     before_other, before_other'     a view before another is another
--     before_by, equal_same           neither the same nor behind; neither before nor behind
--     before_unit                     a count of 1 behind both changes nothing
-- Assumes nothing.
use Prim.Native.Nat.{ℕ}
use mathlib.Core.Path.{◌≡◌, refl, sym, ap, ◌∙◌}
use mathlib.Core.Bool.{Bool, true, false, cond}
use mathlib.Core.List.{List, [], ◌∷◌, ◌++◌}
use Rattle.std.proofs.lemmas.Bool.{false_from_ne_true}
use native.Mathlib.Omega.{arith}
use borrow.Author.Tests.{clash, eq-eqb, eqb-true}
use lib.Dec.{eqb, ltb}
use lib.ListN.{length}
use Rattle.numbers.proofs.Truth.{both_true}
use Rattle.plan.specs.File.{same_bytes}
use Rattle.std.specs.Ordering.{is_eq}
use Rattle.count_rows.specs.Tables.{is_before, order_of}
use Rattle.std.specs.declared.cmp.Ordering.TheVariants.{Less, Equal, Greater}
use Rattle.count_rows.proofs.Orders.{before_irrefl, up_antisym}

pub same_refl : (xs : List ℕ) → same_bytes xs xs ≡ true
unfolding same_bytes
same_refl [] = refl
same_refl (x ∷ xs) = rw (eq-eqb x x refl, same_refl xs)

pub same-eq : (xs ys : List ℕ) → same_bytes xs ys ≡ true → xs ≡ ys
unfolding same_bytes
same-eq [] [] h = refl
same-eq [] (y ∷ ys) h = absurd (clash h)
same-eq (x ∷ xs) [] h = absurd (clash h)
same-eq (x ∷ xs) (y ∷ ys) h =
    let f = both_true (eqb x y) (same_bytes xs ys) h in
    let e : x ≡ y = eqb-true x y f.0 in
    let g : xs ≡ ys = same-eq xs ys f.1 in
    cc

pub before_other : (xs ys : List ℕ) → is_before xs ys ≡ true → same_bytes xs ys ≡ false
before_other xs ys h = false_from_ne_true (same_bytes xs ys) (λ e. absurd (clash (sym (ap (is_before xs) (sym (same-eq xs ys e)) ∙ before_irrefl xs) ∙ h)))

pub before_other' : (xs ys : List ℕ) → is_before xs ys ≡ true → same_bytes ys xs ≡ false
before_other' xs ys h = false_from_ne_true (same_bytes ys xs) (λ e. absurd (clash (sym (ap (is_before xs) (same-eq ys xs e) ∙ before_irrefl xs) ∙ h)))

-- neither the same nor behind: before
pub before_by : (xs ys : List ℕ) (b : Bool) → is_before xs ys ≡ b → same_bytes xs ys ≡ false → is_before ys xs ≡ false → is_before xs ys ≡ true
before_by xs ys true e f g = e
before_by xs ys false e f g =
    let q : xs ≡ ys = up_antisym xs ys g e in
    absurd (clash (sym f ∙ ap (same_bytes xs) (sym q) ∙ same_refl xs))

equal_by : (xs ys : List ℕ) (s a b : Bool) → same_bytes xs ys ≡ s → is_before xs ys ≡ a → is_before ys xs ≡ b → is_eq (cond a Less (cond b Greater Equal)) ≡ s
equal_by xs ys true true b p q r = absurd (clash (sym (ap (is_before xs) (sym (same-eq xs ys p)) ∙ before_irrefl xs) ∙ q))
equal_by xs ys true false true p q r = absurd (clash (sym (ap (is_before ys) (same-eq xs ys p) ∙ before_irrefl ys) ∙ r))
equal_by xs ys true false false p q r = refl
equal_by xs ys false true b p q r = refl
equal_by xs ys false false true p q r = refl
equal_by xs ys false false false p q r =
    let e : xs ≡ ys = up_antisym xs ys r q in
    absurd (clash (sym p ∙ ap (same_bytes xs) (sym e) ∙ same_refl xs))

pub equal_same : (xs ys : List ℕ) → is_eq (order_of xs ys) ≡ same_bytes xs ys
unfolding order_of
equal_same xs ys = equal_by xs ys (same_bytes xs ys) (is_before xs ys) (is_before ys xs) refl refl refl

-- the count behind a view changes nothing
pub before_unit : (xs ys : List ℕ) → length xs ≡ length ys → is_before (xs ++ (1 ∷ [])) (ys ++ (1 ∷ [])) ≡ is_before xs ys
unfolding is_before
before_unit [] [] e = refl
before_unit [] (y ∷ ys) e = absurd (omega arith)
before_unit (x ∷ xs) [] e = absurd (omega arith)
before_unit (x ∷ xs) (y ∷ ys) e = ap (λ (b : Bool). cond (ltb x y) true (cond (eqb x y) b false)) (before_unit xs ys (omega arith))
