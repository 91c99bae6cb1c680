-- The reduction of 1988 is private: one party's dealing of 0 takes up the change of the product, and the members see no change.
--     change-turned, length-change     the change of the product as a polynomial, and with the runs exchanged
--     change-is, change-value          its value at every point, and its constant
--     zero-moves, zero_same            the dealing of 0 that takes it up, and a member's piece of it
--     masked-differ                    the masked share changes by the change of the product's value times delta
--     sent-differ, sent_same           what is sent to a member stays, whoever sends it
--     reduced-differ                   the new wire
-- Assumes nothing.
use mathlib.Core.Path.{◌≡◌, refl, sym, ap, ap₂, ◌∙◌, fun_ext}
use mathlib.Core.Logic.{◌≢◌}
use mathlib.Core.List.{List, [], ◌∷◌, map, map-map, Memᴰ}
use Prim.Native.Nat.{ℕ, zero, suc, ◌+◌, ◌≤◌, ◌<◌}
use native.Mathlib.Omega.{arith}
use lib.ListN.{length, take, get_or, length-take}
use lib.Seq.{length-take-le}
use Rattle.field.specs.Mod.{add, mul, sub}
use Rattle.field.specs.Prime.{Prime}
use Rattle.field.proofs.Solve.{Canon, zero_canon, add_canon, #, quote, solve}
use Rattle.field.proofs.Inverse.{pos}
use Rattle.sharing_laws.specs.Poly.{eval, sum_of, scale, product}
use Rattle.sharing_laws.specs.Interp.{Distinct, weights, dot, interpolate, delta}
use Rattle.sharing_laws.specs.Sharing.{opened}
use Rattle.sharing_laws.proofs.Polys.{eval_canon, eval_sum, eval-scale, eval-product, length_sum, length-scale, length-product}
use Rattle.sharing_laws.proofs.Interpolation.{interpolation}
use Rattle.sharing_laws.proofs.Deltas.{delta-at-0, length-delta}
use Rattle.sharing_laws.proofs.Alls.{distinct-take}
use Rattle.sharing_laws.specs.Basis.{fitted, row, matched_zero}
use Rattle.sharing_laws.proofs.Bases.{truncation, eval-fitted, length-fitted}
use Rattle.sharing_laws.proofs.Zeros.{zero-differ, fitted-first, fitted-turned}
use Rattle.sharing_laws.proofs.Openings.{Shared, shared-opened}
use Rattle.sharing_laws.proofs.Steps.{sum_over, masked_at, sent_at, reduced_at, change_at, change_of, Differ}
use Rattle.sharing_laws.proofs.Sums.{dot_differ, sum_moved}

take_whole : (k : ℕ) (f : List ℕ) → length f ≤ k → take k f ≡ f
take_whole zero [] le = refl
take_whole zero (a ∷ f) le = absurd (omega arith)
take_whole (suc k) [] le = refl
take_whole (suc k) (a ∷ f) le = ap (λ (l : List ℕ). a ∷ l) (take_whole k f (omega arith))

dot_canon : (p : ℕ) (ws vs : List ℕ) → Canon p (dot p ws vs)
unfolding dot
dot_canon p [] vs = zero_canon
dot_canon p (w ∷ ws) [] = zero_canon
dot_canon p (w ∷ ws) (v ∷ vs) = add_canon _ _

-- ---- the change of the product of two wires with the values u, v in the first run and u', v' in the second
module _ {p : ℕ} (prime : Prime p) (t : ℕ) (xs : List ℕ) (a b a' b' : ℕ → ℕ) where
  -- with the runs exchanged it is the change the other way
  pub change-turned : change_of p t xs a' b' a b ≡ scale p (sub p 0 1) (change_of p t xs a b a' b')
  unfolding change_of change_at
  change-turned =
      let pos : 0 < p = pos prime in
      let ys : List ℕ = take (t + t + 1) xs in
      ap (λ (h : ℕ → ℕ). fitted p ys (map h ys)) (fun_ext (λ x. solve p (search (quote, # (a x), # (b x), # (a' x), # (b' x))) (omega arith)))
      ∙ ap (fitted p ys) (sym (map-map (sub p 0) (change_at p a b a' b') ys))
      ∙ fitted-turned prime ys (map (change_at p a b a' b') ys)

  pub length-change : length (change_of p t xs a b a' b') ≤ suc (t + t)
  unfolding change_of
  length-change =
      let ys : List ℕ = take (t + t + 1) xs in
      omega (arith, length-fitted prime ys (map (change_at p a b a' b') ys), length-take (t + t + 1) xs)

  module _ (distinct : Distinct p xs) (majority : t + t < length xs) (u v u' v' : ℕ) (sa : Shared p t a u) (sb : Shared p t b v)
      (sa' : Shared p t a' u') (sb' : Shared p t b' v') where
    -- the polynomials' own difference
    difference : List ℕ
    difference = sum_of p (product p sa'.poly sb'.poly) (scale p (sub p 0 1) (product p sa.poly sb.poly))

    difference-at : (x : ℕ) → change_at p a b a' b' x ≡ eval p difference x
    unfolding change_at difference
    difference-at x =
        let pos : 0 < p = pos prime in
        let f : List ℕ = product p sa'.poly sb'.poly in
        let g : List ℕ = product p sa.poly sb.poly in
        ap₂ (sub p) (ap₂ (mul p) (sa'.value x) (sb'.value x) ∙ sym (eval-product p sa'.poly sb'.poly x))
        (ap₂ (mul p) (sa.value x) (sb.value x) ∙ sym (eval-product p sa.poly sb.poly x))
        ∙ solve p {b = add p (eval p f x) (mul p (sub p 0 1) (eval p g x))} (search (quote, # (eval p f x), # (eval p g x))) (omega arith)
        ∙ ap (add p (eval p f x)) (sym (eval-scale p (sub p 0 1) g x)) ∙ sym (eval_sum p f (scale p (sub p 0 1) g) x)

    length-difference : length difference ≤ t + t + 1
    unfolding difference
    length-difference =
        let f : List ℕ = product p sa'.poly sb'.poly in
        let g : List ℕ = product p sa.poly sb.poly in
        omega (
          arith,
          length_sum p f (scale p (sub p 0 1) g),
          length-scale p (sub p 0 1) g,
          length-product p sa'.poly sb'.poly,
          length-product p sa.poly sb.poly,
          sa.small,
          sb.small,
          sa'.small,
          sb'.small,
        )

    -- it is the polynomial of the change at every point, not only at those that it is fitted to
    pub change-is : (x : ℕ) → eval p (change_of p t xs a b a' b') x ≡ change_at p a b a' b' x
    unfolding change_of
    change-is x =
        let ys : List ℕ = take (t + t + 1) xs in
        eval-fitted prime ys (map (change_at p a b a' b') ys) x
        ∙ ap (λ (h : ℕ → ℕ). interpolate p x ys (map h ys)) (fun_ext difference-at)
        ∙ interpolation prime x ys difference (distinct-take p (t + t + 1) xs distinct) (omega (arith, length-difference, length-take-le (t + t + 1) xs (omega arith)))
        ∙ sym (difference-at x)

    -- its constant is the change of the product's value
    pub change-value : get_or (change_of p t xs a b a' b') 0 0 ≡ sub p (mul p u' v') (mul p u v)
    unfolding change_of change_at
    change-value =
        let ys : List ℕ = take (t + t + 1) xs in
        fitted-first prime ys (map (change_at p a b a' b') ys) ∙ change-is 0
        ∙ ap₂ (sub p) (ap₂ (mul p) (sa'.value 0 ∙ sa'.secret) (sb'.value 0 ∙ sb'.secret))
        (ap₂ (mul p) (sa.value 0 ∙ sa.secret) (sb.value 0 ∙ sb.secret))

    -- the dealing of 0 that takes up the change, at every point
    pub zero-moves :
        (cs coins : List ℕ) (x : ℕ)
        → eval p (0 ∷ matched_zero p cs (change_of p t xs a b a' b') coins) x
        ≡ add p (eval p (0 ∷ coins) x) (sub p (mul p (sub p (mul p u' v') (mul p u v)) (eval p (delta p cs) x)) (change_at p a b a' b' x))
    zero-moves cs coins x =
        zero-differ prime cs (change_of p t xs a b a' b') coins x
        ∙ ap₂ (λ (n m : ℕ). add p (eval p (0 ∷ coins) x) (sub p (mul p n (eval p (delta p cs) x)) m)) change-value (change-is x)

    -- a member's piece of it stays
    pub zero_same :
        (cs coins : List ℕ) (c : ℕ) → Differ p cs a a' u u' → Differ p cs b b' v v' → eval p (delta p cs) c ≡ 0
        → eval p (0 ∷ matched_zero p cs (change_of p t xs a b a' b') coins) c ≡ eval p (0 ∷ coins) c
    unfolding change_at
    zero_same cs coins c da db z =
        let pos : 0 < p = pos prime in
        zero-moves cs coins c ∙ rw (da c, db c, z)
        (solve p (search (quote, eval_canon, # (eval p (0 ∷ coins) c), # (a c), # (b c), # (sub p u' u), # (sub p v' v), # (sub p (mul p u' v') (mul p u v))) depth 9) (omega arith))

-- ---- delta, as shares of 1
module _ {p : ℕ} (prime : Prime p) (t : ℕ) (xs is : List ℕ) (at : ℕ → ℕ) (are : xs ≡ map at is) (distinct : Distinct p xs) (enough : t < length xs)
    (cs : List ℕ) (few : length cs ≤ t) where
  abbrev spare : ℕ → ℕ
  spare x = eval p (delta p cs) x

  spare-shared : Shared p t (eval p (delta p cs)) 1
  spare-shared = record { poly = delta p cs; small = omega (arith, length-delta p cs); value = λ x. refl; secret = delta-at-0 prime cs }

  spare-row : (x : ℕ) → dot p (row p t xs x) (map (λ i. spare (at i)) is) ≡ spare x
  spare-row x =
      ap (dot p (row p t xs x)) (sym (map-map (eval p (delta p cs)) at is) ∙ ap (map (eval p (delta p cs))) (sym are))
      ∙ truncation prime t xs (delta p cs) distinct (omega (arith, length-delta p cs)) x
      ∙ ap (λ (f : List ℕ). eval p f x) (take_whole (suc t) (delta p cs) (omega (arith, length-delta p cs)))

  -- ---- the masked share: party l's dealing of 0 takes up the change, and the others' stay
  pub masked-differ :
      (e l : ℕ) (a b a' b' : ℕ → ℕ) (mask mask' : ℕ → ℕ → ℕ) → Memᴰ l is
      → ((x : ℕ) → mask' l x ≡ add p (mask l x) (sub p (mul p e (spare x)) (change_at p a b a' b' x)))
      → ((i : ℕ) → i ≢ l → (x : ℕ) → mask' i x ≡ mask i x)
      → (x : ℕ) → masked_at p is a' b' mask' x ≡ add p (masked_at p is a b mask x) (mul p e (spare x))
  unfolding masked_at change_at
  masked-differ e l a b a' b' mask mask' m moved kept x =
      let pos : 0 < p = pos prime in
      ap (add p (mul p (a' x) (b' x)))
      (sum_moved p at l (sub p (mul p e (spare x)) (change_at p a b a' b' x)) (λ i. mask i x) (λ i. mask' i x) (moved x) (λ i ne. kept i ne x) is
      (rw are at distinct) m)
      ∙ solve p (search (quote, # e, # (spare x), # (a x), # (b x), # (a' x), # (b' x), # (sum_over p is (λ i. mask i x))) depth 9) (omega arith)

  -- ---- the pieces: party i's dealing changes by e times delta at its own point, times delta
  module _ (e : ℕ) (piece piece' : ℕ → ℕ → ℕ) (moves : (i y : ℕ) → piece' i y ≡ add p (piece i y) (mul p (mul p e (spare (at i))) (spare y))) where
    pub sent-differ : (x y : ℕ) → sent_at p t xs is piece' x y ≡ add p (sent_at p t xs is piece x y) (mul p (mul p e (spare x)) (spare y))
    unfolding sent_at
    sent-differ x y =
        let turned : (i : ℕ) → piece' i y ≡ add p (piece i y) (mul p (mul p e (spare y)) (spare (at i)))
        = λ i. moves i y ∙ solve p (search (quote, # (piece i y), # e, # (spare (at i)), # (spare y))) (omega arith) in
        ap (λ (h : ℕ → ℕ). dot p (row p t xs x) (map h is)) (fun_ext turned)
        ∙ dot_differ p (mul p e (spare y)) (λ i. piece i y) (λ i. spare (at i)) (row p t xs x) is
        ∙ ap (λ (n : ℕ). add p (sent_at p t xs is piece x y) (mul p (mul p e (spare y)) n)) (spare-row x)
        ∙ solve p (search (quote, # (sent_at p t xs is piece x y), # e, # (spare x), # (spare y))) (omega arith)

    sent-canon : (x y : ℕ) → Canon p (sent_at p t xs is piece x y)
    unfolding sent_at
    sent-canon x y = dot_canon p (row p t xs x) (map (λ i. piece i y) is)

    -- nothing that is sent to a member changes, whoever sends it
    pub sent_same : (x y : ℕ) → spare x ≡ 0 → sent_at p t xs is piece' x y ≡ sent_at p t xs is piece x y
    sent_same x y z =
        sent-differ x y ∙ rw z
        (solve p (search (quote, sent-canon x y, # (sent_at p t xs is piece x y), # e, # (spare y))) (omega arith))

    pub reduced-differ : (x : ℕ) → reduced_at p t xs is piece' x ≡ add p (reduced_at p t xs is piece x) (mul p e (spare x))
    unfolding reduced_at opened interpolate
    reduced-differ x =
        let first : List ℕ = take (t + 1) xs in
        ap (λ (h : ℕ → ℕ). opened p t xs (map h xs)) (fun_ext (sent-differ x))
        ∙ dot_differ p (mul p e (spare x)) (sent_at p t xs is piece x) spare (weights p 0 first) xs
        ∙ ap (λ (n : ℕ). add p (reduced_at p t xs is piece x) (mul p (mul p e (spare x)) n))
        (shared-opened prime t xs distinct (omega arith) (eval p (delta p cs)) 1 spare-shared)
        ∙ solve p (search (quote, # (reduced_at p t xs is piece x), # e, # (spare x))) (omega arith)
