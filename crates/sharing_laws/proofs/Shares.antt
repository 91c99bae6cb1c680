-- What sharing rests on: products interpolate, dealings mix, a shift shows nothing at the points it spares, and shares that lie on one polynomial.
use mathlib.Core.Path.{◌≡◌, refl, sym, ap, ap₂, ◌∙◌, fun_ext}
use mathlib.Core.Logic.{◌≢◌, ◌↔◌}
use mathlib.Core.List.{List, [], ◌∷◌, map, Memᴰ, tail}
use Prim.Native.Nat.{ℕ, zero, suc, ◌+◌, ◌-◌, ◌%◌, ◌≤◌, ◌<◌}
use native.Mathlib.Nat.{mod-eq_of_lt}
use native.Mathlib.Omega.{arith}
use lib.ListN.{length}
use Rattle.field.specs.Mod.{add, mul, sub}
use Rattle.field.specs.Prime.{Prime, inv}
use Rattle.sharing_laws.specs.Poly.{eval, sum_of, scale, product, linear}
use Rattle.sharing_laws.specs.Interp.{All, Distinct, weights, dot, interpolate, delta}
use Rattle.sharing_laws.specs.Sharing.{mixture, matched}
use Rattle.numbers.specs.Tables.{tab}
use Rattle.field.proofs.Solve.{Canon, add_canon, #, quote, solve}
use Rattle.field.proofs.Inverse.{pos, one-canon}
use Rattle.sharing_laws.proofs.Alls.{all-tab}
use Rattle.sharing_laws.proofs.Polys.{eval_canon, eval_sum, eval-scale, eval-product, length_sum, length-scale, length-product}
use Rattle.sharing_laws.proofs.Interpolation.{interpolation}
use Rattle.sharing_laws.proofs.Roots.{through, through-values, length-through}
use Rattle.sharing_laws.proofs.Deltas.{delta-at, length-delta}

-- ---- numbers below p of which no two are the same are distinct modulo p
pub distinct-tab :
    (p : ℕ) (f : ℕ → ℕ) (n : ℕ) → ((i : ℕ) → i < n → f i < p) → ((i j : ℕ) → j < i → i < n → f i ≢ f j) → Distinct p (tab f n)
unfolding tab
distinct-tab p f zero small apart = tt
distinct-tab p f (suc n) small apart = (
  all-tab (λ y. y % p ≢ f 0 % p) (λ k. f (suc k)) n
      (λ k l e. apart (suc k) 0 (omega arith) (omega arith)
      (sym (mod-eq_of_lt (small (suc k) (omega arith))) ∙ e ∙ mod-eq_of_lt (small 0 (omega arith)))),
  distinct-tab p (λ k. f (suc k)) n (λ i l. small (suc i) (omega arith)) (λ i j l m. apart (suc i) (suc j) (omega arith) (omega arith)),
)

-- ---- mixtures
pub eval-mixture : (p : ℕ) (ws : List ℕ) (fs : List (List ℕ)) (x : ℕ) → eval p (mixture p ws fs) x ≡ dot p ws (map (λ f. eval p f x) fs)
unfolding mixture dot eval
eval-mixture p [] fs x = refl
eval-mixture p (w ∷ ws) [] x = refl
eval-mixture p (w ∷ ws) (f ∷ fs) x = rw (eval_sum p (scale p w f) (mixture p ws fs) x, eval-scale p w f x, eval-mixture p ws fs x)

abbrev pub Every : (List ℕ → Type 0) → List (List ℕ) → Type 0
Every P [] = Unit
Every P (f ∷ fs) = P f × Every P fs

pub length-mixture : (p k : ℕ) (ws : List ℕ) (fs : List (List ℕ)) → Every (λ f. length f ≤ k) fs → length (mixture p ws fs) ≤ k
unfolding mixture
length-mixture p k [] fs h = omega arith
length-mixture p k (w ∷ ws) [] h = omega arith
length-mixture p k (w ∷ ws) (f ∷ fs) h = omega (arith, length_sum p (scale p w f) (mixture p ws fs), length-scale p w f, length-mixture p k ws fs h.1, h.0)

module _ {p : ℕ} (prime : Prime p) where
  -- the product of two polynomials, from its values
  pub product-interpolation : (z : ℕ) (xs f g : List ℕ) → Distinct p xs → length f + (length g - 1) ≤ length xs → interpolate p z xs (map (λ x. mul p (eval p f x) (eval p g x)) xs) ≡ mul p (eval p f z) (eval p g z)
  product-interpolation z xs f g d le =
      ap (λ (h : ℕ → ℕ). interpolate p z xs (map h xs)) (fun_ext (λ x. sym (eval-product p f g x)))
      ∙ interpolation prime z xs (product p f g) d (omega (arith, length-product p f g)) ∙ eval-product p f g z

  -- degree reduction: polynomials hs, dealt each from a product of values, mix to one whose value at 0 is the product
  pub reduction : (xs f g : List ℕ) (hs : List (List ℕ)) → Distinct p xs → length f + (length g - 1) ≤ length xs → map (λ h. eval p h 0) hs ≡ map (λ x. mul p (eval p f x) (eval p g x)) xs → eval p (mixture p (weights p 0 xs) hs) 0 ≡ mul p (eval p f 0) (eval p g 0)
  unfolding interpolate
  reduction xs f g hs d le e = eval-mixture p (weights p 0 xs) hs 0 ∙ ap (dot p (weights p 0 xs)) e ∙ product-interpolation 0 xs f g d le

  -- the matched dealing of s' gives the points cs what the dealing of s gave them
  linear-head : (b : ℕ) (f t : List ℕ) → f ≡ 1 ∷ t → linear p 1 b f ≡ 1 ∷ tail (linear p 1 b f)
  unfolding linear sum_of scale
  linear-head b f t e = rw e (ap₂ ◌∷◌ (solve p (search (quote, one-canon prime)) (omega arith)) refl)

  delta-head : (cs : List ℕ) → delta p cs ≡ 1 ∷ tail (delta p cs)
  unfolding delta
  delta-head [] = refl
  delta-head (c ∷ cs) = linear-head (sub p 0 (inv p c)) (delta p cs) (tail (delta p cs)) (delta-head cs)

  -- the matched dealing of s' differs from the dealing of s by their difference times delta, at every point
  pub matched-all : (cs coins : List ℕ) (s s' x : ℕ) → eval p (s' ∷ matched p cs (sub p s' s) coins) x ≡ add p (eval p (s ∷ coins) x) (mul p (sub p s' s) (eval p (delta p cs) x))
  unfolding matched eval
  matched-all cs coins s s' x =
      let pos : 0 < p = pos prime in
      let rest : List ℕ = tail (delta p cs) in
      let whole : eval p (delta p cs) x ≡ add p 1 (mul p x (eval p (tail (delta p cs)) x)) = ap (λ f. eval p f x) (delta-head cs) in
      rw (whole, eval_sum p coins (scale p (sub p s' s) rest) x, eval-scale p (sub p s' s) rest x)
      (solve p (search (quote, # s, # s', # x, # (eval p coins x), # (eval p (tail (delta p cs)) x)) depth 9) (omega arith))

  -- so it is the same at the points cs
  pub matched-at : (cs coins : List ℕ) (s s' c : ℕ) → c % p ≢ 0 → Memᴰ c cs → eval p (s' ∷ matched p cs (sub p s' s) coins) c ≡ eval p (s ∷ coins) c
  matched-at cs coins s s' c nz m = matched-all cs coins s s' c ∙ rw (delta-at prime cs c nz m) (solve p (search (quote, eval_canon, # (eval p (s ∷ coins) c), # (sub p s' s))) (omega arith))

  length-tail-delta : (cs : List ℕ) → length (tail (delta p cs)) ≡ length cs
  length-tail-delta cs = omega (arith, length-delta p cs, ap length (delta-head cs))

  pub length-matched : (cs coins : List ℕ) (d : ℕ) → length cs ≤ length coins → length (matched p cs d coins) ≡ length coins
  unfolding matched
  length-matched cs coins d le = omega (arith, length_sum p coins (scale p d (tail (delta p cs))), length-scale p d (tail (delta p cs)), length-tail-delta cs)

  sum_canon : (f g : List ℕ) → All (Canon p) f → length g ≤ length f → All (Canon p) (sum_of p f g)
  unfolding sum_of
  sum_canon [] [] can le = tt
  sum_canon [] (b ∷ g) can le = absurd (omega arith)
  sum_canon (a ∷ f) [] can le = can
  sum_canon (a ∷ f) (b ∷ g) can le = (add_canon a b, sum_canon f g can.1 (omega arith))

  sum_back : (d : ℕ) (f g : List ℕ) → All (Canon p) f → length g ≤ length f → sum_of p (sum_of p f (scale p d g)) (scale p (sub p 0 d) g) ≡ f
  unfolding sum_of scale
  sum_back d [] [] can le = refl
  sum_back d [] (b ∷ g) can le = absurd (omega arith)
  sum_back d (a ∷ f) [] can le = refl
  sum_back d (a ∷ f) (b ∷ g) can le =
      let pos : 0 < p = pos prime in
      ap₂ ◌∷◌ (solve p (search (quote, can.0, # a, # b, # d)) (omega arith)) (sum_back d f g can.1 (omega arith))

  pub matched-canon : (cs coins : List ℕ) (d : ℕ) → length cs ≤ length coins → All (Canon p) coins → All (Canon p) (matched p cs d coins)
  unfolding matched
  matched-canon cs coins d le can = sum_canon coins (scale p d (tail (delta p cs))) can (omega (arith, length-scale p d (tail (delta p cs)), length-tail-delta cs))

  -- and the matching goes back
  pub matched-back : (cs coins : List ℕ) (d : ℕ) → length cs ≤ length coins → All (Canon p) coins → matched p cs (sub p 0 d) (matched p cs d coins) ≡ coins
  unfolding matched
  matched-back cs coins d le can = sum_back d coins (tail (delta p cs)) can (omega (arith, length-tail-delta cs))

  -- two polynomials that agree at enough points agree everywhere
  pub agree : (xs f g : List ℕ) → Distinct p xs → length f ≤ length xs → length g ≤ length xs → map (eval p f) xs ≡ map (eval p g) xs → (z : ℕ) → eval p f z ≡ eval p g z
  agree xs f g d lf lg e z = sym (interpolation prime z xs f d lf) ∙ ap (interpolate p z xs) e ∙ interpolation prime z xs g d lg

  interpolate-all : (xs ys vs f : List ℕ) → Distinct p xs → length f ≤ length xs → map (eval p f) xs ≡ vs → map (λ y. interpolate p y xs vs) ys ≡ map (eval p f) ys
  interpolate-all xs ys vs f d le e = ap (λ (h : ℕ → ℕ). map h ys) (fun_ext (λ y. ap (interpolate p y xs) (sym e) ∙ interpolation prime y xs f d le))

  -- the values vs at the points xs and us at ys lie on a polynomial with as many coefficients as there are points xs, just if interpolation from xs gives us
  pub lies-on : (xs ys vs us : List ℕ) → Distinct p xs → All (Canon p) vs → length vs ≡ length xs →
      ((f : List ℕ) × (length f ≤ length xs) × (map (eval p f) xs ≡ vs) × (map (eval p f) ys ≡ us)) ↔ (map (λ y. interpolate p y xs vs) ys ≡ us)
  lies-on xs ys vs us d can len = (
    λ h. interpolate-all xs ys vs h.0 d h.1 h.2 ∙ h.3,
    λ e. let f : List ℕ = through p xs vs in
        let fits : length f ≤ length xs = omega (arith, length-through prime xs vs len) in
        let on : map (eval p f) xs ≡ vs = through-values prime xs vs d can len in
        (f, fits, on, sym (interpolate-all xs ys vs f d fits on) ∙ e),
  )
