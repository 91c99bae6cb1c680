-- The dealing of 0 that takes up the change d of a product's polynomial, with the coins `matched_zero p cs d coins`.
--     zero-differ                  at every point it changes by d's constant times delta, less d
--     length-zero, zero-canon-all  its coins stay as many, and elements
--     zero-back                    the change the other way undoes it
--     matched-none                 a dealing whose value stays keeps its coins
--     fitted-canon, fitted-first, fitted-turned     d, as fitted to the values of the change
-- Assumes nothing.
use mathlib.Core.Path.{◌≡◌, refl, sym, ap, ap₂, ◌∙◌, fun_ext}
use mathlib.Core.List.{List, [], ◌∷◌, map, map-map, tail}
use Prim.Native.Nat.{ℕ, suc, ◌-◌, ◌≤◌, ◌<◌}
use native.Mathlib.Omega.{arith}
use lib.ListN.{length, get_or}
use Rattle.field.specs.Mod.{add, mul, sub}
use Rattle.field.specs.Prime.{Prime}
use Rattle.field.proofs.Solve.{Canon, add_canon, mul_canon, #, quote, solve}
use Rattle.field.proofs.Inverse.{pos}
use Rattle.sharing_laws.specs.Poly.{eval, sum_of, scale}
use Rattle.sharing_laws.specs.Interp.{All, delta}
use Rattle.sharing_laws.specs.Sharing.{mixture, matched}
use Rattle.sharing_laws.proofs.Polys.{eval_sum, eval-scale, length_sum, length-scale}
use Rattle.sharing_laws.proofs.Deltas.{length-delta}
use Rattle.sharing_laws.proofs.Shares.{matched-all, length-matched, matched-canon, matched-back}
use Rattle.sharing_laws.specs.Basis.{basis, fitted, matched_zero}

-- ---- sums of polynomials, by their coefficients
pub sum-none : (p : ℕ) (f : List ℕ) → sum_of p f [] ≡ f
unfolding sum_of
sum-none p [] = refl
sum-none p (a ∷ f) = refl

pub sum_turn : (p : ℕ) (f g : List ℕ) → sum_of p f g ≡ sum_of p g f
unfolding sum_of
sum_turn p [] g = sym (sum-none p g)
sum_turn p (a ∷ f) [] = refl
sum_turn p (a ∷ f) (b ∷ g) = ap₂ ◌∷◌ (solve p (search (quote, # a, # b)) (omega arith)) (sum_turn p f g)

pub sum_swap : (p : ℕ) (f g h : List ℕ) → sum_of p (sum_of p f g) h ≡ sum_of p (sum_of p f h) g
unfolding sum_of
sum_swap p [] g h = sum_turn p g h
sum_swap p (a ∷ f) [] h = sym (sum-none p (sum_of p (a ∷ f) h))
sum_swap p (a ∷ f) (b ∷ g) [] = refl
sum_swap p (a ∷ f) (b ∷ g) (c ∷ h) = ap₂ ◌∷◌ (solve p (search (quote, # a, # b, # c)) (omega arith)) (sum_swap p f g h)

pub sum_canons : (p : ℕ) (f g : List ℕ) → All (Canon p) f → All (Canon p) g → All (Canon p) (sum_of p f g)
unfolding sum_of
sum_canons p [] g cf cg = cg
sum_canons p (a ∷ f) [] cf cg = cf
sum_canons p (a ∷ f) (b ∷ g) cf cg = (add_canon a b, sum_canons p f g cf.1 cg.1)

pub scale_canons : (p c : ℕ) (f : List ℕ) → All (Canon p) (scale p c f)
unfolding scale
scale_canons p c [] = tt
scale_canons p c (a ∷ f) = (mul_canon c a, scale_canons p c f)

pub mixture_canons : (p : ℕ) (ws : List ℕ) (fs : List (List ℕ)) → All (Canon p) (mixture p ws fs)
unfolding mixture
mixture_canons p [] fs = tt
mixture_canons p (w ∷ ws) [] = tt
mixture_canons p (w ∷ ws) (f ∷ fs) = sum_canons p (scale p w f) (mixture p ws fs) (scale_canons p w f) (mixture_canons p ws fs)

scale_sum : (p c : ℕ) (f g : List ℕ) → scale p c (sum_of p f g) ≡ sum_of p (scale p c f) (scale p c g)
unfolding scale sum_of
scale_sum p c [] g = refl
scale_sum p c (a ∷ f) [] = refl
scale_sum p c (a ∷ f) (b ∷ g) = ap₂ ◌∷◌ (solve p (search (quote, # a, # b, # c)) (omega arith)) (scale_sum p c f g)

length-tail : (d : List ℕ) → length (tail d) ≡ length d - 1
length-tail [] = refl
length-tail (a ∷ d) = omega arith

tail-scale : (p c : ℕ) (d : List ℕ) → tail (scale p c d) ≡ scale p c (tail d)
unfolding scale
tail-scale p c [] = refl
tail-scale p c (a ∷ d) = refl

module _ {p : ℕ} (prime : Prime p) where
  scale-twice : (f : List ℕ) → scale p (sub p 0 1) (scale p (sub p 0 1) f) ≡ scale p (sub p 0 (sub p 0 1)) f
  unfolding scale
  scale-twice f =
      let pos : 0 < p = pos prime in
      map-map (mul p (sub p 0 1)) (mul p (sub p 0 1)) f
      ∙ ap (λ (h : ℕ → ℕ). map h f) (fun_ext (λ a. solve p (search (quote, # a)) (omega arith)))

  sum_back : (d : ℕ) (f g : List ℕ) → All (Canon p) f → length g ≤ length f → sum_of p (sum_of p f (scale p d g)) (scale p (sub p 0 d) g) ≡ f
  unfolding sum_of scale
  sum_back d [] [] can le = refl
  sum_back d [] (b ∷ g) can le = absurd (omega arith)
  sum_back d (a ∷ f) [] can le = refl
  sum_back d (a ∷ f) (b ∷ g) can le =
      let pos : 0 < p = pos prime in
      ap₂ ◌∷◌ (solve p (search (quote, can.0, # a, # b, # d)) (omega arith)) (sum_back d f g can.1 (omega arith))

  -- ---- the dealing
  -- a polynomial by its constant and the rest
  eval-parts : (d : List ℕ) (x : ℕ) → eval p d x ≡ add p (get_or d 0 0) (mul p x (eval p (tail d) x))
  unfolding eval
  eval-parts [] x = solve p (search (quote, # x)) (omega arith)
  eval-parts (a ∷ d) x = refl

  matched-twice : (cs coins : List ℕ) (d : ℕ) → matched p cs d coins ≡ matched p cs (sub p 0 (sub p 0 d)) coins
  unfolding matched scale
  matched-twice cs coins d =
      let pos : 0 < p = pos prime in
      ap (λ (h : ℕ → ℕ). sum_of p coins (map h (tail (delta p cs)))) (fun_ext (λ b. solve p (search (quote, # b, # d)) (omega arith)))

  pub zero-differ :
      (cs d coins : List ℕ) (x : ℕ)
      → eval p (0 ∷ matched_zero p cs d coins) x
      ≡ add p (eval p (0 ∷ coins) x) (sub p (mul p (get_or d 0 0) (eval p (delta p cs) x)) (eval p d x))
  unfolding matched_zero eval
  zero-differ cs d coins x =
      let pos : 0 < p = pos prime in
      let c : ℕ = get_or d 0 0 in
      let rest : List ℕ = sum_of p coins (scale p (sub p 0 1) (tail d)) in
      ap (λ (l : List ℕ). eval p (0 ∷ l) x) (matched-twice cs rest c)
      ∙ matched-all prime cs rest (sub p 0 c) 0 x
      ∙ rw (eval_sum p coins (scale p (sub p 0 1) (tail d)) x, eval-scale p (sub p 0 1) (tail d) x, eval-parts d x)
      (solve p (search (quote, # x, # (get_or d 0 0), # (eval p coins x), # (eval p (tail d) x), # (eval p (delta p cs) x)) depth 9) (omega arith))

  first-turned : (d : List ℕ) → get_or (scale p (sub p 0 1) d) 0 0 ≡ sub p 0 (get_or d 0 0)
  unfolding scale
  first-turned [] = let pos : 0 < p = pos prime in solve p (search quote) (omega arith)
  first-turned (a ∷ d) = let pos : 0 < p = pos prime in solve p (search (quote, # a)) (omega arith)

  module _ (cs d coins : List ℕ) (few : length cs ≤ length coins) (fits : length d ≤ suc (length coins)) where
    length_rest : length (sum_of p coins (scale p (sub p 0 1) (tail d))) ≡ length coins
    length_rest = omega (arith, length_sum p coins (scale p (sub p 0 1) (tail d)), length-scale p (sub p 0 1) (tail d), length-tail d)

    pub length-zero : length (matched_zero p cs d coins) ≡ length coins
    unfolding matched_zero
    length-zero = length-matched prime cs (sum_of p coins (scale p (sub p 0 1) (tail d))) (get_or d 0 0) (omega (arith, length_rest)) ∙ length_rest

    rest-canon : All (Canon p) coins → All (Canon p) (sum_of p coins (scale p (sub p 0 1) (tail d)))
    rest-canon can = sum_canons p coins (scale p (sub p 0 1) (tail d)) can (scale_canons p (sub p 0 1) (tail d))

    pub zero-canon-all : All (Canon p) coins → All (Canon p) (matched_zero p cs d coins)
    unfolding matched_zero
    zero-canon-all can = matched-canon prime cs (sum_of p coins (scale p (sub p 0 1) (tail d))) (get_or d 0 0) (omega (arith, length_rest)) (rest-canon can)

    turned-tail : scale p (sub p 0 1) (tail (scale p (sub p 0 1) d)) ≡ scale p (sub p 0 (sub p 0 1)) (tail d)
    turned-tail = ap (scale p (sub p 0 1)) (tail-scale p (sub p 0 1) d) ∙ scale-twice (tail d)

    -- the change the other way undoes it
    pub zero-back : All (Canon p) coins → matched_zero p cs (scale p (sub p 0 1) d) (matched_zero p cs d coins) ≡ coins
    unfolding matched_zero matched
    zero-back can =
        let less : List ℕ = scale p (sub p 0 1) (tail d) in
        let more : List ℕ = scale p (get_or d 0 0) (tail (delta p cs)) in
        let less' : List ℕ = scale p (sub p 0 1) (tail (scale p (sub p 0 1) d)) in
        let more' : List ℕ = scale p (get_or (scale p (sub p 0 1) d) 0 0) (tail (delta p cs)) in
        ap (λ (l : List ℕ). sum_of p l more') (sum_swap p (sum_of p coins less) more less')
        ∙ ap (λ (l : List ℕ). sum_of p (sum_of p l more) more')
        (ap (sum_of p (sum_of p coins less)) turned-tail ∙ sum_back (sub p 0 1) coins (tail d) can (omega (arith, length-tail d)))
        ∙ ap (λ (n : ℕ). sum_of p (sum_of p coins more) (scale p n (tail (delta p cs)))) (first-turned d)
        ∙ matched-back prime cs coins (get_or d 0 0) few can

  -- ---- a dealing whose value stays keeps its coins
  sum-nothing : (f g : List ℕ) → All (Canon p) f → length g ≤ length f → sum_of p f (scale p 0 g) ≡ f
  unfolding sum_of scale
  sum-nothing [] [] can le = refl
  sum-nothing [] (b ∷ g) can le = absurd (omega arith)
  sum-nothing (a ∷ f) [] can le = refl
  sum-nothing (a ∷ f) (b ∷ g) can le =
      ap₂ ◌∷◌ (solve p (search (quote, can.0, # a, # b)) (omega arith)) (sum-nothing f g can.1 (omega arith))

  pub matched-none : (cs coins : List ℕ) → length cs ≤ length coins → All (Canon p) coins → matched p cs 0 coins ≡ coins
  unfolding matched
  matched-none cs coins le can = sum-nothing coins (tail (delta p cs)) can (omega (arith, length-tail (delta p cs), length-delta p cs))

  -- ---- the change of a product, fitted to its values
  pub fitted-canon : (xs vs : List ℕ) → All (Canon p) (fitted p xs vs)
  unfolding fitted
  fitted-canon xs vs = mixture_canons p vs (map (basis p xs) xs)

  first-value : (d : List ℕ) → All (Canon p) d → get_or d 0 0 ≡ eval p d 0
  unfolding eval
  first-value [] can = refl
  first-value (a ∷ d) can = solve p (search (quote, can.0, # a, # (eval p d 0))) (omega arith)

  pub fitted-first : (xs vs : List ℕ) → get_or (fitted p xs vs) 0 0 ≡ eval p (fitted p xs vs) 0
  fitted-first xs vs = first-value (fitted p xs vs) (fitted-canon xs vs)

  scale-turned : (w : ℕ) (f : List ℕ) → scale p (sub p 0 w) f ≡ scale p (sub p 0 1) (scale p w f)
  unfolding scale
  scale-turned w f =
      let pos : 0 < p = pos prime in
      ap (λ (h : ℕ → ℕ). map h f) (fun_ext (λ a. solve p (search (quote, # a, # w)) (omega arith)))
      ∙ sym (map-map (mul p (sub p 0 1)) (mul p w) f)

  mixture-turned : (ws : List ℕ) (fs : List (List ℕ)) → mixture p (map (sub p 0) ws) fs ≡ scale p (sub p 0 1) (mixture p ws fs)
  unfolding mixture scale
  mixture-turned [] fs = refl
  mixture-turned (w ∷ ws) [] = refl
  mixture-turned (w ∷ ws) (f ∷ fs) =
      ap₂ (sum_of p) (scale-turned w f) (mixture-turned ws fs) ∙ sym (scale_sum p (sub p 0 1) (scale p w f) (mixture p ws fs))

  pub fitted-turned : (xs vs : List ℕ) → fitted p xs (map (sub p 0) vs) ≡ scale p (sub p 0 1) (fitted p xs vs)
  unfolding fitted
  fitted-turned xs vs = mixture-turned vs (map (basis p xs) xs)
