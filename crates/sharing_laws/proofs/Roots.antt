-- A polynomial with as many distinct roots as coefficients is 0, and a polynomial takes given values at distinct points.
use mathlib.Core.Path.{◌≡◌, refl, sym, ap, ap₂, ◌∙◌}
use mathlib.Core.Logic.{◌≢◌}
use mathlib.Core.List.{List, [], ◌∷◌, map}
use Prim.Native.Nat.{ℕ, suc, ◌%◌, ◌≤◌, ◌<◌}
use native.Mathlib.Omega.{arith}
use lib.ListN.{length}
use Rattle.field.proofs.Solve.{mod_canon, mul_canon, Canon, zero_canon, #, quote, solve, combine}
use Rattle.field.proofs.Inverse.{inv-law, pos, no-zero-divisor, sub-nonzero}
use Rattle.sharing_laws.proofs.Polys.{eval_canon, eval_sum, eval-linear, length_sum, length-linear, quotient, tails_at, length_quotient, division}
use Rattle.sharing_laws.specs.Interp.{All, Distinct}
use Rattle.field.specs.Mod.{add, mul, sub}
use Rattle.field.specs.Prime.{Prime, inv}
use Rattle.sharing_laws.specs.Poly.{eval, sum_of, linear}

abbrev pub Root : ℕ → List ℕ → ℕ → Type 0
Root p f x = eval p f x ≡ 0

abbrev pub Zero : ℕ → ℕ → Type 0
Zero p a = a % p ≡ 0

-- the slopes of the values ws at the points xs, from the value v at the point y
unfoldable pub slopes : ℕ → ℕ → ℕ → List ℕ → List ℕ → List ℕ
slopes p y v [] ws = []
slopes p y v (x ∷ xs) [] = []
slopes p y v (x ∷ xs) (w ∷ ws) = mul p (sub p w v) (inv p (sub p x y)) ∷ slopes p y v xs ws

-- the polynomial with the values vs at the points xs: v + (X - y)·g, with g through the slopes
unfoldable pub through : ℕ → List ℕ → List ℕ → List ℕ
through p [] vs = []
through p (y ∷ xs) [] = []
through p (y ∷ xs) (v ∷ vs) = sum_of p (v ∷ []) (linear p (sub p 0 y) 1 (through p xs (slopes p y v xs vs)))

module _ {p : ℕ} (prime : Prime p) where
  head-zero : (a y e : ℕ) → add p a (mul p y e) ≡ 0 → e ≡ 0 → a % p ≡ 0
  head-zero a y e h z = combine p 1 (mod_canon a) zero_canon h (combine p y (search quote) (search quote) (sym z) (solve p (search (quote, # a, # y, # e) depth 7) (omega arith)))

  -- a polynomial whose tails vanish at y
  tails-zero : (y : ℕ) (f : List ℕ) → All (Zero p) (tails_at p y f) → All (Zero p) f × (eval p f y ≡ 0)
  unfolding tails_at eval
  tails-zero y [] h = (tt, refl)
  tails-zero y (a ∷ f) h =
      let here : eval p (a ∷ f) y ≡ 0 = sym (eval_canon (a ∷ f) y).canon ∙ h.0 in
      let rest : All (Zero p) f × (eval p f y ≡ 0) = tails-zero y f h.1 in
      ((head-zero a y (eval p f y) here rest.1, rest.0), here)

  quotient-root : (y x : ℕ) (f : List ℕ) → Root p f y → x % p ≢ y % p → Root p f x → Root p (quotient p y f) x
  quotient-root y x f ry ne rx =
      let e : add p 0 (mul p (sub p x y) (eval p (quotient p y f) x)) ≡ 0 = cc (division p y x (pos prime) f) in
      sym (eval_canon (quotient p y f) x).canon ∙ no-zero-divisor prime (sub p x y) (eval p (quotient p y f) x) (sub-nonzero prime x y ne)
      (combine p 1 (search quote) zero_canon e (solve p (search (quote, # (sub p x y), # (eval p (quotient p y f) x)) depth 7) (omega arith)))

  quotient-roots : (y : ℕ) (f xs : List ℕ) → Root p f y → All (λ x. x % p ≢ y % p) xs → All (Root p f) xs → All (Root p (quotient p y f)) xs
  quotient-roots y f [] ry away rs = tt
  quotient-roots y f (x ∷ xs) ry away rs = (quotient-root y x f ry away.0 rs.0, quotient-roots y f xs ry away.1 rs.1)

  from-quotient : (y : ℕ) (f : List ℕ) → Root p f y → All (Zero p) (quotient p y f) → All (Zero p) f
  unfolding quotient eval
  from-quotient y [] r h = tt
  from-quotient y (a ∷ f) r h = let rest : All (Zero p) f × (eval p f y ≡ 0) = tails-zero y f h in (head-zero a y (eval p f y) r rest.1, rest.0)

  pub roots : (xs f : List ℕ) → Distinct p xs → All (Root p f) xs → length f ≤ length xs → All (Zero p) f
  roots [] [] d rs le = tt
  roots [] (a ∷ f) d rs le = absurd (omega arith)
  roots (y ∷ xs) f d rs le = from-quotient y f rs.0 (roots xs (quotient p y f) d.1 (quotient-roots y f xs rs.0 d.0 rs.1) (omega (arith, length_quotient p y f)))

  length-slopes : (y v : ℕ) (xs ws : List ℕ) → length ws ≡ length xs → length (slopes p y v xs ws) ≡ length xs
  unfolding slopes
  length-slopes y v [] ws e = refl
  length-slopes y v (x ∷ xs) [] e = omega arith
  length-slopes y v (x ∷ xs) (w ∷ ws) e = ap suc (length-slopes y v xs ws (omega arith))

  slopes-canon : (y v : ℕ) (xs ws : List ℕ) → All (Canon p) (slopes p y v xs ws)
  unfolding slopes
  slopes-canon y v [] ws = tt
  slopes-canon y v (x ∷ xs) [] = tt
  slopes-canon y v (x ∷ xs) (w ∷ ws) = (mul_canon _ _, slopes-canon y v xs ws)

  pub length-through : (xs vs : List ℕ) → length vs ≡ length xs → length (through p xs vs) ≡ length xs
  unfolding through
  length-through [] vs e = refl
  length-through (y ∷ xs) [] e = omega arith
  length-through (y ∷ xs) (v ∷ vs) e = omega (arith, length_sum p (v ∷ []) (linear p (sub p 0 y) 1 (through p xs (slopes p y v xs vs))), length-linear p (sub p 0 y) 1 (through p xs (slopes p y v xs vs)), length-through xs (slopes p y v xs vs) (length-slopes y v xs vs (omega arith)))

  -- the value at x of v + (X - y)·g
  through-at : (y v x : ℕ) (g : List ℕ) → eval p (sum_of p (v ∷ []) (linear p (sub p 0 y) 1 g)) x ≡ add p v (mul p (sub p x y) (eval p g x))
  unfolding eval
  through-at y v x g = let pos : 0 < p = pos prime in rw (eval_sum p (v ∷ []) (linear p (sub p 0 y) 1 g) x, eval-linear p (sub p 0 y) 1 g x) (solve p (search (quote, # v, # x, # y, # (eval p g x)) depth 7) (omega arith))

  slope-law : (x y v w : ℕ) → x % p ≢ y % p → Canon p w → add p v (mul p (sub p x y) (mul p (sub p w v) (inv p (sub p x y)))) ≡ w
  slope-law x y v w ne can =
      let pos : 0 < p = pos prime in
      combine p (sub p w v) (search quote) can (inv-law prime (sub p x y) (sub-nonzero prime x y ne)) (solve p (search (quote, # v, # w, # (sub p x y), # (inv p (sub p x y))) depth 9) (omega arith))

  through-rest : (y v : ℕ) (g xs ws : List ℕ) → All (λ x. x % p ≢ y % p) xs → All (Canon p) ws → length ws ≡ length xs → map (eval p g) xs ≡ slopes p y v xs ws → map (eval p (sum_of p (v ∷ []) (linear p (sub p 0 y) 1 g))) xs ≡ ws
  unfolding slopes
  through-rest y v g [] [] away can e h = refl
  through-rest y v g [] (w ∷ ws) away can e h = absurd (omega arith)
  through-rest y v g (x ∷ xs) [] away can e h = absurd (omega arith)
  through-rest y v g (x ∷ xs) (w ∷ ws) away can e h =
      let here : eval p g x ≡ mul p (sub p w v) (inv p (sub p x y)) = cc in
      let there : map (eval p g) xs ≡ slopes p y v xs ws = cc in
      ap₂ ◌∷◌ (through-at y v x g ∙ rw here (slope-law x y v w away.0 can.0)) (through-rest y v g xs ws away.1 can.1 (omega arith) there)

  pub through-values : (xs vs : List ℕ) → Distinct p xs → All (Canon p) vs → length vs ≡ length xs → map (eval p (through p xs vs)) xs ≡ vs
  unfolding through
  through-values [] [] d can e = refl
  through-values [] (v ∷ vs) d can e = absurd (omega arith)
  through-values (y ∷ xs) [] d can e = absurd (omega arith)
  through-values (y ∷ xs) (v ∷ vs) d can e =
      let g : List ℕ = through p xs (slopes p y v xs vs) in
      let pos : 0 < p = pos prime in
      ap₂ ◌∷◌ (through-at y v y g ∙ solve p (search (quote, can.0, # v, # y, # (eval p g y))) (omega arith))
      (through-rest y v g xs vs d.0 can.1 (omega arith) (through-values xs (slopes p y v xs vs) d.1 (slopes-canon y v xs vs) (length-slopes y v xs vs (omega arith))))
