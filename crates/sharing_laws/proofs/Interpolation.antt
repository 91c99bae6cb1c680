-- The weighted sum of a polynomial's values is its value.
use mathlib.Core.Path.{◌≡◌, refl, sym, ap, ◌∙◌, fun_ext}
use mathlib.Core.Logic.{◌≢◌}
use mathlib.Core.Bool.{Bool, true, false, cond}
use mathlib.Core.List.{List, [], ◌∷◌, ◌++◌, map}
use Prim.Native.Nat.{ℕ, ◌%◌, ◌≤◌, ◌<◌}
use native.Mathlib.Omega.{arith}
use lib.Dec.{T, eqb, eqb→eq, eqb_refl}
use lib.ListN.{length, length-map}
use Rattle.field.proofs.Solve.{Canon, zero_canon, add_canon, mul_canon, #, quote, solve, combine}
use Rattle.field.proofs.Inverse.{inv-law, pos, one-canon, mul-cancel, sub-nonzero}
use Rattle.sharing_laws.proofs.Polys.{quotient, length_quotient, division}
use Rattle.field.specs.Mod.{add, mul, sub}
use Rattle.field.specs.Prime.{Prime, inv}
use Rattle.sharing_laws.specs.Poly.{eval}
use Rattle.sharing_laws.specs.Interp.{factor, weight, weights, dot, interpolate, All, Distinct}

pub length-weights : (p z : ℕ) (xs : List ℕ) → length (weights p z xs) ≡ length xs
unfolding weights
length-weights p z xs = length-map xs (weight p z xs)

-- the weighted sum of h over the points xs, each with its weight among ys
part : ℕ → ℕ → List ℕ → (ℕ → ℕ) → List ℕ → ℕ
part p z ys h [] = 0
part p z ys h (x ∷ xs) = add p (mul p (weight p z ys x) (h x)) (part p z ys h xs)

abbrev sum : ℕ → ℕ → List ℕ → (ℕ → ℕ) → ℕ
sum p z xs h = part p z xs h xs

dot_part : (p z : ℕ) (ys xs : List ℕ) (h : ℕ → ℕ) → dot p (map (weight p z ys) xs) (map h xs) ≡ part p z ys h xs
unfolding dot part
dot_part p z ys [] h = refl
dot_part p z ys (x ∷ xs) h = rw (dot_part p z ys xs h)

cond-true : (b : Bool) (x y : ℕ) → T b → cond b x y ≡ x
cond-true true x y t = refl
cond-true false x y t = absurd t

cond-false : (b : Bool) (x y : ℕ) → ¬ T b → cond b x y ≡ y
cond-false true x y f = absurd (f tt)
cond-false false x y f = refl

module _ {p : ℕ} (prime : Prime p) (z : ℕ) where
  part-canon : (ys : List ℕ) (h : ℕ → ℕ) (xs : List ℕ) → Canon p (part p z ys h xs)
  unfolding part
  part-canon ys h [] = zero_canon
  part-canon ys h (x ∷ xs) = add_canon _ _

  weight_canon : (ys : List ℕ) (x : ℕ) → Canon p (weight p z ys x)
  unfolding weight
  weight_canon [] x = one-canon prime
  weight_canon (y ∷ ys) x = mul_canon _ _

  factor-self : (y : ℕ) → factor p z y y ≡ 1
  unfolding factor
  factor-self y = cond-true (eqb y y) _ _ (eqb_refl y)

  factor-other : (x y : ℕ) → x % p ≢ y % p → factor p z x y ≡ mul p (sub p z y) (inv p (sub p x y))
  unfolding factor
  factor-other x y ne = cond-false (eqb x y) _ _ (λ t. ne (ap (λ n. n % p) (eqb→eq x y t)))

  part-add : (ys : List ℕ) (g h : ℕ → ℕ) (xs : List ℕ) → part p z ys (λ x. add p (g x) (h x)) xs ≡ add p (part p z ys g xs) (part p z ys h xs)
  unfolding part
  part-add ys g h [] = solve p (search quote) (omega arith)
  part-add ys g h (x ∷ xs) = rw (part-add ys g h xs) (solve p (search (quote, # (weight p z ys x), # (g x), # (h x), # (part p z ys g xs), # (part p z ys h xs)) depth 7) (omega arith))

  part-mul : (ys : List ℕ) (c : ℕ) (h : ℕ → ℕ) (xs : List ℕ) → part p z ys (λ x. mul p c (h x)) xs ≡ mul p c (part p z ys h xs)
  unfolding part
  part-mul ys c h [] = solve p (search (quote, # c)) (omega arith)
  part-mul ys c h (x ∷ xs) = rw (part-mul ys c h xs) (solve p (search (quote, # (weight p z ys x), # c, # (h x), # (part p z ys h xs)) depth 7) (omega arith))

  part-swap : (a b : ℕ) (ys : List ℕ) (h : ℕ → ℕ) (xs : List ℕ) → part p z (a ∷ b ∷ ys) h xs ≡ part p z (b ∷ a ∷ ys) h xs
  unfolding part weight
  part-swap a b ys h [] = refl
  part-swap a b ys h (x ∷ xs) = rw (part-swap a b ys h xs) (solve p (search (quote, # (factor p z x a), # (factor p z x b), # (weight p z ys x), # (h x), # (part p z (b ∷ a ∷ ys) h xs)) depth 7) (omega arith))

  -- one point less
  part-less : (y : ℕ) (ys : List ℕ) (h : ℕ → ℕ) (xs : List ℕ) → All (λ x. x % p ≢ y % p) xs → part p z (y ∷ ys) (λ x. mul p (sub p x y) (h x)) xs ≡ mul p (sub p z y) (part p z ys h xs)
  unfolding part weight
  part-less y ys h [] _ = let pos : 0 < p = pos prime in solve p (search (quote, # z, # y)) (omega arith)
  part-less y ys h (x ∷ xs) away =
      let pos : 0 < p = pos prime in
      rw (part-less y ys h xs away.1, factor-other x y away.0)
      (combine p (mul p (sub p z y) (mul p (weight p z ys x) (h x))) (search quote) (search quote) (inv-law prime (sub p x y) (sub-nonzero prime x y away.0))
      (solve p (search (quote, # (sub p z y), # (sub p x y), # (inv p (sub p x y)), # (weight p z ys x), # (h x), # (part p z ys h xs)) depth 9) (omega arith)))

  -- the same where y is one of the points
  part-less-self : (y : ℕ) (ys : List ℕ) (h : ℕ → ℕ) → All (λ x. x % p ≢ y % p) ys → part p z (y ∷ ys) (λ x. mul p (sub p x y) (h x)) (y ∷ ys) ≡ mul p (sub p z y) (part p z ys h ys)
  unfolding part
  part-less-self y ys h away =
      let pos : 0 < p = pos prime in
      rw (part-less y ys h ys away) (solve p (search (quote, # (weight p z (y ∷ ys) y), # y, # (h y), # (sub p z y), # (part p z ys h ys)) depth 7) (omega arith))

  part-one : (x : ℕ) → part p z (x ∷ []) (λ _. 1) (x ∷ []) ≡ 1
  unfolding part weight
  part-one x = rw (factor-self x) (solve p (search (quote, one-canon prime)) (omega arith))

  sum_swap : (a b : ℕ) (ys : List ℕ) (h : ℕ → ℕ) → sum p z (a ∷ b ∷ ys) h ≡ sum p z (b ∷ a ∷ ys) h
  unfolding part
  sum_swap a b ys h = part-swap a b ys h (a ∷ b ∷ ys) ∙ solve p (search (quote, # (weight p z (b ∷ a ∷ ys) a), # (weight p z (b ∷ a ∷ ys) b), # (h a), # (h b), # (part p z (b ∷ a ∷ ys) h ys))) (omega arith)

  sum-differ : (a b : ℕ) (xs : List ℕ) → sum p z xs (λ x. mul p (sub p x a) 1) ≡ add p (sum p z xs (λ x. mul p (sub p x b) 1)) (mul p (sub p b a) (sum p z xs (λ _. 1)))
  sum-differ a b xs =
      let pos : 0 < p = pos prime in
      ap (sum p z xs) (fun_ext (λ x. solve p {a = mul p (sub p x a) 1} {b = add p (mul p (sub p x b) 1) (mul p (sub p b a) 1)} (search (quote, # x, # a, # b)) (omega arith)))
      ∙ part-add xs (λ x. mul p (sub p x b) 1) (λ x. mul p (sub p b a) 1) xs
      ∙ ap (add p (sum p z xs (λ x. mul p (sub p x b) 1))) (part-mul xs (sub p b a) (λ _. 1) xs)

  -- the weights add up to 1: leave out the one, and the other, of two points
  ones_step : (a b s : ℕ) → b % p ≢ a % p → Canon p s → mul p (sub p z a) 1 ≡ add p (mul p (sub p z b) 1) (mul p (sub p b a) s) → s ≡ 1
  ones_step a b s ne c e =
      let pos : 0 < p = pos prime in
      sym c.canon ∙ mul-cancel prime (sub p b a) s 1 (sub-nonzero prime b a ne) (combine p 1 (search quote) (search quote) (sym e) (solve p (search (quote, # z, # a, # b, # s) depth 7) (omega arith))) ∙ (one-canon prime).canon

  ones : (a : ℕ) (ys : List ℕ) → Distinct p (a ∷ ys) → sum p z (a ∷ ys) (λ _. 1) ≡ 1
  ones a [] d = part-one a
  ones a (b ∷ ys) d = ones_step a b (sum p z (a ∷ b ∷ ys) (λ _. 1)) d.0.0 (part-canon _ _ _)
      (cc (
        ones b ys d.1,
        part-less-self a (b ∷ ys) (λ _. 1) d.0,
        sum-differ a b (a ∷ b ∷ ys),
        sum_swap a b ys (λ x. mul p (sub p x b) 1),
        part-less-self b (a ∷ ys) (λ _. 1) (λ e. d.0.0 (sym e), d.1.0),
        ones a ys (d.0.1, d.1.1),
      ))

  divided : (y x : ℕ) (f : List ℕ) → eval p f x ≡ add p (mul p (eval p f y) 1) (mul p (sub p x y) (eval p (quotient p y f) x))
  divided y x f = division p y x (pos prime) f ∙ solve p (search (quote, # (eval p f y), # (sub p x y), # (eval p (quotient p y f) x))) (omega arith)

  sum-eval : (xs f : List ℕ) → Distinct p xs → length f ≤ length xs → sum p z xs (eval p f) ≡ eval p f z
  unfolding part eval
  sum-eval [] [] d le = refl
  sum-eval [] (a ∷ f) d le = omega arith
  sum-eval (y ∷ ys) f d le = step (sum-eval ys (quotient p y f) d.1 (omega (arith, length_quotient p y f)))
    where
      step : sum p z ys (eval p (quotient p y f)) ≡ eval p (quotient p y f) z → sum p z (y ∷ ys) (eval p f) ≡ eval p f z
      step ih = ap (sum p z (y ∷ ys)) (fun_ext (λ x. divided y x f)) ∙ cc (
        part-add (y ∷ ys) (λ _. mul p (eval p f y) 1) (λ x. mul p (sub p x y) (eval p (quotient p y f) x)) (y ∷ ys),
        part-mul (y ∷ ys) (eval p f y) (λ _. 1) (y ∷ ys),
        ones y ys d,
        part-less-self y ys (eval p (quotient p y f)) d.0,
        ih,
        divided y z f,
      )

  pub interpolation : (xs f : List ℕ) → Distinct p xs → length f ≤ length xs → interpolate p z xs (map (eval p f) xs) ≡ eval p f z
  unfolding interpolate weights
  interpolation xs f d le = dot_part p z xs xs (eval p f) ∙ sum-eval xs f d le

-- ---- for a loop that goes up: a weight and a weighted sum of one more
pub weight_snoc : (p z : ℕ) (ys : List ℕ) (y x : ℕ) → weight p z (ys ++ (y ∷ [])) x ≡ mul p (weight p z ys x) (factor p z x y)
unfolding weight
weight_snoc p z [] y x = solve p (search (quote, # (factor p z x y))) (omega arith)
weight_snoc p z (u ∷ ys) y x = rw (weight_snoc p z ys y x) (solve p (search (quote, # (factor p z x u), # (factor p z x y), # (weight p z ys x))) (omega arith))

pub dot_snoc : (p : ℕ) (ws vs : List ℕ) (w v : ℕ) → length ws ≡ length vs → dot p (ws ++ (w ∷ [])) (vs ++ (v ∷ [])) ≡ add p (dot p ws vs) (mul p w v)
unfolding dot
dot_snoc p [] [] w v e = solve p (search (quote, # w, # v)) (omega arith)
dot_snoc p [] (v' ∷ vs) w v e = absurd (omega arith)
dot_snoc p (w' ∷ ws) [] w v e = absurd (omega arith)
dot_snoc p (w' ∷ ws) (v' ∷ vs) w v e = rw (dot_snoc p ws vs w v (omega arith)) (solve p (search (quote, # w, # v, # w', # v', # (dot p ws vs))) (omega arith))
