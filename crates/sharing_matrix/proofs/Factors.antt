-- The code of a basis polynomial: factor by factor, in place, and one inverse of the product of the denominators.
--     factoring             one factor
--     Built, basing         the factors, from the last
-- Assumes nothing.
use mathlib.Core.Path.{◌≡◌, refl, sym, ap, ap₂, ◌∙◌}
use mathlib.Core.Bool.{Bool, true, false, cond}
use mathlib.Core.List.{List, [], ◌∷◌, reverse}
use Prim.Native.Nat.{ℕ, suc, ◌+◌, ◌-◌, ◌≤◌, ◌<◌}
use native.Mathlib.Omega.{arith}
use borrow.Author.Rules.{rules}
use borrow.Author.Tests.{eq-eqb, ne_eqb}
use lib.Dec.{eqb}
use lib.ListN.{length, take, drop}
use lib.Seq.{drop-cons, drop-length, take_all}
use Rattle.std.proofs.lemmas.List.{length-reverse}
use Rattle.sharing.proofs.Walks.{Next}
use Rattle.numbers.specs.Bytes.{all_below}
use Rattle.numbers.proofs.Below.{all_below_at}
use Rattle.field.specs.Mod.{mul, sub}
use Rattle.field.specs.Prime.{inv}
use Rattle.field.specs.Field.{Below2, Is, Ready}
use Rattle.field.proofs.Solve.{#, quote, solve, below}
use Rattle.field.proofs.Inverse.{inv_small}
use Rattle.sharing_laws.specs.Poly.{scale, linear, carried, padded}
use Rattle.sharing_laws.specs.Interp.{apart}
use Rattle.sharing_laws.specs.Basis.{basis}
use Rattle.sharing_laws.proofs.Elements.{below_rest, carried-below, basis-below, padded-below}
use Rattle.sharing.proofs.Coding.{entry_below}
use Rattle.sharing.proofs.Weighing.{inv-mul, apart_self, apart_other}
use Rattle.sharing_delta.proofs.Factors.{carried-cut}
use Rattle.sharing_matrix.specs.Matrix.{low_basis}

-- ---- what a factor does
module _ (p : ℕ) where
  -- times a number
  carried-scale : (v c : ℕ) (f : List ℕ) → carried p v 0 c f ≡ scale p v f
  unfolding carried scale
  carried-scale v c [] = refl
  carried-scale v c (x ∷ f) = ap₂ ◌∷◌ (solve p (search (quote, # v, # x, # c)) (omega arith)) (carried-scale v x f)

  scale-carried : (u w a c : ℕ) (f : List ℕ) → scale p (mul p u w) (carried p a 1 c f) ≡ carried p (mul p a w) w (mul p u c) (scale p u f)
  unfolding carried scale
  scale-carried u w a c [] = refl
  scale-carried u w a c (x ∷ f) =
      ap₂ ◌∷◌ (solve p (search (quote, # u, # w, # a, # x, # c) depth 9) (omega arith)) (scale-carried u w a x f)

-- ---- one factor
pub factor_self : (p x y : ℕ) (d : List ℕ) → x ≡ y → d ≡ cond (eqb x y) d (carried p (sub p 0 y) 1 0 d)
factor_self p x y d e = rw (eq-eqb x y e)

pub below_self : (p x y below : ℕ) → x ≡ y → below < p → 1 < p → Is p (mul p below (apart p x x y)) below
below_self p x y b e l h =
    record { eq = rw (← (apart_self p x x y e h).eq) (solve p (search (quote, below l, # b)) (omega arith)); lt = l }

pub factor_other : (p x y a : ℕ) (d e : List ℕ) → (x ≡ y → ⊥) → Is p (sub p 0 y) a → e ≡ carried p a 1 0 d → e ≡ cond (eqb x y) d (carried p (sub p 0 y) 1 0 d)
factor_other p x y a d e ne ea to = rw (ne_eqb x y ne, ← ea.eq) to

pub below_other : (p x y s below r : ℕ) → (x ≡ y → ⊥) → Is p (sub p x y) s → Is p (mul p below s) r → Is p (mul p below (apart p x x y)) r
below_other p x y s b r ne es er = record { eq = er.eq ∙ ap (mul p b) (apart_other p x x y s ne es).eq; lt = er.lt }

pub ready_above : (p : ℕ) → Ready p → 1 < p
ready_above p r = r.prime.above

pub ruleset factoring = (rules, ready_above, factor_self, below_self, factor_other, below_other)

-- ---- all factors
-- the invariant: what stands, divided by the denominator, is the basis polynomial among the points from i on
pub record Built (p : ℕ) (ys : List ℕ) (x : ℕ) (d₀ d : List ℕ) (below i : ℕ) : Type 0 where
  pub within : i ≤ length ys
  pub long : length d ≡ length d₀
  pub elements : all_below p d ≡ true
  pub under : below < p
  pub whole : scale p (inv p below) d ≡ low_basis p (length d₀) (drop i ys) x

-- a polynomial of elements, times 1
scale_one : (p : ℕ) → 1 < p → (f : List ℕ) → all_below p f ≡ true → scale p 1 f ≡ f
unfolding scale
scale_one p h [] e = refl
scale_one p h (a ∷ f) e =
    let l : a < p = all_below_at p (a ∷ f) 0 e (omega arith) in
    ap₂ ◌∷◌ (solve p (search (quote, below l, # a)) (omega arith)) (scale_one p h f (below_rest p a f e))

module _ (p : ℕ) (ys : List ℕ) (x : ℕ) (d₀ : List ℕ) (r : Ready p) where
  pub base-none : (e : List ℕ) → d₀ ≡ padded (length e) (1 ∷ []) → length d₀ ≡ length e → 0 < length e → Built p ys x d₀ d₀ 1 (length ys - 0)
  unfolding basis low_basis
  base-none e one same l =
      let z : length ys - 0 ≡ length ys = omega arith in
      let cut : take {A = ℕ} (length d₀) (1 ∷ []) ≡ 1 ∷ [] = take_all (length d₀) (1 ∷ []) (omega arith) in
      let els : all_below p d₀ ≡ true = rw one (padded-below p (omega (arith, r.prime.above)) (length e) (1 ∷ []) (basis-below p r.prime.above [] x)) in
      rw z (record {
        within = omega arith;
        long = refl;
        elements = els;
        under = r.prime.above;
        whole = rw (inv_small p 1 (omega arith) r.prime.above, drop-length ys, cut) (scale_one p r.prime.above d₀ els ∙ one ∙ ap (λ (n : ℕ). padded n (1 ∷ [])) (sym same));
      })

  module _ (d : List ℕ) (b k : ℕ) (h : Built p ys x d₀ d b (length ys - k)) where
    more_by :
        (y i : ℕ) (t : Bool) → scale p (inv p b) d ≡ low_basis p (length d₀) (drop i ys) x
        → scale p (inv p (mul p b (cond t 1 (sub p x y)))) (cond t d (carried p (sub p 0 y) 1 0 d))
        ≡ padded (length d₀)
        (take (length d₀) (cond t (basis p (drop i ys) x) (linear p (mul p (sub p 0 y) (inv p (sub p x y))) (inv p (sub p x y)) (basis p (drop i ys) x))))
    unfolding low_basis
    more_by y i true is = let same : mul p b 1 ≡ b = solve p (search (quote, below h.under, # b)) (omega arith) in rw same is
    more_by y i false is =
        let none : mul p (inv p b) 0 ≡ 0 = solve p (search (quote, # (inv p b))) (omega arith) in
        ap (λ (v : ℕ). scale p v (carried p (sub p 0 y) 1 0 d)) (inv-mul r.prime b (sub p x y))
        ∙ scale-carried p (inv p b) (inv p (sub p x y)) (sub p 0 y) 0 d
        ∙ rw (none, is) (carried-cut p (mul p (sub p 0 y) (inv p (sub p x y))) (inv p (sub p x y)) (basis p (drop i ys) x) (length d₀))

    pub base-more :
        (y c j : ℕ) (e : List ℕ) → Next ys k y → e ≡ cond (eqb x y) d (carried p (sub p 0 y) 1 0 d) → Is p (mul p b (apart p x x y)) c
        → length e ≡ length d → j ≡ k + 1 → Built p ys x d₀ e c (length ys - j)
    unfolding low_basis basis apart
    base-more y c j e n to is same next =
        let at : length ys - k ≡ suc (length ys - 1 - k) = omega (arith, n.within) in
        let now : length ys - j ≡ length ys - 1 - k = omega (arith, n.within) in
        let before : scale p (inv p b) d ≡ low_basis p (length d₀) (drop (suc (length ys - 1 - k)) ys) x = h.whole ∙ ap (λ (m : ℕ). low_basis p (length d₀) (drop m ys) x) at in
        rw now (record {
          within = omega arith;
          long = same ∙ h.long;
          elements = rw to (els_by y (eqb x y));
          under = is.lt;
          whole =
              rw (to, is.eq, drop-cons ys (length ys - 1 - k) 0 (omega (arith, n.within)), ← n.is)
              (more_by y (suc (length ys - 1 - k)) (eqb x y) before);
        })
      where
        els_by : (y : ℕ) (t : Bool) → all_below p (cond t d (carried p (sub p 0 y) 1 0 d)) ≡ true
        els_by y true = h.elements
        els_by y false = carried-below p (omega (arith, r.prime.above)) (sub p 0 y) 1 0 d

    pub base-whole :
        (v : ℕ) (e : List ℕ) → length ys ≤ k → Is p (inv p b) v → e ≡ carried p v 0 0 d → length d₀ ≡ length e → e ≡ low_basis p (length e) ys x
    base-whole v e l ev to same =
        let z : length ys - k ≡ 0 = omega arith in
        to ∙ carried-scale p v 0 d ∙ ap (λ (u : ℕ). scale p u d) ev.eq ∙ h.whole ∙ ap₂ (λ (n m : ℕ). low_basis p n (drop m ys) x) same z

    pub based-elements : all_below p d ≡ true
    based-elements = h.elements

    pub based-under : b < p
    based-under = h.under

pub point_below : (p : ℕ) (ys : List ℕ) (k x y : ℕ) → Ready p → all_below p ys ≡ true → x < p → Next ys k y → Below2 p x y
point_below p ys k x y r h l n = record { left = l; right = rw n.is (entry_below p ys (length ys - 1 - k) r h) }

pub none-left : (ys : List ℕ) (k : ℕ) → k ≡ length (reverse ys) → length ys ≤ k
none-left ys k e = omega (arith, length-reverse ys)

pub ruleset basing = (rules, point_below, base-none, base-more, base-whole, based-elements, based-under)
