-- Shares that stand for a value: they lie on a polynomial of degree t or less, whose value at 0 it is.
--     Shared, none_shared          shares that stand for a value, and 0 everywhere
--     shared_below, secret_below   both are below p
--     interpolated                 from the shares at the first t + 1 points, the share at any point
--     shared-opened, shared_on     their opening is the value, and none of them is off
-- Assumes nothing.
use Rattle.std.proofs.Common.{None}
use mathlib.Core.Path.{◌≡◌, refl, sym, ap, ◌∙◌, fun_ext}
use mathlib.Core.List.{List, [], ◌∷◌, map}
use Prim.Native.Nat.{ℕ, zero, suc, ◌+◌, ◌≤◌, ◌<◌}
use native.Mathlib.Omega.{arith}
use borrow.Author.Tests.{eq-eqb}
use lib.Dec.{eqb}
use lib.ListN.{length, take, get_or, length-map}
use lib.Seq.{length-take-le}
use Rattle.numbers.proofs.Searches.{passes-nothing}
use Rattle.field.specs.Mod.{add, mul}
use Rattle.field.specs.Prime.{Prime}
use Rattle.field.proofs.Solve.{canon-lt}
use Rattle.sharing_laws.specs.Poly.{eval}
use Rattle.sharing_laws.specs.Interp.{Distinct, weight, weights, dot, interpolate}
use Rattle.sharing_laws.specs.Sharing.{opened, first_off}
use Rattle.sharing_laws.proofs.Polys.{eval_canon}
use Rattle.sharing_laws.proofs.Interpolation.{interpolation}
use Rattle.sharing_laws.proofs.Alls.{distinct-take}
use Rattle.sharing_laws.proofs.Lists.{get_or-map-in}

-- the shares h are the values of a polynomial of degree t or less, which is v at 0
pub record Shared (p t : ℕ) (h : ℕ → ℕ) (v : ℕ) : Type 0 where
  pub poly : List ℕ
  pub small : length poly ≤ suc t
  pub value : (x : ℕ) → h x ≡ eval p poly x
  pub secret : eval p poly 0 ≡ v

-- no wire: 0, everywhere
pub none_shared : (p t : ℕ) → Shared p t (λ x. 0) 0
unfolding eval
none_shared p t = record { poly = []; small = omega arith; value = λ x. refl; secret = refl }

module _ {p t : ℕ} (above : 0 < p) (h : ℕ → ℕ) (v : ℕ) (s : Shared p t h v) where
  pub shared_below : (x : ℕ) → h x < p
  shared_below x = rw (s.value x) (canon-lt above (eval_canon s.poly x))

  pub secret_below : v < p
  secret_below = rw (← s.secret) (canon-lt above (eval_canon s.poly 0))

-- ---- what a list longer than the weights adds counts for nothing
dot_first : (p : ℕ) (ws : List ℕ) (h : ℕ → ℕ) (k : ℕ) (xs : List ℕ) → length ws ≤ k → dot p ws (map h xs) ≡ dot p ws (map h (take k xs))
unfolding dot
dot_first p [] h k xs le = refl
dot_first p (w ∷ ws) h zero xs le = absurd (omega arith)
dot_first p (w ∷ ws) h (suc k) [] le = refl
dot_first p (w ∷ ws) h (suc k) (x ∷ xs) le = ap (add p (mul p w (h x))) (dot_first p ws h k xs (omega arith))

pub interpolate_first :
    (p z k : ℕ) (xs : List ℕ) (h : ℕ → ℕ) → k ≤ length xs
    → interpolate p z (take k xs) (map h xs) ≡ interpolate p z (take k xs) (map h (take k xs))
unfolding interpolate weights
interpolate_first p z k xs h le = dot_first p (map (weight p z (take k xs)) (take k xs)) h k xs (omega (arith, length-map (take k xs) (weight p z (take k xs)), length-take-le k xs le))

-- ---- shares that stand for a value
module _ {p : ℕ} (prime : Prime p) (t : ℕ) (xs : List ℕ) (distinct : Distinct p xs) (enough : t + 1 ≤ length xs) (h : ℕ → ℕ) (v : ℕ) (s : Shared p t h v) where
  pub interpolated : (z : ℕ) → interpolate p z (take (t + 1) xs) (map h xs) ≡ h z
  interpolated z =
      interpolate_first p z (t + 1) xs h enough
      ∙ ap (λ (g : ℕ → ℕ). interpolate p z (take (t + 1) xs) (map g (take (t + 1) xs))) (fun_ext s.value)
      ∙ interpolation prime z (take (t + 1) xs) s.poly (distinct-take p (t + 1) xs distinct) (omega (arith, s.small, length-take-le (t + 1) xs enough))
      ∙ sym (s.value z)

  pub shared-opened : opened p t xs (map h xs) ≡ v
  unfolding opened
  shared-opened = interpolated 0 ∙ s.value 0 ∙ s.secret

  pub shared_on : first_off p t xs (map h xs) ≡ None
  unfolding first_off
  shared_on =
      passes-nothing (λ i. eqb (get_or (map h xs) i 0) (interpolate p (get_or xs i 0) (take (t + 1) xs) (map h xs))) (length xs)
      (λ i lt. eq-eqb _ _ (get_or-map-in h xs i 0 0 lt ∙ sym (interpolated (get_or xs i 0))))
