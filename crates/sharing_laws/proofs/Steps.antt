-- Further gates, all parties at once, a share as a function of the point: a multiply by the reduction of 1988 or by a spent triple, and a random wire.
-- The parties are a list `is`, and their points a list `points`, in the same order.
use mathlib.Core.Path.{◌≡◌}
use mathlib.Core.Bool.{cond}
use mathlib.Core.List.{List, [], ◌∷◌, map}
use Prim.Native.Nat.{ℕ, ◌+◌}
use lib.Dec.{eqb}
use lib.ListN.{take}
use Rattle.field.specs.Mod.{add, mul, sub}
use Rattle.sharing_laws.specs.Poly.{eval}
use Rattle.sharing_laws.specs.Interp.{dot, delta}
use Rattle.sharing_laws.specs.Sharing.{opened, matched}
use Rattle.sharing_laws.specs.Basis.{fitted, row, matched_zero}

-- the sum over the parties
unfoldable pub sum_over : ℕ → List ℕ → (ℕ → ℕ) → ℕ
sum_over p [] f = 0
sum_over p (i ∷ is) f = add p (f i) (sum_over p is f)

-- ---- the reduction of 1988
-- the masked share at x: the product of the shares of a and b, and every party's dealing of 0 (`mask i` is that of party i)
unfoldable pub masked_at : ℕ → List ℕ → (ℕ → ℕ) → (ℕ → ℕ) → (ℕ → ℕ → ℕ) → ℕ → ℕ
masked_at p is a b mask x = add p (mul p (a x) (b x)) (sum_over p is (λ i. mask i x))

-- what the party at y sends to the party at x: its pieces of the masked shares' dealings (`piece i` is that of party i), weighted by x's row
unfoldable pub sent_at : ℕ → ℕ → List ℕ → List ℕ → (ℕ → ℕ → ℕ) → ℕ → ℕ → ℕ
sent_at p t points is piece x y = dot p (row p t points x) (map (λ i. piece i y) is)

-- the share at x of the new wire: opened from what the first t + 1 parties send
unfoldable pub reduced_at : ℕ → ℕ → List ℕ → List ℕ → (ℕ → ℕ → ℕ) → ℕ → ℕ
reduced_at p t points is piece x = opened p t points (map (sent_at p t points is piece x) points)

-- the same from the coins: party i's 2t coins of its dealing of 0 are `zs i`, its t coins of its masked share's dealing `ks i`, its point `at i`
unfoldable pub masked_by : ℕ → List ℕ → (ℕ → ℕ) → (ℕ → ℕ) → (ℕ → List ℕ) → ℕ → ℕ
masked_by p is a b zs = masked_at p is a b (λ i. eval p (0 ∷ zs i))

unfoldable pub piece_by : ℕ → List ℕ → (ℕ → ℕ) → (ℕ → ℕ) → (ℕ → ℕ) → (ℕ → List ℕ) → (ℕ → List ℕ) → ℕ → ℕ → ℕ
piece_by p is at a b zs ks i = eval p (masked_by p is a b zs (at i) ∷ ks i)

unfoldable pub reduced_by : ℕ → ℕ → List ℕ → List ℕ → (ℕ → ℕ) → (ℕ → ℕ) → (ℕ → ℕ) → (ℕ → List ℕ) → (ℕ → List ℕ) → ℕ → ℕ
reduced_by p t points is at a b zs ks = reduced_at p t points is (piece_by p is at a b zs ks)

-- ---- its matching: wires a and b in the first run, a' and b' in the second
-- the change of the product, and as a polynomial: from its values at the first 2t + 1 points
unfoldable pub change_at : ℕ → (ℕ → ℕ) → (ℕ → ℕ) → (ℕ → ℕ) → (ℕ → ℕ) → ℕ → ℕ
change_at p a b a' b' x = sub p (mul p (a' x) (b' x)) (mul p (a x) (b x))

unfoldable pub change_of : ℕ → ℕ → List ℕ → (ℕ → ℕ) → (ℕ → ℕ) → (ℕ → ℕ) → (ℕ → ℕ) → List ℕ
change_of p t points a b a' b' = fitted p (take (t + t + 1) points) (map (change_at p a b a' b') (take (t + t + 1) points))

-- the new coins for members at the points cs: party l's dealing of 0 takes up the change d, and the others' stay
unfoldable pub new_zeros : ℕ → List ℕ → ℕ → List ℕ → (ℕ → List ℕ) → ℕ → List ℕ
new_zeros p cs l d zs i = cond (eqb i l) (matched_zero p cs d (zs i)) (zs i)

-- and each dealing of a masked share is matched to the change of that share; `new` and `old` are the masked shares
unfoldable pub new_masks : ℕ → List ℕ → (ℕ → ℕ) → (ℕ → ℕ) → (ℕ → ℕ) → (ℕ → List ℕ) → ℕ → List ℕ
new_masks p cs at old new ks i = matched p cs (sub p (new (at i)) (old (at i))) (ks i)

-- ---- a spent triple
-- the opened difference of two wires
unfoldable pub opened_less : ℕ → ℕ → List ℕ → (ℕ → ℕ) → (ℕ → ℕ) → ℕ
opened_less p t points h k = opened p t points (map (λ z. sub p (h z) (k z)) points)

-- the share at z of x·y by the triple a, b, c, where d and e are the opened x - a and y - b
unfoldable pub spent_by : ℕ → ℕ → ℕ → (ℕ → ℕ) → (ℕ → ℕ) → (ℕ → ℕ) → ℕ → ℕ
spent_by p d e x y c z = sub p (add p (add p (c z) (mul p e (x z))) (mul p d (y z))) (mul p d e)

unfoldable pub spent_at : ℕ → ℕ → List ℕ → (ℕ → ℕ) → (ℕ → ℕ) → (ℕ → ℕ) → (ℕ → ℕ) → (ℕ → ℕ) → ℕ → ℕ
spent_at p t points x y a b c = spent_by p (opened_less p t points x a) (opened_less p t points y b) x y c

-- ---- a random wire: the sum of every party's dealing of its draw, with its t coins `ks i`
unfoldable pub drawn_at : ℕ → List ℕ → (ℕ → ℕ) → (ℕ → List ℕ) → ℕ → ℕ
drawn_at p is draw ks x = sum_over p is (λ i. eval p (draw i ∷ ks i) x)

-- the coins matched to other draws
unfoldable pub new_coins : ℕ → List ℕ → (ℕ → ℕ) → (ℕ → ℕ) → (ℕ → List ℕ) → ℕ → List ℕ
new_coins p cs draw draw' ks i = matched p cs (sub p (draw' i) (draw i)) (ks i)

-- ---- two runs
-- a wire's shares h in the first run and h' in the matched run, and its values v and v': the members, at the points cs, see no change
abbrev pub Differ : ℕ → List ℕ → (ℕ → ℕ) → (ℕ → ℕ) → ℕ → ℕ → Type 0
Differ p cs h h' v v' = (x : ℕ) → h' x ≡ add p (h x) (mul p (sub p v' v) (eval p (delta p cs) x))
