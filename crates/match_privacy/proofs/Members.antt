-- What holds for each member holds along the list of the members.
--     map-members, flat_map-members, members-map
-- Assumes nothing.
use mathlib.Core.Path.{◌≡◌, refl, ap₂}
use mathlib.Core.Bool.{Bool, true, false, cond}
use mathlib.Core.List.{List, [], ◌∷◌, ◌++◌, map, flat_map, head-eq_of_cons-eq, tail-eq_of_cons-eq}
use Prim.Native.Nat.{ℕ}
use native.Mathlib.Omega.{arith}
use borrow.Author.Tests.{eqb-true, eq-eqb}
use lib.Dec.{eqb}
use Rattle.match_privacy.specs.Matching.{is_member}

member_here : (i : ℕ) (ms : List ℕ) → is_member i (i ∷ ms) ≡ true
unfolding is_member
member_here i ms = rw (eq-eqb i i refl)

member_later : (i j : ℕ) (ms : List ℕ) → is_member i ms ≡ true → is_member i (j ∷ ms) ≡ true
unfolding is_member
member_later i j ms m = pick (eqb i j)
  where
    pick : (b : Bool) → cond b true (is_member i ms) ≡ true
    pick true = refl
    pick false = m

module _ {A : Type 0} where
  pub map-members : (ms : List ℕ) (f g : ℕ → A) → ((i : ℕ) → is_member i ms ≡ true → f i ≡ g i) → map f ms ≡ map g ms
  map-members [] f g h = refl
  map-members (j ∷ ms) f g h = ap₂ ◌∷◌ (h j (member_here j ms)) (map-members ms f g (λ i m. h i (member_later i j ms m)))

  pub flat_map-members : (ms : List ℕ) (f g : ℕ → List A) → ((i : ℕ) → is_member i ms ≡ true → f i ≡ g i) → flat_map f ms ≡ flat_map g ms
  unfolding flat_map
  flat_map-members [] f g h = refl
  flat_map-members (j ∷ ms) f g h = ap₂ ◌++◌ (h j (member_here j ms)) (flat_map-members ms f g (λ i m. h i (member_later i j ms m)))

  -- and back
  pub members-map : (ms : List ℕ) (f g : ℕ → A) → map f ms ≡ map g ms → (i : ℕ) → is_member i ms ≡ true → f i ≡ g i
  unfolding is_member
  members-map [] f g h i m = let z : ◌≡◌ {A = ℕ} 0 1 = cc in absurd (omega arith)
  members-map (j ∷ ms) f g h i m = pick (eqb i j) refl m (members-map ms f g (tail-eq_of_cons-eq h) i)
    where
      pick : (b : Bool) → eqb i j ≡ b → cond b true (is_member i ms) ≡ true → (is_member i ms ≡ true → f i ≡ g i) → f i ≡ g i
      pick true e k later = let same : i ≡ j = eqb-true i j e in rw same (head-eq_of_cons-eq h)
      pick false e k later = later k
