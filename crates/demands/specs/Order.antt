-- The checking order of the refusals.
use Rattle.std.specs.Prelude.{ℕ, suc, cond, List, [], ◌∷◌, eqb}
use Rattle.plan.specs.declared.Refusal.{Refusal}
use Rattle.plan.specs.Refusals.{number_of}

-- the numbers in checking order
unfoldable pub checking_order : List ℕ
checking_order = 23 ∷ 27 ∷ 24 ∷ 1 ∷ 2 ∷ 3 ∷ 4 ∷ 5 ∷ 6 ∷ 7 ∷ 8 ∷ 25 ∷ 26 ∷ 31 ∷ 28 ∷ 9 ∷ 10 ∷ 11 ∷ 12 ∷ 13 ∷ 29 ∷ 30 ∷ 14 ∷ 15 ∷ 16 ∷ 17 ∷ 18 ∷ 19 ∷ 20 ∷ 21 ∷ 22 ∷ []

unfoldable pub rank_in : List ℕ → ℕ → ℕ
rank_in [] m = 0
rank_in (k ∷ ks) m = cond (eqb k m) 0 (suc (rank_in ks m))

-- how many numbers come before a refusal's
unfoldable pub rank_of : Refusal → ℕ
rank_of r = rank_in checking_order (number_of r)
