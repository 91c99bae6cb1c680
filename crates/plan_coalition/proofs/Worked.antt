-- P10: of the sets {}, {1}, {1, 2}, {3}, {1, 2, 3} and {4} those that fit n = 3 and t = 1, as in plan K.
-- Computed; assumes nothing.
use mathlib.Core.Path.{◌≡◌, refl}
use mathlib.Core.Bool.{true, false}
use mathlib.Core.List.{[], ◌∷◌, map}
use Rattle.plan_coalition.specs.Coalitions.{in_set, members_from, members, set_fits}

pub sets_worked : map (set_fits 3 1) (0 ∷ 1 ∷ 3 ∷ 4 ∷ 7 ∷ 8 ∷ []) ≡ true ∷ true ∷ false ∷ true ∷ false ∷ false ∷ []
unfolding members members_from in_set
sets_worked = refl
