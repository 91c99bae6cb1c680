-- The settings of the others' coins: the members' coins stand as given, in the whole list's order, and the coins of all
-- other parties run through every value.
use Rattle.std.specs.Prelude.{ℕ, ◌/◌, ◌%◌, ◌^◌, cond, not, drop, get_or}
use mathlib.Core.List.{List, [], ◌∷◌, flat_map}
use Rattle.numbers.specs.Tables.{tab, count_where}
use Rattle.plan.specs.Plans.{Plan, dealings_at, coin_owners}
use Rattle.plan_coalition.specs.Coalitions.{in_set, members}
use Rattle.run_protocol.specs.Rounds.{view}

-- how many coins are the members', and how many are not
unfoldable pub member_coins : Plan → ℕ → ℕ
member_coins plan set = count_where (in_set set) (coin_owners plan)

unfoldable pub other_coins : Plan → ℕ → ℕ
other_coins plan set = count_where (λ o. not (in_set set o)) (coin_owners plan)

-- p for each of the others' coins
unfoldable pub setting_count : Plan → ℕ → ℕ
setting_count plan set = plan.p ^ other_coins plan set

-- coins with these owners in setting number k: the members' as given, the others' the digits of k to the base p, the lowest first
unfoldable pub coins_from : ℕ → ℕ → List ℕ → List ℕ → ℕ → List ℕ
coins_from p set [] cs k = []
coins_from p set (o ∷ os) cs k =
    cond (in_set set o) (get_or cs 0 0 ∷ coins_from p set os (drop 1 cs) k) (k % p ∷ coins_from p set os cs (k / p))

-- all coins of a run in setting number k
unfoldable pub setting_coins : Plan → ℕ → List ℕ → ℕ → List ℕ
setting_coins plan set cs k = coins_from plan.p set (coin_owners plan) cs k

-- of coins with these owners, the members'
unfoldable pub held_from : ℕ → List ℕ → List ℕ → List ℕ
held_from set [] cs = []
held_from set (o ∷ os) cs = cond (in_set set o) (get_or cs 0 0 ∷ held_from set os (drop 1 cs)) (held_from set os (drop 1 cs))

-- of all coins of a run, the members', in the whole list's order
unfoldable pub held_coins : Plan → ℕ → List ℕ → List ℕ
held_coins plan set coins = held_from set (coin_owners plan) coins

-- the set's view in each setting; a plan that is counted has no gate that spends a triple
unfoldable pub views_of : Plan → ℕ → List ℕ → List ℕ → List (List ℕ)
views_of plan set xs cs = tab (λ k. view plan (members set) xs (setting_coins plan set cs k) []) (setting_count plan set)

-- the dealings of parties that are no members
unfoldable pub other_dealings : Plan → ℕ → ℕ
other_dealings plan set = count_where (λ d. not (in_set set d.dealer)) (flat_map (dealings_at plan) plan.gates)
