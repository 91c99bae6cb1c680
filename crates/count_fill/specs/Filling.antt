-- The rows of all settings as they are filled, before they are sorted and merged. For the code alone: no demand cites these.
use Rattle.std.specs.Prelude.{ℕ, ◌+◌, ◌*◌, ◌≤◌, ◌≡◌, true, List, [], ◌∷◌, ◌++◌, length, take}
use Rattle.numbers.specs.Bytes.{width, numbers, bytes_of, all_below}
use Rattle.sharing_laws.specs.Sharing.{rows_of}
use Rattle.plan.specs.Plans.{Plan, input_count, coin_owners, triple_numbers}
use Rattle.plan_coalition.specs.Coalitions.{members, set_ok}
use Rattle.run_protocol.specs.Rounds.{view, view_count}
use Rattle.count_laws.specs.Settings.{setting_coins}

-- xs stand from place `at` on, and `next` is the place after them
pub record Put (xs : List ℕ) (at : ℕ) (old new : List ℕ) (next : ℕ) : Type 0 where
  pub place : next ≡ at + length xs
  pub front : take next new ≡ take at old ++ xs

-- the row of setting k, as bytes: the set's view, then 1
unfoldable pub row_bytes : Plan → ℕ → List ℕ → List ℕ → ℕ → List ℕ
row_bytes plan set xs cs k = bytes_of (view plan (members set) xs (setting_coins plan set cs k) [] ++ (1 ∷ []))

-- those of the first n settings
unfoldable pub rows_filled : Plan → ℕ → List ℕ → List ℕ → ℕ → List ℕ
rows_filled plan set xs cs n = rows_of (row_bytes plan set xs cs) n

-- what the settings are run with: inputs, the members' coins, the owners of all coins, no triples, and the numbers of a view
pub record Lent (plan : Plan) (set : ℕ) (inputs given owners : List ℕ) (v : ℕ) : Type 0 where
  pub fits : set_ok plan set ≡ true
  pub inputs_count : length inputs ≡ width * input_count plan
  pub inputs_below : all_below plan.p (numbers inputs) ≡ true
  pub given_below : all_below plan.p (numbers given) ≡ true
  pub owned : owners ≡ coin_owners plan
  pub unspent : triple_numbers plan ≡ 0
  pub wide : v ≡ view_count plan (members set)
  pub few : v ≤ 1097728
