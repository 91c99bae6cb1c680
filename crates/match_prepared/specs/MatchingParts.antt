-- The matching of two runs together in parts: the triples that a run leaves, as its table of shares has them, and what both runs are given.
use Rattle.std.specs.Prelude.{Ok, ℕ, ◌+◌, ◌*◌, ◌≡◌, true, List, [], length, get_or}
use mathlib.Core.List.{flat_map}
use Rattle.numbers.specs.Tables.{tab}
use Rattle.numbers.specs.Bytes.{width, numbers}
use Rattle.plan.specs.Plans.{party_count, input_count, coin_count}
use Rattle.plan.specs.File.{plan_of}
use Rattle.plan_coalition.specs.Coalitions.{members, set_ok}
use Rattle.run_protocol.specs.Shares.{share_table}
use Rattle.run_protocol.specs.Preparing.{prepares}
use Rattle.run_protocol.specs.Settings.{Inputs, Coins}
use Rattle.match_privacy.specs.Matching.{lowest, matched_with, matched_coins}
use Rattle.match_agreement.specs.MatchCalls.{inputs_agree}
use Rattle.match_joint.specs.Joint.{spent_changes, moved_draws}

-- ---- the triples
-- party d's share of wire w, d counted from 0, of a table that has a row of n shares for each wire; and its shares of m wires
unfoldable pub share_at : ℕ → List ℕ → ℕ → ℕ → ℕ
share_at n table d w = get_or table (n * w + d) 0

unfoldable pub column_of : ℕ → List ℕ → ℕ → ℕ → List ℕ
column_of n table m d = tab (share_at n table d) m

-- all n parties' shares of them, party by party
unfoldable pub columns_of : ℕ → List ℕ → ℕ → List ℕ
columns_of n table m = flat_map (column_of n table m) (tab (λ d. d) n)

-- ---- what the parts of a joint list go to
-- the preparing run's draws
unfoldable pub new_draws : List ℕ → ℕ → List ℕ → List ℕ → List ℕ → List ℕ
new_draws bs set xs ys draws =
    moved_draws (plan_of bs).p (party_count (plan_of bs)) (lowest (plan_of bs) (members set)) (spent_changes (plan_of bs) (numbers xs) (numbers ys)) (numbers draws)

-- its coins
unfoldable pub new_coins : List ℕ → List ℕ → ℕ → List ℕ → List ℕ → List ℕ → List ℕ → List ℕ
new_coins prep bs set xs ys draws coins = matched_coins (plan_of prep) (members set) (numbers draws) (new_draws bs set xs ys draws) (numbers coins)

-- the main run's coins
unfoldable pub new_main : List ℕ → List ℕ → ℕ → List ℕ → List ℕ → List ℕ → List ℕ → List ℕ → List ℕ
new_main prep bs set xs ys draws coins main =
    matched_with (plan_of bs) (members set) (share_table (plan_of prep) (numbers draws) (numbers coins) [])
    (share_table (plan_of prep) (new_draws bs set xs ys draws) (new_coins prep bs set xs ys draws coins) []) (numbers xs) (numbers ys) (numbers main)

-- both lists of the main plan's inputs, and the parts of a joint list: draws and coins of the preparing run, and coins of the main run
pub record Parted (prep bs : List ℕ) (set : ℕ) (xs ys draws coins main : List ℕ) : Type 0 where
  pub prepared : prepares (plan_of prep) (plan_of bs) ≡ true
  pub set_ok_first : set_ok (plan_of prep) set ≡ true
  pub set_ok_lem : set_ok (plan_of bs) set ≡ true
  pub first_full : Inputs (plan_of bs) (numbers xs)
  pub second_full : Inputs (plan_of bs) (numbers ys)
  pub agree : inputs_agree (plan_of bs) set (numbers xs) (numbers ys) ≡ Ok tt
  pub draws_long : length draws ≡ width * input_count (plan_of prep)
  pub draws_full : Inputs (plan_of prep) (numbers draws)
  pub coins_long : length coins ≡ width * coin_count (plan_of prep)
  pub coins_full : Coins (plan_of prep) (numbers coins)
  pub main_long : length main ≡ width * coin_count (plan_of bs)
  pub main_full : Coins (plan_of bs) (numbers main)
