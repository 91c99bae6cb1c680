-- What a run is given: inputs, a setting of coins, and triples.
use Rattle.std.specs.Prelude.{ℕ, ◌≡◌, true, List, length}
use Rattle.numbers.specs.Bytes.{all_below}
use Rattle.plan.specs.Plans.{Plan, input_count, coin_count}
use Rattle.run_protocol.specs.Rounds.{triples_from}
use Rattle.run_protocol.specs.Preparing.{prepares}

-- a list of inputs or a setting of coins, with its full count and each number below p
pub record Full (p k : ℕ) (xs : List ℕ) : Type 0 where
  pub count : length xs ≡ k
  pub small : all_below p xs ≡ true

abbrev pub Inputs : Plan → List ℕ → Type 0
Inputs plan xs = Full plan.p (input_count plan) xs

abbrev pub Coins : Plan → List ℕ → Type 0
Coins plan cs = Full plan.p (coin_count plan) cs

-- triples from a preparing run; for a plan without kind 7 there are none
pub record Triples (plan : Plan) (ts : List ℕ) : Type 0 where
  pub prep : Plan
  pub draws : List ℕ
  pub coins : List ℕ
  pub prepared : prepares prep plan ≡ true
  pub draws_full : Inputs prep draws
  pub coins_full : Coins prep coins
  pub are : ts ≡ triples_from prep draws coins
