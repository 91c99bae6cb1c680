-- The joint list of a preparing run and of the main run that spends its triples: the preparing plan's draws, its coins, then the main coins.
use Rattle.std.specs.Prelude.{ℕ, ◌+◌, take, drop}
use mathlib.Core.List.{List, ◌++◌, map}
use Rattle.plan.specs.Plans.{Plan, input_count, coin_count, own_inputs, own_coins}
use Rattle.run_protocol.specs.Rounds.{triples_from}

unfoldable pub draws_of : Plan → List ℕ → List ℕ
draws_of prep cs = take (input_count prep) cs

unfoldable pub preparing_coins : Plan → List ℕ → List ℕ
preparing_coins prep cs = take (coin_count prep) (drop (input_count prep) cs)

unfoldable pub main_coins : Plan → List ℕ → List ℕ
main_coins prep cs = drop (input_count prep + coin_count prep) cs

-- the triples that it leads to
abbrev pub joint_triples : Plan → List ℕ → List ℕ
joint_triples prep c = triples_from prep (draws_of prep c) (preparing_coins prep c)

-- what members hold of it: draws and coins of the preparing run, and coins of the main run
abbrev pub joint_held : Plan → Plan → List ℕ → List ℕ → List (List ℕ)
joint_held prep plan ms c =
    map (λ i. own_inputs prep i (draws_of prep c) ++ (own_coins prep i (preparing_coins prep c) ++ own_coins plan i (main_coins prep c))) ms
