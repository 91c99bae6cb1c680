-- The matching of a preparing run and the main run that spends its triples, together: the lowest non-member's draws
-- take up the changes of the wires that are multiplied, and both runs are then matched by the ordinary rule.
use Rattle.std.specs.Prelude.{ℕ, suc, ◌+◌, cond, eqb, drop, get_or}
use mathlib.Core.List.{List, [], ◌∷◌, ◌++◌, map, flat_map}
use Rattle.numbers.specs.Tables.{tab}
use Rattle.field.specs.Mod.{add, sub}
use Rattle.match_privacy.specs.Matching.{lowest, matched_with, matched_coins}
use Rattle.plan.specs.declared.Gate.{Gate}
use Rattle.plan.specs.Plans.{Plan, party_count, is_kind, operands_of, input_count, coin_count}
use Rattle.run_protocol.specs.Ideal.{values}
use Rattle.run_protocol.specs.Shares.{share_table}
use Rattle.run_protocol.specs.Rounds.{view}
use Rattle.match_privacy.specs.Bijections.{Bijection}
use Rattle.match_joint.specs.JointLists.{draws_of, preparing_coins, main_coins, joint_triples, joint_held}

-- by how much wire w changes, given all wires' values in the two runs
unfoldable pub wire_change : Plan → List ℕ → List ℕ → ℕ → ℕ
wire_change plan us vs w = sub plan.p (get_or vs w 0) (get_or us w 0)

-- the wires that the gates of kind 7 multiply, two for each, and their changes
unfoldable pub spent_wires : Gate → List ℕ
spent_wires g = cond (is_kind 7 g) (operands_of g) []

unfoldable pub spent_changes : Plan → List ℕ → List ℕ → List ℕ
spent_changes plan xs ys = map (wire_change plan (values plan xs) (values plan ys)) (flat_map spent_wires plan.gates)

-- the draw of party i for each random wire takes that wire's change
unfoldable pub moved_draws : ℕ → ℕ → ℕ → List ℕ → List ℕ → List ℕ
moved_draws p n i [] draws = []
moved_draws p n i (d ∷ ds) draws =
    tab (λ j. cond (eqb (suc j) i) (add p (get_or draws j 0) d) (get_or draws j 0)) n
    ++ moved_draws p n i ds (drop n draws)

unfoldable pub matched_draws : Plan → Plan → List ℕ → List ℕ → List ℕ → List ℕ → List ℕ
matched_draws prep plan ms xs ys cs =
    moved_draws plan.p (party_count plan) (lowest plan ms) (spent_changes plan xs ys) (draws_of prep cs)

unfoldable pub matched_preparing : Plan → Plan → List ℕ → List ℕ → List ℕ → List ℕ → List ℕ
matched_preparing prep plan ms xs ys cs =
    matched_coins prep ms (draws_of prep cs) (matched_draws prep plan ms xs ys cs) (preparing_coins prep cs)

unfoldable pub matched_joint : Plan → Plan → List ℕ → List ℕ → List ℕ → List ℕ → List ℕ
matched_joint prep plan ms xs ys cs =
    matched_draws prep plan ms xs ys cs
    ++ (matched_preparing prep plan ms xs ys cs
    ++ matched_with plan ms
    (share_table prep (draws_of prep cs) (preparing_coins prep cs) [])
    (share_table prep (matched_draws prep plan ms xs ys cs) (matched_preparing prep plan ms xs ys cs) [])
    xs ys (main_coins prep cs))

-- ---- what is private
-- the coalition's views of a preparing run and of the main run that spends its triples, over the joint list
abbrev pub joint_view : Plan → Plan → List ℕ → List ℕ → List ℕ → List ℕ
joint_view prep plan ms xs c =
    view prep ms (draws_of prep c) (preparing_coins prep c) []
    ++ view plan ms xs (main_coins prep c) (joint_triples prep c)

abbrev pub JointlyPrivate : Plan → Plan → List ℕ → List ℕ → List ℕ → Type 0
JointlyPrivate prep plan ms xs ys =
    Bijection plan.p (input_count prep + coin_count prep + coin_count plan) (matched_joint prep plan ms xs ys)
    (joint_held prep plan ms)
    (joint_view prep plan ms xs)
    (joint_view prep plan ms ys)
