-- The lines of a run as they are read off the numbers of the coalition's view, which stand member by member.
use Rattle.std.specs.Prelude.{ℕ, zero, suc, ◌+◌, ◌-◌, cond, length, take, drop, get_or}
use mathlib.Core.List.{List, [], ◌∷◌, ◌++◌, flat_map}
use Rattle.plan.specs.declared.Output.{Output}
use Rattle.plan.specs.Plans.{Plan, last_call, own_input_count, own_coin_count, own_out_count, mail_count, out_wires_of, sent_count}
use Rattle.plan_coalition.specs.Coalitions.{in_set, members_from, members}
use Rattle.run_protocol.specs.Rounds.{view_count_of, view_count}
use Rattle.bench_text.specs.Decimals.{line}
use Rattle.bench_lines.specs.Report.{view_word, round_word, out_word, sent_word, plan_line}

-- m rounds' lines of party i, from round k on, of the numbers vs
unfoldable pub round_lines_in : Plan → ℕ → List ℕ → ℕ → ℕ → List ℕ
round_lines_in plan i vs k zero = []
round_lines_in plan i vs k (suc m) =
    line round_word (k ∷ take (mail_count plan i (suc k)) vs)
    ++ round_lines_in plan i (drop (mail_count plan i (suc k)) vs) (suc k) m

-- a party's own inputs and coins
unfoldable pub own_count : Plan → ℕ → ℕ
own_count plan i = own_input_count plan i + own_coin_count plan i

-- party i's lines, when its view begins the numbers vs
unfoldable pub member_lines_in : Plan → ℕ → List ℕ → List ℕ
member_lines_in plan i vs =
    line view_word (i ∷ take (own_count plan i) vs) ++ round_lines_in plan i (drop (own_count plan i) vs) 0 (last_call plan)

-- where party i's view begins: after those of the members below it
unfoldable pub part_at : Plan → ℕ → ℕ → ℕ
part_at plan set i = view_count plan (members_from set 1 (i - 1))

-- where its results begin
unfoldable pub results_at : Plan → ℕ → ℕ → ℕ
results_at plan set i = part_at plan set i + (view_count_of plan i - own_out_count plan i)

unfoldable pub member_part : Plan → ℕ → List ℕ → ℕ → List ℕ
member_part plan set vs i = member_lines_in plan i (drop (part_at plan set i) vs)

-- the line of out number o, where it is a member's; seen are the outs before it
unfoldable pub out_line_in : Plan → ℕ → List ℕ → ℕ → List Output → Output → List ℕ
out_line_in plan set vs o seen x =
    cond (in_set set x.party)
    (line out_word (o ∷ x.party ∷ get_or vs (results_at plan set x.party + length (out_wires_of x.party seen)) 0 ∷ []))
    []

unfoldable pub out_lines_in : Plan → ℕ → List ℕ → ℕ → List Output → List Output → List ℕ
out_lines_in plan set vs o seen [] = []
out_lines_in plan set vs o seen (x ∷ outs) = out_line_in plan set vs o seen x ++ out_lines_in plan set vs (suc o) (seen ++ (x ∷ [])) outs

unfoldable pub run_lines_in : Plan → ℕ → List ℕ → List ℕ
run_lines_in plan set vs =
    plan_line plan
    ++ (flat_map (member_part plan set vs) (members set)
    ++ (out_lines_in plan set vs 0 [] plan.outs
    ++ line sent_word (sent_count plan ∷ [])))
