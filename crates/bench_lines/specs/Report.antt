-- The bench program's text.
use Rattle.std.specs.Prelude.{Ok, Err, ℕ, suc, ◌+◌, ◌*◌, ◌%◌, Bool, cond, ◌||◌, not, eqb, ltb, length, take, drop, get_or}
use mathlib.Core.List.{List, [], ◌∷◌, ◌++◌, flat_map}
use Rattle.numbers.specs.Tables.{tab}
use Rattle.numbers.specs.Bytes.{word_at, width, numbers_of, numbers, bytes_of}
use Rattle.plan.specs.declared.Output.{Output}
use Rattle.plan.specs.Refusals.{Checked}
use Rattle.plan.specs.Refusals.{number_of, place_of}
use Rattle.plan.specs.Plans.{Plan, party_count, kind_count, last_call, input_count, coin_count, own_inputs, own_coins, out_wires_of, sent_count}
use Rattle.plan.specs.File.{between, plan_of}
use Rattle.plan_coalition.specs.Coalitions.{members, in_set}
use Rattle.run_protocol.specs.Rounds.{mail_to, after, results, view_count}
use Rattle.run_bench.specs.BenchCalls.{bench_answer}
use Rattle.bench_text.specs.Decimals.{line}

-- the words of the lines
unfoldable pub plan_word : List ℕ
plan_word = 112 ∷ 108 ∷ 97 ∷ 110 ∷ []

unfoldable pub view_word : List ℕ
view_word = 118 ∷ 105 ∷ 101 ∷ 119 ∷ []

unfoldable pub round_word : List ℕ
round_word = 114 ∷ 111 ∷ 117 ∷ 110 ∷ 100 ∷ []

unfoldable pub out_word : List ℕ
out_word = 111 ∷ 117 ∷ 116 ∷ []

unfoldable pub sent_word : List ℕ
sent_word = 115 ∷ 101 ∷ 110 ∷ 116 ∷ []

unfoldable pub refused_word : List ℕ
refused_word = 114 ∷ 101 ∷ 102 ∷ 117 ∷ 115 ∷ 101 ∷ 100 ∷ []

-- n, t and p, and how many gates and outs there are
unfoldable pub plan_line : Plan → List ℕ
plan_line plan = line plan_word (party_count plan ∷ plan.t ∷ plan.p ∷ length plan.gates ∷ length plan.outs ∷ [])

-- a member, its figures, its coins
unfoldable pub view_line : Plan → List ℕ → List ℕ → ℕ → List ℕ
view_line plan xs coins i = line view_word (i ∷ (own_inputs plan i xs ++ own_coins plan i coins))

-- a round's number and a member's mail of it
unfoldable pub round_line : Plan → List ℕ → List ℕ → List ℕ → ℕ → ℕ → List ℕ
round_line plan xs coins ts i k = line round_word (k ∷ mail_to i (after plan xs coins ts (suc k)))

-- a member's lines: a round for each step
unfoldable pub member_lines : Plan → List ℕ → List ℕ → List ℕ → ℕ → List ℕ
member_lines plan xs coins ts i = view_line plan xs coins i ++ flat_map (round_line plan xs coins ts i) (tab (λ k. k) (last_call plan))

-- the lines of a member's outs, from out number o on; seen are the outs before it
unfoldable pub out_lines_from : Plan → ℕ → List ℕ → List ℕ → List ℕ → ℕ → List Output → List Output → List ℕ
out_lines_from plan set xs coins ts o seen [] = []
out_lines_from plan set xs coins ts o seen (x ∷ outs) =
    cond (in_set set x.party)
    (line out_word (o ∷ x.party ∷ get_or (results plan xs coins ts x.party) (length (out_wires_of x.party seen)) 0 ∷ []))
    []
    ++ out_lines_from plan set xs coins ts (suc o) (seen ++ (x ∷ [])) outs

unfoldable pub run_lines : Plan → ℕ → List ℕ → List ℕ → List ℕ → List ℕ
run_lines plan set xs coins ts =
    plan_line plan
    ++ (flat_map (member_lines plan xs coins ts) (members set)
    ++ (out_lines_from plan set xs coins ts 0 [] plan.outs
    ++ line sent_word (sent_count plan ∷ [])))

-- the text of a bench run, or of its refusal
unfoldable pub answer_lines : Checked → Plan → ℕ → List ℕ → List ℕ → List ℕ → List ℕ
answer_lines (Ok tt) plan set xs coins ts = run_lines plan set xs coins ts
answer_lines (Err r) plan set xs coins ts = line refused_word (number_of r ∷ place_of r ∷ [])

-- the plan's length, the plan, the set, and the bytes after it
unfoldable pub plan_part : List ℕ → List ℕ
plan_part bs = take (word_at bs 0) (drop 2 bs)

unfoldable pub set_part : List ℕ → ℕ
set_part bs = word_at bs (2 + word_at bs 0)

unfoldable pub list_part : List ℕ → List ℕ
list_part bs = drop (4 + word_at bs 0) bs

-- the bytes of a number after the set: four where the plan's byte 4 is 3 or 4, else two
unfoldable pub input_width : List ℕ → ℕ
input_width plan = cond (between 3 4 (get_or plan 4 0)) 4 2

-- such numbers as a list that is lent to the bench call
unfoldable pub lent : List ℕ → List ℕ → List ℕ
lent plan list = bytes_of (numbers_of (input_width plan) list)

-- the first numbers, as many as a run of the plan has figures, are these
unfoldable pub figures_part : List ℕ → List ℕ
figures_part bs = take (width * input_count (plan_of (plan_part bs))) (lent (plan_part bs) (list_part bs))

-- the rest are coins; where the plan has gates of kind 7, what stands past the coins' full count is triples
unfoldable pub rest_part : List ℕ → List ℕ
rest_part bs = drop (width * input_count (plan_of (plan_part bs))) (lent (plan_part bs) (list_part bs))

unfoldable pub coin_bytes : Plan → List ℕ → ℕ
coin_bytes plan rest = cond (eqb (kind_count plan 7) 0) (length rest) (width * coin_count plan)

unfoldable pub coins_part : List ℕ → List ℕ
coins_part bs = take (coin_bytes (plan_of (plan_part bs)) (rest_part bs)) (rest_part bs)

unfoldable pub triples_part : List ℕ → List ℕ
triples_part bs = drop (coin_bytes (plan_of (plan_part bs)) (rest_part bs)) (rest_part bs)

-- over 32,768 bytes, too short for its plan and set, or with bytes left over after the last number
unfoldable pub unreadable : List ℕ → Bool
unreadable bs =
    ltb 32768 (length bs) || (ltb (length bs) (4 + word_at bs 0) || not (eqb (length (list_part bs) % input_width (plan_part bs)) 0))

unfoldable pub bench_of : List ℕ → Checked
bench_of bs =
    bench_answer (plan_part bs) (set_part bs) (figures_part bs) (coins_part bs) (triples_part bs)
    (width * view_count (plan_of (plan_part bs)) (members (set_part bs)))

-- what the program prints for its input
unfoldable pub report : List ℕ → List ℕ
report bs =
    cond (unreadable bs) (line refused_word (1 ∷ 0 ∷ []))
    (answer_lines (bench_of bs) (plan_of (plan_part bs)) (set_part bs) (numbers (figures_part bs)) (numbers (coins_part bs)) (numbers (triples_part bs)))
