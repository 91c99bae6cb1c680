-- A worked preparing run, and the main run that spends its triple, as one table: plan K with kind 7 for its multiply. And that both files meet the
-- premises of demands 2 and 3.
use Rattle.std.specs.Prelude.{ℕ, ◌+◌, ◌*◌, ◌≡◌, true, List, [], ◌∷◌, ◌++◌, map}
use Rattle.numbers.specs.Bytes.{bytes_of, all_below}
use Rattle.plan.specs.Refusals.{code_of}
use Rattle.plan.specs.Plans.{Plan, last_call, sent_count}
use Rattle.plan.specs.File.{plan_check, plan_of}
use Rattle.run_protocol.specs.Rounds.{call_of, mail_to, after, at_end, results, view}
use Rattle.run_bench.specs.BenchCalls.{shares_at_end, bench_answer, spent_after}
use Rattle.match_agreement.specs.MatchCalls.{match_answer}
use Rattle.match_joint.specs.JointLists.{draws_of, preparing_coins, main_coins, joint_triples}
use Rattle.match_joint.specs.Joint.{matched_joint}
use Rattle.match_prepared.specs.PreparedCalls.{prepared_ok, prepared_answer}
use Rattle.demands.specs.Demands.{Given, Alike}
use Rattle.demands.specs.Sums.{contents, like_k}

-- ---- K's file with kind 7 for kind 5, and with another n, t and p
unfoldable pub spending : ℕ → ℕ → ℕ → ℕ → List ℕ
spending n t low high =
    contents n t low high
    ++ (1 ∷ 0 ∷ 1 ∷ 0 ∷ 0 ∷ 0
    ∷ 1 ∷ 0 ∷ 2 ∷ 0 ∷ 0 ∷ 0
    ∷ 7 ∷ 0 ∷ 0 ∷ 0 ∷ 1 ∷ 0
    ∷ 2 ∷ 0 ∷ 2 ∷ 0 ∷ 0 ∷ 0
    ∷ n ∷ 3 ∷ 0
    ∷ [])

-- the file that prepares it: two random wires and their product, no outs
unfoldable pub preparing_file : ℕ → List ℕ
preparing_file p =
    80 ∷ 79 ∷ 79 ∷ 76 ∷ 1 ∷ 3 ∷ 1 ∷ 0 ∷ p ∷ 0 ∷ 18 ∷ 0 ∷ 3 ∷ 0 ∷ 36 ∷ 0 ∷ 0 ∷ 0
    ∷ 6 ∷ 0 ∷ 0 ∷ 0 ∷ 0 ∷ 0
    ∷ 6 ∷ 0 ∷ 0 ∷ 0 ∷ 0 ∷ 0
    ∷ 5 ∷ 0 ∷ 0 ∷ 0 ∷ 1 ∷ 0
    ∷ []

unfoldable pub main_file : List ℕ
main_file = spending 3 1 11 0

unfoldable pub Main : Plan
Main = plan_of main_file

unfoldable pub Prep : Plan
Prep = plan_of (preparing_file 11)

abbrev pub inputs11 : List ℕ
inputs11 = 4 ∷ 5 ∷ []

abbrev pub others11 : List ℕ
others11 = 1 ∷ 1 ∷ []

-- the preparing run's draws and coins, then the main run's coins
abbrev pub joint11 : List ℕ
joint11 = 1 ∷ 2 ∷ 3 ∷ 4 ∷ 5 ∷ 6 ∷ 1 ∷ 2 ∷ 3 ∷ 4 ∷ 5 ∷ 6 ∷ 7 ∷ 8 ∷ 9 ∷ 2 ∷ 3 ∷ []

abbrev pub matched11 : List ℕ
matched11 = 9 ∷ 2 ∷ 3 ∷ 0 ∷ 5 ∷ 6 ∷ 2 ∷ 2 ∷ 3 ∷ 9 ∷ 5 ∷ 6 ∷ 9 ∷ 0 ∷ 9 ∷ 3 ∷ 8 ∷ []

abbrev pub coins11 : List ℕ
coins11 = 2 ∷ 3 ∷ []

-- each party's triple
abbrev pub triples11 : List ℕ
triples11 = 1 ∷ 8 ∷ 8 ∷ 7 ∷ 1 ∷ 3 ∷ 2 ∷ 5 ∷ 9 ∷ []

-- the set's views of both runs of a joint list
unfoldable pub preparing_view : List ℕ → List ℕ
preparing_view c = view Prep (3 ∷ []) (draws_of Prep c) (preparing_coins Prep c) []

unfoldable pub main_view : List ℕ → List ℕ → List ℕ
main_view xs c = view Main (3 ∷ []) xs (main_coins Prep c) (joint_triples Prep c)

-- the bench's answer with these triples, for the set {3}
unfoldable pub bench_with : List ℕ → ℕ
bench_with ts = code_of (bench_answer main_file 4 (bytes_of inputs11) (bytes_of coins11) (bytes_of ts) 48)

-- the joint matching's answer for these files and list
unfoldable pub prepared_with : List ℕ → List ℕ → List ℕ → ℕ
prepared_with prep main c = code_of (prepared_answer prep main 4 (bytes_of inputs11) (bytes_of others11) (bytes_of c) 68)

pub record TripleSums : Type 0 where
  pub main_passes : code_of (plan_check main_file) ≡ 0
  pub prep_passes : code_of (plan_check (preparing_file 11)) ≡ 0
  pub prepares : prepared_ok Prep Main ≡ true
  pub triples : joint_triples Prep joint11 ≡ triples11
  -- the openings of x - a and y - b, by sender; the shares of wires 2 and 3
  pub openings : mail_to 3 (after Main inputs11 coins11 triples11 2) ≡ 5 ∷ 0 ∷ 1 ∷ 10 ∷ 8 ∷ 9 ∷ []
  pub shares : map (shares_at_end Main (at_end Main inputs11 coins11 triples11)) (2 ∷ 3 ∷ []) ≡ (0 ∷ 2 ∷ 4 ∷ []) ∷ (6 ∷ 10 ∷ 3 ∷ []) ∷ []
  pub result : results Main inputs11 coins11 triples11 3 ≡ 2 ∷ []
  pub calls : last_call Main ≡ 3
  pub sent : sent_count Main ≡ 27
  -- call number 2 learns the wire and spends its triple
  pub unspent : (call_of 3 (after Main inputs11 coins11 triples11 2)).triples ≡ 2 ∷ 5 ∷ 9 ∷ []
  pub spent : (call_of 3 (after Main inputs11 coins11 triples11 3)).triples ≡ 0 ∷ 0 ∷ 0 ∷ []
  pub bench_spends : spent_after main_file 4 (bytes_of inputs11) (bytes_of coins11) (bytes_of triples11) 48 ≡ bytes_of (0 ∷ 0 ∷ 0 ∷ 0 ∷ 0 ∷ 0 ∷ 0 ∷ 0 ∷ 0 ∷ [])
  -- the matching of both runs, for the set {3}
  pub matched : matched_joint Prep Main (3 ∷ []) inputs11 others11 joint11 ≡ matched11
  pub same_preparing : preparing_view matched11 ≡ preparing_view joint11
  pub same_main : main_view others11 matched11 ≡ main_view inputs11 joint11
  -- answers: 1 added to party 3's c; a number too large comes before a count that is wrong
  pub answers : bench_with triples11 ≡ 0
  pub breaks : bench_with (1 ∷ 8 ∷ 8 ∷ 7 ∷ 1 ∷ 3 ∷ 2 ∷ 5 ∷ 10 ∷ []) ≡ 20 + 256 * 3
  pub no_triples : bench_with [] ≡ 29
  pub triple_over : bench_with (1 ∷ 11 ∷ []) ≡ 13 + 256 * 1
  pub majority : code_of (plan_check (spending 2 1 11 0)) ≡ 25
  pub alone : code_of (match_answer main_file 4 (bytes_of inputs11) (bytes_of others11) (bytes_of coins11) 8) ≡ 29
  pub together : prepared_with (preparing_file 11) main_file joint11 ≡ 0
  pub other_prime : prepared_with (preparing_file 13) main_file joint11 ≡ 29
  pub none_spent : code_of (prepared_answer (preparing_file 11) (like_k 3 1 11 0) 4 (bytes_of inputs11) (bytes_of others11) (bytes_of (joint11 ++ (1 ∷ 5 ∷ 7 ∷ []))) 80) ≡ 29
  pub preparing_first : prepared_with (preparing_file 9) (spending 2 1 11 0) joint11 ≡ 5
  pub main_earlier : prepared_with (spending 2 1 11 0) (preparing_file 9) joint11 ≡ 5
  -- the premises of demands 2 and 3 are met
  pub bytes_met : (all_below 256 main_file ≡ true) × (all_below 256 (preparing_file 11) ≡ true)
  pub given_met : Given main_file inputs11 coins11 triples11
  pub alike_met : Alike main_file 4 inputs11 others11
