-- Worked examples, as one table: plan K (P1 to P3), and one for each later kind of gate, rule and threshold, by computation.
--     K, K4, KRandom, KSpend, four_sum     plan K, by the rule of 1988, with a random wire, with a spent triple; source document 001's example
-- Assumes nothing.
use mathlib.Core.Path.{◌≡◌, refl}
use mathlib.Core.List.{List, [], ◌∷◌, map, flat_map}
use Prim.Native.Nat.{ℕ, suc}
use lib.ListN.{get_or, replicate}
use Rattle.plan.specs.declared.Gate.{Gate}
use Rattle.plan.specs.declared.Gate.TheVariants.{Input, Add, Multiply, Random, Spend}
use Rattle.plan.specs.declared.Rule.{Rule}
use Rattle.plan.specs.declared.Rule.TheVariants.{Reduction, Truncation}
use Rattle.plan.specs.Plans.{Plan, party_count, parties, point_of, dealer_count, dealer_points, kind_of, is_kind, kind_count, multiplying, operands_of, is_input_of, wires_from, input_wires, out_wires_of, out_wires, input_owners_at, first_dealings, multiply_dealings, dealings_at, coin_owners_at, input_owners, coin_owners, own_of, own_inputs, own_coins, input_at, coins_at, triple_numbers, triple_at, own_triples, multiply_steps, steps_at, steps_from, steps, step_at, last_call, input_count, own_input_count, coin_count, own_coin_count, own_out_count, received, sent_by, mail_count, written_count, per_multiply, sent_count}
use Rattle.run_protocol.specs.Preparing.{preparing, triple_gates}
use Rattle.numbers.specs.Tables.{tab, first_from, first_failing, count_where, total}
use Rattle.field.specs.Mod.{add, mul, sub}
use Rattle.field.specs.Prime.{invert, inv}
use Rattle.sharing_laws.specs.Poly.{eval, sum_of, scale, product, linear}
use Rattle.sharing_laws.specs.Interp.{factor, weight, weights, dot, interpolate, delta}
use Rattle.sharing_laws.specs.Sharing.{deal, opened, first_off, mixture, matched}
use Rattle.sharing_laws.specs.Basis.{sum_all, basis, fitted, entry, row, matched_zero}
use Rattle.seat_messages.specs.Messages.{set_all, from_each, wires_by_party, opened_at, spent_share, learnt, resume_at, work_gate, work_from, learn_from, spend_from, learn, spend, deal_to, nothing, product_at, send_at, call_with, call}
use Rattle.run_protocol.specs.Rounds.{fresh, no_call, call_of, mail_to, next_call, next_round, after, at_end, results, mails, view_of, view, triples_from, sent_in, sent_before, sent_all, view_count_of, view_count}
use Rattle.run_protocol.specs.Ideal.{inputs_taken, gate_value, values_from, values, granted}
use Rattle.run_protocol.specs.Shares.{wire_at, product_of, zero_pieces, masked_at, multiply_dealt, dealt_at, sharings, pieces_at, truncated_at, multiply_share, difference_at, difference_of, gate_share, triples_taken, past, past_all, start_of, share_table}

unfoldable pub plan_with : ℕ → ℕ → List ℕ → List Gate → ℕ → ℕ → Rule → Plan
plan_with t p points gates party wire rule =
    record { t = t; p = p; points = points; gates = gates; outs = record { party = party; wire = wire } ∷ []; rule = rule }

-- K, with another gate 1 or 2
unfoldable pub like_k : Gate → Gate → Rule → Plan
like_k second third rule = plan_with 1 11 (1 ∷ 2 ∷ 3 ∷ []) (Input 1 ∷ second ∷ third ∷ Add 2 0 ∷ []) 3 3 rule

unfoldable pub K : Plan
K = like_k (Input 2) (Multiply 0 1) Reduction

unfoldable pub K4 : Plan
K4 = like_k (Input 2) (Multiply 0 1) Truncation

unfoldable pub KRandom : Plan
KRandom = like_k Random (Multiply 0 1) Reduction

unfoldable pub KSpend : Plan
KSpend = like_k (Input 2) (Spend 0 1) Reduction

unfoldable pub prepared : Plan
prepared = preparing KSpend Reduction

unfoldable pub four_sum : Plan
four_sum = plan_with 2 5 (1 ∷ 2 ∷ 3 ∷ 4 ∷ []) (Input 1 ∷ Input 2 ∷ Input 3 ∷ Input 4 ∷ Add 0 1 ∷ Add 4 2 ∷ Add 5 3 ∷ []) 1 6 Reduction

abbrev pub figures : List ℕ
figures = 4 ∷ 5 ∷ []

abbrev pub coins_k : List ℕ
coins_k = 2 ∷ 3 ∷ 1 ∷ 5 ∷ 7 ∷ []

abbrev pub coins_k4 : List ℕ
coins_k4 = 2 ∷ 3 ∷ 1 ∷ 2 ∷ 3 ∷ 4 ∷ 5 ∷ 6 ∷ 7 ∷ 8 ∷ 9 ∷ []

abbrev pub draws : List ℕ
draws = 1 ∷ 2 ∷ 3 ∷ 4 ∷ 5 ∷ 6 ∷ []

abbrev pub prep_coins : List ℕ
prep_coins = 1 ∷ 2 ∷ 3 ∷ 4 ∷ 5 ∷ 6 ∷ 7 ∷ 8 ∷ 9 ∷ []

abbrev pub triples : List ℕ
triples = 1 ∷ 8 ∷ 8 ∷ 7 ∷ 1 ∷ 3 ∷ 2 ∷ 5 ∷ 9 ∷ []

abbrev pub four_coins : List ℕ
four_coins = 0 ∷ 0 ∷ 0 ∷ 1 ∷ 2 ∷ 0 ∷ 3 ∷ 2 ∷ []

-- wire w's shares at the end of a run, and in the table
unfoldable pub shares_of : Plan → List ℕ → List ℕ → List ℕ → ℕ → List ℕ
shares_of plan xs cs ts w = map (λ c. get_or c.state (suc w) 0) (at_end plan xs cs ts)

unfoldable pub table_of : Plan → List ℕ → List ℕ → ℕ → List ℕ
table_of plan xs cs w = map (wire_at (share_table plan xs cs []) w) plan.points

pub record Sums : Type 0 where
  -- P1 to P3
  pub k_shares : map (shares_of K figures coins_k []) (0 ∷ 1 ∷ 2 ∷ 3 ∷ []) ≡ (6 ∷ 8 ∷ 10 ∷ []) ∷ (8 ∷ 0 ∷ 3 ∷ []) ∷ (4 ∷ 10 ∷ 5 ∷ []) ∷ (10 ∷ 7 ∷ 4 ∷ []) ∷ []
  pub k-table : map (table_of K figures coins_k) (0 ∷ 1 ∷ 2 ∷ 3 ∷ []) ≡ (6 ∷ 8 ∷ 10 ∷ []) ∷ (8 ∷ 0 ∷ 3 ∷ []) ∷ (4 ∷ 10 ∷ 5 ∷ []) ∷ (10 ∷ 7 ∷ 4 ∷ []) ∷ []
  pub k-granted : granted K figures 3 ≡ 2 ∷ []
  pub k-view : view K (3 ∷ []) figures coins_k [] ≡ 7 ∷ 10 ∷ 3 ∷ 7 ∷ 4 ∷ 7 ∷ 10 ∷ 7 ∷ 4 ∷ 2 ∷ []
  pub k_view_count : view_count K (3 ∷ []) ≡ 10
  pub k_sent : sent_all K figures coins_k [] ≡ 18
  -- other thresholds
  pub four_shares : shares_of four_sum (2 ∷ 1 ∷ 1 ∷ 0 ∷ []) four_coins [] 6 ≡ 2 ∷ 1 ∷ 1 ∷ 2 ∷ []
  pub four_result : results four_sum (2 ∷ 1 ∷ 1 ∷ 0 ∷ []) four_coins [] 1 ≡ 4 ∷ []
  -- the 1988 rule
  pub k4_shares : map (shares_of K4 figures coins_k4 []) (2 ∷ 3 ∷ []) ≡ (10 ∷ 0 ∷ 1 ∷ []) ∷ (5 ∷ 8 ∷ 0 ∷ []) ∷ []
  pub k4-table : map (table_of K4 figures coins_k4) (2 ∷ 3 ∷ []) ≡ (10 ∷ 0 ∷ 1 ∷ []) ∷ (5 ∷ 8 ∷ 0 ∷ []) ∷ []
  pub k4-view : view K4 (3 ∷ []) figures coins_k4 [] ≡ 7 ∷ 8 ∷ 9 ∷ 10 ∷ 3 ∷ 10 ∷ 2 ∷ 5 ∷ 7 ∷ 3 ∷ 8 ∷ 10 ∷ 8 ∷ 6 ∷ 5 ∷ 8 ∷ 0 ∷ 2 ∷ []
  pub k4_sent : sent_all K4 figures coins_k4 [] ≡ 36
  -- a random wire
  pub random_result : results KRandom (4 ∷ 1 ∷ 2 ∷ 3 ∷ []) (2 ∷ 3 ∷ 4 ∷ 5 ∷ 1 ∷ 5 ∷ 7 ∷ []) [] 3 ≡ 6 ∷ []
  pub random-granted : granted KRandom (4 ∷ 1 ∷ 2 ∷ 3 ∷ []) 3 ≡ 6 ∷ []
  pub random_sent : sent_all KRandom (4 ∷ 1 ∷ 2 ∷ 3 ∷ []) (2 ∷ 3 ∷ 4 ∷ 5 ∷ 1 ∷ 5 ∷ 7 ∷ []) [] ≡ 24
  -- triples
  pub triples_are : triples_from prepared draws prep_coins ≡ triples
  pub spend-opened : mail_to 1 (after KSpend figures (2 ∷ 3 ∷ []) triples 2) ≡ 5 ∷ 0 ∷ 1 ∷ 10 ∷ 8 ∷ 9 ∷ []
  pub spend_shares : map (shares_of KSpend figures (2 ∷ 3 ∷ []) triples) (2 ∷ 3 ∷ []) ≡ (0 ∷ 2 ∷ 4 ∷ []) ∷ (6 ∷ 10 ∷ 3 ∷ []) ∷ []
  pub spend_result : results KSpend figures (2 ∷ 3 ∷ []) triples 3 ≡ 2 ∷ []
  pub spend_sent : sent_all KSpend figures (2 ∷ 3 ∷ []) triples ≡ 27
  pub all_spent : flat_map (λ c. c.triples) (at_end KSpend figures (2 ∷ 3 ∷ []) triples) ≡ replicate 9 0

pub sums : Sums
unfolding tab first_from first_failing count_where add mul sub invert inv eval sum_of scale product linear factor weight weights dot interpolate delta deal opened first_off mixture matched sum_all basis fitted entry row matched_zero party_count parties point_of dealer_count dealer_points kind_of is_kind kind_count multiplying operands_of is_input_of wires_from input_wires out_wires_of out_wires input_owners_at first_dealings multiply_dealings dealings_at coin_owners_at input_owners coin_owners own_of own_inputs own_coins input_at coins_at triple_numbers triple_at own_triples multiply_steps steps_at steps_from steps step_at last_call input_count own_input_count coin_count own_coin_count own_out_count received sent_by mail_count written_count per_multiply sent_count set_all from_each wires_by_party opened_at spent_share learnt resume_at work_gate work_from learn_from spend_from learn spend deal_to nothing product_at send_at call_with call fresh no_call call_of mail_to next_call next_round after at_end results mails view_of view triples_from sent_in sent_before sent_all total view_count_of view_count inputs_taken gate_value values_from values granted wire_at product_of zero_pieces masked_at multiply_dealt dealt_at sharings pieces_at truncated_at multiply_share difference_at difference_of gate_share triples_taken past past_all start_of share_table triple_gates plan_with like_k K K4 KRandom KSpend prepared four_sum shares_of table_of flat_map
sums = record {
  k_shares = refl;
  k-table = refl;
  k-granted = refl;
  k-view = refl;
  k_view_count = refl;
  k_sent = refl;
  four_shares = refl;
  four_result = refl;
  k4_shares = refl;
  k4-table = refl;
  k4-view = refl;
  k4_sent = refl;
  random_result = refl;
  random-granted = refl;
  random_sent = refl;
  triples_are = refl;
  spend-opened = refl;
  spend_shares = refl;
  spend_result = refl;
  spend_sent = refl;
  all_spent = refl;
}
