-- The sums worked by hand, P1 to P10, as one table, with those of other thresholds, points and openings; and that plan K with P5's lists meets the premises of the demands.
use Rattle.std.specs.Prelude.{ℕ, ◌+◌, ◌*◌, ◌≡◌, true, List, [], ◌∷◌, ◌++◌, map}
use Rattle.numbers.specs.Bytes.{width, bytes_of, all_below}
use Rattle.sharing_laws.specs.Interp.{weights, interpolate, delta}
use Rattle.plan.specs.Refusals.{code_of, first_of}
use Rattle.plan.specs.Plans.{Plan, point_of}
use Rattle.plan.specs.declared.Gate.TheVariants.{Multiply}
use Rattle.plan.specs.File.{plan_check, plan_of}
use Rattle.seat_messages.specs.Calls.{on_polynomial, call_answer}
use Rattle.run_protocol.specs.Rounds.{results, view}
use Rattle.run_protocol.specs.Shares.{wire_at, dealt_at, share_table}
use Rattle.run_protocol.specs.Tables.{before_gate}
use Rattle.run_bench.specs.BenchCalls.{bench_answer}
use Rattle.match_privacy.specs.Matching.{matched_coins}
use Rattle.demands.specs.Demands.{Given, Alike}

-- the contents of a plan with four gates and one out: n, t, and the two bytes of p
unfoldable pub contents : ℕ → ℕ → ℕ → ℕ → List ℕ
contents n t low high = 80 ∷ 79 ∷ 79 ∷ 76 ∷ 1 ∷ n ∷ t ∷ 0 ∷ low ∷ high ∷ 18 ∷ 0 ∷ 4 ∷ 0 ∷ 42 ∷ 0 ∷ 1 ∷ 0 ∷ []

-- input 1, input 2, multiply 0 1, add 2 0; one out: this party, wire 3
unfoldable pub bodies : ℕ → List ℕ
bodies i =
    1 ∷ 0 ∷ 1 ∷ 0 ∷ 0 ∷ 0
    ∷ 1 ∷ 0 ∷ 2 ∷ 0 ∷ 0 ∷ 0
    ∷ 5 ∷ 0 ∷ 0 ∷ 0 ∷ 1 ∷ 0
    ∷ 2 ∷ 0 ∷ 2 ∷ 0 ∷ 0 ∷ 0
    ∷ i ∷ 3 ∷ 0
    ∷ []

-- K's file, and K with another n, t and p
unfoldable pub like_k : ℕ → ℕ → ℕ → ℕ → List ℕ
like_k n t low high = contents n t low high ++ bodies 3

unfoldable pub K : Plan
K = plan_of (like_k 3 1 11 0)

-- K of version 2 with p = 101 and these points
unfoldable pub pointed : ℕ → ℕ → ℕ → List ℕ
pointed a b c =
    80 ∷ 79 ∷ 79 ∷ 76 ∷ 2 ∷ 3 ∷ 1 ∷ 0 ∷ 101 ∷ 0 ∷ 20 ∷ 0 ∷ 4 ∷ 0 ∷ 44 ∷ 0 ∷ 1 ∷ 0 ∷ 47 ∷ 0 ∷ (bodies 3 ++ (a ∷ 0 ∷ b ∷ 0 ∷ c ∷ 0 ∷ []))

-- site codes as points
unfoldable pub Codes : Plan
Codes = plan_of (pointed 7 40 3)

-- P9's file: n = 1, t = 0, p = 2, input 1, one out: party 1, wire 0
unfoldable pub single : List ℕ
single = 80 ∷ 79 ∷ 79 ∷ 76 ∷ 1 ∷ 1 ∷ 0 ∷ 0 ∷ 2 ∷ 0 ∷ 18 ∷ 0 ∷ 1 ∷ 0 ∷ 24 ∷ 0 ∷ 1 ∷ 0 ∷ 1 ∷ 0 ∷ 1 ∷ 0 ∷ 0 ∷ 0 ∷ 1 ∷ 0 ∷ 0 ∷ []

-- source document 001's example: four inputs, added; one out: party 1, wire 6
unfoldable pub addition : List ℕ
addition =
    80 ∷ 79 ∷ 79 ∷ 76 ∷ 1 ∷ 4 ∷ 2 ∷ 0 ∷ 5 ∷ 0 ∷ 18 ∷ 0 ∷ 7 ∷ 0 ∷ 60 ∷ 0 ∷ 1 ∷ 0
    ∷ 1 ∷ 0 ∷ 1 ∷ 0 ∷ 0 ∷ 0
    ∷ 1 ∷ 0 ∷ 2 ∷ 0 ∷ 0 ∷ 0
    ∷ 1 ∷ 0 ∷ 3 ∷ 0 ∷ 0 ∷ 0
    ∷ 1 ∷ 0 ∷ 4 ∷ 0 ∷ 0 ∷ 0
    ∷ 2 ∷ 0 ∷ 0 ∷ 0 ∷ 1 ∷ 0
    ∷ 2 ∷ 0 ∷ 4 ∷ 0 ∷ 2 ∷ 0
    ∷ 2 ∷ 0 ∷ 5 ∷ 0 ∷ 3 ∷ 0
    ∷ 1 ∷ 6 ∷ 0
    ∷ []

-- its figures, and the coins of 2, 1 + X², 1 + 2X, 3X + 2X²
abbrev pub inputs3 : List ℕ
inputs3 = 2 ∷ 1 ∷ 1 ∷ 0 ∷ []

abbrev pub coins3 : List ℕ
coins3 = 0 ∷ 0 ∷ 0 ∷ 1 ∷ 2 ∷ 0 ∷ 3 ∷ 2 ∷ []

abbrev pub inputs1 : List ℕ
inputs1 = 4 ∷ 5 ∷ []

abbrev pub coins1 : List ℕ
coins1 = 2 ∷ 3 ∷ 1 ∷ 5 ∷ 7 ∷ []

-- wire w's shares in P1's run of K
unfoldable pub shares_of : ℕ → List ℕ
shares_of w = map (wire_at (share_table K inputs1 coins1 []) w) K.points

-- the bench's answer for K, a set, figures and P1's coins, with a buffer of so many numbers
unfoldable pub bench_of : ℕ → List ℕ → ℕ → ℕ
bench_of set xs room = code_of (bench_answer (like_k 3 1 11 0) set (bytes_of xs) (bytes_of coins1) [] room)

-- the answer to seat 3's last call in P1's run, with this mail
unfoldable pub last_call_of : List ℕ → ℕ
last_call_of mail = code_of (call_answer (like_k 3 1 11 0) 3 [] (bytes_of (7 ∷ [])) [] (bytes_of (3 ∷ 10 ∷ 3 ∷ 5 ∷ 4 ∷ [])) (bytes_of mail) width)

-- P5's second list
abbrev pub inputs5 : List ℕ
inputs5 = 1 ∷ 1 ∷ []

pub record Sums : Type 0 where
  pub p1 : map shares_of (0 ∷ 1 ∷ []) ≡ (6 ∷ 8 ∷ 10 ∷ []) ∷ (8 ∷ 0 ∷ 3 ∷ []) ∷ []
  pub p2-weights : weights 11 0 (1 ∷ 2 ∷ 3 ∷ []) ≡ 3 ∷ 8 ∷ 1 ∷ []
  pub p2_products : dealt_at K (Multiply 0 1) (before_gate K inputs1 coins1 [] 2) ≡ 4 ∷ 0 ∷ 8 ∷ []
  pub p2_value : interpolate 11 0 (1 ∷ 2 ∷ 3 ∷ []) (4 ∷ 0 ∷ 8 ∷ []) ≡ 9
  pub p3_shares : map shares_of (2 ∷ 3 ∷ []) ≡ (4 ∷ 10 ∷ 5 ∷ []) ∷ (10 ∷ 7 ∷ 4 ∷ []) ∷ []
  pub p3_result : results K inputs1 coins1 [] 3 ≡ 2 ∷ []
  pub p4 : delta 11 (3 ∷ []) ≡ 1 ∷ 7 ∷ []
  pub p5_coins : matched_coins K (3 ∷ []) inputs1 inputs5 coins1 ≡ 3 ∷ 8 ∷ 5 ∷ 2 ∷ 7 ∷ []
  pub p5_first_view : view K (3 ∷ []) inputs1 coins1 [] ≡ 7 ∷ 10 ∷ 3 ∷ 7 ∷ 4 ∷ 7 ∷ 10 ∷ 7 ∷ 4 ∷ 2 ∷ []
  pub p5-view : view K (3 ∷ []) inputs5 (3 ∷ 8 ∷ 5 ∷ 2 ∷ 7 ∷ []) [] ≡ view K (3 ∷ []) inputs1 coins1 []
  -- P6 with any threshold: K's out names party 3
  pub p6_first : code_of (plan_check (like_k 2 1 11 0)) ≡ 8
  pub p6_passes : code_of (plan_check (like_k 15 7 17 0)) ≡ 0
  pub p7_not_above : code_of (plan_check (like_k 3 1 3 0)) ≡ 5
  pub p7_nine : code_of (plan_check (like_k 3 1 9 0)) ≡ 5
  pub p7_largest : code_of (plan_check (like_k 3 1 241 255)) ≡ 0
  pub p7_even_larger : code_of (plan_check (like_k 3 1 255 255)) ≡ 5
  pub p8_passes : bench_of 0 (10 ∷ 5 ∷ []) 0 ≡ 0
  pub p8_refused : bench_of 0 (11 ∷ 5 ∷ []) 0 ≡ 11
  pub p9_passes : code_of (plan_check single) ≡ 0
  pub p9_result : results (plan_of single) (1 ∷ []) [] [] 1 ≡ 1 ∷ []
  pub p10 : bench_of 3 inputs1 0 ≡ 9
  -- thresholds: t = n; a multiply gate at n = 2, t = 1; and an example over 5, with the two matchings for parties 1 and 4
  pub r3_threshold : code_of (plan_check (like_k 3 3 11 0)) ≡ 4
  pub r3_majority : code_of (plan_check (contents 2 1 11 0 ++ bodies 2)) ≡ 25
  pub r3_passes : code_of (plan_check addition) ≡ 0
  pub r3_shares : map (wire_at (share_table (plan_of addition) inputs3 coins3 []) 6) (plan_of addition).points ≡ 2 ∷ 1 ∷ 1 ∷ 2 ∷ []
  pub r3_result : results (plan_of addition) inputs3 coins3 [] 1 ≡ 4 ∷ []
  pub r3-delta : delta 5 (1 ∷ 4 ∷ []) ≡ 1 ∷ 0 ∷ 4 ∷ []
  pub r3_coins : matched_coins (plan_of addition) (1 ∷ 4 ∷ []) inputs3 (2 ∷ 0 ∷ 2 ∷ 0 ∷ []) coins3 ≡ 0 ∷ 0 ∷ 0 ∷ 2 ∷ 2 ∷ 4 ∷ 3 ∷ 2 ∷ []
  pub r3_other_coins : matched_coins (plan_of addition) (1 ∷ 4 ∷ []) inputs3 (2 ∷ 2 ∷ 0 ∷ 0 ∷ []) coins3 ≡ 0 ∷ 0 ∷ 0 ∷ 0 ∷ 2 ∷ 1 ∷ 3 ∷ 2 ∷ []
  pub r3-view :
      view (plan_of addition) (1 ∷ 4 ∷ []) (2 ∷ 0 ∷ 2 ∷ 0 ∷ []) (0 ∷ 0 ∷ 0 ∷ 2 ∷ 2 ∷ 4 ∷ 3 ∷ 2 ∷ []) [] ≡ view (plan_of addition) (1 ∷ 4 ∷ []) inputs3 coins3 []
  -- points: K over 101 with the points 7, 40, 3, its run and its matching for party 3; 26 for 0, for p and for a point that stands twice
  pub r4_passes : code_of (plan_check (pointed 7 40 3)) ≡ 0
  pub r4-weights : weights 101 0 Codes.points ≡ 45 ∷ 36 ∷ 21 ∷ []
  pub r4_shares :
      map (λ w. map (wire_at (share_table Codes inputs1 coins1 []) w) Codes.points) (0 ∷ 1 ∷ 2 ∷ 3 ∷ [])
      ≡ (18 ∷ 84 ∷ 10 ∷ []) ∷ (26 ∷ 24 ∷ 14 ∷ []) ∷ (99 ∷ 53 ∷ 25 ∷ []) ∷ (16 ∷ 36 ∷ 35 ∷ []) ∷ []
  pub r4_result : results Codes inputs1 coins1 [] 3 ≡ 24 ∷ []
  pub r4-view : view Codes (3 ∷ []) inputs1 coins1 [] ≡ 7 ∷ 10 ∷ 14 ∷ 67 ∷ 11 ∷ 60 ∷ 16 ∷ 36 ∷ 35 ∷ 24 ∷ []
  pub r4-delta : delta 101 (map (point_of Codes) (3 ∷ [])) ≡ 1 ∷ 67 ∷ []
  pub r4_coins : matched_coins Codes (3 ∷ []) inputs1 (8 ∷ 2 ∷ []) coins1 ≡ 68 ∷ 4 ∷ 64 ∷ 17 ∷ 7 ∷ []
  pub r4-matched : view Codes (3 ∷ []) (8 ∷ 2 ∷ []) (68 ∷ 4 ∷ 64 ∷ 17 ∷ 7 ∷ []) [] ≡ view Codes (3 ∷ []) inputs1 coins1 []
  pub r4-zero : code_of (plan_check (pointed 7 0 3)) ≡ 26
  pub r4_prime : code_of (plan_check (pointed 7 40 101)) ≡ 26
  pub r4_twice : code_of (plan_check (pointed 7 40 7)) ≡ 26
  -- openings: seat 3's last call in P1's run, its shares 10 7 4 as they came and with the last wrong; and three openings of five shares, of which the
  -- second breaks at seats 4 and 5, the third at seat 3
  pub r9_right : last_call_of (10 ∷ 7 ∷ 4 ∷ []) ≡ 0
  pub r9_seat : last_call_of (10 ∷ 7 ∷ 5 ∷ []) ≡ 20 + 256 * 3
  pub r9_first :
      code_of
      (first_of (map (on_polynomial 11 1 (1 ∷ 2 ∷ 3 ∷ 4 ∷ 5 ∷ [])) ((10 ∷ 7 ∷ 4 ∷ 1 ∷ 9 ∷ []) ∷ (10 ∷ 7 ∷ 4 ∷ 0 ∷ 0 ∷ []) ∷ (10 ∷ 7 ∷ 5 ∷ 1 ∷ 9 ∷ []) ∷ [])))
      ≡ 20 + 256 * 4
  -- the premises of demands 2 and 3 are met, for the set {3}
  pub bytes_met : all_below 256 (like_k 3 1 11 0) ≡ true
  pub given_met : Given (like_k 3 1 11 0) inputs1 coins1 []
  pub alike_met : Alike (like_k 3 1 11 0) 4 inputs1 inputs5
