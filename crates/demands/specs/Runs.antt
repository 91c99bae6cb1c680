-- Worked runs of plans that later rules brought, as one table: plan K with a random wire in place of its second input, and K as a file of version 4.
use Rattle.std.specs.Prelude.{ℕ, ◌≡◌, List, [], ◌∷◌, map}
use Rattle.sharing_laws.specs.Basis.{row}
use Rattle.plan.specs.declared.Gate.TheVariants.{Input, Add, Multiply, Random}
use Rattle.plan.specs.declared.Rule.TheVariants.{Reduction}
use Rattle.plan.specs.Plans.{Plan, last_call, sent_count}
use Rattle.plan.specs.Refusals.{code_of}
use Rattle.plan.specs.File.{plan_check, plan_of}
use Rattle.run_protocol.specs.Rounds.{results, view}
use Rattle.run_protocol.specs.Shares.{wire_at, share_table}
use Rattle.match_privacy.specs.Matching.{matched_coins}

-- ---- input 1, a random wire, multiply 0 1, add 2 0; one out: party 3, wire 3
unfoldable pub Spot : Plan
Spot =
    record {
      t = 1;
      p = 11;
      points = 1 ∷ 2 ∷ 3 ∷ [];
      gates = Input 1 ∷ Random ∷ Multiply 0 1 ∷ Add 2 0 ∷ [];
      outs = record { party = 3; wire = 3 } ∷ [];
      rule = Reduction;
    }

-- party 1's figure and the three draws; the input's coin, the draws' and the product's
abbrev pub inputs10 : List ℕ
inputs10 = 4 ∷ 1 ∷ 2 ∷ 3 ∷ []

abbrev pub coins10 : List ℕ
coins10 = 2 ∷ 3 ∷ 4 ∷ 5 ∷ 1 ∷ 5 ∷ 7 ∷ []

-- another figure and other draws of parties 1 and 2, which grant party 3 the same
abbrev pub others10 : List ℕ
others10 = 1 ∷ 1 ∷ 1 ∷ 3 ∷ []

-- ---- K's file of version 4
unfoldable pub fourth : List ℕ
fourth =
    80 ∷ 79 ∷ 79 ∷ 76 ∷ 4 ∷ 3 ∷ 1 ∷ 0
    ∷ 11 ∷ 0 ∷ 0 ∷ 0 ∷ 32 ∷ 0 ∷ 0 ∷ 0 ∷ 4 ∷ 0 ∷ 0 ∷ 0 ∷ 72 ∷ 0 ∷ 0 ∷ 0 ∷ 1 ∷ 0 ∷ 0 ∷ 0 ∷ 75 ∷ 0 ∷ 0 ∷ 0
    ∷ 1 ∷ 0 ∷ 1 ∷ 0 ∷ 0 ∷ 0 ∷ 0 ∷ 0 ∷ 0 ∷ 0
    ∷ 1 ∷ 0 ∷ 2 ∷ 0 ∷ 0 ∷ 0 ∷ 0 ∷ 0 ∷ 0 ∷ 0
    ∷ 5 ∷ 0 ∷ 0 ∷ 0 ∷ 0 ∷ 0 ∷ 1 ∷ 0 ∷ 0 ∷ 0
    ∷ 2 ∷ 0 ∷ 2 ∷ 0 ∷ 0 ∷ 0 ∷ 0 ∷ 0 ∷ 0 ∷ 0
    ∷ 3 ∷ 3 ∷ 0
    ∷ 1 ∷ 0 ∷ 0 ∷ 0 ∷ 2 ∷ 0 ∷ 0 ∷ 0 ∷ 3 ∷ 0 ∷ 0 ∷ 0
    ∷ []

unfoldable pub K4 : Plan
K4 = plan_of fourth

abbrev pub inputs7 : List ℕ
inputs7 = 4 ∷ 5 ∷ []

-- the inputs' coins; the product's, party by party: two of a dealing of 0, one of a masked share
abbrev pub coins7 : List ℕ
coins7 = 2 ∷ 3 ∷ 1 ∷ 2 ∷ 3 ∷ 4 ∷ 5 ∷ 6 ∷ 7 ∷ 8 ∷ 9 ∷ []

abbrev pub others7 : List ℕ
others7 = 1 ∷ 1 ∷ []

abbrev pub matched7 : List ℕ
matched7 = 3 ∷ 8 ∷ 0 ∷ 6 ∷ 6 ∷ 4 ∷ 5 ∷ 2 ∷ 7 ∷ 8 ∷ 9 ∷ []

-- the shares of these wires
unfoldable pub shares_in : Plan → List ℕ → List ℕ → List ℕ → List (List ℕ)
shares_in plan xs coins ws = map (λ w. map (wire_at (share_table plan xs coins []) w) plan.points) ws

pub record RunSums : Type 0 where
  pub random_shares : shares_in Spot inputs10 coins10 (1 ∷ 2 ∷ 3 ∷ []) ≡ (7 ∷ 8 ∷ 9 ∷ []) ∷ (8 ∷ 3 ∷ 9 ∷ []) ∷ (3 ∷ 0 ∷ 8 ∷ []) ∷ []
  pub random_result : results Spot inputs10 coins10 [] 3 ≡ 6 ∷ []
  pub random_view : view Spot (3 ∷ []) inputs10 coins10 [] ≡ 3 ∷ 5 ∷ 7 ∷ 10 ∷ 10 ∷ 3 ∷ 7 ∷ 1 ∷ 2 ∷ 1 ∷ 3 ∷ 0 ∷ 8 ∷ 6 ∷ []
  pub random_calls : last_call Spot ≡ 4
  pub random_sent : sent_count Spot ≡ 24
  -- the draws of the set's members stay, others may change
  pub random_coins : matched_coins Spot (3 ∷ []) inputs10 others10 coins10 ≡ 3 ∷ 3 ∷ 8 ∷ 5 ∷ 9 ∷ 6 ∷ 7 ∷ []
  pub random_matched : view Spot (3 ∷ []) others10 (3 ∷ 3 ∷ 8 ∷ 5 ∷ 9 ∷ 6 ∷ 7 ∷ []) [] ≡ view Spot (3 ∷ []) inputs10 coins10 []
  -- the file passes; the rows of the matrix that cuts coefficients off, and the run
  pub fourth_passes : code_of (plan_check fourth) ≡ 0
  pub fourth_rows : map (row 11 1 (1 ∷ 2 ∷ 3 ∷ [])) (1 ∷ 2 ∷ 3 ∷ []) ≡ (6 ∷ 1 ∷ 5 ∷ []) ∷ (9 ∷ 5 ∷ 9 ∷ []) ∷ (1 ∷ 9 ∷ 2 ∷ []) ∷ []
  pub fourth_shares : shares_in K4 inputs7 coins7 (2 ∷ 3 ∷ []) ≡ (10 ∷ 0 ∷ 1 ∷ []) ∷ (5 ∷ 8 ∷ 0 ∷ []) ∷ []
  pub fourth_result : results K4 inputs7 coins7 [] 3 ≡ 2 ∷ []
  pub fourth_calls : last_call K4 ≡ 5
  pub fourth_sent : sent_count K4 ≡ 36
  pub fourth_view :
      view K4 (3 ∷ []) inputs7 coins7 []
      ≡ 7 ∷ 8 ∷ 9 ∷ 10 ∷ 3 ∷ 10 ∷ 2 ∷ 5 ∷ 7 ∷ 3 ∷ 8 ∷ 10 ∷ 8 ∷ 6 ∷ 5 ∷ 8 ∷ 0 ∷ 2 ∷ []
  pub fourth_coins : matched_coins K4 (3 ∷ []) inputs7 others7 coins7 ≡ matched7
  pub fourth_matched : view K4 (3 ∷ []) others7 matched7 [] ≡ view K4 (3 ∷ []) inputs7 coins7 []
