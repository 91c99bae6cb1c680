-- What is claimed of counting the views: "how many settings of the others' coins lead to each view. [..] Views reached stand
-- ascending, compared from their first number; rows left over are 0. For a set of exactly t members, under the version 1 to 3 multiply rule, no view has
-- two settings, and the number of views is p to the power e, where e is t times the count of non-members' dealings." And worked lists, as one table.
use Rattle.std.specs.Prelude.{Ok, ℕ, ◌+◌, ◌*◌, ◌^◌, ◌<◌, ◌≡◌, true, List, [], ◌∷◌, length, get_or, replicate}
use Rattle.numbers.specs.Bytes.{numbers, bytes_of, all_below}
use Rattle.plan.specs.declared.Rule.TheVariants.{Reduction}
use Rattle.plan.specs.Refusals.{code_of}
use Rattle.plan.specs.Plans.{Plan, kind_count}
use Rattle.plan.specs.File.{plan_check, plan_of}
use Rattle.run_protocol.specs.Settings.{Coins}
use Rattle.count_laws.specs.Settings.{setting_count, setting_coins, held_coins, views_of, other_dealings}
use Rattle.count_laws.specs.Rows.{rows_of, listed, counts_of, no_row, Tallied}
use Rattle.count_laws.specs.CountCalls.{row_width, view_list, count_size, count_answer, count_after, count_size_answer}
use Rattle.count_once.specs.Exact.{Exactly}
use Rattle.demands.specs.Sums.{like_k, single}

-- ---- the settings are exactly the lists of coins of a run in which the members have the coins that are given, each once
pub record Settings (plan : Plan) (set : ℕ) (given : List ℕ) : Type 0 where
  pub coins : (k : ℕ) → k < setting_count plan set → Coins plan (setting_coins plan set given k) × (held_coins plan set (setting_coins plan set given k) ≡ given)
  pub apart : (j k : ℕ) → j < setting_count plan set → k < setting_count plan set → setting_coins plan set given j ≡ setting_coins plan set given k → j ≡ k
  pub all : (c : List ℕ) → Coins plan c → held_coins plan set c ≡ given → (k : ℕ) × (k < setting_count plan set) × (setting_coins plan set given k ≡ c)

-- ---- for all lent bytes, where the call refuses nothing: the list has a row for each view of a setting, once, ascending, with the number of settings
-- that lead to it; the counts add up to the settings, and rows left over are 0
pub record Counted (bytes : List ℕ) (set : ℕ) (figures coins out : List ℕ) : Type 0 where
  pub settings : Settings (plan_of bytes) set (numbers coins)
  pub rows : Tallied (views_of (plan_of bytes) set (numbers figures) (numbers coins))
  pub sum : counts_of (rows_of (views_of (plan_of bytes) set (numbers figures) (numbers coins))) ≡ setting_count (plan_of bytes) set
  pub list :
      count_after bytes set figures coins out
      ≡ bytes_of (listed (setting_count (plan_of bytes) set) (row_width (plan_of bytes) set) (rows_of (views_of (plan_of bytes) set (numbers figures) (numbers coins))))

abbrev pub ViewsCounted : Type 0
ViewsCounted =
    (bytes : List ℕ) (set : ℕ) (figures coins out : List ℕ) → count_answer bytes set figures coins (length out) ≡ Ok tt → Counted bytes set figures coins out

-- ---- exactly t members, under the rule of versions 1 to 3: no view has two settings, and there are p to the power e views; a plan that spends triples
-- is not counted
pub record Once (plan : Plan) (set : ℕ) (xs given : List ℕ) : Type 0 where
  pub ones : (i : ℕ) → i < length (rows_of (views_of plan set xs given)) → (get_or (rows_of (views_of plan set xs given)) i no_row).count ≡ 1
  pub views : length (rows_of (views_of plan set xs given)) ≡ plan.p ^ (plan.t * other_dealings plan set)

abbrev pub ViewsOnce : Type 0
ViewsOnce =
    (bytes : List ℕ) (set : ℕ) (xs given : List ℕ) → plan_check bytes ≡ Ok tt → (plan_of bytes).rule ≡ Reduction
    → kind_count (plan_of bytes) 7 ≡ 0 → Exactly (plan_of bytes) set → all_below (plan_of bytes).p given ≡ true
    → Once (plan_of bytes) set xs given

-- ---- worked lists: n = 2, t = 1, the inputs of parties 1 and 2 added, one out for party 1; and the two bytes of p
unfoldable pub tiny : ℕ → ℕ → List ℕ
tiny low high =
    80 ∷ 79 ∷ 79 ∷ 76 ∷ 1 ∷ 2 ∷ 1 ∷ 0 ∷ low ∷ high ∷ 18 ∷ 0 ∷ 3 ∷ 0 ∷ 36 ∷ 0 ∷ 1 ∷ 0
    ∷ 1 ∷ 0 ∷ 1 ∷ 0 ∷ 0 ∷ 0
    ∷ 1 ∷ 0 ∷ 2 ∷ 0 ∷ 0 ∷ 0
    ∷ 2 ∷ 0 ∷ 0 ∷ 0 ∷ 1 ∷ 0
    ∷ 1 ∷ 2 ∷ 0
    ∷ []

unfoldable pub count_for : ℕ → List ℕ → List ℕ → ℕ → ℕ
count_for set figures coins room = code_of (count_answer (tiny 3 0) set (bytes_of figures) (bytes_of coins) room)

pub record ViewSums : Type 0 where
  -- set {2}, figures 1 2, coin 1
  pub after :
      count_after (tiny 3 0) 2 (bytes_of (1 ∷ 2 ∷ [])) (bytes_of (1 ∷ [])) (replicate 60 9)
      ≡ bytes_of (2 ∷ 1 ∷ 0 ∷ 1 ∷ 1 ∷ 2 ∷ 1 ∷ 1 ∷ 1 ∷ 1 ∷ 2 ∷ 1 ∷ 2 ∷ 1 ∷ 1 ∷ [])
  pub counts : count_for 2 (1 ∷ 2 ∷ []) (1 ∷ []) 60 ≡ 0
  -- nobody sees anything: one view, which all nine settings lead to, and eight rows left over
  pub nobody : view_list (plan_of (tiny 3 0)) 0 (1 ∷ 2 ∷ []) [] ≡ 9 ∷ 0 ∷ 0 ∷ 0 ∷ 0 ∷ 0 ∷ 0 ∷ 0 ∷ 0 ∷ []
  -- t = 0: one setting, one row
  pub alone : view_list (plan_of single) 0 (1 ∷ []) [] ≡ 1 ∷ []
  pub both : count_for 3 (1 ∷ 2 ∷ []) (1 ∷ 1 ∷ []) 60 ≡ 9
  pub figures : count_for 2 (1 ∷ []) (1 ∷ []) 60 ≡ 10
  pub figure : count_for 2 (1 ∷ 3 ∷ []) (1 ∷ []) 60 ≡ 256 * 1 + 11
  pub coins_of_all : count_for 2 (1 ∷ 2 ∷ []) (1 ∷ 1 ∷ []) 60 ≡ 12
  pub coin : count_for 2 (1 ∷ 2 ∷ []) (3 ∷ []) 60 ≡ 13
  pub room : count_for 2 (1 ∷ 2 ∷ []) (1 ∷ []) 64 ≡ 19
  -- 63,001 settings and 66,049; 161,051 for nobody's view of K; 30 before 19
  pub most : code_of (count_size_answer (tiny 251 0) 0) ≡ 0
  pub most_bytes : count_size (plan_of (tiny 251 0)) 0 ≡ 252004
  pub too_many : code_of (count_size_answer (tiny 1 1) 0) ≡ 30
  pub too_many_first : code_of (count_answer (like_k 3 1 11 0) 0 (bytes_of (4 ∷ 5 ∷ [])) [] 0) ≡ 30
