-- What is private: a bijection of settings of coins under which a coalition sees the same.
use Rattle.std.specs.Prelude.{ℕ, ◌≡◌, List, [], map}
use Rattle.plan.specs.Plans.{Plan, coin_count, own_coins}
use Rattle.run_protocol.specs.Rounds.{view}
use Rattle.run_protocol.specs.Settings.{Full}
use Rattle.match_privacy.specs.Matching.{matched_coins}

-- f is a bijection of the lists of k numbers below p, keeps what members hold of them, and the coalition sees the same
pub record Bijection (p k : ℕ) (f : List ℕ → List ℕ) (held : List ℕ → List (List ℕ)) (seen seen' : List ℕ → List ℕ) : Type 0 where
  pub full : (c : List ℕ) → Full p k c → Full p k (f c)
  pub keeps : (c : List ℕ) → Full p k c → held (f c) ≡ held c
  pub one_to_one : (c d : List ℕ) → Full p k c → Full p k d → f c ≡ f d → c ≡ d
  pub onto : (d : List ℕ) → Full p k d → (c : List ℕ) × Full p k c × (f c ≡ d)
  pub same_view : (c : List ℕ) → Full p k c → seen c ≡ seen' (f c)

-- a plan that spends no triple, matched alone
abbrev pub Private : Plan → List ℕ → List ℕ → List ℕ → Type 0
Private plan ms xs ys =
    Bijection plan.p (coin_count plan) (matched_coins plan ms xs ys)
    (λ c. map (λ i. own_coins plan i c) ms)
    (λ c. view plan ms xs c [])
    (λ c. view plan ms ys c [])
