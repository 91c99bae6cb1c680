-- A coalition (a set of plants) is a 16-bit number: bit i - 1 stands for party i.
use Rattle.std.specs.Prelude.{ℕ, zero, suc, ◌-◌, ◌/◌, ◌%◌, ◌^◌, Bool, cond, ◌&&◌, List, [], ◌∷◌, eqb, leb, ltb, length}
use Rattle.plan.specs.Plans.{Plan, party_count}

unfoldable pub in_set : ℕ → ℕ → Bool
in_set set i = eqb (set / 2 ^ (i - 1) % 2) 1

-- of the k parties i, i + 1, .. the members
unfoldable pub members_from : ℕ → ℕ → ℕ → List ℕ
members_from set i zero = []
members_from set i (suc k) = cond (in_set set i) (i ∷ members_from set (suc i) k) (members_from set (suc i) k)

-- the members, ascending
unfoldable pub members : ℕ → List ℕ
members set = members_from set 1 16

-- the set names no party above n and has at most t members
abbrev pub set_fits : ℕ → ℕ → ℕ → Bool
set_fits n t set = ltb set (2 ^ n) && leb (length (members set)) t

unfoldable pub set_ok : Plan → ℕ → Bool
set_ok plan set = set_fits (party_count plan) plan.t set
