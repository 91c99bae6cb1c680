-- A set of exactly t members.
use Rattle.std.specs.Prelude.{ℕ, ◌≤◌, ◌≡◌, true, length}
use Rattle.plan.specs.Plans.{Plan}
use Rattle.plan_coalition.specs.Coalitions.{members, set_ok}

pub record Exactly (plan : Plan) (set : ℕ) : Type 0 where
  pub fits : set_ok plan set ≡ true
  pub count : length (members set) ≡ plan.t
