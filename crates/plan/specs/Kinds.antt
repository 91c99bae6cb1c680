-- What the gates of a kind bring, by the plan's rule, for the code alone.
use Rattle.std.specs.Prelude.{ℕ, ◌*◌, cond}
use Rattle.plan.specs.declared.Rule.{Rule}
use Rattle.plan.specs.declared.Rule.TheVariants.{Reduction, Truncation}
use Rattle.plan.specs.Plans.{Plan, party_count, dealer_count}
use Rattle.plan.specs.File.{between}

-- the coins of a multiply gate, all and party i's, and its rounds
unfoldable pub multiply_coins : Plan → Rule → ℕ
multiply_coins plan Reduction = plan.t * dealer_count plan
multiply_coins plan Truncation = 3 * plan.t * party_count plan

unfoldable pub own_multiply_coins : Plan → Rule → ℕ → ℕ
own_multiply_coins plan Reduction i = cond (between 1 (dealer_count plan) i) plan.t 0
own_multiply_coins plan Truncation i = cond (between 1 (party_count plan) i) (3 * plan.t) 0

unfoldable pub multiply_rounds : Rule → ℕ
multiply_rounds Reduction = 1
multiply_rounds Truncation = 3

-- party i's draws and coins at a random wire
unfoldable pub own_draws : Plan → ℕ → ℕ
own_draws plan i = cond (between 1 (party_count plan) i) 1 0

unfoldable pub own_random_coins : Plan → ℕ → ℕ
own_random_coins plan i = cond (between 1 (party_count plan) i) plan.t 0
