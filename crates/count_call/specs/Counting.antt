-- What the code of the call that counts views asks and answers on the way. No demand cites these.
use Rattle.std.specs.Prelude.{ℕ, ◌*◌, ◌≤◌, ◌≡◌, true, cond, List, length}
use Rattle.numbers.specs.Bytes.{width, numbers, all_below}
use Rattle.plan.specs.Plans.{Plan, input_count}
use Rattle.plan_coalition.specs.Coalitions.{set_ok}
use Rattle.count_laws.specs.Settings.{setting_count}
use Rattle.count_laws.specs.CountCalls.{settings_ok}

-- the settings that are counted; 65,537 where refusal 30 falls
unfoldable pub counted_settings : Plan → ℕ → ℕ
counted_settings plan set = cond (settings_ok plan set) (setting_count plan set) 65537

-- what a call that no refusal falls on is given
pub record Countable (plan : Plan) (set : ℕ) (inputs given : List ℕ) : Type 0 where
  pub fits : set_ok plan set ≡ true
  pub inputs_count : length inputs ≡ width * input_count plan
  pub inputs_below : all_below plan.p (numbers inputs) ≡ true
  pub given_below : all_below plan.p (numbers given) ≡ true
  pub counted : settings_ok plan set ≡ true
  pub few : setting_count plan set ≤ 65536
