-- The parts of a plant's reader.
use Rattle.std.specs.Prelude.{ℕ, ◌*◌, ◌≤◌, List, [], ◌∷◌, eqb, length}
use Rattle.plan.specs.Refusals.{Checked}
use Rattle.plan.specs.declared.Refusal.TheVariants as refusal
use Rattle.plan.specs.Refusals.{need}
use Rattle.plan.specs.Plans.{Plan, party_count}
use Rattle.plan.specs.File.{between}
use Rattle.record_laws.specs.Records.{body_size, record_ok}

-- its checks after those of the plan: refusals 28, 9 and 19
unfoldable pub seat_checks : Plan → List ℕ → ℕ → ℕ → List Checked
seat_checks plan r i room =
    need refusal.Record (record_ok plan r)
    ∷ need refusal.Coalition (between 1 (party_count plan) i)
    ∷ need refusal.BufferLength (eqb room (body_size plan i))
    ∷ []

-- the contents of party i stand in a record
pub record Listed (r : List ℕ) (i : ℕ) : Type 0 where
  pub low : 1 ≤ i
  pub high : 8 * i ≤ length r
