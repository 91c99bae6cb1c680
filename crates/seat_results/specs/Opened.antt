-- A party's own outs opened.
use Rattle.std.specs.Prelude.{◌≡◌, true, List, ℕ, ◌≤◌, length}
use Rattle.numbers.specs.Tables.{tab}
use Rattle.numbers.specs.Bytes.{numbers, all_below}
use Rattle.sharing_laws.specs.Interp.{dot}
use Rattle.plan.specs.declared.Header.{Header}
use Rattle.plan.specs.Plans.{Plan}
use Rattle.seat_messages.specs.Messages.{from_each, opened_at}

-- what the openings of a party's own outs take: the weights of at most n points, and the mail
pub record Openings (h : Header) (weights mail : List ℕ) : Type 0 where
  pub few : h.n ≤ 15
  pub short : length weights ≤ h.n
  pub weights_below : all_below h.field.p weights ≡ true
  pub mail_below : all_below h.field.p (numbers mail) ≡ true

-- the openings of a party's own outs by the weights ws, when there are `own` of them and n parties
unfoldable pub opened_by : ℕ → List ℕ → ℕ → ℕ → List ℕ → List ℕ
opened_by p ws n own mail = tab (λ j. dot p ws (from_each n own j mail)) own

-- the openings of a party's own outs, when there are `own` of them
unfoldable pub opened_outs : Plan → ℕ → List ℕ → List ℕ
opened_outs plan own mail = tab (λ j. opened_at plan own j mail) own
