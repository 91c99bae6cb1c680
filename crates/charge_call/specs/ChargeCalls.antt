-- The line charge as its caller sees it: the first refusal or none, the bill, and the lent buffer afterwards.
use Rattle.std.specs.Prelude.{Result, Ok, Err, ℕ, ◌*◌, List, [], ◌∷◌, ◌++◌, eqb, leb, length}
use Rattle.numbers.specs.Bytes.{width, bytes_of}
use Rattle.plan.specs.Refusals.{Checked}
use Rattle.plan.specs.declared.Refusal.{Refusal}
use Rattle.plan.specs.declared.Refusal.TheVariants as refusal
use Rattle.plan.specs.Refusals.{first_of, need}
use Rattle.plan.specs.Plans.{party_count}
use Rattle.plan.specs.File.{plan_checks, plan_of}
use Rattle.seat_messages.specs.Calls.{unless_refused}
use Rattle.charge_laws.specs.Charges.{charge_of}

-- 31, then 19: the price of 1,000 elements is at most 1,000,000 cents, and the buffer is a list of a part for each party
unfoldable pub price_checks : List ℕ → ℕ → ℕ → List Checked
price_checks bs price room =
    need refusal.Price (leb price 1000000)
    ∷ need refusal.BufferLength (eqb room (width * party_count (plan_of bs)))
    ∷ []

unfoldable pub charge_answer : List ℕ → ℕ → ℕ → Checked
charge_answer bs price room = first_of (plan_checks bs ++ price_checks bs price room)

-- what the charge answers: the bill in cents, or the first refusal
unfoldable pub charged_of : Checked → ℕ → Result ℕ Refusal
charged_of (Ok tt) bill = Ok bill
charged_of (Err r) bill = Err r

-- the lent buffer afterwards: the parts by party, ascending
unfoldable pub charge_after : List ℕ → ℕ → List ℕ → List ℕ
charge_after bs price out = unless_refused (charge_answer bs price (length out)) (bytes_of (charge_of (plan_of bs) price)) out
