-- Refusals 9 to 20 and 29 in parts: one list of checks for each thing that a call takes.
use Rattle.std.specs.Prelude.{ℕ, suc, ◌+◌, ◌*◌, not, ◌&&◌, List, [], ◌∷◌, ◌++◌, eqb, leb, drop, get_or}
use Rattle.numbers.specs.Bytes.{width, numbers, holds_count, first_over, all_below}
use Rattle.plan.specs.Refusals.{Checked}
use Rattle.plan.specs.declared.Refusal.{Refusal}
use Rattle.plan.specs.declared.Refusal.TheVariants as refusal
use Rattle.plan.specs.Refusals.{need, unless_found}
use Rattle.plan.specs.Plans.{Plan, party_count, own_input_count, own_coin_count, triple_numbers, mail_count, written_count}
use Rattle.plan.specs.File.{between}
use Rattle.seat_messages.specs.Messages.{from_each}
use Rattle.seat_messages.specs.Calls.{on_polynomial, opening_check}

-- the checks of a lent list: its count, then the first of its numbers that isn't below p
unfoldable pub list_checks : Refusal → (ℕ → Refusal) → ℕ → ℕ → List ℕ → List Checked
list_checks few over p count bs = need few (holds_count count bs) ∷ unless_found over (first_over p (numbers bs)) ∷ []

-- refusals 13 and 29 of lent triples: the first of their numbers that isn't below p, then their count
unfoldable pub triple_checks : ℕ → ℕ → List ℕ → List Checked
triple_checks p count bs = unless_found refusal.CoinValue (first_over p (numbers bs)) ∷ need refusal.Triples (holds_count count bs) ∷ []

-- refusals 9 to 13 and 29
unfoldable pub own_checks : Plan → ℕ → List ℕ → List ℕ → List ℕ → List Checked
own_checks plan i inputs coins triples =
    need refusal.Coalition (between 1 (party_count plan) i)
    ∷ list_checks refusal.InputCount refusal.InputValue plan.p (own_input_count plan i) inputs
    ++ (list_checks refusal.CoinCount refusal.CoinValue plan.p (own_coin_count plan i) coins
    ++ triple_checks plan.p (triple_numbers plan) triples)

-- refusals 14 to 16 for a plan of so many gates, with this last call
unfoldable pub state_checks : ℕ → ℕ → ℕ → List ℕ → List Checked
state_checks p gates last state =
    need refusal.StateCount (holds_count (1 + gates) state)
    ∷ need refusal.StateValue (leb (get_or (numbers state) 0 0) (suc last) && all_below p (drop 1 (numbers state)))
    ∷ need refusal.Finished (not (eqb (get_or (numbers state) 0 0) (suc last)))
    ∷ []

-- refusals 17 to 20
unfoldable pub mail_checks : Plan → ℕ → ℕ → List ℕ → ℕ → List Checked
mail_checks plan i k mail room =
    list_checks refusal.MailCount refusal.MailValue plan.p (mail_count plan i k) mail
    ++ need refusal.BufferLength (eqb room (width * written_count plan i k))
    ∷ opening_check plan i k (numbers mail)
    ∷ []

-- refusal 20 of a party's own out j
unfoldable pub out_check : Plan → ℕ → List ℕ → ℕ → Checked
out_check plan own mail j = on_polynomial plan.p plan.t plan.points (from_each (party_count plan) own j mail)
