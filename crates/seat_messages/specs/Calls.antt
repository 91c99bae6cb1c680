-- A seat's call as its caller sees it: the first refusal or none, and the lent state, triples and buffer afterwards.
use Rattle.std.specs.Prelude.{Ok, Err, ℕ, suc, ◌+◌, ◌*◌, cond, not, ◌&&◌, eqb, leb, length, drop, get_or}
use mathlib.Core.List.{List, [], ◌∷◌, ◌++◌, flat_map}
use Rattle.numbers.specs.Tables.{tab}
use Rattle.numbers.specs.Bytes.{width, numbers, bytes_of, holds_count, first_over, all_below}
use Rattle.sharing_laws.specs.Sharing.{first_off}
use Rattle.plan.specs.Refusals.{Checked}
use Rattle.plan.specs.declared.Refusal.TheVariants as refusal
use Rattle.plan.specs.Refusals.{first_of, need, unless_found}
use Rattle.plan.specs.Plans.{Plan, party_count, own_input_count, own_coin_count, own_out_count, triple_numbers, last_call, mail_count, written_count}
use Rattle.plan.specs.File.{between, plan_checks, plan_of}
use Rattle.seat_messages.specs.Messages.{Called, call, from_each}

-- refusal 20 of one out: its place is the first party, counted from 1, whose share isn't on the polynomial through those of parties 1 to t + 1
unfoldable pub on_polynomial : ℕ → ℕ → List ℕ → List ℕ → Checked
on_polynomial p t points shares = unless_found (λ i. refusal.OffPolynomial (i + 1)) (first_off p t points shares)

-- refusal 20 of the last call: that of the first of the party's own outs that breaks
unfoldable pub outs_check : Plan → ℕ → List ℕ → Checked
outs_check plan i mail =
    first_of
    (tab (λ j. on_polynomial plan.p plan.t plan.points (from_each (party_count plan) (own_out_count plan i) j mail))
    (own_out_count plan i))

-- refusal 20 of call k
unfoldable pub opening_check : Plan → ℕ → ℕ → List ℕ → Checked
opening_check plan i k mail = cond (eqb k (last_call plan)) (outs_check plan i mail) (Ok tt)

-- refusals 9 to 20 and 29 of party i's call; the lists are lent as bytes, and `room` is the length of the buffer to be written
unfoldable pub party_checks : Plan → ℕ → List ℕ → List ℕ → List ℕ → List ℕ → List ℕ → ℕ → List Checked
party_checks plan i inputs coins triples state mail room =
    need refusal.Coalition (between 1 (party_count plan) i)
    ∷ need refusal.InputCount (holds_count (own_input_count plan i) inputs)
    ∷ unless_found refusal.InputValue (first_over plan.p (numbers inputs))
    ∷ need refusal.CoinCount (holds_count (own_coin_count plan i) coins)
    ∷ unless_found refusal.CoinValue (first_over plan.p (numbers coins))
    ∷ unless_found refusal.CoinValue (first_over plan.p (numbers triples))
    ∷ need refusal.Triples (holds_count (triple_numbers plan) triples)
    ∷ need refusal.StateCount (holds_count (1 + length plan.gates) state)
    ∷ need refusal.StateValue (leb (get_or (numbers state) 0 0) (suc (last_call plan)) && all_below plan.p (drop 1 (numbers state)))
    ∷ need refusal.Finished (not (eqb (get_or (numbers state) 0 0) (suc (last_call plan))))
    ∷ need refusal.MailCount (holds_count (mail_count plan i (get_or (numbers state) 0 0)) mail)
    ∷ unless_found refusal.MailValue (first_over plan.p (numbers mail))
    ∷ need refusal.BufferLength (eqb room (width * written_count plan i (get_or (numbers state) 0 0)))
    ∷ opening_check plan i (get_or (numbers state) 0 0) (numbers mail)
    ∷ []

-- refusals 1 to 8, 25, 26, 9 to 20 and 29
unfoldable pub call_checks : List ℕ → ℕ → List ℕ → List ℕ → List ℕ → List ℕ → List ℕ → ℕ → List Checked
call_checks bs i inputs coins triples state mail room = plan_checks bs ++ party_checks (plan_of bs) i inputs coins triples state mail room

-- the answer of a seat's call
unfoldable pub call_answer : List ℕ → ℕ → List ℕ → List ℕ → List ℕ → List ℕ → List ℕ → ℕ → Checked
call_answer bs i inputs coins triples state mail room = first_of (call_checks bs i inputs coins triples state mail room)

-- what a call writes: its outgoing mail, by receiving party, or its results in the last call
unfoldable pub written : Plan → ℕ → Called → List ℕ
written plan k c = cond (eqb k (last_call plan)) c.results (flat_map (λ l. l) c.sent)

-- a buffer after a call: rewritten where nothing was refused, else as it was
unfoldable pub unless_refused : Checked → List ℕ → List ℕ → List ℕ
unless_refused (Ok tt) new old = new
unless_refused (Err r) new old = old

-- the call on the lists that are lent
unfoldable pub called_on : List ℕ → ℕ → List ℕ → List ℕ → List ℕ → List ℕ → List ℕ → Called
called_on bs i inputs coins triples state mail = call (plan_of bs) i (numbers inputs) (numbers coins) (numbers triples) (numbers state) (numbers mail)

-- the lent state and the lent triples afterwards
unfoldable pub state_after : List ℕ → ℕ → List ℕ → List ℕ → List ℕ → List ℕ → List ℕ → ℕ → List ℕ
state_after bs i inputs coins triples state mail room =
    unless_refused (call_answer bs i inputs coins triples state mail room) (bytes_of (called_on bs i inputs coins triples state mail).state) state

unfoldable pub triples_after : List ℕ → ℕ → List ℕ → List ℕ → List ℕ → List ℕ → List ℕ → ℕ → List ℕ
triples_after bs i inputs coins triples state mail room =
    unless_refused (call_answer bs i inputs coins triples state mail room) (bytes_of (called_on bs i inputs coins triples state mail).triples) triples

-- the lent buffer afterwards
unfoldable pub out_after : List ℕ → ℕ → List ℕ → List ℕ → List ℕ → List ℕ → List ℕ → List ℕ → List ℕ
out_after bs i inputs coins triples state mail out =
    unless_refused (call_answer bs i inputs coins triples state mail (length out))
    (bytes_of (written (plan_of bs) (get_or (numbers state) 0 0) (called_on bs i inputs coins triples state mail))) out
