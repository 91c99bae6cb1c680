-- Parties that don't wait for each other. An order is a list of parties; each is called when all its mail for that call is there.
use Rattle.std.specs.Prelude.{Ok, ℕ, suc, ◌*◌, ◌≤◌, ◌≡◌, true, List, replicate}
use Rattle.numbers.specs.Bytes.{width, bytes_of, all_below}
use Rattle.plan.specs.Plans.{party_count, last_call, own_inputs, own_coins, triple_numbers, written_count}
use Rattle.plan.specs.File.{plan_of}
use Rattle.seat_messages.specs.Calls.{call_answer}
use Rattle.run_protocol.specs.Rounds.{call_of, at_end}
use Rattle.run_protocol.specs.Ideal.{granted}
use Rattle.run_orders.specs.Orders.{Progress, nobody_called, made_by, latest, mail_so_far, ready, all_ready, reached, AnyOrder}
use Rattle.demands.specs.Demands.{Given}

-- what parties called in an order have reached, from fresh states and with triples from a preparing run
pub record Ordered (bytes xs coins ts order : List ℕ) (P : Progress) : Type 0 where
  -- each call takes and leaves what the same call of the run does; the order ends, and goes on while a party is unfinished
  pub as-run : AnyOrder (plan_of bytes) xs coins ts order
  -- the call of a party that can be called is not refused, on the bytes of the triples and of the state that it has and of the mail that is there
  pub accepted :
      (i room : ℕ) → ready (plan_of bytes) i P ≡ true → room ≡ width * written_count (plan_of bytes) i (made_by i P)
      → call_answer bytes i (bytes_of (own_inputs (plan_of bytes) i xs)) (bytes_of (own_coins (plan_of bytes) i coins))
      (bytes_of (latest i P).triples) (bytes_of (latest i P).state) (bytes_of (mail_so_far i (made_by i P) P)) room
      ≡ Ok tt
  -- a party that has finished has the run's shares, which are the bench's, and the results: the plan's own arithmetic; and its triples are spent
  pub shares :
      (i : ℕ) → 1 ≤ i → i ≤ party_count (plan_of bytes) → made_by i P ≡ suc (last_call (plan_of bytes))
      → (latest i P).state ≡ (call_of i (at_end (plan_of bytes) xs coins ts)).state
  pub results :
      (i : ℕ) → 1 ≤ i → i ≤ party_count (plan_of bytes) → made_by i P ≡ suc (last_call (plan_of bytes))
      → (latest i P).results ≡ granted (plan_of bytes) xs i
  pub spent :
      (i : ℕ) → 1 ≤ i → i ≤ party_count (plan_of bytes) → made_by i P ≡ suc (last_call (plan_of bytes))
      → (latest i P).triples ≡ replicate (triple_numbers (plan_of bytes)) 0

abbrev pub InAnyOrder : Type 0
InAnyOrder =
    (bytes xs coins ts order : List ℕ) → all_below 256 bytes ≡ true → Given bytes xs coins ts
    → all_ready (plan_of bytes) xs coins order (nobody_called (plan_of bytes) ts) ≡ true
    → Ordered bytes xs coins ts order (reached (plan_of bytes) xs coins ts order)
