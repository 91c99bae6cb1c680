-- Every order of allowed calls ends as the run does.
--     in_any_order            the statement
-- Assumes nothing.
use Rattle.std.proofs.Common.{Ok}
use mathlib.Core.Path.{◌≡◌, ap, ap₂, ◌∙◌}
use mathlib.Core.Bool.{true}
use mathlib.Core.List.{List}
use Prim.Native.Nat.{ℕ, suc, ◌*◌, ◌≤◌}
use native.Mathlib.Omega.{arith}
use Rattle.numbers.specs.Bytes.{width, bytes_of, all_below}
use Rattle.plan.specs.Plans.{Plan, party_count, last_call, own_inputs, own_coins, written_count}
use Rattle.plan.specs.File.{plan_of}
use Rattle.plan.proofs.Valid.{valid}
use Rattle.seat_messages.specs.Messages.{Called}
use Rattle.seat_messages.specs.Calls.{call_answer}
use Rattle.run_protocol.specs.Rounds.{call_of, after, at_end, results}
use Rattle.run_orders.specs.Orders.{Progress, nobody_called, made_by, latest, mail_so_far, ready, all_ready, reached, AnyOrder}
use Rattle.run_orders.proofs.AnyOrder.{Ready, is-ready, any_order}
use Rattle.demands.specs.Demands.{Given}
use Rattle.demands.specs.Orders.{Ordered, InAnyOrder}
use Rattle.demands.proofs.Second.{spent_at, runs_right}

module _ (bytes xs coins ts order : List ℕ) (is-bytes : all_below 256 bytes ≡ true) (given : Given bytes xs coins ts)
    (allowed : all_ready (plan_of bytes) xs coins order (nobody_called (plan_of bytes) ts) ≡ true) where
  abbrev plan : Plan
  plan = plan_of bytes

  abbrev P : Progress
  P = reached plan xs coins ts order

  run : AnyOrder plan xs coins ts order
  run = any_order plan (valid bytes given.passes) xs coins ts order allowed

  -- what a party's latest call has left is the run's
  latest-is : (i : ℕ) → 1 ≤ i → i ≤ party_count plan → latest i P ≡ call_of i (after plan xs coins ts (made_by i P))
  unfolding latest
  latest-is i from1 upto = run.same i (made_by i P) from1 upto (omega arith)

  finished : (i : ℕ) → 1 ≤ i → i ≤ party_count plan → made_by i P ≡ suc (last_call plan) → latest i P ≡ call_of i (at_end plan xs coins ts)
  unfolding at_end
  finished i from1 upto e = latest-is i from1 upto ∙ ap (λ (k : ℕ). call_of i (after plan xs coins ts k)) e

  accepted-by :
      (i room : ℕ) → Ready plan i P → ready plan i P ≡ true → room ≡ width * written_count plan i (made_by i P)
      → call_answer bytes i (bytes_of (own_inputs plan i xs)) (bytes_of (own_coins plan i coins)) (bytes_of (latest i P).triples) (bytes_of (latest i P).state) (bytes_of (mail_so_far i (made_by i P) P)) room
      ≡ Ok tt
  accepted-by i room r can fits =
      ap₂ (λ (c : Called) (mail : List ℕ). call_answer bytes i (bytes_of (own_inputs plan i xs)) (bytes_of (own_coins plan i coins)) (bytes_of c.triples) (bytes_of c.state) (bytes_of mail) room)
      (latest-is i r.from1 r.upto) (run.takes i can)
      ∙ (runs_right bytes xs coins ts is-bytes given).accepted (made_by i P) i r.unfinished r.from1 r.upto room fits

  ordered : Ordered bytes xs coins ts order P
  unfolding results
  ordered =
      record {
        as-run = run;
        accepted = λ i room can fits. accepted-by i room (is-ready plan i P can) can fits;
        shares = λ i from1 upto e. ap (λ (c : Called). c.state) (finished i from1 upto e);
        results = λ i from1 upto e. ap (λ (c : Called). c.results) (finished i from1 upto e) ∙ (runs_right bytes xs coins ts is-bytes given).correct i from1 upto;
        spent = λ i from1 upto e. ap (λ (c : Called). c.triples) (finished i from1 upto e) ∙ spent_at bytes xs coins ts given i from1 upto;
      }

pub in_any_order : InAnyOrder
in_any_order bytes xs coins ts order is-bytes given allowed = ordered bytes xs coins ts order is-bytes given allowed
