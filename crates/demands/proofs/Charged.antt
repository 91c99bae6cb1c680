-- What is claimed of the line charge.
--     shared            a bill's parts, for any list
--     charged_right     the claim
-- Assumes nothing.
use Rattle.std.proofs.Common.{Ok}
use Prim.Native.Nat.{ℕ, ◌≤◌, ◌<◌}
use mathlib.Core.Path.{◌≡◌, refl, ◌∙◌}
use mathlib.Core.List.{List}
use native.Mathlib.Omega.{arith}
use lib.ListN.{length, get_or}
use Rattle.numbers.specs.Tables.{total}
use Rattle.plan.specs.Plans.{sent_count}
use Rattle.plan.specs.File.{plan_check, plan_of}
use Rattle.plan.proofs.Valid.{valid}
use Rattle.seat_messages.specs.Calls.{unless_refused}
use Rattle.charge_laws.specs.Charges.{elements, part_at, parts_of, bill_of, charge_of}
use Rattle.charge_laws.proofs.Totals.{entry-total}
use Rattle.charge_laws.proofs.Parts.{parts-sum, parts_long, part-either, more-greater, more-lower, more-owed, bill_covers, bill_least}
use Rattle.charge_laws.proofs.Elements.{elements-long, elements-sent}
use Rattle.charge_call.specs.ChargeCalls.{charge_after}
use Rattle.demands.specs.Charges.{Shared, Charged, ChargedRight}
use Rattle.demands.proofs.Bounds.{sent-some, bill-few}
use Rattle.demands.proofs.First.{charge_passed}

pub shared : (bill : ℕ) (es : List ℕ) → 1 ≤ total es → Shared bill es (parts_of bill es)
unfolding part_at
shared bill es l = record {
  long = parts_long bill es l;
  sum = parts-sum bill es l;
  part = part-either bill es l;
  owed = more-owed bill es l;
  greatest = more-greater bill es l;
  lower = more-lower bill es l;
}

module _ (bytes : List ℕ) (passes : plan_check bytes ≡ Ok tt) where
  all : total (elements (plan_of bytes)) ≡ sent_count (plan_of bytes)
  all = elements-sent (plan_of bytes) (valid bytes passes)

  some : 1 ≤ total (elements (plan_of bytes))
  some = omega (arith, all, sent-some bytes passes)

  charged : (price : ℕ) → Charged (plan_of bytes) price
  unfolding bill_of charge_of
  charged price = record {
    sent = all;
    covers = bill_covers (sent_count (plan_of bytes)) price;
    least = bill_least (sent_count (plan_of bytes)) price;
    shared = shared (bill_of (plan_of bytes) price) (elements (plan_of bytes)) some;
  }

  whole : (price : ℕ) → price ≤ 1000000 → (i : ℕ) → get_or (charge_of (plan_of bytes) price) i 0 < 4294967296
  unfolding charge_of
  whole price l i =
      let bill : ℕ = bill_of (plan_of bytes) price in
      omega (arith, entry-total (parts_of bill (elements (plan_of bytes))) i, parts-sum bill (elements (plan_of bytes)) some, bill-few bytes passes price l)

pub charged_right : ChargedRight
unfolding charge_after charge_of
charged_right bytes price out e =
    let p = charge_passed bytes price (length out) e in
    record {
      charged = charged bytes p.0 price;
      written = rw e (unfold unless_refused in refl);
      parts = parts_long (bill_of (plan_of bytes) price) (elements (plan_of bytes)) (some bytes p.0) ∙ elements-long (plan_of bytes);
      whole = whole bytes p.0 price p.1;
    }
