-- The demands on lists of numbers: the layer beneath those on lent bytes.
use Rattle.std.specs.Prelude.{Ok, ℕ, ◌*◌, ◌≤◌, ◌≡◌, true, List, replicate}
use Rattle.numbers.specs.Bytes.{width, bytes_of, all_below}
use Rattle.plan.specs.Plans.{party_count, kind_count, last_call, own_inputs, own_coins, triple_numbers, written_count, sent_count}
use Rattle.plan.specs.File.{plan_of}
use Rattle.plan_coalition.specs.Coalitions.{members}
use Rattle.seat_messages.specs.Calls.{call_answer}
use Rattle.run_protocol.specs.Rounds.{call_of, mail_to, after, at_end, results, sent_all}
use Rattle.run_protocol.specs.Ideal.{granted}
use Rattle.run_protocol.specs.Preparing.{prepares}
use Rattle.match_privacy.specs.Bijections.{Private}
use Rattle.match_joint.specs.Joint.{JointlyPrivate}
use Rattle.demands.specs.Demands.{Given, Alike}

-- ---- the run is right
pub record RightRun (bytes xs coins ts : List ℕ) : Type 0 where
  pub accepted :
      (k i : ℕ) → k ≤ last_call (plan_of bytes) → 1 ≤ i → i ≤ party_count (plan_of bytes)
      → (room : ℕ) → room ≡ width * written_count (plan_of bytes) i k
      → call_answer bytes i (bytes_of (own_inputs (plan_of bytes) i xs)) (bytes_of (own_coins (plan_of bytes) i coins))
      (bytes_of (call_of i (after (plan_of bytes) xs coins ts k)).triples)
      (bytes_of (call_of i (after (plan_of bytes) xs coins ts k)).state) (bytes_of (mail_to i (after (plan_of bytes) xs coins ts k))) room
      ≡ Ok tt
  pub correct : (i : ℕ) → 1 ≤ i → i ≤ party_count (plan_of bytes) → results (plan_of bytes) xs coins ts i ≡ granted (plan_of bytes) xs i
  pub sent : sent_all (plan_of bytes) xs coins ts ≡ sent_count (plan_of bytes)
  pub spent :
      (i : ℕ) → 1 ≤ i → i ≤ party_count (plan_of bytes)
      → (call_of i (at_end (plan_of bytes) xs coins ts)).triples ≡ replicate (triple_numbers (plan_of bytes)) 0

abbrev pub RunsRight : Type 0
RunsRight = (bytes xs coins ts : List ℕ) → all_below 256 bytes ≡ true → Given bytes xs coins ts → RightRun bytes xs coins ts

-- ---- the run is private: the matching is a bijection of settings of coins that keeps the members' coins, and the coalition sees the same run; with
-- triples it is one of the joint lists of both runs
pub record RunsPrivate : Type 0 where
  pub alone :
      (bytes : List ℕ) (set : ℕ) (xs ys : List ℕ) → kind_count (plan_of bytes) 7 ≡ 0 → Alike bytes set xs ys
      → Private (plan_of bytes) (members set) xs ys
  pub prepared :
      (prep bytes : List ℕ) (set : ℕ) (xs ys : List ℕ) → prepares (plan_of prep) (plan_of bytes) ≡ true → Alike bytes set xs ys
      → JointlyPrivate (plan_of prep) (plan_of bytes) (members set) xs ys
