-- Parties run apart: each call on the bytes that its caller lends, and as mail the parts that all parties' calls before wrote for it.
use Rattle.std.specs.Prelude.{Ok, ℕ, zero, suc, ◌+◌, ◌-◌, ◌*◌, cond, leb, length, take, drop, get_or, replicate}
use mathlib.Core.List.{List, [], ◌∷◌, ◌++◌, map, flat_map}
use Rattle.numbers.specs.Tables.{tab}
use Rattle.numbers.specs.Bytes.{width, bytes_of}
use Rattle.plan.specs.declared.Step.{Step}
use Rattle.plan.specs.declared.Step.TheVariants.{DealInputs, DealProduct, OpenSpent, SendOuts}
use Rattle.plan.specs.Refusals.{Checked}
use Rattle.plan.specs.Plans.{Plan, parties, dealer_count, input_wires, own_out_count, own_inputs, own_coins, own_triples, step_at, last_call}
use Rattle.plan.specs.File.{plan_of}
use Rattle.seat_messages.specs.Calls.{call_answer, state_after, triples_after, out_after}

-- ---- mail carried by hand (include/pool.h: of what a call sends each party gets a part, one after the other)
-- the numbers of what party j sends in a step that go to party i, and of what its call number k sends
unfoldable pub part_in : Plan → ℕ → Step → ℕ → ℕ
part_in plan j DealInputs i = length (input_wires plan j)
part_in plan j (DealProduct g a b) i = cond (leb j (dealer_count plan)) 1 0
part_in plan j (OpenSpent g a b) i = 2
part_in plan j SendOuts i = own_out_count plan i
part_in plan j _ i = 1

unfoldable pub part_count : Plan → ℕ → ℕ → ℕ → ℕ
part_count plan j k i = part_in plan j (step_at plan k) i

-- of bytes with a part for party i, one for party i + 1 and so on: the part r parties on
unfoldable pub part_from : (ℕ → ℕ) → ℕ → ℕ → List ℕ → List ℕ
part_from size i zero bytes = take (width * size i) bytes
part_from size i (suc r) bytes = part_from size (suc i) r (drop (width * size i) bytes)

unfoldable pub part_of : (ℕ → ℕ) → ℕ → List ℕ → List ℕ
part_of size i bytes = part_from size 1 (i - 1) bytes

-- ---- a party's call, by its answer and its three buffers afterwards
pub record Answered : Type 0 where
  pub answer : Checked
  pub triples : List ℕ
  pub state : List ℕ
  pub out : List ℕ

unfoldable pub unanswered : Answered
unanswered = record { answer = Ok tt; triples = []; state = []; out = [] }

unfoldable pub answered : List ℕ → ℕ → List ℕ → List ℕ → List ℕ → List ℕ → List ℕ → List ℕ → Answered
answered bytes i figures coins triples state mail out =
    record {
      answer = call_answer bytes i figures coins triples state mail (length out);
      triples = triples_after bytes i figures coins triples state mail (length out);
      state = state_after bytes i figures coins triples state mail (length out);
      out = out_after bytes i figures coins triples state mail out;
    }

unfoldable pub answer_of : ℕ → List Answered → Answered
answer_of i cs = get_or cs (i - 1) unanswered

-- the mail of round k to party i: its part of what each party's call wrote, the senders ascending
unfoldable pub mail_from : Plan → ℕ → List Answered → ℕ → List ℕ
mail_from plan k cs i = flat_map (λ j. part_of (part_count plan j k) i (answer_of j cs).out) (parties plan)

-- every party's call number k, on its own figures and coins and the buffer that it is lent: call 0 on its triples, bytes of 0 and no mail, each
-- later one on the triples and the state as the call before left them and the mail of the round before
unfoldable pub apart : List ℕ → (ℕ → List ℕ) → (ℕ → List ℕ) → (ℕ → List ℕ) → (ℕ → ℕ → List ℕ) → ℕ → List Answered
apart bytes figures coins triples lent zero =
    map (λ i. answered bytes i (figures i) (coins i) (triples i) (replicate (width * suc (length (plan_of bytes).gates)) 0) [] (lent i 0))
    (parties (plan_of bytes))
apart bytes figures coins triples lent (suc k) =
    map (λ i. answered bytes i (figures i) (coins i) (answer_of i (apart bytes figures coins triples lent k)).triples
    (answer_of i (apart bytes figures coins triples lent k)).state
    (mail_from (plan_of bytes) k (apart bytes figures coins triples lent k) i) (lent i (suc k))) (parties (plan_of bytes))

-- the calls number k of a run, on the bytes of each party's own inputs, coins and triples
abbrev pub run : List ℕ → List ℕ → List ℕ → List ℕ → (ℕ → ℕ → List ℕ) → ℕ → List Answered
run bytes xs coins ts lent k =
    apart bytes (λ i. bytes_of (own_inputs (plan_of bytes) i xs)) (λ i. bytes_of (own_coins (plan_of bytes) i coins))
    (λ i. bytes_of (own_triples (plan_of bytes) i ts)) lent k

-- what party i held and received in it: its inputs, its coins, each round's mail, its results
unfoldable pub held_by : List ℕ → List ℕ → List ℕ → List ℕ → (ℕ → ℕ → List ℕ) → ℕ → List ℕ
held_by bytes xs coins ts lent i =
    bytes_of (own_inputs (plan_of bytes) i xs) ++ (bytes_of (own_coins (plan_of bytes) i coins)
    ++ (flat_map (λ k. mail_from (plan_of bytes) k (run bytes xs coins ts lent k) i) (tab (λ k. k) (last_call (plan_of bytes)))
    ++ (answer_of i (run bytes xs coins ts lent (last_call (plan_of bytes)))).out))

-- the bytes that the calls of one number wrote, and those below number k
unfoldable pub wrote_in : List Answered → ℕ
wrote_in [] = 0
wrote_in (c ∷ cs) = length c.out + wrote_in cs

unfoldable pub wrote_before : (ℕ → List Answered) → ℕ → ℕ
wrote_before calls zero = 0
wrote_before calls (suc k) = wrote_before calls k + wrote_in (calls k)
