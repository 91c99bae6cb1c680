-- A call that no refusal of 9 to 20 and 29 falls on, and what it leaves.
use Rattle.std.specs.Prelude.{◌≡◌, true, List, ℕ, ◌+◌, ◌*◌, ◌%◌, ◌≤◌, length, drop, get_or}
use Rattle.numbers.specs.Bytes.{width, numbers, bytes_of, all_below}
use Rattle.plan.specs.Plans.{Plan, party_count, last_call, own_input_count, own_coin_count, triple_numbers, mail_count, written_count}
use Rattle.seat_messages.specs.Messages.{learn, spend, call}
use Rattle.seat_messages.specs.Calls.{written}

-- the lent lists have their counts, and their numbers are below p; `room` is the length of the buffer to be written
pub record Admitted (plan : Plan) (i : ℕ) (inputs coins triples state mail : List ℕ) (room : ℕ) : Type 0 where
  pub party_low : 1 ≤ i
  pub party-high : i ≤ party_count plan
  pub inputs_long : length inputs ≡ width * own_input_count plan i
  pub inputs_below : all_below plan.p (numbers inputs) ≡ true
  pub coins_long : length coins ≡ width * own_coin_count plan i
  pub coins_below : all_below plan.p (numbers coins) ≡ true
  pub triples_long : length triples ≡ width * triple_numbers plan
  pub triples_below : all_below plan.p (numbers triples) ≡ true
  pub state_long : length state ≡ width * (1 + length plan.gates)
  pub shares_below : all_below plan.p (drop 1 (numbers state)) ≡ true
  pub call-high : get_or (numbers state) 0 0 ≤ last_call plan
  pub mail_long : length mail ≡ width * mail_count plan i (get_or (numbers state) 0 0)
  pub mail_below : all_below plan.p (numbers mail) ≡ true
  pub room-is : room ≡ width * written_count plan i (get_or (numbers state) 0 0)

-- bytes of whole numbers, one or more
pub record Whole (bs : List ℕ) : Type 0 where
  pub exact : length bs % width ≡ 0
  pub some : width ≤ length bs

-- a state after call number k has learnt from its mail and worked
pub record Learnt (plan : Plan) (k : ℕ) (triples mail old new : List ℕ) : Type 0 where
  pub long : length new ≡ length old
  pub eq : drop 1 (numbers new) ≡ learn plan k triples (drop 1 (numbers old)) mail
  pub below : all_below plan.p (drop 1 (numbers new)) ≡ true

-- the triples that call number k leaves
pub record Spent (plan : Plan) (k : ℕ) (old new : List ℕ) : Type 0 where
  pub long : length new ≡ length old
  pub eq : numbers new ≡ spend plan k (numbers old)
  pub below : all_below plan.p (numbers new) ≡ true

-- what call number k writes from, with these shares
pub record Sendable (plan : Plan) (i k : ℕ) (inputs coins triples shares mail out : List ℕ) : Type 0 where
  pub inputs_below : all_below plan.p (numbers inputs) ≡ true
  pub coins_below : all_below plan.p (numbers coins) ≡ true
  pub triples_below : all_below plan.p (numbers triples) ≡ true
  pub shares_below : all_below plan.p shares ≡ true
  pub mail_below : all_below plan.p (numbers mail) ≡ true
  pub call-high : k ≤ last_call plan
  pub out_long : length out ≡ width * written_count plan i k

-- the state, the triples and the buffer that a call leaves
unfoldable pub state_left : Plan → ℕ → List ℕ → List ℕ → List ℕ → List ℕ → List ℕ → List ℕ
state_left plan i inputs coins triples state mail = bytes_of (call plan i (numbers inputs) (numbers coins) (numbers triples) (numbers state) (numbers mail)).state

unfoldable pub triples_left : Plan → ℕ → List ℕ → List ℕ → List ℕ → List ℕ → List ℕ → List ℕ
triples_left plan i inputs coins triples state mail = bytes_of (call plan i (numbers inputs) (numbers coins) (numbers triples) (numbers state) (numbers mail)).triples

unfoldable pub out_left : Plan → ℕ → List ℕ → List ℕ → List ℕ → List ℕ → List ℕ → List ℕ
out_left plan i inputs coins triples state mail =
    bytes_of (written plan (get_or (numbers state) 0 0) (call plan i (numbers inputs) (numbers coins) (numbers triples) (numbers state) (numbers mail)))
