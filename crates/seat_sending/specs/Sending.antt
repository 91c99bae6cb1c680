-- What writing a call's numbers takes, and what it leaves.
use Rattle.std.specs.Prelude.{◌≡◌, true, List, [], ◌∷◌, map, ℕ, ◌+◌, ◌*◌, ◌<◌, ◌≤◌, eqb, length, get_or}
use mathlib.Core.List.{flat_map}
use Rattle.std.proofs.lemmas.List.Edits.{sets}
use Rattle.numbers.specs.Tables.{tab, count_where}
use Rattle.numbers.specs.Bytes.{width, numbers, all_below}
use Rattle.sharing_laws.specs.Poly.{eval}
use Rattle.plan.specs.declared.Step.{Step}
use Rattle.plan.specs.declared.Gate.{Gate}
use Rattle.plan.specs.Plans.{Plan, input_owners_at, coin_owners_at, input_at, coins_at, last_call, written_count}
use Rattle.seat_messages.specs.Messages.{send_at}
use Rattle.seat_sending.specs.declared.Passed.{Passed}

-- a lent list after the numbers vs are written from place `at` on, and the place after them
pub record Sent (vs : List ℕ) (at : ℕ) (old new : List ℕ) (next : ℕ) : Type 0 where
  pub long : length new ≡ length old
  pub place : next ≡ at + length vs
  pub is : numbers new ≡ sets (numbers old) at vs

-- k coins from a place on; past the end a coin is 0
unfoldable pub coins_from : ℕ → ℕ → List ℕ → List ℕ
coins_from k at own = tab (λ j. get_or own (at + j) 0) k

-- what a dealing of s takes: its coins are k of the list cs from place `at` on
pub record Dealing (p k s : ℕ) (cs : List ℕ) (at : ℕ) : Type 0 where
  pub few : k ≤ 14
  pub near : at ≤ 65536
  pub secret : s < p
  pub coins : all_below p cs ≡ true

-- what party i has passed with a gate, after what it had passed before it
pub record Past (plan : Plan) (i : ℕ) (gate : Gate) (before after : Passed) : Type 0 where
  pub inputs : after.inputs ≡ before.inputs + count_where (eqb i) (input_owners_at plan gate)
  pub coins : after.coins ≡ before.coins + count_where (eqb i) (coin_owners_at plan gate)
  pub inputs_few : after.inputs ≤ before.inputs + 1
  pub coins_few : after.coins ≤ before.coins + 42

-- the shares at x of party i's dealings of its inputs at the wires ws
unfoldable pub input_shares : Plan → ℕ → List ℕ → List ℕ → List ℕ → ℕ → List ℕ
input_shares plan i ws inputs coins x = map (λ f. eval plan.p f x) (map (λ g. input_at plan i g inputs ∷ coins_at plan i g 0 plan.t coins) ws)

-- the shares of the wires ws
unfoldable pub out_shares : List ℕ → List ℕ → List ℕ
out_shares shares ws = map (λ w. get_or shares w 0) ws

-- two numbers to each point
unfoldable pub pairs : ℕ → ℕ → List ℕ → List ℕ
pairs d e xs = flat_map (λ x. d ∷ e ∷ []) xs

-- what party i sends in a step, in one list
abbrev pub outgoing : Plan → ℕ → Step → List ℕ → List ℕ → List ℕ → List ℕ → List ℕ → List ℕ
outgoing plan i step inputs coins triples shares mail = flat_map (λ l. l) (send_at plan i step inputs coins triples shares mail)

-- what a call sends from: its own inputs, coins and triples, its shares and its mail, as bytes, all of elements
pub record Elements (plan : Plan) (inputs coins triples shares mail : List ℕ) : Type 0 where
  pub inputs_below : all_below plan.p (numbers inputs) ≡ true
  pub coins_below : all_below plan.p (numbers coins) ≡ true
  pub triples_below : all_below plan.p (numbers triples) ≡ true
  pub shares_below : all_below plan.p (numbers shares) ≡ true
  pub mail_below : all_below plan.p (numbers mail) ≡ true

-- what a call sends or opens, and room for exactly what it writes
pub record Lent (plan : Plan) (i k : ℕ) (inputs coins triples shares mail out : List ℕ) : Type 0 where
  pub call : k ≤ last_call plan
  pub elements : Elements plan inputs coins triples shares mail
  pub room : length out ≡ width * written_count plan i k
