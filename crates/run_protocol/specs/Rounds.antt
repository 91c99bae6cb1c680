-- A run: every party makes its calls from 0 to its last, with the mail carried over. A coalition's view of it.
use Rattle.std.specs.Prelude.{ℕ, zero, suc, ◌+◌, ◌-◌, length, drop, get_or, replicate}
use mathlib.Core.List.{List, [], ◌∷◌, ◌++◌, map, flat_map}
use Rattle.numbers.specs.Tables.{tab, total}
use Rattle.plan.specs.Plans.{Plan, parties, own_inputs, own_coins, own_triples, own_input_count, own_coin_count, own_out_count, received, steps, last_call}
use Rattle.seat_messages.specs.Messages.{Called, call, nothing}

-- what party i holds before call 0: a fresh state, its triples, and no mail from anyone
unfoldable pub fresh : Plan → List ℕ → ℕ → Called
fresh plan ts i =
    record { state = replicate (suc (length plan.gates)) 0; triples = own_triples plan i ts; sent = nothing plan; results = [] }

unfoldable pub no_call : Called
no_call = record { state = []; triples = []; sent = []; results = [] }

-- party i's entry of a list that has one for each party
unfoldable pub call_of : ℕ → List Called → Called
call_of i cs = get_or cs (i - 1) no_call

-- what all parties' calls sent to party i, the senders ascending
unfoldable pub mail_to : ℕ → List Called → List ℕ
mail_to i cs = flat_map (λ c. get_or c.sent (i - 1) []) cs

-- party i's next call, on what it was left with and its mail
unfoldable pub next_call : Plan → List ℕ → List ℕ → ℕ → Called → List ℕ → Called
next_call plan xs coins i c mail = call plan i (own_inputs plan i xs) (own_coins plan i coins) c.triples c.state mail

unfoldable pub next_round : Plan → List ℕ → List ℕ → List Called → List Called
next_round plan xs coins cs = map (λ i. next_call plan xs coins i (call_of i cs) (mail_to i cs)) (parties plan)

-- what the calls below number k have left: call number k takes from it its state, its triples and its mail
unfoldable pub after : Plan → List ℕ → List ℕ → List ℕ → ℕ → List Called
after plan xs coins ts zero = map (fresh plan ts) (parties plan)
after plan xs coins ts (suc k) = next_round plan xs coins (after plan xs coins ts k)

-- what all calls leave
unfoldable pub at_end : Plan → List ℕ → List ℕ → List ℕ → List Called
at_end plan xs coins ts = after plan xs coins ts (suc (last_call plan))

unfoldable pub results : Plan → List ℕ → List ℕ → List ℕ → ℕ → List ℕ
results plan xs coins ts i = (call_of i (at_end plan xs coins ts)).results

-- the mail of every step to party i
unfoldable pub mails : Plan → List ℕ → List ℕ → List ℕ → ℕ → List ℕ
mails plan xs coins ts i = flat_map (λ k. mail_to i (after plan xs coins ts (suc k))) (tab (λ k. k) (last_call plan))

-- one party's inputs, coins, mail and results
unfoldable pub view_of : Plan → List ℕ → List ℕ → List ℕ → ℕ → List ℕ
view_of plan xs coins ts i =
    own_inputs plan i xs ++ (own_coins plan i coins ++ (mails plan xs coins ts i ++ results plan xs coins ts i))

-- the view of a coalition, given by its members, ascending
unfoldable pub view : Plan → List ℕ → List ℕ → List ℕ → List ℕ → List ℕ
view plan members xs coins ts = flat_map (view_of plan xs coins ts) members

-- the triples that a preparing run leaves, party by party: all its wires
unfoldable pub triples_from : Plan → List ℕ → List ℕ → List ℕ
triples_from prep draws coins = flat_map (λ c. drop 1 c.state) (at_end prep draws coins [])

-- the elements that all calls of a run send
unfoldable pub sent_in : List Called → ℕ
sent_in [] = 0
sent_in (c ∷ cs) = length (flat_map (λ l. l) c.sent) + sent_in cs

unfoldable pub sent_before : Plan → List ℕ → List ℕ → List ℕ → ℕ → ℕ
sent_before plan xs coins ts zero = 0
sent_before plan xs coins ts (suc k) = sent_before plan xs coins ts k + sent_in (after plan xs coins ts (suc k))

unfoldable pub sent_all : Plan → List ℕ → List ℕ → List ℕ → ℕ
sent_all plan xs coins ts = sent_before plan xs coins ts (suc (last_call plan))

-- ---- how many numbers a view has
-- of a party's view: inputs, coins, mail, results; and of a coalition's
unfoldable pub view_count_of : Plan → ℕ → ℕ
view_count_of plan i = own_input_count plan i + own_coin_count plan i + total (map (received plan i) (steps plan)) + own_out_count plan i

unfoldable pub view_count : Plan → List ℕ → ℕ
view_count plan ms = total (map (view_count_of plan) ms)
