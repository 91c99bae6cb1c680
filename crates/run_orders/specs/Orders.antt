-- Parties that don't wait for each other. A party may be called when all its mail for that call is there.
use Rattle.std.specs.Prelude.{ℕ, suc, ◌-◌, ◌*◌, ◌≤◌, ◌≡◌, Bool, true, ◌&&◌, eqb, leb, length, get_or, set}
use mathlib.Core.List.{List, [], ◌∷◌, ◌++◌, map, flat_map}
use Rattle.plan.specs.File.{between}
use Rattle.plan.specs.Plans.{Plan, party_count, parties, last_call, mail_count}
use Rattle.seat_messages.specs.Messages.{Called}
use Rattle.run_protocol.specs.Rounds.{fresh, no_call, call_of, mail_to, next_call, after}

-- what each party's calls so far have left, the latest last; the first entry is what it holds before call 0
abbrev pub Progress : Type 0
Progress = List (List Called)

unfoldable pub nobody_called : Plan → List ℕ → Progress
nobody_called plan ts = map (λ i. fresh plan ts i ∷ []) (parties plan)

-- the calls that party i has made
unfoldable pub made_by : ℕ → Progress → ℕ
made_by i progress = length (get_or progress (i - 1) []) - 1

-- what its latest call has left
unfoldable pub latest : ℕ → Progress → Called
latest i progress = get_or (get_or progress (i - 1) []) (made_by i progress) no_call

-- what the calls numbered k - 1 made so far have sent to party i
unfoldable pub mail_so_far : ℕ → ℕ → Progress → List ℕ
mail_so_far i k progress = flat_map (λ cs. get_or (get_or cs k no_call).sent (i - 1) []) progress

unfoldable pub ready : Plan → ℕ → Progress → Bool
ready plan i progress =
    between 1 (party_count plan) i && (leb (made_by i progress) (last_call plan)
    && eqb (length (mail_so_far i (made_by i progress) progress)) (mail_count plan i (made_by i progress)))

-- party i's next call made
unfoldable pub called : Plan → List ℕ → List ℕ → ℕ → Progress → Progress
called plan xs coins i progress =
    set progress (i - 1)
    (get_or progress (i - 1) []
    ++ (next_call plan xs coins i (latest i progress) (mail_so_far i (made_by i progress) progress) ∷ []))

-- the parties called in this order, and whether each could be
unfoldable pub called_in : Plan → List ℕ → List ℕ → List ℕ → Progress → Progress
called_in plan xs coins [] progress = progress
called_in plan xs coins (i ∷ order) progress = called_in plan xs coins order (called plan xs coins i progress)

unfoldable pub all_ready : Plan → List ℕ → List ℕ → List ℕ → Progress → Bool
all_ready plan xs coins [] progress = true
all_ready plan xs coins (i ∷ order) progress = ready plan i progress && all_ready plan xs coins order (called plan xs coins i progress)

unfoldable pub reached : Plan → List ℕ → List ℕ → List ℕ → List ℕ → Progress
reached plan xs coins ts order = called_in plan xs coins order (nobody_called plan ts)

pub record AnyOrder (plan : Plan) (xs coins ts order : List ℕ) : Type 0 where
  -- every call leaves what the run's call leaves: the state, the triples, what it sent, the results
  pub same : (i k : ℕ) → 1 ≤ i → i ≤ party_count plan → k ≤ made_by i (reached plan xs coins ts order)
      → get_or (get_or (reached plan xs coins ts order) (i - 1) []) k no_call ≡ call_of i (after plan xs coins ts k)
  -- and a party that can be called takes the run's mail
  pub takes :
      (i : ℕ) → ready plan i (reached plan xs coins ts order) ≡ true
      → mail_so_far i (made_by i (reached plan xs coins ts order)) (reached plan xs coins ts order)
      ≡ mail_to i (after plan xs coins ts (made_by i (reached plan xs coins ts order)))
  -- every order ends
  pub ends : length order ≤ party_count plan * suc (last_call plan)
  -- while a party is unfinished, some party can be called
  pub goes_on :
      (i : ℕ) → 1 ≤ i → i ≤ party_count plan → made_by i (reached plan xs coins ts order) ≤ last_call plan
      → (j : ℕ) × (ready plan j (reached plan xs coins ts order) ≡ true)
  -- a party is at most one call ahead of another that sends it something in its next call
  pub near :
      (i j : ℕ) → 1 ≤ i → i ≤ party_count plan → 1 ≤ j → j ≤ party_count plan
      → 1 ≤ length (get_or (call_of j (after plan xs coins ts (suc (made_by j (reached plan xs coins ts order))))).sent (i - 1) [])
      → made_by i (reached plan xs coins ts order) ≤ suc (made_by j (reached plan xs coins ts order))
