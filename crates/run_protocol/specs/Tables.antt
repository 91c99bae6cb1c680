-- A party's mail, results and view, read off the table of shares, and a list of triples as functions of the point: the middle layer of the proofs. No
-- demand cites it.
use Rattle.std.specs.Prelude.{ℕ, suc, ◌+◌, ◌*◌, ◌≤◌, ◌<◌, ◌≡◌, cond, eqb, length, take, get_or}
use mathlib.Core.List.{List, [], ◌∷◌, ◌++◌, map, flat_map}
use Rattle.numbers.specs.Tables.{tab}
use Rattle.sharing_laws.specs.Sharing.{opened}
use Rattle.seat_messages.specs.Messages.{from_each, wires_by_party}
use Rattle.plan.specs.declared.Gate.{Gate}
use Rattle.plan.specs.declared.Gate.TheVariants.{Input}
use Rattle.plan.specs.declared.Step.{Step}
use Rattle.plan.specs.declared.Step.TheVariants.{DealInputs, DealProduct, DealZero, DealMasked, SendTruncated, DealDraws, OpenSpent, SendOuts}
use Rattle.plan.specs.Plans.{Plan, party_count, point_of, out_wires, steps, own_inputs, own_coins, own_triples, triple_numbers}
use Rattle.run_protocol.specs.Shares.{wire_at, zero_pieces, pieces_at, truncated_at, difference_at, past_all, start_of, share_table, Before}

unfoldable pub before_gate : Plan → List ℕ → List ℕ → List (ℕ → ℕ) → ℕ → Before
before_gate plan xs cs ts g = past_all plan (take g plan.gates) (start_of xs cs ts)

unfoldable pub gate_in : Plan → ℕ → Gate
gate_in plan g = get_or plan.gates g (Input 0)

-- the mail of a step to party i
unfoldable pub table_mail : Plan → List ℕ → List ℕ → List (ℕ → ℕ) → ℕ → Step → List ℕ
table_mail plan xs cs ts i DealInputs = map (λ w. wire_at (share_table plan xs cs ts) w (point_of plan i)) (wires_by_party plan)
table_mail plan xs cs ts i (DealProduct g a b) = pieces_at plan (gate_in plan g) (before_gate plan xs cs ts g) (point_of plan i)
table_mail plan xs cs ts i (DealZero g) = zero_pieces plan (before_gate plan xs cs ts g).coins (point_of plan i)
table_mail plan xs cs ts i (DealMasked g a b) =
    from_each (party_count plan) 2 1 (pieces_at plan (gate_in plan g) (before_gate plan xs cs ts g) (point_of plan i))
table_mail plan xs cs ts i (SendTruncated g) =
    map (truncated_at plan (gate_in plan g) (before_gate plan xs cs ts g) (point_of plan i)) plan.points
table_mail plan xs cs ts i (DealDraws g) = pieces_at plan (gate_in plan g) (before_gate plan xs cs ts g) (point_of plan i)
table_mail plan xs cs ts i (OpenSpent g a b) =
    flat_map (λ x. difference_at plan (before_gate plan xs cs ts g) a 0 x ∷ difference_at plan (before_gate plan xs cs ts g) b 1 x ∷ []) plan.points
table_mail plan xs cs ts i SendOuts =
    flat_map (λ x. map (λ w. wire_at (share_table plan xs cs ts) w x) (out_wires plan i)) plan.points

unfoldable pub table_results : Plan → List ℕ → List ℕ → List (ℕ → ℕ) → ℕ → List ℕ
table_results plan xs cs ts i =
    map (λ w. opened plan.p plan.t plan.points (map (wire_at (share_table plan xs cs ts) w) plan.points)) (out_wires plan i)

unfoldable pub table_view_of : Plan → List ℕ → List ℕ → List (ℕ → ℕ) → ℕ → List ℕ
table_view_of plan xs cs ts i =
    own_inputs plan i xs ++ (own_coins plan i cs ++ (flat_map (table_mail plan xs cs ts i) (steps plan) ++ table_results plan xs cs ts i))

-- ---- the triples of a list as functions of the point
-- these functions are the list's triples, at each party's point
pub record Tabled (plan : Plan) (ts : List ℕ) (tf : List (ℕ → ℕ)) : Type 0 where
  pub size : (i : ℕ) → 1 ≤ i → i ≤ party_count plan → length (own_triples plan i ts) ≡ triple_numbers plan
  pub same : (i : ℕ) → 1 ≤ i → i ≤ party_count plan → (j : ℕ) → j < triple_numbers plan → get_or (own_triples plan i ts) j 0 ≡ wire_at tf j (point_of plan i)

-- the place of a number in a list
unfoldable pub place_in : ℕ → List ℕ → ℕ
place_in x [] = 0
place_in x (y ∷ ys) = cond (eqb x y) 0 (suc (place_in x ys))

-- such functions, found by the place of the point among the parties' points
unfoldable pub triples_of : Plan → List ℕ → List (ℕ → ℕ)
triples_of plan ts = tab (λ j x. get_or ts (triple_numbers plan * place_in x plan.points + j) 0) (triple_numbers plan)
