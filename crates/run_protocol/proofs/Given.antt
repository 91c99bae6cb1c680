-- The triples of a run as the table has them: of any list, of a preparing run, and of a plan that spends none.
--     tabled_list                       any list of the full count
--     tabled-none                       no gate of kind 7
--     tabled-prepared, prepared-below, prepared-count   the triples that a preparing run leaves
-- Assumes nothing.
use mathlib.Core.Path.{◌≡◌, refl, sym, ap, subst, ◌∙◌}
use mathlib.Core.Logic.{◌≢◌}
use mathlib.Core.Bool.{true}
use mathlib.Core.List.{List, [], ◌∷◌, map, flat_map}
use Prim.Native.Nat.{ℕ, zero, suc, ◌+◌, ◌-◌, ◌*◌, ◌<◌, ◌≤◌}
use native.Mathlib.Nat.{mul-suc, mul-add, mul_comm}
use native.Mathlib.Omega.{arith}
use borrow.Author.Tests.{eq-eqb, ne_eqb}
use lib.ListN.{length, get_or, take, drop, length-drop}
use lib.Seq.{length-take-le, get_or-take, get_or-drop}
use Rattle.numbers.specs.Tables.{tab, count_where}
use Rattle.numbers.specs.Bytes.{all_below}
use Rattle.numbers.proofs.Rows.{flat-part}
use Rattle.numbers.proofs.Tables.{length-tab, get_or-tab}
use Rattle.numbers.proofs.Below.{at-all_below, flat_map_below}
use Rattle.sharing_laws.proofs.Lists.{flat_map-map, flat_map-all, length-map, length_rows, get_or-map-in, all-every}
use Rattle.plan.specs.declared.Rule.{Rule}
use Rattle.plan.proofs.Parties.{each-party}
use Rattle.plan.specs.Plans.{Plan, party_count, parties, point_of, kind_of, is_kind, kind_count, coin_count, own_triples, triple_numbers, last_call}
use Rattle.seat_messages.specs.Messages.{Called}
use Rattle.run_protocol.specs.Rounds.{at_end, triples_from}
use Rattle.run_protocol.specs.Shares.{wire_at, share_table}
use Rattle.run_protocol.specs.Preparing.{preparing, prepares}
use Rattle.plan.proofs.Valid.{Valid, points-apart}
use Rattle.run_protocol.specs.Tables.{Tabled, place_in, triples_of}
use Rattle.run_protocol.proofs.Prepared.{is-preparing, preparing-valid, gates-length, no-kind-7}
use Rattle.run_protocol.proofs.Table.{length-table}
use Rattle.run_protocol.proofs.Runs.{call_is, run-calls, run_call, triples-table}
use Rattle.run_protocol.proofs.Below.{share-below}

-- ---- any list
Apart : List ℕ → Type 0
Apart l = (i j : ℕ) → j < i → i < length l → get_or l i 0 ≢ get_or l j 0

place_at : (l : List ℕ) → Apart l → (k : ℕ) → k < length l → place_in (get_or l k 0) l ≡ k
unfolding place_in Apart
place_at [] h k m = absurd (omega arith)
place_at (y ∷ l) h zero m = rw (eq-eqb y y refl) refl
place_at (y ∷ l) h (suc k) m =
    rw (ne_eqb (get_or l k 0) y (h (suc k) 0 (omega arith) m)) (ap suc (place_at l (λ i j a b. h (suc i) (suc j) (omega arith) (omega arith)) k (omega arith)))

pub tabled_list : (plan : Plan) → Valid plan → (ts : List ℕ) → length ts ≡ party_count plan * triple_numbers plan → Tabled plan ts (triples_of plan ts)
unfolding own_triples triples_of wire_at point_of party_count Apart
tabled_list plan valid ts full = record {
  size =
      λ i l h.
      let n : ℕ = triple_numbers plan in
      let e : length plan.points ≡ (i - 1) + suc (length plan.points - i) = omega arith in
      let q : length ts ≡ n * (i - 1) + (n + n * (length plan.points - i)) =
      full ∙ mul_comm (length plan.points) n ∙ ap (λ (m : ℕ). n * m) e ∙ mul-add n (i - 1) (suc (length plan.points - i)) ∙ ap (λ (m : ℕ). n * (i - 1) + m) (mul-suc n (length plan.points - i) ∙ omega arith) in
      length-take-le n (drop (n * (i - 1)) ts) (omega (arith, length-drop (n * (i - 1)) ts));
  same =
      λ i l h j m.
      let n : ℕ = triple_numbers plan in
      get_or-take n (drop (n * (i - 1)) ts) j 0 m
      ∙ get_or-drop (n * (i - 1)) ts j 0
      ∙ ap (λ (k : ℕ). get_or ts (n * k + j) 0) (sym (place_at plan.points (points-apart plan valid) (i - 1) (omega arith)))
      ∙ sym (ap (λ (f : ℕ → ℕ). f (get_or plan.points (i - 1) 0)) (get_or-tab (λ j x. get_or ts (n * place_in x plan.points + j) 0) n j (λ x. 0) m));
}

-- ---- no gate of kind 7
pub tabled-none : (plan : Plan) (ts : List ℕ) → kind_count plan 7 ≡ 0 → Tabled plan ts []
unfolding own_triples triple_numbers
tabled-none plan ts e = record {
  size = λ i l h. rw e refl;
  same = λ i l h j m. absurd (omega (arith, e));
}

-- ---- the triples that a preparing run leaves
module _ (plan : Plan) (valid : Valid plan) (rule : Rule) (draws coins : List ℕ) (full : length coins ≡ coin_count (preparing plan rule)) where
  abbrev preparation : Plan
  preparation = preparing plan rule

  abbrev table : List (ℕ → ℕ)
  table = share_table preparation draws coins []

  none : Tabled preparation [] []
  unfolding kind_count is_kind kind_of
  none = tabled-none preparation [] (no-kind-7 plan rule)

  ok : Valid preparation
  ok = preparing-valid plan rule valid

  -- party i's shares of all wires
  row : ℕ → List ℕ
  row i = map (λ f. f (point_of plan i)) table

  row-length : (i : ℕ) → length (row i) ≡ triple_numbers plan
  unfolding row triple_numbers kind_count
  row-length i =
      length-map (λ f. f (point_of plan i)) (share_table (preparing plan rule) draws coins []) ∙ length-table (preparing plan rule) draws coins [] ∙ gates-length (count_where (is_kind 7) plan.gates)

  row-left : (i : ℕ) → 1 ≤ i → i ≤ party_count plan → drop 1 (call_is preparation ok draws coins [] [] full none (last_call preparation) i).state ≡ row i
  unfolding party_count point_of row at_end
  row-left i from1 upto =
      ap (λ (c : Called). drop 1 c.state) (sym (run_call preparation ok draws coins [] [] full none (last_call preparation) (omega arith) i from1 upto))
      ∙ triples-table preparation ok draws coins [] [] full none i from1 upto

  -- all parties' shares of all wires
  all_left : triples_from preparation draws coins ≡ flat_map row (tab suc (party_count plan))
  unfolding triples_from at_end party_count parties
  all_left =
      let left : Called → List ℕ = λ c. drop 1 c.state in
      ap (flat_map left) (run-calls preparation ok draws coins [] [] full none (last_call preparation) (omega arith))
      ∙ flat_map-map left (call_is preparation ok draws coins [] [] full none (last_call preparation)) (parties preparation)
      ∙ flat_map-all (λ i. left (call_is preparation ok draws coins [] [] full none (last_call preparation) i)) row (parties preparation)
      (each-party preparation (λ i. left (call_is preparation ok draws coins [] [] full none (last_call preparation) i) ≡ row i) row-left)

  own_row : (i : ℕ) → 1 ≤ i → i ≤ party_count plan → own_triples plan i (triples_from preparation draws coins) ≡ row i
  unfolding own_triples
  own_row i from1 upto =
      let e : suc (i - 1) ≡ i = omega arith in
      ap (λ (l : List ℕ). take (triple_numbers plan) (drop (triple_numbers plan * (i - 1)) l)) all_left
      ∙ flat-part row (triple_numbers plan) row-length (tab suc (party_count plan)) (i - 1) 0 (omega (arith, length-tab suc (party_count plan)))
      ∙ ap row (get_or-tab suc (party_count plan) (i - 1) 0 (omega arith))
      ∙ ap row e

  preparing-count : length (triples_from preparation draws coins) ≡ party_count plan * triple_numbers plan
  preparing-count =
      ap length all_left
      ∙ length_rows row (triple_numbers plan) (tab suc (party_count plan)) (all-every (λ i. length (row i) ≡ triple_numbers plan) (tab suc (party_count plan)) row-length)
      ∙ ap (λ (n : ℕ). n * triple_numbers plan) (length-tab suc (party_count plan))

  tabled-preparing : Tabled plan (triples_from preparation draws coins) table
  unfolding row wire_at
  tabled-preparing = record {
    size = λ i from1 upto. ap length (own_row i from1 upto) ∙ row-length i;
    same =
        λ i from1 upto j l.
        ap (λ (m : List ℕ). get_or m j 0) (own_row i from1 upto)
        ∙ get_or-map-in (λ f. f (point_of plan i)) table j (λ x. 0) 0 (omega (arith, row-length i, length-map (λ f. f (point_of plan i)) table));
  }

  preparing-below : 0 < plan.p → all_below plan.p (triples_from preparation draws coins) ≡ true
  unfolding row wire_at
  preparing-below above =
      ap (all_below plan.p) all_left
      ∙ flat_map_below plan.p row (tab suc (party_count plan)) (λ i. each_below above (point_of plan i))
    where
      each_below : 0 < plan.p → (x : ℕ) → all_below plan.p (map (λ f. f x) (share_table (preparing plan rule) draws coins [])) ≡ true
      each_below above x =
          at-all_below plan.p (map (λ f. f x) (share_table (preparing plan rule) draws coins []))
          (λ w l.
          rw (get_or-map-in (λ f. f x) (share_table (preparing plan rule) draws coins []) w (λ y. 0) 0 (omega (arith, length-map (λ f. f x) (share_table (preparing plan rule) draws coins []))))
          (share-below (preparing plan rule) above draws coins [] w x))

-- the same for any plan that prepares
module _ (plan : Plan) (valid : Valid plan) (prep : Plan) (prepared : prepares prep plan ≡ true) (draws coins : List ℕ) (full : length coins ≡ coin_count prep) where
  pub prepared-valid : Valid prep
  prepared-valid = subst Valid (sym (is-preparing prep plan prepared)) (preparing-valid plan prep.rule valid)

  pub tabled-prepared : Tabled plan (triples_from prep draws coins) (share_table prep draws coins [])
  tabled-prepared =
      let e : prep ≡ preparing plan prep.rule = is-preparing prep plan prepared in
      subst (λ (q : Plan). Tabled plan (triples_from q draws coins) (share_table q draws coins [])) (sym e) (tabled-preparing plan valid prep.rule draws coins (full ∙ ap coin_count e))

  pub prepared-below : 0 < plan.p → all_below plan.p (triples_from prep draws coins) ≡ true
  prepared-below above =
      let e : prep ≡ preparing plan prep.rule = is-preparing prep plan prepared in
      subst (λ (q : Plan). all_below plan.p (triples_from q draws coins) ≡ true) (sym e) (preparing-below plan valid prep.rule draws coins (full ∙ ap coin_count e) above)

  pub prepared-count : length (triples_from prep draws coins) ≡ party_count plan * triple_numbers plan
  prepared-count =
      let e : prep ≡ preparing plan prep.rule = is-preparing prep plan prepared in
      subst (λ (q : Plan). length (triples_from q draws coins) ≡ party_count plan * triple_numbers plan) (sym e) (preparing-count plan valid prep.rule draws coins (full ∙ ap coin_count e))
