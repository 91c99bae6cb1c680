-- What each way through the code of a view says of its definition.
--     sorting                  a gate by its kind
--     Placed, Gathering, gathering     what is put gate by gate
--     reading                  a share in the table
--     Sifting, sifting         numbers of the wires whose gate passes a test
--     Outing, outing           numbers of a party's outs
--     Rounding, rounding       a list for each party
--     opening, resulting       results
--     Tabbing, copying         a list by a rule, and a part of a list
--     owning, own_parts, own_gates     a party's own inputs and coins
--     dealing, Piecing, pieces         the pieces of dealings
--     openings                 what all parties open where a triple is spent
--     gate_pieces, stepping            the mail of the gates' steps
-- Assumes nothing.
use Rattle.std.proofs.Common.{Option, Some, None}
use mathlib.Core.Path.{◌≡◌, refl, sym, ap, ap₂, ◌∙◌}
use mathlib.Core.Bool.{Bool, true, false, cond}
use mathlib.Core.List.{List, [], ◌∷◌, ◌++◌, map, flat_map}
use Prim.Native.Nat.{ℕ, zero, suc, ◌+◌, ◌-◌, ◌*◌, ◌/◌, ◌^◌, ◌<◌, ◌≤◌}
use native.Mathlib.Numerals.{add-one}
use native.Mathlib.Nat.{mod-lt, mul-le-mul, mul-le-mul_left, mul-le-mul_right, mul-suc, add-sub_cancel_left}
use native.Mathlib.Omega.{arith}
use borrow.Author.Rules.{rules}
use borrow.Author.Tests.{not-true, not-false, ltb-true, lt-ltb, leb-true, leb-false, le-leb, lt-leb, eq-eqb, ne_eqb, eqb-true, eqb-false}
use lib.Dec.{eqb, ltb}
use lib.ListN.{length-replicate, length, get_or, take, drop, replicate, drop_of_length-le, length-drop, get_or-eq_default}
use lib.Seq.{drop-cons, drop-drop, get_or-take, get_or-drop, take-take, length-take-le}
use mir.Syntax.{w64}
use mir.Val.{Fits}
use Rattle.numbers.specs.Tables.{tab, count_where}
use Rattle.numbers.specs.Bytes.{width, numbers, all_below}
use Rattle.numbers.proofs.Tables.{length-tab, get_or-tab, take-tab, tab-ext, tab-replicate, is-tab, row_room}
use Rattle.numbers.proofs.Below.{all_below_at, all_below-tab, all_below-take, all_below-drop}
use Rattle.numbers.proofs.Bytes.{numbers-length}
use Rattle.numbers.proofs.Truth.{both_true}
use Rattle.field.specs.Mod.{mul}
use Rattle.field.proofs.Inverse.{pos}
use Rattle.field.proofs.Solve.{canon-lt, add_canon}
use Rattle.field.specs.Field.{Below2, Is, kept, Ready}
use Rattle.sharing_laws.specs.Poly.{eval}
use Rattle.sharing_laws.specs.Interp.{dot}
use Rattle.sharing_laws.specs.Basis.{row}
use Rattle.sharing_laws.specs.Sharing.{opened}
use Rattle.sharing_openings.specs.Openable.{Openable}
use Rattle.sharing_matrix.specs.declared.Matrix.{Matrix}
use Rattle.sharing_matrix.proofs.Ruling.{length-row, row_elements}
use Rattle.sharing.proofs.Walks.{Pair}
use Rattle.sharing.proofs.Coding.{entry_below, Summed, sum-none, sum_more, summing}
use Rattle.plan.specs.declared.Gate.{Gate}
use Rattle.plan.specs.declared.Gate.TheVariants.{Input, Add, Scale, Offset, Multiply, Random, Spend}
use Rattle.plan.specs.declared.Rule.{Rule}
use Rattle.plan.specs.declared.Rule.TheVariants.{Reduction, Truncation}
use Rattle.plan.specs.declared.Output.{Output}
use Rattle.plan.specs.declared.Header.{Header}
use Rattle.plan.specs.Plans.{Plan, party_count, parties, point_of, kind_of, is_kind, multiplying, operands_of, is_input_of, wires_from, input_wires, out_wires_of, out_wires, input_owners_at, input_owners, input_count, dealings_at, coin_owners_at, coin_owners, coin_count, triple_numbers, triple_at, own_of, own_inputs, own_coins}
use Rattle.plan.proofs.Layouts.{gate_read}
use Rattle.plan.specs.File.{gate_ok, between, gate_place, gate_from, gate_at, out_at, out_ok, plan_of}
use Rattle.plan.specs.Planned.{Planned}
use Rattle.plan.proofs.Planned.{plan_rule, plan_t, plan_n, plan_dealers, plan_gates, plan_outs, plan_gate, plan_out}
use Rattle.plan.proofs.Valid.{valid, planned-ready, gate-kept, gate_majority}
use Rattle.seat_messages.proofs.PointLaws.{plan_points_long, plan_points_below}
use Rattle.run_protocol.specs.Ideal.{inputs_taken}
use Rattle.run_protocol.specs.Shares.{triples_taken}
use Rattle.run_protocol.proofs.Owners.{own-append, own_same, own-other, blocks, length_blocks, own_block, own_each}
use Rattle.run_protocol.proofs.Dealt.{input-owners, reduction-owners, truncation-owners, random-owners}
use Rattle.run_ideal.proofs.IdealLaws.{taken_next}
use Rattle.run_dealings.specs.Rows.{Coined, power, powers, products_of, shared_by, draws_of, masked_of, differences_of, mixed_at, Rowed, Spaced, Fitted, Cutting, Ruling, Spending}
use Rattle.run_dealings.proofs.RowLaws.{product_at}
use Rattle.run_dealings.proofs.CoinLaws.{coins_reduction, coins_truncation, coins_random, no_owners}
use Rattle.run_tables.proofs.FillLaws.{taken_within, triples_past, triples_left}
use Rattle.run_views.specs.Flat.{share_in, row_in, first_in, outs_in, opened_in, pieces_of, zeros_in, masked_in, truncated_in, multiply_in, opens_in, openings_in, pieces_in, gathered, power_count, taken_by, Running, Ran, PowerRow, Stands, Multiplies, Spends, Seen, Owns}
use Rattle.run_views.specs.Writing.{Wrote}
use Rattle.run_dealings.proofs.PowerLaws.{length-powers, powers_below, eval-powers}
use Rattle.run_views.proofs.WriteLaws.{wrote_none, wrote_as, wrote_then, Left, left_all, left_as, left_then, left_end}
use Rattle.run_views.proofs.FlatLaws.{pieces_tab}

-- ---- a gate by its kind
pub input_of_as : (i : ℕ) (gate x : Gate) (r : Bool) → gate ≡ x → r ≡ is_input_of i x → r ≡ is_input_of i gate
input_of_as i gate x r e f = f ∙ sym (ap (is_input_of i) e)

pub input_at_lem : (i : ℕ) (gate x : Gate) (r : Bool) → gate ≡ x → r ≡ is_input_of i gate → r ≡ is_input_of i x
input_at_lem i gate x r e f = f ∙ ap (is_input_of i) e

-- a gate whose first byte is not 1 is no party's input
pub other_kind : (bs : List ℕ) (g k j : ℕ) → k ≡ get_or bs (gate_place bs g) 0 → (k ≡ 1 → ⊥) → 1 ≤ j → false ≡ is_input_of j (gate_at bs g)
unfolding gate_at gate_from is_input_of is_kind kind_of operands_of
other_kind bs g k j e n l =
    gate_read (λ x. false ≡ is_input_of j x) (get_or bs (gate_place bs g) 0) _ _ _ (sym (ne_eqb j 0 (λ z. omega arith)))
    (λ one. absurd (n (e ∙ one))) (λ z. refl) (λ z. refl) (λ z. refl) (λ z. refl) (λ z. refl) (λ z. refl)

pub ruleset sorting = (rules, other_kind, input_at_lem, input_of_as)

-- ---- the gates of a plan from g on
module _ {bs : List ℕ} {h : Header} (pl : Planned bs h) where
  pub gates_from : (g : ℕ) (gate : Gate) → g < h.gates → gate ≡ gate_at bs g → drop g (plan_of bs).gates ≡ gate ∷ drop (g + 1) (plan_of bs).gates
  gates_from g gate l e = rw (add-one, e, drop-cons (plan_of bs).gates g (Input 0) (omega (arith, plan_gates pl)), plan_gate pl g l)

  pub gates_end : (g : ℕ) → h.gates ≤ g → drop g (plan_of bs).gates ≡ []
  gates_end g l = drop_of_length-le (plan_of bs).gates {i = g} (omega (arith, plan_gates pl))

-- ---- what is put gate by gate
-- what gate g takes begins at number i of the inputs, at number k of the coins and at number u of each party's triples
pub record Placed (bs : List ℕ) (i k u g : ℕ) : Type 0 where
  pub input : i ≡ length (flat_map (input_owners_at (plan_of bs)) (take g (plan_of bs).gates))
  pub coin : k ≡ length (flat_map (coin_owners_at (plan_of bs)) (take g (plan_of bs).gates))
  pub triple : u ≡ triple_at (plan_of bs) g
  pub near_input : i ≤ 15 * g
  pub near_coin : k ≤ 630 * g
  pub near_triple : u ≤ 3 * g
  pub within : g ≤ 1024

pub placed_first : (bs : List ℕ) → Placed bs 0 0 0 0
unfolding flat_map triple_at count_where
placed_first bs = record { input = refl; coin = refl; triple = refl; near_input = omega arith; near_coin = omega arith; near_triple = omega arith; within = omega arith }

module _ (bs : List ℕ) (h : Header) (i k u g : ℕ) (s : Placed bs i k u g) (pl : Planned bs h) (l : g < h.gates) where
  pub placed_next :
      (a d c : ℕ) (gate : Gate) → gate ≡ gate_at bs g → a ≡ inputs_taken (plan_of bs) gate → a ≤ 15 → d ≡ length (coin_owners_at (plan_of bs) gate) → d ≤ 630
      → c ≡ triples_taken gate → c ≤ 3 → Placed bs (i + a) (k + d) (u + c) (g + 1)
  unfolding inputs_taken
  placed_next a d c gate is ea la ed ld ec lc =
      record {
        input = taken_next (input_owners_at (plan_of bs)) bs h i g a pl s.input l (ea ∙ ap (λ (x : Gate). length (input_owners_at (plan_of bs) x)) is);
        coin = taken_next (coin_owners_at (plan_of bs)) bs h k g d pl s.coin l (ed ∙ ap (λ (x : Gate). length (coin_owners_at (plan_of bs) x)) is);
        triple = ap (λ (m : ℕ). u + m) ec ∙ triples_past bs h pl g u gate l s.triple is;
        near_input = omega (arith, s.near_input);
        near_coin = omega (arith, s.near_coin);
        near_triple = omega (arith, s.near_triple);
        within = omega (arith, pl.gates-high);
      }

  -- what gate g takes is there
  taken_room : (owners : Gate → List ℕ) (m : ℕ) → m ≡ length (flat_map owners (take g (plan_of bs).gates))
      → m + length (owners (gate_at bs g)) ≤ length (flat_map owners (plan_of bs).gates)
  taken_room owners m e = omega (arith, taken_next owners bs h m g _ pl e l refl, taken_within owners (plan_of bs).gates (g + 1))

  module _ (gate : Gate) (is : gate ≡ gate_at bs g) where
    pub inputs_room : (inputs : List ℕ) → length (numbers inputs) ≡ input_count (plan_of bs) → i + length (input_owners_at (plan_of bs) gate) ≤ length inputs / width
    unfolding input_count input_owners
    inputs_room inputs full = rw is (omega (arith, full, numbers-length inputs, taken_room (input_owners_at (plan_of bs)) i s.input))

    pub coins_room : (coins : List ℕ) → length (numbers coins) ≡ coin_count (plan_of bs) → k + length (coin_owners_at (plan_of bs) gate) ≤ length coins / width
    unfolding coin_count coin_owners
    coins_room coins full = rw is (omega (arith, full, numbers-length coins, taken_room (coin_owners_at (plan_of bs)) k s.coin))

    pub triples_room : (ts : List ℕ) → length ts ≡ party_count (plan_of bs) * triple_numbers (plan_of bs) → all_below h.field.p ts ≡ true → Spending h.field.p h.n (triples_taken gate) u ts
    triples_room ts full below = triples_left bs h pl ts full g u gate l s.triple is below

    pub gate_stands : Stands bs h.gates gate
    gate_stands = record { place = g; within = l; is = is }

-- the invariant of what is put at gate g
pub record Gathering (f : Gate → ℕ → ℕ → ℕ → List ℕ) (bs : List ℕ) (at : ℕ) (old new : List ℕ) (next i k u g : ℕ) : Type 0 where
  pub left : Left (gathered f (plan_of bs) 0 0 0 (plan_of bs).gates) at old new next (gathered f (plan_of bs) i k u (drop g (plan_of bs).gates))

pub gather_all : (f : Gate → ℕ → ℕ → ℕ → List ℕ) (bs : List ℕ) (at : ℕ) (old : List ℕ) → at ≤ length old / width → Gathering f bs at old old at 0 0 0 0
gather_all f bs at old l = record { left = left_all _ at old _ refl l }

module _ (f : Gate → ℕ → ℕ → ℕ → List ℕ) (bs : List ℕ) (h : Header) (at : ℕ) (old new : List ℕ) (next i k u g : ℕ) (s : Gathering f bs at old new next i k u g) (pl : Planned bs h) where
  pub gather_next :
      (a d c : ℕ) (new' : List ℕ) (next' : ℕ) (gate : Gate) → g < h.gates → gate ≡ gate_at bs g → a ≡ inputs_taken (plan_of bs) gate → d ≡ length (coin_owners_at (plan_of bs) gate)
      → c ≡ triples_taken gate → Wrote (f gate i k u) next new new' next' → Gathering f bs at old new' next' (i + a) (k + d) (u + c) (g + 1)
  unfolding gathered inputs_taken
  gather_next a d c new' next' gate l is ea ed ec w =
      record { left = left_then _ at old new next _ s.left (f gate i k u) _ new' next' (rw (gates_from pl g gate l is, ea, ed, ec)) w }

  pub gather_end : h.gates ≤ g → Wrote (gathered f (plan_of bs) 0 0 0 (plan_of bs).gates) at old new next
  unfolding gathered
  gather_end l = left_end _ at old new next _ s.left (rw (gates_end pl g l))

-- As it is: answers name this set, since the check leaves their goals open by `using` alone.
pub ruleset gathering = (rules, placed_first, placed_next, inputs_room, coins_room, triples_room, gate_stands, gather_all, gather_next, gather_end)

-- ---- a share in the table
module _ (h : Header) (table : List ℕ) (r : Running h table) (w : ℕ) (l : w < h.gates) where
  next_row : h.n * w + h.n ≡ h.n * suc w
  next_row = sym (mul-suc h.n w)

  pub row_within : h.n * w + h.n ≤ length table
  row_within = omega (arith, next_row, r.flat.long, mul-le-mul_left {m = suc w} {n = h.gates} h.n l)

  table_short : length table ≤ 15360
  table_short = omega (arith, r.flat.long, mul-le-mul r.few r.gates)

  pub start_fits : Fits w64 (h.n * w)
  start_fits = record { fits = omega (arith, row_within, table_short) }

  module _ (i : ℕ) (low : 1 ≤ i) (high : i ≤ h.n) where
    pub share_within : h.n * w + (i - 1) < length table
    share_within = omega (arith, row_within)

    pub share_fits : Fits w64 (h.n * w + (i - 1))
    share_fits = record { fits = omega (arith, row_within, table_short) }

pub share_is : (n i w : ℕ) (table : List ℕ) (x : ℕ) → x ≡ get_or table (n * w + (i - 1)) 0 → x ≡ share_in n table i w
unfolding share_in
share_is n i w table x e = e

-- past the table every share is 0
module _ (table : List ℕ) (n i w : ℕ) where
  pub share-none : 1 ≤ n → length table ≤ w → 0 ≡ share_in n table i w
  unfolding share_in
  share-none some l = sym (get_or-eq_default table 0 {n = n * w + (i - 1)} (omega (arith, mul-le-mul_right {m = 1} {n = n} w some)))

  pub share-past : length table ≤ n * w + (i - 1) → 0 ≡ share_in n table i w
  unfolding share_in
  share-past l = sym (get_or-eq_default table 0 l)

pub share_below : (h : Header) (table : List ℕ) (k : ℕ) → Running h table → get_or table k 0 < h.field.p
share_below h table k r = entry_below h.field.p table k r.ready r.flat.below

pub ruleset reading = (rules, start_fits, share_within, share_fits, share_is, share_below)

-- ---- numbers of the wires whose gate passes a test
-- the invariant at gate g
pub record Sifting (test : Gate → Bool) (f : ℕ → ℕ) (bs : List ℕ) (at : ℕ) (old new : List ℕ) (next g : ℕ) : Type 0 where
  pub left : Left (map f (wires_from test 0 (plan_of bs).gates)) at old new next (map f (wires_from test g (drop g (plan_of bs).gates)))

pub sift_all : (test : Gate → Bool) (f : ℕ → ℕ) (bs : List ℕ) (at : ℕ) (old : List ℕ) → at ≤ length old / width → Sifting test f bs at old old at 0
sift_all test f bs at old l = record { left = left_all _ at old _ refl l }

module _ (test : Gate → Bool) (f : ℕ → ℕ) (bs : List ℕ) (h : Header) (at : ℕ) (old new : List ℕ) (next g : ℕ) (s : Sifting test f bs at old new next g) (pl : Planned bs h) where
  module _ (l : g < h.gates) (gs : List ℕ) (es : gs ≡ bs) (t : Bool) (et : t ≡ test (gate_at gs g)) where
    wires_here : map f (wires_from test g (drop g (plan_of bs).gates)) ≡ map f (cond t (g ∷ wires_from test (g + 1) (drop (g + 1) (plan_of bs).gates)) (wires_from test (g + 1) (drop (g + 1) (plan_of bs).gates)))
    unfolding wires_from
    wires_here = rw (gates_from pl g (gate_at bs g) l refl, ← add-one g, et, es)

    pub sift_put : (new' : List ℕ) (next' v : ℕ) → t ≡ true → v ≡ f g → Wrote (v ∷ []) next new new' next' → Sifting test f bs at old new' next' (g + 1)
    sift_put new' next' v y ev w = record { left = left_then _ at old new next _ s.left (v ∷ []) _ new' next' (rw ev (rw y at wires_here)) w }

    pub sift_skip : t ≡ false → Sifting test f bs at old new next (g + 1)
    sift_skip y = record { left = left_as _ at old new next _ s.left _ (rw y at wires_here) }

  pub sift_end : h.gates ≤ g → Wrote (map f (wires_from test 0 (plan_of bs).gates)) at old new next
  unfolding wires_from
  sift_end l = left_end _ at old new next _ s.left (rw (gates_end pl g l))

-- the same for a party's inputs
pub inputs_sifted :
    (j : ℕ) (f : ℕ → ℕ) (bs : List ℕ) (at : ℕ) (old new : List ℕ) (next : ℕ) → Wrote (map f (wires_from (is_input_of j) 0 (plan_of bs).gates)) at old new next
    → Wrote (map f (input_wires (plan_of bs) j)) at old new next
unfolding input_wires
inputs_sifted j f bs at old new next w = w

-- As it is: answers name this set, since the check leaves their goals open by `using` alone.
pub ruleset sifting = (rules, not-true, not-false, sift_all, sift_put, sift_skip, sift_end, inputs_sifted)

-- ---- numbers of a party's outs
module _ {bs : List ℕ} {h : Header} (pl : Planned bs h) where
  pub outs_from : (k : ℕ) (o : Output) → k < h.outs → o ≡ out_at bs k → drop k (plan_of bs).outs ≡ o ∷ drop (k + 1) (plan_of bs).outs
  outs_from k o l e = rw (add-one, e, drop-cons (plan_of bs).outs k (record { party = 0; wire = 0 }) (omega (arith, plan_outs pl)), plan_out pl k l)

  pub outs_end : (k : ℕ) → h.outs ≤ k → drop k (plan_of bs).outs ≡ []
  outs_end k l = drop_of_length-le (plan_of bs).outs {i = k} (omega (arith, plan_outs pl))

  pub out_within : (k : ℕ) (o : Output) → k < h.outs → o ≡ out_at bs k → o.wire < h.gates
  unfolding out_ok
  out_within k o l e =
      let ok : out_ok (party_count (plan_of bs)) (length (plan_of bs).gates) o ≡ true = rw (e, ← plan_out pl k l) ((valid bs pl.passes).outs k (omega (arith, plan_outs pl))) in
      omega (arith, plan_gates pl, ltb-true o.wire (length (plan_of bs).gates) (both_true (between 1 (party_count (plan_of bs)) o.party) _ ok).1)

-- the invariant at out k
abbrev pub Outing : ℕ → (ℕ → ℕ) → List ℕ → ℕ → List ℕ → List ℕ → ℕ → ℕ → Type 0
Outing i f bs at old new next k = Left (map f (out_wires (plan_of bs) i)) at old new next (map f (out_wires_of i (drop k (plan_of bs).outs)))

module _ (i : ℕ) (f : ℕ → ℕ) (bs : List ℕ) (at : ℕ) (old : List ℕ) where
  pub outs_all : at ≤ length old / width → Outing i f bs at old old at 0
  unfolding out_wires
  outs_all l = left_all _ at old _ refl l

  module _ (h : Header) (new : List ℕ) (next k : ℕ) (s : Outing i f bs at old new next k) (pl : Planned bs h) where
    module _ (o : Output) (l : k < h.outs) (e : o ≡ out_at bs k) where
      wires_next : map f (out_wires_of i (drop k (plan_of bs).outs)) ≡ map f (cond (eqb i o.party) (o.wire ∷ out_wires_of i (drop (k + 1) (plan_of bs).outs)) (out_wires_of i (drop (k + 1) (plan_of bs).outs)))
      unfolding out_wires_of
      wires_next = rw (outs_from pl k o l e)

      pub outs_put : (v : ℕ) (new' : List ℕ) (next' : ℕ) → i ≡ o.party → v ≡ f o.wire → Wrote (v ∷ []) next new new' next' → Outing i f bs at old new' next' (k + 1)
      outs_put v new' next' y ev w = left_then _ at old new next _ s (v ∷ []) _ new' next' (rw ev (rw (eq-eqb i o.party y) at wires_next)) w

      pub outs_skip : (i ≡ o.party → ⊥) → Outing i f bs at old new next (k + 1)
      outs_skip n = left_as _ at old new next _ s _ (rw (ne_eqb i o.party n) at wires_next)

    pub outs_done : h.outs ≤ k → Wrote (map f (out_wires (plan_of bs) i)) at old new next
    unfolding out_wires_of
    outs_done l = left_end _ at old new next _ s (rw (outs_end pl k l))

pub ruleset outing = (rules, out_within, outs_all, outs_put, outs_skip, outs_done)

-- ---- a list for each party
module _ {bs : List ℕ} {h : Header} (pl : Planned bs h) where
  pub parties_from : (j : ℕ) → j < h.n → drop j (parties (plan_of bs)) ≡ (j + 1) ∷ drop (j + 1) (parties (plan_of bs))
  unfolding parties
  parties_from j l =
      let m : j < party_count (plan_of bs) = omega (arith, plan_n pl) in
      rw (add-one, drop-cons (tab suc (party_count (plan_of bs))) j 0 (rw length-tab m), get_or-tab suc (party_count (plan_of bs)) j 0 m)

  pub parties_end : (j : ℕ) → h.n ≤ j → drop j (parties (plan_of bs)) ≡ []
  unfolding parties
  parties_end j l = drop_of_length-le (tab suc (party_count (plan_of bs))) {i = j} (rw length-tab (omega (arith, plan_n pl)))

-- the invariant after party j
abbrev pub Rounding : (ℕ → List ℕ) → List ℕ → ℕ → List ℕ → List ℕ → ℕ → ℕ → Type 0
Rounding f bs at old new next j = Left (flat_map f (parties (plan_of bs))) at old new next (flat_map f (drop j (parties (plan_of bs))))

module _ (f : ℕ → List ℕ) (bs : List ℕ) (at : ℕ) (old : List ℕ) where
  pub rounds_all : at ≤ length old / width → Rounding f bs at old old at 0
  rounds_all l = left_all _ at old _ refl l

  module _ (h : Header) (new : List ℕ) (next j : ℕ) (s : Rounding f bs at old new next j) (pl : Planned bs h) where
    pub rounds_next : (new' : List ℕ) (next' : ℕ) → j < h.n → Wrote (f (j + 1)) next new new' next' → Rounding f bs at old new' next' (j + 1)
    unfolding flat_map
    rounds_next new' next' l w = left_then _ at old new next _ s _ _ new' next' (rw (parties_from pl j l)) w

    rounds_end : h.n ≤ j → Wrote (flat_map f (parties (plan_of bs))) at old new next
    unfolding flat_map
    rounds_end l = left_end _ at old new next _ s (rw (parties_end pl j l))

module _ (bs : List ℕ) (h : Header) (table : List ℕ) (i at : ℕ) (old new : List ℕ) (next j : ℕ) (pl : Planned bs h) (l : h.n ≤ j) where
  pub first_done : Rounding (λ u. map (share_in h.n table i) (input_wires (plan_of bs) u)) bs at old new next j → Wrote (first_in (plan_of bs) h.n table i) at old new next
  unfolding first_in
  first_done s = rounds_end _ bs at old h new next j s pl l

  pub last_done : Rounding (λ u. map (share_in h.n table u) (out_wires (plan_of bs) i)) bs at old new next j → Wrote (outs_in (plan_of bs) h.n table i) at old new next
  unfolding outs_in
  last_done s = rounds_end _ bs at old h new next j s pl l

-- As it is: answers name this set, since the check leaves their goals open by `using` alone.
pub ruleset rounding = (rules, rounds_all, rounds_next, first_done, last_done)

-- ---- results
module _ (h : Header) (table : List ℕ) (r : Running h table) (w : ℕ) (l : w < h.gates) where
  pub end_fits : Fits w64 (h.n * w + h.n)
  end_fits = record { fits = omega (arith, row_within h table r w l, table_short h table r w l) }

  pub bytes_fit : Fits w64 (h.n * w * 8)
  bytes_fit = record { fits = omega (arith, row_within h table r w l, table_short h table r w l) }

  pub row_is : take (h.n * w + h.n - h.n * w) (drop (h.n * w) table) ≡ row_in h.n table w
  unfolding row_in
  row_is = rw add-sub_cancel_left

  pub row_long : length (row_in h.n table w) ≡ h.n
  unfolding row_in
  row_long = length-take-le h.n (drop (h.n * w) table) (rw length-drop (omega (arith, row_within h table r w l)))

  pub row_below : all_below h.field.p (row_in h.n table w) ≡ true
  unfolding row_in
  row_below = all_below-take h.field.p h.n (drop (h.n * w) table) (all_below-drop h.field.p (h.n * w) table r.flat.below)

  module _ (bs : List ℕ) (pl : Planned bs h) (p t : ℕ) (points ws : List ℕ) (fitted : Fitted bs h p t points ws) where
    points_long : length points ≡ h.n
    points_long = ap length fitted.are ∙ plan_points_long bs h pl

    pub openable : Openable h.field.p h.t points (take (h.n * w + h.n - h.n * w) (drop (h.n * w) table))
    openable =
        rw (row_is)
        (record {
          elements = rw fitted.are (plan_points_below bs h pl);
          known = row_below;
          threshold = omega (arith, points_long, r.threshold);
          few = omega (arith, points_long, r.few);
          each = row_long ∙ sym points_long;
        })

    pub opened_is : (v : ℕ) → Is h.field.p (opened h.field.p h.t points (take (h.n * w + h.n - h.n * w) (drop (h.n * w) table))) v → Is h.field.p (opened_in (plan_of bs) h table w) v
    unfolding opened_in
    opened_is v q = rw (row_is, fitted.are) at q

-- As it is: answers name this set, since the check leaves their goals open by `using` alone.
pub ruleset opening = (rules, row_within, start_fits, end_fits, bytes_fit, openable, opened_is)

-- an opening is what is written
pub opened_value : (p v x : ℕ) → Is p v x → x ≡ v
opened_value p v x e = e.eq

pub ruleset resulting = (rules, opened_value)

-- ---- a list by a rule
-- the invariant at its number j
abbrev pub Tabbing : (ℕ → ℕ) → ℕ → ℕ → List ℕ → List ℕ → ℕ → ℕ → Type 0
Tabbing f m at old new next j = Left (tab f m) at old new next (drop j (tab f m))

module _ (f : ℕ → ℕ) (m at : ℕ) (old : List ℕ) where
  pub tab_all : at ≤ length old / width → Tabbing f m at old old at 0
  tab_all l = left_all _ at old _ refl l

  module _ (new : List ℕ) (next j : ℕ) (s : Tabbing f m at old new next j) where
    pub tab_put : (v : ℕ) (new' : List ℕ) (next' : ℕ) → j < m → v ≡ f j → Wrote (v ∷ []) next new new' next' → Tabbing f m at old new' next' (j + 1)
    tab_put v new' next' l e w =
        left_then _ at old new next _ s (v ∷ []) _ new' next' (rw (add-one, drop-cons (tab f m) j 0 (rw length-tab l), get_or-tab f m j 0 l, e)) w

    pub tab_done : m ≤ j → Wrote (tab f m) at old new next
    tab_done l = left_end _ at old new next _ s (drop_of_length-le (tab f m) {i = j} (rw length-tab l))

-- ---- a part of a list
part_tab : (t from : ℕ) (cs : List ℕ) → from + t ≤ length cs → tab (λ k. get_or cs (from + k) 0) t ≡ take t (drop from cs)
part_tab t from cs l =
    sym (is-tab (λ k. get_or cs (from + k) 0) t (take t (drop from cs)) 0 (length-take-le t (drop from cs) (omega (arith, length-drop from cs)))
    (λ k m. get_or-take t (drop from cs) k 0 m ∙ get_or-drop from cs k 0))

pub part_done :
    (t from : ℕ) (list : List ℕ) (at : ℕ) (old new : List ℕ) (next j : ℕ) → Tabbing (λ k. get_or (numbers list) (from + k) 0) t at old new next j → t ≤ j
    → from + t ≤ length list / width → Wrote (take t (drop from (numbers list))) at old new next
part_done t from list at old new next j s l room =
    rw (← part_tab t from (numbers list) (omega (arith, numbers-length list))) (tab_done _ t at old new next j s l)

module _ (t from j : ℕ) (list : List ℕ) (room : from + t ≤ length list / width) (l : j < t) where
  pub part_within : from + j < length list / width
  part_within = omega arith

  pub part_fits : length list < 2 ^ 63 → Fits w64 (from + j)
  part_fits f = record { fits = omega arith }

-- the invariant at entry k of a row
abbrev pub Rowing : List ℕ → ℕ → List ℕ → List ℕ → ℕ → ℕ → Type 0
Rowing row at old new next k = Left row at old new next (drop k row)

module _ (row : List ℕ) (at : ℕ) (old : List ℕ) where
  pub row_all : at ≤ length old / width → Rowing row at old old at 0
  row_all l = left_all _ at old _ refl l

  module _ (new : List ℕ) (next k : ℕ) (s : Rowing row at old new next k) where
    pub row_put : (new' : List ℕ) (next' : ℕ) → k < length row → Wrote (get_or row k 0 ∷ []) next new new' next' → Rowing row at old new' next' (k + 1)
    row_put new' next' l w = left_then _ at old new next _ s (get_or row k 0 ∷ []) _ new' next' (rw (add-one, drop-cons row k 0 l)) w

    pub row_done : length row ≤ k → Wrote row at old new next
    row_done l = left_end _ at old new next _ s (drop_of_length-le row {i = k} l)

-- As it is: answers name this set, since the check leaves their goals open by `using` alone.
pub ruleset copying = (rules, tab_all, tab_put, part_done, part_within, part_fits, row_all, row_put, row_done)

-- ---- a party's own of what a gate takes
no_draws : (plan : Plan) (x : Gate) → ((o : ℕ) → x ≡ Input o → ⊥) → (x ≡ Random → ⊥) → input_owners_at plan x ≡ []
unfolding input_owners_at
no_draws plan (Input o) n r = absurd (n o refl)
no_draws plan (Add a b) n r = refl
no_draws plan (Scale a c) n r = refl
no_draws plan (Offset a c) n r = refl
no_draws plan (Multiply a b) n r = refl
no_draws plan Random n r = absurd (r refl)
no_draws plan (Spend a b) n r = refl

owns_none : (i : ℕ) (owners : List ℕ) → ((xs : List ℕ) → own_of i owners xs ≡ []) → Owns i owners 0 0
owns_none i owners n = record { room = omega arith; own = λ xs l. n xs }

owns_same : (i k : ℕ) → Owns i (replicate k i) 0 k
owns_same i k = record { room = omega (arith, length-replicate {A = ℕ} k i); own = λ xs l. own_same i k xs (omega (arith, length-replicate {A = ℕ} k i)) }

blocks_before : (i c r n : ℕ) (xs : List ℕ) → r + n < i → own_of i (blocks c r n) xs ≡ []
unfolding blocks own_of
blocks_before i c r zero xs l = refl
blocks_before i c r (suc n) xs l =
    own-append i (replicate c (suc r)) (blocks c (suc r) n) xs
    ∙ ap₂ (λ (u v : List ℕ). u ++ v) (own-other i c (suc r) xs (λ e. omega arith)) (blocks_before i c (suc r) n (drop (length (replicate c (suc r))) xs) (omega arith))

owns_block : (t i m : ℕ) → 1 ≤ i → i ≤ m → Owns i (blocks t 0 m) (t * (i - 1)) t
owns_block t i m low l =
    let q : suc (i - 1) ≡ i = omega arith in
    record {
      room = omega (arith, length_blocks t 0 m, row_room t (i - 1) m (omega arith));
      own = λ xs k. ap (λ (j : ℕ). own_of j (blocks t 0 m) xs) (sym q) ∙ own_block t m (i - 1) xs (omega arith) (omega (arith, length_blocks t 0 m));
    }

owns_each : (n i : ℕ) → 1 ≤ i → i ≤ n → Owns i (tab suc n) (i - 1) 1
owns_each n i low l =
    let q : suc (i - 1) ≡ i = omega arith in
    record {
      room = omega (arith, length-tab suc n);
      own =
          λ xs k.
          ap (λ (j : ℕ). own_of j (tab suc n) xs) (sym q) ∙ own_each n (i - 1) xs (omega arith)
          ∙ sym (ap (take 1) (drop-cons xs (i - 1) 0 (omega (arith, length-tab suc n))));
    }

module _ (bs : List ℕ) (h : Header) (pl : Planned bs h) (i : ℕ) where
  threshold_few : h.t ≤ 14
  threshold_few = omega (arith, pl.threshold, pl.n-high)

  pub block_few : h.t ≤ 42
  block_few = omega (arith, threshold_few)

  pub three_blocks_few : 3 * h.t ≤ 42
  three_blocks_few = omega (arith, threshold_few)

  -- of the coins of a multiply gate
  module _ (at count : ℕ) (c : h.rule ≡ Reduction) where
    reduction_blocks : coin_owners_at (plan_of bs) (Multiply 0 0) ≡ blocks h.t 0 (h.t + h.t + 1)
    reduction_blocks =
        reduction-owners (plan_of bs) 0 0 (plan_rule pl ∙ c) ∙ ap₂ (λ (t m : ℕ). blocks t 0 m) (plan_t pl) (plan_dealers pl)

    pub dealer_owns : 1 ≤ i → i ≤ h.t + h.t + 1 → at ≡ h.t * (i - 1) → count ≡ h.t → Owns i (coin_owners_at (plan_of bs) (Multiply 0 0)) at count
    dealer_owns low l ea ec = rw (reduction_blocks, ea, ec) (owns_block h.t i (h.t + h.t + 1) low l)

    pub no_dealer : h.t + h.t + 1 < i → Owns i (coin_owners_at (plan_of bs) (Multiply 0 0)) 0 0
    no_dealer l = owns_none i _ (λ xs. ap (λ (o : List ℕ). own_of i o xs) reduction_blocks ∙ blocks_before i h.t 0 (h.t + h.t + 1) xs (omega arith))

  pub truncation_owns : (at count : ℕ) → h.rule ≡ Truncation → 1 ≤ i → i ≤ h.n → at ≡ 3 * h.t * (i - 1) → count ≡ 3 * h.t → Owns i (coin_owners_at (plan_of bs) (Multiply 0 0)) at count
  truncation_owns at count c low l ea ec =
      rw (truncation-owners (plan_of bs) 0 0 (plan_rule pl ∙ c) ∙ ap₂ (λ (t m : ℕ). blocks (3 * t) 0 m) (plan_t pl) (plan_n pl), ea, ec) (owns_block (3 * h.t) i h.n low l)

  module _ (gate : Gate) where
    -- of the inputs
    module _ (s : ℕ) (e : gate ≡ Input s) where
      pub input_owns : s ≡ i → Owns i (input_owners_at (plan_of bs) gate) 0 1
      unfolding input_owners_at
      input_owns f = rw (e, f) (owns_same i 1)

      pub no_input : (s ≡ i → ⊥) → Owns i (input_owners_at (plan_of bs) gate) 0 0
      unfolding input_owners_at
      no_input n = owns_none i _ (λ xs. ap (λ (x : Gate). own_of i (input_owners_at (plan_of bs) x) xs) e ∙ own-other i 1 s xs (λ q. n (sym q)))

    pub draws_own : (at count : ℕ) → gate ≡ Random → 1 ≤ i → i ≤ h.n → at ≡ 1 * (i - 1) → count ≡ 1 → Owns i (input_owners_at (plan_of bs) gate) at count
    unfolding input_owners_at parties
    draws_own at count e low l ea ec = let z : 1 * (i - 1) ≡ i - 1 = omega arith in rw (e, plan_n pl, ea, ec, z) (owns_each h.n i low l)

    pub none_given : ((s : ℕ) → gate ≡ Input s → ⊥) → (gate ≡ Random → ⊥) → Owns i (input_owners_at (plan_of bs) gate) 0 0
    unfolding own_of
    none_given n r = owns_none i _ (λ xs. ap (λ (o : List ℕ). own_of i o xs) (no_draws (plan_of bs) gate n r))

    -- of the coins
    module _ (s : ℕ) (e : gate ≡ Input s) where
      owners_input : coin_owners_at (plan_of bs) gate ≡ replicate h.t s
      owners_input = ap (coin_owners_at (plan_of bs)) e ∙ input-owners (plan_of bs) s ∙ ap (λ (t : ℕ). replicate t s) (plan_t pl)

      pub input_deals : s ≡ i → Owns i (coin_owners_at (plan_of bs) gate) 0 h.t
      input_deals f = rw owners_input (rw f (owns_same i h.t))

      pub input_other : (s ≡ i → ⊥) → Owns i (coin_owners_at (plan_of bs) gate) 0 0
      input_other n = owns_none i _ (λ xs. ap (λ (o : List ℕ). own_of i o xs) owners_input ∙ own-other i h.t s xs (λ q. n (sym q)))

    pub multiply_deals : (a b at count : ℕ) → gate ≡ Multiply a b → Owns i (coin_owners_at (plan_of bs) (Multiply 0 0)) at count → Owns i (coin_owners_at (plan_of bs) gate) at count
    unfolding coin_owners_at dealings_at
    multiply_deals a b at count e d = rw e d

    pub random_deals : (at count : ℕ) → gate ≡ Random → 1 ≤ i → i ≤ h.n → at ≡ h.t * (i - 1) → count ≡ h.t → Owns i (coin_owners_at (plan_of bs) gate) at count
    random_deals at count e low l ea ec =
        rw (ap (coin_owners_at (plan_of bs)) e ∙ random-owners (plan_of bs) ∙ ap₂ (λ (t m : ℕ). blocks t 0 m) (plan_t pl) (plan_n pl), ea, ec) (owns_block h.t i h.n low l)

    pub none_deals : ((s : ℕ) → gate ≡ Input s → ⊥) → ((a b : ℕ) → gate ≡ Multiply a b → ⊥) → (gate ≡ Random → ⊥) → Owns i (coin_owners_at (plan_of bs) gate) 0 0
    unfolding own_of
    none_deals n m r = owns_none i _ (λ xs. ap (λ (o : List ℕ). own_of i o xs) (no_owners (plan_of bs) gate n m r))

-- As it is: answers name this set, since the check leaves their goals open by `using` alone.
pub ruleset owning = (rules, block_few, three_blocks_few, dealer_owns, no_dealer, truncation_owns, input_owns, draws_own, no_input, none_given, input_deals, input_other, multiply_deals, random_deals, none_deals)

module _ (i next at count : ℕ) (list owners : List ℕ) (d : Owns i owners at count) (room : next + length owners ≤ length list / width) where
  pub own_room : next + at + count ≤ length list / width
  own_room = omega (arith, d.room)

  pub own_fits : length list < 2 ^ 63 → Fits w64 (next + at)
  own_fits f = record { fits = omega (arith, d.room) }

  pub own_put : (o next' : ℕ) (old new : List ℕ) → Wrote (take count (drop (next + at) (numbers list))) o old new next' → Wrote (own_of i owners (drop next (numbers list))) o old new next'
  own_put o next' old new w =
      wrote_as _ _ o next' old new
      (ap (take count) (sym (drop-drop at next (numbers list))) ∙ sym (d.own (drop next (numbers list)) (omega (arith, length-drop next (numbers list), numbers-length list)))) w

pub ruleset own_parts = (rules, own_room, own_fits, own_put)

-- ---- a party's own, gate by gate
unfoldable pub inputs_at : Plan → ℕ → List ℕ → Gate → ℕ → ℕ → ℕ → List ℕ
inputs_at plan i xs x next from spent = own_of i (input_owners_at plan x) (drop next xs)

unfoldable pub coins_at : Plan → ℕ → List ℕ → Gate → ℕ → ℕ → ℕ → List ℕ
coins_at plan i cs x next from spent = own_of i (coin_owners_at plan x) (drop from cs)

module _ (plan : Plan) (i : ℕ) (xs : List ℕ) where
  inputs_gathered : (gs : List Gate) (next from spent : ℕ) → own_of i (flat_map (input_owners_at plan) gs) (drop next xs) ≡ gathered (inputs_at plan i xs) plan next from spent gs
  unfolding gathered inputs_at flat_map own_of
  inputs_gathered [] next from spent = refl
  inputs_gathered (x ∷ gs) next from spent =
      own-append i (input_owners_at plan x) (flat_map (input_owners_at plan) gs) (drop next xs)
      ∙ ap (λ (l : List ℕ). own_of i (input_owners_at plan x) (drop next xs) ++ l)
      (ap (own_of i (flat_map (input_owners_at plan) gs)) (drop-drop (length (input_owners_at plan x)) next xs)
      ∙ inputs_gathered gs (next + length (input_owners_at plan x)) (from + length (coin_owners_at plan x)) (spent + triples_taken x))

  coins_gathered : (gs : List Gate) (next from spent : ℕ) → own_of i (flat_map (coin_owners_at plan) gs) (drop from xs) ≡ gathered (coins_at plan i xs) plan next from spent gs
  unfolding gathered coins_at flat_map own_of
  coins_gathered [] next from spent = refl
  coins_gathered (x ∷ gs) next from spent =
      own-append i (coin_owners_at plan x) (flat_map (coin_owners_at plan) gs) (drop from xs)
      ∙ ap (λ (l : List ℕ). own_of i (coin_owners_at plan x) (drop from xs) ++ l)
      (ap (own_of i (flat_map (coin_owners_at plan) gs)) (drop-drop (length (coin_owners_at plan x)) from xs)
      ∙ coins_gathered gs (next + length (input_owners_at plan x)) (from + length (coin_owners_at plan x)) (spent + triples_taken x))

  module _ (at next : ℕ) (old new : List ℕ) where
    pub input_at : (x : Gate) (k from spent : ℕ) → Wrote (own_of i (input_owners_at plan x) (drop k xs)) at old new next → Wrote (inputs_at plan i xs x k from spent) at old new next
    unfolding inputs_at
    input_at x k from spent w = w

    pub coin_at : (x : Gate) (k from spent : ℕ) → Wrote (own_of i (coin_owners_at plan x) (drop from xs)) at old new next → Wrote (coins_at plan i xs x k from spent) at old new next
    unfolding coins_at
    coin_at x k from spent w = w

    pub inputs_put : Wrote (gathered (inputs_at plan i xs) plan 0 0 0 plan.gates) at old new next → Wrote (own_inputs plan i xs) at old new next
    unfolding own_inputs input_owners
    inputs_put w = wrote_as _ _ at next old new (sym (inputs_gathered plan.gates 0 0 0)) w

    pub coins_put : Wrote (gathered (coins_at plan i xs) plan 0 0 0 plan.gates) at old new next → Wrote (own_coins plan i xs) at old new next
    unfolding own_coins coin_owners
    coins_put w = wrote_as _ _ at next old new (sym (coins_gathered plan.gates 0 0 0)) w

pub ruleset own_gates = (rules, input_at, coin_at)

-- ---- a piece
pub nothing_low : (p : ℕ) → 0 ≤ 4294967296 * p
nothing_low p = omega arith

-- dealing d of those that are seen
module _ (p k : ℕ) (vs : List ℕ) (t from step : ℕ) (coins : List ℕ) (s : Seen p k vs t from step (numbers coins)) where
  pub seen_few : t < k
  seen_few = s.few

  pub seen_coins : all_below p (numbers coins) ≡ true
  seen_coins = s.coins

  module _ (d : ℕ) (l : d < length vs) where
    pub piece_room : from + step * d + t ≤ length coins / width
    piece_room = omega (arith, s.room, row_room step d (length vs) l, numbers-length coins)

    pub piece_turn_fits : length coins < 2 ^ 64 → Fits w64 (step * d)
    piece_turn_fits f = record { fits = omega (arith, piece_room) }

    pub piece_place_fits : length coins < 2 ^ 64 → Fits w64 (from + step * d)
    piece_place_fits f = record { fits = omega (arith, piece_room) }

    pub value_below : get_or vs d 0 < p
    value_below = all_below_at p vs d s.values l

-- the polynomial of a dealing of s with t coins, and that it fits the first powers ws of a point
module _ (h : Header) (x : ℕ) (ws : List ℕ) (row : PowerRow h x ws) (t : ℕ) (few : t < length ws) where
  pub end_fits_in : Fits w64 (t + 1)
  end_fits_in = record { fits = omega (arith, row.few) }

  pub end_within : t + 1 ≤ length ws
  end_within = omega arith

  pub front_long : length (take (t + 1) ws) ≡ t + 1
  front_long = length-take-le (t + 1) ws (omega arith)

  pub front_below : all_below h.field.p (take (t + 1) ws) ≡ true
  front_below = all_below-take h.field.p (t + 1) ws row.below

  front_are : take (t + 1) ws ≡ powers h.field.p x (t + 1)
  unfolding powers
  front_are = ap (take (t + 1)) row.are ∙ take-tab (power h.field.p x) (length ws) (t + 1) (omega arith)

  module _ (s from : ℕ) (coins : List ℕ) (room : from + t ≤ length coins / width) where
    coins_long : length (take t (drop from (numbers coins))) ≡ t
    coins_long = length-take-le t (drop from (numbers coins)) (omega (arith, length-drop from (numbers coins), numbers-length coins))

    pub piece_is : (v : ℕ) → Is h.field.p (dot h.field.p (take (t + 1) ws) (s ∷ take t (drop from (numbers coins)))) v
        → Is h.field.p (eval h.field.p (s ∷ take t (drop from (numbers coins))) x) v
    piece_is v is =
        let f : List ℕ = s ∷ take t (drop from (numbers coins)) in
        let long : t + 1 ≡ length f = omega (arith, coins_long) in
        rw (ap (λ (us : List ℕ). dot h.field.p us f) (front_are ∙ ap (powers h.field.p x) long) ∙ eval-powers h.field.p f x) at is

    pub coefficients_below : all_below h.field.p (numbers coins) ≡ true → s < h.field.p → all_below h.field.p (s ∷ take t (drop from (numbers coins))) ≡ true
    unfolding all_below
    coefficients_below b l = rw (lt-ltb s h.field.p l) (all_below-take h.field.p t (drop from (numbers coins)) (all_below-drop h.field.p from (numbers coins) b))

    pub dealt_first :
        (z : ℕ) → Ready h.field.p → all_below h.field.p (numbers coins) ≡ true → s < h.field.p → z ≡ kept h.field.p (0 + get_or (take (t + 1) ws) 0 0 * s)
        → Summed h.field.p (take (t + 1) ws) (s ∷ take t (drop from (numbers coins))) z 1
    dealt_first z r b l ez =
        sum_more h.field.p (take (t + 1) ws) (s ∷ take t (drop from (numbers coins))) r 0 0 (sum-none h.field.p (take (t + 1) ws) (s ∷ take t (drop from (numbers coins)))) front_below
        (coefficients_below b l) (get_or (take (t + 1) ws) 0 0) s (record { within = omega (arith, front_long); also = omega arith; left = refl; right = refl }) z 1 ez refl

    pub next_pair : (j c : ℕ) → j < t → c ≡ get_or (numbers coins) (from + j) 0 → Pair (take (t + 1) ws) (s ∷ take t (drop from (numbers coins))) (j + 1) (get_or (take (t + 1) ws) (j + 1) 0) c
    next_pair j c l e =
        record {
          within = omega (arith, front_long);
          also = omega (arith, coins_long);
          left = refl;
          right = e ∙ sym (rw add-one (get_or-take t (drop from (numbers coins)) j 0 l ∙ get_or-drop from (numbers coins) j 0));
        }

  pub first_below : (s : ℕ) → Ready h.field.p → s < h.field.p → Below2 h.field.p (get_or (take (t + 1) ws) 0 0) s
  first_below s r l = record { left = entry_below h.field.p (take (t + 1) ws) 0 r front_below; right = l }

  pub front_short : length (take (t + 1) ws) ≤ 16
  front_short = omega (arith, front_long, row.few)

  pub power_within : (j : ℕ) → j < t → j + 1 < length (take (t + 1) ws)
  power_within j l = omega (arith, front_long)

  pub front_end : (j : ℕ) → t ≤ j → length (take (t + 1) ws) ≤ j + 1
  front_end j l = omega (arith, front_long)

-- As it is: answers name this set, since the check leaves their goals open by `using` alone.
pub ruleset dealing = (summing, nothing_low, seen_few, seen_coins, piece_room, piece_turn_fits, piece_place_fits, value_below, end_fits_in, end_within, front_below, front_long, front_short, power_within, front_end, piece_is, coefficients_below, dealt_first, next_pair, first_below, part_within, part_fits)

-- ---- the pieces
-- the invariant at dealing d
pub record Piecing (p : ℕ) (vs : List ℕ) (t : ℕ) (cs : List ℕ) (from step x at : ℕ) (old new : List ℕ) (next d : ℕ) : Type 0 where
  pub tabbed : Tabbing (λ j. eval p (get_or vs j 0 ∷ take t (drop (from + step * j) cs)) x) (length vs) at old new next d

module _ (p : ℕ) (vs : List ℕ) (t : ℕ) (cs : List ℕ) (from step x at : ℕ) (old : List ℕ) where
  pub pieces_all : at ≤ length old / width → Piecing p vs t cs from step x at old old at 0
  pieces_all l = record { tabbed = tab_all _ _ at old l }

  module _ (new : List ℕ) (next d : ℕ) (s : Piecing p vs t cs from step x at old new next d) where
    pub pieces_next :
        (new' : List ℕ) (next' v : ℕ) → d < length vs → Is p (eval p (get_or vs d 0 ∷ take t (drop (from + step * d) cs)) x) v → Wrote (v ∷ []) next new new' next'
        → Piecing p vs t cs from step x at old new' next' (d + 1)
    pieces_next new' next' v l iv w = record { tabbed = tab_put _ (length vs) at old new next d s.tabbed v new' next' l iv.eq w }

    pub pieces_end : length vs ≤ d → Wrote (pieces_of p vs t cs from step x) at old new next
    pieces_end l =
        wrote_as _ _ at next old new
        (tab-ext (λ j. eval p (get_or vs j 0 ∷ take t (drop (from + step * j) cs)) x) (λ j. eval p (get_or vs j 0 ∷ take t (drop (step * j) (drop from cs))) x) (length vs)
        (λ j k. ap (λ (c : List ℕ). eval p (get_or vs j 0 ∷ take t c) x) (sym (drop-drop (step * j) from cs)))
        ∙ sym (pieces_tab p vs t cs from step x))
        (tab_done _ (length vs) at old new next d s.tabbed l)

-- As it is: answers name this set, since the check leaves their goals open by `using` alone.
pub ruleset pieces = (rules, not-true, not-false, pieces_all, pieces_next, pieces_end)

-- ---- the pieces of dealt products
product_low : (p a b : ℕ) → Ready p → mul p a b < p
unfolding mul
product_low p a b r = mod-lt (a * b) (omega (arith, r.prime.above))

few_coins : (rule : Rule) (t k : ℕ) → power_count rule t ≤ k → t ≤ 14 → t < k
unfolding power_count
few_coins Reduction t k l m = omega arith
few_coins Truncation t k l m = omega arith

pub take_replicate : (n m : ℕ) → n ≤ m → take n (replicate {A = ℕ} m 0) ≡ replicate n 0
take_replicate zero m l = refl
take_replicate (suc n) zero l = absurd (omega arith)
take_replicate (suc n) (suc m) l = ap (λ (xs : List ℕ). 0 ∷ xs) (take_replicate n m (omega arith))

zeros_below : (p n : ℕ) → Ready p → all_below p (replicate n 0) ≡ true
zeros_below p n r = rw (← tab-replicate {A = ℕ} 0 n) (all_below-tab p (λ i. 0) n (λ i l. omega (arith, r.prime.above)))

-- the dealings of a run
module _ (plan : Plan) (h : Header) (xs cs ts table : List ℕ) (ran : Ran plan h xs cs ts table) where
  pub row_stands : (w : ℕ) → w < h.gates → Rowed h.field.p h.n w table
  unfolding row_in
  row_stands w l = record { room = row_within h table ran.running w l; below = row_below h table ran.running w l }

  pub left_row : (a b : ℕ) → Multiplies h a b → Rowed h.field.p h.n a table
  left_row a b m = row_stands a m.left

  pub right_row : (a b : ℕ) → Multiplies h a b → Rowed h.field.p h.n b table
  right_row a b m = row_stands b m.right

  pub dealers_within : (a b : ℕ) → Multiplies h a b → (h.t + h.t + 1 ≤ h.n) × (h.n ≤ 15)
  dealers_within a b m = (omega (arith, m.majority), ran.running.few)

  module _ (x : ℕ) (ws : List ℕ) (q : PowerRow h x ws) where
    row_wide : h.t < length ws
    row_wide = few_coins h.rule h.t (length ws) q.some (omega (arith, ran.running.threshold, ran.running.few))

    pub products_seen :
        (a b from : ℕ) (row : List ℕ) → Multiplies h a b → from + taken_by Reduction h ≤ length cs → take (h.t + h.t + 1) row ≡ products_of h.field.p h.n (h.t + h.t + 1) a b table
        → Seen h.field.p (length ws) (take (h.t + h.t + 1) row) h.t from h.t cs
    unfolding products_of taken_by
    products_seen a b from row m room e =
        let small : all_below h.field.p (products_of h.field.p h.n (h.t + h.t + 1) a b table) ≡ true =
        all_below-tab h.field.p _ (h.t + h.t + 1) (λ i l. product_low h.field.p (get_or table (h.n * a + i) 0) (get_or table (h.n * b + i) 0) ran.running.ready) in
        record {
          few = row_wide;
          values = rw e small;
          coins = ran.below;
          room = rw (e, length-tab (product_at h.field.p h.n a b table) (h.t + h.t + 1)) (omega arith);
        }

    -- of the draws, those of the first k parties
    pub draws_seen :
        (next : ℕ) (list row : List ℕ) (from k : ℕ) → numbers list ≡ drop next xs → take h.n row ≡ draws_of h.n (numbers list) → from + h.t * h.n ≤ length cs → k ≤ h.n
        → Seen h.field.p (length ws) (take k row) h.t from h.t cs
    unfolding draws_of
    draws_seen next list row from k rest e room l =
        let long : length (take h.n row) ≡ h.n = ap length e ∙ length-tab (λ d. get_or (numbers list) d 0) h.n in
        let first : take k (take h.n row) ≡ take k row = take-take k h.n row l in
        let count_is : length (take k row) ≡ k = ap length (sym first) ∙ length-take-le k (take h.n row) (omega (arith, long)) in
        let small : all_below h.field.p (draws_of h.n (numbers list)) ≡ true =
        all_below-tab h.field.p _ h.n (λ i l. entry_below h.field.p (numbers list) i ran.running.ready (rw rest (all_below-drop h.field.p next xs ran.inputs_below))) in
        record {
          few = row_wide;
          values = rw (← first) (all_below-take h.field.p k (take h.n row) (rw e small));
          coins = ran.below;
          room = omega (arith, ap (λ (m : ℕ). h.t * m) count_is, mul-le-mul_left {m = k} {n = h.n} h.t l);
        }

    module _ (a b from : ℕ) (m : Multiplies h a b) (truncates : h.rule ≡ Truncation) (room : from + taken_by Truncation h ≤ length cs) where
      row_full : length ws ≡ 16
      unfolding power_count
      row_full = omega (arith, q.few, ap (λ (r : Rule). power_count r h.t) (sym truncates), q.some)

      pub zeros_seen : (row : List ℕ) → row ≡ replicate 15 0 → Seen h.field.p (length ws) (take h.n row) (h.t + h.t) from (3 * h.t) cs
      unfolding taken_by
      zeros_seen row e =
          let is : take h.n row ≡ replicate h.n 0 = rw e (take_replicate h.n 15 ran.running.few) in
          record {
            few = omega (arith, row_full, m.majority, ran.running.few);
            values = rw is (zeros_below h.field.p h.n ran.running.ready);
            coins = ran.below;
            room = rw (is, length-replicate {A = ℕ} h.n 0) (omega arith);
          }

      module _ (bs : List ℕ) (pl : Planned bs h) (p t : ℕ) (points us : List ℕ) (fitted : Fitted bs h p t points us) (row : List ℕ)
          (e : take (length points) row ≡ masked_of p t points a b table (drop from cs)) where
        count_is : length points ≡ h.n
        count_is = ap length fitted.are ∙ plan_points_long bs h pl

        pub masked_are : take h.n row ≡ masked_of h.field.p h.t (plan_of bs).points a b table (drop from cs)
        masked_are =
            ap (λ (n : ℕ). take n row) (sym count_is) ∙ e
            ∙ ap (λ (ps : List ℕ). masked_of p t ps a b table (drop from cs)) fitted.are
            ∙ ap₂ (λ (q s : ℕ). masked_of q s (plan_of bs).points a b table (drop from cs)) fitted.field fitted.threshold

        masked_long : length (take h.n row) ≡ h.n
        unfolding masked_of
        masked_long = ap length masked_are ∙ length-tab _ (length (plan_of bs).points) ∙ plan_points_long bs h pl

        pub masked_counted : length (take h.n row) ≡ h.n
        masked_counted = masked_long

        pub masked_seen : Seen h.field.p (length ws) (take h.n row) h.t (from + (h.t + h.t)) (3 * h.t) cs
        unfolding taken_by masked_of
        masked_seen =
            record {
              few = row_wide;
              values = rw masked_are (all_below-tab h.field.p _ (length (plan_of bs).points) (λ i l. canon-lt (pos ran.running.ready.prime) (add_canon _ _)));
              coins = ran.below;
              room = omega (arith, ap (λ (n : ℕ). 3 * h.t * n) masked_long);
            }

module _ (h : Header) (points table cs : List ℕ) (x a b from at next : ℕ) (old new row : List ℕ) where
  pub products_put : take (h.t + h.t + 1) row ≡ products_of h.field.p h.n (h.t + h.t + 1) a b table → Wrote (pieces_of h.field.p (take (h.t + h.t + 1) row) h.t cs from h.t x) at old new next
      → Wrote (multiply_in Reduction h points table cs x a b from) at old new next
  unfolding multiply_in
  products_put e w = rw (← e) w

pub ruleset product_pieces = (rules, left_row, right_row, dealers_within, products_seen, products_put)

pub ruleset draw_pieces = (rules, draws_seen)

-- ---- the powers of a party's point
module _ (bs : List ℕ) (h : Header) (pl : Planned bs h) (p t : ℕ) (points ws : List ℕ) (fitted : Fitted bs h p t points ws) (i : ℕ) (low : 1 ≤ i) (high : i ≤ h.n) where
  pub point_there : i - 1 < length points
  point_there = omega (arith, ap length fitted.are, plan_points_long bs h pl)

  pub point_small : get_or points (i - 1) 0 < h.field.p
  point_small = all_below_at h.field.p points (i - 1) (rw fitted.are (plan_points_below bs h pl)) point_there

  row_of_powers : (row : List ℕ) → power_count h.rule h.t ≤ length row → length row ≤ 16 → row ≡ powers h.field.p (get_or points (i - 1) 0) (length row) → PowerRow h (point_of (plan_of bs) i) row
  unfolding point_of
  row_of_powers row some few are =
      record {
        some = some;
        few = few;
        are = are ∙ ap (λ (ps : List ℕ). powers h.field.p (get_or ps (i - 1) 0) (length row)) fitted.are;
        below = rw are (powers_below h.field.p (get_or points (i - 1) 0) (length row) (planned-ready bs h pl));
      }

  pub run_powers : (row : List ℕ) → h.rule ≡ Reduction → t < length row → length row ≤ 16 → row ≡ powers p (get_or points (i - 1) 0) (length row) → PowerRow h (point_of (plan_of bs) i) row
  unfolding power_count
  run_powers row c some few are =
      row_of_powers row (rw c (omega (arith, fitted.threshold))) few (are ∙ ap (λ (q : ℕ). powers q (get_or points (i - 1) 0) (length row)) fitted.field)

  pub all_powers : (old row : List ℕ) → h.rule ≡ Truncation → length old ≡ 16 → row ≡ powers h.field.p (get_or points (i - 1) 0) (length old) → PowerRow h (point_of (plan_of bs) i) row
  unfolding power_count
  all_powers old row c long are =
      let count : length row ≡ length old = ap length are ∙ length-powers h.field.p (get_or points (i - 1) 0) (length old) in
      row_of_powers row (rw c (omega (arith, count))) (omega (arith, count)) (are ∙ ap (powers h.field.p (get_or points (i - 1) 0)) (sym count))

-- the mail of all gates' steps
pub ruleset stepping = (rules, point_there, point_small, run_powers, all_powers)

-- ---- the pieces of the truncated share
-- the matrix' row of a point
module _ (p t : ℕ) (ps : List ℕ) (m : Matrix) (c : Cutting p t ps m) (i : ℕ) (ws : List ℕ) (is : ws ≡ row m.sums.field.p m.t m.points.now (get_or m.points.now (i - 1) 0)) where
  pub row_is_of : ws ≡ row p t ps (get_or ps (i - 1) 0)
  row_is_of = is ∙ ap₂ (λ (q s : ℕ). row q s m.points.now (get_or m.points.now (i - 1) 0)) c.field c.threshold ∙ ap (λ (xs : List ℕ). row p t xs (get_or xs (i - 1) 0)) c.are

  pub matrix_row_long : length ws ≡ length ps
  matrix_row_long = ap length row_is_of ∙ length-row p t ps (get_or ps (i - 1) 0)

  pub row_within_points : length ws ≤ length ps
  row_within_points = omega (arith, matrix_row_long)

  pub row_small : Ready p → all_below p ws ≡ true
  row_small r = rw row_is_of (row_elements p t ps (get_or ps (i - 1) 0) r)

pub matrix_point : (p t : ℕ) (ps : List ℕ) (m : Matrix) (i : ℕ) → Cutting p t ps m → i < length ps → i < length m.points.now
matrix_point p t ps m i c l = omega (arith, ap length c.are)

pub seen_values : (p q k : ℕ) (vs : List ℕ) (t from step : ℕ) (cs : List ℕ) → q ≡ p → Seen p k vs t from step cs → all_below q vs ≡ true
seen_values p q k vs t from step cs e s = rw e s.values

pub seen_spaced : (p q k : ℕ) (vs : List ℕ) (t from step : ℕ) (cs : List ℕ) → q ≡ p → Seen p k vs t from step cs → Spaced q t step (length vs) from cs
seen_spaced p q k vs t from step cs e s = record {
  room = s.room;
  below = λ d l. rw e (all_below-take p t (drop (from + step * d) cs) (all_below-drop p (from + step * d) cs s.coins));
}

module _ (bs : List ℕ) (h : Header) (pl : Planned bs h) (p t : ℕ) (points us : List ℕ) (fitted : Fitted bs h p t points us) where
  points_count : length points ≡ h.n
  points_count = ap length fitted.are ∙ plan_points_long bs h pl

  -- the coins and the rows that the masked products take, in the words of the run's dealings
  pub masked_coined : (from : ℕ) (cs : List ℕ) → all_below h.field.p cs ≡ true → from + taken_by Truncation h ≤ length cs → Coined p (3 * t) (length points) from cs
  unfolding taken_by
  masked_coined from cs b room = record {
    room = rw (fitted.threshold, points_count) room;
    below = rw (fitted.field) (all_below-take h.field.p (3 * t * length points) (drop from cs) (all_below-drop h.field.p from cs b));
  }

  pub rowed_as : (w : ℕ) (table : List ℕ) → Rowed h.field.p h.n w table → Rowed p (length points) w table
  rowed_as w table r = rw (fitted.field, points_count) r

  -- the products, likewise
  pub rowed_in : (w : ℕ) (table : List ℕ) → Rowed h.field.p h.n w table → Rowed p h.n w table
  rowed_in w table r = rw (fitted.field) r

  pub products_are : (m a b : ℕ) (table row : List ℕ) → take m row ≡ products_of p h.n m a b table → take m row ≡ products_of h.field.p h.n m a b table
  products_are m a b table row e = e ∙ ap (λ (q : ℕ). products_of q h.n m a b table) fitted.field

  pub small_threshold : h.t < 8 → t < 8
  small_threshold l = omega (arith, fitted.threshold)

  pub same_threshold : (s : ℕ) → s ≡ h.t → s ≡ t
  same_threshold s e = e ∙ sym fitted.threshold

  pub counted_as_points : (k : ℕ) → k ≡ h.n → k ≡ length points
  counted_as_points k e = e ∙ sym points_count

  pub truncated_put :
      (i : ℕ) (ws pieces : List ℕ) (fs : List (List ℕ)) (at next : ℕ) (old new : List ℕ) → ws ≡ row p t points (get_or points (i - 1) 0)
      → take (length points) pieces ≡ map (mixed_at p ws fs) points → Wrote (take h.n pieces) at old new next
      → Wrote (map (mixed_at h.field.p (row h.field.p h.t (plan_of bs).points (point_of (plan_of bs) i)) fs) (plan_of bs).points) at old new next
  unfolding point_of
  truncated_put i ws pieces fs at next old new ew ep w =
      wrote_as _ _ at next old new
      (ap (λ (n : ℕ). take n pieces) (sym points_count) ∙ ep
      ∙ ap (λ (vs : List ℕ). map (mixed_at p vs fs) points) ew
      ∙ ap (λ (qs : List ℕ). map (mixed_at p (row p t qs (get_or qs (i - 1) 0)) fs) qs) fitted.are
      ∙ ap₂ (λ (q s : ℕ). map (mixed_at q (row q s (plan_of bs).points (get_or (plan_of bs).points (i - 1) 0)) fs) (plan_of bs).points) fitted.field fitted.threshold)
      w

pub counted_with : (a b c : ℕ) → a ≡ c → b ≡ c → a ≡ b
counted_with a b c e f = e ∙ sym f

-- As it is: answers name this set, since the check leaves their goals open by `using` alone.
pub ruleset truncating = (rules, row_is_of, matrix_row_long, row_within_points, row_small, matrix_point, seen_values, seen_spaced, point_there, small_threshold, same_threshold, counted_as_points, counted_with, truncated_put)

-- ---- the mail of a multiply gate by truncation
module _ (h : Header) (points table cs : List ℕ) (x a b from : ℕ) (at n1 n2 next : ℕ) (old d1 d2 new none masked : List ℕ) where
  pub truncation_put :
      take h.n none ≡ replicate h.n 0 → take h.n masked ≡ masked_of h.field.p h.t points a b table (drop from cs)
      → Wrote (pieces_of h.field.p (take h.n none) (h.t + h.t) cs from (3 * h.t) x) at old d1 n1
      → Wrote (pieces_of h.field.p (take h.n masked) h.t cs (from + (h.t + h.t)) (3 * h.t) x) n1 d1 d2 n2
      → Wrote (map (mixed_at h.field.p (row h.field.p h.t points x) (shared_by h.t (3 * h.t) (take h.n masked) (drop (from + (h.t + h.t)) cs))) points) n2 d2 new next
      → Wrote (multiply_in Truncation h points table cs x a b from) at old new next
  unfolding multiply_in zeros_in masked_in truncated_in mixed_at pieces_of
  truncation_put ez em u v w =
      wrote_then _ _ at n1 next old d1 new (rw ez at u)
      (wrote_then _ _ n1 n2 next d1 d2 new (rw em at v) (rw em at w))

-- where the masked products' coins begin
pub masked_begin_fits : (h : Header) (from : ℕ) (coins : List ℕ) → h.t < 8 → from + taken_by Truncation h ≤ length (numbers coins) → length coins < 2 ^ 63 → Fits w64 (from + (h.t + h.t))
unfolding taken_by
masked_begin_fits h from coins few room lent = record { fits = omega (arith, room, numbers-length coins) }

pub small_by_majority : (h : Header) (a b : ℕ) → Multiplies h a b → h.n ≤ 15 → h.t < 8
small_by_majority h a b m l = omega (arith, m.majority)

-- As it is: answers name this set, since the check leaves their goals open by `using` alone.
pub ruleset truncation_pieces = (rules, left_row, right_row, small_by_majority, zeros_seen, masked_seen, masked_are, masked_counted, take_replicate, truncation_put)

-- ---- the mail of a multiply gate, by the matrix that is kept
module _ (h : Header) (p t : ℕ) (ps : List ℕ) (kept : Option Matrix) (ruled : Ruling h.rule p t ps kept) (count from : ℕ) (room : from + taken_by h.rule h ≤ count) where
  module _ (e : kept ≡ None) where
    pub reduction_room : from + taken_by Reduction h ≤ count
    unfolding taken_by
    reduction_room = rw (ruled.none e) at room

  module _ (m : Matrix) (e : kept ≡ Some m) where
    pub truncation_room : from + taken_by Truncation h ≤ count
    unfolding taken_by
    truncation_room = rw (ruled.some m e) at room

module _ (h : Header) (p t : ℕ) (ps : List ℕ) (kept : Option Matrix) (ruled : Ruling h.rule p t ps kept) where
  pub reduces : kept ≡ None → Reduction ≡ h.rule
  reduces e = sym (ruled.none e)

  module _ (m : Matrix) (e : kept ≡ Some m) where
    pub truncates : h.rule ≡ Truncation
    truncates = ruled.some m e

    pub cuts_by : Cutting p t ps m
    cuts_by = ruled.cuts m e

pub multiply_by : (r q : Rule) (h : Header) (points table cs : List ℕ) (x a b from at next : ℕ) (old new : List ℕ) → r ≡ q → Wrote (multiply_in r h points table cs x a b from) at old new next
    → Wrote (multiply_in q h points table cs x a b from) at old new next
multiply_by r q h points table cs x a b from at next old new e w = rw e at w

pub multiply_as : (r q : Rule) (h : Header) (points table cs : List ℕ) (x a b from at next : ℕ) (old new : List ℕ) → q ≡ r → Wrote (multiply_in r h points table cs x a b from) at old new next
    → Wrote (multiply_in q h points table cs x a b from) at old new next
multiply_as r q h points table cs x a b from at next old new e w = rw (← e) at w

-- ---- the openings of a gate that spends a triple
module _ (bs : List ℕ) (h : Header) (pl : Planned bs h) (p t : ℕ) (points ws : List ℕ) (fitted : Fitted bs h p t points ws) where
  parties_are : length points ≡ h.n
  parties_are = points_count bs h pl p t points ws fitted

  pub spent_next : (spent : ℕ) (ts : List ℕ) → Spending h.field.p h.n 3 spent ts → Spending p (length points) 3 spent ts
  spent_next spent ts s = rw (fitted.field, parties_are) s

  -- a difference of party j
  difference_read : (w k spent : ℕ) (ts table row : List ℕ) (j : ℕ) → j < h.n → take (length points) row ≡ differences_of p (length points) w k ts spent table
      → get_or row j 0 ≡ get_or (differences_of h.field.p h.n w k ts spent table) (j + 1 - 1) 0
  difference_read w k spent ts table row j l e =
      let q : j ≡ j + 1 - 1 = omega arith in
      sym (get_or-take (length points) row j 0 (omega (arith, parties_are)))
      ∙ ap (λ (r : List ℕ). get_or r j 0) (e ∙ ap₂ (λ (f n : ℕ). differences_of f n w k ts spent table) fitted.field parties_are)
      ∙ ap (λ (i : ℕ). get_or (differences_of h.field.p h.n w k ts spent table) i 0) q

  -- what party j opens
  opened_two : (a b spent : ℕ) (ts table left right : List ℕ) (j : ℕ) → j < h.n → take (length points) left ≡ differences_of p (length points) a 0 ts spent table
      → take (length points) right ≡ differences_of p (length points) b 1 ts spent table
      → get_or left j 0 ∷ get_or right j 0 ∷ [] ≡ opens_in h.field.p h.n table ts a b spent (j + 1)
  unfolding opens_in
  opened_two a b spent ts table left right j l el er =
      ap₂ (λ (x y : ℕ). x ∷ y ∷ []) (difference_read a 0 spent ts table left j l el) (difference_read b 1 spent ts table right j l er)

  -- the invariant after party j
  pub openings_next : (a b spent : ℕ) (ts table left right : List ℕ) (at : ℕ) (old new : List ℕ) (next j : ℕ) (new' : List ℕ) (next' : ℕ) → j < h.n
      → take (length points) left ≡ differences_of p (length points) a 0 ts spent table → take (length points) right ≡ differences_of p (length points) b 1 ts spent table
      → Rounding (opens_in h.field.p h.n table ts a b spent) bs at old new next j → Wrote (get_or left j 0 ∷ get_or right j 0 ∷ []) next new new' next'
      → Rounding (opens_in h.field.p h.n table ts a b spent) bs at old new' next' (j + 1)
  openings_next a b spent ts table left right at old new next j new' next' l el er s w =
      rounds_next (opens_in h.field.p h.n table ts a b spent) bs at old h new next j s pl new' next' l (wrote_as _ _ next next' new new' (opened_two a b spent ts table left right j l el er) w)

pub openings_done : (bs : List ℕ) (h : Header) (pl : Planned bs h) (table ts : List ℕ) (a b spent at : ℕ) (old new : List ℕ) (next j : ℕ)
    → Rounding (opens_in h.field.p h.n table ts a b spent) bs at old new next j → h.n ≤ j → Wrote (openings_in h.field.p h.n table ts a b spent) at old new next
unfolding openings_in parties
openings_done bs h pl table ts a b spent at old new next j s l =
    wrote_as _ _ at next old new (ap (λ (n : ℕ). flat_map (opens_in h.field.p h.n table ts a b spent) (tab suc n)) (plan_n pl)) (rounds_end (opens_in h.field.p h.n table ts a b spent) bs at old h new next j s pl l)

pub ruleset openings = (rules, rounds_all, openings_done)

-- ---- the mail of a gate's steps
module _ (h : Header) (points table xs cs ts : List ℕ) (x next from spent at : ℕ) (old new : List ℕ) (next' : ℕ) (gate : Gate) where
  pub multiply_pieces : (a b : ℕ) → gate ≡ Multiply a b → Wrote (multiply_in h.rule h points table cs x a b from) at old new next'
      → Wrote (pieces_in h points table xs cs ts x gate next from spent) at old new next'
  unfolding pieces_in
  multiply_pieces a b e w = rw e w

  pub random_pieces : gate ≡ Random → Wrote (pieces_of h.field.p (draws_of h.n (drop next xs)) h.t cs from h.t x) at old new next' → Wrote (pieces_in h points table xs cs ts x gate next from spent) at old new next'
  unfolding pieces_in
  random_pieces e w = rw e w

  pub spent_pieces : (a b : ℕ) → gate ≡ Spend a b → Wrote (openings_in h.field.p h.n table ts a b spent) at old new next' → Wrote (pieces_in h points table xs cs ts x gate next from spent) at old new next'
  unfolding pieces_in
  spent_pieces a b e w = rw e w

none_seen : (h : Header) (points table xs cs ts : List ℕ) (x next from spent : ℕ) (gate : Gate) → ((a b : ℕ) → gate ≡ Multiply a b → ⊥) → (gate ≡ Random → ⊥) → ((a b : ℕ) → gate ≡ Spend a b → ⊥) → pieces_in h points table xs cs ts x gate next from spent ≡ []
unfolding pieces_in
none_seen h points table xs cs ts x next from spent (Input i) n r o = refl
none_seen h points table xs cs ts x next from spent (Add a b) n r o = refl
none_seen h points table xs cs ts x next from spent (Scale a c) n r o = refl
none_seen h points table xs cs ts x next from spent (Offset a c) n r o = refl
none_seen h points table xs cs ts x next from spent (Multiply a b) n r o = absurd (n a b refl)
none_seen h points table xs cs ts x next from spent Random n r o = absurd (r refl)
none_seen h points table xs cs ts x next from spent (Spend a b) n r o = absurd (o a b refl)

pub no_pieces : (h : Header) (points table xs cs ts : List ℕ) (x next from spent : ℕ) (gate : Gate) → ((a b : ℕ) → gate ≡ Multiply a b → ⊥) → (gate ≡ Random → ⊥) → ((a b : ℕ) → gate ≡ Spend a b → ⊥)
    → (at : ℕ) (old : List ℕ) → at ≤ length old / width → Wrote (pieces_in h points table xs cs ts x gate next from spent) at old old at
no_pieces h points table xs cs ts x next from spent gate n r o at old l = rw (none_seen h points table xs cs ts x next from spent gate n r o) (wrote_none at old l)

module _ (bs : List ℕ) (h : Header) (gate : Gate) (pl : Planned bs h) where
  module _ (a b : ℕ) (e : gate ≡ Multiply a b) where
    module _ (s : Stands bs h.gates gate) where
      operands_kept : (a < s.place) × (b < s.place)
      unfolding gate_ok
      operands_kept =
          let ok = both_true (ltb a s.place) (ltb b s.place) (rw e at (gate-kept bs h pl s.place gate s.within s.is)) in
          (ltb-true a s.place ok.0, ltb-true b s.place ok.1)

      pub gate_multiplies : Multiplies h a b
      unfolding multiplying is_kind kind_of
      gate_multiplies =
          record {
            majority = gate_majority bs h pl s.place gate s.within s.is (ap multiplying e);
            left = omega (arith, operands_kept.0, s.within);
            right = omega (arith, operands_kept.1, s.within);
          }

    gate_taken : taken_by h.rule h ≡ length (coin_owners_at (plan_of bs) gate)
    unfolding taken_by
    gate_taken = pick h.rule refl
      where
        pick : (r : Rule) → h.rule ≡ r → taken_by r h ≡ length (coin_owners_at (plan_of bs) gate)
        pick Reduction q = coins_reduction bs h pl gate a b e q
        pick Truncation q = coins_truncation bs h pl gate a b e q

    pub gate_coins : (from : ℕ) (coins : List ℕ) → from + length (coin_owners_at (plan_of bs) gate) ≤ length coins / width → from + taken_by h.rule h ≤ length (numbers coins)
    gate_coins from coins room = omega (arith, gate_taken, numbers-length coins)

  -- a gate that spends a triple
  module _ (a b : ℕ) (e : gate ≡ Spend a b) where
    pub gate_spends : Stands bs h.gates gate → Spends h a b
    unfolding gate_ok
    gate_spends s =
        let ok = both_true (ltb a s.place) (ltb b s.place) (rw e at (gate-kept bs h pl s.place gate s.within s.is)) in
        record { left = omega (arith, ltb-true a s.place ok.0, s.within); right = omega (arith, ltb-true b s.place ok.1, s.within) }

    pub gate_spending : (spent : ℕ) (ts : List ℕ) → Spending h.field.p h.n (triples_taken gate) spent ts → Spending h.field.p h.n 3 spent ts
    unfolding triples_taken is_kind kind_of
    gate_spending spent ts s = let three : triples_taken gate ≡ 3 = ap triples_taken e in record { room = omega (arith, s.room); below = s.below }

  pub gate_draws : gate ≡ Random → (from : ℕ) (coins : List ℕ) → from + length (coin_owners_at (plan_of bs) gate) ≤ length coins / width → from + h.t * h.n ≤ length (numbers coins)
  gate_draws e from coins room = omega (arith, coins_random bs h pl gate e, numbers-length coins)

-- As it is: answers name this set, since the check leaves their goals open by `using` alone.
pub ruleset gate_pieces = (rules, reduction_room, truncation_room, reduces, truncates, cuts_by, multiply_by, multiply_as, gate_multiplies, gate_coins, gate_draws, gate_spends, gate_spending, multiply_pieces, random_pieces, spent_pieces, no_pieces)
