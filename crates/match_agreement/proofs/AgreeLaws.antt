-- What each way through the checks of a matching says of its definition.
--     inputting, coining       the set, the inputs, the coins and the buffer
--     agreeing                 one input
--     drawing, gating          the search among a gate's inputs
--     Comparing, comparing     the search for an input that differs
--     outing                   the search for an out that differs
--     pairing                  all checks
--     matchable                what a pair that passes is
-- Assumes nothing.
use Rattle.std.proofs.Common.{Option, Some, None, Ok, Err}
use mathlib.Core.Path.{◌≡◌, refl, sym, ap, ◌∙◌}
use mathlib.Core.Bool.{Bool, true, false, not, ◌||◌}
use mathlib.Core.List.{List, [], ◌∷◌, ◌++◌, flat_map}
use Prim.Native.Nat.{ℕ, suc, ◌+◌, ◌-◌, ◌*◌, ◌<◌, ◌≤◌}
use native.Mathlib.Decide.{dec_le}
use native.Mathlib.Numerals.{add-one}
use native.Mathlib.Nat.{add-zero}
use native.Mathlib.Omega.{arith}
use borrow.Author.Rules.{rules}
use borrow.Author.Tests.{not-true, not-false, eq-eqb, ne_eqb, eqb-true}
use mir.Syntax.{w64}
use mir.Val.{Fits}
use lib.Dec.{eqb}
use lib.ListN.{length, get_or, take, drop, length-append, take-append-drop, get_or-append}
use lib.Seq.{take_all, drop-cons, get_or-append-add}
use Rattle.numbers.specs.Tables.{tab, first_from, first_failing}
use Rattle.numbers.specs.Bytes.{width, numbers, holds_count, first_over, all_below}
use Rattle.numbers.proofs.Bytes.{holds-length}
use Rattle.numbers.proofs.Below.{first_over-nothing}
use Rattle.sharing_laws.proofs.Lists.{flat_map-append}
use Rattle.numbers.proofs.Tables.{length-tab, get_or-tab}
use Rattle.numbers.proofs.Searches.{Seeking, begin, found, passed, nothing, seeking, First, nothing_passes, passes-nothing, first_failing_lem, failing_first}
use Rattle.plan.specs.declared.Gate.{Gate}
use Rattle.plan.specs.declared.Gate.TheVariants.{Input, Add, Scale, Offset, Multiply, Random, Spend}
use Rattle.plan.specs.declared.Output.{Output}
use Rattle.plan.specs.declared.Header.{Header}
use Rattle.plan.specs.Refusals.{Checked}
use Rattle.plan.specs.declared.Refusal.{Refusal}
use Rattle.plan.specs.declared.Refusal.TheVariants as refusal
use Rattle.plan.specs.Refusals.{and_then, first_of, need, unless_found}
use Rattle.plan.specs.Plans.{Plan, parties, kind_count, input_owners_at, input_owners, input_count, coin_count}
use Rattle.plan.specs.File.{gate_at, out_at, plan_of}
use Rattle.plan.specs.Planned.{Planned}
use Rattle.plan_coalition.specs.Coalitions.{set_fits, set_ok, in_set}
use Rattle.plan.proofs.Planned.{plan_p, plan_n, plan_t, plan_gates, plan_gate, plan_outs, plan_out}
use Rattle.plan.proofs.Refusals.{and_then_passed, and_then_refused, and_then_end, first_of-append, need-true, need-false, passed_both, passed-need, passed_found}
use Rattle.plan_counts.specs.declared.Tally.{Tally}
use Rattle.plan_counts.specs.Counts.{Tallied}
use Rattle.seat_admission.specs.Parts.{list_checks}
use Rattle.run_protocol.specs.Ideal.{inputs_taken, values}
use Rattle.run_protocol.proofs.Values.{values_length}
use Rattle.match_agreement.specs.MatchCalls.{inputs_agree, outs_agree, pair_checks}
use Rattle.match_agreement.specs.MatchParts.{input_checks, coin_checks, agree_checks, same_input, input_agrees, gate_agrees, out_agrees, out_agrees_at, Matchable}
use Rattle.run_ideal.proofs.IdealLaws.{taken_next}

-- ---- the set and the inputs
module _ (bs : List ℕ) (h : Header) (set : ℕ) (xs ys : List ℕ) (k : Planned bs h) (s : Bool) (es : s ≡ set_fits h.n h.t set) where
  set_is : set_ok (plan_of bs) set ≡ s
  unfolding set_ok
  set_is = rw (plan_n k, plan_t k) (sym es)

  pub pair_set : s ≡ false → Err refusal.Coalition ≡ first_of (input_checks (plan_of bs) set xs ys)
  unfolding input_checks first_of and_then need
  pair_set hs = rw (set_is, hs)

  module _ (hs : s ≡ true) (count : ℕ) (ec : count ≡ input_count (plan_of bs)) (a : Bool) (ea : a ≡ holds_count count xs) where
    pub pair-first : a ≡ false → Err refusal.InputCount ≡ first_of (input_checks (plan_of bs) set xs ys)
    unfolding input_checks first_of and_then need
    pair-first ha = rw (set_is, hs, ← ec, ← ea, ha)

    module _ (ha : a ≡ true) (b : Bool) (eb : b ≡ holds_count count ys) where
      pub pair-second : b ≡ false → Err refusal.InputCount ≡ first_of (input_checks (plan_of bs) set xs ys)
      unfolding input_checks first_of and_then need
      pair-second hb = rw (set_is, hs, ← ec, ← ea, ha, ← eb, hb)

      module _ (hb : b ≡ true) (f : Option ℕ) (ef : f ≡ first_over h.field.p (numbers xs)) where
        pub pair-first-over : (i : ℕ) → f ≡ Some i → Err (refusal.InputValue i) ≡ first_of (input_checks (plan_of bs) set xs ys)
        unfolding input_checks first_of and_then need unless_found
        pair-first-over i hf = rw (set_is, hs, ← ec, ← ea, ha, ← eb, hb, plan_p k, ← ef, hf)

        module _ (hf : f ≡ None) (e : Option ℕ) (ee : e ≡ first_over h.field.p (numbers ys)) where
          pub pair-second-over : (i : ℕ) → e ≡ Some i → Err (refusal.InputValue i) ≡ first_of (input_checks (plan_of bs) set xs ys)
          unfolding input_checks first_of and_then need unless_found
          pair-second-over i he = rw (set_is, hs, ← ec, ← ea, ha, ← eb, hb, plan_p k, ← ef, hf, ← ee, he)

          pub pair-inputs : e ≡ None → Ok tt ≡ first_of (input_checks (plan_of bs) set xs ys)
          unfolding input_checks first_of and_then need unless_found
          pair-inputs he = rw (set_is, hs, ← ec, ← ea, ha, ← eb, hb, plan_p k, ← ef, hf, ← ee, he)

-- As it is: answers name this set, since the check leaves their goals open by `using` alone.
pub ruleset inputting = (rules, not-true, not-false, pair_set, pair-first, pair-second, pair-first-over, pair-second-over, pair-inputs)

-- ---- the coins and the buffer
module _ (bs : List ℕ) (h : Header) (coins : List ℕ) (room : ℕ) (k : Planned bs h) (d : ℕ) (ed : d ≡ coin_count (plan_of bs)) (c : Checked)
    (ec : c ≡ first_of (list_checks refusal.CoinCount refusal.CoinValue h.field.p d coins)) where
  coins_listed : ℕ → ℕ → Checked
  coins_listed p n = first_of (list_checks refusal.CoinCount refusal.CoinValue p n coins)

  -- what is left to check
  ending : ℕ → List Checked
  ending n = need refusal.Triples (eqb (kind_count (plan_of bs) 7) 0) ∷ need refusal.BufferLength (eqb room (width * n)) ∷ []

  coin-parts : first_of (coin_checks (plan_of bs) coins room) ≡ and_then c (first_of (ending d))
  unfolding coin_checks list_checks coins_listed ending
  coin-parts =
      first_of-append (list_checks refusal.CoinCount refusal.CoinValue (plan_of bs).p (coin_count (plan_of bs)) coins) (ending (coin_count (plan_of bs)))
      ∙ ap (λ (p : ℕ). and_then (coins_listed p (coin_count (plan_of bs))) (first_of (ending (coin_count (plan_of bs))))) (plan_p k)
      ∙ ap (λ (n : ℕ). and_then (coins_listed h.field.p n) (first_of (ending n))) (sym ed)
      ∙ ap (λ (x : Checked). and_then x (first_of (ending d))) (sym ec)

  pub pair_coins : (r : Refusal) → c ≡ Err r → Err r ≡ first_of (coin_checks (plan_of bs) coins room)
  pair_coins r e = sym (coin-parts ∙ and_then_refused c _ r e)

  module _ (e : c ≡ Ok tt) (i : ℕ) (y : Tally) (ty : Tallied (plan_of bs).gates i y) where
    spent-is : y.spends ≡ kind_count (plan_of bs) 7
    unfolding kind_count
    spent-is = ty.spends

    pub pair_spends : (y.spends ≡ 0 → ⊥) → Err refusal.Triples ≡ first_of (coin_checks (plan_of bs) coins room)
    unfolding ending first_of and_then need
    pair_spends n =
        sym (coin-parts ∙ and_then_passed c _ e ∙ ap (λ (b : Bool). first_of (need refusal.Triples b ∷ need refusal.BufferLength (eqb room (width * d)) ∷ [])) (ne_eqb (kind_count (plan_of bs) 7) 0 (λ z. n (spent-is ∙ z))))

    module _ (none : y.spends ≡ 0) where
      room-left : first_of (coin_checks (plan_of bs) coins room) ≡ need refusal.BufferLength (eqb room (width * d))
      unfolding ending first_of
      room-left =
          coin-parts ∙ and_then_passed c _ e
          ∙ and_then_passed (need refusal.Triples (eqb (kind_count (plan_of bs) 7) 0)) _ (need-true refusal.Triples (eqb (kind_count (plan_of bs) 7) 0) (eq-eqb (kind_count (plan_of bs) 7) 0 (sym spent-is ∙ none)))
          ∙ and_then_end (need refusal.BufferLength (eqb room (width * d)))

      pub pair_room : (room ≡ width * d → ⊥) → Err refusal.BufferLength ≡ first_of (coin_checks (plan_of bs) coins room)
      pair_room n = sym (room-left ∙ need-false refusal.BufferLength (eqb room (width * d)) (ne_eqb room (width * d) n))

      pub pair_buffer : room ≡ width * d → Ok tt ≡ first_of (coin_checks (plan_of bs) coins room)
      pair_buffer q = sym (room-left ∙ need-true refusal.BufferLength (eqb room (width * d)) (eq-eqb room (width * d) q))

pub ruleset coining = (rules, not-true, not-false, pair_coins, pair_spends, pair_room, pair_buffer)

-- ---- one input
not_or : (a b : Bool) → a ≡ true → (not a || b) ≡ b
not_or a b e = rw e

not_in : (a b : Bool) → a ≡ false → (not a || b) ≡ true
not_in a b e = rw e

module _ (set s i : ℕ) (xs ys : List ℕ) (m : Bool) (em : m ≡ in_set set s) where
  pub agrees_member : (x y : ℕ) → m ≡ true → x ≡ get_or xs i 0 → y ≡ get_or ys i 0 → eqb x y ≡ same_input set s xs ys i
  unfolding same_input
  agrees_member x y hm ex ey = rw (ex, ey) (sym (not_or (in_set set s) _ (sym em ∙ hm)))

  pub agrees_other : m ≡ false → true ≡ same_input set s xs ys i
  unfolding same_input
  agrees_other hm = sym (not_in (in_set set s) _ (sym em ∙ hm))

pub ruleset agreeing = (rules, not-true, not-false, agrees_member, agrees_other)

-- ---- the inputs of a gate
-- a random wire's draws
module _ (set n next : ℕ) (xs ys : List ℕ) (j : ℕ) (t : Bool) where
  pub draw_is : j < n → t ≡ same_input set (j + 1) xs ys (next + j) → t ≡ gate_agrees set (tab suc n) xs ys next j
  unfolding gate_agrees
  draw_is l e = rw (get_or-tab suc n j 0 l, ← add-one) e

pub ruleset drawing = (seeking, draw_is)

-- the first of gate g's inputs that differs for a member
abbrev Off : List ℕ → ℕ → ℕ → ℕ → List ℕ → List ℕ → Option ℕ → Type 0
Off bs set next g xs ys r =
    r ≡ first_failing (gate_agrees set (input_owners_at (plan_of bs) (gate_at bs g)) xs ys next) (inputs_taken (plan_of bs) (gate_at bs g))

module _ (bs : List ℕ) (h : Header) (k : Planned bs h) (set next g : ℕ) (xs ys : List ℕ) (gate : Gate) (is : gate ≡ gate_at bs g) where
  pub off-input : (s : ℕ) (t : Bool) → gate ≡ Input s → t ≡ same_input set s xs ys next → t ≡ false → Off bs set next g xs ys (Some 0)
  unfolding input_owners_at inputs_taken gate_agrees first_failing first_from
  off-input s t e et f = rw (← is, e, add-zero next, ← et, f)

  pub on_input : (s : ℕ) (t : Bool) → gate ≡ Input s → t ≡ same_input set s xs ys next → t ≡ true → Off bs set next g xs ys None
  unfolding input_owners_at inputs_taken gate_agrees first_failing first_from
  on_input s t e et f = rw (← is, e, add-zero next, ← et, f)

  pub off-draws : (r : Option ℕ) → gate ≡ Random → r ≡ first_failing (gate_agrees set (tab suc h.n) xs ys next) h.n → Off bs set next g xs ys r
  unfolding input_owners_at inputs_taken parties
  off-draws r e er = rw (← is, e, length-tab, plan_n k) er

-- a gate that takes no input
takes_none : (plan : Plan) (gate : Gate) → ((s : ℕ) → gate ≡ Input s → ⊥) → (gate ≡ Random → ⊥) → input_owners_at plan gate ≡ []
unfolding input_owners_at
takes_none plan (Input s) i r = absurd (i s refl)
takes_none plan (Add a b) i r = refl
takes_none plan (Scale a c) i r = refl
takes_none plan (Offset a c) i r = refl
takes_none plan (Multiply a b) i r = refl
takes_none plan Random i r = absurd (r refl)
takes_none plan (Spend a b) i r = refl

pub off-none :
    (bs : List ℕ) (set next g : ℕ) (xs ys : List ℕ) (gate : Gate) → gate ≡ gate_at bs g → ((s : ℕ) → gate ≡ Input s → ⊥) → (gate ≡ Random → ⊥)
    → Off bs set next g xs ys None
unfolding inputs_taken first_failing first_from
off-none bs set next g xs ys gate is i r = rw (← is, takes_none (plan_of bs) gate i r)

-- As it is: answers name this set, since the check leaves their goals open by `using` alone.
pub ruleset gating = (rules, not-true, not-false, off-input, on_input, off-draws, off-none)

-- ---- the search for an input that differs
-- whose the inputs of gate g are
module _ (plan : Plan) (g : ℕ) (l : g < length plan.gates) where
  abbrev owners_below : List ℕ
  owners_below = flat_map (input_owners_at plan) (take g plan.gates)

  abbrev owners_here : List ℕ
  owners_here = input_owners_at plan (get_or plan.gates g (Input 0))

  owners_split : input_owners plan ≡ owners_below ++ (owners_here ++ flat_map (input_owners_at plan) (drop (suc g) plan.gates))
  unfolding input_owners flat_map
  owners_split =
      ap (flat_map (input_owners_at plan))
      (sym (take-append-drop g plan.gates) ∙ ap (λ (r : List Gate). take g plan.gates ++ r) (drop-cons plan.gates g (Input 0) l))
      ∙ flat_map-append (input_owners_at plan) (take g plan.gates) (get_or plan.gates g (Input 0) ∷ drop (suc g) plan.gates)

  owner_at : (j : ℕ) → j < length owners_here → get_or (input_owners plan) (length owners_below + j) 0 ≡ get_or owners_here j 0
  owner_at j lt =
      ap (λ (os : List ℕ). get_or os (length owners_below + j) 0) owners_split
      ∙ get_or-append-add owners_below (owners_here ++ flat_map (input_owners_at plan) (drop (suc g) plan.gates)) j 0
      ∙ get_or-append owners_here (flat_map (input_owners_at plan) (drop (suc g) plan.gates)) 0 j lt

  inputs_within : length owners_below + length owners_here ≤ input_count plan
  unfolding input_count
  inputs_within =
      omega (
        arith,
        ap (λ (os : List ℕ). length os) owners_split,
        length-append owners_below (owners_here ++ flat_map (input_owners_at plan) (drop (suc g) plan.gates)),
        length-append owners_here (flat_map (input_owners_at plan) (drop (suc g) plan.gates)),
      )

-- the invariant at gate g, with the place of its first input: no input before it differs for a member
pub record Comparing (bs : List ℕ) (gates set : ℕ) (xs ys : List ℕ) (next g : ℕ) : Type 0 where
  pub within : g ≤ gates
  pub few : next ≤ 15 * g
  pub taken : next ≡ length (flat_map (input_owners_at (plan_of bs)) (take g (plan_of bs).gates))
  pub agree : first_failing (input_agrees (plan_of bs) set xs ys) next ≡ None

module _ (bs : List ℕ) (set : ℕ) (xs ys : List ℕ) where
  abbrev agrees : ℕ → Bool
  agrees = input_agrees (plan_of bs) set xs ys

  pub compare-none : (gates : ℕ) → Comparing bs gates set xs ys 0 0
  unfolding flat_map first_failing first_from
  compare-none gates = record { within = omega arith; few = omega arith; taken = refl; agree = refl }

  module _ (h : Header) (k : Planned bs h) (next g : ℕ) (w : Comparing bs h.gates set xs ys next g) where
    pub compare-few : g < h.gates → next ≤ 15360
    compare-few l = omega (arith, w.few, k.gates-high)

    module _ (l : g < h.gates) (r : Option ℕ) (er : Off bs set next g xs ys r) where
      abbrev here : ℕ → Bool
      here = gate_agrees set (input_owners_at (plan_of bs) (gate_at bs g)) xs ys next

      abbrev taken : ℕ
      taken = inputs_taken (plan_of bs) (gate_at bs g)

      inside : g < length (plan_of bs).gates
      inside = rw (plan_gates k) l

      -- the test of the gate's input j is that of input next + j
      test-is : (j : ℕ) → j < taken → agrees (next + j) ≡ here j
      unfolding input_agrees gate_agrees inputs_taken
      test-is j lt =
          ap (λ (s : ℕ). same_input set s xs ys (next + j))
          (ap (λ (i : ℕ). get_or (input_owners (plan_of bs)) (i + j) 0) w.taken
          ∙ owner_at (plan_of bs) g inside j (rw (plan_gate k g l) lt) ∙ ap (λ (x : Gate). get_or (input_owners_at (plan_of bs) x) j 0) (plan_gate k g l))

      fits : next + taken ≤ input_count (plan_of bs)
      unfolding inputs_taken
      fits =
          omega (arith, w.taken, inputs_within (plan_of bs) g inside, ap (λ (x : Gate). length (input_owners_at (plan_of bs) x)) (plan_gate k g l))

      -- every input below next + m agrees if those of the gate below m do
      below : (m : ℕ) → m ≤ taken → ((j : ℕ) → j < m → here j ≡ true) → (i : ℕ) → i < next + m → agrees i ≡ true
      below m le ok i lt = by (dec_le (suc i) next)
        where
          by : Dec (suc i ≤ next) → agrees i ≡ true
          by (yes q) = nothing_passes agrees next w.agree i q
          by (no q) =
              let e : next + (i - next) ≡ i = omega arith in
              ap agrees (sym e) ∙ test-is (i - next) (omega arith) ∙ ok (i - next) (omega arith)

      pub compare-off : (j : ℕ) → r ≡ Some j → Some (next + j) ≡ first_failing agrees (input_count (plan_of bs))
      compare-off j e =
          let f : First here taken j = first_failing_lem here taken j (sym er ∙ e) in
          sym (failing_first agrees (input_count (plan_of bs)) (next + j) (record {
            within = omega (arith, fits, f.within);
            fails = test-is j f.within ∙ f.fails;
            before = below j (omega (arith, f.within)) f.before;
          }))

      pub compare-place : (j n : ℕ) (x : Gate) → r ≡ Some j → x ≡ gate_at bs g → n ≡ inputs_taken (plan_of bs) x → n ≤ 15 → Fits w64 (next + j)
      compare-place j n x e ex ex_n few =
          let en : n ≡ taken = ex_n ∙ ap (inputs_taken (plan_of bs)) ex in
          let f : First here taken j = first_failing_lem here taken j (sym er ∙ e) in
          record { fits = omega (arith, compare-few l, f.within) }

      counted : (n : ℕ) (x : Gate) → x ≡ gate_at bs g → n ≡ inputs_taken (plan_of bs) x → n ≡ length (input_owners_at (plan_of bs) (gate_at bs g))
      unfolding inputs_taken
      counted n x ex en = en ∙ ap (λ (y : Gate). length (input_owners_at (plan_of bs) y)) ex

      pub compare_on : (n : ℕ) (x : Gate) → r ≡ None → x ≡ gate_at bs g → n ≡ inputs_taken (plan_of bs) x → n ≤ 15 → Comparing bs h.gates set xs ys (next + n) (g + 1)
      compare_on n x e ex en few = record {
        within = omega arith;
        few = omega (arith, w.few);
        taken = taken_next (input_owners_at (plan_of bs)) bs h next g n k w.taken l (counted n x ex en);
        agree = rw (en, ex) (passes-nothing agrees (next + taken) (below taken (omega arith) (nothing_passes here taken (sym er ∙ e))));
      }

    pub compare-done : h.gates ≤ g → None ≡ first_failing agrees (input_count (plan_of bs))
    unfolding input_count input_owners
    compare-done l =
        let all : take g (plan_of bs).gates ≡ (plan_of bs).gates = take_all g (plan_of bs).gates (rw (plan_gates k) l) in
        sym (ap (first_failing agrees) (sym (w.taken ∙ ap (λ (gs : List Gate). length (flat_map (input_owners_at (plan_of bs)) gs)) all)) ∙ w.agree)

-- As it is: answers name this set, since the check leaves their goals open by `using` alone.
pub ruleset comparing = (rules, not-true, not-false, compare-none, compare-few, compare-off, compare-place, compare_on, compare-done)

-- ---- the search for an out that differs
module _ (set : ℕ) (vs ws : List ℕ) (out : Output) (m : Bool) (em : m ≡ in_set set out.party) where
  pub out_member : (x y : ℕ) → m ≡ true → x ≡ get_or vs out.wire 0 → y ≡ get_or ws out.wire 0 → eqb x y ≡ out_agrees set vs ws out
  unfolding out_agrees
  out_member x y hm ex ey = rw (ex, ey) (sym (not_or (in_set set out.party) _ (sym em ∙ hm)))

  pub out_other : m ≡ false → true ≡ out_agrees set vs ws out
  unfolding out_agrees
  out_other hm = sym (not_in (in_set set out.party) _ (sym em ∙ hm))

pub ruleset outing = (rules, out_member, out_other)

module _ (bs : List ℕ) (h : Header) (set : ℕ) (vs ws : List ℕ) (k : Planned bs h) (o : ℕ) (s : Seeking (out_agrees_at (plan_of bs) set vs ws) h.outs o) where
  outs_are : h.outs ≡ length (plan_of bs).outs
  outs_are = sym (plan_outs k)

  module _ (l : o < h.outs) (out : Output) (t : Bool) (eo : out ≡ out_at bs o) (et : t ≡ out_agrees set vs ws out) where
    out-is : out_agrees_at (plan_of bs) set vs ws o ≡ t
    unfolding out_agrees_at
    out-is = rw (plan_out k o l, ← eo) (sym et)

    pub outs-off : t ≡ false → Some o ≡ first_failing (out_agrees_at (plan_of bs) set vs ws) (length (plan_of bs).outs)
    outs-off f = rw (← outs_are) (found (out_agrees_at (plan_of bs) set vs ws) h.outs o s l (out-is ∙ f))

    pub outs-on : t ≡ true → Seeking (out_agrees_at (plan_of bs) set vs ws) h.outs (o + 1)
    outs-on f = passed (out_agrees_at (plan_of bs) set vs ws) h.outs o s l (out-is ∙ f)

  pub outs_same : h.outs ≤ o → None ≡ first_failing (out_agrees_at (plan_of bs) set vs ws) (length (plan_of bs).outs)
  outs_same l = rw (← outs_are) (nothing (out_agrees_at (plan_of bs) set vs ws) h.outs o s l)

pub ruleset finding_outs = (rules, not-true, not-false, begin, outs-off, outs-on, outs_same)

-- of the values that two runs of the plan have
pub outs_of_values :
    (plan : Plan) (set : ℕ) (vs ws vs' ws' : List ℕ) (r : Option ℕ) → vs ≡ vs' → ws ≡ ws' → r ≡ first_failing (out_agrees_at plan set vs ws) (length plan.outs)
    → r ≡ first_failing (out_agrees_at plan set vs' ws') (length plan.outs)
outs_of_values plan set vs ws vs' ws' r ev ew e = rw (← ev, ← ew) e

pub values_count : (bs : List ℕ) (h : Header) (xs d : List ℕ) → Planned bs h → take h.gates d ≡ values (plan_of bs) xs → h.gates ≡ length (take h.gates d)
values_count bs h xs d k e = sym (ap length e ∙ values_length (plan_of bs) xs ∙ plan_gates k)

pub ruleset outs_by_values = (rules, values_count, outs_of_values)

-- ---- refusals 21 and 22
module _ (plan : Plan) (set : ℕ) (xs ys : List ℕ) (f : Option ℕ) (ef : f ≡ first_failing (input_agrees plan set xs ys) (input_count plan)) where
  inputs_are : inputs_agree plan set xs ys ≡ unless_found refusal.InputsDiffer f
  unfolding inputs_agree input_agrees same_input
  inputs_are = ap (unless_found refusal.InputsDiffer) (sym ef)

  pub agree_inputs : (i : ℕ) → f ≡ Some i → Err (refusal.InputsDiffer i) ≡ first_of (agree_checks plan set xs ys)
  unfolding agree_checks first_of and_then unless_found
  agree_inputs i hf = rw (inputs_are, hf)

  module _ (hf : f ≡ None) (e : Option ℕ) (ee : e ≡ first_failing (out_agrees_at plan set (values plan xs) (values plan ys)) (length plan.outs)) where
    outs-agree : outs_agree plan set (values plan xs) (values plan ys) ≡ unless_found refusal.OutputsDiffer e
    unfolding outs_agree out_agrees_at out_agrees
    outs-agree = ap (unless_found refusal.OutputsDiffer) (sym ee)

    pub agree-outs : (o : ℕ) → e ≡ Some o → Err (refusal.OutputsDiffer o) ≡ first_of (agree_checks plan set xs ys)
    unfolding agree_checks first_of and_then unless_found
    agree-outs o he = rw (inputs_are, hf, outs-agree, he)

    pub agree-all : e ≡ None → Ok tt ≡ first_of (agree_checks plan set xs ys)
    unfolding agree_checks first_of and_then unless_found
    agree-all he = rw (inputs_are, hf, outs-agree, he)

pub ruleset both_agreeing = (rules, agree_inputs, agree-outs, agree-all)

-- ---- all checks
module _ (plan : Plan) (set : ℕ) (xs ys coins : List ℕ) (room : ℕ) where
  pair_parts : pair_checks plan set xs ys coins room ≡ input_checks plan set xs ys ++ (coin_checks plan coins room ++ agree_checks plan set (numbers xs) (numbers ys))
  unfolding pair_checks input_checks coin_checks agree_checks
  pair_parts = refl

  pub pair_first_of :
      first_of (pair_checks plan set xs ys coins room)
      ≡ and_then (first_of (input_checks plan set xs ys)) (and_then (first_of (coin_checks plan coins room)) (first_of (agree_checks plan set (numbers xs) (numbers ys))))
  pair_first_of =
      ap first_of pair_parts
      ∙ first_of-append (input_checks plan set xs ys) _
      ∙ ap (and_then (first_of (input_checks plan set xs ys))) (first_of-append (coin_checks plan coins room) (agree_checks plan set (numbers xs) (numbers ys)))

  module _ (a : Checked) (ea : a ≡ first_of (input_checks plan set xs ys)) where
    pub refused-inputs : (r : Refusal) → a ≡ Err r → Err r ≡ first_of (pair_checks plan set xs ys coins room)
    refused-inputs r ha = sym (pair_first_of ∙ and_then_refused _ _ r (sym ea ∙ ha))

    module _ (ha : a ≡ Ok tt) (b : Checked) (eb : b ≡ first_of (coin_checks plan coins room)) where
      pub refused-coins : (r : Refusal) → b ≡ Err r → Err r ≡ first_of (pair_checks plan set xs ys coins room)
      refused-coins r hb = sym (pair_first_of ∙ and_then_passed _ _ (sym ea ∙ ha) ∙ and_then_refused _ _ r (sym eb ∙ hb))

      pub passed_on : (c : Checked) → b ≡ Ok tt → c ≡ first_of (agree_checks plan set (numbers xs) (numbers ys)) → c ≡ first_of (pair_checks plan set xs ys coins room)
      passed_on c hb ec = ec ∙ sym (pair_first_of ∙ and_then_passed _ _ (sym ea ∙ ha) ∙ and_then_passed _ _ (sym eb ∙ hb))

-- ---- what a pair that passes is
pub record Listed (plan : Plan) (set : ℕ) (xs ys : List ℕ) : Type 0 where
  pub set_ok_lem : set_ok plan set ≡ true
  pub first_long : length xs ≡ width * input_count plan
  pub second_long : length ys ≡ width * input_count plan
  pub first_below : all_below plan.p (numbers xs) ≡ true
  pub second_below : all_below plan.p (numbers ys) ≡ true

pub listed : (plan : Plan) (set : ℕ) (xs ys : List ℕ) → first_of (input_checks plan set xs ys) ≡ Ok tt → Listed plan set xs ys
unfolding input_checks first_of
listed plan set xs ys h =
    let a = passed_both _ _ h in
    let b = passed_both _ _ a.1 in
    let c = passed_both _ _ b.1 in
    let d = passed_both _ _ c.1 in
    let e = passed_both _ _ d.1 in
    record {
      set_ok_lem = passed-need refusal.Coalition _ a.0;
      first_long = holds-length (input_count plan) xs (passed-need refusal.InputCount _ b.0);
      second_long = holds-length (input_count plan) ys (passed-need refusal.InputCount _ c.0);
      first_below = first_over-nothing plan.p (numbers xs) (passed_found refusal.InputValue _ d.0);
      second_below = first_over-nothing plan.p (numbers ys) (passed_found refusal.InputValue _ e.0);
    }

module _ (bs : List ℕ) (h : Header) (set : ℕ) (xs ys : List ℕ) (k : Planned bs h) (a : Checked) (ea : a ≡ first_of (input_checks (plan_of bs) set xs ys)) (ha : a ≡ Ok tt) where
  pub listed_first : all_below h.field.p (numbers xs) ≡ true
  listed_first = rw (← plan_p k) (listed (plan_of bs) set xs ys (sym ea ∙ ha)).first_below

  pub listed_second : all_below h.field.p (numbers ys) ≡ true
  listed_second = rw (← plan_p k) (listed (plan_of bs) set xs ys (sym ea ∙ ha)).second_below

pub ruleset pairing = (rules, refused-inputs, refused-coins, passed_on, listed_first, listed_second)

pub matchable :
    (bs : List ℕ) (h : Header) (set : ℕ) (xs ys coins : List ℕ) (room : ℕ) (c : Checked) → Planned bs h → c ≡ first_of (pair_checks (plan_of bs) set xs ys coins room) → c ≡ Ok tt
    → Matchable bs h set xs ys coins room
unfolding coin_checks agree_checks first_of
matchable bs h set xs ys coins room c k e p =
    let a = passed_both _ _ (sym (pair_first_of (plan_of bs) set xs ys coins room) ∙ sym e ∙ p) in
    let b = passed_both _ _ a.1 in
    let l : Listed (plan_of bs) set xs ys = listed (plan_of bs) set xs ys a.0 in
    let d = passed_both _ _ b.0 in
    let f = passed_both _ _ d.1 in
    let s = passed_both _ _ f.1 in
    let g = passed_both _ _ s.1 in
    let m = passed_both _ _ b.1 in
    record {
      set_ok_lem = l.set_ok_lem;
      no-spend = eqb-true (kind_count (plan_of bs) 7) 0 (passed-need refusal.Triples _ s.0);
      agree = λ by. m.0;
      first_below = rw (← plan_p k) l.first_below;
      second_below = rw (← plan_p k) l.second_below;
      coins_below = rw (← plan_p k) (first_over-nothing (plan_of bs).p (numbers coins) (passed_found refusal.CoinValue _ f.0));
      coins_long = holds-length (coin_count (plan_of bs)) coins (passed-need refusal.CoinCount _ d.0);
      room_long = eqb-true room (width * coin_count (plan_of bs)) (passed-need refusal.BufferLength _ g.0);
    }
