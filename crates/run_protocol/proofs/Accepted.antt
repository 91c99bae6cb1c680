-- No call of a run is refused: what each call takes has its count, its numbers are below p, and its openings are right.
--     own_below                    a party's own of a list of numbers below p
--     Taken, run_taken             what a call takes is as its checks ask
--     run_checked, opens_none      of the call's checks the opening's is left, and only the last call opens
--     run_accepted                 the call's checks pass
--     lies_shared                  shares that stand for a value lie on one polynomial: the premise on the table
-- Assumes nothing; refusal 20 needs that each wire's shares lie on one polynomial (Lies).
use Rattle.std.proofs.Common.{None, Ok}
use mathlib.Core.Path.{◌≡◌, refl, sym, ap, ap₂, ◌∙◌}
use mathlib.Core.Logic.{◌⊎◌, inl, inr}
use mathlib.Core.Bool.{Bool, true, false, cond, not, ◌&&◌}
use mathlib.Core.List.{List, [], ◌∷◌, map}
use Prim.Native.Nat.{ℕ, zero, suc, ◌+◌, ◌-◌, ◌*◌, ◌<◌, ◌≤◌}
use native.Mathlib.Omega.{arith}
use borrow.Author.Tests.{ltb-true, ltb-false, lt-ltb, le-leb, eqb-true, eq-eqb, ne_eqb}
use lib.Dec.{eqb, leb, ltb}
use lib.ListN.{length, get_or, drop, replicate, length-append, length-drop, length-replicate}
use lib.Seq.{get_or-drop}
use Rattle.numbers.specs.Bytes.{width, limit, first_over, all_below, numbers, bytes_of, holds_count}
use Rattle.numbers.proofs.Below.{input_below, all_below_at, at-all_below, all_below-take, all_below-drop, nothing-first_over}
use Rattle.field.specs.Prime.{Prime}
use Rattle.field.proofs.Inverse.{pos}
use Rattle.sharing_laws.specs.Interp.{Distinct}
use Rattle.sharing_laws.specs.Sharing.{first_off}
use Rattle.sharing_laws.proofs.Alls.{all_at}
use Rattle.plan.specs.File.{between}
use Rattle.seat_messages.specs.Messages.{from_each, Called}
use Rattle.sharing_laws.proofs.Openings.{Shared, shared_on}
use Rattle.plan.specs.declared.Gate.{Gate}
use Rattle.plan.specs.declared.Gate.TheVariants.{Input, Add, Scale, Offset, Multiply, Random, Spend}
use Rattle.plan.specs.declared.Rule.{Rule}
use Rattle.plan.specs.declared.Rule.TheVariants.{Reduction, Truncation}
use Rattle.plan.specs.declared.Step.TheVariants.{SendOuts}
use Rattle.plan.specs.declared.Refusal.{Refusal}
use Rattle.plan.specs.declared.Refusal.TheVariants as refusal
use Rattle.plan.specs.Refusals.{Checked, and_then, first_of, unless_found}
use Rattle.plan.specs.Plans.{Plan, party_count, point_of, input_owners, coin_owners, own_of, own_inputs, own_coins, own_triples, out_wires, own_input_count, own_out_count, coin_count, own_coin_count, triple_numbers, multiply_steps, steps_at, steps_from, steps, step_at, last_call, mail_count, written_count}
use Rattle.seat_messages.specs.Calls.{on_polynomial, outs_check, opening_check, party_checks}
use Rattle.run_protocol.specs.Rounds.{fresh, no_call, call_of, mail_to, after}
use Rattle.run_protocol.specs.Shares.{wire_at, share_table}
use Rattle.run_protocol.specs.Tables.{table_mail, Tabled}
use Rattle.plan.proofs.Parties.{at-party}
use Rattle.plan.proofs.Refusals.{and_then_passed, and_then_end, first_of-nil, first_of-cons, need-true, found_nothing, all_pass}
use Rattle.plan.proofs.Valid.{Valid, Sized}
use Rattle.run_protocol.proofs.Owners.{length-own}
use Rattle.run_protocol.proofs.Known.{Known, Left, right_at, get_or_zeros}
use Rattle.run_protocol.proofs.Expected.{Holds}
use Rattle.run_protocol.proofs.StepOuts.{out-wires-within}
use Rattle.run_protocol.proofs.Runs.{shares_is, triples_is, run-state, run-triples, run-mail, run_holds, last_step, shares-of-out}
use Rattle.run_protocol.proofs.Counts.{mail_count_lem}
use Rattle.numbers.proofs.Bytes.{length-bytes_of, numbers_of_bytes}
use Rattle.run_protocol.proofs.Below.{share-below, mail_below}

-- ---- a party's own
own_by : (p : ℕ) (b : Bool) (x : ℕ) (l : List ℕ) → x < p → all_below p l ≡ true → all_below p (cond b (x ∷ l) l) ≡ true
unfolding all_below
own_by p true x l h a = rw (lt-ltb x p h, a) refl
own_by p false x l h a = a

module _ (plan : Plan) (above : 0 < plan.p) where
  pub own_below : (i : ℕ) (os xs : List ℕ) → all_below plan.p xs ≡ true → all_below plan.p (own_of i os xs) ≡ true
  unfolding own_of all_below
  own_below i [] xs h = refl
  own_below i (o ∷ os) xs h =
      own_by plan.p (eqb i o) (get_or xs 0 0) (own_of i os (drop 1 xs)) (input_below plan.p xs above h 0) (own_below i os (drop 1 xs) (all_below-drop plan.p 1 xs h))

-- ---- the steps are few
multiply_few : (rule : Rule) (g a b : ℕ) → length (multiply_steps rule g a b) ≤ 3
unfolding multiply_steps
multiply_few Reduction g a b = omega arith
multiply_few Truncation g a b = omega arith

steps_few_from : (rule : Rule) (g : ℕ) (gs : List Gate) → length (steps_from rule g gs) ≤ 3 * length gs
unfolding steps_from steps_at
steps_few_from rule g [] = omega arith
steps_few_from rule g (Input s ∷ gs) = omega (arith, steps_few_from rule (suc g) gs)
steps_few_from rule g (Add a b ∷ gs) = omega (arith, steps_few_from rule (suc g) gs)
steps_few_from rule g (Scale a c ∷ gs) = omega (arith, steps_few_from rule (suc g) gs)
steps_few_from rule g (Offset a c ∷ gs) = omega (arith, steps_few_from rule (suc g) gs)
steps_few_from rule g (Multiply a b ∷ gs) = omega (arith, steps_few_from rule (suc g) gs, multiply_few rule g a b, length-append (multiply_steps rule g a b) (steps_from rule (suc g) gs))
steps_few_from rule g (Random ∷ gs) = omega (arith, steps_few_from rule (suc g) gs)
steps_few_from rule g (Spend a b ∷ gs) = omega (arith, steps_few_from rule (suc g) gs)

pub steps_few : (plan : Plan) → last_call plan ≤ 3 * length plan.gates + 2
unfolding last_call steps
steps_few plan = omega (arith, steps_few_from plan.rule 0 plan.gates, length-append (steps_from plan.rule 0 plan.gates) (SendOuts ∷ []))

-- ---- checks
pub count_holds : (n : ℕ) (l : List ℕ) → length l ≡ n → holds_count n (bytes_of l) ≡ true
unfolding holds_count
count_holds n l e = eq-eqb (length (bytes_of l)) (width * n) (omega (arith, length-bytes_of l))

-- numbers below p come back from their bytes
pub back : (p : ℕ) (l : List ℕ) → p ≤ limit → all_below p l ≡ true → numbers (bytes_of l) ≡ l
back p l few h = numbers_of_bytes l (λ i m. omega (arith, all_below_at p l i h m))

pub values_pass : (r : ℕ → Refusal) (p : ℕ) (l : List ℕ) → p ≤ limit → all_below p l ≡ true → unless_found r (first_over p (numbers (bytes_of l))) ≡ Ok tt
unfolding unless_found
values_pass r p l few h = ap (λ (m : List ℕ). unless_found r (first_over p m)) (back p l few h) ∙ ap (unless_found r) (nothing-first_over p l h)

both_hold : (a b : Bool) → a ≡ true → b ≡ true → (a && b) ≡ true
both_hold a b e f = rw (e, f)

-- past a check that passes, and the last one
next_is : (c : Checked) (rest : List Checked) {d : Checked} → c ≡ Ok tt → first_of rest ≡ d → first_of (c ∷ rest) ≡ d
next_is c rest e h = first_of-cons c rest ∙ and_then_passed c (first_of rest) e ∙ h

last_is : (c : Checked) → first_of (c ∷ []) ≡ c
last_is c = first_of-cons c [] ∙ ap (and_then c) first_of-nil ∙ and_then_end c

-- ---- what call number k takes is as its checks ask
pub record Taken (plan : Plan) (i k : ℕ) (triples state mail : List ℕ) : Type 0 where
  pub number : get_or state 0 0 ≡ k
  pub state_count : length state ≡ 1 + length plan.gates
  pub state_below : all_below plan.p (drop 1 state) ≡ true
  pub triples_count : length triples ≡ triple_numbers plan
  pub triples_below : all_below plan.p triples ≡ true
  pub mail_count_lem : length mail ≡ mail_count plan i k
  pub mail_below : all_below plan.p mail ≡ true

module _ (plan : Plan) (few : plan.p ≤ limit) (short : last_call plan < limit) (i k : ℕ) (k-small : k ≤ last_call plan) (triples state mail : List ℕ) (taken : Taken plan i k triples state mail) where
  state-entry : (w : ℕ) → w < length state → get_or state w 0 < limit
  state-entry zero l = omega (arith, taken.number)
  state-entry (suc w) l =
      let e : 1 + w ≡ suc w = omega arith in
      let q : get_or (drop 1 state) w 0 ≡ get_or state (suc w) 0 = get_or-drop 1 state w 0 ∙ ap (λ (m : ℕ). get_or state m 0) e in
      let m : get_or (drop 1 state) w 0 < plan.p = all_below_at plan.p (drop 1 state) w taken.state_below (omega (arith, length-drop 1 state)) in
      omega arith

  pub state_back : numbers (bytes_of state) ≡ state
  state_back = numbers_of_bytes state state-entry

  number_back : get_or (numbers (bytes_of state)) 0 0 ≡ k
  number_back = ap (λ (s : List ℕ). get_or s 0 0) state_back ∙ taken.number

  -- of the checks on a party's call, where its own inputs and coins are as they ask, the opening's is left
  pub checks_are : (inputs coins : List ℕ) (room : ℕ) → 1 ≤ i → i ≤ party_count plan
      → length inputs ≡ own_input_count plan i → all_below plan.p inputs ≡ true
      → length coins ≡ own_coin_count plan i → all_below plan.p coins ≡ true
      → room ≡ width * written_count plan i k
      → first_of (party_checks plan i (bytes_of inputs) (bytes_of coins) (bytes_of triples) (bytes_of state) (bytes_of mail) room) ≡ opening_check plan i k mail
  unfolding party_checks between
  checks_are inputs coins room from1 upto ni si nc sc fits =
      next_is _ _ (need-true refusal.Coalition (leb 1 i && leb i (party_count plan)) (both_hold (leb 1 i) (leb i (party_count plan)) (le-leb 1 i from1) (le-leb i (party_count plan) upto)))
      (next_is _ _ (need-true refusal.InputCount (holds_count (own_input_count plan i) (bytes_of inputs)) (count_holds (own_input_count plan i) inputs ni))
      (next_is _ _ (values_pass refusal.InputValue plan.p inputs few si)
      (next_is _ _ (need-true refusal.CoinCount (holds_count (own_coin_count plan i) (bytes_of coins)) (count_holds (own_coin_count plan i) coins nc))
      (next_is _ _ (values_pass refusal.CoinValue plan.p coins few sc)
      (next_is _ _ (values_pass refusal.CoinValue plan.p triples few taken.triples_below)
      (next_is _ _ (need-true refusal.Triples (holds_count (triple_numbers plan) (bytes_of triples)) (count_holds (triple_numbers plan) triples taken.triples_count))
      (next_is _ _ (need-true refusal.StateCount (holds_count (1 + length plan.gates) (bytes_of state)) (count_holds (1 + length plan.gates) state taken.state_count))
      (next_is _ _ (need-true refusal.StateValue _
      (both_hold (leb (get_or (numbers (bytes_of state)) 0 0) (suc (last_call plan))) (all_below plan.p (drop 1 (numbers (bytes_of state))))
      (le-leb (get_or (numbers (bytes_of state)) 0 0) (suc (last_call plan)) (omega (arith, number_back)))
      (ap (λ (s : List ℕ). all_below plan.p (drop 1 s)) state_back ∙ taken.state_below)))
      (next_is _ _ (need-true refusal.Finished _ (ap not (ne_eqb (get_or (numbers (bytes_of state)) 0 0) (suc (last_call plan)) (λ e. omega (arith, number_back, e)))))
      (next_is _ _ (need-true refusal.MailCount (holds_count (mail_count plan i (get_or (numbers (bytes_of state)) 0 0)) (bytes_of mail))
      (count_holds (mail_count plan i (get_or (numbers (bytes_of state)) 0 0)) mail (taken.mail_count_lem ∙ ap (mail_count plan i) (sym number_back))))
      (next_is _ _ (values_pass refusal.MailValue plan.p mail few taken.mail_below)
      (next_is _ _ (need-true refusal.BufferLength _ (eq-eqb room (width * written_count plan i (get_or (numbers (bytes_of state)) 0 0)) (fits ∙ ap (λ (n : ℕ). width * written_count plan i n) (sym number_back))))
      (last_is _ ∙ ap₂ (opening_check plan i) number_back (back plan.p mail few taken.mail_below))))))))))))))

-- ---- the premise on the table: each wire's shares lie on one polynomial of degree t or less
abbrev pub Lies : Plan → List (ℕ → ℕ) → Type 0
Lies plan table = (w : ℕ) → w < length plan.gates → first_off plan.p plan.t plan.points (map (wire_at table w) plan.points) ≡ None

pub lies_shared : (plan : Plan) → Valid plan → Prime plan.p → Distinct plan.p plan.points → (table : List (ℕ → ℕ)) (value : ℕ → ℕ)
    → ((w : ℕ) → w < length plan.gates → Shared plan.p plan.t (wire_at table w) (value w)) → Lies plan table
unfolding party_count
lies_shared plan ok prime distinct table value shared w l = shared_on prime plan.t plan.points distinct (omega (arith, ok.threshold)) (wire_at table w) (value w) (shared w l)

empty : (l : List ℕ) → length l ≡ 0 → l ≡ []
empty [] e = refl
empty (x ∷ l) e = absurd (omega arith)

-- ---- a run
module _ (plan : Plan) (ok : Valid plan) (sizes : Sized plan) (xs cs ts : List ℕ) (tf : List (ℕ → ℕ)) (full : length cs ≡ coin_count plan) (tabled : Tabled plan ts tf)
    (small : all_below plan.p ts ≡ true) (i : ℕ) (from1 : 1 ≤ i) (upto : i ≤ party_count plan) where
  share_small : (v w : ℕ) → (v ≡ wire_at (share_table plan xs cs tf) w (point_of plan i)) ⊎ (v ≡ 0) → v < plan.p
  share_small v w (inl e) = rw e (share-below plan (pos ok.prime) xs cs tf w (point_of plan i))
  share_small v w (inr e) = rw e (pos ok.prime)

  shares_small : (begun : Type 0) (g : ℕ) (shares : List ℕ) → Known plan.gates (right_at plan xs cs tf (point_of plan i)) begun g shares → all_below plan.p shares ≡ true
  unfolding right_at
  shares_small begun g shares k = at-all_below plan.p shares (λ w l. share_small (get_or shares w 0) w (k.others w))

  own_triples_small : all_below plan.p (own_triples plan i ts) ≡ true
  unfolding own_triples
  own_triples_small = all_below-take plan.p (triple_numbers plan) (drop (triple_numbers plan * (i - 1)) ts) (all_below-drop plan.p (triple_numbers plan * (i - 1)) ts small)

  triple_by : (k j : ℕ) (triples : List ℕ) → Left (own_triples plan i ts) k triples → (b : Bool) → ltb j k ≡ b → get_or triples j 0 < plan.p
  triple_by k j triples left true e = rw (left.spent j (ltb-true j k e)) (pos ok.prime)
  triple_by k j triples left false e = rw (left.left j (ltb-false j k e)) (input_below plan.p (own_triples plan i ts) (pos ok.prime) own_triples_small j)

  triples_small : (k : ℕ) (triples : List ℕ) → Left (own_triples plan i ts) k triples → all_below plan.p triples ≡ true
  triples_small k triples left = at-all_below plan.p triples (λ j l. triple_by k j triples left (ltb j k) refl)

  fresh_at : call_of i (after plan xs cs ts 0) ≡ fresh plan ts i
  unfolding call_of after
  fresh_at = at-party plan i from1 upto (fresh plan ts) no_call

  taken_first : Taken plan i 0 (call_of i (after plan xs cs ts 0)).triples (call_of i (after plan xs cs ts 0)).state (mail_to i (after plan xs cs ts 0))
  unfolding fresh mail_count all_below
  taken_first =
      let count : length (mail_to i (after plan xs cs ts 0)) ≡ 0 = mail_count_lem plan ok xs cs ts i from1 upto 0 (omega arith) in
      let none : mail_to i (after plan xs cs ts 0) ≡ [] = empty (mail_to i (after plan xs cs ts 0)) count in
      record {
        number = ap (λ (c : Called). get_or c.state 0 0) fresh_at;
        state_count = let e : suc (length plan.gates) ≡ 1 + length plan.gates = omega arith in ap (λ (c : Called). length c.state) fresh_at ∙ length-replicate {A = ℕ} (suc (length plan.gates)) 0 ∙ e;
        state_below =
            ap (λ (c : Called). all_below plan.p (drop 1 c.state)) fresh_at
            ∙ at-all_below plan.p (replicate (length plan.gates) 0) (λ w m. rw (get_or_zeros (length plan.gates) w) (pos ok.prime));
        triples_count = ap (λ (c : Called). length c.triples) fresh_at ∙ tabled.size i from1 upto;
        triples_below = ap (λ (c : Called). all_below plan.p c.triples) fresh_at ∙ own_triples_small;
        mail_count_lem = count;
        mail_below = ap (all_below plan.p) none;
      }

  taken_next : (m : ℕ) → m < last_call plan → Taken plan i (suc m) (call_of i (after plan xs cs ts (suc m))).triples (call_of i (after plan xs cs ts (suc m))).state (mail_to i (after plan xs cs ts (suc m)))
  taken_next m l =
      let shares : List ℕ = shares_is plan ok xs cs ts tf full tabled m i in
      let triples : List ℕ = triples_is plan ok xs cs ts tf full tabled m i in
      let state : (call_of i (after plan xs cs ts (suc m))).state ≡ suc m ∷ shares = run-state plan ok xs cs ts tf full tabled m (omega arith) i from1 upto in
      let those : (call_of i (after plan xs cs ts (suc m))).triples ≡ triples = run-triples plan ok xs cs ts tf full tabled m (omega arith) i from1 upto in
      let mail : mail_to i (after plan xs cs ts (suc m)) ≡ table_mail plan xs cs tf i (step_at plan m) = run-mail plan ok xs cs ts tf full tabled m l i from1 upto in
      let h : Holds plan xs cs ts tf i (step_at plan m) shares triples = run_holds plan ok xs cs ts tf full tabled m l i from1 upto in
      let q : suc (length plan.gates) ≡ 1 + length plan.gates = omega arith in
      record {
        number = ap (λ (s : List ℕ). get_or s 0 0) state;
        state_count = ap length state ∙ ap suc h.known.size ∙ q;
        state_below = ap (λ (s : List ℕ). all_below plan.p (drop 1 s)) state ∙ shares_small _ _ shares h.known;
        triples_count = ap length those ∙ h.left.size ∙ tabled.size i from1 upto;
        triples_below = ap (all_below plan.p) those ∙ triples_small _ triples h.left;
        mail_count_lem = mail_count_lem plan ok xs cs ts i from1 upto (suc m) l;
        mail_below = ap (all_below plan.p) mail ∙ mail_below plan (pos ok.prime) xs cs tf i (step_at plan m);
      }

  -- every call of a run
  pub run_taken : (k : ℕ) → k ≤ last_call plan → Taken plan i k (call_of i (after plan xs cs ts k)).triples (call_of i (after plan xs cs ts k)).state (mail_to i (after plan xs cs ts k))
  run_taken zero l = taken_first
  run_taken (suc m) l = taken_next m l

  -- of its checks the opening's is left
  pub run_checked : all_below plan.p xs ≡ true → all_below plan.p cs ≡ true → (k : ℕ) → k ≤ last_call plan → (room : ℕ) → room ≡ width * written_count plan i k
      → first_of (party_checks plan i (bytes_of (own_inputs plan i xs)) (bytes_of (own_coins plan i cs)) (bytes_of (call_of i (after plan xs cs ts k)).triples) (bytes_of (call_of i (after plan xs cs ts k)).state) (bytes_of (mail_to i (after plan xs cs ts k))) room)
      ≡ opening_check plan i k (mail_to i (after plan xs cs ts k))
  unfolding own_inputs own_coins own_input_count own_coin_count
  run_checked small-inputs small-coins k l room fits =
      checks_are plan (omega (arith, sizes.few)) (omega (arith, sizes.short, steps_few plan)) i k l _ _ _ (run_taken k l)
      (own_of i (input_owners plan) xs) (own_of i (coin_owners plan) cs) room from1 upto
      (length-own i (input_owners plan) xs) (own_below plan (pos ok.prime) i (input_owners plan) xs small-inputs)
      (length-own i (coin_owners plan) cs) (own_below plan (pos ok.prime) i (coin_owners plan) cs small-coins) fits

-- a call before the last opens nothing
pub opens_none : (plan : Plan) (i k : ℕ) (mail : List ℕ) → k < last_call plan → opening_check plan i k mail ≡ Ok tt
unfolding opening_check
opens_none plan i k mail l = rw (ne_eqb k (last_call plan) (λ e. omega (arith, l, e))) refl

-- ---- a run whose openings are right
module _ (plan : Plan) (ok : Valid plan) (sizes : Sized plan) (xs cs ts : List ℕ) (tf : List (ℕ → ℕ)) (full : length cs ≡ coin_count plan) (tabled : Tabled plan ts tf)
    (small : all_below plan.p ts ≡ true) (lies : Lies plan (share_table plan xs cs tf)) (i : ℕ) (from1 : 1 ≤ i) (upto : i ≤ party_count plan) where
  -- every opening of the last call is right
  on_polynomial_lem : (r : ℕ) → r < own_out_count plan i
      → on_polynomial plan.p plan.t plan.points (from_each (party_count plan) (own_out_count plan i) r (table_mail plan xs cs tf i SendOuts)) ≡ Ok tt
  unfolding on_polynomial own_out_count
  on_polynomial_lem r l =
      found_nothing (λ j. refusal.OffPolynomial (j + 1)) _
      (ap (first_off plan.p plan.t plan.points) (shares-of-out plan ok xs cs ts tf full tabled i r l)
      ∙ lies (get_or (out_wires plan i) r 0) (all_at (λ w. w < length plan.gates) (out_wires plan i) r (out-wires-within plan ok i) l))

  outs_pass : outs_check plan i (table_mail plan xs cs tf i SendOuts) ≡ Ok tt
  unfolding outs_check
  outs_pass =
      all_pass (λ j. on_polynomial plan.p plan.t plan.points (from_each (party_count plan) (own_out_count plan i) j (table_mail plan xs cs tf i SendOuts)))
      (own_out_count plan i) on_polynomial_lem

  opening_by : (m : ℕ) → m < last_call plan → (b : Bool) → eqb (suc m) (last_call plan) ≡ b → cond b (outs_check plan i (table_mail plan xs cs tf i (step_at plan m))) (Ok tt) ≡ Ok tt
  opening_by m l false e = refl
  opening_by m l true e =
      let q : suc m ≡ last_call plan = eqb-true (suc m) (last_call plan) e in
      let n = last_step plan in
      let r : n.0 ≡ m = omega (arith, n.1) in
      let s : step_at plan m ≡ SendOuts = ap (step_at plan) (sym r) ∙ n.2 in
      rw s outs_pass

  opening_passes : (m : ℕ) → m < last_call plan → opening_check plan i (suc m) (table_mail plan xs cs tf i (step_at plan m)) ≡ Ok tt
  unfolding opening_check
  opening_passes m l = opening_by m l (eqb (suc m) (last_call plan)) refl

  opening_of : (k : ℕ) → k ≤ last_call plan → opening_check plan i k (mail_to i (after plan xs cs ts k)) ≡ Ok tt
  opening_of zero l = opens_none plan i 0 _ (omega (arith, (last_step plan).1))
  opening_of (suc m) l = ap (opening_check plan i (suc m)) (run-mail plan ok xs cs ts tf full tabled m l i from1 upto) ∙ opening_passes m l

  -- every call's checks pass
  pub run_accepted : all_below plan.p xs ≡ true → all_below plan.p cs ≡ true → (k : ℕ) → k ≤ last_call plan → (room : ℕ) → room ≡ width * written_count plan i k
      → first_of (party_checks plan i (bytes_of (own_inputs plan i xs)) (bytes_of (own_coins plan i cs)) (bytes_of (call_of i (after plan xs cs ts k)).triples) (bytes_of (call_of i (after plan xs cs ts k)).state) (bytes_of (mail_to i (after plan xs cs ts k))) room)
      ≡ Ok tt
  run_accepted small-inputs small-coins k l room fits =
      run_checked plan ok sizes xs cs ts tf full tabled small i from1 upto small-inputs small-coins k l room fits ∙ opening_of k l
