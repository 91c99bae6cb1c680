-- The counts of a run: the numbers that a call takes and writes, and the elements sent.
--     placed             each input is one party's
--     mail_count_lem         the mail of a call has its count
--     sent-length        what a call sends in a step has its count
--     written_count      what a call writes has its count
--     sent_all_lem           the elements sent are the documents' count
-- Assumes nothing.
use mathlib.Core.Path.{◌≡◌, refl, sym, ap, ap₂, subst, ◌∙◌}
use mathlib.Core.Logic.{◌≢◌}
use mathlib.Core.Bool.{Bool, true, false, cond, ◌&&◌}
use mathlib.Core.List.{List, [], ◌∷◌, ◌++◌, map, flat_map}
use Prim.Native.Nat.{ℕ, zero, suc, ◌+◌, ◌-◌, ◌*◌, ◌<◌, ◌≤◌}
use native.Mathlib.Nat.{mul-zero, zero-mul, suc-mul, mul-add}
use native.Mathlib.Omega.{arith}
use borrow.Author.Tests.{ltb-true, ltb-false, lt-ltb, le-ltb, leb-true, leb-false, lt-leb, eqb-true, eqb-false, eq-eqb, ne_eqb}
use lib.Dec.{eqb, leb, ltb}
use lib.ListN.{length, get_or, take, get_or-eq_default}
use lib.Seq.{take-suc, take-length}
use Rattle.numbers.specs.Tables.{tab, count_where}
use Rattle.numbers.proofs.Truth.{both_true}
use Rattle.field.specs.Mod.{add, sub}
use Rattle.sharing_laws.specs.Poly.{eval}
use Rattle.sharing_laws.specs.Interp.{dot}
use Rattle.sharing_laws.specs.Sharing.{opened}
use Rattle.plan.specs.declared.Output.{Output}
use Rattle.plan.specs.File.{between, out_ok, gate_ok}
use Rattle.sharing_laws.proofs.Lists.{flat_map-map, length-map, length_rows, all-every}
use Rattle.plan.specs.declared.Gate.{Gate}
use Rattle.plan.specs.declared.Gate.TheVariants.{Input, Add, Scale, Offset, Multiply, Random, Spend}
use Rattle.plan.specs.declared.Rule.{Rule}
use Rattle.plan.specs.declared.Rule.TheVariants.{Reduction, Truncation}
use Rattle.plan.specs.declared.Step.{Step}
use Rattle.plan.specs.declared.Step.TheVariants.{DealInputs, DealProduct, DealZero, DealMasked, SendTruncated, DealDraws, OpenSpent, SendOuts}
use Rattle.sharing_laws.specs.Basis.{sum_all, row}
use Rattle.plan.specs.Plans.{Plan, party_count, parties, dealer_count, kind_of, is_kind, kind_count, operands_of, is_input_of, wires_from, input_wires, out_wires_of, out_wires, own_out_count, coin_count, input_at, coins_at, triple_at, multiply_steps, steps_at, steps_from, steps, step_at, last_call, sent_by, mail_count, written_count, per_multiply, sent_count, multiplying}
use Rattle.seat_messages.specs.Messages.{Called, wires_by_party, deal_to, nothing, product_at, send_at, call_with}
use Rattle.seat_messages.specs.Calls.{written}
use Rattle.run_protocol.specs.Rounds.{call_of, mail_to, after, results, sent_in, sent_before, sent_all, at_end}
use Rattle.run_protocol.specs.Shares.{wire_at, share_table}
use Rattle.run_protocol.specs.Tables.{table_mail, table_results, Tabled}
use Rattle.run_protocol.proofs.Following.{Is, Fits, steps_follow}
use Rattle.run_protocol.proofs.Induction.{called, calls_are}
use Rattle.run_protocol.proofs.Mails.{cat-flat_map, sum, sum_ext, sum_const, length_cat, counted}
use Rattle.plan.proofs.Valid.{Valid}
use Rattle.run_protocol.proofs.Expected.{Holds}
use Rattle.run_protocol.proofs.Runs.{laws, call_is, run_call, results-table}

-- ---- sums over the parties
sum-add : (f g : ℕ → ℕ) (n : ℕ) → sum (λ i. f i + g i) n ≡ sum f n + sum g n
unfolding sum
sum-add f g zero = refl
sum-add f g (suc n) = omega (arith, sum-add (λ i. f (suc i)) (λ i. g (suc i)) n)

sum-scale : (c : ℕ) (f : ℕ → ℕ) (n : ℕ) → sum (λ i. c * f i) n ≡ c * sum f n
unfolding sum
sum-scale c f zero = sym (mul-zero c)
sum-scale c f (suc n) = omega (arith, sum-scale c (λ i. f (suc i)) n, mul-add c (f 0) (sum (λ i. f (suc i)) n))

none_from : (n r s : ℕ) → s ≤ r → sum (λ j. cond (eqb (suc (r + j)) s) 1 0) n ≡ 0
none_from n r s l =
    sum_ext (λ j. cond (eqb (suc (r + j)) s) 1 0) (λ j. 0) n (λ j h. rw (ne_eqb (suc (r + j)) s (λ q. omega arith))) ∙ sum_const 0 n ∙ omega arith

shift : (n r s : ℕ) → sum (λ j. cond (eqb (suc (r + suc j)) s) 1 0) n ≡ sum (λ j. cond (eqb (suc (suc r + j)) s) 1 0) n
shift n r s =
    sum_ext (λ j. cond (eqb (suc (r + suc j)) s) 1 0) (λ j. cond (eqb (suc (suc r + j)) s) 1 0) n
    (λ j h. let z : r + suc j ≡ suc r + j = omega arith in ap (λ (v : ℕ). cond (eqb (suc v) s) 1 0) z)

one_by : (n r s : ℕ) → r < s → s ≤ r + suc n → (b : Bool) → eqb (suc (r + 0)) s ≡ b
    → (suc r < s → sum (λ j. cond (eqb (suc (suc r + j)) s) 1 0) n ≡ 1)
    → cond b 1 0 + sum (λ j. cond (eqb (suc (r + suc j)) s) 1 0) n ≡ 1
one_by n r s l h true e rest =
    let q : suc (r + 0) ≡ s = eqb-true (suc (r + 0)) s e in
    omega (arith, shift n r s, none_from n (suc r) s (omega arith))
one_by n r s l h false e rest =
    let q : suc (r + 0) ≡ s → ⊥ = eqb-false (suc (r + 0)) s e in
    let m : suc r < s = omega arith in
    omega (arith, shift n r s, rest m)

one_from : (n r s : ℕ) → r < s → s ≤ r + n → sum (λ j. cond (eqb (suc (r + j)) s) 1 0) n ≡ 1
unfolding sum
one_from zero r s l h = absurd (omega arith)
one_from (suc n) r s l h = one_by n r s l h (eqb (suc (r + 0)) s) refl (λ m. one_from n (suc r) s m (omega arith))

-- of the parties 1 to n, one is s
one_party : (n s : ℕ) → 1 ≤ s → s ≤ n → sum (λ j. cond (eqb (suc j) s) 1 0) n ≡ 1
one_party n s l h =
    sum_ext (λ j. cond (eqb (suc j) s) 1 0) (λ j. cond (eqb (suc (0 + j)) s) 1 0) n
    (λ j q. let z : j ≡ 0 + j = omega arith in ap (λ (v : ℕ). cond (eqb (suc v) s) 1 0) z)
    ∙ one_from n 0 s (omega arith) (omega arith)

first_by : (r d n : ℕ) → r ≤ d → d ≤ r + suc n → (b : Bool) → leb (suc (r + 0)) d ≡ b
    → ((s : ℕ) → s ≤ d → d ≤ s + n → sum (λ i. cond (leb (suc (s + i)) d) 1 0) n ≡ d - s)
    → cond b 1 0 + sum (λ i. cond (leb (suc (r + suc i)) d) 1 0) n ≡ d - r
first_by r d n l h true e rest =
    let q : suc (r + 0) ≤ d = leb-true (suc (r + 0)) d e in
    let s : sum (λ i. cond (leb (suc (r + suc i)) d) 1 0) n ≡ d - suc r =
    sum_ext (λ i. cond (leb (suc (r + suc i)) d) 1 0) (λ i. cond (leb (suc (suc r + i)) d) 1 0) n
    (λ i m. let z : r + suc i ≡ suc r + i = omega arith in ap (λ (v : ℕ). cond (leb (suc v) d) 1 0) z) ∙ rest (suc r) (omega arith) (omega arith) in
    omega (arith, s)
first_by r d n l h false e rest =
    let q : d < suc (r + 0) = leb-false (suc (r + 0)) d e in
    let s : sum (λ i. cond (leb (suc (r + suc i)) d) 1 0) n ≡ n * 0 =
    sum_ext (λ i. cond (leb (suc (r + suc i)) d) 1 0) (λ i. 0) n (λ i m. rw (lt-leb (suc (r + suc i)) d (omega arith))) ∙ sum_const 0 n in
    omega (arith, s)

first_from_lem : (n r d : ℕ) → r ≤ d → d ≤ r + n → sum (λ i. cond (leb (suc (r + i)) d) 1 0) n ≡ d - r
unfolding sum
first_from_lem zero r d l h = omega arith
first_from_lem (suc n) r d l h = first_by r d n l h (leb (suc (r + 0)) d) refl (λ s p q. first_from_lem n s d p q)

times-cond : (c : ℕ) (b : Bool) → cond b c 0 ≡ c * cond b 1 0
times-cond c true = omega arith
times-cond c false = sym (mul-zero c)

-- c from each of the first d of n parties
sum_dealers : (n d c : ℕ) → d ≤ n → sum (λ i. cond (leb (suc i) d) c 0) n ≡ c * d
sum_dealers n d c l =
    sum_ext (λ i. cond (leb (suc i) d) c 0) (λ i. c * cond (leb (suc (0 + i)) d) 1 0) n
    (λ i q. let z : i ≡ 0 + i = omega arith in times-cond c (leb (suc i) d) ∙ ap (λ (v : ℕ). c * cond (leb (suc v) d) 1 0) z)
    ∙ sum-scale c (λ i. cond (leb (suc (0 + i)) d) 1 0) n
    ∙ ap (λ (v : ℕ). c * v) (first_from_lem n 0 d (omega arith) (omega arith) ∙ omega arith)

-- ---- every input is one party's
input_once : (n p g : ℕ) (x : Gate) → gate_ok n p g x ≡ true → sum (λ j. cond (is_input_of (suc j) x) 1 0) n ≡ cond (is_kind 1 x) 1 0
unfolding gate_ok is_input_of is_kind kind_of operands_of between
input_once n p g (Input s) ok = one_party n s (leb-true 1 s (both_true (leb 1 s) (leb s n) ok).0) (leb-true s n (both_true (leb 1 s) (leb s n) ok).1)
input_once n p g (Add a b) ok = sum_const 0 n ∙ omega arith
input_once n p g (Scale a c) ok = sum_const 0 n ∙ omega arith
input_once n p g (Offset a c) ok = sum_const 0 n ∙ omega arith
input_once n p g (Multiply a b) ok = sum_const 0 n ∙ omega arith
input_once n p g Random ok = sum_const 0 n ∙ omega arith
input_once n p g (Spend a b) ok = sum_const 0 n ∙ omega arith

one_more : (b : Bool) (n : ℕ) → cond b (suc n) n ≡ cond b 1 0 + n
one_more true n = omega arith
one_more false n = omega arith

inputs_once : (n : ℕ) (gs : List Gate) → ((k : ℕ) → k < length gs → sum (λ j. cond (is_input_of (suc j) (get_or gs k (Input 0))) 1 0) n ≡ cond (is_kind 1 (get_or gs k (Input 0))) 1 0)
    → sum (λ j. count_where (is_input_of (suc j)) gs) n ≡ count_where (is_kind 1) gs
unfolding count_where
inputs_once n [] h = sum_const 0 n ∙ omega arith
inputs_once n (x ∷ gs) h =
    sum_ext (λ j. cond (is_input_of (suc j) x) (suc (count_where (is_input_of (suc j)) gs)) (count_where (is_input_of (suc j)) gs)) (λ j. cond (is_input_of (suc j) x) 1 0 + count_where (is_input_of (suc j)) gs) n
    (λ j l. one_more (is_input_of (suc j) x) (count_where (is_input_of (suc j)) gs))
    ∙ sum-add (λ j. cond (is_input_of (suc j) x) 1 0) (λ j. count_where (is_input_of (suc j)) gs) n
    ∙ ap₂ (λ (a b : ℕ). a + b) (h 0 (omega arith)) (inputs_once n gs (λ k l. h (suc k) (omega arith)))
    ∙ sym (one_more (is_kind 1 x) (count_where (is_kind 1) gs))

wires_by : (b : Bool) (g n : ℕ) (ws : List ℕ) → length ws ≡ n → length (cond b (g ∷ ws) ws) ≡ cond b (suc n) n
wires_by true g n ws e = ap suc e
wires_by false g n ws e = e

length_wires : (f : Gate → Bool) (g : ℕ) (gs : List Gate) → length (wires_from f g gs) ≡ count_where f gs
unfolding wires_from count_where
length_wires f g [] = refl
length_wires f g (x ∷ gs) = wires_by (f x) g (count_where f gs) (wires_from f (suc g) gs) (length_wires f (suc g) gs)

-- ---- every out is one party's
out_by : (b : Bool) (w : ℕ) (ws : List ℕ) → length (cond b (w ∷ ws) ws) ≡ cond b 1 0 + length ws
out_by true w ws = omega arith
out_by false w ws = omega arith

outs_once : (n gates : ℕ) (os : List Output) → ((o : ℕ) → o < length os → out_ok n gates (get_or os o (record { party = 0; wire = 0 })) ≡ true) → sum (λ j. length (out_wires_of (suc j) os)) n ≡ length os
unfolding out_wires_of out_ok between
outs_once n gates [] h = sum_const 0 n ∙ omega arith
outs_once n gates (o ∷ os) h =
    let ok = (both_true (leb 1 o.party && leb o.party n) (ltb o.wire gates) (h 0 (omega arith))).0 in
    let from1 : 1 ≤ o.party = leb-true 1 o.party (both_true (leb 1 o.party) (leb o.party n) ok).0 in
    let upto : o.party ≤ n = leb-true o.party n (both_true (leb 1 o.party) (leb o.party n) ok).1 in
    sum_ext (λ j. length (cond (eqb (suc j) o.party) (o.wire ∷ out_wires_of (suc j) os) (out_wires_of (suc j) os))) (λ j. cond (eqb (suc j) o.party) 1 0 + length (out_wires_of (suc j) os)) n
    (λ j l. out_by (eqb (suc j) o.party) o.wire (out_wires_of (suc j) os))
    ∙ sum-add (λ j. cond (eqb (suc j) o.party) 1 0) (λ j. length (out_wires_of (suc j) os)) n
    ∙ ap₂ (λ (a b : ℕ). a + b) (one_party n o.party from1 upto) (outs_once n gates os (λ k l. h (suc k) (omega arith)))
    ∙ omega arith

module _ (plan : Plan) (valid : Valid plan) where
  pub sum-outs : sum (λ j. own_out_count plan (suc j)) (party_count plan) ≡ length plan.outs
  unfolding own_out_count out_wires
  sum-outs = outs_once (party_count plan) (length plan.gates) plan.outs valid.outs

  sum-wires : sum (λ j. length (input_wires plan (suc j))) (party_count plan) ≡ kind_count plan 1
  unfolding input_wires kind_count
  sum-wires =
      sum_ext (λ j. length (wires_from (is_input_of (suc j)) 0 plan.gates)) (λ j. count_where (is_input_of (suc j)) plan.gates) (party_count plan) (λ j l. length_wires (is_input_of (suc j)) 0 plan.gates)
      ∙ inputs_once (party_count plan) plan.gates (λ k l. input_once (party_count plan) plan.p k (get_or plan.gates k (Input 0)) (valid.gates k l))

  -- each input is one party's
  pub placed : length (wires_by_party plan) ≡ kind_count plan 1
  unfolding wires_by_party parties
  placed =
      ap length (cat-flat_map (input_wires plan) suc (party_count plan)) ∙ length_cat (λ j. input_wires plan (suc j)) (party_count plan) ∙ sum-wires

  -- ---- what a call sends in a step
  -- a row of c numbers to each party
  rows-length : (row : ℕ → List ℕ) (c : ℕ) → ((x : ℕ) → length (row x) ≡ c) → length (flat_map (λ l. l) (map row plan.points)) ≡ party_count plan * c
  unfolding party_count
  rows-length row c h = ap length (flat_map-map (λ l. l) row plan.points) ∙ length_rows row c plan.points (all-every (λ x. length (row x) ≡ c) plan.points h)

  dealt-length : (fs : List (List ℕ)) → length (flat_map (λ l. l) (deal_to plan fs)) ≡ party_count plan * length fs
  unfolding deal_to
  dealt-length fs = rows-length (λ x. map (λ f. eval plan.p f x) fs) (length fs) (λ x. length-map (λ f. eval plan.p f x) fs)

  nothing-length : length (flat_map (λ l. l) (nothing plan)) ≡ 0
  unfolding nothing
  nothing-length = rows-length (λ x. []) 0 (λ x. refl) ∙ mul-zero (party_count plan)

  product-length : (fs : List (List ℕ)) → length fs ≡ 1 → (b : Bool) → length (flat_map (λ l. l) (cond b (deal_to plan fs) (nothing plan))) ≡ cond b (party_count plan) 0
  product-length fs e true = dealt-length fs ∙ ap (λ (m : ℕ). party_count plan * m) e ∙ omega arith
  product-length fs e false = nothing-length

  one-dealt : (f : List ℕ) → length (flat_map (λ l. l) (deal_to plan (f ∷ []))) ≡ party_count plan
  one-dealt f = dealt-length (f ∷ []) ∙ omega arith

  outs-length : (shares : List ℕ) → length (flat_map (λ l. l) (map (λ j. map (λ w. get_or shares w 0) (out_wires plan j)) (parties plan))) ≡ length plan.outs
  unfolding parties own_out_count
  outs-length shares =
      let row : ℕ → List ℕ = λ j. map (λ w. get_or shares w 0) (out_wires plan j) in
      ap length (flat_map-map (λ l. l) row (tab suc (party_count plan)) ∙ cat-flat_map row suc (party_count plan))
      ∙ length_cat (λ j. row (suc j)) (party_count plan)
      ∙ sum_ext (λ j. length (row (suc j))) (λ j. length (out_wires plan (suc j))) (party_count plan) (λ j l. length-map (λ w. get_or shares w 0) (out_wires plan (suc j)))
      ∙ sum-outs

  pub sent-length : (s : Step) (i : ℕ) (inputs coins triples shares mail : List ℕ) → length (flat_map (λ l. l) (send_at plan i s inputs coins triples shares mail)) ≡ sent_by plan i s
  unfolding send_at sent_by
  sent-length DealInputs i inputs coins triples shares mail =
      dealt-length (map (λ g. input_at plan i g inputs ∷ coins_at plan i g 0 plan.t coins) (input_wires plan i))
      ∙ ap (λ (m : ℕ). party_count plan * m) (length-map (λ g. input_at plan i g inputs ∷ coins_at plan i g 0 plan.t coins) (input_wires plan i))
  sent-length (DealProduct g a b) i inputs coins triples shares mail = product-length ((product_at plan a b shares ∷ coins_at plan i g 0 plan.t coins) ∷ []) refl (leb i (dealer_count plan))
  sent-length (DealZero g) i inputs coins triples shares mail = one-dealt (0 ∷ coins_at plan i g 0 (plan.t + plan.t) coins)
  sent-length (DealMasked g a b) i inputs coins triples shares mail =
      one-dealt (add plan.p (product_at plan a b shares) (sum_all plan.p mail) ∷ coins_at plan i g (plan.t + plan.t) plan.t coins)
  sent-length (SendTruncated g) i inputs coins triples shares mail =
      rows-length (λ x. dot plan.p (row plan.p plan.t plan.points x) mail ∷ []) 1 (λ x. refl) ∙ omega arith
  sent-length (DealDraws g) i inputs coins triples shares mail = one-dealt (input_at plan i g inputs ∷ coins_at plan i g 0 plan.t coins)
  sent-length (OpenSpent g a b) i inputs coins triples shares mail =
      rows-length (λ x. sub plan.p (get_or shares a 0) (get_or triples (triple_at plan g) 0) ∷ sub plan.p (get_or shares b 0) (get_or triples (triple_at plan g + 1) 0) ∷ []) 2 (λ x. refl) ∙ omega arith
  sent-length SendOuts i inputs coins triples shares mail = outs-length shares

  -- ---- what all parties send in a step: as many to each party
  to_each : Step → ℕ
  to_each DealInputs = kind_count plan 1
  to_each (DealProduct g a b) = dealer_count plan
  to_each (DealZero g) = party_count plan
  to_each (DealMasked g a b) = party_count plan
  to_each (SendTruncated g) = party_count plan
  to_each (DealDraws g) = party_count plan
  to_each (OpenSpent g a b) = 2 * party_count plan
  to_each SendOuts = length plan.outs

  sum-sent : (r s : Step) → Fits plan r s → sum (λ j. sent_by plan (suc j) s) (party_count plan) ≡ party_count plan * to_each s
  unfolding sent_by to_each dealer_count multiplying is_kind kind_of
  sum-sent r DealInputs fits = sum-scale (party_count plan) (λ j. length (input_wires plan (suc j))) (party_count plan) ∙ ap (λ (m : ℕ). party_count plan * m) sum-wires
  sum-sent r (DealProduct g a b) fits =
      sum_dealers (party_count plan) (dealer_count plan) (party_count plan) (omega (arith, valid.majority g fits.0 (ap multiplying fits.1)))
  sum-sent r (DealZero g) fits = sum_const (party_count plan) (party_count plan)
  sum-sent r (DealMasked g a b) fits = sum_const (party_count plan) (party_count plan)
  sum-sent r (SendTruncated g) fits = sum_const (party_count plan) (party_count plan)
  sum-sent r (DealDraws g) fits = sum_const (party_count plan) (party_count plan)
  sum-sent r (OpenSpent g a b) fits = sum_const (2 * party_count plan) (party_count plan)
  sum-sent r SendOuts fits = sum_const (length plan.outs) (party_count plan)

  sum_at : (k : ℕ) → k < last_call plan → sum (λ j. sent_by plan (suc j) (step_at plan k)) (party_count plan) ≡ party_count plan * to_each (step_at plan k)
  unfolding step_at steps
  sum_at zero l = sum-sent SendOuts DealInputs tt
  sum_at (suc k) l = sum-sent (step_at plan k) (step_at plan (suc k)) (steps_follow plan k l).fits

  -- ---- over all steps
  total_of : List Step → ℕ
  total_of [] = 0
  total_of (s ∷ ss) = to_each s + total_of ss

  total-append : (ss rs : List Step) → total_of (ss ++ rs) ≡ total_of ss + total_of rs
  unfolding total_of
  total-append [] rs = omega arith
  total-append (s ∷ ss) rs = omega (arith, total-append ss rs)

  total-multiply : (rule : Rule) (g a b : ℕ) → total_of (multiply_steps rule g a b) ≡ per_multiply plan rule
  unfolding total_of multiply_steps per_multiply to_each
  total-multiply Reduction g a b = omega arith
  total-multiply Truncation g a b = omega arith

  gates_total : List Gate → ℕ
  gates_total gs = count_where (is_kind 5) gs * per_multiply plan plan.rule + count_where (is_kind 6) gs * party_count plan + count_where (is_kind 7) gs * (2 * party_count plan)

  total-gates : (g : ℕ) (gs : List Gate) → total_of (steps_from plan.rule g gs) ≡ gates_total gs
  unfolding total_of steps_from steps_at gates_total count_where is_kind kind_of to_each
  total-gates g [] = omega (arith, zero-mul (per_multiply plan plan.rule), zero-mul (party_count plan), zero-mul (2 * party_count plan))
  total-gates g (Input s ∷ gs) = total-gates (suc g) gs
  total-gates g (Add a b ∷ gs) = total-gates (suc g) gs
  total-gates g (Scale a c ∷ gs) = total-gates (suc g) gs
  total-gates g (Offset a c ∷ gs) = total-gates (suc g) gs
  total-gates g (Multiply a b ∷ gs) =
      omega (
        arith,
        total-append (multiply_steps plan.rule g a b) (steps_from plan.rule (suc g) gs),
        total-multiply plan.rule g a b,
        total-gates (suc g) gs,
        suc-mul (count_where (is_kind 5) gs) (per_multiply plan plan.rule),
      )
  total-gates g (Random ∷ gs) = omega (arith, total-gates (suc g) gs, suc-mul (count_where (is_kind 6) gs) (party_count plan))
  total-gates g (Spend a b ∷ gs) = omega (arith, total-gates (suc g) gs, suc-mul (count_where (is_kind 7) gs) (2 * party_count plan))

  total-steps : total_of (steps plan)
      ≡ kind_count plan 1 + kind_count plan 5 * per_multiply plan plan.rule + kind_count plan 6 * party_count plan + kind_count plan 7 * (2 * party_count plan) + length plan.outs
  unfolding total_of steps to_each gates_total kind_count
  total-steps = omega (arith, total-append (steps_from plan.rule 0 plan.gates) (SendOuts ∷ []), total-gates 0 plan.gates)

  -- ---- the dealers of products are parties
  dealers-by : (k g a b : ℕ) → step_at plan k ≡ DealProduct g a b → (t : Bool) → ltb k (last_call plan) ≡ t → dealer_count plan ≤ party_count plan
  unfolding step_at steps last_call dealer_count multiplying is_kind kind_of
  dealers-by k g a b e false t =
      let d : step_at plan k ≡ SendOuts = get_or-eq_default (steps plan) SendOuts (ltb-false k (last_call plan) t) in
      let z : ◌≡◌ {A = ℕ} 0 1 = cc in
      absurd (omega arith)
  dealers-by zero g a b e true t = let z : ◌≡◌ {A = ℕ} 0 1 = cc in absurd (omega arith)
  dealers-by (suc k) g a b e true t =
      let fits : Is plan g (Multiply a b) = subst (Fits plan (step_at plan k)) e (steps_follow plan k (ltb-true (suc k) (last_call plan) t)).fits in
      omega (arith, valid.majority g fits.0 (ap multiplying fits.1))

  -- the mail of a call has its count, whatever the run's lists
  pub mail_count_lem : (xs cs ts : List ℕ) (i : ℕ) → 1 ≤ i → i ≤ party_count plan → (k : ℕ) → k ≤ last_call plan → length (mail_to i (after plan xs cs ts k)) ≡ mail_count plan i k
  mail_count_lem xs cs ts i from1 upto k l = counted plan placed (λ k g a b e. dealers-by k g a b e (ltb k (last_call plan)) refl) xs cs ts i from1 upto k l

-- ---- a run
module _ (plan : Plan) (valid : Valid plan) (xs cs ts : List ℕ) (tf : List (ℕ → ℕ)) (full : length cs ≡ coin_count plan) (tabled : Tabled plan ts tf) where
  abbrev call_one : ℕ → ℕ → Called
  call_one k i = call_is plan valid xs cs ts tf full tabled k i

  sent_by_lem : (k i : ℕ) → k < last_call plan → length (flat_map (λ l. l) (call_one k i).sent) ≡ sent_by plan i (step_at plan k)
  unfolding call_is called call_with
  sent_by_lem k i l = rw (lt-ltb k (last_call plan) l) (sent-length plan valid (step_at plan k) i _ _ _ _ _)

  sent-last : (i : ℕ) → length (flat_map (λ l. l) (call_one (last_call plan) i).sent) ≡ 0
  unfolding call_is called call_with
  sent-last i = rw (le-ltb (last_call plan) (last_call plan) (omega arith)) (nothing-length plan valid)

  written-by : (k i : ℕ) → k ≤ last_call plan → 1 ≤ i → i ≤ party_count plan → (b : Bool) → ltb k (last_call plan) ≡ b
      → length (written plan k (call_of i (after plan xs cs ts (suc k)))) ≡ cond b (sent_by plan i (step_at plan k)) (own_out_count plan i)
  unfolding written results at_end table_results own_out_count
  written-by k i h from1 upto true e =
      let l : k < last_call plan = ltb-true k (last_call plan) e in
      let ne : k ≢ last_call plan = λ q. omega arith in
      rw (ne_eqb k (last_call plan) ne) (ap (λ (c : Called). length (flat_map (λ l. l) c.sent)) (run_call plan valid xs cs ts tf full tabled k h i from1 upto) ∙ sent_by_lem k i l)
  written-by k i h from1 upto false e =
      let q : k ≡ last_call plan = omega (arith, ltb-false k (last_call plan) e) in
      rw (q, eq-eqb (last_call plan) (last_call plan) refl)
      (ap length (results-table plan valid xs cs ts tf full tabled i from1 upto)
      ∙ length-map (λ w. opened plan.p plan.t plan.points (map (wire_at (share_table plan xs cs tf) w) plan.points)) (out_wires plan i))

  -- what a call writes has its count
  pub written_count_lem : (k i : ℕ) → k ≤ last_call plan → 1 ≤ i → i ≤ party_count plan → length (written plan k (call_of i (after plan xs cs ts (suc k)))) ≡ written_count plan i k
  unfolding written_count
  written_count_lem k i h from1 upto = written-by k i h from1 upto (ltb k (last_call plan)) refl

  -- ---- elements sent
  sent-in-tab : (f : ℕ → Called) (u : ℕ → ℕ) (n : ℕ) → sent_in (map f (tab u n)) ≡ sum (λ j. length (flat_map (λ l. l) (f (u j)).sent)) n
  unfolding sent_in sum tab
  sent-in-tab f u zero = refl
  sent-in-tab f u (suc n) = ap (λ (m : ℕ). length (flat_map (λ l. l) (f (u 0)).sent) + m) (sent-in-tab f (λ j. u (suc j)) n)

  sent-in : (k : ℕ) → k ≤ last_call plan → sent_in (after plan xs cs ts (suc k)) ≡ sum (λ j. length (flat_map (λ l. l) (call_one k (suc j)).sent)) (party_count plan)
  unfolding parties call_is
  sent-in k l =
      ap sent_in (calls_are plan xs cs ts (λ i s. table_mail plan xs cs tf i s) (λ i s shares triples. Holds plan xs cs ts tf i s shares triples) (laws plan valid xs cs ts tf full tabled) k l)
      ∙ sent-in-tab (λ i. call_one k i) suc (party_count plan)

  sent-step : (k : ℕ) → k < last_call plan → sent_in (after plan xs cs ts (suc k)) ≡ party_count plan * to_each plan valid (step_at plan k)
  sent-step k l =
      sent-in k (omega arith)
      ∙ sum_ext (λ j. length (flat_map (λ l. l) (call_one k (suc j)).sent)) (λ j. sent_by plan (suc j) (step_at plan k)) (party_count plan) (λ j q. sent_by_lem k (suc j) l)
      ∙ sum_at plan valid k l

  -- the last call sends nothing
  pub sent-end : sent_in (after plan xs cs ts (suc (last_call plan))) ≡ 0
  sent-end =
      sent-in (last_call plan) (omega arith)
      ∙ sum_ext (λ j. length (flat_map (λ l. l) (call_one (last_call plan) (suc j)).sent)) (λ j. 0) (party_count plan) (λ j q. sent-last (suc j))
      ∙ sum_const 0 (party_count plan) ∙ mul-zero (party_count plan)

  total_next : (k : ℕ) → k < last_call plan → total_of plan valid (take (suc k) (steps plan)) ≡ total_of plan valid (take k (steps plan)) + to_each plan valid (step_at plan k)
  unfolding total_of step_at last_call
  total_next k l =
      ap (total_of plan valid) (take-suc (steps plan) k SendOuts l) ∙ total-append plan valid (take k (steps plan)) (get_or (steps plan) k SendOuts ∷ []) ∙ omega arith

  sent-before : (k : ℕ) → k ≤ last_call plan → sent_before plan xs cs ts k ≡ party_count plan * total_of plan valid (take k (steps plan))
  unfolding sent_before total_of
  sent-before zero l = sym (mul-zero (party_count plan))
  sent-before (suc k) l =
      ap₂ (λ (a b : ℕ). a + b) (sent-before k (omega arith)) (sent-step k l)
      ∙ sym (mul-add (party_count plan) (total_of plan valid (take k (steps plan))) (to_each plan valid (step_at plan k)))
      ∙ ap (λ (m : ℕ). party_count plan * m) (sym (total_next k l))

  -- the elements sent are the documents' count
  pub sent_all_lem : sent_all plan xs cs ts ≡ sent_count plan
  unfolding sent_all sent_before sent_count last_call
  sent_all_lem =
      ap₂ (λ (a b : ℕ). a + b) (sent-before (last_call plan) (omega arith)) sent-end
      ∙ omega arith
      ∙ ap (λ (m : ℕ). party_count plan * m) (ap (total_of plan valid) (take-length (steps plan)) ∙ total-steps plan valid)
