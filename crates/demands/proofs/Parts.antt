-- What a call writes falls into parts, one for each party, of the sizes that a host cuts by.
--     zero_bytes                                bytes of zeros
--     part_at                                   a part of what was joined
--     step_parts, part_sent                     the parts of what a call sends
--     cut                                       the sizes that a host cuts by
-- Assumes nothing.
use Prim.Native.Nat.{ℕ, zero, suc, ◌+◌, ◌-◌, ◌*◌, ◌<◌, ◌≤◌}
use mathlib.Core.Path.{◌≡◌, refl, sym, ap, ◌∙◌}
use mathlib.Core.Bool.{Bool, true, false, cond}
use mathlib.Core.List.{List, [], ◌∷◌, ◌++◌, map, flat_map}
use native.Mathlib.Omega.{arith}
use borrow.Author.Tests.{lt-ltb}
use lib.Dec.{leb}
use lib.ListN.{length, take, drop, get_or, replicate, length-append}
use lib.Seq.{take-append_seam, drop-append_seam}
use Rattle.numbers.specs.Tables.{tab}
use Rattle.numbers.specs.Bytes.{width, bytes_from, bytes_of}
use Rattle.numbers.proofs.Tables.{length-tab, get_or-tab}
use Rattle.numbers.proofs.Bytes.{take-bytes_of, drop-bytes_of}
use Rattle.sharing_laws.specs.Poly.{eval}
use Rattle.field.specs.Mod.{add, sub}
use Rattle.sharing_laws.specs.Interp.{dot}
use Rattle.sharing_laws.specs.Basis.{sum_all, row}
use Rattle.sharing_laws.proofs.Lists.{length-map, get_or-map-in}
use Rattle.plan.specs.declared.Gate.{Gate}
use Rattle.plan.specs.declared.Gate.TheVariants.{Input, Add, Scale, Offset, Multiply, Random, Spend}
use Rattle.plan.specs.declared.Rule.{Rule}
use Rattle.plan.specs.declared.Rule.TheVariants.{Reduction, Truncation}
use Rattle.plan.specs.declared.Step.{Step}
use Rattle.plan.specs.declared.Step.TheVariants.{DealInputs, DealProduct, DealZero, DealMasked, SendTruncated, DealDraws, OpenSpent, SendOuts}
use Rattle.plan.specs.Plans.{Plan, party_count, parties, dealer_count, input_wires, out_wires, own_out_count, input_at, coins_at, triple_at, multiply_steps, steps_at, steps_from, steps, step_at, last_call, received, sent_by, mail_count, written_count}
use Rattle.seat_messages.specs.Messages.{deal_to, nothing, product_at, send_at}
use Rattle.run_protocol.proofs.Runs.{last_step}
use Rattle.demands.specs.Apart.{part_in, part_count, part_from, part_of}
use Rattle.demands.specs.Further.{Cut}

-- ---- bytes
pub zero_bytes : (n : ℕ) → bytes_of (replicate n 0) ≡ replicate (width * n) 0
unfolding bytes_of bytes_from
zero_bytes zero = refl
zero_bytes (suc n) =
    let e : width * suc n ≡ suc (suc (suc (suc (width * n)))) = omega arith in
    rw (e, zero_bytes n)

-- ---- a part of what was joined
part_at : (size : ℕ → ℕ) (r i : ℕ) (ls : List (List ℕ)) → ((q : ℕ) → q < length ls → length (get_or ls q []) ≡ size (i + q)) → r < length ls
    → part_from size i r (bytes_of (flat_map (λ l. l) ls)) ≡ bytes_of (get_or ls r [])
unfolding part_from flat_map
part_at size r i [] h l = absurd (omega arith)
part_at size zero i (x ∷ ls) h l =
    let e : i + 0 ≡ i = omega arith in
    let q : length x ≡ size i = h 0 (omega arith) ∙ ap size e in
    take-bytes_of (size i) (x ++ flat_map (λ l. l) ls)
    ∙ ap (λ (n : ℕ). bytes_of (take n (x ++ flat_map (λ l. l) ls))) (sym q)
    ∙ ap bytes_of (take-append_seam x (flat_map (λ l. l) ls))
part_at size (suc r) i (x ∷ ls) h l =
    let e : i + 0 ≡ i = omega arith in
    let q : length x ≡ size i = h 0 (omega arith) ∙ ap size e in
    ap (part_from size (suc i) r)
    (drop-bytes_of (size i) (x ++ flat_map (λ l. l) ls)
    ∙ ap (λ (n : ℕ). bytes_of (drop n (x ++ flat_map (λ l. l) ls))) (sym q)
    ∙ ap bytes_of (drop-append_seam x (flat_map (λ l. l) ls)))
    ∙ part_at size r (suc i) ls (λ j m. let s : i + suc j ≡ suc i + j = omega arith in h (suc j) (omega arith) ∙ ap size s) (omega arith)

-- ---- the parts of what a call sends
-- a list for each party, of these sizes
pub record Parts (plan : Plan) (size : ℕ → ℕ) (ls : List (List ℕ)) : Type 0 where
  pub count : length ls ≡ party_count plan
  pub each : (q : ℕ) → q < party_count plan → length (get_or ls q []) ≡ size (1 + q)

module _ (plan : Plan) (size : ℕ → ℕ) where
  -- a row of so many numbers for each point
  row_parts : (row : ℕ → List ℕ) → ((x i : ℕ) → length (row x) ≡ size i) → Parts plan size (map row plan.points)
  unfolding party_count
  row_parts row e = record {
    count = length-map row plan.points;
    each = λ q l. ap length (get_or-map-in row plan.points q 0 [] l) ∙ e (get_or plan.points q 0) (1 + q);
  }

  dealt_parts : (fs : List (List ℕ)) → ((i : ℕ) → length fs ≡ size i) → Parts plan size (deal_to plan fs)
  unfolding deal_to
  dealt_parts fs e = row_parts (λ x. map (λ f. eval plan.p f x) fs) (λ x i. length-map (λ f. eval plan.p f x) fs ∙ e i)

  product_parts : (b : Bool) (fs : List (List ℕ)) → length fs ≡ 1 → ((i : ℕ) → cond b 1 0 ≡ size i) → Parts plan size (cond b (deal_to plan fs) (nothing plan))
  unfolding nothing
  product_parts true fs l e = dealt_parts fs (λ i. l ∙ e i)
  product_parts false fs l e = row_parts (λ x. []) (λ x i. e i)

  out_parts : (shares : List ℕ) → ((i : ℕ) → own_out_count plan i ≡ size i) → Parts plan size (map (λ j. map (λ w. get_or shares w 0) (out_wires plan j)) (parties plan))
  unfolding own_out_count parties
  out_parts shares e =
      let row : ℕ → List ℕ = λ i. map (λ w. get_or shares w 0) (out_wires plan i) in
      record {
        count = length-map row (tab suc (party_count plan)) ∙ length-tab suc (party_count plan);
        each = λ q l.
            let s : suc q ≡ 1 + q = omega arith in
            ap length (get_or-map-in row (tab suc (party_count plan)) q 0 [] (omega (arith, length-tab suc (party_count plan))) ∙ ap row (get_or-tab suc (party_count plan) q 0 l))
            ∙ ap (λ (i : ℕ). length (row i)) s
            ∙ length-map (λ w. get_or shares w 0) (out_wires plan (1 + q)) ∙ e (1 + q);
      }

-- what party j sends in a step
step_parts : (plan : Plan) (j : ℕ) (s : Step) (inputs coins triples shares mail : List ℕ) → Parts plan (part_in plan j s) (send_at plan j s inputs coins triples shares mail)
unfolding send_at part_in
step_parts plan j DealInputs inputs coins triples shares mail =
    let poly : ℕ → List ℕ = λ g. input_at plan j g inputs ∷ coins_at plan j g 0 plan.t coins in
    dealt_parts plan (λ i. length (input_wires plan j)) (map poly (input_wires plan j)) (λ i. length-map poly (input_wires plan j))
step_parts plan j (DealProduct g a b) inputs coins triples shares mail =
    product_parts plan (λ i. cond (leb j (dealer_count plan)) 1 0) (leb j (dealer_count plan)) ((product_at plan a b shares ∷ coins_at plan j g 0 plan.t coins) ∷ []) refl (λ i. refl)
step_parts plan j (DealZero g) inputs coins triples shares mail = dealt_parts plan (λ i. 1) ((0 ∷ coins_at plan j g 0 (plan.t + plan.t) coins) ∷ []) (λ i. refl)
step_parts plan j (DealMasked g a b) inputs coins triples shares mail =
    dealt_parts plan (λ i. 1) ((add plan.p (product_at plan a b shares) (sum_all plan.p mail) ∷ coins_at plan j g (plan.t + plan.t) plan.t coins) ∷ []) (λ i. refl)
step_parts plan j (SendTruncated g) inputs coins triples shares mail =
    row_parts plan (λ i. 1) (λ x. dot plan.p (row plan.p plan.t plan.points x) mail ∷ []) (λ x i. refl)
step_parts plan j (DealDraws g) inputs coins triples shares mail = dealt_parts plan (λ i. 1) ((input_at plan j g inputs ∷ coins_at plan j g 0 plan.t coins) ∷ []) (λ i. refl)
step_parts plan j (OpenSpent g a b) inputs coins triples shares mail =
    row_parts plan (λ i. 2) (λ x. sub plan.p (get_or shares a 0) (get_or triples (triple_at plan g) 0) ∷ sub plan.p (get_or shares b 0) (get_or triples (triple_at plan g + 1) 0) ∷ []) (λ x i. refl)
step_parts plan j SendOuts inputs coins triples shares mail = out_parts plan (λ i. own_out_count plan i) shares (λ i. refl)

-- party i's part of what party j's call number k sends
pub part_sent : (plan : Plan) (j k i : ℕ) → 1 ≤ i → i ≤ party_count plan → (inputs coins triples shares mail : List ℕ)
    → part_of (part_count plan j k) i (bytes_of (flat_map (λ l. l) (send_at plan j (step_at plan k) inputs coins triples shares mail)))
    ≡ bytes_of (get_or (send_at plan j (step_at plan k) inputs coins triples shares mail) (i - 1) [])
unfolding part_of part_count
part_sent plan j k i from1 upto inputs coins triples shares mail =
    let s : Parts plan (part_in plan j (step_at plan k)) (send_at plan j (step_at plan k) inputs coins triples shares mail) =
    step_parts plan j (step_at plan k) inputs coins triples shares mail in
    part_at (part_in plan j (step_at plan k)) (i - 1) 1 (send_at plan j (step_at plan k) inputs coins triples shares mail)
    (λ q m. s.each q (omega (arith, s.count))) (omega (arith, s.count))

-- ---- the sizes that a host cuts by
dealt_size : (b : Bool) (n : ℕ) → n * cond b 1 0 ≡ cond b n 0
dealt_size true n = omega arith
dealt_size false n = omega arith

-- a step in which each party sends as much to each
Even : Step → Type 0
Even DealInputs = Unit
Even (DealProduct g a b) = Unit
Even (DealZero g) = Unit
Even (DealMasked g a b) = Unit
Even (SendTruncated g) = Unit
Even (DealDraws g) = Unit
Even (OpenSpent g a b) = Unit
Even SendOuts = ⊥

even_cut : (plan : Plan) (j i : ℕ) (s : Step) → Even s → party_count plan * part_in plan j s i ≡ sent_by plan j s
unfolding part_in sent_by Even
even_cut plan j i DealInputs e = refl
even_cut plan j i (DealProduct g a b) e = dealt_size (leb j (dealer_count plan)) (party_count plan)
even_cut plan j i (DealZero g) e = omega arith
even_cut plan j i (DealMasked g a b) e = omega arith
even_cut plan j i (SendTruncated g) e = omega arith
even_cut plan j i (DealDraws g) e = omega arith
even_cut plan j i (OpenSpent g a b) e = omega arith
even_cut plan j i SendOuts e = absurd e

-- all steps but the last are such
AllEven : List Step → Type 0
AllEven [] = Unit
AllEven (s ∷ ss) = Even s × AllEven ss

multiply_even : (rule : Rule) (g a b : ℕ) (ss : List Step) → AllEven ss → AllEven (multiply_steps rule g a b ++ ss)
unfolding multiply_steps AllEven Even
multiply_even Reduction g a b ss h = (tt, h)
multiply_even Truncation g a b ss h = (tt, (tt, (tt, h)))

gates_even : (rule : Rule) (g : ℕ) (gs : List Gate) → AllEven (steps_from rule g gs)
unfolding steps_from steps_at AllEven Even
gates_even rule g [] = tt
gates_even rule g (Input s ∷ gs) = gates_even rule (suc g) gs
gates_even rule g (Add a b ∷ gs) = gates_even rule (suc g) gs
gates_even rule g (Scale a c ∷ gs) = gates_even rule (suc g) gs
gates_even rule g (Offset a c ∷ gs) = gates_even rule (suc g) gs
gates_even rule g (Multiply a b ∷ gs) = multiply_even rule g a b (steps_from rule (suc g) gs) (gates_even rule (suc g) gs)
gates_even rule g (Random ∷ gs) = (tt, gates_even rule (suc g) gs)
gates_even rule g (Spend a b ∷ gs) = (tt, gates_even rule (suc g) gs)

even_at : (ss rs : List Step) (k : ℕ) → AllEven ss → k < length ss → Even (get_or (ss ++ rs) k SendOuts)
unfolding AllEven
even_at [] rs k h l = absurd (omega arith)
even_at (s ∷ ss) rs zero h l = h.0
even_at (s ∷ ss) rs (suc k) h l = even_at ss rs k h.1 (omega arith)

step_even : (plan : Plan) (k : ℕ) → suc k < last_call plan → Even (step_at plan k)
unfolding step_at steps last_call AllEven Even
step_even plan k l =
    even_at (DealInputs ∷ steps_from plan.rule 0 plan.gates) (SendOuts ∷ []) k (tt, gates_even plan.rule 0 plan.gates)
    (omega (arith, length-append (steps_from plan.rule 0 plan.gates) (SendOuts ∷ [])))

dealt_cut : (plan : Plan) (j k i : ℕ) → suc k < last_call plan → party_count plan * part_count plan j k i ≡ written_count plan j k
unfolding part_count written_count
dealt_cut plan j k i l = rw (lt-ltb k (last_call plan) (omega arith)) (even_cut plan j i (step_at plan k) (step_even plan k l))

outs_cut : (plan : Plan) (j k i : ℕ) → suc k ≡ last_call plan → party_count plan * part_count plan j k i ≡ mail_count plan i (suc k)
unfolding part_count mail_count
outs_cut plan j k i e =
    let n = last_step plan in
    let m : n.0 ≡ k = omega (arith, n.1) in
    let s : step_at plan k ≡ SendOuts = ap (step_at plan) (sym m) ∙ n.2 in
    rw s (unfold part_in in unfold received in refl)

pub cut : (plan : Plan) → Cut plan
cut plan = record { dealt = dealt_cut plan; outs = outs_cut plan }
