-- Lists of inputs that agree at the members' inputs and give the members the same results pass the matching's refusals 21 and 22.
--     at-member                                 what holds for the list of members holds for each
--     inputs-agree, outs-agree                  refusals 21 and 22 do not fall
-- Assumes nothing.
use Rattle.std.proofs.Common.{Ok}
use Prim.Native.Nat.{ℕ, zero, suc, ◌+◌, ◌<◌, ◌≤◌}
use mathlib.Core.Path.{◌≡◌, refl, sym, ap, ◌∙◌}
use mathlib.Core.Bool.{Bool, true, false, cond, not, ◌&&◌, ◌||◌}
use mathlib.Core.List.{List, [], ◌∷◌, map, flat_map}
use native.Mathlib.Omega.{arith}
use borrow.Author.Tests.{leb-true, eq-eqb, eqb-true, eqb-false}
use lib.Dec.{leb, ltb, eqb}
use lib.ListN.{length, get_or, drop}
use lib.Seq.{get_or-drop}
use Rattle.numbers.proofs.Searches.{passes-nothing}
use Rattle.numbers.proofs.Truth.{both_true}
use Rattle.plan.specs.declared.Gate.{Gate}
use Rattle.plan.specs.declared.Gate.TheVariants.{Input, Add, Scale, Offset, Multiply, Random, Spend}
use Rattle.plan.specs.declared.Output.{Output}
use Rattle.plan.specs.declared.Refusal.TheVariants as refusal
use Rattle.plan.proofs.Refusals.{found_nothing}
use Rattle.plan.specs.Plans.{Plan, party_count, input_owners_at, input_owners, input_count, out_wires_of, out_wires, own_of, own_inputs}
use Rattle.plan.specs.File.{between, gate_ok, out_ok}
use Rattle.plan.proofs.Valid.{Valid}
use Rattle.sharing_laws.specs.Interp.{All}
use Rattle.sharing_laws.proofs.Alls.{all_append, all_at}
use Rattle.plan.proofs.Parties.{each-party}
use Rattle.plan_coalition.specs.Coalitions.{in_set, members, members_from}
use Rattle.run_protocol.specs.Ideal.{values, granted}
use Rattle.match_agreement.specs.MatchCalls.{inputs_agree, outs_agree}

-- ---- each member
module _ {B : Type 0} (f g : ℕ → B) (set i : ℕ) (on : in_set set i ≡ true) where
  from-members : (k j : ℕ) → j ≤ i → i < j + k → map f (members_from set j k) ≡ map g (members_from set j k) → f i ≡ g i
  unfolding members_from
  from-members zero j l m e = absurd (omega arith)
  from-members (suc k) j l m e = step (from-members k (suc j)) (eqb i j) refl (in_set set j) refl e
    where
      step : (suc j ≤ i → i < suc j + k → map f (members_from set (suc j) k) ≡ map g (members_from set (suc j) k) → f i ≡ g i)
          → (s : Bool) → eqb i j ≡ s → (b : Bool) → in_set set j ≡ b
          → map f (cond b (j ∷ members_from set (suc j) k) (members_from set (suc j) k)) ≡ map g (cond b (j ∷ members_from set (suc j) k) (members_from set (suc j) k)) → f i ≡ g i
      step later true s true b e = let q : i ≡ j = eqb-true i j s in rw q (ap (λ (l : List B). get_or l 0 (f j)) e)
      step later true s false b e =
          let q : i ≡ j = eqb-true i j s in
          let c : true ≡ false = sym on ∙ ap (in_set set) q ∙ b in
          absurd (let z : ◌≡◌ {A = ℕ} 1 0 = ap (λ (t : Bool). cond {A = ℕ} t 1 0) c in omega (arith, z))
      step later false s true b e = let n : i ≡ j → ⊥ = eqb-false i j s in later (omega (arith, n)) (omega arith) (ap (drop 1) e)
      step later false s false b e = let n : i ≡ j → ⊥ = eqb-false i j s in later (omega (arith, n)) (omega arith) e

  pub at-member : 1 ≤ i → i ≤ 16 → map f (members set) ≡ map g (members set) → f i ≡ g i
  unfolding members
  at-member l m e = from-members 16 1 l (omega arith) e

-- ---- refusal 21
-- the owners of inputs are parties of the plan
module _ (plan : Plan) (P : ℕ → Type 0) where
  owners_from : (gs : List Gate) → ((g : ℕ) → g < length gs → All P (input_owners_at plan (get_or gs g (Input 0)))) → All P (flat_map (input_owners_at plan) gs)
  unfolding flat_map
  owners_from [] h = tt
  owners_from (x ∷ gs) h = all_append P (input_owners_at plan x) (flat_map (input_owners_at plan) gs) (h 0 (omega arith)) (owners_from gs (λ g l. h (suc g) (omega arith)))

  owners-at : (g : ℕ) (x : Gate) → ((s : ℕ) → 1 ≤ s → s ≤ party_count plan → P s) → gate_ok (party_count plan) plan.p g x ≡ true → All P (input_owners_at plan x)
  unfolding input_owners_at gate_ok between
  owners-at g (Input s) h ok =
      let k = both_true (leb 1 s) (leb s (party_count plan)) ok in
      (h s (leb-true 1 s k.0) (leb-true s (party_count plan) k.1), tt)
  owners-at g (Add a b) h ok = tt
  owners-at g (Scale a c) h ok = tt
  owners-at g (Offset a c) h ok = tt
  owners-at g (Multiply a b) h ok = tt
  owners-at g Random h ok = each-party plan P h
  owners-at g (Spend a b) h ok = tt

next_input : (xs ys : List ℕ) (j : ℕ) → get_or (drop 1 xs) j 0 ≡ get_or (drop 1 ys) j 0 → get_or xs (suc j) 0 ≡ get_or ys (suc j) 0
next_input xs ys j e =
    let s : 1 + j ≡ suc j = omega arith in
    ap (λ (k : ℕ). get_or xs k 0) (sym s) ∙ sym (get_or-drop 1 xs j 0) ∙ e ∙ get_or-drop 1 ys j 0 ∙ ap (λ (k : ℕ). get_or ys k 0) s

-- the same own inputs are the same where they stand in the list of all
own_agree : (i : ℕ) (os xs ys : List ℕ) → own_of i os xs ≡ own_of i os ys → (j : ℕ) → j < length os → get_or os j 0 ≡ i → get_or xs j 0 ≡ get_or ys j 0
unfolding own_of
own_agree i [] xs ys e j l o = absurd (omega arith)
own_agree i (s ∷ os) xs ys e zero l o = head (eqb i s) (eq-eqb i s (sym o)) e
  where
    head : (b : Bool) → b ≡ true
        → cond b (get_or xs 0 0 ∷ own_of i os (drop 1 xs)) (own_of i os (drop 1 xs)) ≡ cond b (get_or ys 0 0 ∷ own_of i os (drop 1 ys)) (own_of i os (drop 1 ys)) → get_or xs 0 0 ≡ get_or ys 0 0
    head true t e = ap (λ (m : List ℕ). get_or m 0 0) e
    head false t e = absurd (let z : ◌≡◌ {A = ℕ} 0 1 = ap (λ (u : Bool). cond {A = ℕ} u 1 0) t in omega (arith, z))
own_agree i (s ∷ os) xs ys e (suc j) l o = next_input xs ys j (own_agree i os (drop 1 xs) (drop 1 ys) (rest (eqb i s) e) j (omega arith) o)
  where
    rest : (b : Bool)
        → cond b (get_or xs 0 0 ∷ own_of i os (drop 1 xs)) (own_of i os (drop 1 xs)) ≡ cond b (get_or ys 0 0 ∷ own_of i os (drop 1 ys)) (own_of i os (drop 1 ys))
        → own_of i os (drop 1 xs) ≡ own_of i os (drop 1 ys)
    rest true e = ap (drop 1) e
    rest false e = e

either : (b : Bool) (x y : ℕ) → (b ≡ true → x ≡ y) → (not b || eqb x y) ≡ true
either true x y h = eq-eqb x y (h refl)
either false x y h = refl

module _ (plan : Plan) (valid : Valid plan) (n-high : party_count plan ≤ 16) (set : ℕ) (xs ys : List ℕ) where
  owner-in : (j : ℕ) → j < input_count plan → (1 ≤ get_or (input_owners plan) j 0) × (get_or (input_owners plan) j 0 ≤ 16)
  unfolding input_count input_owners
  owner-in j l =
      let P : ℕ → Type 0 = λ s. (1 ≤ s) × (s ≤ 16) in
      all_at P (input_owners plan) j
      (owners_from plan P plan.gates (λ g m. owners-at plan P g (get_or plan.gates g (Input 0)) (λ s low high. (low, omega arith)) (valid.gates g m))) l

  pub inputs-agree : map (λ i. own_inputs plan i xs) (members set) ≡ map (λ i. own_inputs plan i ys) (members set) → inputs_agree plan set xs ys ≡ Ok tt
  unfolding inputs_agree input_count own_inputs
  inputs-agree e =
      found_nothing refusal.InputsDiffer _
      (passes-nothing (λ j. not (in_set set (get_or (input_owners plan) j 0)) || eqb (get_or xs j 0) (get_or ys j 0)) (input_count plan)
      (λ j l. either (in_set set (get_or (input_owners plan) j 0)) (get_or xs j 0) (get_or ys j 0)
      (λ on. own_agree (get_or (input_owners plan) j 0) (input_owners plan) xs ys
      (at-member (λ i. own_inputs plan i xs) (λ i. own_inputs plan i ys) set (get_or (input_owners plan) j 0) on (owner-in j l).0 (owner-in j l).1 e) j l refl)))

-- ---- refusal 22
out_agree : (f g : ℕ → ℕ) (i : ℕ) (os : List Output) → map f (out_wires_of i os) ≡ map g (out_wires_of i os) → (o : ℕ) → o < length os
    → (get_or os o (record { party = 0; wire = 0 })).party ≡ i → f (get_or os o (record { party = 0; wire = 0 })).wire ≡ g (get_or os o (record { party = 0; wire = 0 })).wire
unfolding out_wires_of
out_agree f g i [] e o l q = absurd (omega arith)
out_agree f g i (x ∷ os) e zero l q = head (eqb i x.party) (eq-eqb i x.party (sym q)) e
  where
    head : (b : Bool) → b ≡ true → map f (cond b (x.wire ∷ out_wires_of i os) (out_wires_of i os)) ≡ map g (cond b (x.wire ∷ out_wires_of i os) (out_wires_of i os)) → f x.wire ≡ g x.wire
    head true t e = ap (λ (m : List ℕ). get_or m 0 0) e
    head false t e = absurd (let z : ◌≡◌ {A = ℕ} 0 1 = ap (λ (u : Bool). cond {A = ℕ} u 1 0) t in omega (arith, z))
out_agree f g i (x ∷ os) e (suc o) l q = out_agree f g i os (rest (eqb i x.party) e) o (omega arith) q
  where
    rest : (b : Bool) → map f (cond b (x.wire ∷ out_wires_of i os) (out_wires_of i os)) ≡ map g (cond b (x.wire ∷ out_wires_of i os) (out_wires_of i os)) → map f (out_wires_of i os) ≡ map g (out_wires_of i os)
    rest true e = ap (drop 1) e
    rest false e = e

module _ (plan : Plan) (valid : Valid plan) (n-high : party_count plan ≤ 16) (set : ℕ) (xs ys : List ℕ) where
  out-in : (o : ℕ) → o < length plan.outs → (1 ≤ (get_or plan.outs o (record { party = 0; wire = 0 })).party) × ((get_or plan.outs o (record { party = 0; wire = 0 })).party ≤ 16)
  unfolding out_ok between
  out-in o l =
      let s : ℕ = (get_or plan.outs o (record { party = 0; wire = 0 })).party in
      let w : ℕ = (get_or plan.outs o (record { party = 0; wire = 0 })).wire in
      let ok : (leb 1 s && leb s (party_count plan)) ≡ true = (both_true (leb 1 s && leb s (party_count plan)) (ltb w (length plan.gates)) (valid.outs o l)).0 in
      let low : 1 ≤ s = leb-true 1 s (both_true (leb 1 s) (leb s (party_count plan)) ok).0 in
      let high : s ≤ party_count plan = leb-true s (party_count plan) (both_true (leb 1 s) (leb s (party_count plan)) ok).1 in
      (low, omega (arith, high, n-high))

  pub outs-agree : map (granted plan xs) (members set) ≡ map (granted plan ys) (members set) → outs_agree plan set (values plan xs) (values plan ys) ≡ Ok tt
  unfolding outs_agree granted out_wires
  outs-agree e =
      found_nothing refusal.OutputsDiffer _
      (passes-nothing _ (length plan.outs)
      (λ o l. either (in_set set (get_or plan.outs o (record { party = 0; wire = 0 })).party) _ _
      (λ on. out_agree (λ w. get_or (values plan xs) w 0) (λ w. get_or (values plan ys) w 0) (get_or plan.outs o (record { party = 0; wire = 0 })).party plan.outs
      (at-member (granted plan xs) (granted plan ys) set (get_or plan.outs o (record { party = 0; wire = 0 })).party on (out-in o l).0 (out-in o l).1 e) o l refl)))
