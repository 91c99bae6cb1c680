-- What each way through the code of a call's learning says of its definition, with a ruleset for the needs of each function.
--     working                        a gate worked on the shares
--     Worked, going_on               the gates up to the next that takes rounds
--     learning_one                   a wire of a party's inputs
--     Learning, learning_own         all wires of a party's inputs
--     Gathered, gathering            the wires of all parties' inputs
--     opening                        an opening of the mail
--     learning_mail, resuming        a step's mail, and where the work goes on
--     learning                       a step
-- Assumes nothing.
use mathlib.Core.Path.{◌≡◌, refl, sym, ap, subst, ◌∙◌}
use mathlib.Core.Logic.{◌⊎◌, inl, inr}
use mathlib.Core.Bool.{Bool, true, false, cond}
use mathlib.Core.List.{List, [], ◌∷◌, ◌++◌, flat_map}
use Prim.Native.Nat.{ℕ, suc, ◌+◌, ◌*◌, ◌<◌, ◌≤◌}
use native.Mathlib.Nat.{mod-lt}
use native.Mathlib.Numerals.{add-one}
use native.Mathlib.Omega.{arith}
use borrow.Author.Rules.{rules}
use lib.Dec.{leb}
use mir.Syntax.{w64}
use mir.Val.{Fits}
use lib.ListN.{length, get_or, take, drop, set, drop_of_length-le}
use lib.Seq.{take-take, drop-cons, drop-drop, get_or-drop, set-get_or}
use Rattle.numbers.specs.Tables.{tab, count_where}
use Rattle.numbers.specs.Bytes.{limit, numbers, stored, all_below}
use Rattle.numbers.proofs.Tables.{length-tab, get_or-tab}
use Rattle.numbers.proofs.Bytes.{numbers-stored}
use Rattle.numbers.proofs.Below.{all_below-set, all_below-take, all_below-drop}
use Rattle.field.specs.Mod.{add, mul, sub}
use Rattle.field.specs.Field.{Is, Ready}
use Rattle.sharing_laws.specs.Basis.{sum_all}
use Rattle.sharing_laws.specs.Interp.{weights, dot, interpolate}
use Rattle.sharing_laws.specs.Sharing.{opened}
use Rattle.sharing_openings.specs.Openable.{Openable}
use Rattle.sharing_laws.proofs.Interpolation.{length-weights}
use Rattle.sharing.proofs.Coding.{entry_below}
use Rattle.seat_messages.proofs.PointLaws.{gate_of_file, plan_points_below, points-within, points-part, points-count}
use Rattle.plan.specs.declared.Gate.{Gate}
use Rattle.plan.specs.declared.Gate.TheVariants.{Input, Add, Scale, Offset, Multiply, Random, Spend}
use Rattle.plan.specs.declared.Step.{Step}
use Rattle.plan.specs.declared.Step.TheVariants.{DealInputs, DealProduct, DealZero, DealMasked, SendTruncated, DealDraws, OpenSpent, SendOuts}
use Rattle.plan.specs.declared.Header.{Header}
use Rattle.plan.specs.Plans.{Plan, parties, dealer_count, dealer_points, kind_of, is_kind, multiplying, is_input_of, wires_from, input_wires, triple_at}
use Rattle.plan.specs.File.{gate_at, plan_of}
use Rattle.plan.specs.Planned.{Planned}
use Rattle.plan.proofs.Wires.{length-input_wires}
use Rattle.plan.proofs.Planned.{plan_t, plan_p, plan_n, plan_gates, plan_gate}
use Rattle.plan.proofs.Valid.{valid, planned-ready, gate-kept, scale_constant, offset_constant}
use Rattle.plan_counts.specs.Counts.{IsGate, Stepped}
use Rattle.plan_counts.proofs.Steps.{stepped-product}
use Rattle.seat_learning.specs.Lent.{Holds}
use Rattle.seat_results.proofs.ResultLaws.{shares_long, shares_below, dot_from_one}
use Rattle.seat_messages.specs.Messages.{from_each, work_gate, work_from, set_all, wires_by_party, opened_at, spent_share, learnt, resume_at, learn_from}

-- ---- a plan that passes
module _ (bs : List ℕ) (h : Header) (k : Planned bs h) where
  -- its gates from g on
  gates_from : (g : ℕ) → g < h.gates → drop g (plan_of bs).gates ≡ gate_at bs g ∷ drop (suc g) (plan_of bs).gates
  gates_from g l = rw (drop-cons (plan_of bs).gates g (Input 0) (rw (plan_gates k) l), plan_gate k g l)

  gates-past : (g : ℕ) → h.gates ≤ g → drop g (plan_of bs).gates ≡ []
  gates-past g l = drop_of_length-le (plan_of bs).gates {i = g} (rw (plan_gates k) l)

  parties_are : parties (plan_of bs) ≡ tab suc h.n
  unfolding parties
  parties_are = rw (plan_n k)

  -- its parties from the (i + 1)-th on
  parties_from : (i : ℕ) → i < h.n → drop i (parties (plan_of bs)) ≡ (i + 1) ∷ drop (i + 1) (parties (plan_of bs))
  parties_from i l = rw (parties_are, drop-cons (tab suc h.n) i 0 (rw length-tab l), get_or-tab suc h.n i 0 l, add-one)

  parties-past : (i : ℕ) → h.n ≤ i → drop i (parties (plan_of bs)) ≡ []
  parties-past i l = drop_of_length-le (parties (plan_of bs)) {i = i} (rw (parties_are, length-tab) l)

-- ---- lists of elements
pub read_below : (p : ℕ) (s : List ℕ) (i x : ℕ) → Ready p → all_below p (numbers s) ≡ true → x ≡ get_or (numbers s) i 0 → x < p
read_below p s i x r h e = omega (arith, entry_below p (numbers s) i r h)

-- a number is written
pub written : (s d xs : List ℕ) (i v : ℕ) → v < limit → d ≡ stored s i v → set (numbers s) i v ≡ xs → numbers d ≡ xs
written s d xs i v l e q = ap numbers e ∙ numbers-stored s i v l ∙ q

-- and an element
pub written_holds : (p : ℕ) (s d xs : List ℕ) (i v : ℕ) → Ready p → all_below p (numbers s) ≡ true → v < p → d ≡ stored s i v → set (numbers s) i v ≡ xs → Holds p xs d
written_holds p s d xs i v r h l e q =
    let w : numbers d ≡ set (numbers s) i v = written s d _ i v (omega (arith, r.small)) e refl in
    record { eq = w ∙ q; below = rw w (all_below-set p i v (numbers s) h l) }

-- ---- a gate
-- the gates that are no sum, multiple or offset leave the shares as they are
work_none : (p g : ℕ) (gate : Gate) (xs : List ℕ) → ((a b : ℕ) → gate ≡ Add a b → ⊥) → ((a c : ℕ) → gate ≡ Scale a c → ⊥) → ((a c : ℕ) → gate ≡ Offset a c → ⊥) → work_gate p g gate xs ≡ xs
unfolding work_gate
work_none p g (Input s) xs add scale offset = refl
work_none p g (Add a b) xs add scale offset = absurd (add a b refl)
work_none p g (Scale a c) xs add scale offset = absurd (scale a c refl)
work_none p g (Offset a c) xs add scale offset = absurd (offset a c refl)
work_none p g (Multiply a b) xs add scale offset = refl
work_none p g Random xs add scale offset = refl
work_none p g (Spend a b) xs add scale offset = refl

module _ (p g : ℕ) (gate : Gate) (xs : List ℕ) (r : ℕ) where
  pub work_other : ((a b : ℕ) → gate ≡ Add a b → ⊥) → ((a c : ℕ) → gate ≡ Scale a c → ⊥) → ((a c : ℕ) → gate ≡ Offset a c → ⊥) → r ≡ get_or xs g 0 → set xs g r ≡ work_gate p g gate xs
  work_other add scale offset h = rw (h, set-get_or xs g 0) (sym (work_none p g gate xs add scale offset))

  pub work-add : (a b x y : ℕ) → gate ≡ Add a b → x ≡ get_or xs a 0 → y ≡ get_or xs b 0 → r ≡ add p x y → set xs g r ≡ work_gate p g gate xs
  unfolding work_gate
  work-add a b x y e f h q = rw (e, q, f, h)

  pub work-scale : (a c x : ℕ) → gate ≡ Scale a c → x ≡ get_or xs a 0 → r ≡ mul p x c → set xs g r ≡ work_gate p g gate xs
  unfolding work_gate
  work-scale a c x e f q = rw (e, q, f)

  pub work_offset : (a c x : ℕ) → gate ≡ Offset a c → x ≡ get_or xs a 0 → r ≡ add p x c → set xs g r ≡ work_gate p g gate xs
  unfolding work_gate
  work_offset a c x e f q = rw (e, q, f)

pub ruleset working = (rules, read_below, scale_constant, offset_constant, work_other, work-add, work-scale, work_offset)

-- ---- the gates up to the next that takes rounds
-- the invariant at gate g: the shares are s, and were s₀; what is left to work gives what there is to work
pub record Worked (bs : List ℕ) (p from : ℕ) (s₀ s : List ℕ) (g : ℕ) : Type 0 where
  pub rest : work_from p g (drop g (plan_of bs).gates) (numbers s) ≡ work_from p from (drop from (plan_of bs).gates) (numbers s₀)
  pub below : all_below p (numbers s) ≡ true
  pub long : length s ≡ length s₀

module _ (bs : List ℕ) (h : Header) (from : ℕ) (s₀ : List ℕ) where
  pub work-begin : all_below h.field.p (numbers s₀) ≡ true → Worked bs h.field.p from s₀ s₀ from
  work-begin b = record { rest = refl; below = b; long = refl }

  module _ (s : List ℕ) (g : ℕ) (w : Worked bs h.field.p from s₀ s g) (pl : Planned bs h) where
    pub work-end : h.gates ≤ g → Holds h.field.p (work_from h.field.p from (drop from (plan_of bs).gates) (numbers s₀)) s
    unfolding work_from
    work-end l = record { eq = rw (gates-past bs h pl g l) at w.rest; below = w.below }

    module _ (gate : Gate) (t : Bool) (l : g < h.gates) (e : gate ≡ gate_at bs g) (m : t ≡ leb 5 (kind_of gate)) where
      pub work-stop : t ≡ true → Holds h.field.p (work_from h.field.p from (drop from (plan_of bs).gates) (numbers s₀)) s
      unfolding work_from
      work-stop y = record { eq = rw (gates_from bs h pl g l, ← e, ← m, y) at w.rest; below = w.below }

      pub work_next : (d : List ℕ) (v : ℕ) → t ≡ false → set (numbers s) g v ≡ work_gate h.field.p g gate (numbers s) → v < h.field.p → d ≡ stored s g v → length d ≡ length s
          → Worked bs h.field.p from s₀ d (g + 1)
      unfolding work_from
      work_next d v n q u o j =
          let k = written_holds h.field.p s d _ g v (planned-ready bs h pl) w.below u o q in
          record { rest = rw (add-one, k.eq) (rw (gates_from bs h pl g l, ← e, ← m, n) at w.rest); below = k.below; long = j ∙ w.long }

-- As it is: answers name this set, since the check leaves their goals open by `using` alone.
pub ruleset going_on = (rules, gate_of_file, gate-kept, work-begin, work-end, work-stop, work_next)

-- ---- the wires of one party's inputs
-- one gate
module _ (i g : ℕ) (gate : Gate) (mail s : List ℕ) (at : ℕ) (t : Bool) (e : t ≡ is_input_of i gate) where
  pub input_learnt : (x : ℕ) (d : List ℕ) → t ≡ true → x ≡ get_or (numbers mail) at 0 → x < limit → d ≡ stored s g x
      → numbers d ≡ cond (is_input_of i gate) (set (numbers s) g (get_or (numbers mail) at 0)) (numbers s)
  input_learnt x d y q l w = written s d _ g x l w (rw (← e, y, q))

  pub input_passed : t ≡ false → numbers s ≡ cond (is_input_of i gate) (set (numbers s) g (get_or (numbers mail) at 0)) (numbers s)
  input_passed n = rw (← e, n)

pub one-learnt : (i at : ℕ) (gate : Gate) (t : Bool) → t ≡ is_input_of i gate → t ≡ true → at + 1 ≡ at + cond (is_input_of i gate) 1 0
one-learnt i at gate t e y = rw (← e, y)

pub none-learnt : (i at : ℕ) (gate : Gate) (t : Bool) → t ≡ is_input_of i gate → t ≡ false → at ≡ at + cond (is_input_of i gate) 1 0
none-learnt i at gate t e n = rw (← e, n) (omega arith)

pub ruleset learning_one = (rules, input_learnt, input_passed, one-learnt, none-learnt)

set-cons : (xs ws vs : List ℕ) (g : ℕ) → set_all xs (g ∷ ws) vs ≡ set_all (set xs g (get_or vs 0 0)) ws (drop 1 vs)
unfolding set_all
set-cons xs ws vs g = refl

first_of : (vs : List ℕ) (at : ℕ) → get_or (drop at vs) 0 0 ≡ get_or vs at 0
first_of vs at = let z : at + 0 ≡ at = omega arith in get_or-drop at vs 0 0 ∙ ap (λ (n : ℕ). get_or vs n 0) z

set_step : (t : Bool) (xs ws vs : List ℕ) (g at : ℕ) → set_all (cond t (set xs g (get_or vs at 0)) xs) ws (drop (at + cond t 1 0) vs) ≡ set_all xs (cond t (g ∷ ws) ws) (drop at vs)
set_step true xs ws vs g at = sym (set-cons xs ws (drop at vs) g ∙ rw (first_of vs at, drop-drop 1 at vs))
set_step false xs ws vs g at = let z : at + 0 ≡ at = omega arith in ap (λ (n : ℕ). set_all xs ws (drop n vs)) z

count_step : (t : Bool) (at n : ℕ) → at + cond t 1 0 + n ≡ at + cond t (suc n) n
count_step true at n = omega arith
count_step false at n = omega arith

-- the invariant at gate g, when number `at` of the mail is the next
pub record Learning (bs mail : List ℕ) (i from : ℕ) (s₀ s : List ℕ) (at g : ℕ) : Type 0 where
  pub rest : set_all (numbers s) (wires_from (is_input_of i) g (drop g (plan_of bs).gates)) (drop at (numbers mail)) ≡ set_all (numbers s₀) (input_wires (plan_of bs) i) (drop from (numbers mail))
  pub next : at + count_where (is_input_of i) (drop g (plan_of bs).gates) ≡ from + length (input_wires (plan_of bs) i)
  pub few : at ≤ from + g
  pub within : g ≤ 1024
  pub long : length s ≡ length s₀

module _ (bs mail : List ℕ) (h : Header) (i from : ℕ) (s₀ : List ℕ) where
  pub learn-none : Learning bs mail i from s₀ s₀ from 0
  unfolding input_wires
  learn-none = record { rest = refl; next = ap (λ (n : ℕ). from + n) (sym (length-input_wires (plan_of bs) i)); few = omega arith; within = omega arith; long = refl }

  module _ (s : List ℕ) (at g : ℕ) (w : Learning bs mail i from s₀ s at g) (pl : Planned bs h) where
    pub learn-next : (gate : Gate) (d : List ℕ) (r : ℕ) → g < h.gates → gate ≡ gate_at bs g
        → numbers d ≡ cond (is_input_of i gate) (set (numbers s) g (get_or (numbers mail) at 0)) (numbers s)
        → r ≡ at + cond (is_input_of i gate) 1 0 → r ≤ at + 1 → length d ≡ length s → Learning bs mail i from s₀ d r (g + 1)
    unfolding wires_from count_where
    learn-next gate d r l e k n m j = record {
      rest = rw (add-one, k, n) (set_step (is_input_of i gate) (numbers s) (wires_from (is_input_of i) (suc g) (drop (suc g) (plan_of bs).gates)) (numbers mail) g at ∙ rw (gates_from bs h pl g l, ← e) at w.rest);
      next = rw (add-one, n) (count_step (is_input_of i gate) at (count_where (is_input_of i) (drop (suc g) (plan_of bs).gates)) ∙ rw (gates_from bs h pl g l, ← e) at w.next);
      few = omega (arith, w.few);
      within = omega (arith, pl.gates-high);
      long = j ∙ w.long;
    }

    pub place_small : from ≤ 15360 → at ≤ 16384
    place_small l = omega (arith, w.few, w.within)

    pub learn-end : h.gates ≤ g → numbers s ≡ set_all (numbers s₀) (input_wires (plan_of bs) i) (drop from (numbers mail))
    unfolding wires_from set_all
    learn-end l = rw (gates-past bs h pl g l) at w.rest

    pub learn-count : h.gates ≤ g → at ≡ from + length (input_wires (plan_of bs) i)
    unfolding count_where
    learn-count l = omega (arith, rw (gates-past bs h pl g l) at w.next)

-- As it is: answers name this set, since the check leaves their goals open by `using` alone.
pub ruleset learning_own = (rules, gate_of_file, learn-none, learn-next, place_small, learn-end, learn-count)

-- ---- the wires of all parties' inputs
-- wires set in two parts
pub set_all-append : (xs ws us vs : List ℕ) → set_all xs (ws ++ us) vs ≡ set_all (set_all xs ws vs) us (drop (length ws) vs)
unfolding set_all
set_all-append xs [] us vs = refl
set_all-append xs (w ∷ ws) us vs =
    let e : 1 + length ws ≡ suc (length ws) = omega arith in
    set_all-append (set xs w (get_or vs 0 0)) ws us (drop 1 vs)
    ∙ ap (set_all (set_all (set xs w (get_or vs 0 0)) ws (drop 1 vs)) us) (drop-drop (length ws) 1 vs ∙ ap (λ (n : ℕ). drop n vs) e)

-- the invariant after the first i parties, when number `at` of the mail is the next
pub record Gathered (bs mail s₀ s : List ℕ) (at i : ℕ) : Type 0 where
  pub rest : set_all (numbers s) (flat_map (input_wires (plan_of bs)) (drop i (parties (plan_of bs)))) (drop at (numbers mail)) ≡ set_all (numbers s₀) (wires_by_party (plan_of bs)) (numbers mail)
  pub few : at ≤ 1024 * i
  pub within : i ≤ 15
  pub long : length s ≡ length s₀

module _ (bs mail : List ℕ) (h : Header) (s₀ : List ℕ) where
  pub gather_none : Gathered bs mail s₀ s₀ 0 0
  unfolding wires_by_party
  gather_none = record { rest = refl; few = omega arith; within = omega arith; long = refl }

  module _ (s : List ℕ) (at i : ℕ) (w : Gathered bs mail s₀ s at i) (pl : Planned bs h) where
    joined : (l : i < h.n) → set_all (set_all (numbers s) (input_wires (plan_of bs) (i + 1)) (drop at (numbers mail))) (flat_map (input_wires (plan_of bs)) (drop (i + 1) (parties (plan_of bs)))) (drop (at + length (input_wires (plan_of bs) (i + 1))) (numbers mail))
        ≡ set_all (numbers s₀) (wires_by_party (plan_of bs)) (numbers mail)
    unfolding flat_map
    joined l =
        rw (← drop-drop (length (input_wires (plan_of bs) (i + 1))) at (numbers mail), ← set_all-append (numbers s) (input_wires (plan_of bs) (i + 1)) (flat_map (input_wires (plan_of bs)) (drop (i + 1) (parties (plan_of bs)))) (drop at (numbers mail)))
        (rw (parties_from bs h pl i l) at w.rest)

    pub gather_next : (d : List ℕ) (r : ℕ) → i < h.n → numbers d ≡ set_all (numbers s) (input_wires (plan_of bs) (i + 1)) (drop at (numbers mail))
        → r ≡ at + length (input_wires (plan_of bs) (i + 1)) → r ≤ at + 1024 → length d ≡ length s → Gathered bs mail s₀ d r (i + 1)
    gather_next d r l k n m j = record {
      rest = rw (k, n) (joined l);
      few = omega (arith, w.few);
      within = omega (arith, pl.n-high);
      long = j ∙ w.long;
    }

    pub begin-small : at ≤ 15360
    begin-small = omega (arith, w.few, w.within)

    pub gather-end : h.n ≤ i → numbers s ≡ set_all (numbers s₀) (wires_by_party (plan_of bs)) (numbers mail)
    unfolding set_all flat_map
    gather-end l = rw (parties-past bs h pl i l) at w.rest

-- As it is: answers name this set, since the check leaves their goals open by `using` alone.
pub ruleset gathering = (rules, gather_none, gather_next, begin-small, gather-end)

-- ---- an opening of the mail
module _ (bs : List ℕ) (h : Header) (k : Planned bs h) (d : ℕ) (low : d < h.n) where
  firsts_few : d + 1 ≤ h.n
  firsts_few = omega arith

  firsts_fifteen : d + 1 ≤ 15
  firsts_fifteen = omega (arith, k.n-high)

  pub firsts_within : (xs : List ℕ) → take h.n xs ≡ (plan_of bs).points → d + 1 ≤ length xs
  firsts_within xs e = points-within bs h k xs e (d + 1) firsts_few

  pub firsts_count : (xs : List ℕ) → take h.n xs ≡ (plan_of bs).points → length (take (d + 1) xs) ≡ d + 1
  firsts_count xs e = points-count bs h k xs e (d + 1) firsts_few

  pub firsts_long : (xs mail : List ℕ) → take (d + 1) xs ≡ from_each (d + 1) 1 0 mail → length (take (d + 1) xs) ≡ d + 1
  firsts_long xs mail e = ap length e ∙ shares_long (d + 1) 1 0 mail

  module _ (points pieces mail : List ℕ) (e : take h.n points ≡ (plan_of bs).points) (q : take (d + 1) pieces ≡ from_each (d + 1) 1 0 (numbers mail)) where
    part : take (d + 1) points ≡ take (d + 1) (plan_of bs).points
    part = points-part bs h k points e (d + 1) firsts_few

    pub pieces-openable : all_below h.field.p (numbers mail) ≡ true → Openable h.field.p d (take (d + 1) points) (take (d + 1) pieces)
    pieces-openable b = record {
      elements = rw part (all_below-take h.field.p (d + 1) (plan_of bs).points (plan_points_below bs h k));
      known = rw q (shares_below h.field.p (d + 1) 1 0 (numbers mail) (planned-ready bs h k) b);
      threshold = omega (arith, firsts_count points e);
      few = omega (arith, firsts_count points e, firsts_fifteen);
      each = firsts_long pieces (numbers mail) q ∙ sym (firsts_count points e);
    }

    same-opening : opened h.field.p d (take (d + 1) points) (take (d + 1) pieces) ≡ opened h.field.p d (plan_of bs).points (numbers mail)
    unfolding opened interpolate
    same-opening =
        let w : take (d + 1) (take (d + 1) points) ≡ take (d + 1) (plan_of bs).points = take-take (d + 1) (d + 1) points (omega arith) ∙ part in
        let n : length (weights h.field.p 0 (take (d + 1) (plan_of bs).points)) ≤ d + 1 = omega (arith, length-weights h.field.p 0 (take (d + 1) (plan_of bs).points), ap length part, firsts_count points e) in
        rw (w, q) (dot_from_one h.field.p (omega (arith, k.p_low)) (weights h.field.p 0 (take (d + 1) (plan_of bs).points)) (numbers mail) (d + 1) n)

    pub opened-is : (r : ℕ) → Is h.field.p (opened h.field.p d (take (d + 1) points) (take (d + 1) pieces)) r → Is h.field.p (opened h.field.p d (plan_of bs).points (numbers mail)) r
    opened-is r i = record { eq = i.eq ∙ same-opening; lt = i.lt }

-- As it is: answers name this set, since the check leaves their goals open by `using` alone.
pub ruleset opening = (rules, firsts_within, firsts_long, firsts_count, pieces-openable, opened-is)

-- ---- a step's mail
-- the other steps of a plan teach nothing
learnt_none : (plan : Plan) (step : Step) (ts xs mail : List ℕ) → (step ≡ DealInputs → ⊥) → ((g a b : ℕ) → step ≡ DealProduct g a b → ⊥) → ((g : ℕ) → step ≡ SendTruncated g → ⊥) → ((g : ℕ) → step ≡ DealDraws g → ⊥)
    → ((g a b : ℕ) → step ≡ OpenSpent g a b → ⊥)
    → learnt plan step ts xs mail ≡ xs
unfolding learnt
learnt_none plan DealInputs ts xs mail inputs product truncated draws spent = absurd (inputs refl)
learnt_none plan (DealProduct g a b) ts xs mail inputs product truncated draws spent = absurd (product g a b refl)
learnt_none plan (DealZero g) ts xs mail inputs product truncated draws spent = refl
learnt_none plan (DealMasked g a b) ts xs mail inputs product truncated draws spent = refl
learnt_none plan (SendTruncated g) ts xs mail inputs product truncated draws spent = absurd (truncated g refl)
learnt_none plan (DealDraws g) ts xs mail inputs product truncated draws spent = absurd (draws g refl)
learnt_none plan (OpenSpent g a b) ts xs mail inputs product truncated draws spent = absurd (spent g a b refl)
learnt_none plan SendOuts ts xs mail inputs product truncated draws spent = refl

module _ (bs : List ℕ) (h : Header) (k : Planned bs h) (step : Step) (ts mail s d : List ℕ) where
  -- a step's wire is learnt
  known : (g v x : ℕ) → Is h.field.p x v → d ≡ stored s g v → numbers d ≡ set (numbers s) g x
  known g v x i q = written s d _ g v (omega (arith, i.lt, (planned-ready bs h k).small)) q (rw i.eq)

  pub learnt_inputs : step ≡ DealInputs → numbers d ≡ set_all (numbers s) (wires_by_party (plan_of bs)) mail → numbers d ≡ learnt (plan_of bs) step ts (numbers s) mail
  unfolding learnt
  learnt_inputs e q = rw e q

  pub learnt-product : (g a b v : ℕ) → step ≡ DealProduct g a b → Is h.field.p (opened h.field.p (h.t + h.t) (plan_of bs).points mail) v → d ≡ stored s g v → numbers d ≡ learnt (plan_of bs) step ts (numbers s) mail
  unfolding learnt opened interpolate dealer_points dealer_count
  learnt-product g a b v e i q = rw (e, plan_p k, plan_t k) (known g v _ i q)

  pub learnt_truncated : (g v : ℕ) → step ≡ SendTruncated g → Is h.field.p (opened h.field.p h.t (plan_of bs).points mail) v → d ≡ stored s g v → numbers d ≡ learnt (plan_of bs) step ts (numbers s) mail
  unfolding learnt
  learnt_truncated g v e i q = rw (e, plan_p k, plan_t k) (known g v _ i q)

  pub learnt_draws : (g v : ℕ) → step ≡ DealDraws g → Is h.field.p (sum_all h.field.p mail) v → d ≡ stored s g v → numbers d ≡ learnt (plan_of bs) step ts (numbers s) mail
  unfolding learnt
  learnt_draws g v e i q = rw (e, plan_p k) (known g v _ i q)

  pub learnt_spent : (g a b v : ℕ) → step ≡ OpenSpent g a b
      → Is h.field.p (spent_share h.field.p (get_or ts (triple_at (plan_of bs) g + 2) 0) (get_or (numbers s) a 0) (get_or (numbers s) b 0) (opened_at (plan_of bs) 2 0 mail) (opened_at (plan_of bs) 2 1 mail)) v
      → d ≡ stored s g v → numbers d ≡ learnt (plan_of bs) step ts (numbers s) mail
  unfolding learnt
  learnt_spent g a b v e i q =
      let wires : List ℕ = numbers s in
      let share : ℕ → ℕ = λ p. spent_share p (get_or ts (triple_at (plan_of bs) g + 2) 0) (get_or wires a 0) (get_or wires b 0) (opened_at (plan_of bs) 2 0 mail) (opened_at (plan_of bs) 2 1 mail) in
      rw e (known g v (share h.field.p) i q ∙ ap (λ (p : ℕ). set wires g (share p)) (sym (plan_p k)))

  -- a spent triple is that of a gate of the plan
  pub spent_inside : (g a b : ℕ) → Stepped (plan_of bs) step → step ≡ OpenSpent g a b → g ≤ h.gates
  unfolding Stepped
  spent_inside g a b i e = omega (arith, (subst (Stepped (plan_of bs)) e i).within, plan_gates k)

  -- a product's step has its majority
  pub product_majority : (g a b : ℕ) → Stepped (plan_of bs) step → step ≡ DealProduct g a b → h.t + h.t < h.n
  unfolding multiplying is_kind kind_of
  product_majority g a b i e =
      let at : IsGate (plan_of bs) g (Multiply a b) = stepped-product (plan_of bs) step g a b i e in
      omega (arith, (valid bs k.passes).majority g at.within (ap multiplying at.is), plan_t k, plan_n k)

pub learnt_other : (plan : Plan) (step : Step) (ts xs mail : List ℕ) → (step ≡ DealInputs → ⊥) → ((g a b : ℕ) → step ≡ DealProduct g a b → ⊥) → ((g : ℕ) → step ≡ SendTruncated g → ⊥) → ((g : ℕ) → step ≡ DealDraws g → ⊥)
    → ((g a b : ℕ) → step ≡ OpenSpent g a b → ⊥) → xs ≡ learnt plan step ts xs mail
learnt_other plan step ts xs mail inputs product truncated draws spent = sym (learnt_none plan step ts xs mail inputs product truncated draws spent)

-- As it is: answers name this set, since the check leaves their goals open by `using` alone.
pub ruleset learning_mail = (rules, product_majority, spent_inside, learnt_inputs, learnt-product, learnt_truncated, learnt_draws, learnt_spent, learnt_other)

-- ---- where the work goes on
module _ (plan : Plan) (step : Step) where
  pub resume_inputs : step ≡ DealInputs → 0 ≡ resume_at plan step
  unfolding resume_at
  resume_inputs e = rw e

  pub resume-product : (g a b : ℕ) → step ≡ DealProduct g a b → g + 1 ≡ resume_at plan step
  unfolding resume_at
  resume-product g a b e = rw (e, add-one)

  pub resume-zero : (g : ℕ) → step ≡ DealZero g → g ≡ resume_at plan step
  unfolding resume_at
  resume-zero g e = rw e

  pub resume_masked : (g a b : ℕ) → step ≡ DealMasked g a b → g ≡ resume_at plan step
  unfolding resume_at
  resume_masked g a b e = rw e

  pub resume_truncated : (g : ℕ) → step ≡ SendTruncated g → g + 1 ≡ resume_at plan step
  unfolding resume_at
  resume_truncated g e = rw (e, add-one)

  pub resume_draws : (g : ℕ) → step ≡ DealDraws g → g + 1 ≡ resume_at plan step
  unfolding resume_at
  resume_draws g e = rw (e, add-one)

  pub resume_spent : (g a b : ℕ) → step ≡ OpenSpent g a b → g + 1 ≡ resume_at plan step
  unfolding resume_at
  resume_spent g a b e = rw (e, add-one)

module _ (bs : List ℕ) (h : Header) (k : Planned bs h) (step : Step) where
  pub resume_outs : step ≡ SendOuts → h.gates ≡ resume_at (plan_of bs) step
  unfolding resume_at
  resume_outs e = rw (e, plan_gates k)

  -- past the gate of a step that makes a share known
  pub past_fits : Stepped (plan_of bs) step → (g : ℕ)
      → ((a : ℕ) × (b : ℕ) × step ≡ DealProduct g a b) ⊎ (step ≡ SendTruncated g ⊎ (step ≡ DealDraws g ⊎ ((a : ℕ) × (b : ℕ) × step ≡ OpenSpent g a b)))
      → Fits w64 (g + 1)
  unfolding Stepped
  past_fits i g (inl (a, b, e)) = record { fits = omega (arith, (stepped-product (plan_of bs) step g a b i e).within, plan_gates k, k.gates-high) }
  past_fits i g (inr (inl e)) = record { fits = omega (arith, (subst (Stepped (plan_of bs)) e i).0.within, plan_gates k, k.gates-high) }
  past_fits i g (inr (inr (inl e))) = record { fits = omega (arith, (subst (Stepped (plan_of bs)) e i).within, plan_gates k, k.gates-high) }
  past_fits i g (inr (inr (inr (a, b, e)))) = record { fits = omega (arith, (subst (Stepped (plan_of bs)) e i).within, plan_gates k, k.gates-high) }

-- As it is: answers name this set, since the check leaves their goals open by `using` alone.
pub ruleset resuming = (rules, resume_inputs, resume-product, resume-zero, resume_masked, resume_truncated, resume_draws, resume_spent, resume_outs, past_fits)

-- ---- a step
set_all_below : (p : ℕ) → Ready p → (xs ws vs : List ℕ) → all_below p xs ≡ true → all_below p vs ≡ true → all_below p (set_all xs ws vs) ≡ true
unfolding set_all
set_all_below p r xs [] vs b m = b
set_all_below p r xs (w ∷ ws) vs b m =
    set_all_below p r (set xs w (get_or vs 0 0)) ws (drop 1 vs) (all_below-set p w (get_or vs 0 0) xs b (entry_below p vs 0 r m)) (all_below-drop p 1 vs m)

pub dot_below : (p : ℕ) → 0 < p → (ws vs : List ℕ) → dot p ws vs < p
unfolding dot add
dot_below p l [] vs = l
dot_below p l (w ∷ ws) [] = l
dot_below p l (w ∷ ws) (v ∷ vs) = mod-lt _ {m = p} l

sum_below : (p : ℕ) → 0 < p → (vs : List ℕ) → sum_all p vs < p
unfolding sum_all add
sum_below p l [] = l
sum_below p l (v ∷ vs) = mod-lt _ {m = p} l

-- what a step's mail makes known is below the prime
learnt_below : (plan : Plan) → Ready plan.p → (step : Step) (ts xs mail : List ℕ) → all_below plan.p xs ≡ true → all_below plan.p mail ≡ true → all_below plan.p (learnt plan step ts xs mail) ≡ true
unfolding learnt opened interpolate spent_share sub
learnt_below plan r DealInputs ts xs mail b m = set_all_below plan.p r xs (wires_by_party plan) mail b m
learnt_below plan r (DealProduct g a c) ts xs mail b m = all_below-set plan.p g _ xs b (dot_below plan.p (omega (arith, r.prime.above)) _ mail)
learnt_below plan r (DealZero g) ts xs mail b m = b
learnt_below plan r (DealMasked g a c) ts xs mail b m = b
learnt_below plan r (SendTruncated g) ts xs mail b m = all_below-set plan.p g _ xs b (dot_below plan.p (omega (arith, r.prime.above)) _ mail)
learnt_below plan r (DealDraws g) ts xs mail b m = all_below-set plan.p g _ xs b (sum_below plan.p (omega (arith, r.prime.above)) mail)
learnt_below plan r (OpenSpent g a c) ts xs mail b m = all_below-set plan.p g _ xs b (mod-lt _ {m = plan.p} (omega (arith, r.prime.above)))
learnt_below plan r SendOuts ts xs mail b m = b

pub learnt_elements : (bs : List ℕ) (h : Header) → Planned bs h → (step : Step) (ts xs mail d : List ℕ) → all_below h.field.p xs ≡ true → all_below h.field.p mail ≡ true
    → d ≡ learnt (plan_of bs) step ts xs mail → all_below h.field.p d ≡ true
learnt_elements bs h k step ts xs mail d b m e =
    let q = plan_p k in
    ap (all_below h.field.p) e ∙ rw (← q) (learnt_below (plan_of bs) (rw q (planned-ready bs h k)) step ts xs mail (rw q b) (rw q m))

pub learnt_worked : (bs : List ℕ) (h : Header) (step : Step) (from : ℕ) (ts mail s d e : List ℕ) → Planned bs h → from ≡ resume_at (plan_of bs) step
    → numbers d ≡ learnt (plan_of bs) step ts (numbers s) mail → Holds h.field.p (work_from h.field.p from (drop from (plan_of bs).gates) (numbers d)) e
    → Holds h.field.p (learn_from (plan_of bs) step ts (numbers s) mail) e
unfolding learn_from
learnt_worked bs h step from ts mail s d e k q m n = record { eq = rw (n.eq, m, q, plan_p k); below = n.below }

pub ruleset learning = (rules, learnt_elements, learnt_worked)
