-- What each way through the code of the plan's values says of its definition.
--     taking, valuing           the inputs that a gate takes, and its value
--     drawing                   the sum of the draws
--     taken_next                how much of a run's list the gates below gate g own, one gate more
--     Worked, working           the values of all wires
-- Assumes nothing.
use mathlib.Core.Path.{◌≡◌, refl, sym, ap, ap₂, ◌∙◌}
use mathlib.Core.Bool.{true}
use mathlib.Core.List.{List, [], ◌∷◌, ◌++◌, flat_map}
use Prim.Native.Nat.{ℕ, suc, ◌+◌, ◌*◌, ◌<◌, ◌≤◌}
use native.Mathlib.Numerals.{add-one}
use native.Mathlib.Nat.{add-zero}
use native.Mathlib.Omega.{arith}
use borrow.Author.Rules.{rules}
use borrow.Author.Tests.{lt-ltb}
use lib.ListN.{length, get_or, take, drop, drop_of_length-le, set, length-set, length-append, length-take, get_or-eq_default}
use lib.Seq.{take-suc, take-suc-set, length-take-le, get_or-take, get_or-drop, drop-drop, drop-cons}
use Rattle.numbers.specs.Bytes.{all_below}
use Rattle.numbers.specs.Tables.{tab}
use Rattle.numbers.proofs.Tables.{length-tab, tab-ext}
use Rattle.numbers.proofs.Below.{append_below, all_below-drop}
use Rattle.field.specs.Mod.{add, mul}
use Rattle.field.specs.Field.{Is, Ready}
use Rattle.sharing.proofs.Coding.{entry_below}
use Rattle.sharing_laws.specs.Basis.{sum_all}
use Rattle.sharing_laws.proofs.Lists.{flat_map-append}
use Rattle.sharing_laws.proofs.Sums.{adding}
use Rattle.plan.specs.declared.Gate.{Gate}
use Rattle.plan.specs.declared.Gate.TheVariants.{Input, Add, Scale, Offset, Multiply, Random, Spend}
use Rattle.plan.specs.declared.Header.{Header}
use Rattle.plan.specs.Plans.{Plan, parties, input_owners_at}
use Rattle.plan.specs.File.{gate_at, plan_of}
use Rattle.plan.specs.Planned.{Planned}
use Rattle.plan.proofs.Planned.{plan_n, plan_p, plan_gates, plan_gate}
use Rattle.plan.proofs.Valid.{planned-ready, gate-kept, scale_constant, offset_constant}
use Rattle.run_protocol.specs.Ideal.{inputs_taken, gate_value, values_from, values}
use Rattle.run_protocol.proofs.Dealings.{sum-padded}

-- ---- a wire of a list
pub wire-none : (wires : List ℕ) (w : ℕ) → length wires ≤ w → 0 ≡ get_or wires w 0
wire-none wires w l = sym (get_or-eq_default wires 0 l)

pub wire_below : (p : ℕ) (wires : List ℕ) (w r : ℕ) → Ready p → all_below p wires ≡ true → r ≡ get_or wires w 0 → r < p
wire_below p wires w r k h e = rw e (entry_below p wires w k h)

-- ---- the sum of n draws
pub draws-added : (p : ℕ) (xs : List ℕ) (n sum : ℕ) → Is p (sum_all p (tab (λ i. get_or xs i 0) n)) sum → Is p (sum_all p (take n xs)) sum
draws-added p xs n sum is =
    let e : sum_all p (take n xs) ≡ sum_all p (tab (λ i. get_or xs i 0) n) =
    sum-padded p (take n xs) n (omega (arith, length-take n xs)) ∙ ap (sum_all p) (tab-ext _ _ n (λ i l. get_or-take n xs i 0 l)) in
    rw e is

pub ruleset drawing = (adding, wire_below, draws-added)

-- ---- a gate by its kind
module _ (bs : List ℕ) (h : Header) (k : Planned bs h) (g : ℕ) where
  module _ (gate : Gate) (is : gate ≡ gate_at bs g) where
    -- its constant is an element
    pub scaled-below : (a c : ℕ) → g < h.gates → gate ≡ Scale a c → c < h.field.p
    scaled-below a c l e = scale_constant h.n h.field.p g gate (gate-kept bs h k g gate l is) a c e

    pub offset-below : (a c : ℕ) → g < h.gates → gate ≡ Offset a c → c < h.field.p
    offset-below a c l e = offset_constant h.n h.field.p g gate (gate-kept bs h k g gate l is) a c e

    module _ (env xs : List ℕ) (r : ℕ) where
      pub value-input : (s next : ℕ) → gate ≡ Input s → r ≡ get_or xs next 0 → r ≡ gate_value (plan_of bs) (gate_at bs g) env (drop next xs)
      unfolding gate_value
      value-input s next e q = rw (← is, e, get_or-drop next xs 0 0, add-zero) q

      pub value-add : (a b u v : ℕ) → gate ≡ Add a b → u ≡ get_or env a 0 → v ≡ get_or env b 0 → r ≡ add h.field.p u v → r ≡ gate_value (plan_of bs) (gate_at bs g) env xs
      unfolding gate_value
      value-add a b u v e eu ev q = rw (← is, e, plan_p k, ← eu, ← ev) q

      pub value-scale : (a c u : ℕ) → gate ≡ Scale a c → u ≡ get_or env a 0 → r ≡ mul h.field.p u c → r ≡ gate_value (plan_of bs) (gate_at bs g) env xs
      unfolding gate_value
      value-scale a c u e eu q = rw (← is, e, plan_p k, ← eu) q

      pub value_offset : (a c u : ℕ) → gate ≡ Offset a c → u ≡ get_or env a 0 → r ≡ add h.field.p u c → r ≡ gate_value (plan_of bs) (gate_at bs g) env xs
      unfolding gate_value
      value_offset a c u e eu q = rw (← is, e, plan_p k, ← eu) q

      pub value-multiply : (a b u v : ℕ) → gate ≡ Multiply a b → u ≡ get_or env a 0 → v ≡ get_or env b 0 → r ≡ mul h.field.p u v → r ≡ gate_value (plan_of bs) (gate_at bs g) env xs
      unfolding gate_value
      value-multiply a b u v e eu ev q = rw (← is, e, plan_p k, ← eu, ← ev) q

      pub value-random : (ys : List ℕ) (next : ℕ) → gate ≡ Random → ys ≡ drop next xs → r ≡ sum_all h.field.p (take h.n ys) → r ≡ gate_value (plan_of bs) (gate_at bs g) env (drop next xs)
      unfolding gate_value
      value-random ys next e ey q = rw (← is, e, plan_n k, plan_p k, ← ey) q

      pub value-spend : (a b u v : ℕ) → gate ≡ Spend a b → u ≡ get_or env a 0 → v ≡ get_or env b 0 → r ≡ mul h.field.p u v → r ≡ gate_value (plan_of bs) (gate_at bs g) env xs
      unfolding gate_value
      value-spend a b u v e eu ev q = rw (← is, e, plan_p k, ← eu, ← ev) q

-- ---- the inputs that a gate takes
pub takes-input : (plan : Plan) (gate : Gate) (s : ℕ) → gate ≡ Input s → 1 ≡ inputs_taken plan gate
unfolding inputs_taken input_owners_at
takes-input plan gate s e = rw e

pub takes-random : (bs : List ℕ) (h : Header) (k : Planned bs h) (gate : Gate) → gate ≡ Random → h.n ≡ inputs_taken (plan_of bs) gate
unfolding inputs_taken input_owners_at parties
takes-random bs h k gate e = rw (e, length-tab) (sym (plan_n k))

-- a gate that is neither takes none
pub takes_none : (plan : Plan) (gate : Gate) → ((s : ℕ) → gate ≡ Input s → ⊥) → (gate ≡ Random → ⊥) → 0 ≡ inputs_taken plan gate
unfolding inputs_taken input_owners_at
takes_none plan (Input s) i r = absurd (i s refl)
takes_none plan (Add a b) i r = refl
takes_none plan (Scale a c) i r = refl
takes_none plan (Offset a c) i r = refl
takes_none plan (Multiply a b) i r = refl
takes_none plan Random i r = absurd (r refl)
takes_none plan (Spend a b) i r = refl

-- As it is: answers name this set, since the check leaves their goals open by `using` alone.
pub ruleset taking = (rules, takes-input, takes-random, takes_none)

pub rest-below : (p : ℕ) (xs ys : List ℕ) (next : ℕ) → all_below p xs ≡ true → ys ≡ drop next xs → all_below p ys ≡ true
rest-below p xs ys next h e = rw e (all_below-drop p next xs h)

-- As it is: answers name this set, since the check leaves their goals open by `using` alone.
pub ruleset valuing = (rest-below, rules, planned-ready, wire-none, wire_below, scaled-below, offset-below, value-input, value-add, value-scale, value_offset, value-multiply, value-random, value-spend)

-- ---- how much of a run's list the gates below gate g own, one gate more
flat_next : (f : Gate → List ℕ) (gs : List Gate) (g : ℕ) → g < length gs
    → length (flat_map f (take (g + 1) gs)) ≡ length (flat_map f (take g gs)) + length (f (get_or gs g (Input 0)))
unfolding flat_map
flat_next f gs g l =
    rw (add-one, take-suc gs g (Input 0) l, flat_map-append f (take g gs) (get_or gs g (Input 0) ∷ []), length-append)
    (ap (λ (m : ℕ). length (flat_map f (take g gs)) + m) (length-append (f (get_or gs g (Input 0))) [] ∙ add-zero (length (f (get_or gs g (Input 0))))))

pub taken_next :
    (f : Gate → List ℕ) (bs : List ℕ) (h : Header) (next g t : ℕ) → Planned bs h → next ≡ length (flat_map f (take g (plan_of bs).gates)) → g < h.gates
    → t ≡ length (f (gate_at bs g)) → next + t ≡ length (flat_map f (take (g + 1) (plan_of bs).gates))
taken_next f bs h next g t k e l et =
    sym (flat_next f (plan_of bs).gates g (rw (plan_gates k) l)
    ∙ ap₂ (λ (a b : ℕ). a + b) (sym e) (ap (λ (x : Gate). length (f x)) (plan_gate k g l) ∙ sym et))

-- ---- the values of all wires
-- the invariant at gate g: the values from here on, on the wires that stand and the inputs that are left, are all values
pub record Worked (bs : List ℕ) (h : Header) (xs d₀ d : List ℕ) (next g : ℕ) : Type 0 where
  pub within : g ≤ h.gates
  pub room : h.gates ≤ length d
  pub long : length d ≡ length d₀
  pub few : next ≤ 15 * g
  pub below : all_below h.field.p (take g d) ≡ true
  pub left : values_from (plan_of bs) (drop g (plan_of bs).gates) (take g d) (drop next xs) ≡ values (plan_of bs) xs

module _ (bs : List ℕ) (h : Header) (xs d₀ : List ℕ) where
  pub work_none : h.gates ≤ length d₀ → Worked bs h xs d₀ d₀ 0 0
  unfolding values all_below
  work_none l = record { within = omega arith; room = l; long = refl; few = omega arith; below = refl; left = refl }

  module _ (k : Planned bs h) (d : List ℕ) (next g : ℕ) (w : Worked bs h xs d₀ d next g) where
    pub work-room : g < h.gates → g < length d
    work-room l = omega (arith, w.room)

    pub front_long : g ≡ length (take g d)
    front_long = sym (length-take-le g d (omega (arith, w.within, w.room)))

    pub work-next :
        (v t : ℕ) (x : Gate) → g < h.gates → Is h.field.p (gate_value (plan_of bs) (gate_at bs g) (take g d) (drop next xs)) v
        → x ≡ gate_at bs g → t ≡ inputs_taken (plan_of bs) x → t ≤ 15 → Worked bs h xs d₀ (set d g v) (next + t) (g + 1)
    unfolding values_from all_below
    work-next v t x l ev ex et few =
        let gs : List Gate = (plan_of bs).gates in
        let m : g < length gs = rw (plan_gates k) l in
        let front : take (g + 1) (set d g v) ≡ take g d ++ (v ∷ []) = rw (add-one, take-suc-set d g v (work-room l)) in
        record {
          within = omega arith;
          room = rw length-set w.room;
          long = length-set d g v ∙ w.long;
          few = omega (arith, w.few);
          below = rw front (append_below h.field.p (take g d) (v ∷ []) w.below (one_below v ev.lt));
          left =
              ap₂ (λ (n : ℕ) (e : List ℕ). values_from (plan_of bs) (drop n gs) e (drop (next + t) xs)) (add-one g) (front ∙ ap (λ (y : ℕ). take g d ++ (y ∷ [])) ev.eq)
              ∙ ap (values_from (plan_of bs) (drop (suc g) gs) (take g d ++ (gate_value (plan_of bs) (gate_at bs g) (take g d) (drop next xs) ∷ [])))
              (sym (drop-drop t next xs) ∙ ap (λ (n : ℕ). drop n (drop next xs)) (et ∙ ap (inputs_taken (plan_of bs)) ex))
              ∙ sym (ap (λ (l : List Gate). values_from (plan_of bs) l (take g d) (drop next xs)) (drop-cons gs g (Input 0) m ∙ ap (λ (x : Gate). x ∷ drop (suc g) gs) (plan_gate k g l)))
              ∙ w.left;
        }
      where
        one_below : (y : ℕ) → y < h.field.p → all_below h.field.p (y ∷ []) ≡ true
        one_below y l = rw (lt-ltb y h.field.p l)

    pub work-done : h.gates ≤ g → take h.gates d ≡ values (plan_of bs) xs
    unfolding values_from
    work-done l =
        let e : g ≡ h.gates = omega (arith, w.within) in
        ap (λ (n : ℕ). take n d) (sym e)
        ∙ sym (ap (λ (gs : List Gate). values_from (plan_of bs) gs (take g d) (drop next xs)) (drop_of_length-le (plan_of bs).gates {i = g} (omega (arith, plan_gates k))))
        ∙ w.left

-- As it is: answers name this set, since the check leaves their goals open by `using` alone.
pub ruleset working = (rules, work_none, work-room, front_long, work-next, work-done)
