-- Counts of a plan's gates, coins and outs.
--     kinds, coining, counting_one, counting, counting_outs     what closes the needs of the functions that count
--     by_kind                                     of those that give what a gate brings
-- Assumes nothing.
use mathlib.Core.Path.{◌≡◌, refl, sym, ap, subst, ◌∙◌}
use mathlib.Core.Bool.{Bool, true, false, cond, ◌&&◌}
use mathlib.Core.List.{List, [], ◌∷◌, flat_map}
use Prim.Native.Nat.{ℕ, suc, ◌+◌, ◌*◌, ◌<◌, ◌≤◌}
use native.Mathlib.Nat.{mul-le-mul}
use native.Mathlib.Omega.{arith}
use borrow.Author.Rules.{rules}
use borrow.Author.Tests.{eq-eqb, ne_eqb}
use mir.Syntax.{w64}
use mir.Val.{bool_byte, Fits}
use lib.Dec.{eqb, leb}
use lib.ListN.{length, get_or, take}
use lib.Seq.{take_all, length-take-le}
use Rattle.numbers.specs.Tables.{count_where}
use Rattle.numbers.proofs.Counts.{Counted, count_none, count_next, counted, count_where-take-suc}
use Rattle.plan.specs.declared.Gate.{Gate}
use Rattle.plan.specs.declared.Gate.TheVariants.{Input, Add, Scale, Offset, Multiply, Random, Spend}
use Rattle.plan.specs.declared.Rule.{Rule}
use Rattle.plan.specs.declared.Rule.TheVariants.{Reduction, Truncation}
use Rattle.plan.specs.declared.Output.{Output}
use Rattle.plan.specs.declared.Header.{Header}
use Rattle.plan.specs.Plans.{Plan, kind_of, is_kind, operands_of, is_input_of, input_owners_at, dealings_at, coin_owners_at, out_wires_of, out_wires, own_out_count}
use Rattle.plan.specs.Kinds.{multiply_coins, own_multiply_coins, own_draws, own_random_coins}
use Rattle.plan.specs.File.{between, gate_place, gate_of, gate_from, gate_at, gate_ok, out_at, plan_of}
use Rattle.plan.specs.Planned.{Planned}
use Rattle.plan_counts.specs.declared.Tally.{Tally}
use Rattle.plan_counts.specs.Counts.{Tallied, is_out_of}
use Rattle.plan.proofs.Layouts.{gate_read}
use Rattle.plan.proofs.Planned.{plan_n, plan_t, plan_rule, plan_gates, plan_gate, plan_outs, plan_out, plan_dealers}
use Rattle.plan.proofs.Valid.{gate-kept}
use Rattle.plan.proofs.KindCounts.{parties-own, coins-input, coins-multiply, coins-random}

-- ---- a gate's kind, once it is known
module _ (g q : Gate) (e : g ≡ q) where
  pub kind_as : (k : ℕ) → k ≡ kind_of q → k ≡ kind_of g
  kind_as k f = f ∙ sym (ap kind_of e)

  pub input_of_as : (t : Bool) (i : ℕ) → t ≡ is_input_of i q → t ≡ is_input_of i g
  input_of_as t i f = f ∙ sym (ap (is_input_of i) e)

pub rounds_as : (g : Gate) (k : ℕ) → k ≡ kind_of g → leb 5 k ≡ leb 5 (kind_of g)
rounds_as g k e = ap (leb 5) e

-- ---- a gate's kind by its first byte
not_both : (t : Bool) → t ≡ true → t ≡ false → ⊥
not_both t e f = let z : ◌≡◌ {A = ℕ} 0 1 = cc in omega arith

module _ (n p g kind : ℕ) where
  -- a gate that keeps its rule has this kind
  abbrev Has : Gate → Type 0
  Has x = gate_ok n p g x ≡ true → kind ≡ kind_of x

  no_party : Has (Input 0)
  unfolding gate_ok between
  no_party h = absurd (not_both true refl (sym h))

  kind_of_lem : (second a b : ℕ) → Has (gate_of kind second a b)
  unfolding kind_of
  kind_of_lem second a b = gate_read Has kind second a b no_party (λ e h. e) (λ e h. e) (λ e h. e) (λ e h. e) (λ e h. e) (λ e h. e) (λ e h. e)

pub kind_byte : (bs : List ℕ) (h : Header) (g k : ℕ) → Planned bs h → g < h.gates → k ≡ get_or bs (gate_place bs g) 0 → k ≡ kind_of (gate_at bs g)
unfolding gate_at gate_from
kind_byte bs h g k p l e = e ∙ kind_of_lem h.n h.field.p g (get_or bs (gate_place bs g) 0) _ _ _ (gate-kept bs h p g (gate_at bs g) l refl)

pub kind_read : (bs ds : List ℕ) (h : Header) (g k : ℕ) → ds ≡ bs → k ≡ get_or ds (gate_place ds g) 0 → Planned bs h → g < h.gates → k ≡ kind_of (gate_at bs g)
kind_read bs ds h g k e q p l = kind_byte bs h g k p l (q ∙ ap (λ (s : List ℕ). get_or s (gate_place s g) 0) e)

-- As it is: answers name this set, since the check leaves their goals open by `using` alone.
pub ruleset kinds = (rules, kind_as, input_of_as, rounds_as, kind_read)

-- a test as a number
pub as_count : (t : Bool) {o : ℕ} → o ≡ bool_byte t → o ≡ cond t 1 0
as_count true e = e
as_count false e = e

pub one_at_most : (t : Bool) {o : ℕ} → o ≡ bool_byte t → o ≤ 1
one_at_most true e = omega arith
one_at_most false e = omega arith

-- ---- what a gate brings a party
module _ (bs : List ℕ) (h : Header) (p : Planned bs h) (i r : ℕ) (t : Bool) where
  pub draws-are : t ≡ between 1 h.n i → r ≡ bool_byte t → r ≡ own_draws (plan_of bs) i
  unfolding own_draws
  draws-are f q = rw (plan_n p, ← f) (as_count t q)

  pub random-are : t ≡ between 1 h.n i → r ≡ cond t h.t 0 → r ≡ own_random_coins (plan_of bs) i
  unfolding own_random_coins
  random-are f q = rw (plan_n p, plan_t p, ← f) q

  module _ (rule : Rule) where
    pub own-reduced : rule ≡ Reduction → t ≡ between 1 (h.t + h.t + 1) i → r ≡ cond t h.t 0 → r ≡ own_multiply_coins (plan_of bs) rule i
    unfolding own_multiply_coins
    own-reduced e f q = rw (e, plan_dealers p, plan_t p, ← f) q

    pub own-truncated : rule ≡ Truncation → t ≡ between 1 h.n i → r ≡ cond t (3 * h.t) 0 → r ≡ own_multiply_coins (plan_of bs) rule i
    unfolding own_multiply_coins
    own-truncated e f q = rw (e, plan_n p, plan_t p, ← f) q

module _ (bs : List ℕ) (h : Header) (p : Planned bs h) where
  pub all-reduced : (rule : Rule) → rule ≡ Reduction → h.t * (h.t + h.t + 1) ≡ multiply_coins (plan_of bs) rule
  unfolding multiply_coins
  all-reduced rule e = rw (e, plan_dealers p, plan_t p)

  pub all-truncated : (rule : Rule) → rule ≡ Truncation → 3 * h.t * h.n ≡ multiply_coins (plan_of bs) rule
  unfolding multiply_coins
  all-truncated rule e = rw (e, plan_n p, plan_t p)

  pub reduced-few : h.t * (h.t + h.t + 1) ≤ 630
  reduced-few = omega (arith, mul-le-mul {n₁ = h.t} {m₁ = h.t + h.t + 1} {n₂ = 14} {m₂ = 29} (omega (arith, p.threshold, p.n-high)) (omega (arith, p.threshold, p.n-high)))

  pub reduced-fits : Fits w64 (h.t * (h.t + h.t + 1))
  reduced-fits = record { fits = omega (arith, reduced-few) }

  pub truncated-few : 3 * h.t * h.n ≤ 630
  truncated-few = mul-le-mul {n₁ = 3 * h.t} {m₁ = h.n} {n₂ = 42} {m₂ = 15} (omega (arith, p.threshold, p.n-high)) p.n-high

  pub truncated-fits : Fits w64 (3 * h.t * h.n)
  truncated-fits = record { fits = omega (arith, truncated-few) }

-- As it is: answers name this set, since the check leaves their goals open by `using` alone.
pub ruleset by_kind = (rules, one_at_most, draws-are, random-are, own-reduced, own-truncated, all-reduced, all-truncated, reduced-few, reduced-fits, truncated-few, truncated-fits)

-- ---- the same by the gate
module _ (bs : List ℕ) (h : Header) (p : Planned bs h) (i : ℕ) (gate : Gate) where
  pub coins_input : (s r : ℕ) → gate ≡ Input s → r ≡ cond (eqb i s) h.t 0 → r ≡ count_where (eqb i) (coin_owners_at (plan_of bs) gate)
  coins_input s r e q = rw (e, coins-input (plan_of bs) i s, plan_t p) q

  pub coins_multiply : (a b r : ℕ) → gate ≡ Multiply a b → r ≡ own_multiply_coins (plan_of bs) h.rule i → r ≡ count_where (eqb i) (coin_owners_at (plan_of bs) gate)
  coins_multiply a b r e q =
      q ∙ sym (ap (λ (rule : Rule). own_multiply_coins (plan_of bs) rule i) (plan_rule p)) ∙ rw e (sym (coins-multiply (plan_of bs) i a b))

module _ (plan : Plan) (i : ℕ) (gate : Gate) where
  pub coins_random : (r : ℕ) → gate ≡ Random → r ≡ own_random_coins plan i → r ≡ count_where (eqb i) (coin_owners_at plan gate)
  coins_random r e q = rw (e, coins-random plan i) q

  -- a gate without dealings takes none
  pub coins_none : dealings_at plan gate ≡ [] → 0 ≡ count_where (eqb i) (coin_owners_at plan gate)
  unfolding coin_owners_at flat_map count_where
  coins_none e = rw e

  pub inputs_input : (s r : ℕ) → gate ≡ Input s → r ≡ bool_byte (eqb i s) → r ≡ count_where (eqb i) (input_owners_at plan gate)
  unfolding input_owners_at count_where
  inputs_input s r e q = rw e (as_count (eqb i s) q)

  pub inputs_random : (r : ℕ) → gate ≡ Random → r ≡ own_draws plan i → r ≡ count_where (eqb i) (input_owners_at plan gate)
  unfolding input_owners_at
  inputs_random r e q = rw (e, parties-own plan i) q

  pub inputs_none : input_owners_at plan gate ≡ [] → 0 ≡ count_where (eqb i) (input_owners_at plan gate)
  unfolding count_where
  inputs_none e = rw e

-- As it is: answers name this set, since the check leaves their goals open by `using` alone.
pub ruleset coining = (rules, one_at_most, coins_input, coins_multiply, coins_random, coins_none, inputs_input, inputs_random, inputs_none)

-- ---- a tally of one gate more
abbrev once : Bool → ℕ
once b = cond b 1 0

one_kind : (g : Gate) → cond (is_kind 1 g) 1 0 + cond (is_kind 5 g) 1 0 + cond (is_kind 6 g) 1 0 + cond (is_kind 7 g) 1 0 ≤ 1
unfolding is_kind kind_of
one_kind (Input s) = omega arith
one_kind (Add a b) = omega arith
one_kind (Scale a c) = omega arith
one_kind (Offset a c) = omega arith
one_kind (Multiply a b) = omega arith
one_kind Random = omega arith
one_kind (Spend a b) = omega arith

one-more : (t : Bool) (n : ℕ) → cond t (suc n) n ≡ n + cond t 1 0
one-more true n = omega arith
one-more false n = omega arith

-- of gates of four kinds there are as many as gates at most
kinds_few : (gs : List Gate) → count_where (is_kind 1) gs + count_where (is_kind 5) gs + count_where (is_kind 6) gs + count_where (is_kind 7) gs ≤ length gs
unfolding count_where
kinds_few [] = omega arith
kinds_few (x ∷ gs) =
    omega (
      arith,
      kinds_few gs,
      one_kind x,
      one-more (is_kind 1 x) (count_where (is_kind 1) gs),
      one-more (is_kind 5 x) (count_where (is_kind 5) gs),
      one-more (is_kind 6 x) (count_where (is_kind 6) gs),
      one-more (is_kind 7 x) (count_where (is_kind 7) gs),
    )

own-input : (i : ℕ) (g : Gate) → cond (is_input_of i g) 1 0 ≤ cond (is_kind 1 g) 1 0
unfolding is_input_of
own-input i g = pick (is_kind 1 g) (eqb i (get_or (operands_of g) 0 0))
  where
    pick : (a b : Bool) → cond (a && b) 1 0 ≤ cond a 1 0
    pick true true = omega arith
    pick true false = omega arith
    pick false b = omega arith

not-own : (i : ℕ) (g : Gate) → (kind_of g ≡ 1 → ⊥) → once (is_input_of i g) ≡ 0
unfolding is_input_of is_kind
not-own i g n = rw (ne_eqb (kind_of g) 1 n)

module _ (bs : List ℕ) (i : ℕ) where
  pub tally-none : Tallied (take 0 (plan_of bs).gates) i (record { inputs = 0; own = 0; multiplies = 0; randoms = 0; spends = 0 })
  unfolding count_where
  tally-none = record { inputs = refl; own = refl; multiplies = refl; randoms = refl; spends = refl; few = omega arith; own_few = omega arith }

  module _ (h : Header) (g : ℕ) (c : Tally) (p : Planned bs h) (l : g < h.gates) (t : Tallied (take g (plan_of bs).gates) i c) where
    abbrev x : Gate
    x = gate_at bs g

    more : (f : Gate → Bool) (k o : ℕ) → k ≡ count_where f (take g (plan_of bs).gates) → o ≡ cond (f (gate_at bs g)) 1 0 → k + o ≡ count_where f (take (g + 1) (plan_of bs).gates)
    more f k o e eo = rw (e, eo, ← plan_gate p g l) (sym (count_where-take-suc f (plan_of bs).gates g (Input 0) (rw (plan_gates p) l)))

    tally-more : (d : Tally) → d.inputs ≡ c.inputs + cond (is_kind 1 (gate_at bs g)) 1 0 → d.own ≡ c.own + cond (is_input_of i (gate_at bs g)) 1 0
        → d.multiplies ≡ c.multiplies + cond (is_kind 5 (gate_at bs g)) 1 0 → d.randoms ≡ c.randoms + cond (is_kind 6 (gate_at bs g)) 1 0
        → d.spends ≡ c.spends + cond (is_kind 7 (gate_at bs g)) 1 0 → Tallied (take (g + 1) (plan_of bs).gates) i d
    tally-more d ea eb em er es =
        let a : d.inputs ≡ count_where (is_kind 1) (take (g + 1) (plan_of bs).gates) = ea ∙ more (is_kind 1) c.inputs _ t.inputs refl in
        let m : d.multiplies ≡ count_where (is_kind 5) (take (g + 1) (plan_of bs).gates) = em ∙ more (is_kind 5) c.multiplies _ t.multiplies refl in
        let r : d.randoms ≡ count_where (is_kind 6) (take (g + 1) (plan_of bs).gates) = er ∙ more (is_kind 6) c.randoms _ t.randoms refl in
        let s : d.spends ≡ count_where (is_kind 7) (take (g + 1) (plan_of bs).gates) = es ∙ more (is_kind 7) c.spends _ t.spends refl in
        record {
          inputs = a;
          own = eb ∙ more (is_input_of i) c.own _ t.own refl;
          multiplies = m;
          randoms = r;
          spends = s;
          few = omega (arith, a, m, r, s, kinds_few (take (g + 1) (plan_of bs).gates), length-take-le (g + 1) (plan_of bs).gates (omega (arith, plan_gates p)), p.gates-high);
          own_few = omega (arith, t.own_few, own-input i (gate_at bs g), ea, eb);
        }

    module _ (k : ℕ) (ek : k ≡ kind_of (gate_at bs g)) where
      is-not : (j : ℕ) → (k ≡ j → ⊥) → once (is_kind j (gate_at bs g)) ≡ 0
      unfolding is_kind
      is-not j n = rw (ne_eqb (kind_of (gate_at bs g)) j (λ e. n (ek ∙ e)))

      is : (j : ℕ) → k ≡ j → once (is_kind j (gate_at bs g)) ≡ 1
      unfolding is_kind
      is j e = rw (eq-eqb (kind_of (gate_at bs g)) j (sym ek ∙ e))

      other : (k ≡ 1 → ⊥) → once (is_input_of i (gate_at bs g)) ≡ 0
      other n = not-own i (gate_at bs g) (λ e. n (ek ∙ e))

      pub tally-input : (y : Gate) (b : Bool) (o : ℕ) → k ≡ 1 → y ≡ gate_at bs g → b ≡ is_input_of i y → o ≡ bool_byte b
          → Tallied (take (g + 1) (plan_of bs).gates) i (record { inputs = c.inputs + 1; own = c.own + o; multiplies = c.multiplies; randoms = c.randoms; spends = c.spends })
      tally-input y b o e ey eb eo =
          let own : o ≡ cond (is_input_of i (gate_at bs g)) 1 0 = as_count b eo ∙ rw (eb, ey) in
          tally-more _ (omega (arith, is 1 e)) (omega (arith, own)) (omega (arith, is-not 5 (λ q. omega arith))) (omega (arith, is-not 6 (λ q. omega arith))) (omega (arith, is-not 7 (λ q. omega arith)))

      pub tally-multiply : k ≡ 5 → Tallied (take (g + 1) (plan_of bs).gates) i (record { inputs = c.inputs; own = c.own; multiplies = c.multiplies + 1; randoms = c.randoms; spends = c.spends })
      tally-multiply e =
          tally-more _ (omega (arith, is-not 1 (λ q. omega arith))) (omega (arith, other (λ q. omega arith))) (omega (arith, is 5 e)) (omega (arith, is-not 6 (λ q. omega arith))) (omega (arith, is-not 7 (λ q. omega arith)))

      pub tally-above : (r o : ℕ) → 5 < k → r ≡ bool_byte (eqb k 6) → o ≡ bool_byte (eqb k 7)
          → Tallied (take (g + 1) (plan_of bs).gates) i (record { inputs = c.inputs; own = c.own; multiplies = c.multiplies; randoms = c.randoms + r; spends = c.spends + o })
      unfolding is_kind
      tally-above r o l er eo =
          tally-more _ (omega (arith, is-not 1 (λ q. omega arith))) (omega (arith, other (λ q. omega arith))) (omega (arith, is-not 5 (λ q. omega arith)))
          (ap (λ (m : ℕ). c.randoms + m) (as_count (eqb k 6) er ∙ rw ek)) (ap (λ (m : ℕ). c.spends + m) (as_count (eqb k 7) eo ∙ rw ek))

      pub tally-other : k ≤ 5 → (k ≡ 5 → ⊥) → (k ≡ 1 → ⊥) → Tallied (take (g + 1) (plan_of bs).gates) i c
      tally-other l n5 n1 =
          tally-more c (omega (arith, is-not 1 n1)) (omega (arith, other n1)) (omega (arith, is-not 5 n5)) (omega (arith, is-not 6 (λ q. omega arith))) (omega (arith, is-not 7 (λ q. omega arith)))

-- As it is: answers name this set, since the check leaves their goals open by `using` alone.
pub ruleset counting_one = (rules, one_at_most, tally-above, tally-multiply, tally-input, tally-other)

-- the pass over the gates below `top`
pub record Tallying (bs : List ℕ) (top i : ℕ) (c : Tally) (g : ℕ) : Type 0 where
  pub within : g ≤ top
  pub tallied : Tallied (take g (plan_of bs).gates) i c

module _ (bs : List ℕ) (top i : ℕ) (c : Tally) (g : ℕ) (w : Tallying bs top i c g) where
  pub tallying-next : g < top → (d : Tally) → Tallied (take (g + 1) (plan_of bs).gates) i d → Tallying bs top i d (g + 1)
  tallying-next l d t = record { within = omega arith; tallied = t }

  pub tallying-done : top ≤ g → Tallied (take top (plan_of bs).gates) i c
  tallying-done l = let e : g ≡ top = omega (arith, w.within) in rw (← e) w.tallied

pub tallying-none : (bs : List ℕ) (top i : ℕ) (c : Tally) → Tallied (take 0 (plan_of bs).gates) i c → Tallying bs top i c 0
tallying-none bs top i c t = record { within = omega arith; tallied = t }

-- of all gates
pub tallied_all : (bs : List ℕ) (h : Header) (i : ℕ) (c : Tally) → Planned bs h → Tallied (take h.gates (plan_of bs).gates) i c → Tallied (plan_of bs).gates i c
tallied_all bs h i c p t = subst (λ (gs : List Gate). Tallied gs i c) (take_all h.gates (plan_of bs).gates (omega (arith, plan_gates p))) t

-- As it is: answers name this set, since the check leaves their goals open by `using` alone.
pub ruleset counting = (rules, tally-none, tallying-none, tallying-next, tallying-done, tallied_all)

-- ---- outs
module _ (i : ℕ) where
  count_outs : (os : List Output) → length (out_wires_of i os) ≡ count_where (is_out_of i) os
  unfolding out_wires_of count_where is_out_of
  count_outs [] = refl
  count_outs (o ∷ os) = pick (eqb i o.party) (count_outs os)
    where
      pick : (t : Bool) → length (out_wires_of i os) ≡ count_where (is_out_of i) os
          → length (cond t (o.wire ∷ out_wires_of i os) (out_wires_of i os)) ≡ cond t (suc (count_where (is_out_of i) os)) (count_where (is_out_of i) os)
      pick true e = ap suc e
      pick false e = e

  pub own_outs : (plan : Plan) → own_out_count plan i ≡ count_where (is_out_of i) plan.outs
  unfolding own_out_count out_wires
  own_outs plan = count_outs plan.outs

pub is_out_of_lem : (i : ℕ) (o : Output) → eqb i o.party ≡ is_out_of i o
unfolding is_out_of
is_out_of_lem i o = refl

-- the loop over the outs: k of the first o are party i's
module _ (bs : List ℕ) (h : Header) (i k o : ℕ) (p : Planned bs h) (c : Counted (is_out_of i) (plan_of bs).outs k o) where
  pub outs_next : o < h.outs → (out : Output) (t : Bool) (one : ℕ) → out ≡ out_at bs o → t ≡ is_out_of i out → one ≡ bool_byte t → Counted (is_out_of i) (plan_of bs).outs (k + one) (o + 1)
  outs_next l out t one eo et e1 =
      count_next (is_out_of i) (plan_of bs).outs k o c one (record { party = 0; wire = 0 }) (rw (plan_outs p) l) (rw (plan_out p o l, ← eo, ← et) (as_count t e1))

  pub outs_few : k ≤ 64
  outs_few = omega (arith, c.small, c.within, plan_outs p, p.outs-high)

  pub outs_done : h.outs ≤ o → k ≡ own_out_count (plan_of bs) i
  outs_done l = counted (is_out_of i) (plan_of bs).outs k o c (rw (plan_outs p) l) ∙ sym (own_outs i (plan_of bs))

-- As it is: answers name this set, since the check leaves their goals open by `using` alone.
pub ruleset counting_outs = (rules, is_out_of_lem, count_none, outs_next, outs_few, outs_done)
