-- What follows from a tally, and the sizes of a run's lists, with their bounds.
--     summing, seats, sizing     what closes the needs of the functions that give them
-- Assumes nothing.
use mathlib.Core.Path.{◌≡◌, sym, ap, ap₂, ◌∙◌}
use mathlib.Core.List.{List, flat_map}
use Prim.Native.Nat.{ℕ, ◌+◌, ◌*◌, ◌≤◌}
use native.Mathlib.Nat.{mul-le-mul}
use native.Mathlib.Omega.{arith}
use borrow.Author.Rules.{rules}
use mir.Syntax.{w64}
use mir.Val.{Fits}
use lib.Dec.{eqb}
use lib.ListN.{length, take}
use lib.Seq.{take_all}
use Rattle.numbers.specs.Tables.{count_where}
use Rattle.plan.specs.declared.Gate.{Gate}
use Rattle.plan.specs.declared.Header.{Header}
use Rattle.plan.specs.Plans.{party_count, is_kind, kind_count, input_owners_at, input_owners, coin_owners_at, coin_owners, steps_from, last_call, input_count, own_input_count, coin_count, own_coin_count, triple_numbers, triple_at}
use Rattle.plan.specs.Kinds.{multiply_coins, own_multiply_coins, multiply_rounds, own_draws, own_random_coins}
use Rattle.plan.specs.File.{plan_of}
use Rattle.plan.specs.Planned.{Planned}
use Rattle.plan.proofs.Planned.{plan_n, plan_t, plan_rule}
use Rattle.plan.proofs.Valid.{few_spends}
use Rattle.plan.proofs.Counts.{steps-below, last-call}
use Rattle.plan.proofs.KindCounts.{own-inputs-of, inputs-of, own-coins-of, coins-of, steps-of}
use Rattle.plan_counts.specs.declared.Tally.{Tally}
use Rattle.plan_counts.specs.declared.Seat.{Seat}
use Rattle.plan_counts.specs.Counts.{Tallied}

-- ---- a party's own, of the gates of a tally
module _ (bs : List ℕ) (h : Header) (p : Planned bs h) (i : ℕ) (gs : List Gate) (c : Tally) (t : Tallied gs i c) (r : ℕ) where
  pub own-inputs-are : r ≡ c.own + own_draws (plan_of bs) i * c.randoms → r ≡ count_where (eqb i) (flat_map (input_owners_at (plan_of bs)) gs)
  own-inputs-are e = e ∙ rw (t.own, t.randoms) (sym (own-inputs-of (plan_of bs) i gs ∙ omega arith))

  pub own-coins-are :
      r ≡ h.t * c.own + own_multiply_coins (plan_of bs) h.rule i * c.multiplies + own_random_coins (plan_of bs) i * c.randoms
      → r ≡ count_where (eqb i) (flat_map (coin_owners_at (plan_of bs)) gs)
  own-coins-are e = e ∙ rw (t.own, t.multiplies, t.randoms) (sym (own-coins-of (plan_of bs) i gs ∙ rw (plan_t p, plan_rule p) (omega arith)))

-- ---- of all gates
module _ (bs : List ℕ) (h : Header) (p : Planned bs h) (i : ℕ) (c : Tally) (t : Tallied (plan_of bs).gates i c) where
  own-inputs-all : (r : ℕ) → r ≡ c.own + own_draws (plan_of bs) i * c.randoms → r ≡ own_input_count (plan_of bs) i
  unfolding own_input_count input_owners
  own-inputs-all r e = own-inputs-are bs h p i (plan_of bs).gates c t r e

  own-coins-all : (r : ℕ) → r ≡ h.t * c.own + own_multiply_coins (plan_of bs) h.rule i * c.multiplies + own_random_coins (plan_of bs) i * c.randoms → r ≡ own_coin_count (plan_of bs) i
  unfolding own_coin_count coin_owners
  own-coins-all r e = own-coins-are bs h p i (plan_of bs).gates c t r e

  pub inputs-all : c.inputs + h.n * c.randoms ≡ input_count (plan_of bs)
  unfolding input_count input_owners
  inputs-all = rw (t.inputs, t.randoms) (sym (inputs-of (plan_of bs) (plan_of bs).gates ∙ rw (plan_n p) (omega arith)))

  pub coins-all : (m : ℕ) → m ≡ multiply_coins (plan_of bs) h.rule → h.t * c.inputs + m * c.multiplies + h.t * h.n * c.randoms ≡ coin_count (plan_of bs)
  unfolding coin_count coin_owners
  coins-all m e =
      let a1 : (plan_of bs).t * count_where (is_kind 1) (plan_of bs).gates ≡ h.t * c.inputs = ap₂ (λ (x y : ℕ). x * y) (plan_t p) (sym t.inputs) in
      let a2 : multiply_coins (plan_of bs) (plan_of bs).rule * count_where (is_kind 5) (plan_of bs).gates ≡ m * c.multiplies =
      ap₂ (λ (x y : ℕ). x * y) (ap (multiply_coins (plan_of bs)) (plan_rule p) ∙ sym e) (sym t.multiplies) in
      let a3 : (plan_of bs).t * party_count (plan_of bs) * count_where (is_kind 6) (plan_of bs).gates ≡ h.t * h.n * c.randoms =
      ap₂ (λ (x y : ℕ). x * y) (ap₂ (λ (x y : ℕ). x * y) (plan_t p) (plan_n p)) (sym t.randoms) in
      omega (arith, a1, a2, a3, coins-of (plan_of bs) (plan_of bs).gates)

  pub triples-all : h.n * (3 * c.spends) ≡ party_count (plan_of bs) * triple_numbers (plan_of bs)
  unfolding triple_numbers kind_count
  triples-all = rw (plan_n p, t.spends)

  all-few : c.spends ≤ 341
  unfolding kind_count
  all-few = rw t.spends (few_spends bs p.passes)

  pub all-triples-few : h.n * (3 * c.spends) ≤ 15345
  all-triples-few = mul-le-mul {n₁ = h.n} {m₁ = 3 * c.spends} {n₂ = 15} {m₂ = 1023} p.n-high (omega (arith, all-few))

  pub all-triples-fit : Fits w64 (h.n * (3 * c.spends))
  all-triples-fit = record { fits = omega (arith, all-triples-few) }

  last-all : (r : ℕ) → r ≡ multiply_rounds h.rule → r * c.multiplies + c.randoms + c.spends + 2 ≡ last_call (plan_of bs)
  unfolding steps-below
  last-all r e =
      let all : length (steps_from (plan_of bs).rule 0 (take (length (plan_of bs).gates) (plan_of bs).gates)) ≡ length (steps_from (plan_of bs).rule 0 (plan_of bs).gates) =
      ap (λ (gs : List Gate). length (steps_from (plan_of bs).rule 0 gs)) (take_all (length (plan_of bs).gates) (plan_of bs).gates (omega arith)) in
      let five : r * c.multiplies ≡ multiply_rounds (plan_of bs).rule * count_where (is_kind 5) (plan_of bs).gates =
      ap₂ (λ (x y : ℕ). x * y) (e ∙ ap multiply_rounds (sym (plan_rule p))) t.multiplies in
      omega (arith, five, t.randoms, t.spends, last-call (plan_of bs), all, steps-of (plan_of bs) 0 (plan_of bs).gates)

-- of a seat
module _ (s : Seat) (r : ℕ) where
  pub seat-last : r ≡ multiply_rounds s.plan.now.header.rule → r * s.tally.multiplies + s.tally.randoms + s.tally.spends + 2 ≡ last_call (plan_of s.plan.now.bytes.now)
  seat-last = last-all s.plan.now.bytes.now s.plan.now.header s.plan.now.planned s.party s.tally s.tallied r

  pub seat_inputs : r ≡ s.tally.own + own_draws (plan_of s.plan.now.bytes.now) s.party * s.tally.randoms → r ≡ own_input_count (plan_of s.plan.now.bytes.now) s.party
  seat_inputs = own-inputs-all s.plan.now.bytes.now s.plan.now.header s.plan.now.planned s.party s.tally s.tallied r

  pub seat_coins :
      r ≡ s.plan.now.header.t * s.tally.own + own_multiply_coins (plan_of s.plan.now.bytes.now) s.plan.now.header.rule s.party * s.tally.multiplies + own_random_coins (plan_of s.plan.now.bytes.now) s.party * s.tally.randoms
      → r ≡ own_coin_count (plan_of s.plan.now.bytes.now) s.party
  seat_coins = own-coins-all s.plan.now.bytes.now s.plan.now.header s.plan.now.planned s.party s.tally s.tallied r

  pub seat_triples : 3 * s.tally.spends ≡ triple_numbers (plan_of s.plan.now.bytes.now)
  unfolding triple_numbers kind_count
  seat_triples = ap (λ (n : ℕ). 3 * n) s.tallied.spends

-- below a gate
pub triples-below : (bs : List ℕ) (i g : ℕ) (c : Tally) → Tallied (take g (plan_of bs).gates) i c → 3 * c.spends ≡ triple_at (plan_of bs) g
unfolding triple_at
triples-below bs i g c t = ap (λ (n : ℕ). 3 * n) t.spends

pub drawn_as : (a d e x : ℕ) → d ≡ e → a + d * x ≡ a + e * x
drawn_as a d e x q = rw q

pub coins_as : (a m n x r s y : ℕ) → m ≡ n → r ≡ s → a + m * x + r * y ≡ a + n * x + s * y
coins_as a m n x r s y q w = rw (q, w)

-- ---- products that fit
times : (a x k : ℕ) → a ≤ k → a * x ≤ k * x
times a x k l = mul-le-mul {n₁ = a} {m₁ = x} {n₂ = k} {m₂ = x} l (omega arith)

module _ (c : Tally) (few : c.own + c.multiplies + c.randoms ≤ 1024) where
  module _ (d : ℕ) (l : d ≤ 1) where
    pub drawn-few : c.own + d * c.randoms ≤ 1024
    drawn-few = omega (arith, times d c.randoms 1 l)

    pub drawn-fits : Fits w64 (d * c.randoms)
    drawn-fits = record { fits = omega (arith, drawn-few) }

    pub inputs-fit : Fits w64 (c.own + d * c.randoms)
    inputs-fit = record { fits = omega (arith, drawn-few) }

  module _ (bs : List ℕ) (h : Header) (p : Planned bs h) where
    t_few : h.t ≤ 14
    t_few = omega (arith, p.threshold, p.n-high)

    pub own-fits : Fits w64 (h.t * c.own)
    own-fits = record { fits = omega (arith, times h.t c.own 14 t_few) }

    module _ (m : ℕ) (l : m ≤ 42) where
      pub dealt-fits : Fits w64 (m * c.multiplies)
      dealt-fits = record { fits = omega (arith, times m c.multiplies 42 l) }

      pub two_fit : Fits w64 (h.t * c.own + m * c.multiplies)
      two_fit = record { fits = omega (arith, times h.t c.own 14 t_few, times m c.multiplies 42 l) }

      module _ (r : ℕ) (k : r ≤ 14) where
        pub random-fits : Fits w64 (r * c.randoms)
        random-fits = record { fits = omega (arith, times r c.randoms 14 k) }

        pub own-coins-few : h.t * c.own + m * c.multiplies + r * c.randoms ≤ 43008
        own-coins-few = omega (arith, times h.t c.own 14 t_few, times m c.multiplies 42 l, times r c.randoms 14 k)

        pub own-coins-fit : Fits w64 (h.t * c.own + m * c.multiplies + r * c.randoms)
        own-coins-fit = record { fits = omega (arith, own-coins-few) }

module _ (i : ℕ) (gs : List Gate) (c : Tally) (t : Tallied gs i c) where
  pub triples-few : 3 * c.spends ≤ 3072
  triples-few = omega (arith, t.few)

  pub triples-fit : Fits w64 (3 * c.spends)
  triples-fit = record { fits = omega (arith, triples-few) }

  module _ (r : ℕ) (l : r ≤ 3) where
    pub last-few : r * c.multiplies + c.randoms + c.spends + 2 ≤ 3074
    last-few = omega (arith, t.few, times r c.multiplies 3 l)

    pub rounds-fit : Fits w64 (r * c.multiplies)
    rounds-fit = record { fits = omega (arith, last-few) }

    pub last-fits : Fits w64 (r * c.multiplies + c.randoms + c.spends + 2)
    last-fits = record { fits = omega (arith, last-few) }

    pub last-fits-2 : Fits w64 (r * c.multiplies + c.randoms + c.spends)
    last-fits-2 = record { fits = omega (arith, last-few) }

    pub last-fits-3 : Fits w64 (r * c.multiplies + c.randoms)
    last-fits-3 = record { fits = omega (arith, last-few) }

  module _ (bs : List ℕ) (h : Header) (p : Planned bs h) where
    threshold_few : h.t ≤ 14
    threshold_few = omega (arith, p.threshold, p.n-high)

    both_few : h.t * h.n ≤ 210
    both_few = mul-le-mul {n₁ = h.t} {m₁ = h.n} {n₂ = 14} {m₂ = 15} threshold_few p.n-high

    pub inputs-few : c.inputs + h.n * c.randoms ≤ 15360
    inputs-few = omega (arith, t.few, times h.n c.randoms 15 p.n-high)

    pub draws-fit : Fits w64 (h.n * c.randoms)
    draws-fit = record { fits = omega (arith, inputs-few) }

    pub all-inputs-fit : Fits w64 (c.inputs + h.n * c.randoms)
    all-inputs-fit = record { fits = omega (arith, inputs-few) }

    pub first-fits : Fits w64 (h.t * c.inputs)
    first-fits = record { fits = omega (arith, t.few, times h.t c.inputs 14 threshold_few) }

    pub both-fit : Fits w64 (h.t * h.n)
    both-fit = record { fits = omega (arith, both_few) }

    pub randoms-fit : Fits w64 (h.t * h.n * c.randoms)
    randoms-fit = record { fits = omega (arith, t.few, times (h.t * h.n) c.randoms 210 both_few) }

    module _ (m : ℕ) (l : m ≤ 630) where
      pub coins-few : h.t * c.inputs + m * c.multiplies + h.t * h.n * c.randoms ≤ 645120
      coins-few = omega (arith, t.few, times h.t c.inputs 14 threshold_few, times m c.multiplies 630 l, times (h.t * h.n) c.randoms 210 both_few)

      pub multiplies-fit : Fits w64 (m * c.multiplies)
      multiplies-fit = record { fits = omega (arith, coins-few) }

      pub two-fit : Fits w64 (h.t * c.inputs + m * c.multiplies)
      two-fit = record { fits = omega (arith, coins-few) }

      pub coins-fit : Fits w64 (h.t * c.inputs + m * c.multiplies + h.t * h.n * c.randoms)
      coins-fit = record { fits = omega (arith, coins-few) }

-- As it is: answers name this set, since the check leaves their goals open by `using` alone.
pub ruleset summing = (rules, drawn_as, coins_as, drawn-few, drawn-fits, inputs-fit, own-fits, dealt-fits, two_fit, random-fits, own-coins-few, own-coins-fit)

pub ruleset seats = (rules, seat-last, seat_inputs, seat_coins, seat_triples, triples-few, triples-fit, last-few, rounds-fit, last-fits, last-fits-2, last-fits-3)

-- As it is: answers name this set, since the check leaves their goals open by `using` alone.
pub ruleset sizing = (rules, own-inputs-are, own-coins-are, triples-below, triples-few, triples-fit, triples-all, all-triples-few, all-triples-fit, inputs-all, coins-all, inputs-few, draws-fit, all-inputs-fit, first-fits, both-fit, randoms-fit, coins-few, multiplies-fit, two-fit, coins-fit)
