-- The sizes of a run: what each way through the code says of them, and their bounds.
--     bringing, sending, mailing, totalling     what closes the needs of the functions that give them
-- Assumes nothing.
use mathlib.Core.Path.{◌≡◌, sym, ap, ◌∙◌}
use mathlib.Core.Logic.{◌⊎◌, ⊎_elim}
use mathlib.Core.Bool.{cond}
use mathlib.Core.List.{List}
use Prim.Native.Nat.{ℕ, suc, ◌+◌, ◌-◌, ◌*◌, ◌<◌, ◌≤◌}
use native.Mathlib.Nat.{mul-le-mul}
use native.Mathlib.Omega.{arith}
use borrow.Author.Rules.{rules}
use borrow.Author.Tests.{lt-ltb, le-ltb, le-leb, lt-leb}
use mir.Syntax.{w64}
use mir.Val.{Fits}
use lib.Dec.{leb}
use Rattle.numbers.specs.Tables.{count_where}
use Rattle.plan.specs.declared.Rule.{Rule}
use Rattle.plan.specs.declared.Rule.TheVariants.{Reduction, Truncation}
use Rattle.plan.specs.declared.Step.{Step}
use Rattle.plan.specs.declared.Step.TheVariants.{DealInputs, DealProduct, DealZero, DealMasked, SendTruncated, DealDraws, OpenSpent, SendOuts}
use Rattle.plan.specs.declared.Header.{Header}
use Rattle.plan.specs.Plans.{Plan, party_count, is_kind, is_input_of, kind_count, own_out_count, last_call, step_at, received, sent_by, mail_count, written_count, per_multiply, sent_count}
use Rattle.plan.specs.File.{plan_of}
use Rattle.plan.specs.Planned.{Planned}
use Rattle.plan.proofs.Planned.{plan_n, plan_rule, plan_dealers, plan_outs}
use Rattle.plan.proofs.Wires.{length-input_wires}
use Rattle.plan_counts.specs.declared.Tally.{Tally}
use Rattle.plan_counts.specs.declared.Seat.{Seat}
use Rattle.plan_counts.specs.Counts.{Tallied}

-- ---- products that fit, by the bounds of the contents
module _ (bs : List ℕ) (h : Header) (p : Planned bs h) where
  pub one-to-each : (b : ℕ) → 15 ≤ b → h.n ≤ b
  one-to-each b l = omega (arith, p.n-high)

  by_n : (x b : ℕ) → x ≤ b → h.n * x ≤ 15 * b
  by_n x b l = mul-le-mul p.n-high l

  pub by-n-64 : (x : ℕ) → x ≤ 64 → h.n * x ≤ 1024
  by-n-64 x l = omega (arith, by_n x 64 l)

  pub by-n-64-fits : (x : ℕ) → x ≤ 64 → Fits w64 (h.n * x)
  by-n-64-fits x l = record { fits = omega (arith, by-n-64 x l) }

  by-n-1024 : (x : ℕ) → x ≤ 1024 → h.n * x ≤ 15360
  by-n-1024 x l = omega (arith, by_n x 1024 l)

  -- ---- what a step brings and what is sent in it
  module _ (i : ℕ) (s : Step) where
    pub brings-inputs : (r : ℕ) → s ≡ DealInputs → r ≡ count_where (is_kind 1) (plan_of bs).gates → r ≡ received (plan_of bs) i s
    unfolding received kind_count
    brings-inputs r e f = rw e f

    pub brings-product : (g a b : ℕ) → s ≡ DealProduct g a b → h.t + h.t + 1 ≡ received (plan_of bs) i s
    unfolding received
    brings-product g a b e = rw e (sym (plan_dealers p))

    pub brings_one : ((g : ℕ) × (s ≡ DealZero g)) ⊎ (((g : ℕ) × (a : ℕ) × (b : ℕ) × (s ≡ DealMasked g a b)) ⊎ (((g : ℕ) × (s ≡ SendTruncated g)) ⊎ ((g : ℕ) × (s ≡ DealDraws g)))) → h.n ≡ received (plan_of bs) i s
    unfolding received
    brings_one = ⊎_elim
        (λ (e : (g : ℕ) × (s ≡ DealZero g)). rw e.1 (sym (plan_n p)))
        (⊎_elim
        (λ (e : (g : ℕ) × (a : ℕ) × (b : ℕ) × (s ≡ DealMasked g a b)). rw e.3 (sym (plan_n p)))
        (⊎_elim (λ (e : (g : ℕ) × (s ≡ SendTruncated g)). rw e.1 (sym (plan_n p))) (λ (e : (g : ℕ) × (s ≡ DealDraws g)). rw e.1 (sym (plan_n p)))))

    pub brings-spent : (g a b : ℕ) → s ≡ OpenSpent g a b → 2 * h.n ≡ received (plan_of bs) i s
    unfolding received
    brings-spent g a b e = rw (e, plan_n p)

    pub brings-outs : (o : ℕ) → s ≡ SendOuts → o ≡ own_out_count (plan_of bs) i → h.n * o ≡ received (plan_of bs) i s
    unfolding received
    brings-outs o e f = rw (e, f, plan_n p)

    pub sends-inputs : (o : ℕ) → s ≡ DealInputs → o ≡ count_where (is_input_of i) (plan_of bs).gates → h.n * o ≡ sent_by (plan_of bs) i s
    unfolding sent_by
    sends-inputs o e f = rw (e, f, plan_n p, length-input_wires)

    pub sends-product : (g a b r : ℕ) → s ≡ DealProduct g a b → r ≡ cond (leb i (h.t + h.t + 1)) h.n 0 → r ≡ sent_by (plan_of bs) i s
    unfolding sent_by
    sends-product g a b r e f = rw (e, plan_dealers p, plan_n p) f

    pub sends_one : ((g : ℕ) × (s ≡ DealZero g)) ⊎ (((g : ℕ) × (a : ℕ) × (b : ℕ) × (s ≡ DealMasked g a b)) ⊎ (((g : ℕ) × (s ≡ SendTruncated g)) ⊎ ((g : ℕ) × (s ≡ DealDraws g)))) → h.n ≡ sent_by (plan_of bs) i s
    unfolding sent_by
    sends_one = ⊎_elim
        (λ (e : (g : ℕ) × (s ≡ DealZero g)). rw e.1 (sym (plan_n p)))
        (⊎_elim
        (λ (e : (g : ℕ) × (a : ℕ) × (b : ℕ) × (s ≡ DealMasked g a b)). rw e.3 (sym (plan_n p)))
        (⊎_elim (λ (e : (g : ℕ) × (s ≡ SendTruncated g)). rw e.1 (sym (plan_n p))) (λ (e : (g : ℕ) × (s ≡ DealDraws g)). rw e.1 (sym (plan_n p)))))

    pub sends-spent : (g a b : ℕ) → s ≡ OpenSpent g a b → 2 * h.n ≡ sent_by (plan_of bs) i s
    unfolding sent_by
    sends-spent g a b e = rw (e, plan_n p)

    pub sends-outs : s ≡ SendOuts → h.outs ≡ sent_by (plan_of bs) i s
    unfolding sent_by
    sends-outs e = rw e (sym (plan_outs p))

  -- ---- elements sent
  module _ (rule : Rule) where
    pub per_reduced : rule ≡ Reduction → h.t + h.t + 1 ≡ per_multiply (plan_of bs) rule
    unfolding per_multiply
    per_reduced e = rw e (sym (plan_dealers p))

    pub per_truncated : rule ≡ Truncation → 3 * h.n ≡ per_multiply (plan_of bs) rule
    unfolding per_multiply
    per_truncated e = rw (e, plan_n p)

  module _ (i : ℕ) (c : Tally) (t : Tallied (plan_of bs).gates i c) where
    times : (x a k : ℕ) → a ≤ k → x * a ≤ x * k
    times x a k q = mul-le-mul {n₁ = x} {m₁ = a} {n₂ = x} {m₂ = k} (omega arith) q

    pub drawn-fits : Fits w64 (c.randoms * h.n)
    drawn-fits = record { fits = omega (arith, t.few, times c.randoms h.n 15 p.n-high) }

    pub spent-fits : Fits w64 (c.spends * (2 * h.n))
    spent-fits = record { fits = omega (arith, t.few, times c.spends (2 * h.n) 30 (omega (arith, p.n-high))) }

    module _ (m : ℕ) (l : m ≤ 45) where
      few : c.inputs + c.multiplies * m + c.randoms * h.n + c.spends * (2 * h.n) ≤ 46080
      few = omega (arith, t.few, times c.multiplies m 45 l, times c.randoms h.n 15 p.n-high, times c.spends (2 * h.n) 30 (omega (arith, p.n-high)))

      pub multiplied-fits : Fits w64 (c.multiplies * m)
      multiplied-fits = record { fits = omega (arith, few) }

      pub mail-fits-2 : Fits w64 (c.inputs + c.multiplies * m)
      mail-fits-2 = record { fits = omega (arith, few) }

      pub mail-fits-3 : Fits w64 (c.inputs + c.multiplies * m + c.randoms * h.n)
      mail-fits-3 = record { fits = omega (arith, few) }

      pub mail-fits : Fits w64 (c.inputs + c.multiplies * m + c.randoms * h.n + c.spends * (2 * h.n))
      mail-fits = record { fits = omega (arith, few) }

      pub mail-few : c.inputs + c.multiplies * m + c.randoms * h.n + c.spends * (2 * h.n) ≤ 46080
      mail-few = few

      pub mail-is : m ≡ per_multiply (plan_of bs) h.rule
          → c.inputs + c.multiplies * m + c.randoms * h.n + c.spends * (2 * h.n)
          ≡ kind_count (plan_of bs) 1 + kind_count (plan_of bs) 5 * per_multiply (plan_of bs) (plan_of bs).rule + kind_count (plan_of bs) 6 * party_count (plan_of bs) + kind_count (plan_of bs) 7 * (2 * party_count (plan_of bs))
      unfolding kind_count
      mail-is e =
          let each : per_multiply (plan_of bs) (plan_of bs).rule ≡ m = ap (per_multiply (plan_of bs)) (plan_rule p) ∙ sym e in
          rw (each, plan_n p, t.inputs, t.multiplies, t.randoms, t.spends)

  module _ (m : ℕ) (l : m ≤ 46080) where
    pub sent-fits-2 : Fits w64 (m + h.outs)
    sent-fits-2 = record { fits = omega (arith, p.outs-high) }

    pub sent-few : h.n * (m + h.outs) ≤ 692160
    sent-few = by_n _ 46144 (omega (arith, p.outs-high))

    pub sent-fits : Fits w64 (h.n * (m + h.outs))
    sent-fits = record { fits = omega (arith, sent-few) }

  pub sent_all_lem : (m : ℕ)
      → m ≡ kind_count (plan_of bs) 1 + kind_count (plan_of bs) 5 * per_multiply (plan_of bs) (plan_of bs).rule + kind_count (plan_of bs) 6 * party_count (plan_of bs) + kind_count (plan_of bs) 7 * (2 * party_count (plan_of bs))
      → h.n * (m + h.outs) ≡ sent_count (plan_of bs)
  unfolding sent_count
  sent_all_lem m e = rw (e, ← plan_n p, ← plan_outs p)

-- the shares of a seat's own inputs
module _ (s : Seat) where
  pub own-sent : s.plan.now.header.n * s.tally.own ≤ 15360
  own-sent = by-n-1024 s.plan.now.bytes.now s.plan.now.header s.plan.now.planned s.tally.own (omega (arith, s.tallied.few, s.tallied.own_few))

  pub own-sent-fits : Fits w64 (s.plan.now.header.n * s.tally.own)
  own-sent-fits = record { fits = omega (arith, own-sent) }

-- ---- a call's mail and what it writes
module _ (plan : Plan) (i k : ℕ) where
  pub mail-zero : k ≡ 0 → 0 ≡ mail_count plan i k
  unfolding mail_count
  mail-zero e = rw e

  pub mail-later : (s : Step) (r : ℕ) → (k ≡ 0 → ⊥) → s ≡ step_at plan (k - 1) → r ≡ received plan i s → r ≡ mail_count plan i k
  unfolding mail_count
  mail-later s r ne e f = let q : suc (k - 1) ≡ k = omega arith in f ∙ ap (received plan i) e ∙ ap (mail_count plan i) q

  pub written-sent : (l r : ℕ) (s : Step) → l ≡ last_call plan → k < l → s ≡ step_at plan k → r ≡ sent_by plan i s → r ≡ written_count plan i k
  unfolding written_count
  written-sent l r s el m e f = rw (← el, lt-ltb k l m) (f ∙ ap (sent_by plan i) e)

  pub written-results : (l r : ℕ) → l ≡ last_call plan → l ≤ k → r ≡ own_out_count plan i → r ≡ written_count plan i k
  unfolding written_count
  written-results l r el m f = rw (← el, le-ltb k l m) f

pub sent-some : (n i d : ℕ) → i ≤ d → n ≡ cond (leb i d) n 0
sent-some n i d l = rw (le-leb i d l)

pub sent-none : (n i d : ℕ) → d < i → 0 ≡ cond (leb i d) n 0
sent-none n i d l = rw (lt-leb i d l)

-- As it is: answers name this set, since the check leaves their goals open by `using` alone.
pub ruleset bringing = (rules, one-to-each, by-n-64, by-n-64-fits, brings-inputs, brings-product, brings_one, brings-spent, brings-outs)

-- As it is: answers name this set, since the check leaves their goals open by `using` alone.
pub ruleset sending = (rules, one-to-each, own-sent, own-sent-fits, sends-inputs, sends-product, sends_one, sends-spent, sends-outs, sent-some, sent-none)

pub ruleset mailing = (rules, mail-zero, mail-later, written-sent, written-results)

pub ruleset totalling = (rules, per_reduced, per_truncated, multiplied-fits, drawn-fits, spent-fits, mail-fits-2, mail-fits-3, mail-fits, mail-few, mail-is, sent-fits-2, sent-few, sent-fits, sent_all_lem)
