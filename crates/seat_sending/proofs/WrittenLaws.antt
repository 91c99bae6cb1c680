-- What a step sends, and what a call writes.
--     stepping     what closes the needs of `send_step`
--     calling      what closes the needs of `send`
-- Assumes nothing.
use mathlib.Core.Path.{◌≡◌, sym, ap, subst, ◌∙◌}
use mathlib.Core.List.{List}
use Prim.Native.Nat.{ℕ, ◌*◌, ◌/◌, ◌<◌, ◌≤◌}
use native.Mathlib.Omega.{arith}
use borrow.Author.Rules.{rules}
use borrow.Author.Tests.{eq-eqb, ne_eqb, lt-ltb, le-ltb}
use lib.ListN.{length}
use Rattle.numbers.specs.Bytes.{width, numbers}
use Rattle.plan.specs.declared.Step.{Step}
use Rattle.plan.specs.declared.Header.{Header}
use Rattle.plan.specs.Plans.{Plan, step_at, last_call, own_out_count, out_wires, sent_by, written_count}
use Rattle.plan.specs.File.{plan_of}
use Rattle.plan.specs.Planned.{Planned}
use Rattle.plan.proofs.Wires.{out_wires_few}
use Rattle.plan.proofs.Planned.{plan_outs}
use Rattle.plan_counts.specs.Counts.{Stepped}
use Rattle.seat_messages.specs.Messages.{call_with}
use Rattle.seat_messages.specs.Calls.{written}
use Rattle.seat_results.specs.Opened.{opened_outs}
use Rattle.seat_sending.specs.Sending.{Lent, outgoing}
use Rattle.seat_sending.proofs.CutLaws.{cut_room, cut_sent}

-- ---- a step
-- what each step's own function is handed, and leaves
module _ (plan : Plan) (i : ℕ) (step same : Step) (e : step ≡ same) where
  pub step-stepped : Stepped plan step → Stepped plan same
  step-stepped s = subst (Stepped plan) e s

  pub step_room : (out : List ℕ) → length out ≡ width * sent_by plan i step → length out ≡ width * sent_by plan i same
  step_room out q = q ∙ ap (λ (r : Step). width * sent_by plan i r) e

  pub step_sent : (inputs coins triples shares mail xs : List ℕ) → xs ≡ outgoing plan i same inputs coins triples shares mail → xs ≡ outgoing plan i step inputs coins triples shares mail
  step_sent inputs coins triples shares mail xs q = rw e q

-- As it is: answers name this set, since the check leaves their goals open by `using` alone.
pub ruleset stepping = (rules, step-stepped, step_room, step_sent, cut_room, cut_sent)

-- ---- a call
module _ (bs : List ℕ) (h : Header) (w : Planned bs h) (i k : ℕ) (inputs coins triples shares mail out : List ℕ) (l : Lent (plan_of bs) i k inputs coins triples shares mail out) (last : ℕ) (is : last ≡ last_call (plan_of bs)) where
  module _ (ne : k ≡ last → ⊥) where
    early : k < last_call (plan_of bs)
    early = omega (arith, l.call)

    pub call_room : (step : Step) → step ≡ step_at (plan_of bs) k → length out ≡ width * sent_by (plan_of bs) i step
    unfolding written_count
    call_room step e = l.room ∙ rw (lt-ltb k (last_call (plan_of bs)) early, ← e)

    pub call-sent : (step : Step) (xs : List ℕ) → step ≡ step_at (plan_of bs) k → xs ≡ outgoing (plan_of bs) i step (numbers inputs) (numbers coins) (numbers triples) (numbers shares) (numbers mail)
        → xs ≡ written (plan_of bs) k (call_with (plan_of bs) i k (numbers inputs) (numbers coins) (numbers triples) (numbers shares) (numbers mail))
    unfolding written call_with
    call-sent step xs e q = rw (ne_eqb k (last_call (plan_of bs)) (λ z. omega (arith, early)), lt-ltb k (last_call (plan_of bs)) early, ← e) q

  module _ (e : k ≡ last) where
    own-many : length out ≡ width * own_out_count (plan_of bs) i
    unfolding written_count
    own-many = l.room ∙ rw (le-ltb k (last_call (plan_of bs)) (omega arith))

    pub results-room : length out ≤ width * 65536
    unfolding own_out_count out_wires
    results-room = omega (arith, own-many, out_wires_few i (plan_of bs).outs, plan_outs w, w.outs-high)

    pub call-opened : (xs : List ℕ) → xs ≡ opened_outs (plan_of bs) (length out / width) (numbers mail)
        → xs ≡ written (plan_of bs) k (call_with (plan_of bs) i k (numbers inputs) (numbers coins) (numbers triples) (numbers shares) (numbers mail))
    unfolding written call_with opened_outs
    call-opened xs q =
        let many : length out / width ≡ own_out_count (plan_of bs) i = omega (arith, own-many) in
        q ∙ ap (λ (n : ℕ). opened_outs (plan_of bs) n (numbers mail)) many ∙ sym (rw (eq-eqb k (last_call (plan_of bs)) (omega arith)))

-- As it is: answers name this set, since the check leaves their goals open by `using` alone.
pub ruleset calling = (rules, call_room, call-sent, results-room, call-opened)
