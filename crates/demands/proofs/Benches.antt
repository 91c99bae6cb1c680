-- What the bench answers and writes on lists that have their full counts.
--     ended, bench_is, view_is                  on any triples: nothing but refusal 20 is left
--     bench_passes, view-written, triples_spent with triples from a preparing run
-- Assumes nothing.
use Rattle.std.proofs.Common.{Ok}
use Prim.Native.Nat.{ℕ, ◌*◌, ◌≤◌}
use mathlib.Core.Path.{◌≡◌, refl, ap, ap₂, ◌∙◌}
use mathlib.Core.Bool.{Bool, true}
use mathlib.Core.List.{List, [], ◌∷◌, ◌++◌}
use borrow.Author.Tests.{eq-eqb}
use lib.ListN.{length, replicate}
use Rattle.numbers.specs.Bytes.{width, limit, numbers, bytes_of, holds_count}
use Rattle.plan.specs.Refusals.{Checked}
use Rattle.plan.specs.declared.Refusal.{Refusal}
use Rattle.plan.specs.declared.Refusal.TheVariants as refusal
use Rattle.plan.specs.Refusals.{and_then, first_of, need}
use Rattle.plan.proofs.Refusals.{and_then_passed, and_then_end, first_of-nil, first_of-cons, first_of-append, need-true, next_passes}
use Rattle.plan.specs.Plans.{party_count, input_count, coin_count, triple_numbers}
use Rattle.plan.specs.File.{plan_checks, plan_check, plan_of}
use Rattle.plan_coalition.specs.Coalitions.{members, set_ok}
use Rattle.seat_messages.specs.Calls.{unless_refused}
use Rattle.run_protocol.specs.Rounds.{at_end, view, view_count}
use Rattle.run_protocol.proofs.Accepted.{back, count_holds, values_pass}
use Rattle.run_bench.specs.BenchCalls.{broken_check, given_checks, run_checks, bench_answer, view_after, spent_after}
use Rattle.run_bench.proofs.OutLaws.{none_broken}
use Rattle.demands.specs.Demands.{Given}
use Rattle.demands.specs.Further.{Filled}
use Rattle.demands.proofs.Second.{small_prime, proper, table, tabled, small, counted, lies}

pub kept : (a : Checked) (new old : List ℕ) → a ≡ Ok tt → unless_refused a new old ≡ new
unfolding unless_refused
kept a new old e = rw e

pub count_passes : (r : Refusal) (n : ℕ) (l : List ℕ) → length l ≡ n → need r (holds_count n (bytes_of l)) ≡ Ok tt
count_passes r n l e = need-true r (holds_count n (bytes_of l)) (count_holds n l e)

-- a run on any triples of the full count
module _ (bytes xs cs ts : List ℕ) (filled : Filled bytes xs cs ts) where
  prime_few : (plan_of bytes).p ≤ limit
  prime_few = small_prime bytes filled.passes

  inputs_read : numbers (bytes_of xs) ≡ xs
  inputs_read = back (plan_of bytes).p xs prime_few filled.inputs.small

  coins_read : numbers (bytes_of cs) ≡ cs
  coins_read = back (plan_of bytes).p cs prime_few filled.settings.small

  triples_read : numbers (bytes_of ts) ≡ ts
  triples_read = back (plan_of bytes).p ts prime_few filled.triples.small

  -- what it is given passes
  given_passes : first_of (given_checks (plan_of bytes) (bytes_of xs) (bytes_of cs) (bytes_of ts)) ≡ Ok tt
  unfolding given_checks
  given_passes =
      next_passes _ _ (count_passes refusal.InputCount (input_count (plan_of bytes)) xs filled.inputs.count)
      (next_passes _ _ (values_pass refusal.InputValue (plan_of bytes).p xs prime_few filled.inputs.small)
      (next_passes _ _ (count_passes refusal.CoinCount (coin_count (plan_of bytes)) cs filled.settings.count)
      (next_passes _ _ (values_pass refusal.CoinValue (plan_of bytes).p cs prime_few filled.settings.small)
      (next_passes _ _ (values_pass refusal.CoinValue (plan_of bytes).p ts prime_few filled.triples.small)
      (next_passes _ _ (count_passes refusal.Triples (party_count (plan_of bytes) * triple_numbers (plan_of bytes)) ts filled.triples.count) first_of-nil)))))

  -- what is left of the checks of a call that writes what the run leaves
  pub ended : (ok : Bool) → ok ≡ true
      → first_of
      (given_checks (plan_of bytes) (bytes_of xs) (bytes_of cs) (bytes_of ts)
      ++ (need refusal.BufferLength ok ∷ broken_check (plan_of bytes) (at_end (plan_of bytes) (numbers (bytes_of xs)) (numbers (bytes_of cs)) (numbers (bytes_of ts))) ∷ []))
      ≡ broken_check (plan_of bytes) (at_end (plan_of bytes) xs cs ts)
  ended ok e =
      first_of-append (given_checks (plan_of bytes) (bytes_of xs) (bytes_of cs) (bytes_of ts)) _
      ∙ and_then_passed _ _ given_passes
      ∙ first_of-cons (need refusal.BufferLength ok) _
      ∙ and_then_passed _ _ (need-true refusal.BufferLength ok e)
      ∙ first_of-cons _ []
      ∙ ap (and_then _) first_of-nil
      ∙ and_then_end _
      ∙ rw (inputs_read, coins_read, triples_read) refl

  pub view_is : (set : ℕ) (out : List ℕ) → bench_answer bytes set (bytes_of xs) (bytes_of cs) (bytes_of ts) (length out) ≡ Ok tt
      → view_after bytes set (bytes_of xs) (bytes_of cs) (bytes_of ts) out ≡ bytes_of (view (plan_of bytes) (members set) xs cs ts)
  unfolding view_after
  view_is set out answer =
      kept _ _ out answer
      ∙ ap₂ (λ (x c : List ℕ). bytes_of (view (plan_of bytes) (members set) x c (numbers (bytes_of ts)))) inputs_read coins_read
      ∙ ap (λ (t : List ℕ). bytes_of (view (plan_of bytes) (members set) xs cs t)) triples_read

  module _ (set : ℕ) (ok : set_ok (plan_of bytes) set ≡ true) where
    -- the bench refuses with 20 alone
    pub bench_is : (room : ℕ) → room ≡ width * view_count (plan_of bytes) (members set)
        → bench_answer bytes set (bytes_of xs) (bytes_of cs) (bytes_of ts) room ≡ broken_check (plan_of bytes) (at_end (plan_of bytes) xs cs ts)
    unfolding bench_answer run_checks plan_check
    bench_is room fits =
        first_of-append (plan_checks bytes) _
        ∙ and_then_passed _ _ filled.passes
        ∙ first_of-cons (need refusal.Coalition (set_ok (plan_of bytes) set)) _
        ∙ and_then_passed _ _ (need-true refusal.Coalition (set_ok (plan_of bytes) set) ok)
        ∙ ended _ (eq-eqb room (width * view_count (plan_of bytes) (members set)) fits)

-- with triples from a preparing run
module _ (bytes xs cs ts : List ℕ) (given : Given bytes xs cs ts) where
  pub filled_by : Filled bytes xs cs ts
  filled_by = record {
    passes = given.passes;
    inputs = given.inputs;
    settings = given.settings;
    triples = record { count = counted bytes xs cs ts given; small = small bytes xs cs ts given };
  }

  pub inputs_back : numbers (bytes_of xs) ≡ xs
  inputs_back = inputs_read bytes xs cs ts filled_by

  pub coins_back : numbers (bytes_of cs) ≡ cs
  coins_back = coins_read bytes xs cs ts filled_by

  pub triples_back : numbers (bytes_of ts) ≡ ts
  triples_back = triples_read bytes xs cs ts filled_by

  -- no out breaks at its end
  ended_well : broken_check (plan_of bytes) (at_end (plan_of bytes) xs cs ts) ≡ Ok tt
  ended_well =
      none_broken (plan_of bytes) (proper bytes xs cs ts given) xs cs ts (table bytes xs cs ts given) given.settings.count (tabled bytes xs cs ts given) (lies bytes xs cs ts given)

  -- so the checks of a call that writes what it leaves pass
  pub ended_pass : (ok : Bool) → ok ≡ true
      → first_of
      (given_checks (plan_of bytes) (bytes_of xs) (bytes_of cs) (bytes_of ts)
      ++ (need refusal.BufferLength ok ∷ broken_check (plan_of bytes) (at_end (plan_of bytes) (numbers (bytes_of xs)) (numbers (bytes_of cs)) (numbers (bytes_of ts))) ∷ []))
      ≡ Ok tt
  ended_pass ok e = ended bytes xs cs ts filled_by ok e ∙ ended_well

  module _ (set : ℕ) (ok : set_ok (plan_of bytes) set ≡ true) where
    pub bench_passes : (room : ℕ) → room ≡ width * view_count (plan_of bytes) (members set) → bench_answer bytes set (bytes_of xs) (bytes_of cs) (bytes_of ts) room ≡ Ok tt
    bench_passes room fits = bench_is bytes xs cs ts filled_by set ok room fits ∙ ended_well

    pub view-written : (out : List ℕ) → length out ≡ width * view_count (plan_of bytes) (members set)
        → view_after bytes set (bytes_of xs) (bytes_of cs) (bytes_of ts) out ≡ bytes_of (view (plan_of bytes) (members set) xs cs ts)
    view-written out fits = view_is bytes xs cs ts filled_by set out (bench_passes (length out) fits)

    pub triples_spent : (room : ℕ) → room ≡ width * view_count (plan_of bytes) (members set)
        → spent_after bytes set (bytes_of xs) (bytes_of cs) (bytes_of ts) room ≡ replicate (length (bytes_of ts)) 0
    unfolding spent_after
    triples_spent room fits = kept _ _ (bytes_of ts) (bench_passes room fits)
