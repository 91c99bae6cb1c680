-- The bench as its caller sees it: the first refusal or none, the elements sent, and the lent buffer and the lent triples afterwards.
use Rattle.std.specs.Prelude.{Result, Ok, Err, ℕ, suc, ◌*◌, List, [], ◌∷◌, ◌++◌, map, eqb, length, get_or, replicate}
use Rattle.numbers.specs.Bytes.{width, numbers, bytes_of, holds_count, first_over}
use Rattle.plan.specs.Refusals.{Checked}
use Rattle.plan.specs.declared.Refusal.{Refusal}
use Rattle.plan.specs.declared.Refusal.TheVariants as refusal
use Rattle.plan.specs.Refusals.{first_of, need, unless_found}
use Rattle.plan.specs.Plans.{Plan, party_count, parties, input_count, coin_count, triple_numbers}
use Rattle.plan.specs.File.{plan_checks, plan_of}
use Rattle.plan_coalition.specs.Coalitions.{members, set_ok}
use Rattle.seat_messages.specs.Messages.{Called}
use Rattle.seat_messages.specs.Calls.{on_polynomial, unless_refused}
use Rattle.run_protocol.specs.Rounds.{call_of, at_end, view, view_count}

-- all parties' shares of wire w after these calls
unfoldable pub shares_at_end : Plan → List Called → ℕ → List ℕ
shares_at_end plan cs w = map (λ i. get_or (call_of i cs).state (suc w) 0) (parties plan)

-- refusal 20 of a run: that of the first out, in the plan's order, whose shares at the run's end break
unfoldable pub broken_check : Plan → List Called → Checked
broken_check plan cs = first_of (map (λ o. on_polynomial plan.p plan.t plan.points (shares_at_end plan cs o.wire)) plan.outs)

-- refusals 10 to 13 and 29, of all parties' inputs, coins and triples
unfoldable pub given_checks : Plan → List ℕ → List ℕ → List ℕ → List Checked
given_checks plan xs coins triples =
    need refusal.InputCount (holds_count (input_count plan) xs)
    ∷ unless_found refusal.InputValue (first_over plan.p (numbers xs))
    ∷ need refusal.CoinCount (holds_count (coin_count plan) coins)
    ∷ unless_found refusal.CoinValue (first_over plan.p (numbers coins))
    ∷ unless_found refusal.CoinValue (first_over plan.p (numbers triples))
    ∷ need refusal.Triples (holds_count (party_count plan * triple_numbers plan) triples)
    ∷ []

-- refusals 9 to 13, 29, 19 and 20
unfoldable pub run_checks : Plan → ℕ → List ℕ → List ℕ → List ℕ → ℕ → List Checked
run_checks plan set xs coins triples room =
    need refusal.Coalition (set_ok plan set)
    ∷ (given_checks plan xs coins triples
    ++ (need refusal.BufferLength (eqb room (width * view_count plan (members set)))
    ∷ broken_check plan (at_end plan (numbers xs) (numbers coins) (numbers triples))
    ∷ []))

unfoldable pub bench_answer : List ℕ → ℕ → List ℕ → List ℕ → List ℕ → ℕ → Checked
bench_answer bs set xs coins triples room = first_of (plan_checks bs ++ run_checks (plan_of bs) set xs coins triples room)

-- what the bench answers: the elements sent, or the first refusal
unfoldable pub benched_of : Checked → ℕ → Result ℕ Refusal
benched_of (Ok tt) sent = Ok sent
benched_of (Err r) sent = Err r

-- the lent buffer afterwards: the coalition's view of the run of separate calls
unfoldable pub view_after : List ℕ → ℕ → List ℕ → List ℕ → List ℕ → List ℕ → List ℕ
view_after bs set xs coins triples out =
    unless_refused (bench_answer bs set xs coins triples (length out))
    (bytes_of (view (plan_of bs) (members set) (numbers xs) (numbers coins) (numbers triples))) out

-- the lent triples afterwards: all are spent
unfoldable pub spent_after : List ℕ → ℕ → List ℕ → List ℕ → List ℕ → ℕ → List ℕ
spent_after bs set xs coins triples room = unless_refused (bench_answer bs set xs coins triples room) (replicate (length triples) 0) triples
