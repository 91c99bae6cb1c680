-- The run record: contents first, an offset from the file's start and a length in bytes for each party; then each party's inputs, coins,
-- mail and results, which are its view of the run. All numbers have four bytes.
use Rattle.std.specs.Prelude.{ℕ, zero, suc, ◌+◌, ◌-◌, ◌*◌, Bool, ◌&&◌, eqb, length, take, drop, replicate}
use mathlib.Core.List.{List, [], ◌∷◌, ◌++◌, flat_map}
use Rattle.numbers.specs.Tables.{tab, first_failing}
use Rattle.numbers.specs.Bytes.{width, number_at, bytes_from, numbers, bytes_of}
use Rattle.plan.specs.Refusals.{Checked}
use Rattle.plan.specs.declared.Refusal.TheVariants as refusal
use Rattle.plan.specs.Refusals.{first_of, need}
use Rattle.plan.specs.Plans.{Plan, party_count, parties}
use Rattle.plan.specs.File.{between, found_none, plan_checks, plan_of}
use Rattle.seat_messages.specs.Calls.{unless_refused}
use Rattle.run_protocol.specs.Rounds.{at_end, view, view_count_of, view_count}
use Rattle.run_bench.specs.BenchCalls.{broken_check, given_checks}

-- ---- where the bodies stand
-- party i's body in bytes
unfoldable pub body_size : Plan → ℕ → ℕ
body_size plan i = width * view_count_of plan i

-- the bodies of parties 1 to k
unfoldable pub bodies_before : Plan → ℕ → ℕ
bodies_before plan zero = 0
bodies_before plan (suc k) = bodies_before plan k + body_size plan (suc k)

-- where the body of party k + 1 begins: after the contents and the bodies of the parties before it
unfoldable pub body_start : Plan → ℕ → ℕ
body_start plan k = 8 * party_count plan + bodies_before plan k

unfoldable pub record_size : Plan → ℕ
record_size plan = body_start plan (party_count plan)

-- ---- the writer
-- of party k + 1
unfoldable pub content_of : Plan → ℕ → List ℕ
content_of plan k = bytes_from 4 (body_start plan k) ++ bytes_from 4 (body_size plan (suc k))

unfoldable pub contents_of : Plan → List ℕ
contents_of plan = flat_map (content_of plan) (tab (λ k. k) (party_count plan))

unfoldable pub record_of : Plan → List ℕ → List ℕ → List ℕ → List ℕ
record_of plan xs coins triples = contents_of plan ++ bytes_of (view plan (parties plan) xs coins triples)

-- refusals of the plan, 10 to 13, 29, 19 and 20
unfoldable pub record_checks : List ℕ → List ℕ → List ℕ → List ℕ → ℕ → List Checked
record_checks bs xs coins triples room =
    plan_checks bs
    ++ (given_checks (plan_of bs) xs coins triples
    ++ (need refusal.BufferLength (eqb room (record_size (plan_of bs)))
    ∷ broken_check (plan_of bs) (at_end (plan_of bs) (numbers xs) (numbers coins) (numbers triples))
    ∷ []))

unfoldable pub record_answer : List ℕ → List ℕ → List ℕ → List ℕ → ℕ → Checked
record_answer bs xs coins triples room = first_of (record_checks bs xs coins triples room)

-- the lent buffer and the lent triples afterwards
unfoldable pub record_after : List ℕ → List ℕ → List ℕ → List ℕ → List ℕ → List ℕ
record_after bs xs coins triples out =
    unless_refused (record_answer bs xs coins triples (length out)) (record_of (plan_of bs) (numbers xs) (numbers coins) (numbers triples)) out

unfoldable pub record_spent : List ℕ → List ℕ → List ℕ → List ℕ → ℕ → List ℕ
record_spent bs xs coins triples room = unless_refused (record_answer bs xs coins triples room) (replicate (length triples) 0) triples

-- ---- refusal 28: the contents tile the file, parties ascending, and each body has the length that the plan gives
unfoldable pub content_kept : Plan → List ℕ → ℕ → Bool
content_kept plan r k = eqb (number_at 4 r (8 * k)) (body_start plan k) && eqb (number_at 4 r (8 * k + 4)) (body_size plan (suc k))

unfoldable pub record_ok : Plan → List ℕ → Bool
record_ok plan r = eqb (length r) (record_size plan) && found_none (first_failing (content_kept plan r) (party_count plan))

-- ---- the bench's reader: all bodies, in stored order
unfoldable pub bench_read_checks : List ℕ → List ℕ → ℕ → List Checked
bench_read_checks bs r room =
    plan_checks bs
    ++ (need refusal.Record (record_ok (plan_of bs) r)
    ∷ need refusal.BufferLength (eqb room (width * view_count (plan_of bs) (parties (plan_of bs))))
    ∷ [])

unfoldable pub bench_read_answer : List ℕ → List ℕ → ℕ → Checked
bench_read_answer bs r room = first_of (bench_read_checks bs r room)

-- the bytes after the contents
unfoldable pub bodies_of : Plan → List ℕ → List ℕ
bodies_of plan r = drop (8 * party_count plan) r

unfoldable pub bench_read_after : List ℕ → List ℕ → List ℕ → List ℕ
bench_read_after bs r out = unless_refused (bench_read_answer bs r (length out)) (bodies_of (plan_of bs) r) out

-- ---- a plant's reader: the body of party i
unfoldable pub body_of : Plan → List ℕ → ℕ → List ℕ
body_of plan r i = take (body_size plan i) (drop (body_start plan (i - 1)) r)

unfoldable pub plant_read_checks : List ℕ → List ℕ → ℕ → ℕ → List Checked
plant_read_checks bs r i room =
    plan_checks bs
    ++ (need refusal.Record (record_ok (plan_of bs) r)
    ∷ need refusal.Coalition (between 1 (party_count (plan_of bs)) i)
    ∷ need refusal.BufferLength (eqb room (body_size (plan_of bs) i))
    ∷ [])

unfoldable pub plant_read_answer : List ℕ → List ℕ → ℕ → ℕ → Checked
plant_read_answer bs r i room = first_of (plant_read_checks bs r i room)

unfoldable pub plant_read_after : List ℕ → List ℕ → ℕ → List ℕ → List ℕ
plant_read_after bs r i out = unless_refused (plant_read_answer bs r i (length out)) (body_of (plan_of bs) r i) out
