-- The three demands, on what the C functions answer and write: the definitions are those that their contracts cite.
use Rattle.std.specs.Prelude.{Ok, Err, ℕ, ◌*◌, ◌/◌, ◌%◌, ◌≤◌, ◌<◌, ◌≡◌, true, length, get_or, replicate}
use mathlib.Core.List.{List, [], ◌++◌, map, flat_map}
use Rattle.numbers.specs.Bytes.{width, limit, bytes_of, all_below}
use Rattle.plan.specs.declared.Refusal.{Refusal}
use Rattle.plan.specs.Refusals.{Checked}
use Rattle.plan.specs.Refusals.{number_of, place_of, code_of}
use Rattle.plan.specs.Plans.{party_count, last_call, kind_count, coin_count, own_inputs, own_coins, triple_numbers, written_count, sent_count}
use Rattle.plan.specs.File.{plan_checks, plan_check, plan_of}
use Rattle.plan_coalition.specs.Coalitions.{members, set_ok}
use Rattle.seat_messages.specs.Calls.{call_checks, call_answer, state_after, triples_after, out_after}
use Rattle.run_protocol.specs.Rounds.{view_count}
use Rattle.run_protocol.specs.Ideal.{granted}
use Rattle.run_protocol.specs.Settings.{Full, Inputs, Coins, Triples}
use Rattle.run_bench.specs.BenchCalls.{run_checks, bench_answer, benched_of, view_after, spent_after}
use Rattle.match_agreement.specs.MatchCalls.{pair_checks, match_answer, matched_after}
use Rattle.match_joint.specs.JointLists.{draws_of, preparing_coins, main_coins, joint_held, joint_triples}
use Rattle.match_prepared.specs.PreparedCalls.{joint_count, prepared_ok, prepared_checks, prepared_answer, prepared_after}
use Rattle.import_call.specs.Importing.{import_checks, import_answer, import_after}
use Rattle.sheet_call.specs.Compiling.{sheet_checks, sheet_answer, sheet_after}
use Rattle.charge_laws.specs.Charges.{bill_of}
use Rattle.charge_call.specs.ChargeCalls.{price_checks, charge_answer, charged_of, charge_after}
use Rattle.record_laws.specs.Records.{record_checks, record_answer, record_after, record_spent, bench_read_checks, bench_read_answer, bench_read_after, plant_read_checks, plant_read_answer, plant_read_after}
use Rattle.count_laws.specs.CountCalls.{count_checks, count_answer, count_after}
use Rattle.pool_answers.specs.Answers.{answer_of, billed_of}
use Rattle.demands.specs.Order.{rank_of}
use Rattle.demands.specs.Apart as apart

-- triples are looked at before they are counted: a list so long that its places take no more than the 32 bits that C's answer has for a place
abbrev pub Short : List ℕ → Type 0
Short triples = length triples ≤ width * limit

-- ---- demand 1: the answer to a call on which these checks are made is the first refusal in checking order; C reads its number and its
-- place, both whole; and where there is one, what is written stays as it was
pub record Answers (checks : List Checked) (answer : Checked) (Whole Kept : Type 0) : Type 0 where
  pub passed : answer ≡ Ok tt → (k : ℕ) → get_or checks k (Ok tt) ≡ Ok tt
  pub among : (r : Refusal) → answer ≡ Err r → (k : ℕ) × (k < length checks) × (get_or checks k (Ok tt) ≡ Err r)
  pub first : (r : Refusal) → answer ≡ Err r → (k : ℕ) (q : Refusal) → get_or checks k (Ok tt) ≡ Err q → rank_of r ≤ rank_of q
  pub none : code_of answer ≡ 0 → answer ≡ Ok tt
  pub number : (r : Refusal) → answer ≡ Err r → code_of answer % 256 ≡ number_of r
  pub place : Whole → (r : Refusal) → answer ≡ Err r → code_of answer / 256 ≡ place_of r
  pub kept : (r : Refusal) → answer ≡ Err r → Kept

pub record Demand1 : Type 0 where
  pub plan : (bs : List ℕ) → Answers (plan_checks bs) (plan_check bs) Unit Unit
  pub call :
      (bs : List ℕ) (i : ℕ) (inputs coins triples state mail out : List ℕ)
      → Answers (call_checks bs i inputs coins triples state mail (length out)) (call_answer bs i inputs coins triples state mail (length out)) (Short triples)
      ((state_after bs i inputs coins triples state mail (length out) ≡ state) × (triples_after bs i inputs coins triples state mail (length out) ≡ triples)
      × (out_after bs i inputs coins triples state mail out ≡ out))
  pub bench :
      (bs : List ℕ) (set : ℕ) (xs coins triples out : List ℕ)
      → Answers (plan_checks bs ++ run_checks (plan_of bs) set xs coins triples (length out)) (bench_answer bs set xs coins triples (length out)) (Short triples)
      ((view_after bs set xs coins triples out ≡ out) × (spent_after bs set xs coins triples (length out) ≡ triples))
  pub matching :
      (bs : List ℕ) (set : ℕ) (xs ys coins out : List ℕ)
      → Answers (plan_checks bs ++ pair_checks (plan_of bs) set xs ys coins (length out)) (match_answer bs set xs ys coins (length out)) Unit
      (matched_after bs set xs ys coins out ≡ out)
  pub joint :
      (prep bs : List ℕ) (set : ℕ) (xs ys coins out : List ℕ)
      → Answers (prepared_checks prep bs set xs ys coins (length out)) (prepared_answer prep bs set xs ys coins (length out)) Unit
      (prepared_after prep bs set xs ys coins out ≡ out)
  pub import :
      (n t p : ℕ) (text out : List ℕ)
      → Answers (import_checks n t p text (length out)) (import_answer n t p text (length out)) Unit (import_after n t p text out ≡ out)
  pub sheet :
      (n t p i : ℕ) (text out : List ℕ)
      → Answers (sheet_checks n t p i text (length out)) (sheet_answer n t p i text (length out)) Unit (sheet_after n t p i text out ≡ out)
  pub charge :
      (bs : List ℕ) (price : ℕ) (out : List ℕ)
      → Answers (plan_checks bs ++ price_checks bs price (length out)) (charge_answer bs price (length out)) Unit (charge_after bs price out ≡ out)
  pub store :
      (bs xs coins triples out : List ℕ)
      → Answers (record_checks bs xs coins triples (length out)) (record_answer bs xs coins triples (length out)) (Short triples)
      ((record_after bs xs coins triples out ≡ out) × (record_spent bs xs coins triples (length out) ≡ triples))
  pub read_all :
      (bs stored out : List ℕ)
      → Answers (bench_read_checks bs stored (length out)) (bench_read_answer bs stored (length out)) Unit (bench_read_after bs stored out ≡ out)
  pub read_one :
      (bs stored : List ℕ) (i : ℕ) (out : List ℕ)
      → Answers (plant_read_checks bs stored i (length out)) (plant_read_answer bs stored i (length out)) Unit (plant_read_after bs stored i out ≡ out)
  pub count :
      (bs : List ℕ) (set : ℕ) (xs coins out : List ℕ)
      → Answers (count_checks bs set xs coins (length out)) (count_answer bs set xs coins (length out)) Unit (count_after bs set xs coins out ≡ out)
  -- the bench's answer is the refusal's, which counts no elements, or has the elements sent above its low byte, whole
  pub counted :
      (bs : List ℕ) (set : ℕ) (xs coins triples : List ℕ) (room : ℕ) → bench_answer bs set xs coins triples room ≡ Ok tt
      → answer_of (benched_of (bench_answer bs set xs coins triples room) (sent_count (plan_of bs))) ≡ 256 * sent_count (plan_of bs)
  pub uncounted :
      (bs : List ℕ) (set : ℕ) (xs coins triples : List ℕ) (room : ℕ) (r : Refusal) → bench_answer bs set xs coins triples room ≡ Err r
      → answer_of (benched_of (bench_answer bs set xs coins triples room) (sent_count (plan_of bs))) ≡ code_of (Err r)
  -- and so with the charge's answer and the bill
  pub billed :
      (bs : List ℕ) (price room : ℕ) → charge_answer bs price room ≡ Ok tt
      → billed_of (charged_of (charge_answer bs price room) (bill_of (plan_of bs) price)) ≡ 256 * bill_of (plan_of bs) price
  pub unbilled :
      (bs : List ℕ) (price room : ℕ) (r : Refusal) → charge_answer bs price room ≡ Err r
      → billed_of (charged_of (charge_answer bs price room) (bill_of (plan_of bs) price)) ≡ code_of (Err r)

-- ---- demand 2: parties run apart, with triples from a preparing run, whatever the buffers held that their calls are lent
pub record Given (bytes xs coins ts : List ℕ) : Type 0 where
  pub passes : plan_check bytes ≡ Ok tt
  pub inputs : Inputs (plan_of bytes) xs
  pub settings : Coins (plan_of bytes) coins
  pub triples : Triples (plan_of bytes) ts

pub record Right (bytes xs coins ts : List ℕ) (lent : ℕ → ℕ → List ℕ) : Type 0 where
  -- no call of a run is refused
  pub accepted :
      (k i : ℕ) → k ≤ last_call (plan_of bytes) → 1 ≤ i → i ≤ party_count (plan_of bytes)
      → (apart.answer_of i (apart.run bytes xs coins ts lent k)).answer ≡ Ok tt
  -- the last call's buffer has the results: the plan's own arithmetic; and every triple is spent
  pub results :
      (i : ℕ) → 1 ≤ i → i ≤ party_count (plan_of bytes)
      → (apart.answer_of i (apart.run bytes xs coins ts lent (last_call (plan_of bytes)))).out ≡ bytes_of (granted (plan_of bytes) xs i)
  pub spent :
      (i : ℕ) → 1 ≤ i → i ≤ party_count (plan_of bytes)
      → (apart.answer_of i (apart.run bytes xs coins ts lent (last_call (plan_of bytes)))).triples ≡ bytes_of (replicate (triple_numbers (plan_of bytes)) 0)
  -- the bench answers, writes byte for byte what the members of a coalition held and received apart, and spends every triple
  pub bench :
      (set : ℕ) (view : List ℕ) → set_ok (plan_of bytes) set ≡ true → length view ≡ width * view_count (plan_of bytes) (members set)
      → (bench_answer bytes set (bytes_of xs) (bytes_of coins) (bytes_of ts) (length view) ≡ Ok tt)
      × (view_after bytes set (bytes_of xs) (bytes_of coins) (bytes_of ts) view ≡ flat_map (apart.held_by bytes xs coins ts lent) (members set))
      × (spent_after bytes set (bytes_of xs) (bytes_of coins) (bytes_of ts) (length view) ≡ replicate (length (bytes_of ts)) 0)
  -- the elements that it counts are those that the calls sent
  pub sent : apart.wrote_before (apart.run bytes xs coins ts lent) (last_call (plan_of bytes)) ≡ width * sent_count (plan_of bytes)

abbrev pub Demand2 : Type 0
Demand2 =
    (bytes xs coins ts : List ℕ) (lent : ℕ → ℕ → List ℕ) → all_below 256 bytes ≡ true → Given bytes xs coins ts
    → ((i k : ℕ) → length (lent i k) ≡ width * written_count (plan_of bytes) i k)
    → Right bytes xs coins ts lent

-- ---- demand 3: two lists of inputs that agree at the coalition's own inputs and grant it the same results
pub record Alike (bytes : List ℕ) (set : ℕ) (xs ys : List ℕ) : Type 0 where
  pub passes : plan_check bytes ≡ Ok tt
  pub set_passes : set_ok (plan_of bytes) set ≡ true
  pub first : Inputs (plan_of bytes) xs
  pub second : Inputs (plan_of bytes) ys
  pub agree : map (λ i. own_inputs (plan_of bytes) i xs) (members set) ≡ map (λ i. own_inputs (plan_of bytes) i ys) (members set)
  pub grants : map (granted (plan_of bytes) xs) (members set) ≡ map (granted (plan_of bytes) ys) (members set)

-- a call that matches full lists of coins: it answers for every one and writes the matched one, whatever its buffer held; and whatever the members
-- hold, among the lists with these the matching is one to one and leaves none out
pub record Matches (p count : ℕ) (held : List ℕ → List (List ℕ)) (answer : List ℕ → ℕ → Checked) (after : List ℕ → List ℕ → List ℕ) : Type 0 where
  pub matched : List ℕ → List ℕ
  pub answers : (c out : List ℕ) → Full p count c → length out ≡ width * count → answer (bytes_of c) (length out) ≡ Ok tt
  pub writes : (c out : List ℕ) → Full p count c → length out ≡ width * count → after (bytes_of c) out ≡ bytes_of (matched c)
  pub among : (own : List (List ℕ)) (c : List ℕ) → Full p count c → held c ≡ own → Full p count (matched c) × (held (matched c) ≡ own)
  pub one_to_one : (c d : List ℕ) → Full p count c → Full p count d → matched c ≡ matched d → c ≡ d
  pub onto : (own : List (List ℕ)) (d : List ℕ) → Full p count d → held d ≡ own → (c : List ℕ) × Full p count c × (held c ≡ own) × (matched c ≡ d)

-- the bench answers on both runs, and writes the same bytes
pub record SameBytes (bytes : List ℕ) (set : ℕ) (xs coins ts ys coins' ts' view view' : List ℕ) : Type 0 where
  pub first_answers : bench_answer bytes set xs coins ts (length view) ≡ Ok tt
  pub second_answers : bench_answer bytes set ys coins' ts' (length view') ≡ Ok tt
  pub same : view_after bytes set xs coins ts view ≡ view_after bytes set ys coins' ts' view'

-- a plan that spends no triple, matched alone
pub record PrivateAlone (bytes : List ℕ) (set : ℕ) (xs ys : List ℕ) : Type 0 where
  pub matches :
      Matches (plan_of bytes).p (coin_count (plan_of bytes))
      (λ c. map (λ i. own_coins (plan_of bytes) i c) (members set))
      (match_answer bytes set (bytes_of xs) (bytes_of ys)) (matched_after bytes set (bytes_of xs) (bytes_of ys))
  -- the coalition's view of the whole run is the same
  pub same_view :
      (c out view view' : List ℕ) → Coins (plan_of bytes) c → length out ≡ width * coin_count (plan_of bytes)
      → length view ≡ width * view_count (plan_of bytes) (members set) → length view' ≡ width * view_count (plan_of bytes) (members set)
      → SameBytes bytes set (bytes_of xs) (bytes_of c) [] (bytes_of ys) (matched_after bytes set (bytes_of xs) (bytes_of ys) (bytes_of c) out) [] view view'

-- a plan that spends the triples of a preparing plan, both runs matched together by one joint list
pub record PrivatePrepared (prep bytes : List ℕ) (set : ℕ) (xs ys : List ℕ) : Type 0 where
  pub matches :
      Matches (plan_of bytes).p (joint_count (plan_of prep) (plan_of bytes))
      (joint_held (plan_of prep) (plan_of bytes) (members set))
      (prepared_answer prep bytes set (bytes_of xs) (bytes_of ys)) (prepared_after prep bytes set (bytes_of xs) (bytes_of ys))
  -- the coalition's views of both whole runs are the same
  pub same_preparing :
      (c d view view' : List ℕ) → Full (plan_of bytes).p (joint_count (plan_of prep) (plan_of bytes)) c
      → d ≡ matches.matched c
      → length view ≡ width * view_count (plan_of prep) (members set) → length view' ≡ width * view_count (plan_of prep) (members set)
      → SameBytes prep set (bytes_of (draws_of (plan_of prep) c)) (bytes_of (preparing_coins (plan_of prep) c)) []
      (bytes_of (draws_of (plan_of prep) d)) (bytes_of (preparing_coins (plan_of prep) d)) [] view view'
  pub same_main :
      (c d view view' : List ℕ) → Full (plan_of bytes).p (joint_count (plan_of prep) (plan_of bytes)) c
      → d ≡ matches.matched c
      → length view ≡ width * view_count (plan_of bytes) (members set) → length view' ≡ width * view_count (plan_of bytes) (members set)
      → SameBytes bytes set (bytes_of xs) (bytes_of (main_coins (plan_of prep) c)) (bytes_of (joint_triples (plan_of prep) c))
      (bytes_of ys) (bytes_of (main_coins (plan_of prep) d)) (bytes_of (joint_triples (plan_of prep) d)) view view'

pub record Demand3 : Type 0 where
  pub alone :
      (bytes : List ℕ) (set : ℕ) (xs ys : List ℕ) → all_below 256 bytes ≡ true → kind_count (plan_of bytes) 7 ≡ 0 → Alike bytes set xs ys
      → PrivateAlone bytes set xs ys
  pub prepared :
      (prep bytes : List ℕ) (set : ℕ) (xs ys : List ℕ) → all_below 256 prep ≡ true → all_below 256 bytes ≡ true
      → plan_check prep ≡ Ok tt → prepared_ok (plan_of prep) (plan_of bytes) ≡ true → Alike bytes set xs ys
      → PrivatePrepared prep bytes set xs ys
