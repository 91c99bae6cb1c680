-- What else is claimed beside the demands: of the matchings from their calls alone, of a view piece by piece, of the sizes that a host cuts by, of
-- the party that refusal 20 tells, of triples that come from anywhere, of what a preparing run leaves, of a plan's file in another version, and of the
-- two multiply rules.
use Rattle.std.specs.Prelude.{Ok, Err, ℕ, suc, ◌+◌, ◌*◌, ◌≤◌, ◌<◌, ◌≡◌, ◌⊎◌, true, List, [], length, get_or, take, drop}
use mathlib.Core.List.{flat_map}
use Rattle.numbers.specs.Bytes.{width, numbers, bytes_of, all_below}
use Rattle.sharing_laws.specs.OffLine.{OnOne, OffAt}
use Rattle.plan.specs.declared.Rule.{Rule}
use Rattle.plan.specs.declared.Refusal.TheVariants as refusal
use Rattle.plan.specs.Refusals.{Checked}
use Rattle.plan.specs.Plans.{Plan, party_count, parties, kind_count, last_call, input_count, coin_count, own_inputs, own_coins, own_out_count, triple_numbers, mail_count, written_count}
use Rattle.plan.specs.File.{between, version_at, p_at, rule_for, plan_check, plan_of}
use Rattle.plan_coalition.specs.Coalitions.{in_set, members, set_ok}
use Rattle.seat_messages.specs.Messages.{Called, from_each}
use Rattle.seat_messages.specs.Calls.{call_answer, state_after, triples_after, out_after}
use Rattle.plan_file.specs.Bodies.{file_as, field_limit}
use Rattle.convert_call.specs.Converting.{convert_answer, convert_after}
use Rattle.run_bench.specs.BenchCalls.{shares_at_end, bench_answer, view_after, spent_after}
use Rattle.run_protocol.specs.Rounds.{mail_to, after, at_end, results, triples_from, view_count}
use Rattle.run_protocol.specs.Rounds as rounds
use Rattle.run_protocol.specs.Settings.{Full, Inputs, Coins, Triples}
use Rattle.match_privacy.specs.Matching.{matched_coins}
use Rattle.match_agreement.specs.MatchCalls.{match_answer, matched_after}
use Rattle.match_joint.specs.JointLists.{draws_of, preparing_coins, main_coins, joint_triples}
use Rattle.match_joint.specs.Joint.{matched_joint}
use Rattle.match_prepared.specs.PreparedCalls.{joint_count, prepared_ok, prepared_answer, prepared_after}
use Rattle.record_laws.specs.Records.{record_answer, record_after, record_spent, bench_read_answer, bench_read_after, plant_read_answer, plant_read_after}
use Rattle.count_laws.specs.CountCalls.{count_answer, count_after}
use Rattle.demands.specs.Apart.{part_count}
use Rattle.demands.specs.Apart as apart
use Rattle.demands.specs.Demands.{Given, Alike, SameBytes}

-- ---- a plan that spends no triple takes none: the demands hold of its runs with the empty list
abbrev pub NoneTaken : Type 0
NoneTaken = (bytes : List ℕ) → plan_check bytes ≡ Ok tt → kind_count (plan_of bytes) 7 ≡ 0 → Triples (plan_of bytes) []

-- ---- for any lent bytes: where the matching refuses nothing, the bench refuses neither run, and writes the same bytes for both
abbrev pub MatchedBytes : Type 0
MatchedBytes =
    (bytes : List ℕ) (set : ℕ) (first second coins out view view' : List ℕ)
    → all_below 256 bytes ≡ true → all_below 256 first ≡ true → all_below 256 second ≡ true → all_below 256 coins ≡ true
    → match_answer bytes set first second coins (length out) ≡ Ok tt
    → length view ≡ width * view_count (plan_of bytes) (members set) → length view' ≡ width * view_count (plan_of bytes) (members set)
    → SameBytes bytes set first coins [] second (matched_after bytes set first second coins out) [] view view'

-- the parts of a joint list in bytes: a preparing run's draws and coins and the main run's coins, and the triples that the preparing run leaves
unfoldable pub draw_bytes : Plan → List ℕ → List ℕ
draw_bytes prep c = take (width * input_count prep) c

unfoldable pub preparing_bytes : Plan → List ℕ → List ℕ
preparing_bytes prep c = take (width * coin_count prep) (drop (width * input_count prep) c)

unfoldable pub main_bytes : Plan → List ℕ → List ℕ
main_bytes prep c = drop (width * (input_count prep + coin_count prep)) c

unfoldable pub triple_bytes : Plan → List ℕ → List ℕ
triple_bytes prep c = bytes_of (joint_triples prep (numbers c))

-- two joint lists: the bench refuses none of the four runs, and writes the same bytes for both preparing runs and for both main runs
pub record JointlyMatched (prep bytes : List ℕ) (set : ℕ) (first second coins moved : List ℕ) : Type 0 where
  pub preparing :
      (view view' : List ℕ)
      → length view ≡ width * view_count (plan_of prep) (members set) → length view' ≡ width * view_count (plan_of prep) (members set)
      → SameBytes prep set (draw_bytes (plan_of prep) coins) (preparing_bytes (plan_of prep) coins) []
      (draw_bytes (plan_of prep) moved) (preparing_bytes (plan_of prep) moved) [] view view'
  pub main :
      (view view' : List ℕ)
      → length view ≡ width * view_count (plan_of bytes) (members set) → length view' ≡ width * view_count (plan_of bytes) (members set)
      → SameBytes bytes set first (main_bytes (plan_of prep) coins) (triple_bytes (plan_of prep) coins)
      second (main_bytes (plan_of prep) moved) (triple_bytes (plan_of prep) moved) view view'

-- for any lent bytes, where the matching of two runs together refuses nothing
abbrev pub JointBytes : Type 0
JointBytes =
    (prep bytes : List ℕ) (set : ℕ) (first second coins out : List ℕ)
    → all_below 256 prep ≡ true → all_below 256 bytes ≡ true → all_below 256 first ≡ true → all_below 256 second ≡ true → all_below 256 coins ≡ true
    → prepared_answer prep bytes set first second coins (length out) ≡ Ok tt
    → JointlyMatched prep bytes set first second coins (prepared_after prep bytes set first second coins out)

-- ---- equal views are equal piece by piece: party i in the run of xs, c and ts, and in that of ys, d and us
pub record Pieces (plan : Plan) (i : ℕ) (xs c ts ys d us : List ℕ) : Type 0 where
  pub inputs : own_inputs plan i xs ≡ own_inputs plan i ys
  pub coins : own_coins plan i c ≡ own_coins plan i d
  pub mail : (k : ℕ) → k ≤ last_call plan → mail_to i (after plan xs c ts k) ≡ mail_to i (after plan ys d us k)
  pub result : results plan xs c ts i ≡ results plan ys d us i

pub record SamePieces : Type 0 where
  pub alone :
      (bytes : List ℕ) (set : ℕ) (xs ys c : List ℕ) → kind_count (plan_of bytes) 7 ≡ 0 → Alike bytes set xs ys → Coins (plan_of bytes) c
      → (i : ℕ) → 1 ≤ i → in_set set i ≡ true
      → Pieces (plan_of bytes) i xs c [] ys (matched_coins (plan_of bytes) (members set) xs ys c) []
  -- in the preparing run, and in the main run that spends its triples
  pub prepared :
      (prep bytes : List ℕ) (set : ℕ) (xs ys c d : List ℕ) → plan_check prep ≡ Ok tt → prepared_ok (plan_of prep) (plan_of bytes) ≡ true → Alike bytes set xs ys
      → Full (plan_of bytes).p (joint_count (plan_of prep) (plan_of bytes)) c → d ≡ matched_joint (plan_of prep) (plan_of bytes) (members set) xs ys c
      → (i : ℕ) → 1 ≤ i → in_set set i ≡ true
      → Pieces (plan_of prep) i (draws_of (plan_of prep) c) (preparing_coins (plan_of prep) c) [] (draws_of (plan_of prep) d) (preparing_coins (plan_of prep) d) []
      × Pieces (plan_of bytes) i xs (main_coins (plan_of prep) c) (joint_triples (plan_of prep) c) ys (main_coins (plan_of prep) d) (joint_triples (plan_of prep) d)

-- ---- the sizes that a host cuts by, from those that the library answers (written_count: what a call writes; mail_count: what it takes)
pub record Cut (plan : Plan) : Type 0 where
  -- where a later call sends too, all parts of what a call writes have the same size
  pub dealt : (j k i : ℕ) → suc k < last_call plan → party_count plan * part_count plan j k i ≡ written_count plan j k
  -- the last that sends: party i's part is one of the equal parts of the mail that it takes next
  pub outs : (j k i : ℕ) → suc k ≡ last_call plan → party_count plan * part_count plan j k i ≡ mail_count plan i (suc k)

-- ---- the n shares of party i's own out j, in the mail of the last round
abbrev pub shares_in : Plan → ℕ → List ℕ → ℕ → List ℕ
shares_in plan i mail j = from_each (party_count plan) (own_out_count plan i) j mail

-- an out of party i breaks at a party, counted from 1: the shares of every own out before it lie on one polynomial of degree t or less; in this
-- one the shares of the parties before that party do, and with its share they do not
pub record Broken (plan : Plan) (i : ℕ) (mail : List ℕ) (party : ℕ) : Type 0 where
  pub out : ℕ
  pub own : out < own_out_count plan i
  pub earlier : (j : ℕ) → j < out → OnOne plan.p plan.t plan.points (shares_in plan i mail j)
  pub index : ℕ
  pub counted : party ≡ index + 1
  pub off : OffAt plan.p plan.t plan.points (shares_in plan i mail out) index

-- a party's call that is refused with 20 has been told the party at which the first of its own outs that breaks does
abbrev pub FirstBroken : Type 0
FirstBroken =
    (bytes : List ℕ) (i : ℕ) (inputs coins triples state mail : List ℕ) (room place : ℕ)
    → call_answer bytes i inputs coins triples state mail room ≡ Err (refusal.OffPolynomial place)
    → Broken (plan_of bytes) i (numbers mail) place

-- ---- an out of a run breaks at a party: the shares that the calls leave of every out before it, in the plan's order, lie on one polynomial
abbrev pub out_wire : Plan → ℕ → ℕ
out_wire plan o = (get_or plan.outs o (record { party = 0; wire = 0 })).wire

pub record BrokenRun (plan : Plan) (calls : List Called) (party : ℕ) : Type 0 where
  pub out : ℕ
  pub within : out < length plan.outs
  pub earlier : (j : ℕ) → j < out → OnOne plan.p plan.t plan.points (shares_at_end plan calls (out_wire plan j))
  pub index : ℕ
  pub told : party ≡ index + 1
  pub off : OffAt plan.p plan.t plan.points (shares_at_end plan calls (out_wire plan out)) index

-- a bench that refuses with 20 tells the party at which the first out that breaks does
abbrev pub FirstOutBroken : Type 0
FirstOutBroken =
    (bytes : List ℕ) (set : ℕ) (inputs coins triples : List ℕ) (room place : ℕ)
    → bench_answer bytes set inputs coins triples room ≡ Err (refusal.OffPolynomial place)
    → BrokenRun (plan_of bytes) (at_end (plan_of bytes) (numbers inputs) (numbers coins) (numbers triples)) place

-- ---- triples from anywhere: what a run is given has its full count, and each number is below p
pub record Filled (bytes xs coins ts : List ℕ) : Type 0 where
  pub passes : plan_check bytes ≡ Ok tt
  pub inputs : Inputs (plan_of bytes) xs
  pub settings : Coins (plan_of bytes) coins
  pub triples : Full (plan_of bytes).p (party_count (plan_of bytes) * triple_numbers (plan_of bytes)) ts

-- an answer that refuses with 20 alone
abbrev pub Only20 : Checked → Type 0
Only20 answer = (answer ≡ Ok tt) ⊎ ((party : ℕ) × (answer ≡ Err (refusal.OffPolynomial party)))

-- then the bench answers with the run's view, or refuses with 20 alone; and of parties run apart the last call alone may be refused, and with 20 alone
pub record OtherTriples : Type 0 where
  pub bench :
      (bytes xs coins ts : List ℕ) (set : ℕ) (view : List ℕ) → Filled bytes xs coins ts
      → set_ok (plan_of bytes) set ≡ true → length view ≡ width * view_count (plan_of bytes) (members set)
      → Only20 (bench_answer bytes set (bytes_of xs) (bytes_of coins) (bytes_of ts) (length view))
  pub written :
      (bytes xs coins ts : List ℕ) (set : ℕ) (view : List ℕ) → Filled bytes xs coins ts
      → bench_answer bytes set (bytes_of xs) (bytes_of coins) (bytes_of ts) (length view) ≡ Ok tt
      → view_after bytes set (bytes_of xs) (bytes_of coins) (bytes_of ts) view ≡ bytes_of (rounds.view (plan_of bytes) (members set) xs coins ts)
  pub calls :
      (bytes xs coins ts : List ℕ) (lent : ℕ → ℕ → List ℕ) → Filled bytes xs coins ts
      → ((i k : ℕ) → length (lent i k) ≡ width * written_count (plan_of bytes) i k)
      → (k i : ℕ) → k < last_call (plan_of bytes) → 1 ≤ i → i ≤ party_count (plan_of bytes)
      → (apart.answer_of i (apart.run bytes xs coins ts lent k)).answer ≡ Ok tt
  pub last :
      (bytes xs coins ts : List ℕ) (lent : ℕ → ℕ → List ℕ) → Filled bytes xs coins ts
      → ((i k : ℕ) → length (lent i k) ≡ width * written_count (plan_of bytes) i k)
      → (i : ℕ) → 1 ≤ i → i ≤ party_count (plan_of bytes)
      → Only20 (apart.answer_of i (apart.run bytes xs coins ts lent (last_call (plan_of bytes)))).answer

-- ---- what a preparing run leaves: the finished states of parties run apart, after their first number, are the triples of the main run, party by party
abbrev pub TriplesLeft : Type 0
TriplesLeft =
    (prep bytes draws coins : List ℕ) (lent : ℕ → ℕ → List ℕ) → all_below 256 prep ≡ true → plan_check prep ≡ Ok tt
    → prepared_ok (plan_of prep) (plan_of bytes) ≡ true → Inputs (plan_of prep) draws → Coins (plan_of prep) coins
    → ((i k : ℕ) → length (lent i k) ≡ width * written_count (plan_of prep) i k)
    → flat_map (λ i. drop width (apart.answer_of i (apart.run prep draws coins [] lent (last_call (plan_of prep)))).state) (parties (plan_of prep))
    ≡ bytes_of (triples_from (plan_of prep) draws coins)

-- ---- a plan's file in another version
-- two files with which every call answers and writes the same
pub record SameCalls (first second : List ℕ) : Type 0 where
  pub answer :
      (i : ℕ) (inputs coins triples state mail : List ℕ) (room : ℕ)
      → call_answer second i inputs coins triples state mail room ≡ call_answer first i inputs coins triples state mail room
  pub state :
      (i : ℕ) (inputs coins triples state mail : List ℕ) (room : ℕ)
      → state_after second i inputs coins triples state mail room ≡ state_after first i inputs coins triples state mail room
  pub triples :
      (i : ℕ) (inputs coins triples state mail : List ℕ) (room : ℕ)
      → triples_after second i inputs coins triples state mail room ≡ triples_after first i inputs coins triples state mail room
  pub sent :
      (i : ℕ) (inputs coins triples state mail out : List ℕ)
      → out_after second i inputs coins triples state mail out ≡ out_after first i inputs coins triples state mail out
  pub bench : (set : ℕ) (inputs coins triples : List ℕ) (room : ℕ) → bench_answer second set inputs coins triples room ≡ bench_answer first set inputs coins triples room
  pub view : (set : ℕ) (inputs coins triples out : List ℕ) → view_after second set inputs coins triples out ≡ view_after first set inputs coins triples out
  pub spent : (set : ℕ) (inputs coins triples : List ℕ) (room : ℕ) → spent_after second set inputs coins triples room ≡ spent_after first set inputs coins triples room
  pub matching : (set : ℕ) (xs ys coins : List ℕ) (room : ℕ) → match_answer second set xs ys coins room ≡ match_answer first set xs ys coins room
  pub matched : (set : ℕ) (xs ys coins out : List ℕ) → matched_after second set xs ys coins out ≡ matched_after first set xs ys coins out
  -- as the preparing and as the main plan of the joint matching
  pub preparing :
      (main : List ℕ) (set : ℕ) (xs ys coins : List ℕ) (room : ℕ)
      → prepared_answer second main set xs ys coins room ≡ prepared_answer first main set xs ys coins room
  pub prepared :
      (main : List ℕ) (set : ℕ) (xs ys coins out : List ℕ) → prepared_after second main set xs ys coins out ≡ prepared_after first main set xs ys coins out
  pub joining :
      (prep : List ℕ) (set : ℕ) (xs ys coins : List ℕ) (room : ℕ)
      → prepared_answer prep second set xs ys coins room ≡ prepared_answer prep first set xs ys coins room
  pub joined :
      (prep : List ℕ) (set : ℕ) (xs ys coins out : List ℕ) → prepared_after prep second set xs ys coins out ≡ prepared_after prep first set xs ys coins out
  pub storing : (inputs coins triples : List ℕ) (room : ℕ) → record_answer second inputs coins triples room ≡ record_answer first inputs coins triples room
  pub stored : (inputs coins triples out : List ℕ) → record_after second inputs coins triples out ≡ record_after first inputs coins triples out
  pub stored_spent : (inputs coins triples : List ℕ) (room : ℕ) → record_spent second inputs coins triples room ≡ record_spent first inputs coins triples room
  pub reading : (r : List ℕ) (room : ℕ) → bench_read_answer second r room ≡ bench_read_answer first r room
  pub read : (r out : List ℕ) → bench_read_after second r out ≡ bench_read_after first r out
  pub reading-one : (r : List ℕ) (i room : ℕ) → plant_read_answer second r i room ≡ plant_read_answer first r i room
  pub read_one : (r : List ℕ) (i : ℕ) (out : List ℕ) → plant_read_after second r i out ≡ plant_read_after first r i out
  pub counting : (set : ℕ) (inputs coins : List ℕ) (room : ℕ) → count_answer second set inputs coins room ≡ count_answer first set inputs coins room
  pub counted : (set : ℕ) (inputs coins out : List ℕ) → count_after second set inputs coins out ≡ count_after first set inputs coins out

-- a file that passes as another does, with the same plan: t, p, points, gates and outs, in order
pub record Rewritten (first second : List ℕ) : Type 0 where
  pub passes : plan_check second ≡ Ok tt
  pub plan : plan_of second ≡ plan_of first
  pub calls : SameCalls first second

-- a plan may be written in every version that has points, its multiply rule and room for its prime; so may that of a version 1 file, with its points 1 to n
abbrev pub SameVersions : Type 0
SameVersions =
    (bytes : List ℕ) (version : ℕ) → plan_check bytes ≡ Ok tt → between 2 4 version ≡ true → (plan_of bytes).rule ≡ rule_for version → p_at bytes < field_limit version
    → Rewritten bytes (file_as version (plan_of bytes))

-- ---- the converter: what it writes is a version 3 file of the same plan
pub record Converted (bytes out : List ℕ) : Type 0 where
  pub old : between 1 2 (version_at bytes) ≡ true
  pub new : version_at (convert_after bytes out) ≡ 3
  pub same : Rewritten bytes (convert_after bytes out)

abbrev pub Converts : Type 0
Converts = (bytes out : List ℕ) → convert_answer bytes (length out) ≡ Ok tt → Converted bytes out

-- ---- the two multiply rules
-- a plan under this rule
unfoldable pub under : Rule → Plan → Plan
under rule plan = record { t = plan.t; p = plan.p; points = plan.points; gates = plan.gates; outs = plan.outs; rule = rule }

-- two files whose plans are one but for the rule: of parties run apart the last buffers hold the same, for the same figures and whatever the coins and
-- the preparing runs
abbrev pub SameResults : Type 0
SameResults =
    (first second xs coins coins' ts ts' : List ℕ) (lent lent' : ℕ → ℕ → List ℕ) (rule : Rule)
    → all_below 256 first ≡ true → all_below 256 second ≡ true → plan_of second ≡ under rule (plan_of first)
    → Given first xs coins ts → Given second xs coins' ts'
    → ((i k : ℕ) → length (lent i k) ≡ width * written_count (plan_of first) i k)
    → ((i k : ℕ) → length (lent' i k) ≡ width * written_count (plan_of second) i k)
    → (i : ℕ) → 1 ≤ i → i ≤ party_count (plan_of first)
    → (apart.answer_of i (apart.run second xs coins' ts' lent' (last_call (plan_of second)))).out
    ≡ (apart.answer_of i (apart.run first xs coins ts lent (last_call (plan_of first)))).out
