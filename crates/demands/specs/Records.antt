-- What is claimed of the run record: "our bench reader with all bodies, a plant's reader with that of the seat number it takes,
-- which for a run is the plant's view. Over two runs that demand 3 matches for that plant alone, its reader shows the same." And a worked record,
-- as one table.
use Rattle.std.specs.Prelude.{Ok, ℕ, ◌-◌, ◌*◌, ◌^◌, ◌≤◌, ◌≡◌, true, length, take, replicate}
use mathlib.Core.List.{List, [], ◌∷◌, ◌++◌, flat_map}
use Rattle.std.proofs.lemmas.List.Edits.{sets}
use Rattle.numbers.specs.Bytes.{width, bytes_from, numbers, bytes_of, all_below}
use Rattle.plan.specs.Refusals.{code_of}
use Rattle.plan.specs.Plans.{party_count, parties, written_count}
use Rattle.plan.specs.File.{plan_of}
use Rattle.run_protocol.specs.Rounds.{view_of, view, view_count_of, view_count}
use Rattle.match_agreement.specs.MatchCalls.{match_answer, matched_after}
use Rattle.match_prepared.specs.PreparedCalls.{prepared_answer, prepared_after}
use Rattle.record_laws.specs.Records.{body_size, record_size, record_answer, record_after, bench_read_answer, bench_read_after, body_of, plant_read_answer, plant_read_after}
use Rattle.demands.specs.Apart as apart
use Rattle.demands.specs.Demands.{Given}
use Rattle.demands.specs.Further.{draw_bytes, preparing_bytes, main_bytes, triple_bytes}
use Rattle.demands.specs.Sums.{like_k, inputs1, coins1}

-- ---- what was stored of a run, with any triples, is read by both: the bench's reader gives all parties' views, one after the other, a plant's reader
-- that plant's view, whatever their buffers held
pub record ReadBack (bytes figures coins triples stored : List ℕ) : Type 0 where
  pub long : length stored ≡ record_size (plan_of bytes)
  pub bench :
      (out : List ℕ) → length out ≡ width * view_count (plan_of bytes) (parties (plan_of bytes))
      → (bench_read_answer bytes stored (length out) ≡ Ok tt)
      × (bench_read_after bytes stored out ≡ bytes_of (view (plan_of bytes) (parties (plan_of bytes)) (numbers figures) (numbers coins) (numbers triples)))
  pub plant :
      (i : ℕ) (out : List ℕ) → 1 ≤ i → i ≤ party_count (plan_of bytes) → length out ≡ width * view_count_of (plan_of bytes) i
      → (plant_read_answer bytes stored i (length out) ≡ Ok tt)
      × (plant_read_after bytes stored i out ≡ bytes_of (view_of (plan_of bytes) (numbers figures) (numbers coins) (numbers triples) i))

-- for all lent bytes, where the writer refuses nothing
abbrev pub RoundTrip : Type 0
RoundTrip =
    (bytes figures coins triples out : List ℕ) → record_answer bytes figures coins triples (length out) ≡ Ok tt
    → ReadBack bytes figures coins triples (record_after bytes figures coins triples out)

-- for all runs: the record is written, and a plant's reader gives byte for byte what that party held and received where the parties run apart
abbrev pub ShownApart : Type 0
ShownApart =
    (bytes xs coins ts stored out : List ℕ) (i : ℕ) (lent : ℕ → ℕ → List ℕ) → all_below 256 bytes ≡ true → Given bytes xs coins ts
    → ((j k : ℕ) → length (lent j k) ≡ width * written_count (plan_of bytes) j k)
    → 1 ≤ i → i ≤ party_count (plan_of bytes) → length stored ≡ record_size (plan_of bytes) → length out ≡ body_size (plan_of bytes) i
    → (record_answer bytes (bytes_of xs) (bytes_of coins) (bytes_of ts) (length stored) ≡ Ok tt)
    × (plant_read_after bytes (record_after bytes (bytes_of xs) (bytes_of coins) (bytes_of ts) stored) i out ≡ apart.held_by bytes xs coins ts lent i)

-- ---- two runs, the second with these coins and triples, stored and read by party i: no call is refused, and its reader gives the same bytes
pub record SameBody (bytes : List ℕ) (i : ℕ) (first coins ts second moved ts' stored stored' out out' : List ℕ) : Type 0 where
  pub first-stored : record_answer bytes first coins ts (length stored) ≡ Ok tt
  pub second-stored : record_answer bytes second moved ts' (length stored') ≡ Ok tt
  pub first_read : plant_read_answer bytes (record_after bytes first coins ts stored) i (length out) ≡ Ok tt
  pub second_read : plant_read_answer bytes (record_after bytes second moved ts' stored') i (length out') ≡ Ok tt
  pub same : plant_read_after bytes (record_after bytes first coins ts stored) i out ≡ plant_read_after bytes (record_after bytes second moved ts' stored') i out'

-- the coalition of party i alone
abbrev pub only : ℕ → ℕ
only i = 2 ^ (i - 1)

-- for all lent bytes, where the matching for party i alone refuses nothing: the second run has the coins that it wrote
abbrev pub SameShown : Type 0
SameShown =
    (bytes : List ℕ) (i : ℕ) (first second coins matched stored stored' out out' : List ℕ)
    → all_below 256 bytes ≡ true → all_below 256 first ≡ true → all_below 256 second ≡ true → all_below 256 coins ≡ true
    → 1 ≤ i → i ≤ party_count (plan_of bytes)
    → match_answer bytes (only i) first second coins (length matched) ≡ Ok tt
    → length stored ≡ record_size (plan_of bytes) → length stored' ≡ record_size (plan_of bytes)
    → length out ≡ body_size (plan_of bytes) i → length out' ≡ body_size (plan_of bytes) i
    → SameBody bytes i first coins [] second (matched_after bytes (only i) first second coins matched) [] stored stored' out out'

-- and where that of a preparing run and its main run together does: the records of both
pub record SameBoth (prep bytes : List ℕ) (i : ℕ) (first second coins moved : List ℕ) : Type 0 where
  pub preparing :
      (stored stored' out out' : List ℕ)
      → length stored ≡ record_size (plan_of prep) → length stored' ≡ record_size (plan_of prep)
      → length out ≡ body_size (plan_of prep) i → length out' ≡ body_size (plan_of prep) i
      → SameBody prep i (draw_bytes (plan_of prep) coins) (preparing_bytes (plan_of prep) coins) []
      (draw_bytes (plan_of prep) moved) (preparing_bytes (plan_of prep) moved) [] stored stored' out out'
  pub main :
      (stored stored' out out' : List ℕ)
      → length stored ≡ record_size (plan_of bytes) → length stored' ≡ record_size (plan_of bytes)
      → length out ≡ body_size (plan_of bytes) i → length out' ≡ body_size (plan_of bytes) i
      → SameBody bytes i first (main_bytes (plan_of prep) coins) (triple_bytes (plan_of prep) coins)
      second (main_bytes (plan_of prep) moved) (triple_bytes (plan_of prep) moved) stored stored' out out'

abbrev pub BothShown : Type 0
BothShown =
    (prep bytes : List ℕ) (i : ℕ) (first second coins matched : List ℕ)
    → all_below 256 prep ≡ true → all_below 256 bytes ≡ true → all_below 256 first ≡ true → all_below 256 second ≡ true → all_below 256 coins ≡ true
    → 1 ≤ i → i ≤ party_count (plan_of bytes)
    → prepared_answer prep bytes (only i) first second coins (length matched) ≡ Ok tt
    → SameBoth prep bytes i first second coins (prepared_after prep bytes (only i) first second coins matched)

-- ---- any record that the bench's reader takes, and a buffer for each party: every party's reader takes it, and the bench's gives what they give, one
-- after the other
pub record Bodies (bytes stored out : List ℕ) (lent : ℕ → List ℕ) : Type 0 where
  pub each : (i : ℕ) → 1 ≤ i → i ≤ party_count (plan_of bytes) → plant_read_answer bytes stored i (length (lent i)) ≡ Ok tt
  pub joined : bench_read_after bytes stored out ≡ flat_map (λ i. plant_read_after bytes stored i (lent i)) (parties (plan_of bytes))

abbrev pub Tiled : Type 0
Tiled =
    (bytes stored out : List ℕ) (lent : ℕ → List ℕ) → bench_read_answer bytes stored (length out) ≡ Ok tt
    → ((i : ℕ) → length (lent i) ≡ body_size (plan_of bytes) i)
    → Bodies bytes stored out lent

-- ---- of a record a plant's reader goes by its length, its contents and its own body alone
pub record SameReading (bytes : List ℕ) (i : ℕ) (first second out : List ℕ) : Type 0 where
  pub answer : plant_read_answer bytes first i (length out) ≡ plant_read_answer bytes second i (length out)
  pub given : plant_read_after bytes first i out ≡ plant_read_after bytes second i out

abbrev pub OwnBody : Type 0
OwnBody =
    (bytes : List ℕ) (i : ℕ) (first second out : List ℕ) → length first ≡ length second
    → take (8 * party_count (plan_of bytes)) first ≡ take (8 * party_count (plan_of bytes)) second
    → body_of (plan_of bytes) first i ≡ body_of (plan_of bytes) second i
    → SameReading bytes i first second out

-- ---- the record of P1's run of K: the contents, and the three bodies
unfoldable pub stored_k : List ℕ
stored_k =
    bytes_of
    (24 ∷ 32 ∷ 56 ∷ 32 ∷ 88 ∷ 40
    ∷ 4 ∷ 2 ∷ 1 ∷ 6 ∷ 8 ∷ 5 ∷ 5 ∷ 4
    ∷ 5 ∷ 3 ∷ 5 ∷ 8 ∷ 0 ∷ 6 ∷ 10 ∷ 0
    ∷ 7 ∷ 10 ∷ 3 ∷ 7 ∷ 4 ∷ 7 ∷ 10 ∷ 7 ∷ 4 ∷ 2
    ∷ [])

-- the same with another number in the four bytes at an offset
unfoldable pub changed : ℕ → ℕ → List ℕ
changed at number = sets stored_k at (bytes_from 4 number)

-- the answers of the writer and of the two readers, with buffers of so many bytes
unfoldable pub write_for : List ℕ → List ℕ → ℕ → ℕ
write_for figures coins room = code_of (record_answer (like_k 3 1 11 0) (bytes_of figures) (bytes_of coins) [] room)

unfoldable pub read_all : List ℕ → ℕ → ℕ
read_all stored room = code_of (bench_read_answer (like_k 3 1 11 0) stored room)

unfoldable pub read_one : List ℕ → ℕ → ℕ → ℕ
read_one stored i room = code_of (plant_read_answer (like_k 3 1 11 0) stored i room)

pub record RecordSums : Type 0 where
  pub size : record_size (plan_of (like_k 3 1 11 0)) ≡ 128
  pub written : record_after (like_k 3 1 11 0) (bytes_of inputs1) (bytes_of coins1) [] (replicate 128 9) ≡ stored_k
  pub shown : plant_read_after (like_k 3 1 11 0) stored_k 3 (replicate 40 9) ≡ bytes_of (7 ∷ 10 ∷ 3 ∷ 7 ∷ 4 ∷ 7 ∷ 10 ∷ 7 ∷ 4 ∷ 2 ∷ [])
  pub writes : write_for inputs1 coins1 128 ≡ 0
  pub short : write_for inputs1 coins1 127 ≡ 19
  pub few_coins : write_for inputs1 [] 127 ≡ 12
  pub all : read_all stored_k 104 ≡ 0
  pub one : read_one stored_k 3 40 ≡ 0
  pub room_of_record : read_all stored_k 128 ≡ 19
  pub room_of_next : read_one stored_k 2 40 ≡ 19
  pub party_0 : read_one stored_k 0 40 ≡ 9
  pub party_above : read_one stored_k 4 40 ≡ 9
  -- 28: it ends early, late, it is another plan's; bodies overlap, leave a gap, stand in another order; a length is wrong by 1, by 4, by 65,536; an
  -- offset and a length near 2^32; and it comes before 9
  pub early : read_all (take 127 stored_k) 104 ≡ 28
  pub late : read_all (stored_k ++ (0 ∷ [])) 104 ≡ 28
  pub other_plan : code_of (bench_read_answer (like_k 5 1 11 0) stored_k 104) ≡ 28
  pub overlap : read_all (changed 8 55) 104 ≡ 28
  pub gap : read_all (changed 8 57) 104 ≡ 28
  pub other_order : read_all (sets (changed 0 56) 8 (bytes_from 4 24)) 104 ≡ 28
  pub longer_by_1 : read_one (changed 4 33) 3 40 ≡ 28
  pub shorter_by_4 : read_one (changed 20 36) 3 40 ≡ 28
  pub longer_by_65536 : read_one (changed 20 65576) 3 40 ≡ 28
  pub far_offset : read_one (changed 16 4294967288) 3 40 ≡ 28
  pub far-length : read_one (changed 12 4294967288) 3 40 ≡ 28
  pub before_9 : read_one (changed 4 33) 4 40 ≡ 28
  -- a number that isn't below p is shown as it stands
  pub as-stored : plant_read_after (like_k 3 1 11 0) (changed 24 65535) 1 (replicate 32 9) ≡ bytes_of (65535 ∷ 2 ∷ 1 ∷ 6 ∷ 8 ∷ 5 ∷ 5 ∷ 4 ∷ [])
