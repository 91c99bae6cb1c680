-- The triples that a run leaves, read off its table of shares.
--     left_rows                   they are all parties' shares of all wires
--     columns_left                so are the columns of the table
--     columning, columning_all    what closes the needs of the loops that write one column, and all
--     leaving                     of the whole
-- Assumes nothing.
use mathlib.Core.Path.{◌≡◌, refl, sym, ap, ap₂, ◌∙◌}
use mathlib.Core.List.{List, [], ◌++◌, map, flat_map}
use Prim.Native.Nat.{ℕ, zero, suc, ◌+◌, ◌-◌, ◌*◌, ◌^◌, ◌<◌, ◌≤◌}
use native.Mathlib.Nat.{mul-le-mul}
use native.Mathlib.Omega.{arith}
use borrow.Author.Rules.{rules}
use lib.ListN.{length, take, drop, get_or}
use mir.Syntax.{w64}
use mir.Val.{Fits}
use Rattle.numbers.specs.Tables.{tab}
use Rattle.numbers.specs.Bytes.{width, numbers, bytes_of, stored}
use Rattle.numbers.proofs.Tables.{tab-snoc, tab-ext, list-tab, tab-map, row_room}
use Rattle.numbers.proofs.Bytes.{numbers-length, bytes_of-append}
use Rattle.numbers.proofs.Rows.{flat-snoc}
use Rattle.numbers.proofs.Fills.{Stored, store-none-whole, store-next, stored-all}
use Rattle.sharing_laws.specs.Sharing.{rows_of as rows_by}
use Rattle.sharing_laws.proofs.Lists.{flat_map-map, flat_map-all}
use Rattle.sharing_openings.proofs.Rows.{Written, none_written, room, piece_long, written_next, written_done}
use Rattle.plan.specs.declared.Header.{Header}
use Rattle.plan.specs.Plans.{Plan, party_count, parties, point_of, kind_count, coin_count, last_call}
use Rattle.plan.specs.File.{plan_of}
use Rattle.plan.specs.Planned.{Planned}
use Rattle.plan.proofs.Planned.{plan_n}
use Rattle.plan.proofs.Parties.{each-party}
use Rattle.plan.proofs.Valid.{Valid, valid}
use Rattle.seat_messages.specs.Messages.{Called}
use Rattle.seat_messages.proofs.PointLaws.{plan_points_long}
use Rattle.run_protocol.specs.Rounds.{at_end, triples_from}
use Rattle.run_protocol.specs.Shares.{wire_at, share_table}
use Rattle.run_protocol.specs.Tables.{Tabled}
use Rattle.run_protocol.proofs.Given.{tabled-none}
use Rattle.run_protocol.proofs.Runs.{call_is, run-calls, run_call, triples-table}
use Rattle.run_dealings.specs.Rows.{rows_of, Given}
use Rattle.run_tables.proofs.GateLaws.{wires-count, entry-of-wire}
use Rattle.run_tables.proofs.StepLaws.{placing}
use Rattle.match_prepared.specs.MatchingParts.{share_at, column_of, columns_of}

-- ---- the triples are all parties' shares
module _ (plan : Plan) (ok : Valid plan) (none : kind_count plan 7 ≡ 0) (draws coins : List ℕ) (full : length coins ≡ coin_count plan) where
  -- party i's shares of all wires
  row : ℕ → List ℕ
  row i = map (λ f. f (point_of plan i)) (share_table plan draws coins [])

  tabled : Tabled plan [] []
  tabled = tabled-none plan [] none

  row-left : (i : ℕ) → 1 ≤ i → i ≤ party_count plan → drop 1 (call_is plan ok draws coins [] [] full tabled (last_call plan) i).state ≡ row i
  unfolding row at_end
  row-left i from1 upto =
      ap (λ (c : Called). drop 1 c.state) (sym (run_call plan ok draws coins [] [] full tabled (last_call plan) (omega arith) i from1 upto))
      ∙ triples-table plan ok draws coins [] [] full tabled i from1 upto

  pub left_rows : triples_from plan draws coins ≡ flat_map (λ i. map (λ f. f (point_of plan i)) (share_table plan draws coins [])) (tab suc (party_count plan))
  unfolding triples_from at_end parties row
  left_rows =
      let left : Called → List ℕ = λ c. drop 1 c.state in
      ap (flat_map left) (run-calls plan ok draws coins [] [] full tabled (last_call plan) (omega arith))
      ∙ flat_map-map left (call_is plan ok draws coins [] [] full tabled (last_call plan)) (parties plan)
      ∙ flat_map-all (λ i. left (call_is plan ok draws coins [] [] full tabled (last_call plan) i)) row (parties plan)
      (each-party plan (λ i. left (call_is plan ok draws coins [] [] full tabled (last_call plan) i) ≡ row i) row-left)

-- ---- the columns of the table
flat_tabs : (F G : ℕ → List ℕ) (f g : ℕ → ℕ) (n : ℕ) → ((k : ℕ) → k < n → F (f k) ≡ G (g k)) → flat_map F (tab f n) ≡ flat_map G (tab g n)
unfolding flat_map tab
flat_tabs F G f g zero e = refl
flat_tabs F G f g (suc n) e = ap₂ ◌++◌ (e 0 (omega arith)) (flat_tabs F G (λ k. f (suc k)) (λ k. g (suc k)) n (λ k l. e (suc k) (omega arith)))

module _ (bs : List ℕ) (h : Header) (pl : Planned bs h) (env : List (ℕ → ℕ)) (table : List ℕ) (fits : h.n * h.gates ≤ length table)
    (is : take (h.n * h.gates) table ≡ rows_of (plan_of bs).points env) where
  column-is : (d : ℕ) → d < h.n → column_of h.n table h.gates d ≡ map (λ f. f (get_or (plan_of bs).points d 0)) env
  unfolding column_of share_at wire_at
  column-is d l =
      let ps : List ℕ = (plan_of bs).points in
      let long : length ps ≡ h.n = plan_points_long bs h pl in
      let count : length env ≡ h.gates = wires-count ps h.n long pl.n_low table h.gates fits env is in
      tab-ext (λ w. get_or table (h.n * w + d) 0) (λ w. wire_at env w (get_or ps d 0)) h.gates (λ w m. entry-of-wire ps h.n long pl.n_low table h.gates fits env is w d m l)
      ∙ ap (tab (λ w. wire_at env w (get_or ps d 0))) (sym count)
      ∙ sym (tab-map (λ (f : ℕ → ℕ). f (get_or ps d 0)) (λ w. get_or env w (λ x. 0)) (length env))
      ∙ ap (map (λ (f : ℕ → ℕ). f (get_or ps d 0))) (sym (list-tab env (λ x. 0)))

  columns-are : columns_of h.n table h.gates ≡ flat_map (λ i. map (λ f. f (point_of (plan_of bs) i)) env) (tab suc (party_count (plan_of bs)))
  unfolding columns_of point_of
  columns-are =
      flat_tabs (column_of h.n table h.gates) (λ i. map (λ f. f (get_or (plan_of bs).points (i - 1) 0)) env) (λ d. d) suc h.n
      (λ d l. let e : d ≡ suc d - 1 = omega arith in column-is d l ∙ ap (λ (k : ℕ). map (λ (f : ℕ → ℕ). f (get_or (plan_of bs).points k 0)) env) e)
      ∙ ap (λ (n : ℕ). flat_map (λ i. map (λ f. f (get_or (plan_of bs).points (i - 1) 0)) env) (tab suc n)) (sym (plan_n pl))

module _ (bs : List ℕ) (h : Header) (pl : Planned bs h) (none : kind_count (plan_of bs) 7 ≡ 0) (inputs coins : List ℕ) (given : Given (plan_of bs) inputs coins [])
    (table : List ℕ) (size : length table ≡ 15360) where
  pub table-room : h.n * h.gates ≤ length table
  table-room = omega (arith, mul-le-mul {n₁ = h.n} {m₁ = h.gates} {n₂ = 15} {m₂ = 1024} pl.n-high pl.gates-high)

  pub columns_left :
      ((tf : List (ℕ → ℕ)) → Tabled (plan_of bs) (numbers []) tf → take (h.n * h.gates) table ≡ rows_of (plan_of bs).points (share_table (plan_of bs) (numbers inputs) (numbers coins) tf))
      → (out : List ℕ) → out ≡ bytes_of (columns_of h.n table h.gates) → out ≡ bytes_of (triples_from (plan_of bs) (numbers inputs) (numbers coins))
  columns_left filled out e =
      e
      ∙ ap bytes_of
      (columns-are bs h pl (share_table (plan_of bs) (numbers inputs) (numbers coins) []) table table-room (filled [] (tabled-none (plan_of bs) (numbers []) none))
      ∙ sym (left_rows (plan_of bs) (valid bs pl.passes) none (numbers inputs) (numbers coins) (numbers-length coins ∙ omega (arith, given.coins_count))))

pub ruleset leaving = (placing, table-room, columns_left)

-- ---- the loop that writes one column
module _ (table : List ℕ) (n gates d : ℕ) where
  pub column-none : (out : List ℕ) → length out ≡ width * gates → Stored (share_at n table d) gates out out 0
  column-none out e = store-none-whole (share_at n table d) gates out e

  module _ (w : ℕ) (l : w < gates) (m : d < n) (fits : n * gates ≤ length table) where
    pub share-within : n * w + d < length table
    share-within = omega (arith, row_room n w gates l)

    pub share-fits : length table * 8 < 2 ^ 63 → Fits w64 (n * w + d)
    share-fits f = record { fits = omega (arith, row_room n w gates l) }

    pub row-fits : length table * 8 < 2 ^ 63 → Fits w64 (n * w)
    row-fits f = record { fits = omega (arith, row_room n w gates l) }

    pub place-fits : length table * 8 < 2 ^ 63 → Fits w64 ((n * w + d) * 8)
    place-fits f = record { fits = omega (arith, row_room n w gates l) }

  module _ (out₀ out : List ℕ) (w : ℕ) (s : Stored (share_at n table d) gates out₀ out w) where
    pub column-next : (new : List ℕ) → w < gates → new ≡ stored out w (get_or table (n * w + d) 0) → Stored (share_at n table d) gates out₀ new (w + 1)
    unfolding share_at
    column-next new l e = store-next (share_at n table d) gates out₀ out w s (get_or table (n * w + d) 0) new l refl e

    pub column-done : gates ≤ w → length out₀ ≡ width * gates → out ≡ bytes_of (column_of n table gates d)
    unfolding column_of
    column-done l e = stored-all (share_at n table d) gates out₀ out w s l e

    pub column-long : length out ≡ length out₀
    column-long = s.long

pub ruleset columning = (rules, column-none, share-within, share-fits, row-fits, place-fits, column-next, column-done, column-long)

-- ---- the loop over the parties
rows-none : (F : ℕ → List ℕ) → [] ≡ bytes_of (flat_map F (tab (λ d. d) 0))
unfolding flat_map tab bytes_of
rows-none F = refl

rows-bytes : (F : ℕ → List ℕ) (n : ℕ) → rows_by (λ d. bytes_of (F d)) n ≡ bytes_of (flat_map F (tab (λ d. d) n))
unfolding rows_by
rows-bytes F zero = rows-none F
rows-bytes F (suc n) =
    ap (λ (l : List ℕ). l ++ bytes_of (F n)) (rows-bytes F n)
    ∙ sym (bytes_of-append (flat_map F (tab (λ d. d) n)) (F n))
    ∙ ap bytes_of (sym (ap (flat_map F) (tab-snoc (λ d. d) n) ∙ flat-snoc F (tab (λ d. d) n) n))

-- party d's column as bytes
abbrev pub column_bytes : ℕ → List ℕ → ℕ → ℕ → List ℕ
column_bytes n table gates d = bytes_of (column_of n table gates d)

pub size-fits : (gates : ℕ) → gates ≤ 1024 → Fits w64 (width * gates)
size-fits gates l = record { fits = omega arith }

pub columns-none : (n : ℕ) (table : List ℕ) (gates : ℕ) (out : List ℕ) → length out ≡ width * gates * n → Written (column_bytes n table gates) (width * gates) n out out 0
columns-none n table gates out e = none_written (column_bytes n table gates) (width * gates) n out e

module _ (n : ℕ) (table : List ℕ) (gates : ℕ) (out₀ out : List ℕ) (d : ℕ) (h : Written (column_bytes n table gates) (width * gates) n out₀ out d) where
  pub column_start : d < n → length out₀ < 2 ^ 64 → Fits w64 (width * gates * d)
  column_start l f = record { fits = omega (arith, room h l, h.long) }

  pub column_end : d < n → length out₀ < 2 ^ 64 → Fits w64 (width * gates * d + width * gates)
  column_end l f = record { fits = omega (arith, room h l, h.long) }

  pub column_here : d < n → width * gates * d + width * gates ≤ length out
  column_here l = room h l

  pub column_sized : d < n → length (take (width * gates * d + width * gates - width * gates * d) (drop (width * gates * d) out)) ≡ width * gates
  column_sized l = piece_long h l

  pub columns_next :
      (ys : List ℕ) → d < n → length ys ≡ length (take (width * gates * d + width * gates - width * gates * d) (drop (width * gates * d) out)) → ys ≡ bytes_of (column_of n table gates d)
      → Written (column_bytes n table gates) (width * gates) n out₀
      (take (width * gates * d) out ++ (ys ++ drop (width * gates * d + width * gates - width * gates * d) (drop (width * gates * d) out))) (d + 1)
  columns_next ys l kept e = written_next h l ys kept e

  pub columns_done : n ≤ d → out ≡ bytes_of (columns_of n table gates)
  unfolding columns_of
  columns_done l = written_done (column_bytes n table gates) (width * gates) n out₀ out d l h ∙ rows-bytes (column_of n table gates) n

pub ruleset columning_all = (rules, size-fits, columns-none, column_start, column_end, column_here, column_sized, columns_next, columns_done)
