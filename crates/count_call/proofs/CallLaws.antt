-- The rows of all settings filled, sorted and merged; and what each way through the call says of its definition.
--     rooming         the rooms of the owners and of the coins
--     table_filled    the rows as they are filled: each view, and 1
--     tallying        the rows sorted and merged are the list of views
--     calling         the call
-- Assumes nothing.
use Rattle.std.proofs.Common.{Ok, Err}
use Prim.Native.Nat.{ℕ, ◌+◌, ◌*◌, ◌/◌, ◌%◌, ◌<◌, ◌≤◌}
use mathlib.Core.Path.{◌≡◌, refl, sym, ap, ap₂, subst, ◌∙◌}
use mathlib.Core.Bool.{true}
use mathlib.Core.List.{List, [], ◌∷◌, map}
use native.Mathlib.Nat.{mul_comm, mul_assoc, mul-mod_right, mul-div_cancel_left}
use native.Mathlib.Omega.{arith}
use borrow.Author.Rules.{rules}
use borrow.Author.Tests.{lt-ltb, eqb-true}
use lib.Dec.{leb}
use lib.ListN.{length, take, drop, get_or, length-append}
use lib.Seq.{ext_get_or, get_or_at, length-take-le}
use mir.Syntax.{w8}
use mir.Val.{Fits}
use Rattle.numbers.specs.Bytes.{width, limit, numbers, bytes_of, all_below}
use Rattle.numbers.proofs.Tables.{length-tab, get_or-tab, tab-map}
use Rattle.numbers.proofs.Below.{all_below_at, all_below_more, append_below}
use Rattle.numbers.proofs.Bytes.{fits_below, numbers-length, numbers-part, numbers_of_bytes, bytes_of-numbers, length-bytes_of}
use Rattle.sharing_openings.proofs.Rows.{length_rows, row_at}
use Rattle.plan.specs.declared.Header.{Header}
use Rattle.plan.specs.Refusals.{Checked}
use Rattle.plan.specs.declared.Refusal.{Refusal}
use Rattle.plan.specs.Refusals.{and_then, first_of}
use Rattle.plan.specs.Plans.{Plan, kind_count, coin_count, coin_owners, triple_numbers}
use Rattle.plan.specs.File.{plan_checks, plan_check, plan_of}
use Rattle.plan.specs.Planned.{Planned}
use Rattle.plan.proofs.Refusals.{and_then_passed, and_then_refused, first_of-append}
use Rattle.plan.proofs.Planned.{plan_n, plan_p, plan_gates}
use Rattle.plan.proofs.Valid.{valid}
use Rattle.numbers.proofs.Truth.{both_true}
use Rattle.plan_coalition.specs.Coalitions.{members}
use Rattle.seat_messages.specs.Calls.{unless_refused}
use Rattle.run_protocol.specs.Rounds.{view, view_count}
use Rattle.count_rows.specs.Tables.{table, Whole}
use Rattle.count_rows.specs.Sorts.{sorted}
use Rattle.count_rows.specs.Merges as merges
use Rattle.count_rows.specs.Merges.{counts_of, merged}
use Rattle.count_rows.proofs.Tabled.{table_long, table-row}
use Rattle.count_laws.specs.Settings.{other_coins, setting_count, setting_coins, views_of}
use Rattle.count_laws.specs.CountCalls.{row_width, settings_ok, view_list, count_size, counting_checks, count_checks, count_answer, count_after}
use Rattle.count_laws.proofs.Joins.{unit, AllLong}
use Rattle.count_laws.proofs.Settings.{setting_long, setting_small, members_within, view_long, view_below, views-long, view-list}
use Rattle.count_laws.proofs.Owned.{few_others, few_coins}
use Rattle.count_fill.specs.Filling.{row_bytes, rows_filled, Lent}
use Rattle.count_call.specs.Counting.{counted_settings, Countable}
use Rattle.count_call.proofs.CheckLaws.{passed-countable, passed-size}

-- a plan that is counted spends no triple
module _ (plan : Plan) (set : ℕ) (inputs given : List ℕ) (c : Countable plan set inputs given) where
  no-spent : kind_count plan 7 ≡ 0
  unfolding settings_ok
  no-spent = omega (arith, eqb-true (kind_count plan 6 + kind_count plan 7) 0 (both_true (leb (setting_count plan set) 65536) _ c.counted).1)

  no-triples : triple_numbers plan ≡ 0
  unfolding triple_numbers
  no-triples = omega (arith, no-spent)

-- ---- the rooms
module _ (bs : List ℕ) (h : Header) (pl : Planned bs h) (set : ℕ) (inputs given : List ℕ) (c : Countable (plan_of bs) set inputs given) where
  coins_few : coin_count (plan_of bs) ≤ 14576
  unfolding setting_count
  coins_few =
      few_coins (plan_of bs) (valid bs pl.passes) (omega (arith, plan_n pl, pl.n-high)) (omega (arith, plan_gates pl, pl.gates-high)) set c.fits
      (few_others (plan_of bs).p (other_coins (plan_of bs) set) (omega (arith, plan_p pl, pl.p_low, pl.n_low)) c.few)

  pub owners-room : (d : List ℕ) → length d ≡ 14576 → coin_count (plan_of bs) ≤ length d
  owners-room d l = omega (arith, coins_few)

  module _ (n : ℕ) (en : n ≡ coin_count (plan_of bs)) (owners : List ℕ) (l : length owners ≡ 14576) where
    pub owners_within : n ≤ length owners
    owners_within = omega (arith, coins_few)

    pub owners-long : n ≡ length (take n owners)
    owners-long = sym (length-take-le n owners owners_within)

    pub coins_room : (d : List ℕ) → length d ≡ 58304 → width * length (take n owners) ≤ length d
    coins_room d m = omega (arith, coins_few, owners-long)

    pub all-lent : (v : ℕ) → (v ≡ view_count (plan_of bs) (members set)) × (v ≤ 1097728) → take (coin_count (plan_of bs)) owners ≡ coin_owners (plan_of bs) → Lent (plan_of bs) set inputs given (take n owners) v
    all-lent v w e = record {
      fits = c.fits;
      inputs_count = c.inputs_count;
      inputs_below = c.inputs_below;
      given_below = c.given_below;
      owned = ap (λ (k : ℕ). take k owners) en ∙ e;
      unspent = no-triples (plan_of bs) set inputs given c;
      wide = w.0;
      few = w.1;
    }

-- As it is: answers name this set, since the check leaves their goals open by `using` alone.
pub ruleset rooming = (rules, owners-room, owners_within, owners-long, coins_room, all-lent)

-- ---- the rows as they are filled
module _ (bs : List ℕ) (h : Header) (pl : Planned bs h) (set : ℕ) (inputs given : List ℕ) (c : Countable (plan_of bs) set inputs given) where
  abbrev xs : List ℕ
  xs = numbers inputs

  abbrev cs : List ℕ
  cs = numbers given

  abbrev v : ℕ
  v = view_count (plan_of bs) (members set)

  abbrev k : ℕ
  k = setting_count (plan_of bs) set

  abbrev filled : List ℕ
  filled = rows_filled (plan_of bs) set xs cs k

  seen : ℕ → List ℕ
  seen s = view (plan_of bs) (members set) xs (setting_coins (plan_of bs) set cs s) []

  some : 0 < (plan_of bs).p
  some = omega (arith, plan_p pl, pl.p_low)

  seen-long : (s : ℕ) → length (seen s) ≡ v
  unfolding seen
  seen-long s = view_long (plan_of bs) (valid bs pl.passes) (no-spent (plan_of bs) set inputs given c) set c.fits xs cs s

  unit-long : (s : ℕ) → length (unit (seen s)) ≡ v + 1
  unit-long s = length-append (seen s) (1 ∷ []) ∙ ap (λ (n : ℕ). n + 1) (seen-long s)

  unit-below : (s : ℕ) → all_below (plan_of bs).p (unit (seen s)) ≡ true
  unfolding seen all_below
  unit-below s =
      append_below (plan_of bs).p (seen s) (1 ∷ [])
      (view_below (plan_of bs) (valid bs pl.passes) (no-spent (plan_of bs) set inputs given c) xs (setting_coins (plan_of bs) set cs s) c.inputs_below
      (setting_long (plan_of bs) set cs s) (setting_small (plan_of bs) set cs s some c.given_below) (members set) (members_within (plan_of bs) set c.fits))
      (rw (lt-ltb 1 (plan_of bs).p (omega (arith, plan_p pl, pl.p_low, pl.n_low))) refl)

  row_back : (s : ℕ) → numbers (row_bytes (plan_of bs) set xs cs s) ≡ unit (seen s)
  unfolding row_bytes seen
  row_back s =
      numbers_of_bytes (unit (seen s))
      (λ i l. all_below_at limit (unit (seen s)) i (all_below_more (plan_of bs).p limit (unit (seen s)) (omega (arith, plan_p pl, pl.p-high)) (unit-below s)) l)

  row-bytes : (s : ℕ) → length (row_bytes (plan_of bs) set xs cs s) ≡ width * (v + 1)
  unfolding row_bytes seen
  row-bytes s = length-bytes_of (unit (seen s)) ∙ ap (λ (n : ℕ). width * n) (unit-long s)

  filled-long : length filled ≡ width * (v + 1) * k
  unfolding rows_filled
  filled-long = length_rows (row_bytes (plan_of bs) set xs cs) (width * (v + 1)) row-bytes k

  row-place : (s : ℕ) → width * (s * (v + 1)) ≡ width * (v + 1) * s
  row-place s = ap (λ (n : ℕ). width * n) (mul_comm s (v + 1)) ∙ sym (mul_assoc width (v + 1) s)

  row-filled : (s : ℕ) → s < k → get_or (table (v + 1) k (numbers filled)) s [] ≡ unit (seen s)
  unfolding rows_filled
  row-filled s l =
      table-row (v + 1) k (numbers filled) s l
      ∙ sym (numbers-part filled (s * (v + 1)) (v + 1))
      ∙ ap (λ (n : ℕ). numbers (take (width * (v + 1)) (drop n filled))) (row-place s)
      ∙ ap numbers (row_at (row_bytes (plan_of bs) set xs cs) (width * (v + 1)) row-bytes k s l)
      ∙ row_back s

  table_filled : table (v + 1) k (numbers filled) ≡ map unit (views_of (plan_of bs) set xs cs)
  unfolding views_of seen
  table_filled =
      ext_get_or [] (table (v + 1) k (numbers filled)) (map unit (views_of (plan_of bs) set xs cs))
      (table_long (v + 1) k (numbers filled) ∙ sym (ap length (tab-map unit seen k) ∙ length-tab (λ i. unit (seen i)) k))
      (λ s l.
      let m : s < k = omega (arith, table_long (v + 1) k (numbers filled)) in
      row-filled s m ∙ sym (ap (λ (t : List (List ℕ)). get_or t s []) (tab-map unit seen k) ∙ get_or-tab (λ i. unit (seen i)) k s [] m))

  -- ---- sorted and merged
  counts-units : (ss : List (List ℕ)) → AllLong v ss → counts_of v (map unit ss) ≡ length ss
  unfolding counts_of AllLong
  counts-units [] f = refl
  counts-units (s ∷ ss) f = omega (arith, get_or_at s 1 [] 0 v f.0, counts-units ss f.1)

  all_long : AllLong v (views_of (plan_of bs) set xs cs)
  all_long = views-long (plan_of bs) (valid bs pl.passes) (no-spent (plan_of bs) set inputs given c) set c.fits xs cs

  views-count : length (views_of (plan_of bs) set xs cs) ≡ k
  unfolding views_of
  views-count = length-tab (λ s. view (plan_of bs) (members set) xs (setting_coins (plan_of bs) set cs s) []) k

  counts-few : counts_of v (table (v + 1) k (numbers filled)) < limit
  counts-few = omega (arith, ap (counts_of v) table_filled, counts-units (views_of (plan_of bs) set xs cs) all_long, views-count, c.few)

  sorted-list : (new : List ℕ) → numbers new ≡ merges.listed (v + 1) k (merged v (sorted (table (v + 1) k (numbers filled)))) → numbers new ≡ view_list (plan_of bs) set xs cs
  unfolding row_width
  sorted-list new e =
      e ∙ ap (λ (t : List (List ℕ)). merges.listed (v + 1) k (merged v (sorted t))) table_filled
      ∙ view-list (plan_of bs) (valid bs pl.passes) (no-spent (plan_of bs) set inputs given c) set c.fits xs cs

  size-rows : count_size (plan_of bs) set ≡ width * (v + 1) * k
  unfolding count_size row_width
  size-rows = sym (mul_assoc width (v + 1) k)

  module _ (w r : ℕ) (ew : w ≡ view_count (plan_of bs) (members set)) (lw : w ≤ 1097728) (er : r ≡ counted_settings (plan_of bs) set) where
    settings-are : r ≡ k
    unfolding counted_settings
    settings-are = er ∙ rw c.counted

    rows_long : (out : List ℕ) → length out ≡ count_size (plan_of bs) set → length out ≡ width * (w + 1) * r
    rows_long out l = l ∙ size-rows ∙ ap₂ (λ (a b : ℕ). width * (a + 1) * b) (sym ew) (sym settings-are)

    pub rows-room : (out : List ℕ) → length out ≡ count_size (plan_of bs) set → length out % (width * (w + 1)) ≡ 0
    rows-room out l = ap (λ (n : ℕ). n % (width * (w + 1))) (rows_long out l) ∙ mul-mod_right (width * (w + 1)) r

    rows_filled-are : (old out : List ℕ) → length old ≡ count_size (plan_of bs) set → out ≡ rows_filled (plan_of bs) set (numbers inputs) (numbers given) (length old / (width * (w + 1))) → out ≡ filled
    rows_filled-are old out l e =
        e ∙ ap (rows_filled (plan_of bs) set xs cs)
        (ap (λ (n : ℕ). n / (width * (w + 1))) (rows_long old l) ∙ mul-div_cancel_left r {n = width * (w + 1)} (omega arith) ∙ settings-are)

    pub rows_whole : (old out : List ℕ) → length old ≡ count_size (plan_of bs) set → out ≡ rows_filled (plan_of bs) set (numbers inputs) (numbers given) (length old / (width * (w + 1)))
        → Whole (w + 1) r (numbers out)
    rows_whole old out lo e =
        let same : out ≡ filled = rows_filled-are old out lo e in
        let long : length out ≡ width * ((v + 1) * k) = ap length same ∙ filled-long ∙ mul_assoc width (v + 1) k in
        record { whole = subst (λ (n : ℕ). length (numbers out) ≡ n) (ap₂ (λ (a b : ℕ). (a + 1) * b) (sym ew) (sym settings-are)) (omega (arith, numbers-length out)) }

    pub narrow : w < limit
    narrow = omega arith

    pub rows_few : (old out : List ℕ) → length old ≡ count_size (plan_of bs) set → out ≡ rows_filled (plan_of bs) set (numbers inputs) (numbers given) (length old / (width * (w + 1)))
        → counts_of w (table (w + 1) r (numbers out)) < limit
    rows_few old out lo e =
        let same : out ≡ filled = rows_filled-are old out lo e in
        let equal : counts_of w (table (w + 1) r (numbers out)) ≡ counts_of v (table (v + 1) k (numbers filled)) =
        ap₂ (λ (a b : ℕ). counts_of a (table (a + 1) b (numbers out))) ew settings-are ∙ ap (λ (d : List ℕ). counts_of v (table (v + 1) k (numbers d))) same in
        omega (arith, equal, counts-few)

    pub rows-done :
        (old out new : List ℕ) → out ≡ rows_filled (plan_of bs) set (numbers inputs) (numbers given) (length old / (width * (w + 1))) → length old ≡ count_size (plan_of bs) set → length out ≡ length old → length new ≡ length out
        → ((i : ℕ) → Fits w8 (get_or new i 0))
        → numbers new ≡ merges.listed (w + 1) r (merged w (sorted (table (w + 1) r (numbers out))))
        → new ≡ bytes_of (view_list (plan_of bs) set (numbers inputs) (numbers given))
    unfolding count_size
    rows-done old out new e lo lout ln b x =
        let same : out ≡ filled = rows_filled-are old out lo e in
        let is : numbers new ≡ merges.listed (v + 1) k (merged v (sorted (table (v + 1) k (numbers filled)))) =
        x ∙ ap₂ (λ (a s : ℕ). merges.listed (a + 1) s (merged a (sorted (table (a + 1) s (numbers out))))) ew settings-are
        ∙ ap (λ (d : List ℕ). merges.listed (v + 1) k (merged v (sorted (table (v + 1) k (numbers d))))) same in
        sym (bytes_of-numbers (row_width (plan_of bs) set * setting_count (plan_of bs) set) new (ln ∙ lout ∙ lo) (fits_below new b))
        ∙ ap bytes_of (sorted-list new is)

-- As it is: answers name this set, since the check leaves their goals open by `using` alone.
pub ruleset tallying = (rules, rows-room, rows_whole, narrow, rows_few)

-- ---- the call
kept : (c : Checked) (r : Refusal) (new old : List ℕ) → c ≡ Err r → old ≡ unless_refused c new old
unfolding unless_refused
kept c r new old e = rw e

module _ (bs : List ℕ) (set : ℕ) (inputs coins out : List ℕ) where
  answer_parts : count_answer bs set inputs coins (length out) ≡ and_then (plan_check bs) (first_of (counting_checks (plan_of bs) set inputs coins (length out)))
  unfolding count_answer count_checks plan_check
  answer_parts = first_of-append (plan_checks bs) (counting_checks (plan_of bs) set inputs coins (length out))

  module _ (q : Refusal) (e : plan_check bs ≡ Err q) where
    no-plan : count_answer bs set inputs coins (length out) ≡ Err q
    no-plan = answer_parts ∙ and_then_refused (plan_check bs) _ q e

    pub count-no-plan : Err q ≡ count_answer bs set inputs coins (length out)
    count-no-plan = sym no-plan

    pub kept-no-plan : out ≡ count_after bs set inputs coins out
    unfolding count_after
    kept-no-plan = kept (count_answer bs set inputs coins (length out)) q _ out no-plan

  module _ (h : Header) (pl : Planned bs h) (c : Checked) (ec : c ≡ first_of (counting_checks (plan_of bs) set inputs coins (length out))) where
    past_plan : count_answer bs set inputs coins (length out) ≡ c
    past_plan = answer_parts ∙ and_then_passed (plan_check bs) _ pl.passes ∙ sym ec

    module _ (q : Refusal) (f : c ≡ Err q) where
      pub count-refused : Err q ≡ count_answer bs set inputs coins (length out)
      count-refused = sym (past_plan ∙ f)

      pub kept-refused : out ≡ count_after bs set inputs coins out
      unfolding count_after
      kept-refused = kept (count_answer bs set inputs coins (length out)) q _ out (past_plan ∙ f)

    module _ (f : c ≡ (Ok tt)) where
      pub count-done : (Ok tt) ≡ count_answer bs set inputs coins (length out)
      count-done = sym (past_plan ∙ f)

      pub count-given : Countable (plan_of bs) set inputs coins
      count-given = passed-countable (plan_of bs) set inputs coins (length out) (sym ec ∙ f)

      pub count_room : length out ≡ count_size (plan_of bs) set
      count_room = passed-size (plan_of bs) set inputs coins (length out) (sym ec ∙ f)

      pub count-written : (new : List ℕ) → new ≡ bytes_of (view_list (plan_of bs) set (numbers inputs) (numbers coins)) → new ≡ count_after bs set inputs coins out
      unfolding count_after unless_refused
      count-written new en = en ∙ rw (past_plan ∙ f)

pub ruleset calling = (rules, count-no-plan, kept-no-plan, count-refused, kept-refused, count-done, count-given, count_room, count-written)
