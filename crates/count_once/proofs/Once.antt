-- For exactly t members under the rule of versions 1 to 3 no view has two settings.
--     one-setting      two settings of coins with the same view are the same
--     views-apart      so the views of two settings of the others' coins are not
--     each-once        each view has the count 1, and there are as many as settings
--     others-power     t coins for each of the others' dealings: p to the power t times their count
-- Assumes nothing.
use mathlib.Core.Path.{◌≡◌, refl, sym, ap, ap₂, ◌∙◌}
use mathlib.Core.Logic.{◌≢◌}
use mathlib.Core.Bool.{Bool, true, false, cond, not}
use mathlib.Core.List.{List, [], ◌∷◌, map, flat_map}
use Prim.Native.Nat.{ℕ, zero, suc, ◌+◌, ◌-◌, ◌*◌, ◌%◌, ◌^◌, ◌≤◌, ◌<◌}
use native.Mathlib.Nat.{mul-zero, mul-suc, mul-add}
use native.Mathlib.Omega.{arith}
use lib.ListN.{length, get_or, replicate}
use Rattle.numbers.specs.Tables.{tab, count_where}
use Rattle.numbers.specs.Bytes.{all_below}
use Rattle.numbers.proofs.Tables.{length-tab}
use Rattle.numbers.proofs.Counts.{count_where-append}
use Rattle.field.proofs.Inverse.{pos}
use Rattle.sharing_laws.specs.Interp.{All, Distinct}
use Rattle.sharing_laws.proofs.Alls.{all_at, below_canon}
use Rattle.plan.specs.declared.Gate.{Gate}
use Rattle.plan.specs.declared.Dealing.{Dealing}
use Rattle.plan.specs.File.{same_bytes}
use Rattle.plan.specs.Plans.{Plan, party_count, point_of, kind_count, dealings_at, coin_owners_at, coin_owners, coin_count}
use Rattle.plan.specs.declared.Rule.TheVariants.{Reduction}
use Rattle.plan.proofs.Valid.{Valid}
use Rattle.plan_coalition.specs.Coalitions.{in_set, members}
use Rattle.plan_coalition.proofs.Coalitions.{Ascending, members_ascending}
use Rattle.run_protocol.specs.Rounds.{view}
use Rattle.run_protocol.specs.Shares.{start_of}
use Rattle.run_protocol.specs.Tables.{before_gate}
use Rattle.count_laws.specs.Settings.{other_coins, setting_count, setting_coins, views_of, other_dealings}
use Rattle.count_laws.specs.Rows.{Row, rows_of, times_in, counts_of, no_row}
use Rattle.count_laws.proofs.Orders.{same-eq}
use Rattle.count_laws.proofs.RightRows.{tallied}
use Rattle.count_laws.proofs.Settings.{setting_long, setting_small, setting_once, members_within}
use Rattle.count_laws.proofs.Owned.{count-replicate}
use Rattle.count_once.specs.Exact.{Exactly}
use Rattle.count_once.proofs.Dealt.{EachOf, each-dealing, coins-same}
use Rattle.count_once.proofs.Seen.{pieces-seen}

-- ---- the members' points
distinct_at : (p : ℕ) (xs : List ℕ) → Distinct p xs → (i j : ℕ) → i < j → j < length xs → get_or xs j 0 % p ≢ get_or xs i 0 % p
distinct_at p [] d i j l h = absurd (omega arith)
distinct_at p (x ∷ xs) d zero zero l h = absurd (omega arith)
distinct_at p (x ∷ xs) d zero (suc j) l h = all_at (λ y. y % p ≢ x % p) xs j d.0 (omega arith)
distinct_at p (x ∷ xs) d (suc i) zero l h = absurd (omega arith)
distinct_at p (x ∷ xs) d (suc i) (suc j) l h = distinct_at p xs d.1 i j (omega arith) (omega arith)

module _ (plan : Plan) (valid : Valid plan) where
  abbrev Party : ℕ → Type 0
  Party i = (1 ≤ i) × (i ≤ party_count plan)

  points-apart : (i j : ℕ) → 1 ≤ i → i < j → j ≤ party_count plan → point_of plan j % plan.p ≢ point_of plan i % plan.p
  unfolding point_of party_count
  points-apart i j l k h = distinct_at plan.p plan.points valid.distinct (i - 1) (j - 1) (omega arith) (omega arith)

  points-away : (i a : ℕ) (ms : List ℕ) → 1 ≤ i → i < a → Ascending a ms → All Party ms → All (λ y. y % plan.p ≢ point_of plan i % plan.p) (map (point_of plan) ms)
  points-away i a [] l k up within = tt
  points-away i a (j ∷ ms) l k up within =
      (points-apart i j l (omega (arith, up.0)) within.0.1, points-away i (suc j) ms l (omega (arith, up.0)) up.1 within.1)

  set_apart : (a : ℕ) (ms : List ℕ) → Ascending a ms → All Party ms → Distinct plan.p (map (point_of plan) ms)
  set_apart a [] up within = tt
  set_apart a (j ∷ ms) up within =
      (points-away j (suc j) ms within.0.0 (omega arith) up.1 within.1, set_apart (suc j) ms up.1 within.1)

  set-nonzero : (ms : List ℕ) → All Party ms → All (λ x. x % plan.p ≢ 0) (map (point_of plan) ms)
  unfolding point_of party_count
  set-nonzero [] within = tt
  set-nonzero (j ∷ ms) within = (all_at (λ x. x % plan.p ≢ 0) plan.points (j - 1) valid.nonzero (omega (arith, within.0.0, within.0.1)), set-nonzero ms within.1)

  -- ---- a set of exactly t members
  module _ (rule : plan.rule ≡ Reduction) (spent : kind_count plan 7 ≡ 0) (set : ℕ) (exact : Exactly plan set) where
    pub one-setting :
        (xs c d : List ℕ) → length c ≡ coin_count plan → all_below plan.p c ≡ true → length d ≡ coin_count plan → all_below plan.p d ≡ true
        → view plan (members set) xs c [] ≡ view plan (members set) xs d [] → c ≡ d
    unfolding coin_count coin_owners start_of before_gate
    one-setting xs c d lc bc ld bd e =
        let within = members_within plan set exact.fits in
        coins-same plan valid.prime (members set) exact.count (set_apart 1 (members set) (members_ascending set) within) (set-nonzero (members set) within) rule
        plan.gates (start_of xs c []) (start_of xs d []) refl refl refl lc ld (below_canon plan.p c bc) (below_canon plan.p d bd)
        (pieces-seen plan valid rule spent (members set) within xs c d lc ld e)

    pub views-apart :
        (xs cs : List ℕ) → all_below plan.p cs ≡ true → (j k : ℕ) → j < setting_count plan set → k < setting_count plan set
        → view plan (members set) xs (setting_coins plan set cs j) [] ≡ view plan (members set) xs (setting_coins plan set cs k) [] → j ≡ k
    views-apart xs cs small j k l m e =
        setting_once plan set cs j k (pos valid.prime) l m
        (one-setting xs (setting_coins plan set cs j) (setting_coins plan set cs k) (setting_long plan set cs j) (setting_small plan set cs j (pos valid.prime) small)
        (setting_long plan set cs k) (setting_small plan set cs k (pos valid.prime) small) e)

-- ---- rows of views that are all apart
none_same : (v : List ℕ) (f : ℕ → List ℕ) (n : ℕ) → ((k : ℕ) → k < n → same_bytes v (f k) ≡ true → ⊥) → count_where (same_bytes v) (tab f n) ≡ 0
unfolding count_where tab
none_same v f zero h = refl
none_same v f (suc n) h = by (same_bytes v (f 0)) refl (none_same v (λ k. f (suc k)) n (λ k l. h (suc k) (omega arith)))
  where
    by : (b : Bool) → same_bytes v (f 0) ≡ b → count_where (same_bytes v) (tab (λ k. f (suc k)) n) ≡ 0
        → cond b (suc (count_where (same_bytes v) (tab (λ k. f (suc k)) n))) (count_where (same_bytes v) (tab (λ k. f (suc k)) n)) ≡ 0
    by true e r = absurd (h 0 (omega arith) e)
    by false e r = r

at_most_once : (v : List ℕ) (f : ℕ → List ℕ) (n : ℕ) → ((j k : ℕ) → j < n → k < n → f j ≡ f k → j ≡ k) → count_where (same_bytes v) (tab f n) ≤ 1
unfolding count_where tab
at_most_once v f zero h = omega arith
at_most_once v f (suc n) h =
    by (same_bytes v (f 0)) refl
    (λ e. none_same v (λ k. f (suc k)) n (λ k l q. let z : 0 ≡ suc k = h 0 (suc k) (omega arith) (omega arith) (sym (same-eq v (f 0) e) ∙ same-eq v (f (suc k)) q) in omega arith))
    (at_most_once v (λ k. f (suc k)) n (λ j k l m e. let q : suc j ≡ suc k = h (suc j) (suc k) (omega arith) (omega arith) e in omega arith))
  where
    by : (b : Bool) → same_bytes v (f 0) ≡ b → (same_bytes v (f 0) ≡ true → count_where (same_bytes v) (tab (λ k. f (suc k)) n) ≡ 0)
        → count_where (same_bytes v) (tab (λ k. f (suc k)) n) ≤ 1
        → cond b (suc (count_where (same_bytes v) (tab (λ k. f (suc k)) n))) (count_where (same_bytes v) (tab (λ k. f (suc k)) n)) ≤ 1
    by true e none r = omega (arith, none e)
    by false e none r = r

ones_sum : (rs : List Row) → ((i : ℕ) → i < length rs → (get_or rs i no_row).count ≡ 1) → counts_of rs ≡ length rs
unfolding counts_of
ones_sum [] h = refl
ones_sum (r ∷ rs) h = omega (arith, h 0 (omega arith), ones_sum rs (λ i l. h (suc i) (omega arith)))

module _ (f : ℕ → List ℕ) (n : ℕ) (apart : (j k : ℕ) → j < n → k < n → f j ≡ f k → j ≡ k) where
  each-one : (i : ℕ) → i < length (rows_of (tab f n)) → (get_or (rows_of (tab f n)) i no_row).count ≡ 1
  unfolding times_in
  each-one i l =
      let r = (tallied (tab f n)).right i l in
      omega (arith, r.0, r.1, at_most_once (get_or (rows_of (tab f n)) i no_row).seen f n apart)

  all_rows : length (rows_of (tab f n)) ≡ n
  all_rows = sym (ones_sum (rows_of (tab f n)) each-one) ∙ (tallied (tab f n)).sum ∙ length-tab f n

-- ---- the others' coins by their dealings
dealings_coins : (t : ℕ) (f : ℕ → Bool) (ds : List Dealing) → EachOf t ds → count_where f (flat_map (λ d. replicate d.coins d.dealer) ds) ≡ t * count_where (λ d. f d.dealer) ds
unfolding EachOf flat_map count_where
dealings_coins t f [] each = sym (mul-zero t)
dealings_coins t f (d ∷ ds) each =
    count_where-append f (replicate d.coins d.dealer) (flat_map (λ d. replicate d.coins d.dealer) ds)
    ∙ ap₂ ◌+◌ (count-replicate f d.coins d.dealer ∙ ap (λ (k : ℕ). k * cond (f d.dealer) 1 0) each.0) (dealings_coins t f ds each.1)
    ∙ by (f d.dealer) (count_where (λ d. f d.dealer) ds)
  where
    by : (b : Bool) (m : ℕ) → t * cond b 1 0 + t * m ≡ t * cond b (suc m) m
    by true m = omega (arith, mul-suc t m)
    by false m = omega arith

module _ (plan : Plan) (rule : plan.rule ≡ Reduction) (set : ℕ) where
  gates-coins :
      (gs : List Gate)
      → count_where (λ o. not (in_set set o)) (flat_map (coin_owners_at plan) gs) ≡ plan.t * count_where (λ d. not (in_set set d.dealer)) (flat_map (dealings_at plan) gs)
  unfolding flat_map count_where coin_owners_at
  gates-coins [] = sym (mul-zero plan.t)
  gates-coins (x ∷ gs) =
      count_where-append (λ o. not (in_set set o)) (coin_owners_at plan x) (flat_map (coin_owners_at plan) gs)
      ∙ ap₂ ◌+◌ (dealings_coins plan.t (λ o. not (in_set set o)) (dealings_at plan x) (each-dealing plan rule x)) (gates-coins gs)
      ∙ sym (ap (λ (n : ℕ). plan.t * n) (count_where-append (λ d. not (in_set set d.dealer)) (dealings_at plan x) (flat_map (dealings_at plan) gs))
      ∙ mul-add plan.t (count_where (λ d. not (in_set set d.dealer)) (dealings_at plan x)) (count_where (λ d. not (in_set set d.dealer)) (flat_map (dealings_at plan) gs)))

  pub others-power : setting_count plan set ≡ plan.p ^ (plan.t * other_dealings plan set)
  unfolding setting_count other_coins other_dealings coin_owners
  others-power = ap (λ (e : ℕ). plan.p ^ e) (gates-coins plan.gates)

-- ---- each view once
module _ (plan : Plan) (valid : Valid plan) (rule : plan.rule ≡ Reduction) (spent : kind_count plan 7 ≡ 0) (set : ℕ) (exact : Exactly plan set) (xs cs : List ℕ)
    (small : all_below plan.p cs ≡ true) where
  apart : (j k : ℕ) → j < setting_count plan set → k < setting_count plan set
      → view plan (members set) xs (setting_coins plan set cs j) [] ≡ view plan (members set) xs (setting_coins plan set cs k) [] → j ≡ k
  apart = views-apart plan valid rule spent set exact xs cs small

  pub once-each : (i : ℕ) → i < length (rows_of (views_of plan set xs cs)) → (get_or (rows_of (views_of plan set xs cs)) i no_row).count ≡ 1
  unfolding views_of
  once-each = each-one (λ k. view plan (members set) xs (setting_coins plan set cs k) []) (setting_count plan set) apart

  pub once-all : length (rows_of (views_of plan set xs cs)) ≡ plan.p ^ (plan.t * other_dealings plan set)
  unfolding views_of
  once-all = all_rows (λ k. view plan (members set) xs (setting_coins plan set cs k) []) (setting_count plan set) apart ∙ others-power plan rule set
