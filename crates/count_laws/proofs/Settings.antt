-- The settings of the others' coins.
--     setting_long, setting_small      a setting has all coins of a run, each below p
--     setting_once                     no two settings are the same
--     setting_held, setting-reached    a setting has the members' coins as given, and every list of coins that has them is one
--     view_below                       the numbers of a view are elements
--     views-long                       every view has the numbers that `view_count` says
--     view-list                        the list of views, by sorting and merging
-- Assumes nothing.
use Prim.Native.Nat.{ℕ, zero, suc, ◌+◌, ◌*◌, ◌/◌, ◌%◌, ◌^◌, ◌<◌, ◌≤◌}
use mathlib.Core.Path.{◌≡◌, refl, sym, ap, ap₂, ◌∙◌}
use mathlib.Core.Bool.{Bool, true, false, cond, not}
use mathlib.Core.List.{List, [], ◌∷◌, map}
use native.Mathlib.Nat.{mod-lt, div-add-mod', div-lt_iff_lt-mul, pow-zero, pow-suc, mod-eq_of_lt, div-eq_of_lt, add-mul-div_left, add-mul-mod_self_left, mul_comm, suc-mul, mul-le-mul_right}
use native.Mathlib.Omega.{arith}
use borrow.Author.Tests.{lt-ltb}
use lib.ListN.{length, drop, get_or}
use Rattle.numbers.specs.Tables.{tab, count_where}
use Rattle.numbers.specs.Bytes.{all_below}
use Rattle.numbers.proofs.Below.{all_below_at, all_below-drop, append_below, map_below, flat_map_below}
use Rattle.field.proofs.Solve.{canon-lt}
use Rattle.field.proofs.Inverse.{pos}
use Rattle.sharing_laws.proofs.Sums.{dot_canon}
use Rattle.sharing_laws.specs.Interp.{All, interpolate}
use Rattle.sharing_laws.specs.Sharing.{opened}
use Rattle.plan.specs.Plans.{Plan, party_count, coin_count, input_owners, coin_owners, kind_count, own_inputs, own_coins, out_wires, steps}
use Rattle.plan.proofs.Valid.{Valid}
use Rattle.plan_coalition.specs.Coalitions.{in_set, members, set_ok}
use Rattle.plan_coalition.proofs.Coalitions.{member_in, member_party, all-members}
use Rattle.run_protocol.specs.Rounds.{view, view_count}
use Rattle.run_protocol.specs.Tables.{table_mail, table_results, table_view_of}
use Rattle.run_protocol.proofs.Given.{tabled-none}
use Rattle.run_protocol.proofs.Runs.{views-table}
use Rattle.run_protocol.proofs.Below.{mail_below}
use Rattle.run_protocol.proofs.Accepted.{own_below}
use Rattle.run_protocol.proofs.ViewCounts.{view-count}
use Rattle.count_rows.specs.Sorts.{sorted}
use Rattle.count_rows.specs.Merges as merges
use Rattle.count_laws.specs.Settings.{member_coins, other_coins, setting_count, coins_from, setting_coins, held_from, held_coins, views_of}
use Rattle.count_laws.specs.CountCalls.{row_width, view_list}
use Rattle.count_laws.proofs.Joins.{unit, AllLong, listed_rows}

-- ---- as many coins as owners
long_by : (b : Bool) (x y n : ℕ) (u v : List ℕ) → length u ≡ n → length v ≡ n → length (cond b (x ∷ u) (y ∷ v)) ≡ suc n
long_by true x y n u v p q = ap suc p
long_by false x y n u v p q = ap suc q

coins_long : (p set : ℕ) (os cs : List ℕ) (k : ℕ) → length (coins_from p set os cs k) ≡ length os
unfolding coins_from
coins_long p set [] cs k = refl
coins_long p set (o ∷ os) cs k =
    long_by (in_set set o) (get_or cs 0 0) (k % p) (length os) (coins_from p set os (drop 1 cs) k) (coins_from p set os cs (k / p))
    (coins_long p set os (drop 1 cs) k) (coins_long p set os cs (k / p))

pub setting_long : (plan : Plan) (set : ℕ) (cs : List ℕ) (k : ℕ) → length (setting_coins plan set cs k) ≡ coin_count plan
unfolding setting_coins coin_count
setting_long plan set cs k = coins_long plan.p set (coin_owners plan) cs k

-- ---- below p
first_small : (p : ℕ) (cs : List ℕ) → 0 < p → all_below p cs ≡ true → get_or cs 0 0 < p
first_small p [] l h = l
first_small p (c ∷ cs) l h = all_below_at p (c ∷ cs) 0 h (omega arith)

small_by :
    (p : ℕ) (b : Bool) (x y : ℕ) (u v : List ℕ) → x < p → y < p → all_below p u ≡ true → all_below p v ≡ true → all_below p (cond b (x ∷ u) (y ∷ v)) ≡ true
unfolding all_below
small_by p true x y u v l m f g = rw (lt-ltb x p l, f)
small_by p false x y u v l m f g = rw (lt-ltb y p m, g)

coins_small : (p set : ℕ) (os cs : List ℕ) (k : ℕ) → 0 < p → all_below p cs ≡ true → all_below p (coins_from p set os cs k) ≡ true
unfolding coins_from all_below
coins_small p set [] cs k l h = refl
coins_small p set (o ∷ os) cs k l h =
    small_by p (in_set set o) (get_or cs 0 0) (k % p) (coins_from p set os (drop 1 cs) k) (coins_from p set os cs (k / p))
    (first_small p cs l h) (mod-lt k {m = p} l) (coins_small p set os (drop 1 cs) k l (all_below-drop p 1 cs h)) (coins_small p set os cs (k / p) l h)

pub setting_small : (plan : Plan) (set : ℕ) (cs : List ℕ) (k : ℕ) → 0 < plan.p → all_below plan.p cs ≡ true → all_below plan.p (setting_coins plan set cs k) ≡ true
unfolding setting_coins
setting_small plan set cs k l h = coins_small plan.p set (coin_owners plan) cs k l h

-- ---- a number for each
digits : (p j k : ℕ) → j % p ≡ k % p → j / p ≡ k / p → j ≡ k
digits p j k a b = sym (div-add-mod' j p) ∙ ap (λ (n : ℕ). n * p + j % p) b ∙ ap (λ (n : ℕ). k / p * p + n) a ∙ div-add-mod' k p

tails : (x y : ℕ) (u v : List ℕ) → x ∷ u ≡ y ∷ v → (x ≡ y) × (u ≡ v)
tails x y u v e = (cc, cc)

abbrev free : ℕ → List ℕ → ℕ
free set os = count_where (λ o. not (in_set set o)) os

once_by : (p set : ℕ) (os cs : List ℕ) (j k e : ℕ) (b : Bool) → 0 < p
    → (j < p ^ e → k < p ^ e → coins_from p set os (drop 1 cs) j ≡ coins_from p set os (drop 1 cs) k → j ≡ k)
    → (j / p < p ^ e → k / p < p ^ e → coins_from p set os cs (j / p) ≡ coins_from p set os cs (k / p) → j / p ≡ k / p)
    → j < p ^ cond (not b) (suc e) e → k < p ^ cond (not b) (suc e) e
    → cond b (get_or cs 0 0 ∷ coins_from p set os (drop 1 cs) j) (j % p ∷ coins_from p set os cs (j / p))
    ≡ cond b (get_or cs 0 0 ∷ coins_from p set os (drop 1 cs) k) (k % p ∷ coins_from p set os cs (k / p))
    → j ≡ k
once_by p set os cs j k e true o f g l m h =
    f l m (tails (get_or cs 0 0) (get_or cs 0 0) (coins_from p set os (drop 1 cs) j) (coins_from p set os (drop 1 cs) k) h).1
once_by p set os cs j k e false o f g l m h =
    let t = tails (j % p) (k % p) (coins_from p set os cs (j / p)) (coins_from p set os cs (k / p)) h in
    let x : j < p ^ e * p = rw pow-suc at l in
    let y : k < p ^ e * p = rw pow-suc at m in
    digits p j k t.0 (g ((div-lt_iff_lt-mul o).1 x) ((div-lt_iff_lt-mul o).1 y) t.1)

once : (p set : ℕ) (os cs : List ℕ) (j k : ℕ) → 0 < p → j < p ^ free set os → k < p ^ free set os → coins_from p set os cs j ≡ coins_from p set os cs k → j ≡ k
unfolding coins_from count_where
once p set [] cs j k o l m h = omega (arith, pow-zero p)
once p set (d ∷ os) cs j k o l m h =
    once_by p set os cs j k (free set os) (in_set set d) o
    (λ a b e. once p set os (drop 1 cs) j k o a b e) (λ a b e. once p set os cs (j / p) (k / p) o a b e) l m h

pub setting_once :
    (plan : Plan) (set : ℕ) (cs : List ℕ) (j k : ℕ) → 0 < plan.p → j < setting_count plan set → k < setting_count plan set
    → setting_coins plan set cs j ≡ setting_coins plan set cs k → j ≡ k
unfolding setting_coins setting_count other_coins
setting_once plan set cs j k o l m e = once plan.p set (coin_owners plan) cs j k o l m e

-- ---- the members' coins stay
held_by : (set o : ℕ) (os cs u v : List ℕ) (x : ℕ) (b : Bool) → length cs ≡ cond b (suc (count_where (in_set set) os)) (count_where (in_set set) os)
    → (length (drop 1 cs) ≡ count_where (in_set set) os → held_from set os u ≡ drop 1 cs) → (length cs ≡ count_where (in_set set) os → held_from set os v ≡ cs)
    → cond b (get_or (cond b (get_or cs 0 0 ∷ u) (x ∷ v)) 0 0 ∷ held_from set os (drop 1 (cond b (get_or cs 0 0 ∷ u) (x ∷ v)))) (held_from set os (drop 1 (cond b (get_or cs 0 0 ∷ u) (x ∷ v)))) ≡ cs
held_by set o os [] u v x true l f g = absurd (omega arith)
held_by set o os (c ∷ cs) u v x true l f g = ap (λ (r : List ℕ). c ∷ r) (f (omega arith))
held_by set o os cs u v x false l f g = g l

held_same : (p set : ℕ) (os cs : List ℕ) (k : ℕ) → length cs ≡ count_where (in_set set) os → held_from set os (coins_from p set os cs k) ≡ cs
unfolding held_from coins_from count_where
held_same p set [] [] k l = refl
held_same p set [] (c ∷ cs) k l = absurd (omega arith)
held_same p set (o ∷ os) cs k l =
    held_by set o os cs (coins_from p set os (drop 1 cs) k) (coins_from p set os cs (k / p)) (k % p) (in_set set o) l
    (λ m. held_same p set os (drop 1 cs) k m) (λ m. held_same p set os cs (k / p) m)

pub setting_held : (plan : Plan) (set : ℕ) (cs : List ℕ) (k : ℕ) → length cs ≡ member_coins plan set → held_coins plan set (setting_coins plan set cs k) ≡ cs
unfolding held_coins setting_coins member_coins
setting_held plan set cs k l = held_same plan.p set (coin_owners plan) cs k l

-- ---- every list with the members' coins is a setting: its number has the others' coins as digits
unfoldable number_from : ℕ → ℕ → List ℕ → List ℕ → ℕ
number_from p set [] c = 0
number_from p set (o ∷ os) c = cond (in_set set o) (number_from p set os (drop 1 c)) (get_or c 0 0 + p * number_from p set os (drop 1 c))

digit_low : (p x m : ℕ) → x < p → (x + p * m) % p ≡ x
digit_low p x m l = add-mul-mod_self_left x p m ∙ mod-eq_of_lt l

digit-high : (p x m : ℕ) → x < p → (x + p * m) / p ≡ m
digit-high p x m l = add-mul-div_left x m {y = p} (omega arith) ∙ omega (arith, div-eq_of_lt l)

digits_below : (p x m b : ℕ) → x < p → m < b → x + p * m < b * p
digits_below p x m b l h = omega (arith, mul-le-mul_right {m = suc m} {n = b} p h, suc-mul m p, mul_comm p m)

reached_by : (p set : ℕ) (os held : List ℕ) (x m e : ℕ) (c : List ℕ) (b : Bool) → x < p → m < p ^ e → coins_from p set os held m ≡ c
    → (cond b m (x + p * m) < p ^ cond (not b) (suc e) e)
    × (cond b (get_or (cond b (x ∷ held) held) 0 0 ∷ coins_from p set os (drop 1 (cond b (x ∷ held) held)) (cond b m (x + p * m)))
    (cond b m (x + p * m) % p ∷ coins_from p set os (cond b (x ∷ held) held) (cond b m (x + p * m) / p)) ≡ x ∷ c)
reached_by p set os held x m e c true l h q = (h, ap (λ (r : List ℕ). x ∷ r) q)
reached_by p set os held x m e c false l h q = (
  rw pow-suc (digits_below p x m (p ^ e) l h),
  ap₂ (λ (y : ℕ) (r : List ℕ). y ∷ r) (digit_low p x m l) (ap (coins_from p set os held) (digit-high p x m l) ∙ q),
)

reached : (p set : ℕ) (os c : List ℕ) → 0 < p → length c ≡ length os → all_below p c ≡ true
    → (number_from p set os c < p ^ free set os) × (coins_from p set os (held_from set os c) (number_from p set os c) ≡ c)
unfolding number_from held_from coins_from count_where
reached p set [] [] o l h = (rw pow-zero (omega arith), refl)
reached p set [] (x ∷ c) o l h = absurd (omega arith)
reached p set (d ∷ os) [] o l h = absurd (omega arith)
reached p set (d ∷ os) (x ∷ c) o l h =
    let rest = reached p set os c o (omega arith) (all_below-drop p 1 (x ∷ c) h) in
    reached_by p set os (held_from set os c) x (number_from p set os c) (free set os) c (in_set set d) (all_below_at p (x ∷ c) 0 h (omega arith)) rest.0 rest.1

pub setting-reached :
    (plan : Plan) (set : ℕ) (c : List ℕ) → 0 < plan.p → length c ≡ coin_count plan → all_below plan.p c ≡ true
    → (k : ℕ) × (k < setting_count plan set) × (setting_coins plan set (held_coins plan set c) k ≡ c)
unfolding setting_coins setting_count other_coins held_coins coin_count
setting-reached plan set c o l h =
    let r = reached plan.p set (coin_owners plan) c o l h in
    (number_from plan.p set (coin_owners plan) c, r.0, r.1)

-- ---- views
tab_long : (v : ℕ) (f : ℕ → List ℕ) (n : ℕ) → ((i : ℕ) → length (f i) ≡ v) → AllLong v (tab f n)
unfolding tab AllLong
tab_long v f zero h = tt
tab_long v f (suc n) h = (h 0, tab_long v (λ k. f (suc k)) n (λ i. h (suc i)))

pub members_within : (plan : Plan) (set : ℕ) → set_ok plan set ≡ true → All (λ i. (1 ≤ i) × (i ≤ party_count plan)) (members set)
unfolding set_ok
members_within plan set ok =
    all-members (λ i. (1 ≤ i) × (i ≤ party_count plan)) (members set)
    (λ m w. ((member_in set m w).from, member_party (party_count plan) plan.t set ok m w))

module _ (plan : Plan) (valid : Valid plan) (none : kind_count plan 7 ≡ 0) (set : ℕ) (ok : set_ok plan set ≡ true) (xs cs : List ℕ) where
  pub view_long : (k : ℕ) → length (view plan (members set) xs (setting_coins plan set cs k) []) ≡ view_count plan (members set)
  view_long k =
      view-count plan valid xs (setting_coins plan set cs k) [] [] (setting_long plan set cs k) (tabled-none plan [] none) (members set)
      (members_within plan set ok)

  pub views-long : AllLong (view_count plan (members set)) (views_of plan set xs cs)
  unfolding views_of
  views-long = tab_long (view_count plan (members set)) (λ k. view plan (members set) xs (setting_coins plan set cs k) []) (setting_count plan set) view_long

  pub view-list :
      merges.listed (row_width plan set) (setting_count plan set) (merges.merged (view_count plan (members set)) (sorted (map unit (views_of plan set xs cs))))
      ≡ view_list plan set xs cs
  unfolding view_list row_width
  view-list = listed_rows (view_count plan (members set)) (setting_count plan set) (views_of plan set xs cs) views-long

-- ---- the numbers of a view are elements
pub view_below :
    (plan : Plan) → Valid plan → kind_count plan 7 ≡ 0 → (xs coins : List ℕ) → all_below plan.p xs ≡ true → length coins ≡ coin_count plan → all_below plan.p coins ≡ true
    → (ms : List ℕ) → All (λ i. (1 ≤ i) × (i ≤ party_count plan)) ms → all_below plan.p (view plan ms xs coins []) ≡ true
unfolding table_view_of own_inputs own_coins table_results opened interpolate
view_below plan valid none xs coins small full below ms within =
    let above : 0 < plan.p = pos valid.prime in
    ap (all_below plan.p) (views-table plan valid xs coins [] [] full (tabled-none plan [] none) ms within)
    ∙ flat_map_below plan.p (table_view_of plan xs coins []) ms
    (λ i.
    append_below plan.p _ _ (own_below plan above i (input_owners plan) xs small)
    (append_below plan.p _ _ (own_below plan above i (coin_owners plan) coins below)
    (append_below plan.p _ _ (flat_map_below plan.p (table_mail plan xs coins [] i) (steps plan) (mail_below plan above xs coins [] i))
    (map_below plan.p _ (out_wires plan i) (λ w. canon-lt above (dot_canon plan.p _ _))))))
