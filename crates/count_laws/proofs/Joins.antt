-- Rows of a view and 1, sorted and merged, are the rows of the definition.
--     joined, listed_rows     as rows, and as the numbers of the list
-- Assumes nothing.
use Prim.Native.Nat.{ℕ, suc, ◌+◌, ◌-◌, ◌*◌}
use mathlib.Core.Path.{◌≡◌, refl, sym, ap, ◌∙◌}
use mathlib.Core.Bool.{Bool, true, false, cond}
use mathlib.Core.List.{List, [], ◌∷◌, ◌++◌, map, flat_map}
use native.Mathlib.Numerals.{add-one}
use lib.ListN.{length, take, replicate, length-map}
use lib.Seq.{take_at, get_or_at, set_at}
use Rattle.plan.specs.File.{same_bytes}
use Rattle.std.specs.Ordering.{is_eq}
use Rattle.count_rows.specs.Tables.{is_before, order_of}
use Rattle.count_rows.specs.Sorts.{inserted, sorted}
use Rattle.count_rows.specs.Merges as merges
use Rattle.count_rows.specs.Merges.{same_view, count_of, added, merged_from, merged, flat}
use Rattle.count_laws.specs.Rows as rows
use Rattle.count_laws.specs.Rows.{Row, row_numbers, rows_of}
use Rattle.count_laws.proofs.Orders.{before_unit, equal_same}
use Rattle.count_laws.proofs.Tallies.{row_of, tally_from, tally_of, tally-sorted}

-- a row a setting: its view's numbers, and 1
abbrev pub unit : List ℕ → List ℕ
unit s = s ++ (1 ∷ [])

unfoldable pub AllLong : ℕ → List (List ℕ) → Type 0
AllLong v [] = Unit {0}
AllLong v (s ∷ ss) = (length s ≡ v) × AllLong v ss

-- ---- sorting does not see the 1
long_by : (v : ℕ) (s r : List ℕ) (rs more : List (List ℕ)) (b : Bool) → length s ≡ v → length r ≡ v → AllLong v rs → AllLong v more → AllLong v (cond b (r ∷ more) (s ∷ (r ∷ rs)))
unfolding AllLong
long_by v s r rs more true a c f g = (c, g)
long_by v s r rs more false a c f g = (a, (c, f))

long-inserted : (v : ℕ) (s : List ℕ) (l : List (List ℕ)) → length s ≡ v → AllLong v l → AllLong v (inserted s l)
unfolding AllLong inserted
long-inserted v s [] a f = (a, tt)
long-inserted v s (r ∷ rs) a f = long_by v s r rs (inserted s rs) (is_before r s) a f.0 f.1 (long-inserted v s rs a f.1)

long-sorted : (v : ℕ) (l : List (List ℕ)) → AllLong v l → AllLong v (sorted l)
unfolding AllLong sorted
long-sorted v [] f = tt
long-sorted v (r ∷ rs) f = long-inserted v r (sorted rs) f.0 (long-sorted v rs f.1)

unit_by : (s r : List ℕ) (rs more : List (List ℕ)) (b : Bool) → cond b (unit r ∷ map unit more) (unit s ∷ (unit r ∷ map unit rs)) ≡ map unit (cond b (r ∷ more) (s ∷ (r ∷ rs)))
unit_by s r rs more true = refl
unit_by s r rs more false = refl

unit-inserted : (v : ℕ) (s : List ℕ) (l : List (List ℕ)) → length s ≡ v → AllLong v l → inserted (unit s) (map unit l) ≡ map unit (inserted s l)
unfolding inserted AllLong
unit-inserted v s [] a f = refl
unit-inserted v s (r ∷ rs) a f =
    ap (λ (b : Bool). cond b (unit r ∷ inserted (unit s) (map unit rs)) (unit s ∷ (unit r ∷ map unit rs))) (before_unit r s (f.0 ∙ sym a))
    ∙ ap (λ (u : List (List ℕ)). cond (is_before r s) (unit r ∷ u) (unit s ∷ (unit r ∷ map unit rs))) (unit-inserted v s rs a f.1)
    ∙ unit_by s r rs (inserted s rs) (is_before r s)

unit-sorted : (v : ℕ) (l : List (List ℕ)) → AllLong v l → sorted (map unit l) ≡ map unit (sorted l)
unfolding sorted AllLong
unit-sorted v [] f = refl
unit-sorted v (r ∷ rs) f = ap (inserted (unit r)) (unit-sorted v rs f.1) ∙ unit-inserted v r (sorted rs) f.0 (long-sorted v rs f.1)

-- ---- merging
module _ (v : ℕ) (x y : List ℕ) (c : ℕ) (a : length x ≡ v) (b : length y ≡ v) where
  view-same : same_view v (x ++ (c ∷ [])) (unit y) ≡ same_bytes x y
  unfolding same_view
  view-same =
      ap (λ (u : List ℕ). is_eq (order_of u (take v (unit y)))) (take_at x (c ∷ []) v a)
      ∙ ap (λ (u : List ℕ). is_eq (order_of x u)) (take_at y (1 ∷ []) v b) ∙ equal_same x y

  view-added : added v (x ++ (c ∷ [])) (unit y) ≡ x ++ (suc c ∷ [])
  unfolding added
  view-added =
      set_at x c [] (count_of v (x ++ (c ∷ [])) + count_of v (unit y)) v a
      ∙ ap (λ (n : ℕ). x ++ (n ∷ []))
      (ap (λ (n : ℕ). n + count_of v (unit y)) (get_or_at x c [] 0 v a) ∙ ap (λ (n : ℕ). c + n) (get_or_at y 1 [] 0 v b) ∙ add-one c)

merge_by : (x y : List ℕ) (c : ℕ) (ys : List Row) (zs : List Row) (b : Bool)
    → cond b (map row_numbers ys) ((x ++ (c ∷ [])) ∷ map row_numbers zs) ≡ map row_numbers (cond b ys (row_of x c ∷ zs))
unfolding row_numbers
merge_by x y c ys zs true = refl
merge_by x y c ys zs false = refl

merge_units : (v : ℕ) (x : List ℕ) (c : ℕ) (ys : List (List ℕ)) → length x ≡ v → AllLong v ys → merged_from v (x ++ (c ∷ [])) (map unit ys) ≡ map row_numbers (tally_from x c ys)
unfolding merged_from tally_from row_numbers AllLong
merge_units v x c [] a f = refl
merge_units v x c (y ∷ ys) a f =
    ap (λ (b : Bool). cond b (merged_from v (added v (x ++ (c ∷ [])) (unit y)) (map unit ys)) ((x ++ (c ∷ [])) ∷ merged_from v (unit y) (map unit ys))) (view-same v x y c a f.0)
    ∙ ap (λ (u : List (List ℕ)). cond (same_bytes x y) u ((x ++ (c ∷ [])) ∷ merged_from v (unit y) (map unit ys)))
    (ap (λ (r : List ℕ). merged_from v r (map unit ys)) (view-added v x y c a f.0) ∙ merge_units v x (suc c) ys a f.1)
    ∙ ap (λ (u : List (List ℕ)). cond (same_bytes x y) (map row_numbers (tally_from x (suc c) ys)) ((x ++ (c ∷ [])) ∷ u)) (merge_units v y 1 ys f.0 f.1)
    ∙ merge_by x y c (tally_from x (suc c) ys) (tally_from y 1 ys) (same_bytes x y)

merged_units : (v : ℕ) (l : List (List ℕ)) → AllLong v l → merged v (map unit l) ≡ map row_numbers (tally_of l)
unfolding merged tally_of AllLong
merged_units v [] f = refl
merged_units v (x ∷ xs) f = merge_units v x 1 xs f.0 f.1

pub joined : (v : ℕ) (vs : List (List ℕ)) → AllLong v vs → merged v (sorted (map unit vs)) ≡ map row_numbers (rows_of vs)
joined v vs f =
    ap (merged v) (unit-sorted v vs f) ∙ merged_units v (sorted vs) (long-sorted v vs f) ∙ ap (map row_numbers) (tally-sorted vs)

-- ---- the list
flat_rows : (rs : List Row) → flat (map row_numbers rs) ≡ flat_map row_numbers rs
unfolding flat flat_map
flat_rows [] = refl
flat_rows (r ∷ rs) = ap (λ (u : List ℕ). row_numbers r ++ u) (flat_rows rs)

pub listed_rows : (v k : ℕ) (vs : List (List ℕ)) → AllLong v vs → merges.listed (v + 1) k (merged v (sorted (map unit vs))) ≡ rows.listed k (v + 1) (rows_of vs)
unfolding merges.listed rows.listed
listed_rows v k vs f =
    let j : merged v (sorted (map unit vs)) ≡ map row_numbers (rows_of vs) = joined v vs f in
    ap (λ (u : List (List ℕ)). flat u ++ replicate ((v + 1) * (k - length u)) 0) j
    ∙ ap (λ (u : List ℕ). u ++ replicate ((v + 1) * (k - length (map row_numbers (rows_of vs)))) 0) (flat_rows (rows_of vs))
    ∙ ap (λ (n : ℕ). flat_map row_numbers (rows_of vs) ++ replicate ((v + 1) * (k - n)) 0) (length-map (rows_of vs) row_numbers)
