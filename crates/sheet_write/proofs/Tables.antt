-- The table of names.
--     fresh_table, long_table          an empty one, and its length
--     table_hold, table_place          a name held, and found
--     table_count, table_inputs        how many, and their input gates
-- Assumes nothing.
use Prim.Native.Nat.{ℕ, zero, suc, ◌-◌, ◌/◌, ◌<◌, ◌≤◌}
use mathlib.Core.Path.{◌≡◌, refl, sym, ap, ◌∙◌}
use mathlib.Core.Bool.{Bool, true, false, cond}
use mathlib.Core.List.{List, [], ◌∷◌}
use native.Mathlib.Omega.{arith}
use borrow.Author.Tests.{ne_eqb, eqb-true, leb-true, leb-false}
use lib.Dec.{eqb, leb, eqb-suc-suc}
use lib.ListN.{length, get_or, set, replicate}
use Rattle.numbers.proofs.Tables.{is-tab}
use Rattle.plan.specs.declared.Gate.TheVariants.{Input}
use Rattle.sheet_text.specs.Trees.{party_of, name_index, with_name, input_gates}
use Rattle.sheet_text.proofs.Formula.{inputs_long}
use Rattle.sheet_read.specs.Working.{free_or}
use Rattle.sheet_write.specs.Passes.{table_of, inputs_in, up_to}

pub fresh_table : (m : ℕ) → replicate m 0 ≡ table_of m []
unfolding table_of
fresh_table zero = refl
fresh_table (suc m) = ap (λ (l : List ℕ). 0 ∷ l) (fresh_table m)

pub long_table : (m : ℕ) (ns : List ℕ) → length (table_of m ns) ≡ m
unfolding table_of
long_table zero ns = refl
long_table (suc m) [] = ap suc (long_table m [])
long_table (suc m) (x ∷ ns) = ap suc (long_table m ns)

-- a name held in the table is a name with which the list goes on
pub table_hold : (m x : ℕ) (ns : List ℕ) → set (table_of m ns) (free_or (suc x) (table_of m ns)) (suc x) ≡ table_of m (with_name x ns)
unfolding table_of free_or with_name
table_hold zero x ns = refl
table_hold (suc m) x [] = rw (ne_eqb 0 (suc x) (λ e. omega (arith, e)))
table_hold (suc m) x (y ∷ ns) = by (eqb y x) refl (table_hold m x ns)
  where
    by : (t : Bool) → eqb y x ≡ t → set (table_of m ns) (free_or (suc x) (table_of m ns)) (suc x) ≡ table_of m (with_name x ns)
        → set (suc y ∷ table_of m ns) (cond (eqb (suc y) (suc x)) 0 (cond (eqb (suc y) 0) 0 (suc (free_or (suc x) (table_of m ns))))) (suc x) ≡ suc y ∷ table_of m (cond t ns (with_name x ns))
    by true e h = rw (eqb-suc-suc y x, e) (ap (λ (k : ℕ). suc k ∷ table_of m ns) (sym (eqb-true y x e)))
    by false e h = rw (eqb-suc-suc y x, e, ne_eqb (suc y) 0 (λ q. omega (arith, q))) (ap (λ (l : List ℕ). suc y ∷ l) h)

-- a name that is there is found, and holding it changes nothing
pub table_place : (m x : ℕ) (ns : List ℕ) → name_index x ns < length ns → length ns ≤ m → free_or (suc x) (table_of m ns) ≡ name_index x ns
unfolding table_of free_or name_index
table_place m x [] h l = absurd (omega arith)
table_place zero x (y ∷ ns) h l = absurd (omega arith)
table_place (suc m) x (y ∷ ns) h l = by (eqb y x) refl h (λ i. table_place m x ns i (omega arith))
  where
    by : (t : Bool) → eqb y x ≡ t → cond t 0 (suc (name_index x ns)) < suc (length ns) → (name_index x ns < length ns → free_or (suc x) (table_of m ns) ≡ name_index x ns)
        → cond (eqb (suc y) (suc x)) 0 (cond (eqb (suc y) 0) 0 (suc (free_or (suc x) (table_of m ns)))) ≡ cond t 0 (suc (name_index x ns))
    by true e i f = rw (eqb-suc-suc y x, e)
    by false e i f = rw (eqb-suc-suc y x, e, ne_eqb (suc y) 0 (λ q. omega (arith, q))) (ap suc (f (omega arith)))

pub with_same : (x : ℕ) (ns : List ℕ) → name_index x ns < length ns → with_name x ns ≡ ns
unfolding name_index with_name
with_same x [] h = absurd (omega arith)
with_same x (y ∷ ns) h = ap (λ (l : List ℕ). y ∷ l) (by (eqb y x) h (λ i. with_same x ns i))
  where
    by : (t : Bool) → cond t 0 (suc (name_index x ns)) < suc (length ns) → (name_index x ns < length ns → with_name x ns ≡ ns) → cond t ns (with_name x ns) ≡ ns
    by true i f = refl
    by false i f = f (omega arith)

-- ---- how many
count_few : (m : ℕ) (ns : List ℕ) → length ns ≤ m → free_or 0 (table_of m ns) ≡ length ns
unfolding table_of free_or
count_few zero [] l = refl
count_few zero (y ∷ ns) l = absurd (omega arith)
count_few (suc m) [] l = refl
count_few (suc m) (y ∷ ns) l = rw (ne_eqb (suc y) 0 (λ q. omega (arith, q))) (ap suc (count_few m ns (omega arith)))

count_many : (m : ℕ) (ns : List ℕ) → m < length ns → free_or 0 (table_of m ns) ≡ m
unfolding table_of free_or
count_many zero ns l = refl
count_many (suc m) [] l = absurd (omega arith)
count_many (suc m) (y ∷ ns) l = rw (ne_eqb (suc y) 0 (λ q. omega (arith, q))) (ap suc (count_many m ns (omega arith)))

pub table_count : (ns : List ℕ) → free_or 0 (table_of 1025 ns) ≡ up_to (length ns)
unfolding up_to
table_count ns = by (leb (length ns) 1025) refl
  where
    by : (t : Bool) → leb (length ns) 1025 ≡ t → free_or 0 (table_of 1025 ns) ≡ cond t (length ns) 1025
    by true e = count_few 1025 ns (leb-true (length ns) 1025 e)
    by false e = count_many 1025 ns (leb-false (length ns) 1025 e)

-- ---- their input gates
table_at : (m i : ℕ) (ns : List ℕ) → i < length ns → length ns ≤ m → get_or (table_of m ns) i 0 ≡ suc (get_or ns i 0)
unfolding table_of
table_at m i [] h l = absurd (omega arith)
table_at zero i (y ∷ ns) h l = absurd (omega arith)
table_at (suc m) zero (y ∷ ns) h l = refl
table_at (suc m) (suc i) (y ∷ ns) h l = table_at m i ns (omega arith) (omega arith)

inputs_at : (i : ℕ) (ns : List ℕ) → i < length ns → get_or (input_gates ns) i (Input 0) ≡ Input (party_of (get_or ns i 0))
unfolding input_gates
inputs_at i [] h = absurd (omega arith)
inputs_at zero (y ∷ ns) h = refl
inputs_at (suc i) (y ∷ ns) h = inputs_at i ns (omega arith)

pub table_inputs : (m : ℕ) (ns : List ℕ) → length ns ≤ m → inputs_in (length ns) (table_of m ns) ≡ input_gates ns
unfolding inputs_in
table_inputs m ns l =
    sym (is-tab (λ i. Input ((get_or (table_of m ns) i 0 - 1) / 256)) (length ns) (input_gates ns) (Input 0) (inputs_long ns)
    (λ i h. inputs_at i ns h ∙ (unfold party_of in rw (table_at m i ns h l) (ap (λ (k : ℕ). Input (k / 256)) (one i)))))
  where
    one : (i : ℕ) → get_or ns i 0 ≡ suc (get_or ns i 0) - 1
    one i = omega arith
