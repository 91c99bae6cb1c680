-- The two passes over a sheet: the table of names, the counts, and what the second pass asks.
use Rattle.std.specs.Prelude.{Option, Some, None, ℕ, zero, suc, ◌+◌, ◌-◌, ◌/◌, ◌<◌, ◌≤◌, ◌≡◌, true, false, cond, List, [], ◌∷◌, leb, length, get_or}
use Rattle.numbers.specs.Tables.{tab}
use Rattle.plan.specs.declared.Gate.{Gate}
use Rattle.plan.specs.declared.Gate.TheVariants.{Input}
use Rattle.sheet_text.specs.Trees.{names_of, gate_count}
use Rattle.sheet_text.specs.Making.{sheet_tree, sheet_ok, tree_made}
use Rattle.sheet_write.specs.declared.Counts.{Counts}

-- a table of m numbers that holds names, each with 1 added, and 0 where there is none
unfoldable pub table_of : ℕ → List ℕ → List ℕ
table_of zero names = []
table_of (suc m) [] = 0 ∷ table_of m []
table_of (suc m) (x ∷ names) = suc x ∷ table_of m names

-- the input gates of the first k names of a table
unfoldable pub inputs_in : ℕ → List ℕ → List Gate
inputs_in k names = tab (λ i. Input ((get_or names i 0 - 1) / 256)) k

-- a count that stops at 1,025
unfoldable pub up_to : ℕ → ℕ
up_to k = cond (leb k 1025) k 1025

-- ---- the first pass: refusal 27, and the counts of inputs and of all gates
unfoldable pub SurveyIs : ℕ → ℕ → List ℕ → Option Counts → List ℕ → Type 0
SurveyIs n p s (Some c) names = record {
  ok : sheet_ok n p s ≡ true;
  inputs_are : c.inputs ≡ up_to (length (names_of (sheet_tree n p s)));
  gates_are : c.gates ≡ c.inputs + up_to (gate_count (sheet_tree n p s));
  table : names ≡ table_of 1025 (names_of (sheet_tree n p s));
}
SurveyIs n p s None names = sheet_ok n p s ≡ false

pub record Surveyed (n p : ℕ) (s : List ℕ) (r : Option Counts) (names : List ℕ) : Type 0 where
  pub is : SurveyIs n p s r names
  pub long : length names ≡ 1025

-- ---- the second pass: a sheet that the first pass and the checks of its plan let through
pub record Compilable (s : List ℕ) (n t p seat inputs gates : ℕ) (names : List ℕ) : Type 0 where
  pub ok : sheet_ok n p s ≡ true
  pub inputs_are : inputs ≡ length (names_of (sheet_tree n p s))
  pub gates_are : gates ≡ length (tree_made p (sheet_tree n p s)).gates
  pub few : gates ≤ 1024
  pub table : names ≡ table_of 1025 (names_of (sheet_tree n p s))
  pub parties : n ≤ 15
  pub threshold : t < 256
  pub prime : 2 ≤ p
  pub small : p < 2147483648
  pub result : seat < 256
