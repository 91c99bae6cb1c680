-- What the measure of a sheet says: its refusal or none; where nothing is refused, the counts, and that the plan can be written.
use Rattle.std.specs.Prelude.{Result, Ok, Err, ℕ, ◌≤◌, ◌≡◌, true, List, length}
use Rattle.plan.specs.declared.Refusal.{Refusal}
use Rattle.plan.specs.Refusals.{first_of}
use Rattle.plan_file.specs.Bodies.{file_size, version_for}
use Rattle.sheet_text.specs.Trees.{names_of}
use Rattle.sheet_text.specs.Making.{sheet_tree, sheet_ok, tree_made}
use Rattle.sheet_write.specs.Passes.{Compilable}
use Rattle.sheet_write.specs.declared.Counts.{Counts}
use Rattle.sheet_call.specs.Compiling.{sheet_file, text_checks, refusal_of}

-- a sheet that keeps the rules, with the inputs and gates of its plan
pub record Counted (text : List ℕ) (n p inputs gates : ℕ) : Type 0 where
  pub ok : sheet_ok n p text ≡ true
  pub inputs_are : inputs ≡ length (names_of (sheet_tree n p text))
  pub gates_are : gates ≡ length (tree_made p (sheet_tree n p text)).gates
  pub few : gates ≤ 1024

unfoldable pub Ready : List ℕ → ℕ → ℕ → ℕ → ℕ → Result Counts Refusal → List ℕ → Type 0
Ready text n t p i (Ok c) names = Compilable text n t p i c.inputs c.gates names
Ready text n t p i (Err r) names = Unit

pub record MeasuredAs (text : List ℕ) (n t p i : ℕ) (r : Result Counts Refusal) (names : List ℕ) : Type 0 where
  pub told : refusal_of r ≡ first_of (text_checks n t p i text)
  pub ready : Ready text n t p i r names
  pub long : length names ≡ 1025

-- the bytes of the plan
unfoldable pub Sized : List ℕ → ℕ → ℕ → ℕ → ℕ → Result Counts Refusal → Type 0
Sized text n t p i (Ok c) = record { few : c.gates ≤ 1024; parties : n ≤ 15; size : length (sheet_file n t p i text) ≡ file_size (version_for p) n c.gates 1 }
Sized text n t p i (Err r) = Unit

pub record Measuring (text : List ℕ) (n t p i : ℕ) (r : Result Counts Refusal) : Type 0 where
  pub told : refusal_of r ≡ first_of (text_checks n t p i text)
  pub sized : Sized text n t p i r
