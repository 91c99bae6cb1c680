-- Preparing plans: they make the triples that a main plan spends.
use Rattle.std.specs.Prelude.{ℕ, ◌+◌, ◌*◌, Bool, ◌&&◌, eqb, length}
use mathlib.Core.List.{List, [], ◌∷◌, flat_map}
use Rattle.numbers.specs.Tables.{tab}
use Rattle.plan.specs.declared.Gate.{Gate}
use Rattle.plan.specs.declared.Gate.TheVariants.{Multiply, Random}
use Rattle.plan.specs.declared.Rule.{Rule}
use Rattle.plan.specs.File.{same_bytes}
use Rattle.plan.specs.Plans.{Plan, kind_of, operands_of, kind_count}

-- for triple k two random wires and their product
unfoldable pub triple_gates : ℕ → List Gate
triple_gates k = Random ∷ Random ∷ Multiply (3 * k) (3 * k + 1) ∷ []

-- the preparing plan of a main plan, under either rule
abbrev pub preparing : Plan → Rule → Plan
preparing plan rule =
    record {
      t = plan.t;
      p = plan.p;
      points = plan.points;
      gates = flat_map triple_gates (tab (λ k. k) (kind_count plan 7));
      outs = [];
      rule = rule;
    }

-- a gate as the file has it: its kind, a and b
unfoldable pub gate_numbers : Gate → List ℕ
gate_numbers g = kind_of g ∷ operands_of g

unfoldable pub prepares : Plan → Plan → Bool
prepares prep plan =
    eqb prep.t plan.t && (eqb prep.p plan.p && (same_bytes prep.points plan.points
    && (same_bytes (flat_map gate_numbers prep.gates) (flat_map gate_numbers (preparing plan prep.rule).gates) && eqb (length prep.outs) 0)))
