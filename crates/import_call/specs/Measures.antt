-- What the measure of a text says beside its value, where nothing is refused: the counts are small, and the plan can be written.
use Rattle.std.specs.Prelude.{Result, Ok, Err, ℕ, ◌≤◌, ◌≡◌, true, List, length}
use Rattle.plan.specs.declared.Refusal.{Refusal}
use Rattle.import_circuit.specs.Wires.{output_wires}
use Rattle.import_text.specs.Circuits.{circuit_of}
use Rattle.import_check.specs.Surveying.{text_ok}
use Rattle.import_write.specs.Second.{Importable}
use Rattle.import_check.specs.declared.Counts.{Counts}
use Rattle.import_call.specs.Importing.{import_bodies, measure}

-- a text that keeps the format and the rules, with the gates and outs of its plan
pub record Counted (text : List ℕ) (n p gates outs : ℕ) : Type 0 where
  pub ok : text_ok n text ≡ true
  pub gates_are : length (import_bodies p text).gates ≡ gates
  pub outs_are : outs ≡ output_wires (circuit_of text)
  pub gates_few : gates ≤ 1024
  pub outs_few : outs ≤ 64

unfoldable pub Ready : List ℕ → ℕ → ℕ → ℕ → Result Counts Refusal → Type 0
Ready text n t p (Ok c) =
    record { gates_few : c.gates ≤ 1024; outs_few : c.outs ≤ 64; outs_are : c.outs ≡ output_wires (circuit_of text); text : Importable text n t p c.gates }
Ready text n t p (Err r) = Unit

pub record MeasuredAs (text : List ℕ) (n t p : ℕ) (r : Result Counts Refusal) : Type 0 where
  pub eq : r ≡ measure n t p text
  pub ready : Ready text n t p r
