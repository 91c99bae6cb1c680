-- The first pass over a circuit's text: refusal 23, and how many gates and outs the plan has.
use Rattle.std.specs.Prelude.{Option, Some, None, ℕ, zero, suc, ◌+◌, ◌*◌, ◌<◌, ◌≤◌, ◌≡◌, Bool, cond, ◌&&◌, List, eqb, leb, ltb, length}
use Rattle.numbers.specs.Tables.{tab}
use Rattle.import_lines.specs.Lines.{lines_of}
use Rattle.import_lines.specs.Places.{line_start}
use Rattle.import_text.specs.declared.Head.{Head}
use Rattle.import_text.specs.Circuits.{format_ok, circuit_of}
use Rattle.import_text.specs.Scanning.{gate_at, with_gate}
use Rattle.import_circuit.specs.Wires.{input_wires, output_wires, gate_fits, marked, circuit_ok}
use Rattle.import_circuit.specs.Making.{gate_size, size_of}
use Rattle.import_check.specs.declared.Counts.{Counts}

-- 23
unfoldable pub text_ok : ℕ → List ℕ → Bool
text_ok n text = format_ok (lines_of text) && circuit_ok n (circuit_of text)

-- the plan's gates and outs
unfoldable pub survey_of : ℕ → List ℕ → Option Counts
survey_of n text =
    cond (text_ok n text)
    (Some (record { gates = input_wires (circuit_of text) + size_of (circuit_of text).gates; outs = output_wires (circuit_of text) })) None

-- ---- as the code reads it
-- what the lines before the gates decide; all wires are set where there are as many as inputs and gates
unfoldable pub head_ok : ℕ → Head → Bool
head_ok n h =
    leb h.values n && (leb h.inputs h.wires && (leb h.outputs h.wires && eqb (h.inputs + h.gates) h.wires))

unfoldable pub marks_of : ℕ → ℕ → List ℕ
marks_of inputs wires = tab (λ w. cond (ltb w inputs) 1 0) wires

-- as many gates' lines from a place on, with the marks before them and the plan's gates so far: all the plan's gates, where each fits
unfoldable pub sized_from : ℕ → List ℕ → ℕ → List ℕ → ℕ → Option ℕ
sized_from zero s at marks size = cond (leb (length s) (line_start s at)) (Some size) None
sized_from (suc k) s at marks size =
    with_gate None (λ g e. cond (gate_fits marks g) (sized_from k s e (marked marks g) (size + gate_size g)) None) (gate_at s (line_start s at))

-- ---- what the code says beside the value: its counts are small
unfoldable pub SmallSurvey : Option Counts → Type 0
SmallSurvey (Some c) = record { gates : c.gates ≤ 5 * 65536; outs : c.outs < 65536 }
SmallSurvey None = Unit

pub record Surveyed (d r : Option Counts) : Type 0 where
  pub eq : r ≡ d
  pub small : SmallSurvey r
