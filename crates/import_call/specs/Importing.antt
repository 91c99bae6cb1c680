-- The import of a circuit as its caller sees it: the first refusal or none, and the lent buffer afterwards.
use Rattle.std.specs.Prelude.{Result, Ok, Err, ℕ, ◌&&◌, List, [], ◌∷◌, ◌++◌, eqb, leb, length}
use Rattle.plan.specs.Refusals.{Checked}
use Rattle.plan.specs.declared.Refusal.{Refusal}
use Rattle.plan.specs.declared.Refusal.TheVariants as refusal
use Rattle.plan.specs.Refusals.{first_of, need}
use Rattle.plan.specs.File.{plan_checks}
use Rattle.plan_file.specs.Bodies.{Bodies, file_of_plan}
use Rattle.seat_messages.specs.Calls.{unless_refused}
use Rattle.import_text.specs.Circuits.{circuit_of}
use Rattle.import_circuit.specs.Making.{circuit_bodies}
use Rattle.import_check.specs.Surveying.{text_ok}
use Rattle.import_check.specs.declared.Counts.{Counts}

-- the plan's gates and outs, and its file
unfoldable pub import_bodies : ℕ → List ℕ → Bodies
import_bodies p text = circuit_bodies p (circuit_of text)

unfoldable pub import_file : ℕ → ℕ → ℕ → List ℕ → List ℕ
import_file n t p text = file_of_plan n t p (import_bodies p text)

-- refusals 23 and 24; then the plan is checked as any other
unfoldable pub text_checks : ℕ → ℕ → ℕ → List ℕ → List Checked
text_checks n t p text =
    need refusal.CircuitText (text_ok n text)
    ∷ need refusal.TooLarge (leb (length (import_bodies p text).gates) 1024 && leb (length (import_bodies p text).outs) 64)
    ∷ plan_checks (import_file n t p text)

-- then 19
unfoldable pub import_checks : ℕ → ℕ → ℕ → List ℕ → ℕ → List Checked
import_checks n t p text room = text_checks n t p text ++ (need refusal.BufferLength (eqb room (length (import_file n t p text))) ∷ [])

unfoldable pub import_answer : ℕ → ℕ → ℕ → List ℕ → ℕ → Checked
import_answer n t p text room = first_of (import_checks n t p text room)

-- the lent buffer afterwards
unfoldable pub import_after : ℕ → ℕ → ℕ → List ℕ → List ℕ → List ℕ
import_after n t p text out = unless_refused (import_answer n t p text (length out)) (import_file n t p text) out

-- ---- what the call goes on with: the plan's gates and outs, or the refusal
unfoldable pub measured_of : Checked → ℕ → ℕ → Result Counts Refusal
measured_of (Ok tt) gates outs = Ok (record { gates = gates; outs = outs })
measured_of (Err r) gates outs = Err r

unfoldable pub measure : ℕ → ℕ → ℕ → List ℕ → Result Counts Refusal
measure n t p text = measured_of (first_of (text_checks n t p text)) (length (import_bodies p text).gates) (length (import_bodies p text).outs)

-- a refusal, handed on
unfoldable pub refusal_of : Result Counts Refusal → Checked
refusal_of (Ok c) = (Ok tt)
refusal_of (Err r) = Err r
