-- A formula sheet compiled to a plan as its caller sees it: the first refusal or none, and the lent buffer afterwards.
use Rattle.std.specs.Prelude.{Result, Ok, Err, ℕ, List, [], ◌∷◌, ◌++◌, eqb, leb, length}
use Rattle.plan.specs.Refusals.{Checked}
use Rattle.plan.specs.declared.Refusal.{Refusal}
use Rattle.plan.specs.declared.Refusal.TheVariants as refusal
use Rattle.plan.specs.Refusals.{first_of, need}
use Rattle.plan.specs.File.{plan_checks}
use Rattle.plan_file.specs.Bodies.{Bodies, file_of_plan}
use Rattle.seat_messages.specs.Calls.{unless_refused}
use Rattle.sheet_text.specs.Making.{sheet_tree, sheet_ok, tree_bodies}
use Rattle.sheet_write.specs.declared.Counts.{Counts}

-- the plan's gates and its one out, which goes to party i, and its file
unfoldable pub sheet_bodies : ℕ → ℕ → ℕ → List ℕ → Bodies
sheet_bodies n p i text = tree_bodies p i (sheet_tree n p text)

unfoldable pub sheet_file : ℕ → ℕ → ℕ → ℕ → List ℕ → List ℕ
sheet_file n t p i text = file_of_plan n t p (sheet_bodies n p i text)

-- refusals 27 and 24; then the plan is checked as any other
unfoldable pub text_checks : ℕ → ℕ → ℕ → ℕ → List ℕ → List Checked
text_checks n t p i text =
    need refusal.SheetText (sheet_ok n p text)
    ∷ need refusal.TooLarge (leb (length (sheet_bodies n p i text).gates) 1024)
    ∷ plan_checks (sheet_file n t p i text)

-- then 19
unfoldable pub sheet_checks : ℕ → ℕ → ℕ → ℕ → List ℕ → ℕ → List Checked
sheet_checks n t p i text room = text_checks n t p i text ++ (need refusal.BufferLength (eqb room (length (sheet_file n t p i text))) ∷ [])

unfoldable pub sheet_answer : ℕ → ℕ → ℕ → ℕ → List ℕ → ℕ → Checked
sheet_answer n t p i text room = first_of (sheet_checks n t p i text room)

-- the lent buffer afterwards
unfoldable pub sheet_after : ℕ → ℕ → ℕ → ℕ → List ℕ → List ℕ → List ℕ
sheet_after n t p i text out = unless_refused (sheet_answer n t p i text (length out)) (sheet_file n t p i text) out

-- a measure's refusal, handed on
unfoldable pub refusal_of : Result Counts Refusal → Checked
refusal_of (Ok counts) = (Ok tt)
refusal_of (Err r) = Err r
