-- The sizes of the plans that are made of circuits, sheets and older plans, as the C interface answers them.
use Rattle.std.specs.Prelude.{ℕ, List, length}
use Rattle.plan.specs.Refusals.{first_of}
use Rattle.plan_codes.specs.Values.{value_of}
use Rattle.import_call.specs.Importing.{import_file, text_checks}
use Rattle.convert_call.specs.Converting.{old_checks, converted_file}
use Rattle.sheet_call.specs.Compiling as sheet

-- the bytes of the plan that a circuit's text makes
unfoldable pub import_size : ℕ → ℕ → ℕ → List ℕ → ℕ
import_size n t p text = value_of (first_of (text_checks n t p text)) (length (import_file n t p text))

-- and of the plan that a sheet makes, whose result goes to party i
unfoldable pub sheet_size : ℕ → ℕ → ℕ → ℕ → List ℕ → ℕ
sheet_size n t p i text = value_of (first_of (sheet.text_checks n t p i text)) (length (sheet.sheet_file n t p i text))

-- and of a plan of version 1 or 2 as one of version 3
unfoldable pub convert_size : List ℕ → ℕ
convert_size bs = value_of (first_of (old_checks bs)) (length (converted_file bs))
