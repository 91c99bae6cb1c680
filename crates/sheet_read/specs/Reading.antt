-- What the readers of a sheet answer, where the definition reads a tree.
use Rattle.std.specs.Prelude.{Option, Some, None, ℕ, suc, ◌+◌, ◌*◌, ◌<◌, ◌≤◌, ◌≡◌, cond, List, eqb, length, get_or, set}
use Rattle.text_decimals.specs.Reading.{blanks_end, decimal_at}
use Rattle.sheet_text.specs.Sheets.{Parsed, is_letter, name_from, number_from, atom_at, product_at, sum_at}
use Rattle.sheet_read.specs.declared.Part.{Part}
use Rattle.sheet_read.specs.declared.Operator.{Operator}
use Rattle.sheet_read.specs.declared.Operator.TheVariants as operator
use Rattle.sheet_read.specs.declared.Level.{Level}
use Rattle.sheet_read.specs.declared.Level.TheVariants as level
use Rattle.sheet_read.specs.Working.{free_or, capped_next, number_out, join_wire, work}

-- ---- a tree that was read, worked through
abbrev pub made : ℕ → ℕ → ℕ → Part
made w g e = record { wire = w; gates = g; at = e }

unfoldable pub part_of : ℕ → ℕ → List ℕ → List ℕ → Parsed → Option Part
part_of p g names out (Parsed.Read x e) = Some (made (work p x names out g).wire (work p x names out g).gates e)
part_of p g names out Parsed.Wrong = None

-- the table of names and the file afterwards; nothing is said of them where the rules are broken
unfoldable pub Left : ℕ → ℕ → List ℕ → List ℕ → Parsed → List ℕ → List ℕ → Type 0
Left p g names out (Parsed.Read x e) names' out' = record { table : names' ≡ (work p x names out g).names; file : out' ≡ (work p x names out g).out }
Left p g names out Parsed.Wrong names' out' = Unit

-- past what was read, and within the text
unfoldable pub Ahead : List ℕ → ℕ → Option Part → Type 0
Ahead s at (Some r) = record { from : at < r.at; upto : r.at ≤ length s }
Ahead s at None = Unit

-- r is what a reader answers where the definition reads q; then names' and out' are what it leaves
pub record Reads (s : List ℕ) (at : ℕ) (q : Parsed) (p g : ℕ) (names out : List ℕ) (r : Option Part) (names' out' : List ℕ) : Type 0 where
  pub eq : r ≡ part_of p g names out q
  pub left : Left p g names out q names' out'
  pub ahead : Ahead s at r
  pub long_names : length names' ≡ length names
  pub long_out : length out' ≡ length out

-- the same of a whole sheet
pub record Sheet (q : Parsed) (p g : ℕ) (names out : List ℕ) (r : Option Part) (names' out' : List ℕ) : Type 0 where
  pub eq : r ≡ part_of p g names out q
  pub left : Left p g names out q names' out'
  pub long_names : length names' ≡ length names
  pub long_out : length out' ≡ length out

-- ---- the parts of a reader
unfoldable pub number_part : List ℕ → ℕ → Option (ℕ × ℕ) → Option Part
number_part s g (Some (v, e)) = Some (made (capped_next g) (capped_next (capped_next g)) (blanks_end s e))
number_part s g None = None

unfoldable pub number_file : ℕ → ℕ → List ℕ → Option (ℕ × ℕ) → List ℕ
number_file p g out (Some (v, e)) = number_out p g v out
number_file p g out None = out

unfoldable pub name_part : List ℕ → ℕ → ℕ → List ℕ → Option (ℕ × ℕ) → Option Part
name_part s b g names (Some (v, e)) = cond (eqb v 0) None (Some (made (free_or (suc (256 * v + b)) names) g (blanks_end s e)))
name_part s b g names None = None

unfoldable pub name_table : ℕ → List ℕ → Option (ℕ × ℕ) → List ℕ
name_table b names (Some (v, e)) =
    cond (eqb v 0) names (set names (free_or (suc (256 * v + b)) names) (suc (256 * v + b)))
name_table b names None = names

-- a name or a number
unfoldable pub leaf_at : ℕ → ℕ → List ℕ → ℕ → Parsed
leaf_at n p s at =
    cond (is_letter (get_or s at 0)) (name_from (get_or s at 0) s (decimal_at (suc n) s (suc at))) (number_from s (decimal_at p s at))

-- after what stands in brackets: the closing one
unfoldable pub closed_part : List ℕ → Part → Option Part
closed_part s r = cond (eqb (get_or s r.at 0) 41) (Some (made r.wire r.gates (blanks_end s (suc r.at)))) None

-- the operator that a byte is: in a product *, in a sum + or -
unfoldable pub times_operator : ℕ → Option Operator
times_operator b = cond (eqb b 42) (Some operator.Times) None

unfoldable pub term_operator : ℕ → Option Operator
term_operator b = cond (eqb b 43) (Some operator.Plus) (cond (eqb b 45) (Some operator.Minus) None)

abbrev pub level_operator : Level → ℕ → Option Operator
level_operator level.Sum = term_operator
level_operator level.Product = times_operator

-- a right side that an operator joined to the left one
abbrev pub joined_side : Operator → Part → Part
joined_side o r = made (join_wire o r.gates) (capped_next (join_wire o r.gates)) r.at

-- a part, and all parts, where k more brackets may be opened
abbrev pub part_at : Level → ℕ → ℕ → ℕ → List ℕ → ℕ → Parsed
part_at level.Sum = product_at
part_at level.Product = atom_at

abbrev pub chain_at : Level → ℕ → ℕ → ℕ → List ℕ → ℕ → Parsed
chain_at level.Sum = sum_at
chain_at level.Product = product_at

-- ---- what the functions take
-- a place in the text, and brackets open
pub record Place (s : List ℕ) (at depth : ℕ) : Type 0 where
  pub within : at ≤ length s
  pub open_few : depth ≤ 16

-- r was read from a place after `at`
pub record Inside (s : List ℕ) (at : ℕ) (r : Part) : Type 0 where
  pub from : at < r.at
  pub upto : r.at ≤ length s

-- a letter b stands at the place
pub record Letter (s : List ℕ) (at b : ℕ) : Type 0 where
  pub place : at < length s
  pub letter : b < 256

-- b is the byte at the place, and no bracket
pub record Leaf (s : List ℕ) (at b : ℕ) : Type 0 where
  pub is : b ≡ get_or s at 0
  pub place : at ≤ length s
