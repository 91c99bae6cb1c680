-- A text as lines of fields: "Fields are parted by blanks (spaces), lines by line feeds, and lines with nothing but blanks
-- are skipped. Numbers are decimal, at most 65,535 and without leading zeros."
use Rattle.std.specs.Prelude.{ℕ, ◌+◌, ◌-◌, ◌*◌, Bool, true, false, cond, not, ◌&&◌, List, [], ◌∷◌, map, eqb, leb}
use Rattle.text_decimals.specs.Reading.{is_digit}

abbrev pub blank : ℕ
blank = 32

abbrev pub line_feed : ℕ
line_feed = 10

-- one byte more in front of the first part
unfoldable pub onto_first : ℕ → List (List ℕ) → List (List ℕ)
onto_first x [] = (x ∷ []) ∷ []
onto_first x (part ∷ parts) = (x ∷ part) ∷ parts

-- the parts of a text between its bytes b
unfoldable pub parted : ℕ → List ℕ → List (List ℕ)
parted b [] = [] ∷ []
parted b (x ∷ xs) = cond (eqb x b) ([] ∷ parted b xs) (onto_first x (parted b xs))

-- without those that are empty
unfoldable pub filled : {A : Type 0} → List (List A) → List (List A)
filled [] = []
filled ([] ∷ xs) = filled xs
filled ((y ∷ ys) ∷ xs) = (y ∷ ys) ∷ filled xs

unfoldable pub fields_of : List ℕ → List (List ℕ)
fields_of line = filled (parted blank line)

unfoldable pub lines_of : List ℕ → List (List (List ℕ))
lines_of text = filled (map fields_of (parted line_feed text))

-- ---- numbers
unfoldable pub every : {A : Type 0} → (A → Bool) → List A → Bool
every f [] = true
every f (x ∷ xs) = f x && every f xs

-- the value of digits that follow digits of the value v
unfoldable pub value_after : ℕ → List ℕ → ℕ
value_after v [] = v
value_after v (d ∷ ds) = value_after (10 * v + (d - 48)) ds

unfoldable pub decimal_of : List ℕ → ℕ
decimal_of field = value_after 0 field

-- one digit, or a first one that isn't 0 (48)
unfoldable pub unpadded : List ℕ → Bool
unpadded [] = false
unpadded (d ∷ []) = true
unpadded (d ∷ e ∷ ds) = not (eqb d 48)

unfoldable pub is_number : List ℕ → Bool
is_number field = every is_digit field && (unpadded field && leb (decimal_of field) 65535)
