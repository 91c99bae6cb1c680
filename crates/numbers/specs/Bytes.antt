-- Numbers in bytes, the low byte first (they are unsigned).
use Rattle.std.specs.Prelude.{Option, ℕ, zero, suc, ◌+◌, ◌*◌, ◌/◌, ◌%◌, Bool, true, false, cond, List, [], ◌∷◌, ◌++◌, eqb, leb, ltb, length, get_or}
use Rattle.std.proofs.lemmas.List.Edits.{sets}
use Rattle.numbers.specs.Tables.{tab, first_failing}

-- the number of w bytes at an offset
unfoldable pub number_at : ℕ → List ℕ → ℕ → ℕ
number_at zero bs at = 0
number_at (suc w) bs at = get_or bs at 0 + 256 * number_at w bs (suc at)

-- a number's w low bytes
unfoldable pub bytes_from : ℕ → ℕ → List ℕ
bytes_from zero x = []
bytes_from (suc w) x = x % 256 ∷ bytes_from w (x / 256)

-- the two-byte number at an offset
unfoldable pub word_at : List ℕ → ℕ → ℕ
word_at bs at = get_or bs at 0 + 256 * get_or bs (at + 1) 0

-- bytes that one number of a list takes, in every version
abbrev pub width : ℕ
width = 4

-- above every number of a list
abbrev pub limit : ℕ
limit = 4294967296

-- the numbers of w bytes each that bytes hold; bytes left over at the end are none
unfoldable pub numbers_of : ℕ → List ℕ → List ℕ
numbers_of w bs = tab (λ i. number_at w bs (w * i)) (length bs / w)

-- the numbers of a list that is lent as bytes
unfoldable pub numbers : List ℕ → List ℕ
numbers bs = numbers_of width bs

-- a list of numbers as bytes
unfoldable pub bytes_of : List ℕ → List ℕ
bytes_of [] = []
bytes_of (x ∷ xs) = bytes_from width x ++ bytes_of xs

-- whether these bytes are a list of k numbers
unfoldable pub holds_count : ℕ → List ℕ → Bool
holds_count k bs = eqb (length bs) (width * k)

-- the bytes after number i is set to v; past the end nothing changes
unfoldable pub stored : List ℕ → ℕ → ℕ → List ℕ
stored bs i v = cond (leb (width * i + width) (length bs)) (sets bs (width * i) (bytes_from width v)) bs

-- the first number of a list that isn't below p
unfoldable pub first_over : ℕ → List ℕ → Option ℕ
first_over p xs = first_failing (λ i. ltb (get_or xs i 0) p) (length xs)

-- whether every number of a list is below p
unfoldable pub all_below : ℕ → List ℕ → Bool
all_below p [] = true
all_below p (x ∷ xs) = cond (ltb x p) (all_below p xs) false
