-- A sheet's text, read by three readers: a sum has products, a product has atoms, and an atom in brackets has a sum again.
-- A reader takes a place where no blank stands, and leaves the place of the next byte that is none: the blanks after a part are skipped
-- with it. The readers fall on the depth that is left, and the loops of a sum and of a product on the text that is left.
use Rattle.std.specs.Prelude.{Option, Some, None, ℕ, zero, suc, ◌+◌, ◌*◌, Bool, cond, ◌&&◌, List, eqb, leb, length, get_or}
use Rattle.text_decimals.specs.Reading.{blanks_end, decimal_at}
use Rattle.sheet_text.specs.Trees.{Tree}

-- a tree with the place past it, or that the rules are broken
pub data Parsed : Type 0 where
  Read : Tree → ℕ → Parsed
  Wrong : Parsed

-- ---- atoms
-- a number below p
unfoldable pub number_from : List ℕ → Option (ℕ × ℕ) → Parsed
number_from s (Some (v, e)) = Read (Tree.Number v) (blanks_end s e)
number_from s None = Wrong

-- a letter's party, 1 to n
unfoldable pub name_from : ℕ → List ℕ → Option (ℕ × ℕ) → Parsed
name_from letter s (Some (v, e)) = cond (eqb v 0) Wrong (Read (Tree.Name (256 * v + letter)) (blanks_end s e))
name_from letter s None = Wrong

-- after the sum in brackets: the closing one
unfoldable pub closed : List ℕ → Parsed → Parsed
closed s (Read x e) = cond (eqb (get_or s e 0) 41) (Read x (blanks_end s (suc e))) Wrong
closed s Wrong = Wrong

unfoldable pub is_letter : ℕ → Bool
is_letter b = leb 97 b && leb b 122

-- a bracket, a name or a number; `inner` reads the sum in brackets
unfoldable pub atom_by : (ℕ → Parsed) → ℕ → ℕ → List ℕ → ℕ → Parsed
atom_by inner n p s at =
    cond (eqb (get_or s at 0) 40) (closed s (inner (blanks_end s (suc at))))
    (cond (is_letter (get_or s at 0)) (name_from (get_or s at 0) s (decimal_at (suc n) s (suc at)))
    (number_from s (decimal_at p s at)))

-- ---- products and sums: equal ones group to the left
unfoldable pub joined : (Tree → Tree → Tree) → Tree → Parsed → Parsed
joined op l (Read r e) = Read (op l r) e
joined op l Wrong = Wrong

-- what the byte after a part says: it joins the next part to those before it, or they end there
pub data Link : Type 0 where
  Joins : (Tree → Tree → Tree) → Link
  Ends : Link

-- a product's parts are joined by *, a sum's by + and -
unfoldable pub times_link : ℕ → Link
times_link b = cond (eqb b 42) (Joins Tree.Times) Ends

unfoldable pub terms_link : ℕ → Link
terms_link b = cond (eqb b 43) (Joins Tree.Plus) (cond (eqb b 45) (Joins Tree.Minus) Ends)

-- one step after the part l that ends at e: the next part joins, and `again` goes on
unfoldable pub linked : (Parsed → Parsed) → (ℕ → Parsed) → List ℕ → Tree → ℕ → Link → Parsed
linked again part s l e (Joins op) = again (joined op l (part (blanks_end s (suc e))))
linked again part s l e Ends = Read l e

-- what goes on after a part, m parts at most
unfoldable pub go_on : (ℕ → Link) → ℕ → (ℕ → Parsed) → List ℕ → Parsed → Parsed
go_on link zero part s r = r
go_on link (suc m) part s Wrong = Wrong
go_on link (suc m) part s (Read l e) = linked (λ r. go_on link m part s r) part s l e (link (get_or s e 0))

unfoldable pub product_by : (ℕ → Parsed) → ℕ → ℕ → List ℕ → ℕ → Parsed
product_by inner n p s at = go_on times_link (length s) (atom_by inner n p s) s (atom_by inner n p s at)

unfoldable pub sum_by : (ℕ → Parsed) → ℕ → ℕ → List ℕ → ℕ → Parsed
sum_by inner n p s at = go_on terms_link (length s) (product_by inner n p s) s (product_by inner n p s at)

-- ---- the three readers, where k more brackets may be opened
-- what stands in brackets; none may be opened where k is 0
unfoldable pub inner_at : ℕ → ℕ → ℕ → List ℕ → ℕ → Parsed
inner_at zero n p s at = Wrong
inner_at (suc k) n p s at = sum_by (inner_at k n p s) n p s at

unfoldable pub atom_at : ℕ → ℕ → ℕ → List ℕ → ℕ → Parsed
atom_at k n p s at = atom_by (inner_at k n p s) n p s at

unfoldable pub product_at : ℕ → ℕ → ℕ → List ℕ → ℕ → Parsed
product_at k n p s at = product_by (inner_at k n p s) n p s at

unfoldable pub sum_at : ℕ → ℕ → ℕ → List ℕ → ℕ → Parsed
sum_at k n p s at = sum_by (inner_at k n p s) n p s at

-- brackets may be nested to a depth of 16
abbrev pub deepest : ℕ
deepest = 16

-- ---- the sheet: one sum, and nothing after it
unfoldable pub whole : List ℕ → Parsed → Parsed
whole s (Read x e) = cond (eqb e (length s)) (Read x e) Wrong
whole s Wrong = Wrong

unfoldable pub sheet_at : ℕ → ℕ → List ℕ → Parsed
sheet_at n p s = whole s (sum_at deepest n p s (blanks_end s 0))
