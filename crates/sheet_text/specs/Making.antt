-- A sheet's gates and its one out.
use Rattle.std.specs.Prelude.{ℕ, Bool, not, List, [], ◌∷◌, eqb, length}
use Rattle.plan_file.specs.Bodies.{Bodies}
use Rattle.sheet_text.specs.Trees.{Tree, names_of, Emitted, emit, input_gates}
use Rattle.sheet_text.specs.Sheets.{Parsed, sheet_at}

-- the tree of a sheet; the number 0, which has no name, where the rules are broken
unfoldable pub tree_of : Parsed → Tree
tree_of (Parsed.Read x e) = x
tree_of Parsed.Wrong = Tree.Number 0

unfoldable pub sheet_tree : ℕ → ℕ → List ℕ → Tree
sheet_tree n p s = tree_of (sheet_at n p s)

-- 27: the text has a tree, and the tree a name
unfoldable pub sheet_ok : ℕ → ℕ → List ℕ → Bool
sheet_ok n p s = not (eqb (length (names_of (sheet_tree n p s))) 0)

-- the input gates, then the tree's
unfoldable pub tree_made : ℕ → Tree → Emitted
tree_made p x = emit p (names_of x) x (input_gates (names_of x))

-- the result goes to party i
unfoldable pub bodies_with : ℕ → Emitted → Bodies
bodies_with i e = record { gates = e.gates; outs = record { party = i; wire = e.wire } ∷ [] }

unfoldable pub tree_bodies : ℕ → ℕ → Tree → Bodies
tree_bodies p i x = bodies_with i (tree_made p x)
