-- A tree worked through as the readers do it: the table of names, the file, the gates so far, and the wire that holds the value.
use Rattle.std.specs.Prelude.{ℕ, suc, ◌-◌, cond, List, [], ◌∷◌, eqb, leb, set}
use Rattle.plan.specs.declared.Gate.{Gate}
use Rattle.plan.specs.declared.Gate.TheVariants.{Add, Scale, Offset, Multiply}
use Rattle.plan_file.specs.Bodies.{written, gate_bytes, place_in, version_for}
use Rattle.sheet_text.specs.Trees.{Tree}
use Rattle.sheet_read.specs.declared.Operator.{Operator}
use Rattle.sheet_read.specs.declared.Operator.TheVariants as operator

-- the place of a number in a table, or of the first 0; past the end where there is neither
unfoldable pub free_or : ℕ → List ℕ → ℕ
free_or x [] = 0
free_or x (y ∷ ys) = cond (eqb y x) 0 (cond (eqb y 0) 0 (suc (free_or x ys)))

-- one gate more; a count stops at 1,025
unfoldable pub capped_next : ℕ → ℕ
capped_next g = cond (leb g 1024) (suc g) 1025

-- gate g of a file for the prime p; past the file's end nothing changes
unfoldable pub put_gate : ℕ → List ℕ → ℕ → Gate → List ℕ
put_gate p out g x = written out (place_in (version_for p) g) (gate_bytes (version_for p) x)

pub record Work : Type 0 where
  pub names : List ℕ
  pub out : List ℕ
  pub gates : ℕ
  pub wire : ℕ

-- a number v, after g gates
unfoldable pub number_out : ℕ → ℕ → ℕ → List ℕ → List ℕ
number_out p g v out = put_gate p (put_gate p out g (Scale 0 0)) (capped_next g) (Offset g v)

-- two sides, whose values wires l and r hold, joined by an operator
unfoldable pub join_out : Operator → ℕ → ℕ → ℕ → ℕ → List ℕ → List ℕ
join_out operator.Times p l r g out = put_gate p out g (Multiply l r)
join_out operator.Plus p l r g out = put_gate p out g (Add l r)
join_out operator.Minus p l r g out = put_gate p (put_gate p out g (Scale r (p - 1))) (capped_next g) (Add l g)

unfoldable pub join_wire : Operator → ℕ → ℕ
join_wire operator.Times g = g
join_wire operator.Plus g = g
join_wire operator.Minus g = capped_next g

unfoldable pub join_by : Operator → ℕ → ℕ → Work → Work
join_by o p l w = record {
  names = w.names;
  out = join_out o p l w.wire w.gates w.out;
  gates = capped_next (join_wire o w.gates);
  wire = join_wire o w.gates;
}

-- the right side goes on where the left side ended
unfoldable pub after_left : (ℕ → Work → Work) → (List ℕ → List ℕ → ℕ → Work) → Work → Work
after_left join right l = join l.wire (right l.names l.out l.gates)

-- a tree, from a table of names, a file and so many gates on; the table holds each name's number and 1
unfoldable pub work : ℕ → Tree → List ℕ → List ℕ → ℕ → Work
work p (Tree.Number v) names out g = record { names = names; out = number_out p g v out; gates = capped_next (capped_next g); wire = capped_next g }
work p (Tree.Name x) names out g = record { names = set names (free_or (suc x) names) (suc x); out = out; gates = g; wire = free_or (suc x) names }
work p (Tree.Times l r) names out g = after_left (join_by operator.Times p) (λ ns o h. work p r ns o h) (work p l names out g)
work p (Tree.Plus l r) names out g = after_left (join_by operator.Plus p) (λ ns o h. work p r ns o h) (work p l names out g)
work p (Tree.Minus l r) names out g = after_left (join_by operator.Minus p) (λ ns o h. work p r ns o h) (work p l names out g)
