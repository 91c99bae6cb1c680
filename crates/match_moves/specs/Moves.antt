-- Coins moved by delta's coefficients, dealing by dealing.
use Rattle.std.specs.Prelude.{ℕ, suc, ◌+◌, ◌-◌, ◌/◌, ◌≤◌, ◌≡◌, Bool, true, cond, List, [], ◌∷◌, ◌++◌, map, length, take, drop, get_or}
use Rattle.numbers.specs.Tables.{tab}
use Rattle.numbers.specs.Bytes.{width, numbers, all_below}
use Rattle.field.specs.Mod.{sub}
use Rattle.sharing_laws.specs.Poly.{sum_of, scale}
use Rattle.plan.specs.declared.Gate.{Gate}
use Rattle.plan.specs.declared.Gate.TheVariants.{Input, Add, Scale, Offset, Multiply, Random, Spend}
use Rattle.plan.specs.declared.Header.{Header}
use Rattle.plan_coalition.specs.Coalitions.{in_set, members}
use Rattle.run_dealings.specs.Rows.{products_of}

-- of the parties' points, those of a set's members
unfoldable pub member_points : List ℕ → ℕ → List ℕ
member_points points set = map (λ i. get_or points (i - 1) 0) (members set)

-- coins moved by d times the coefficients es
unfoldable pub moved : ℕ → ℕ → List ℕ → List ℕ → List ℕ
moved p d es cs = sum_of p cs (scale p d es)

-- by how much a dealer's coins move: the change of what it deals, from s to z; a member's stay
unfoldable pub change_of : ℕ → Bool → ℕ → ℕ → ℕ
change_of p member s z = cond member 0 (sub p z s)

-- the coins of the dealings by ds, which deal ss in the first run and zs in the matched run, moved
unfoldable pub moved_blocks : ℕ → ℕ → ℕ → List ℕ → List ℕ → List ℕ → List ℕ → List ℕ → List ℕ
moved_blocks p t set es [] ss zs cs = []
moved_blocks p t set es (d ∷ ds) ss zs cs =
    moved p (change_of p (in_set set d) (get_or ss 0 0) (get_or zs 0 0)) es (take t cs)
    ++ moved_blocks p t set es ds (drop 1 ss) (drop 1 zs) (drop t cs)

-- what coins are moved by: t coefficients and the inputs of both runs, elements all
pub record Movable (p t : ℕ) (es xs ys : List ℕ) : Type 0 where
  pub long : length es ≡ t
  pub coefficients : all_below p es ≡ true
  pub first : all_below p (numbers xs) ≡ true
  pub second : all_below p (numbers ys) ≡ true

-- the coins lent and the room for the new ones, k from place `at` on
pub record Lent (p at k : ℕ) (coins out : List ℕ) : Type 0 where
  pub below : all_below p (numbers coins) ≡ true
  pub here : at + k ≤ length coins / width
  pub there : at + k ≤ length out / width

-- k numbers are written from place `at` on, and those before it stay
pub record Written (at k : ℕ) (block old new : List ℕ) : Type 0 where
  pub front : take (at + k) (numbers new) ≡ take at (numbers old) ++ block

-- and `next` is the place after them
pub record Advanced (at k : ℕ) (block old new : List ℕ) (next : ℕ) : Type 0 where
  pub front : take (at + k) (numbers new) ≡ take at (numbers old) ++ block
  pub place : next ≡ at + k

-- who deals at a gate, t coins each
unfoldable pub dealers_in : Header → Gate → List ℕ
dealers_in h (Input s) = s ∷ []
dealers_in h (Add a b) = []
dealers_in h (Scale a c) = []
dealers_in h (Offset a c) = []
dealers_in h (Multiply a b) = tab suc (h.t + h.t + 1)
dealers_in h Random = tab suc h.n
dealers_in h (Spend a b) = []

-- what they deal, by a table of shares and the inputs from this gate on
unfoldable pub dealt_in : Header → Gate → List ℕ → List ℕ → List ℕ
dealt_in h (Input s) table xs = get_or xs 0 0 ∷ []
dealt_in h (Add a b) table xs = []
dealt_in h (Scale a c) table xs = []
dealt_in h (Offset a c) table xs = []
dealt_in h (Multiply a b) table xs = products_of h.field.p h.n (h.t + h.t + 1) a b table
dealt_in h Random table xs = take h.n xs
dealt_in h (Spend a b) table xs = []
