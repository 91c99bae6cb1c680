-- The coins of a multiply by truncation, moved party by party.
use Rattle.std.specs.Prelude.{ℕ, suc, ◌+◌, ◌-◌, ◌*◌, ◌≡◌, Bool, true, false, cond, List, ◌++◌, eqb, ltb, length, take, drop, get_or}
use mathlib.Core.List.{flat_map}
use Rattle.numbers.specs.Tables.{tab}
use Rattle.numbers.specs.Bytes.{all_below}
use Rattle.field.specs.Mod.{mul, sub}
use Rattle.plan.specs.declared.Gate.{Gate}
use Rattle.plan.specs.declared.Rule.{Rule}
use Rattle.plan.specs.declared.Rule.TheVariants.{Reduction, Truncation}
use Rattle.plan.specs.declared.Header.{Header}
use Rattle.plan.specs.Plans.{is_kind, operands_of}
use Rattle.plan_coalition.specs.Coalitions.{in_set}
use Rattle.sharing_laws.specs.Poly.{padded}
use Rattle.sharing_laws.specs.Basis.{fitted}
use Rattle.run_dealings.specs.Rows.{products_of}
use Rattle.match_moves.specs.Moves.{moved, moved_blocks, dealers_in, dealt_in}

-- by how much the products of the first m parties change
unfoldable pub changes_of : ℕ → ℕ → ℕ → ℕ → ℕ → List ℕ → List ℕ → List ℕ
changes_of p n m a b before after = tab (λ i. sub p (get_or (products_of p n m a b after) i 0) (get_or (products_of p n m a b before) i 0)) m

-- the polynomial with these values at the points, m coefficients in all
unfoldable pub change_by : ℕ → ℕ → List ℕ → List ℕ → List ℕ
change_by p m points changes = padded m (take m (fitted p points changes))

-- what coin j of a dealing of 0 gains that takes up the change f: less its coefficient, and its constant times delta's; and what k coins do
unfoldable pub gain_of : ℕ → List ℕ → List ℕ → ℕ → ℕ
gain_of p es f j = sub p (mul p (get_or f 0 0) (get_or es j 0)) (get_or f (j + 1) 0)

unfoldable pub gains_of : ℕ → ℕ → List ℕ → List ℕ → List ℕ
gains_of p k es f = tab (gain_of p es f) k

-- the coins of party i + 1's dealing of 0, which gain these where it is the party `low`
unfoldable pub zero_row : ℕ → ℕ → ℕ → List ℕ → List ℕ → ℕ → List ℕ
zero_row p t low gains cs i = cond (eqb (suc i) low) (moved p 1 gains (take (t + t) cs)) (take (t + t) cs)

-- by how much those of its dealing of its masked product move, where the product changes by e
unfoldable pub mask_change_of : ℕ → ℕ → List ℕ → ℕ → ℕ → ℕ
mask_change_of p set spares e i = cond (in_set set (suc i)) 0 (mul p e (get_or spares i 0))

-- both
unfoldable pub party_row : ℕ → ℕ → ℕ → ℕ → List ℕ → List ℕ → ℕ → List ℕ → List ℕ → ℕ → List ℕ
party_row p t set low es spares e gains cs i =
    zero_row p t low gains cs i ++ moved p (mask_change_of p set spares e i) es (take t (drop (t + t) cs))

-- all parties' coins
unfoldable pub party_at : ℕ → ℕ → ℕ → ℕ → List ℕ → List ℕ → ℕ → List ℕ → List ℕ → ℕ → List ℕ
party_at p t set low es spares e gains cs i = party_row p t set low es spares e gains (drop (3 * t * i) cs) i

unfoldable pub party_rows : ℕ → ℕ → ℕ → ℕ → ℕ → List ℕ → List ℕ → ℕ → List ℕ → List ℕ → List ℕ
party_rows p n t set low es spares e gains cs = flat_map (party_at p t set low es spares e gains cs) (tab (λ i. i) n)

-- by the change f of the product
unfoldable pub truncated_coins : ℕ → ℕ → ℕ → ℕ → ℕ → List ℕ → List ℕ → List ℕ → List ℕ → List ℕ
truncated_coins p n t set low es spares f cs = party_rows p n t set low es spares (get_or f 0 0) (gains_of p (t + t) es f) cs

-- ---- a gate's coins, by its kind and the rule
unfoldable pub truncates : Rule → Gate → Bool
truncates Reduction g = false
truncates Truncation g = is_kind 5 g

unfoldable pub coins_in : Header → Gate → ℕ
coins_in h g = cond (truncates h.rule g) (3 * h.t * h.n) (h.t * length (dealers_in h g))

-- moved, where both runs' inputs from this gate on are xs and ys, and the coins cs
unfoldable pub gate_block : Header → ℕ → ℕ → List ℕ → List ℕ → List ℕ → Gate → List ℕ → List ℕ → List ℕ → List ℕ → List ℕ → List ℕ
gate_block h set low es spares dealers g before after xs ys cs =
    cond (truncates h.rule g)
    (truncated_coins h.field.p h.n h.t set low es spares
    (change_by h.field.p (h.t + h.t + 1) dealers (changes_of h.field.p h.n (h.t + h.t + 1) (get_or (operands_of g) 0 0) (get_or (operands_of g) 1 0) before after)) cs)
    (moved_blocks h.field.p h.t set es (dealers_in h g) (dealt_in h g before xs) (dealt_in h g after ys) cs)

-- ---- what the change is fitted to
-- how many dealers' points the change is fitted to: none where the plan's multiplies do not truncate, or it can have none
unfoldable pub fitted_by : Rule → ℕ → ℕ → ℕ
fitted_by Reduction n t = 0
fitted_by Truncation n t = cond (ltb (2 * t) n) (t + t + 1) 0

-- polynomials of degree t' or less modulo p are fitted at the first of these points
pub record Fitted (h : Header) (points : List ℕ) (p t' : ℕ) (ds : List ℕ) : Type 0 where
  pub field : p ≡ h.field.p
  pub are : ds ≡ take (fitted_by h.rule h.n h.t) points
  pub dealers : length ds ≡ fitted_by h.rule h.n h.t
  pub degree : t' ≡ length ds - 1

-- and delta's values at the parties' points are elements
pub record Truncating (h : Header) (p t' : ℕ) (points spares : List ℕ) : Type 0 where
  pub field : p ≡ h.field.p
  pub dealers : length points ≡ fitted_by h.rule h.n h.t
  pub degree : t' ≡ length points - 1
  pub many : length spares ≡ h.n
  pub elements : all_below h.field.p spares ≡ true
