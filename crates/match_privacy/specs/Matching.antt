-- The matching of coins: a dealing by a non-member whose dealt value changes by d has d times the
-- coefficients of delta, the polynomial that is 1 at 0 and 0 at the members' points, added to its coins; members' coins stay. Where a
-- multiply truncates, the lowest non-member's dealing of 0 first takes up the change of the product but for its value times delta.
use Rattle.std.specs.Prelude.{ℕ, ◌+◌, ◌-◌, ◌*◌, Bool, true, false, cond, List, [], ◌∷◌, ◌++◌, map, eqb, take, drop, get_or}
use Rattle.field.specs.Mod.{sub}
use Rattle.sharing_laws.specs.Sharing.{matched}
use Rattle.plan.specs.declared.Gate.{Gate}
use Rattle.plan.specs.declared.Rule.{Rule}
use Rattle.plan.specs.declared.Rule.TheVariants.{Reduction, Truncation}
use Rattle.plan.specs.declared.Dealing.{Dealing}
use Rattle.sharing_laws.specs.Basis.{fitted, matched_zero}
use Rattle.plan.specs.Plans.{is_kind, operands_of, Plan, parties, point_of, dealer_points, dealings_at}
use Rattle.run_protocol.specs.Shares.{Before, product_of, dealt_at, past, start_of}

unfoldable pub is_member : ℕ → List ℕ → Bool
is_member i [] = false
is_member i (c ∷ cs) = cond (eqb i c) true (is_member i cs)

-- the new coins of these dealings, of ss in the first run and zs in the matched run
unfoldable pub matched_blocks : Plan → List ℕ → List Dealing → List ℕ → List ℕ → List ℕ → List ℕ
matched_blocks plan ms [] ss zs cs = []
matched_blocks plan ms (d ∷ ds) ss zs cs =
    cond (is_member d.dealer ms) (take d.coins cs)
    (matched plan.p (map (point_of plan) ms) (sub plan.p (get_or zs 0 0) (get_or ss 0 0)) (take d.coins cs))
    ++ matched_blocks plan ms ds (drop 1 ss) (drop 1 zs) (drop d.coins cs)

-- ---- the coins of a dealing of 0 that take up a change
-- the first of these parties that is no member
unfoldable pub lowest_of : List ℕ → List ℕ → ℕ
lowest_of ms [] = 0
lowest_of ms (i ∷ is) = cond (is_member i ms) (lowest_of ms is) i

unfoldable pub lowest : Plan → List ℕ → ℕ
lowest plan ms = lowest_of ms (parties plan)

-- the polynomial by which the product of wires a and b changes
unfoldable pub change_of : Plan → Before → Before → ℕ → ℕ → List ℕ
change_of plan s s' a b =
    fitted plan.p (dealer_points plan)
    (map (λ x. sub plan.p (product_of plan s'.env a b x) (product_of plan s.env a b x)) (dealer_points plan))

-- a multiply's coins, in which the 2t coins of the dealing of 0 by party i take up the change f
unfoldable pub zero_matched : Plan → List ℕ → ℕ → List ℕ → List ℕ → List ℕ
zero_matched plan ms i f cs =
    take (3 * plan.t * (i - 1)) cs
    ++ (matched_zero plan.p (map (point_of plan) ms) f (take (plan.t + plan.t) (drop (3 * plan.t * (i - 1)) cs))
    ++ drop (3 * plan.t * (i - 1) + (plan.t + plan.t)) cs)

unfoldable pub absorbed_by : Plan → Rule → List ℕ → Before → Before → ℕ → ℕ → List ℕ
absorbed_by plan Reduction ms s s' a b = s.coins
absorbed_by plan Truncation ms s s' a b = zero_matched plan ms (lowest plan ms) (change_of plan s s' a b) s.coins

-- the coins from a gate on, with its dealings of 0 matched
unfoldable pub absorbed : Plan → List ℕ → Gate → Before → Before → List ℕ
absorbed plan ms g s s' =
    cond (is_kind 5 g) (absorbed_by plan plan.rule ms s s' (get_or (operands_of g) 0 0) (get_or (operands_of g) 1 0)) s.coins

-- ---- one plan
unfoldable pub with_coins : List ℕ → Before → Before
with_coins cs s = record { env = s.env; inputs = s.inputs; coins = cs; triples = s.triples }

-- a gate's new coins, from the first run and the matched run before it
unfoldable pub matched_at : Plan → List ℕ → Gate → Before → Before → List ℕ
matched_at plan ms g s s' =
    matched_blocks plan ms (dealings_at plan g) (dealt_at plan g s) (dealt_at plan g (with_coins (absorbed plan ms g s s') s')) (absorbed plan ms g s s')

unfoldable pub match_from : Plan → List ℕ → List Gate → Before → Before → List ℕ
match_from plan ms [] s s' = []
match_from plan ms (g ∷ gs) s s' =
    matched_at plan ms g s s'
    ++ match_from plan ms gs (past plan g s) (past plan g (with_coins (matched_at plan ms g s s') s'))

-- all coins of the matched run, for the members ms, the first list of inputs xs and the second ys, and each run's triples
unfoldable pub matched_with : Plan → List ℕ → List (ℕ → ℕ) → List (ℕ → ℕ) → List ℕ → List ℕ → List ℕ → List ℕ
matched_with plan ms ts ts' xs ys coins = match_from plan ms plan.gates (start_of xs coins ts) (start_of ys [] ts')

-- a plan without kind 7
unfoldable pub matched_coins : Plan → List ℕ → List ℕ → List ℕ → List ℕ → List ℕ
matched_coins plan ms xs ys coins = matched_with plan ms [] [] xs ys coins
