-- A multiply by truncation without its pieces.
--     truncated_share      the products weighed by the matrix, and the dealings of 0 with t coins each
-- Assumes nothing.
use mathlib.Core.Path.{◌≡◌, sym, ap, ◌∙◌}
use mathlib.Core.List.{List, ◌∷◌, map}
use Prim.Native.Nat.{ℕ, suc, ◌+◌, ◌-◌, ◌*◌, ◌<◌}
use native.Mathlib.Omega.{arith}
use lib.ListN.{take, drop, length-take}
use lib.Seq.{take-take}
use Rattle.numbers.specs.Tables.{tab}
use Rattle.field.specs.Mod.{add}
use Rattle.sharing_laws.specs.Poly.{eval}
use Rattle.sharing_laws.specs.Interp.{dot}
use Rattle.sharing_laws.specs.Basis.{sum_all, row}
use Rattle.sharing_laws.proofs.ReducedStep.{step_parts}
use Rattle.plan.specs.declared.Gate.TheVariants.{Multiply}
use Rattle.plan.specs.declared.Rule.TheVariants.{Truncation}
use Rattle.plan.specs.Plans.{Plan, party_count, parties, point_of}
use Rattle.plan.proofs.Valid.{Valid}
use Rattle.run_protocol.specs.Shares.{Before, wire_at, product_of, gate_share}
use Rattle.run_protocol.proofs.Dealings.{sum-tab}
use Rattle.run_protocol.proofs.Gates.{zeros_of, masks_of, before-suc, parties_points, reduced-as}

pub truncated_share :
    (plan : Plan) → Valid plan → plan.rule ≡ Truncation → plan.t + plan.t < party_count plan → (s : Before) (a b x : ℕ)
    → gate_share plan (Multiply a b) s x
    ≡ add plan.p (dot plan.p (row plan.p plan.t plan.points x) (map (product_of plan s.env a b) plan.points))
    (sum_all plan.p (tab (λ d. eval plan.p (0 ∷ take plan.t (drop (3 * plan.t * d) s.coins)) x) (party_count plan)))
unfolding product_of party_count parties zeros_of masks_of
truncated_share plan valid by majority s a b x =
    let t : ℕ = plan.t in
    let zero : List ℕ → ℕ = λ zs. eval plan.p (0 ∷ zs) x in
    reduced-as plan s a b by x
    ∙ step_parts valid.prime t plan.points (parties plan) (point_of plan) (parties_points plan) valid.distinct majority (wire_at s.env a) (wire_at s.env b)
    (zeros_of t s.coins) (masks_of t s.coins)
    (λ i. omega (arith, length-take (t + t) (drop (3 * t * (i - 1)) s.coins)))
    (λ i. omega (arith, length-take t (drop (3 * t * (i - 1) + (t + t)) s.coins))) x
    ∙ ap (add plan.p (dot plan.p (row plan.p t plan.points x) (map (product_of plan s.env a b) plan.points)))
    (sym (sum-tab plan.p (λ d. zero (take t (drop (3 * t * d) s.coins))) suc (λ i. zero (take t (zeros_of t s.coins i))) (party_count plan)
    (λ j. ap (λ (k : ℕ). zero (take t (drop (3 * t * k) s.coins))) (before-suc j)
    ∙ ap zero (sym (take-take t (t + t) (drop (3 * t * (suc j - 1)) s.coins) (omega arith))))))
