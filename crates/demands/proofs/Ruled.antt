-- The plan's own arithmetic does not ask for the multiply rule; so both rules grant the same results.
--     granted-under     what a plan grants under another rule
--     same_results      the claim
-- Assumes nothing.
use Prim.Native.Nat.{ℕ}
use mathlib.Core.Path.{◌≡◌, refl, sym, ap, ◌∙◌}
use mathlib.Core.List.{List, [], ◌∷◌, ◌++◌, map}
use lib.ListN.{drop, get_or}
use Rattle.numbers.specs.Bytes.{bytes_of}
use Rattle.plan.specs.declared.Gate.{Gate}
use Rattle.plan.specs.declared.Gate.TheVariants.{Input, Add, Scale, Offset, Multiply, Random, Spend}
use Rattle.plan.specs.declared.Rule.{Rule}
use Rattle.plan.specs.Plans.{Plan, party_count, parties, out_wires, input_owners_at}
use Rattle.plan.specs.File.{plan_of}
use Rattle.run_protocol.specs.Ideal.{inputs_taken, gate_value, values_from, values, granted}
use Rattle.demands.specs.Further.{under, SameResults}
use Rattle.demands.proofs.Apart.{demand2}

module _ (rule : Rule) (plan : Plan) where
  value-under : (x : Gate) (env xs : List ℕ) → gate_value (under rule plan) x env xs ≡ gate_value plan x env xs
  unfolding under gate_value party_count
  value-under (Input s) env xs = refl
  value-under (Add a b) env xs = refl
  value-under (Scale a c) env xs = refl
  value-under (Offset a c) env xs = refl
  value-under (Multiply a b) env xs = refl
  value-under Random env xs = refl
  value-under (Spend a b) env xs = refl

  taken-under : (x : Gate) → inputs_taken (under rule plan) x ≡ inputs_taken plan x
  unfolding under inputs_taken input_owners_at parties party_count
  taken-under (Input s) = refl
  taken-under (Add a b) = refl
  taken-under (Scale a c) = refl
  taken-under (Offset a c) = refl
  taken-under (Multiply a b) = refl
  taken-under Random = refl
  taken-under (Spend a b) = refl

  values-under : (gs : List Gate) (env xs : List ℕ) → values_from (under rule plan) gs env xs ≡ values_from plan gs env xs
  unfolding values_from
  values-under [] env xs = refl
  values-under (x ∷ gs) env xs =
      rw (value-under x env xs, taken-under x) (values-under gs (env ++ (gate_value plan x env xs ∷ [])) (drop (inputs_taken plan x) xs))

  pub granted-under : (xs : List ℕ) (i : ℕ) → granted (under rule plan) xs i ≡ granted plan xs i
  unfolding granted values under out_wires
  granted-under xs i = ap (λ (vs : List ℕ). map (λ w. get_or vs w 0) (out_wires plan i)) (values-under plan.gates [] xs)

pub same_results : SameResults
unfolding under party_count
same_results first second xs coins coins' ts ts' lent lent' rule bytes bytes' same given given' room room' i from1 upto =
    (demand2 second xs coins' ts' lent' bytes' given' room').results i from1 (rw same upto)
    ∙ ap bytes_of (ap (λ (plan : Plan). granted plan xs i) same ∙ granted-under rule (plan_of first) xs i)
    ∙ sym ((demand2 first xs coins ts lent bytes given room).results i from1 upto)
