-- The plan's own arithmetic, without shares (the results granted to a set); a random wire is the sum of its draws.
use Rattle.std.specs.Prelude.{ℕ, List, [], ◌∷◌, ◌++◌, map, length, take, drop, get_or}
use Rattle.field.specs.Mod.{add, mul}
use Rattle.plan.specs.declared.Gate.{Gate}
use Rattle.plan.specs.declared.Gate.TheVariants.{Input, Add, Scale, Offset, Multiply, Random, Spend}
use Rattle.sharing_laws.specs.Basis.{sum_all}
use Rattle.plan.specs.Plans.{Plan, party_count, out_wires, input_owners_at}

-- the inputs that a gate takes from the list of all
unfoldable pub inputs_taken : Plan → Gate → ℕ
inputs_taken plan g = length (input_owners_at plan g)

-- the value of a gate's wire, from the values of the wires before it and the inputs from this gate on
unfoldable pub gate_value : Plan → Gate → List ℕ → List ℕ → ℕ
gate_value plan (Input s) env xs = get_or xs 0 0
gate_value plan (Add a b) env xs = add plan.p (get_or env a 0) (get_or env b 0)
gate_value plan (Scale a c) env xs = mul plan.p (get_or env a 0) c
gate_value plan (Offset a c) env xs = add plan.p (get_or env a 0) c
gate_value plan (Multiply a b) env xs = mul plan.p (get_or env a 0) (get_or env b 0)
gate_value plan Random env xs = sum_all plan.p (take (party_count plan) xs)
gate_value plan (Spend a b) env xs = mul plan.p (get_or env a 0) (get_or env b 0)

-- the wires' values after these gates, given those before them
unfoldable pub values_from : Plan → List Gate → List ℕ → List ℕ → List ℕ
values_from plan [] env xs = env
values_from plan (g ∷ gs) env xs = values_from plan gs (env ++ (gate_value plan g env xs ∷ [])) (drop (inputs_taken plan g) xs)

unfoldable pub values : Plan → List ℕ → List ℕ
values plan xs = values_from plan plan.gates [] xs

-- what the plan grants to party i, in the order of its outs
unfoldable pub granted : Plan → List ℕ → ℕ → List ℕ
granted plan xs i = map (λ w. get_or (values plan xs) w 0) (out_wires plan i)
