-- Gates in a row, as bytes of version v.
--     gates_long, none_bytes, one_put     how long; no gate, and one
--     place_next, gates_then              gates written after gates
--     file_put                            the contents, gates, outs and points that make a file
-- Assumes nothing.
use Prim.Native.Nat.{ℕ, ◌+◌, ◌*◌}
use mathlib.Core.Path.{◌≡◌, refl, sym, ap, ◌∙◌}
use mathlib.Core.List.{List, [], ◌∷◌, ◌++◌, flat_map, append-nil}
use native.Mathlib.Omega.{arith}
use native.Mathlib.Nat.{mul-add}
use lib.ListN.{length}
use Rattle.numbers.proofs.Rows.{flat_append, flat-length}
use Rattle.plan.specs.declared.Gate.{Gate}
use Rattle.plan.specs.Plans.{Plan, party_count}
use Rattle.plan.specs.File.{layout_for, gate_start}
use Rattle.plan_file.specs.Bodies.{written, gate_bytes, gates_bytes, out_bytes, points_bytes, place_in, out_start, contents, file_as}
use Rattle.plan_file.proofs.Files.{gate_long, out_long, contents_long}
use Rattle.plan_file.proofs.Writing.{written_then}

pub gates_long : (v : ℕ) (xs : List Gate) → length (gates_bytes v xs) ≡ (2 + 2 * (layout_for v).field) * length xs
unfolding gates_bytes
gates_long v xs = flat-length (gate_bytes v) (2 + 2 * (layout_for v).field) (gate_long v) xs

pub place_next : (v g k : ℕ) → place_in v (g + k) ≡ place_in v g + (2 + 2 * (layout_for v).field) * k
unfolding place_in gate_start
place_next v g k =
    let size : ℕ = 2 + 2 * (layout_for v).field in
    let split : size * (g + k) ≡ size * g + size * k = mul-add size g k in
    omega (arith, split)

pub gates_then : (v : ℕ) (s s1 s2 : List ℕ) (g h : ℕ) (xs ys : List Gate) → s1 ≡ written s (place_in v g) (gates_bytes v xs) → s2 ≡ written s1 (place_in v h) (gates_bytes v ys) → h ≡ g + length xs
    → s2 ≡ written s (place_in v g) (gates_bytes v (xs ++ ys))
gates_then v s s1 s2 g h xs ys e f l =
    written_then s s1 s2 (gates_bytes v xs) (gates_bytes v ys) (place_in v g) (place_in v h) e f
    (ap (place_in v) l ∙ place_next v g (length xs) ∙ ap (λ (k : ℕ). place_in v g + k) (sym (gates_long v xs)))
    ∙ ap (written s (place_in v g)) (unfold gates_bytes in sym (flat_append (gate_bytes v) xs ys))

one_gate : (v : ℕ) (x : Gate) → gates_bytes v (x ∷ []) ≡ gate_bytes v x
unfolding gates_bytes flat_map
one_gate v x = append-nil (gate_bytes v x)

pub one_put : (v : ℕ) (s new : List ℕ) (g : ℕ) (x : Gate) → new ≡ written s (place_in v g) (gate_bytes v x) → new ≡ written s (place_in v g) (gates_bytes v (x ∷ []))
one_put v s new g x e = rw (one_gate v x) e

pub written_none : (s : List ℕ) (at : ℕ) → written s at [] ≡ s
unfolding written
written_none s at = refl

pub none_bytes : (v : ℕ) → gates_bytes v [] ≡ []
unfolding gates_bytes flat_map
none_bytes v = refl

-- ---- a file, part by part
pub file_put : (v : ℕ) (plan : Plan) (s s1 s2 s3 s4 : List ℕ)
    → s1 ≡ written s 0 (contents v (party_count plan) plan.t plan.p (length plan.gates) (length plan.outs))
    → s2 ≡ written s1 (place_in v 0) (gates_bytes v plan.gates)
    → s3 ≡ written s2 (out_start v (length plan.gates) 0) (flat_map out_bytes plan.outs)
    → s4 ≡ written s3 (out_start v (length plan.gates) (length plan.outs)) (points_bytes v plan.points) → s4 ≡ written s 0 (file_as v plan)
unfolding file_as out_start
file_put v plan s s1 s2 s3 s4 a b c d =
    let head : List ℕ = contents v (party_count plan) plan.t plan.p (length plan.gates) (length plan.outs) in
    let gates : List ℕ = gates_bytes v plan.gates in
    let outs : List ℕ = flat_map out_bytes plan.outs in
    let points : List ℕ = points_bytes v plan.points in
    let first : place_in v 0 ≡ 0 + length head = unfold place_in in unfold gate_start in omega (arith, contents_long v (party_count plan) plan.t plan.p (length plan.gates) (length plan.outs)) in
    let none : length plan.gates ≡ 0 + length plan.gates = omega arith in
    let second : place_in v (length plan.gates) + 3 * 0 ≡ place_in v 0 + length gates = omega (arith, ap (place_in v) none, place_next v 0 (length plan.gates), gates_long v plan.gates) in
    let third : place_in v (length plan.gates) + 3 * length plan.outs ≡ place_in v (length plan.gates) + 3 * 0 + length outs = omega (arith, flat-length out_bytes 3 out_long plan.outs) in
    written_then s s1 s4 head (gates ++ (outs ++ points)) 0 (place_in v 0) a
    (written_then s1 s2 s4 gates (outs ++ points) (place_in v 0) (place_in v (length plan.gates) + 3 * 0) b
    (written_then s2 s3 s4 outs points (place_in v (length plan.gates) + 3 * 0) (place_in v (length plan.gates) + 3 * length plan.outs) c d third) second) first
