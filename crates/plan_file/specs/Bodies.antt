-- A plan as the bytes of a file, and a plan that is made: n, t, p and two bodies, gates and outs.
use Rattle.std.specs.Prelude.{ℕ, zero, suc, ◌+◌, ◌*◌, ◌/◌, ◌%◌, Bool, cond, ◌&&◌, eqb, leb, ltb, length, get_or}
use mathlib.Core.List.{List, [], ◌∷◌, ◌++◌, flat_map}
use Rattle.std.proofs.lemmas.List.Edits.{sets}
use Rattle.numbers.specs.Tables.{tab}
use Rattle.numbers.specs.Bytes.{bytes_from}
use Rattle.plan.specs.declared.Gate.{Gate}
use Rattle.plan.specs.declared.Rule.TheVariants.{Reduction}
use Rattle.plan.specs.declared.Output.{Output}
use Rattle.plan.specs.Refusals.{Checked}
use Rattle.plan.specs.declared.Refusal.TheVariants as refusal
use Rattle.plan.specs.Refusals.{need}
use Rattle.plan.specs.Plans.{Plan, party_count, kind_of, operands_of}
use Rattle.plan.specs.File.{magic, layout_for, gate_start, between, out_ok, parties_ok, threshold_ok, modulus_ok}

-- gates and outs, before they are a file
pub record Bodies : Type 0 where
  pub gates : List Gate
  pub outs : List Output

-- the plan that they make; the points are 1 to n
unfoldable pub plan_with : ℕ → ℕ → ℕ → Bodies → Plan
plan_with n t p b = record { t = t; p = p; points = tab suc n; gates = b.gates; outs = b.outs; rule = Reduction }

-- ---- the bytes, in version v
-- a list after others are written over it from a place on; past the end nothing changes
unfoldable pub written : List ℕ → ℕ → List ℕ → List ℕ
written s at bs = sets s at bs

-- numbers of w bytes each
unfoldable pub bytes_each : ℕ → List ℕ → List ℕ
bytes_each w xs = flat_map (bytes_from w) xs

-- a number in w bytes, the last as large as it comes
unfoldable pub open_from : ℕ → ℕ → List ℕ
open_from zero x = []
open_from (suc zero) x = x ∷ []
open_from (suc (suc w)) x = x % 256 ∷ open_from (suc w) (x / 256)

unfoldable pub gate_bytes : ℕ → Gate → List ℕ
gate_bytes v g = kind_of g ∷ 0 ∷ bytes_each (layout_for v).field (operands_of g)

unfoldable pub out_bytes : Output → List ℕ
out_bytes o = o.party ∷ bytes_each 2 (o.wire ∷ [])

unfoldable pub gates_bytes : ℕ → List Gate → List ℕ
gates_bytes v gates = flat_map (gate_bytes v) gates

-- none in a version without points
unfoldable pub points_bytes : ℕ → List ℕ → List ℕ
points_bytes v points = bytes_each (layout_for v).point points

-- where gate g stands, and out o after so many gates
unfoldable pub place_in : ℕ → ℕ → ℕ
place_in v g = gate_start (layout_for v) g

unfoldable pub out_start : ℕ → ℕ → ℕ → ℕ
out_start v gates o = place_in v gates + 3 * o

-- bytes 0 to 7
unfoldable pub started : ℕ → ℕ → ℕ → List ℕ
started v n t = magic ++ (v ∷ n ∷ t ∷ 0 ∷ [])

-- after p: the gates' offset and count, the outs' offset and count, and the points' offset in a version that has points
unfoldable pub counted : ℕ → ℕ → ℕ → List ℕ
counted v gates outs =
    bytes_each (layout_for v).field
    (place_in v 0 ∷ gates ∷ out_start v gates 0 ∷ outs ∷ cond (eqb (layout_for v).point 0) [] (out_start v gates outs ∷ []))

-- the contents. n, t and p are given as numbers and stand as they are: one that has no room in its bytes is refused by 3, 4 or 5
unfoldable pub contents : ℕ → ℕ → ℕ → ℕ → ℕ → ℕ → List ℕ
contents v n t p gates outs = started v n t ++ (open_from (layout_for v).field p ++ counted v gates outs)

unfoldable pub file_size : ℕ → ℕ → ℕ → ℕ → ℕ
file_size v n gates outs = out_start v gates outs + (layout_for v).point * n

-- a plan's file in version v
unfoldable pub file_as : ℕ → Plan → List ℕ
file_as v plan =
    contents v (party_count plan) plan.t plan.p (length plan.gates) (length plan.outs)
    ++ (gates_bytes v plan.gates ++ (flat_map out_bytes plan.outs ++ points_bytes v plan.points))

-- ---- the file of a plan that is made: of version 1 where p has two bytes, else of version 3
unfoldable pub version_for : ℕ → ℕ
version_for p = cond (ltb p 65536) 1 3

unfoldable pub file_of_plan : ℕ → ℕ → ℕ → Bodies → List ℕ
file_of_plan n t p b = file_as (version_for p) (plan_with n t p b)

-- ---- refusals 3 to 6, by what decides them in such a file
unfoldable pub content_checks : ℕ → ℕ → ℕ → ℕ → ℕ → List Checked
content_checks n t p gates outs =
    need refusal.Parties (parties_ok n)
    ∷ need refusal.Threshold (threshold_ok n t)
    ∷ need refusal.Modulus (modulus_ok n p)
    ∷ need refusal.Layout (between 1 1024 gates && leb outs 64)
    ∷ []

-- 8: an out's party, and a wire that there is
unfoldable pub out_made : ℕ → Bodies → ℕ → Bool
out_made n b o = out_ok n (length b.gates) (get_or b.outs o (record { party = 0; wire = 0 }))

-- above every number of a field in version v: a plan whose prime is below it may be written so
unfoldable pub field_limit : ℕ → ℕ
field_limit v = cond (eqb (layout_for v).field 2) 65536 4294967296
