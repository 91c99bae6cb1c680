-- The plan file of versions 1 to 4: its checks, 1 to 8, 25 and 26, and the plan that it stands for.
use Rattle.std.specs.Prelude.{Option, Some, None, ℕ, suc, ◌+◌, ◌*◌, Bool, true, false, cond, not, ◌&&◌, List, [], ◌∷◌, eqb, leb, ltb, length, take, get_or}
use Rattle.numbers.specs.Tables.{tab, first_failing, count_where}
use Rattle.numbers.specs.Bytes.{number_at, word_at}
use Rattle.field.specs.Prime.{is_prime}
use Rattle.plan.specs.declared.Gate.{Gate}
use Rattle.plan.specs.declared.Gate.TheVariants.{Input, Add, Scale, Offset, Multiply, Random, Spend}
use Rattle.plan.specs.declared.Rule.{Rule}
use Rattle.plan.specs.declared.Rule.TheVariants.{Reduction, Truncation}
use Rattle.plan.specs.declared.Output.{Output}
use Rattle.plan.specs.declared.Layout.{Layout}
use Rattle.plan.specs.declared.Refusal.TheVariants as refusal
use Rattle.plan.specs.Refusals.{Checked, first_of, need, unless_found}
use Rattle.plan.specs.Plans.{Plan, is_kind, multiplying}

-- the ASCII letters POOL
unfoldable pub magic : List ℕ
magic = 80 ∷ 79 ∷ 79 ∷ 76 ∷ []

unfoldable pub same_bytes : List ℕ → List ℕ → Bool
same_bytes [] [] = true
same_bytes (x ∷ xs) (y ∷ ys) = eqb x y && same_bytes xs ys
same_bytes _ _ = false

unfoldable pub between : ℕ → ℕ → ℕ → Bool
between a b x = leb a x && leb x b

-- the contents' bytes
abbrev pub version_at : List ℕ → ℕ
version_at bs = get_or bs 4 0

abbrev pub n_at : List ℕ → ℕ
n_at bs = get_or bs 5 0

abbrev pub t_at : List ℕ → ℕ
t_at bs = get_or bs 6 0

-- ---- the layout of a version: the contents, then gates, outs of three bytes, and points
-- bytes of the contents, of a field in them and of a gate's a and b, and of a point; no bytes of a point: the file has none, and the points are 1 to n
unfoldable pub layout_for : ℕ → Layout
layout_for version =
    cond (eqb version 1) (record { head = 18; field = 2; point = 0 })
    (cond (eqb version 2) (record { head = 20; field = 2; point = 2 })
    (record { head = 32; field = 4; point = 4 }))

-- its multiply rule
abbrev pub rule_for : ℕ → Rule
rule_for version = cond (eqb version 4) Truncation Reduction

-- where gate g stands
unfoldable pub gate_start : Layout → ℕ → ℕ
gate_start l g = l.head + (2 + 2 * l.field) * g

abbrev pub layout_of : List ℕ → Layout
layout_of bs = layout_for (version_at bs)

-- field k of the contents, from byte 8 on: p, the gates' offset, their count, the outs' offset, their count, the points' offset
unfoldable pub field_at : List ℕ → ℕ → ℕ
field_at bs k = number_at (layout_of bs).field bs (8 + (layout_of bs).field * k)

abbrev pub p_at : List ℕ → ℕ
p_at bs = field_at bs 0

abbrev pub gate_count_at : List ℕ → ℕ
gate_count_at bs = field_at bs 2

abbrev pub out_count_at : List ℕ → ℕ
out_count_at bs = field_at bs 4

-- where gate g stands, out o and point i
unfoldable pub gate_place : List ℕ → ℕ → ℕ
gate_place bs g = gate_start (layout_of bs) g

unfoldable pub out_place : List ℕ → ℕ → ℕ
out_place bs o = gate_place bs (gate_count_at bs) + 3 * o

unfoldable pub point_place : List ℕ → ℕ → ℕ
point_place bs i = out_place bs (out_count_at bs) + (layout_of bs).point * i

-- a gate by its kind, second byte, a and b; what is none reads as an input of party 0, which no plan admits
unfoldable pub gate_of : ℕ → ℕ → ℕ → ℕ → Gate
gate_of kind second a b =
    cond (eqb second 0)
    (cond (eqb kind 1) (cond (eqb b 0) (Input a) (Input 0))
    (cond (eqb kind 2) (Add a b)
    (cond (eqb kind 3) (Scale a b)
    (cond (eqb kind 4) (Offset a b)
    (cond (eqb kind 5) (Multiply a b)
    (cond (eqb kind 6) (cond (eqb a 0 && eqb b 0) Random (Input 0))
    (cond (eqb kind 7) (Spend a b) (Input 0))))))))
    (Input 0)

-- the gate at a place, its a and b of w bytes
unfoldable pub gate_from : ℕ → List ℕ → ℕ → Gate
gate_from w bs at = gate_of (get_or bs at 0) (get_or bs (at + 1) 0) (number_at w bs (at + 2)) (number_at w bs (at + 2 + w))

unfoldable pub gate_at : List ℕ → ℕ → Gate
gate_at bs g = gate_from (layout_of bs).field bs (gate_place bs g)

unfoldable pub out_at : List ℕ → ℕ → Output
out_at bs o = record { party = get_or bs (out_place bs o) 0; wire = word_at bs (out_place bs o + 1) }

-- the point of party i + 1
unfoldable pub point_at : List ℕ → ℕ → ℕ
point_at bs i = cond (eqb (layout_of bs).point 0) (suc i) (number_at (layout_of bs).point bs (point_place bs i))

-- gate g keeps its kind's rule
unfoldable pub gate_ok : ℕ → ℕ → ℕ → Gate → Bool
gate_ok n p g (Input s) = between 1 n s
gate_ok n p g (Add a b) = ltb a g && ltb b g
gate_ok n p g (Scale a c) = ltb a g && ltb c p
gate_ok n p g (Offset a c) = ltb a g && ltb c p
gate_ok n p g (Multiply a b) = ltb a g && ltb b g
gate_ok n p g Random = true
gate_ok n p g (Spend a b) = ltb a g && ltb b g

unfoldable pub out_ok : ℕ → ℕ → Output → Bool
out_ok n gates o = between 1 n o.party && ltb o.wire gates

-- a gate that multiplies takes 2t below n
unfoldable pub majority_ok : ℕ → ℕ → Gate → Bool
majority_ok n t g = cond (multiplying g) (ltb (2 * t) n) true

-- as many gates of a plan may spend a triple: a plan that prepares their triples has three gates for each
abbrev pub spend_limit : ℕ
spend_limit = 341

-- of the gates up to gate g no more spend one
unfoldable pub spends_kept : List ℕ → ℕ → Bool
spends_kept bs g = leb (count_where (is_kind 7) (tab (gate_at bs) (suc g))) spend_limit

-- gate g of a plan keeps its rule, and out o its own; gate g has its majority
unfoldable pub gate_kept : List ℕ → ℕ → Bool
gate_kept bs g = gate_ok (n_at bs) (p_at bs) g (gate_at bs g) && spends_kept bs g

unfoldable pub out_kept : List ℕ → ℕ → Bool
out_kept bs o = out_ok (n_at bs) (gate_count_at bs) (out_at bs o)

unfoldable pub majority_kept : List ℕ → ℕ → Bool
majority_kept bs g = majority_ok (n_at bs) (t_at bs) (gate_at bs g)

-- a search that found nothing
unfoldable pub found_none : Option ℕ → Bool
found_none (Some i) = false
found_none None = true

-- the point of party i + 1 is not 0, is below p and is no earlier party's
unfoldable pub point_apart : List ℕ → ℕ → ℕ → Bool
point_apart bs i j = not (eqb (point_at bs j) (point_at bs i))

unfoldable pub point_kept : List ℕ → ℕ → Bool
point_kept bs i = ltb 0 (point_at bs i) && (ltb (point_at bs i) (p_at bs) && found_none (first_failing (point_apart bs i) i))

-- the points' offset, where the file has points, and its end
unfoldable pub points_placed : List ℕ → Bool
points_placed bs = cond (eqb (layout_of bs).point 0) true (eqb (field_at bs 5) (point_place bs 0)) && eqb (length bs) (point_place bs (n_at bs))

unfoldable pub layout_ok : List ℕ → Bool
layout_ok bs =
    eqb (get_or bs 7 0) 0
    && (eqb (field_at bs 1) (gate_place bs 0)
    && (between 1 1024 (gate_count_at bs)
    && (eqb (field_at bs 3) (out_place bs 0)
    && (leb (out_count_at bs) 64
    && points_placed bs))))

-- refusals 3 to 5, by n, t and p
abbrev pub parties_ok : ℕ → Bool
parties_ok n = between 1 15 n

abbrev pub threshold_ok : ℕ → ℕ → Bool
threshold_ok n t = ltb t n

-- above every prime of a plan
abbrev pub modulus_limit : ℕ
modulus_limit = 2147483648

-- a prime above n and below the limit
abbrev pub modulus_ok : ℕ → ℕ → Bool
modulus_ok n p = (ltb p modulus_limit && is_prime p) && ltb n p

-- refusal 25: a gate multiplies, and 2t is not below n
unfoldable pub majority_check : List ℕ → Checked
majority_check bs = unless_found (λ g. refusal.Majority) (first_failing (majority_kept bs) (gate_count_at bs))

-- refusal 26
unfoldable pub points_check : List ℕ → Checked
points_check bs = unless_found (λ i. refusal.Points) (first_failing (point_kept bs) (n_at bs))

-- refusals 1 to 8, 25 and 26
unfoldable pub plan_checks : List ℕ → List Checked
plan_checks bs =
    need refusal.Magic (leb 18 (length bs) && same_bytes (take 4 bs) magic)
    ∷ need refusal.Version (between 1 4 (version_at bs))
    ∷ need refusal.Parties (parties_ok (n_at bs))
    ∷ need refusal.Threshold (threshold_ok (n_at bs) (t_at bs))
    ∷ need refusal.Modulus (modulus_ok (n_at bs) (p_at bs))
    ∷ need refusal.Layout (layout_ok bs)
    ∷ unless_found refusal.GateRule (first_failing (gate_kept bs) (gate_count_at bs))
    ∷ unless_found refusal.OutputRule (first_failing (out_kept bs) (out_count_at bs))
    ∷ majority_check bs
    ∷ points_check bs
    ∷ []

unfoldable pub plan_check : List ℕ → Checked
plan_check bs = first_of (plan_checks bs)

-- the plan of bytes that pass
unfoldable pub plan_of : List ℕ → Plan
plan_of bs =
    record {
      t = t_at bs;
      p = p_at bs;
      points = tab (point_at bs) (n_at bs);
      gates = tab (gate_at bs) (gate_count_at bs);
      outs = tab (out_at bs) (out_count_at bs);
      rule = rule_for (version_at bs);
    }

-- ---- for the code alone: no other definition and no demand cites these
-- the modulus of the field of such a prime
unfoldable pub field_above : ℕ → ℕ → Option ℕ
field_above n p = cond (modulus_ok n p) (Some p) None
