-- The members of a coalition by their bits, and the coins moved by delta's coefficients as the code has them.
--     member_is, points-of-members, members-below      the members, and their points as the code has them
--     length-tail, tail-below                          delta's coefficients of X to X^t
--     block-is, blocks-are                             the coins moved are the matched coins
-- Assumes nothing.
use mathlib.Core.Path.{◌≡◌, refl, sym, ap, ap₂, ◌∙◌}
use mathlib.Core.Logic.{⊎_elim}
use mathlib.Core.Bool.{Bool, true, false, cond}
use mathlib.Core.List.{List, [], ◌∷◌, ◌++◌, map, tail}
use Prim.Native.Nat.{ℕ, zero, suc, ◌+◌, ◌-◌, ◌*◌, ◌≤◌, ◌<◌}
use native.Mathlib.Nat.{eq-or-lt_of_le}
use native.Mathlib.Omega.{arith}
use borrow.Author.Tests.{eq-eqb, ne_eqb}
use lib.ListN.{length, get_or, take, drop, replicate, length-append, length-replicate, length-drop, length-map}
use lib.Seq.{length-take-le}
use Rattle.std.proofs.lemmas.Bool.Decides.{same_from_decides}
use Rattle.numbers.specs.Bytes.{all_below}
use Rattle.numbers.proofs.Below.{all_below_at, at-all_below, map_below}
use Rattle.field.specs.Mod.{add, mul, sub}
use Rattle.field.proofs.Solve.{Canon, #, quote, solve}
use Rattle.field.proofs.Inverse.{pos}
use Rattle.sharing_laws.specs.Poly.{sum_of, scale, padded}
use Rattle.sharing_laws.specs.Interp.{All, delta}
use Rattle.sharing_laws.specs.Sharing.{matched}
use Rattle.sharing_laws.proofs.Deltas.{length-delta}
use Rattle.sharing_laws.proofs.Elements.{padded-below, delta-below}
use Rattle.sharing_laws.proofs.Alls.{all_take, all_drop}
use Rattle.plan.specs.declared.Header.{Header}
use Rattle.plan.specs.declared.Dealing.{Dealing}
use Rattle.plan.specs.Plans.{Plan, point_of}
use Rattle.plan.specs.File.{plan_of}
use Rattle.plan.specs.Planned.{Planned}
use Rattle.plan_coalition.specs.Coalitions.{in_set, members_from, members, set_ok}
use Rattle.plan.proofs.Valid.{Valid, planned-ready}
use Rattle.sharing.proofs.Coding.{entry_below}
use Rattle.seat_messages.proofs.PointLaws.{plan_points_below}
use Rattle.match_privacy.specs.Matching.{is_member, matched_blocks}
use Rattle.match_moves.specs.Moves.{member_points, moved, change_of, moved_blocks}
use Rattle.match_moves.proofs.MoveLaws.{sum-nil, moved-stay}
use Rattle.match_call.specs.MatchSteps.{delta_whole, delta_tail}
use Rattle.match_privacy.proofs.Blocks.{matched_block, blocks-cons, block_member, block_other}
use Rattle.match_privacy.proofs.SetMembers.{member_in, set_few}

-- a party's dealing of t coins
abbrev pub dealing_by : Plan → ℕ → Dealing
dealing_by plan d = record { dealer = d; coins = plan.t }

-- ---- members by their bits
in_member : (set k d j : ℕ) → in_set set d ≡ true → j ≤ d → d < j + k → is_member d (members_from set j k) ≡ true
unfolding members_from is_member
in_member set zero d j on lo hi = absurd (omega arith)
in_member set (suc k) d j on lo hi =
    ⊎_elim same (λ l. later (in_set set j) l (in_member set k d (suc j) on l (omega arith))) (eq-or-lt_of_le {n = j} {m = d} lo)
  where
    same : j ≡ d → is_member d (cond (in_set set j) (j ∷ members_from set (suc j) k) (members_from set (suc j) k)) ≡ true
    same e = rw (ap (in_set set) e ∙ on, eq-eqb d j (sym e))

    later :
        (b : Bool) → j < d → is_member d (members_from set (suc j) k) ≡ true
        → is_member d (cond b (j ∷ members_from set (suc j) k) (members_from set (suc j) k)) ≡ true
    later true l h = rw (ne_eqb d j (λ e. omega arith)) h
    later false l h = h

pub member_is : (set d : ℕ) → 1 ≤ d → d ≤ 16 → is_member d (members set) ≡ in_set set d
unfolding members
member_is set d lo hi =
    same_from_decides (is_member d (members_from set 1 16)) (in_set set d) (member_in set 16 d 1, λ on. in_member set 16 d 1 on lo (omega arith)) (λ e. e, λ e. e)

-- ---- the points of the members
module _ (bs : List ℕ) (h : Header) (k : Planned bs h) (set : ℕ) (points : List ℕ) (e : points ≡ (plan_of bs).points) where
  pub points-of-members : member_points points set ≡ map (point_of (plan_of bs)) (members set)
  unfolding member_points point_of
  points-of-members = rw e

  pub members-below : all_below h.field.p (member_points points set) ≡ true
  members-below =
      ap (all_below h.field.p) points-of-members
      ∙ map_below h.field.p (point_of (plan_of bs)) (members set)
      (λ i. unfold point_of in entry_below h.field.p (plan_of bs).points (i - 1) (planned-ready bs h k) (plan_points_below bs h k))

-- ---- delta's coefficients of X to X^t
tail-padded : (n : ℕ) (f : List ℕ) → 0 < length f → tail (padded n f) ≡ tail f ++ replicate (n - length f) 0
unfolding padded
tail-padded n [] l = absurd (omega arith)
tail-padded n (x ∷ f) l = refl

below-tail : (p : ℕ) (f : List ℕ) → all_below p f ≡ true → all_below p (tail f) ≡ true
below-tail p [] h = h
below-tail p (x ∷ f) h = at-all_below p f (λ i l. all_below_at p (x ∷ f) (suc i) h (omega arith))

zeros-above : (f : List ℕ) (m i : ℕ) → get_or (f ++ replicate m 0) i 0 ≡ get_or f i 0
zeros-above [] zero i = refl
zeros-above [] (suc m) zero = refl
zeros-above [] (suc m) (suc i) = zeros-above [] m i
zeros-above (x ∷ f) m zero = refl
zeros-above (x ∷ f) m (suc i) = zeros-above f m i

module _ (plan : Plan) (valid : Valid plan) (set : ℕ) (ok : set_ok plan set ≡ true) where
  abbrev points : List ℕ
  points = map (point_of plan) (members set)

  few_points : length points ≤ plan.t
  few_points = omega (arith, length-map (members set) (point_of plan), set_few plan set ok)

  tail-is : delta_tail plan set ≡ tail (delta plan.p points) ++ replicate (plan.t + 1 - length (delta plan.p points)) 0
  unfolding delta_tail delta_whole
  tail-is = tail-padded (plan.t + 1) (delta plan.p points) (omega (arith, length-delta plan.p points))

  length-of-tail : (f : List ℕ) → 0 < length f → length (tail f) + 1 ≡ length f
  length-of-tail [] l = absurd (omega arith)
  length-of-tail (x ∷ f) l = omega arith

  pub length-tail : length (delta_tail plan set) ≡ plan.t
  length-tail =
      ap length tail-is ∙ length-append (tail (delta plan.p points)) _
      ∙ omega (
        arith,
        few_points,
        length-delta plan.p points,
        length-of-tail (delta plan.p points) (omega (arith, length-delta plan.p points)),
        length-replicate {A = ℕ} (plan.t + 1 - length (delta plan.p points)) 0,
      )

  -- entry i of it is delta's coefficient of X^(i + 1)
  pub tail-entry : (i : ℕ) → get_or (delta_tail plan set) i 0 ≡ get_or (tail (delta plan.p points)) i 0
  tail-entry i = ap (λ (f : List ℕ). get_or f i 0) tail-is ∙ zeros-above (tail (delta plan.p points)) (plan.t + 1 - length (delta plan.p points)) i

  pub tail-below : all_below plan.p (delta_tail plan set) ≡ true
  unfolding delta_tail delta_whole
  tail-below =
      below-tail plan.p _ (padded-below plan.p (pos valid.prime) (plan.t + 1) _ (delta-below plan.p valid.prime.above _))

-- ---- coins moved
module _ (p : ℕ) (above : 0 < p) where
  moved-zeros : (d m : ℕ) (cs : List ℕ) → m ≤ length cs → All (Canon p) cs → moved p d (replicate m 0) cs ≡ cs
  unfolding moved sum_of scale
  moved-zeros d zero cs l can = sum-nil p cs
  moved-zeros d (suc m) [] l can = absurd (omega arith)
  moved-zeros d (suc m) (c ∷ cs) l can =
      let is : Canon p c = can.0 in
      ap₂ (λ (x : ℕ) (l : List ℕ). x ∷ l) (solve p (search (quote, # c, # d)) (omega arith)) (moved-zeros d m cs (omega arith) can.1)

  moved-padded : (d m : ℕ) (es cs : List ℕ) → length es + m ≤ length cs → All (Canon p) cs → moved p d (es ++ replicate m 0) cs ≡ moved p d es cs
  unfolding moved sum_of scale
  moved-padded d m [] cs l can = moved-zeros d m cs (omega arith) can ∙ sym (sum-nil p cs)
  moved-padded d m (e ∷ es) [] l can = absurd (omega arith)
  moved-padded d m (e ∷ es) (c ∷ cs) l can = ap (λ (l : List ℕ). add p c (mul p d e) ∷ l) (moved-padded d m es cs (omega arith) can.1)

module _ (plan : Plan) (valid : Valid plan) (set : ℕ) (ok : set_ok plan set ≡ true) where
  pub block-is :
      (d s z : ℕ) (cs : List ℕ) → 1 ≤ d → d ≤ 16 → length cs ≡ plan.t → All (Canon plan.p) cs
      → moved plan.p (change_of plan.p (in_set set d) s z) (delta_tail plan set) cs ≡ matched_block plan (members set) d s z cs
  unfolding change_of matched moved
  block-is d s z cs lo hi e can = pick (in_set set d) refl
    where
      pick :
          (b : Bool) → in_set set d ≡ b
          → moved plan.p (cond b 0 (sub plan.p z s)) (delta_tail plan set) cs ≡ matched_block plan (members set) d s z cs
      pick true q =
          moved-stay plan.p (pos valid.prime) (delta_tail plan set) cs (omega (arith, length-tail plan valid set ok)) can
          ∙ sym (block_member plan (members set) d s z cs (member_is set d lo hi ∙ q))
      pick false q =
          let D : List ℕ = delta plan.p (map (point_of plan) (members set)) in
          ap (λ (es : List ℕ). moved plan.p (sub plan.p z s) es cs) (tail-is plan valid set ok)
          ∙ moved-padded plan.p (pos valid.prime) (sub plan.p z s) (plan.t + 1 - length D) (tail D) cs
          (omega (
            arith,
            few_points plan valid set ok,
            length-delta plan.p (map (point_of plan) (members set)),
            length-of-tail plan valid set ok D (omega (arith, length-delta plan.p (map (point_of plan) (members set)))),
          ))
          can
          ∙ sym (block_other plan (members set) d s z cs (member_is set d lo hi ∙ q))

  -- the dealings by these parties, of t coins each
  pub blocks-are :
      (ds ss zs cs : List ℕ) → All (λ d. (1 ≤ d) × (d ≤ 16)) ds → plan.t * length ds ≤ length cs → All (Canon plan.p) cs
      → moved_blocks plan.p plan.t set (delta_tail plan set) ds ss zs cs ≡ matched_blocks plan (members set) (map (dealing_by plan) ds) ss zs cs
  unfolding moved_blocks matched_blocks
  blocks-are [] ss zs cs all l can = refl
  blocks-are (d ∷ ds) ss zs cs all l can =
      ap₂ (λ (b r : List ℕ). b ++ r)
      (block-is d (get_or ss 0 0) (get_or zs 0 0) (take plan.t cs) all.0.0 all.0.1
      (length-take-le plan.t cs (omega arith)) (all_take (Canon plan.p) plan.t cs can))
      (blocks-are ds (drop 1 ss) (drop 1 zs) (drop plan.t cs) all.1 (omega (arith, length-drop plan.t cs))
      (all_drop (Canon plan.p) plan.t cs can))
      ∙ sym (blocks-cons plan (members set) (dealing_by plan d) (map (dealing_by plan) ds) ss zs cs)
