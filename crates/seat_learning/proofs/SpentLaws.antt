-- Laws of a gate that spends a triple.
--     opening_two     the two openings of its mail
--     multiplying     its share
--     spending        its triple made zeros
-- Assumes nothing.
use mathlib.Core.Path.{◌≡◌, refl, ap, ◌∙◌}
use mathlib.Core.Bool.{true}
use mathlib.Core.List.{List}
use Prim.Native.Nat.{ℕ, ◌+◌, ◌<◌}
use native.Mathlib.Omega.{arith}
use borrow.Author.Rules.{rules}
use lib.ListN.{get_or, set}
use Rattle.numbers.specs.Tables.{tab}
use Rattle.numbers.specs.Bytes.{numbers, stored, all_below}
use Rattle.field.specs.Field.{Is, Ready}
use Rattle.sharing_laws.specs.Interp.{interpolate}
use Rattle.sharing_laws.specs.Sharing.{opened}
use Rattle.plan.specs.declared.Step.{Step}
use Rattle.plan.specs.declared.Step.TheVariants.{DealInputs, DealProduct, DealZero, DealMasked, SendTruncated, DealDraws, OpenSpent, SendOuts}
use Rattle.plan.specs.declared.Header.{Header}
use Rattle.plan.specs.Plans.{Plan, triple_at}
use Rattle.plan.specs.File.{plan_of}
use Rattle.plan.specs.Planned.{Planned}
use Rattle.plan.proofs.Planned.{plan_p}
use Rattle.plan.proofs.Valid.{planned-ready}
use Rattle.seat_messages.specs.Messages.{opened_at, spent_share, set_all, spend_from}
use Rattle.seat_results.specs.Opened.{opened_outs}
use Rattle.seat_learning.specs.Lent.{Holds}
use Rattle.seat_learning.proofs.LearnLaws.{read_below, dot_below, written_holds, spent_inside}

-- ---- the openings
pub two_mail : (bs : List ℕ) (h : Header) → Planned bs h → (mail : List ℕ) → all_below h.field.p mail ≡ true → all_below (plan_of bs).p mail ≡ true
two_mail bs h k mail b = rw (plan_p k) b

pub ruleset opening_two = (rules, two_mail)

-- ---- the share
module _ (bs : List ℕ) (h : Header) (k : Planned bs h) (mail o : List ℕ) (q : numbers o ≡ opened_outs (plan_of bs) 2 mail) where
  opening_below : (own j : ℕ) → opened_at (plan_of bs) own j mail < h.field.p
  unfolding opened_at opened interpolate
  opening_below own j = rw (← plan_p k) (dot_below (plan_of bs).p (rw (plan_p k) (omega (arith, k.p_low))) _ _)

  pub first-opened : (x : ℕ) → x ≡ get_or (numbers o) 0 0 → Is h.field.p (opened_at (plan_of bs) 2 0 mail) x
  unfolding opened_outs tab
  first-opened x e = let is : x ≡ opened_at (plan_of bs) 2 0 mail = e ∙ ap (λ (l : List ℕ). get_or l 0 0) q in record { eq = is; lt = rw is (opening_below 2 0) }

  pub second-opened : (x : ℕ) → x ≡ get_or (numbers o) 1 0 → Is h.field.p (opened_at (plan_of bs) 2 1 mail) x
  unfolding opened_outs tab
  second-opened x e = let is : x ≡ opened_at (plan_of bs) 2 1 mail = e ∙ ap (λ (l : List ℕ). get_or l 1 0) q in record { eq = is; lt = rw is (opening_below 2 1) }

  pub first_below : (x : ℕ) → x ≡ get_or (numbers o) 0 0 → x < h.field.p
  first_below x e = (first-opened x e).lt

  pub second_below : (x : ℕ) → x ≡ get_or (numbers o) 1 0 → x < h.field.p
  second_below x e = (second-opened x e).lt

pub spent-is :
    (bs : List ℕ) (h : Header) → Planned bs h → (mail o ts xs : List ℕ) (g a b at d e c x y r : ℕ) → numbers o ≡ opened_outs (plan_of bs) 2 mail
    → d ≡ get_or (numbers o) 0 0 → e ≡ get_or (numbers o) 1 0 → at ≡ triple_at (plan_of bs) g → c ≡ get_or ts (at + 2) 0 → x ≡ get_or xs a 0 → y ≡ get_or xs b 0
    → Is h.field.p (spent_share h.field.p c x y d e) r
    → Is h.field.p (spent_share h.field.p (get_or ts (triple_at (plan_of bs) g + 2) 0) (get_or xs a 0) (get_or xs b 0) (opened_at (plan_of bs) 2 0 mail) (opened_at (plan_of bs) 2 1 mail)) r
spent-is bs h k mail o ts xs g a b at d e c x y r q ed ee ea ec ex ey is =
    rw (← ec ∙ ap (λ (n : ℕ). get_or ts (n + 2) 0) ea, ← ex, ← ey, ← (first-opened bs h k mail o q d ed).eq, ← (second-opened bs h k mail o q e ee).eq) is

-- As it is: answers name this set, since the check leaves their goals open by `using` alone.
pub ruleset multiplying = (rules, read_below, first_below, second_below, spent-is)

-- ---- the triple
pub zeroed : (p : ℕ) (xs ys : List ℕ) (at : ℕ) → Ready p → all_below p (numbers xs) ≡ true → ys ≡ stored xs at 0 → Holds p (set (numbers xs) at 0) ys
zeroed p xs ys at r b e = written_holds p xs ys _ at 0 r b (omega (arith, r.prime.above)) e refl

spends_none : (plan : Plan) (step : Step) (ts : List ℕ) → ((g x y : ℕ) → step ≡ OpenSpent g x y → ⊥) → ts ≡ spend_from plan step ts
unfolding spend_from
spends_none plan DealInputs ts n = refl
spends_none plan (DealProduct g x y) ts n = refl
spends_none plan (DealZero g) ts n = refl
spends_none plan (DealMasked g x y) ts n = refl
spends_none plan (SendTruncated g) ts n = refl
spends_none plan (DealDraws g) ts n = refl
spends_none plan (OpenSpent g x y) ts n = absurd (n g x y refl)
spends_none plan SendOuts ts n = refl

module _ (bs : List ℕ) (h : Header) (k : Planned bs h) (step : Step) (ts : List ℕ) (b : all_below h.field.p (numbers ts) ≡ true) where
  pub spent-triple : (g x y at : ℕ) (t1 t2 t3 : List ℕ) → step ≡ OpenSpent g x y → at ≡ triple_at (plan_of bs) g → t1 ≡ stored ts at 0 → t2 ≡ stored t1 (at + 1) 0 → t3 ≡ stored t2 (at + 2) 0
      → Holds h.field.p (spend_from (plan_of bs) step (numbers ts)) t3
  unfolding spend_from set_all tab
  spent-triple g x y at t1 t2 t3 e ea e1 e2 e3 =
      let r = planned-ready bs h k in
      let z1 = zeroed h.field.p ts t1 at r b e1 in
      let z2 = zeroed h.field.p t1 t2 (at + 1) r z1.below e2 in
      let z3 = zeroed h.field.p t2 t3 (at + 2) r z2.below e3 in
      record { eq = z3.eq ∙ rw (z2.eq, z1.eq, e, ← ea) (ap (λ (n : ℕ). set (set (set (numbers ts) n 0) (at + 1) 0) (at + 2) 0) (omega arith)); below = z3.below }

  pub spent-other : ((g x y : ℕ) → step ≡ OpenSpent g x y → ⊥) → Holds h.field.p (spend_from (plan_of bs) step (numbers ts)) ts
  spent-other n = record { eq = spends_none (plan_of bs) step (numbers ts) n; below = b }

-- As it is: answers name this set, since the check leaves their goals open by `using` alone.
pub ruleset spending = (rules, spent_inside, spent-triple, spent-other)
