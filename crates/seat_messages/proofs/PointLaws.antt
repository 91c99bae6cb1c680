-- Laws of the parties' points, and of a gate of the file.
--     Pointing, pointing                   the loop that reads them, and what closes its needs
--     gate_of_file                         a gate that is read by the file's own gates
--     plan_points_below                    a plan's points are elements
--     points-part, points-within, points-count, points-at      of a list whose first n are the plan's points, the first m
-- Assumes nothing.
use mathlib.Core.Path.{◌≡◌, refl, sym, ap, ◌∙◌}
use mathlib.Core.Bool.{true}
use mathlib.Core.List.{List}
use Prim.Native.Nat.{ℕ, ◌+◌, ◌<◌, ◌≤◌}
use native.Mathlib.Omega.{arith}
use borrow.Author.Rules.{rules}
use lib.ListN.{length, get_or, take, set, length-take, length-set}
use lib.Seq.{take-take, get_or-take, length-take-le}
use Rattle.numbers.specs.Tables.{tab}
use Rattle.numbers.specs.Bytes.{all_below}
use Rattle.numbers.proofs.Fills.{fill_next}
use Rattle.numbers.proofs.Below.{at-all_below}
use Rattle.sharing_laws.proofs.Alls.{all_at}
use Rattle.plan.specs.declared.Gate.{Gate}
use Rattle.plan.specs.declared.Header.{Header}
use Rattle.plan.specs.Plans.{party_count}
use Rattle.plan.specs.File.{gate_at, point_at, plan_of}
use Rattle.plan.specs.Planned.{Planned}
use Rattle.plan.proofs.Planned.{plan_p, plan_n, plan_points}
use Rattle.plan.proofs.Valid.{valid}

-- ---- the loop that reads them: those of the first i of n parties stand in d
pub record Pointing (bs : List ℕ) (n : ℕ) (d : List ℕ) (i : ℕ) : Type 0 where
  pub within : i ≤ n
  pub few : n ≤ 15
  pub long : length d ≡ 15
  pub front : take i d ≡ tab (point_at bs) i

pub point-none : (bs : List ℕ) (n : ℕ) (d : List ℕ) → n ≤ 15 → length d ≡ 15 → Pointing bs n d 0
unfolding tab
point-none bs n d l e = record { within = omega arith; few = l; long = e; front = refl }

module _ (bs : List ℕ) (n : ℕ) (d : List ℕ) (i : ℕ) (w : Pointing bs n d i) where
  pub point_place : i < n → i < length d
  point_place l = omega (arith, w.few, w.long)

  pub point_next : (v : ℕ) → i < n → v ≡ point_at bs i → Pointing bs n (set d i v) (i + 1)
  point_next v l e =
      record {
        within = omega arith;
        few = w.few;
        long = length-set d i v ∙ w.long;
        front = fill_next (point_at bs) i d v (point_place l) e w.front;
      }

-- ---- a gate read from the file
pub gate_of_file : (bs ds : List ℕ) (g : ℕ) (gate : Gate) → ds ≡ bs → gate ≡ gate_at ds g → gate ≡ gate_at bs g
gate_of_file bs ds g gate e q = q ∙ ap (λ (s : List ℕ). gate_at s g) e

-- ---- a plan's points
module _ (bs : List ℕ) (h : Header) (k : Planned bs h) where
  pub points_read : (d : List ℕ) (i : ℕ) → Pointing bs h.n d i → h.n ≤ i → take h.n d ≡ (plan_of bs).points
  points_read d i w l =
      let e : i ≡ h.n = omega (arith, w.within) in
      ap (λ (m : ℕ). take m d) (sym e) ∙ w.front ∙ ap (tab (point_at bs)) e ∙ sym (plan_points k)

  pub plan_points_long : length (plan_of bs).points ≡ h.n
  unfolding party_count
  plan_points_long = plan_n k

  pub plan_points_below : all_below h.field.p (plan_of bs).points ≡ true
  plan_points_below =
      rw (← plan_p k)
      (at-all_below (plan_of bs).p (plan_of bs).points (λ i l. all_at (λ x. x < (plan_of bs).p) (plan_of bs).points i (valid bs k.passes).small l))

  module _ (xs : List ℕ) (e : take h.n xs ≡ (plan_of bs).points) where
    pub points-within : (m : ℕ) → m ≤ h.n → m ≤ length xs
    points-within m l = omega (arith, length-take h.n xs, ap length e, plan_points_long)

    pub points-part : (m : ℕ) → m ≤ h.n → take m xs ≡ take m (plan_of bs).points
    points-part m l = sym (take-take m h.n xs l) ∙ ap (take m) e

    pub points-count : (m : ℕ) → m ≤ h.n → length (take m xs) ≡ m
    points-count m l = length-take-le m xs (points-within m l)

    pub points-at : (j : ℕ) → j < h.n → get_or xs j 0 ≡ get_or (plan_of bs).points j 0
    points-at j l = sym (get_or-take h.n xs j 0 l) ∙ ap (λ (ys : List ℕ). get_or ys j 0) e

-- As it is: answers name this set, since the check leaves their goals open by `using` alone.
pub ruleset pointing = (rules, point-none, point_place, point_next, points_read)
