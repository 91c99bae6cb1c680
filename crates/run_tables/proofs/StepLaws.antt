-- One gate of a run: its row, and the table with it.
--     planned_sized, placing            what a plan's contents give
-- Assumes nothing.
use mathlib.Core.Path.{◌≡◌, refl, sym, ap, ◌∙◌}
use mathlib.Core.Bool.{true}
use mathlib.Core.List.{List}
use Prim.Native.Nat.{ℕ, ◌+◌, ◌*◌, ◌<◌, ◌≤◌}
use native.Mathlib.Nat.{mul-le-mul}
use native.Mathlib.Omega.{arith}
use borrow.Author.Rules.{rules}
use lib.ListN.{length, take}
use lib.Seq.{length-take-le}
use mir.Syntax.{w64}
use mir.Val.{Fits}
use Rattle.numbers.specs.Bytes.{all_below}
use Rattle.plan.specs.declared.Header.{Header}
use Rattle.plan.specs.File.{plan_of}
use Rattle.plan.specs.Planned.{Planned}
use Rattle.plan.proofs.Valid.{planned-ready}
use Rattle.seat_messages.proofs.PointLaws.{plan_points_long, plan_points_below}
use Rattle.sharing_matrix.specs.Matrix.{Few}
use Rattle.run_dealings.specs.Rows.{Sized, Fitted}
use Rattle.sharing_laws.specs.Interp.{weights}

-- ---- what a plan's contents give
pub planned_sized : (bs : List ℕ) (h : Header) → Planned bs h → Sized h
planned_sized bs h k = record { ready = planned-ready bs h k; many = k.n-high; small = k.p_low }

-- the parties' points
module _ (bs : List ℕ) (h : Header) (k : Planned bs h) (ps : List ℕ) (e : ps ≡ (plan_of bs).points) where
  points_long : length ps ≡ h.n
  points_long = ap length e ∙ plan_points_long bs h k

  pub points-counted : h.n ≡ length ps
  points-counted = sym points_long

  pub points_most : length ps ≤ 15
  points_most = omega (arith, points_long, k.n-high)

  pub points_over : h.t < length ps
  points_over = omega (arith, points_long, k.threshold)

  pub points_elements : all_below h.field.p ps ≡ true
  points_elements = rw e (plan_points_below bs h k)

  pub matrix-few : Few h.field.p h.t ps
  matrix-few = record { elements = points_elements; count = points_most; degree = omega (arith, k.threshold, k.n-high) }

  matrix_most : h.n * h.n ≤ 225
  matrix_most = mul-le-mul {n₁ = h.n} {m₁ = h.n} {n₂ = 15} {m₂ = 15} k.n-high k.n-high

  pub matrix_within : (room : List ℕ) → 225 ≤ length room → h.n * h.n ≤ length room
  matrix_within room l = omega (arith, matrix_most)

  pub matrix_fits : Fits w64 (h.n * h.n)
  matrix_fits = record { fits = omega (arith, matrix_most) }

  pub matrix-room : (room : List ℕ) → 225 ≤ length room → length (take (h.n * h.n) room) ≡ length ps * length ps
  matrix-room room l = rw (length-take-le (h.n * h.n) room (omega (arith, matrix_most)), points_long) refl

  pub fitted : (p t : ℕ) (qs ws : List ℕ) → p ≡ h.field.p → t ≡ h.t → qs ≡ ps → ws ≡ weights h.field.p 0 (take (h.t + h.t + 1) ps) → Fitted bs h p t qs ws
  fitted p t qs ws same few are is = record { field = same; threshold = few; are = are ∙ e; weighs = rw (same, few, are) is }

-- As it is: answers name this set, since the check leaves their goals open by `using` alone.
pub ruleset placing = (rules, fitted, matrix-few, matrix_within, matrix_fits, matrix-room, points-counted, points_most, points_over, points_elements)
