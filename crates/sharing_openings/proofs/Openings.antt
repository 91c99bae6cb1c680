-- The code of an opening and of its check, in a room that is lent.
--     opening       the needs of `opened`
--     offing        the needs of `first_off`
-- Assumes nothing.
use mathlib.Core.Path.{◌≡◌, sym, ap, ◌∙◌}
use mathlib.Core.Bool.{true}
use mathlib.Core.List.{List, ◌++◌}
use Prim.Native.Nat.{ℕ, ◌+◌, ◌*◌, ◌≤◌}
use native.Mathlib.Nat.{mul-le-mul}
use native.Mathlib.Omega.{arith}
use borrow.Author.Rules.{rules}
use lib.ListN.{length, take, drop}
use lib.Seq.{take_at, length-take-le}
use mir.Syntax.{w64}
use mir.Val.{Fits}
use Rattle.numbers.specs.Bytes.{all_below}
use Rattle.numbers.proofs.Below.{all_below-take}
use Rattle.field.specs.Field.{Is, Ready}
use Rattle.sharing_laws.specs.Interp.{weights, dot, interpolate}
use Rattle.sharing_laws.specs.Sharing.{opened}
use Rattle.sharing_openings.specs.Openable.{Openable}
use Rattle.sharing_laws.proofs.Alls.{length_first}
use Rattle.sharing_laws.proofs.Interpolation.{length-weights}
use Rattle.sharing_openings.proofs.Rows.{weights_below}

-- ---- an opening
module _ (p t : ℕ) (points shares room : List ℕ) (o : Openable p t points shares) (size : length room ≡ 15) where
  pub room-first : length (take (t + 1) room) ≡ t + 1
  room-first = length-take-le (t + 1) room (omega (arith, o.threshold, o.few))

  pub room_sized : length (take (t + 1) room) ≡ length (take (t + 1) points)
  room_sized = room-first ∙ sym (length_first t points o.threshold)

module _ (p t : ℕ) (points shares room ys : List ℕ) (o : Openable p t points shares) (is : ys ≡ weights p 0 (take (t + 1) points)) where
  long : length ys ≡ t + 1
  long = ap length is ∙ length-weights p 0 (take (t + 1) points) ∙ length_first t points o.threshold

  front : take (t + 1) (ys ++ drop (t + 1) room) ≡ ys
  front = take_at ys (drop (t + 1) room) (t + 1) long

  pub front_long : length (take (t + 1) (ys ++ drop (t + 1) room)) ≡ t + 1
  front_long = ap length front ∙ long

  pub front_below : Ready p → all_below p (take (t + 1) (ys ++ drop (t + 1) room)) ≡ true
  front_below r = rw (front, is) (weights_below r.prime 0 (take (t + 1) points))

  pub front-short : length (take (t + 1) (ys ++ drop (t + 1) room)) ≤ length shares
  front-short = omega (arith, front_long, o.threshold, o.each)

  pub front-small : length (take (t + 1) (ys ++ drop (t + 1) room)) ≤ 65536
  front-small = omega (arith, front_long, o.threshold, o.few)

  pub opened-is : (r : ℕ) → Is p (dot p (take (t + 1) (ys ++ drop (t + 1) room)) shares) r → Is p (opened p t points shares) r
  unfolding opened interpolate
  opened-is r e = record { eq = e.eq ∙ ap (λ (ws : List ℕ). dot p ws shares) (front ∙ is); lt = e.lt }

pub ruleset opening = (rules, all_below-take, length_first, room-first, room_sized, front_long, front_below, front-short, front-small, opened-is)

-- ---- its check
module _ (p t : ℕ) (points shares : List ℕ) (o : Openable p t points shares) where
  used-small : (t + 1) * length points ≤ 225
  used-small = mul-le-mul {n₁ = t + 1} {m₁ = length points} {n₂ = 15} {m₂ = 15} (omega (arith, o.threshold, o.few)) o.few

  pub used_fits : Fits w64 ((t + 1) * length points)
  used_fits = record { fits = omega (arith, used-small) }

  pub used_within : (room : List ℕ) → length room ≡ 225 → (t + 1) * length points ≤ length room
  used_within room size = omega (arith, used-small)

  pub used-long : (room : List ℕ) → length room ≡ 225 → length (take ((t + 1) * length points) room) ≡ (t + 1) * length points
  used-long room size = length-take-le ((t + 1) * length points) room (used_within room size)

  pub used_few : length points ≤ 65536
  used_few = omega (arith, o.few)

pub ruleset offing = (rules, used_fits, used_within, used-long, used_few)
