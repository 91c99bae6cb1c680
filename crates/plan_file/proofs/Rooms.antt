-- A file that is written in front of a room of its own, to be checked.
--     rooms     what closes the needs of the functions that do so
-- Assumes nothing.
use Prim.Native.Nat.{ℕ, ◌≤◌}
use mathlib.Core.Path.{◌≡◌, sym, ap, ◌∙◌}
use mathlib.Core.List.{List, ◌++◌}
use native.Mathlib.Omega.{arith}
use lib.ListN.{length, take, drop, length-append}
use lib.Seq.{take_at, length-take-le}
use Rattle.plan.specs.Refusals.{Checked}
use Rattle.plan.specs.File.{majority_check}

module _ (size : ℕ) (room : List ℕ) (long : length room ≡ 10524) (few : size ≤ 10524) where
  pub room_in : size ≤ length room
  room_in = omega arith

  pub room_long : length (take size room) ≡ size
  room_long = length-take-le size room room_in

  pub room-start : size ≡ length (take size room)
  room-start = sym room_long

  module _ (ys : List ℕ) (kept : length ys ≡ length (take size room)) where
    pub room-front : take size (ys ++ drop size room) ≡ ys
    room-front = take_at ys (drop size room) size (kept ∙ room_long)

    pub room_within : size ≤ length (ys ++ drop size room)
    room_within = rw (length-append ys (drop size room)) (omega (arith, kept, room_long))

    pub room-counted : size ≡ length (take size (ys ++ drop size room))
    room-counted = sym (ap length room-front ∙ kept ∙ room_long)

    pub room-majority : (c : Checked) (file : List ℕ) → ys ≡ file → c ≡ majority_check (take size (ys ++ drop size room)) → c ≡ majority_check file
    room-majority c file is e = e ∙ ap majority_check (room-front ∙ is)

pub ruleset rooms = (room_in, room-start, room_within, room-counted)
