-- Laws of a party's share of a product that spends its triple.
--     spending     what closes its needs
-- Assumes nothing.
use mathlib.Core.Path.{refl, ◌∙◌}
use Prim.Native.Nat.{ℕ, ◌<◌}
use borrow.Author.Rules.{rules}
use Rattle.field.specs.Mod.{add, mul, sub}
use Rattle.field.specs.Field.{Is}
use Rattle.seat_messages.specs.Messages.{spent_share}

pub value_below : (p v x : ℕ) → Is p v x → x < p
value_below p v x i = i.lt

pub spent-is :
    (p c x y d e m1 m2 s1 s2 m3 r : ℕ) → Is p (mul p e x) m1 → Is p (mul p d y) m2 → Is p (add p m1 m2) s1 → Is p (add p c s1) s2 → Is p (mul p d e) m3
    → Is p (sub p s2 m3) r → Is p (spent_share p c x y d e) r
unfolding spent_share
spent-is p c x y d e m1 m2 s1 s2 m3 r i1 i2 i3 i4 i5 i6 = record { eq = i6.eq ∙ rw (i4.eq, i3.eq, i1.eq, i2.eq, i5.eq) refl; lt = i6.lt }

pub ruleset spending = (rules, value_below, spent-is)
