-- What `contains` answers at a..=b.
-- Assumes nothing.
use Rattle.std.proofs.Common.{Less, Equal, Greater}
use Rattle.std.specs.Cmp.{nat_cmp_is}
use Rattle.std.specs.Ordering.{nat_cmp, as_partial_cmp, is_le}
use Rattle.std.specs.Range.{range_inclusive_start, range_inclusive_end, range_inclusive_exhausted, range_inclusive_contains}
use Rattle.std.specs.declared.ops.RangeInclusive.{RangeInclusive}
use mathlib.Core.Path.{◌≡◌, ◌∙◌}
use mathlib.Core.Bool.{Bool, false}
use Prim.Native.Nat.{ℕ, suc, ◌<◌, ◌≤◌}
use native.Mathlib.Decide.{dec_le}
use native.Mathlib.Omega.{arith}
use borrow.Author.Tests.{le-leb, lt-leb}
use lib.Dec.{leb}
use Rattle.plan.specs.File.{between}

at_most : (a b : ℕ) → is_le (nat_cmp a b) ≡ leb a b
at_most a b = by (dec_le (suc a) b) (dec_le a b)
  where
    by : Dec (a < b) → Dec (a ≤ b) → is_le (nat_cmp a b) ≡ leb a b
    by (yes l) m = rw (← nat_cmp_is a b Less l, le-leb a b (omega arith))
    by (no l) (yes m) = rw (← nat_cmp_is a b Equal (omega arith), le-leb a b m)
    by (no l) (no m) = let k : b < a = omega arith in rw (← nat_cmp_is a b Greater k, lt-leb a b k)

pub contains_is : (r : RangeInclusive ℕ) (a b x : ℕ) (t : Bool) → range_inclusive_start r ≡ a → range_inclusive_end r ≡ b → range_inclusive_exhausted r ≡ false
    → t ≡ range_inclusive_contains (as_partial_cmp nat_cmp) r x → t ≡ between a b x
unfolding between
contains_is r a b x t ea eb ex e = e ∙ rw (ea, eb, ex, at_most a x, at_most x b)
