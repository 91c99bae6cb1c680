-- What a turn of a loop over slices reads.
--     Next, turn_back      over one slice from its end
--     Pair, pair_at        over two slices at once
-- Assumes nothing.
use mathlib.Core.Path.{◌≡◌, ◌∙◌}
use mathlib.Core.List.{List, reverse}
use Prim.Native.Nat.{ℕ, ◌-◌, ◌≤◌, ◌<◌, min}
use native.Mathlib.Omega.{arith}
use lib.ListN.{length, get_or}
use denote.Ref.{Bor}
use Rattle.std.specs.declared.option.Option.{Option}
use Rattle.std.specs.declared.option.Option.TheVariants.{Some}
use Rattle.std.specs.Iterator.{Yields}
use Rattle.std.specs.Iterator.Adapters.{rev_source, rev_steps}
use Rattle.std.specs.Slice.Iter.{iter_rest, iter_steps_back}
use Rattle.std.proofs.lemmas.Iterator.Adapters.{YieldsList-from_rev_slice}
use Rattle.std.proofs.lemmas.Iterator.Consumers.{YieldsList-turn}
use Rattle.std.proofs.lemmas.List.{get_or_default, get_or-reverse, length-reverse}

-- a is the next entry from the end, of which k are behind
pub record Next (xs : List ℕ) (k a : ℕ) : Type 0 where
  pub within : k < length xs
  pub is : a ≡ get_or xs (length xs - 1 - k) 0

next_back : (xs : List ℕ) (k a : ℕ) → (k < length (reverse xs)) × (a ≡ get_or (reverse xs) k a) → Next xs k a
next_back xs k a h =
    let l : k < length xs = rw length-reverse at h.0 in
    record {
      within = l;
      is = h.1 ∙ get_or_default (reverse xs) k a 0 h.0 ∙ get_or-reverse xs k 0 l;
    }

-- a turn that takes x, after those that took ys
pub turn_back : (s t u : _) (xs : List ℕ) (ys : List (Bor ℕ)) (r : Option (Bor ℕ)) (x : Bor ℕ)
    → iter_rest (rev_source s) ≡ xs → Yields (rev_steps iter_steps_back) s ys t → r ≡ Some x → rev_steps iter_steps_back t r u → Next xs (length ys) x.now
turn_back s t u xs ys r x e y is p = next_back xs (length ys) x.now (YieldsList-turn (YieldsList-from_rev_slice xs e) ys t y r u x is p)

-- a and b are entries k
pub record Pair (xs ys : List ℕ) (k a b : ℕ) : Type 0 where
  pub within : k < length xs
  pub also : k < length ys
  pub left : a ≡ get_or xs k 0
  pub right : b ≡ get_or ys k 0

pub pair_at : (xs ys : List ℕ) (k a b : ℕ) → (k < length xs) × (k < length ys) × ((d : ℕ) → a ≡ get_or xs k d) × ((d : ℕ) → b ≡ get_or ys k d) → Pair xs ys k a b
pair_at xs ys k a b h = record { within = h.0; also = h.1; left = h.2 0; right = h.3 0 }

pub all_paired : (xs ys : List ℕ) (k : ℕ) → k ≡ min (length xs) (length ys) → length xs ≤ length ys → length xs ≤ k
all_paired xs ys k e l = omega arith
