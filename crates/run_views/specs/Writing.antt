-- Numbers that are written one after the other to a lent buffer, as far as there is room.
use Rattle.std.specs.Prelude.{ℕ, ◌*◌, ◌/◌, ◌≤◌, ◌≡◌, List, ◌++◌, length, take}
use Rattle.numbers.specs.Bytes.{width, bytes_of}
use Rattle.run_views.specs.declared.writer.Writer.{Writer}

-- a buffer of which `at` numbers stood, after the numbers xs are written next to them: `next` stand
pub record Wrote (xs : List ℕ) (at : ℕ) (old new : List ℕ) (next : ℕ) : Type 0 where
  pub long : length new ≡ length old
  pub room : next ≤ length old / width
  pub bytes : take (width * next) new ≡ take (width * (length old / width)) (take (width * at) old ++ bytes_of xs)

-- a writer after it has written the numbers xs, to the same buffer
pub record Put (xs : List ℕ) (old new : Writer) : Type 0 where
  pub same : new.out.ghost_name ≡ old.out.ghost_name
  pub wrote : Wrote xs old.at old.out.now new.out.now new.at
