-- What each way through the functions that make gates says.
--     joining     what closes their needs
-- Assumes nothing.
use Rattle.std.proofs.Common.{Option, Some, None}
use Prim.Native.Nat.{ℕ, ◌+◌, ◌-◌, ◌<◌, ◌≤◌}
use mathlib.Core.Path.{◌≡◌, ◌∙◌}
use mathlib.Core.List.{List}
use native.Mathlib.Numerals.{add-one}
use borrow.Author.Rules.{rules}
use borrow.Author.Tests.{le-leb, lt-leb, eq-eqb, ne_eqb}
use lib.ListN.{length, get_or}
use Rattle.plan.specs.declared.Gate.{Gate}
use Rattle.plan.specs.declared.Gate.TheVariants.{Add, Scale, Multiply}
use Rattle.plan_file.specs.Bodies.{written, gate_bytes, place_in, version_for}
use Rattle.plan_file.proofs.Writing.{length-written}
use Rattle.sheet_read.specs.declared.Part.{Part}
use Rattle.sheet_read.specs.declared.Operator.{Operator}
use Rattle.sheet_read.specs.declared.Operator.TheVariants as operator
use Rattle.sheet_read.specs.declared.Level.{Level}
use Rattle.sheet_read.specs.declared.Level.TheVariants as level
use Rattle.sheet_read.specs.Working.{capped_next, put_gate, join_out, join_wire}
use Rattle.sheet_read.specs.Reading.{times_operator, term_operator, level_operator}

pub next_is : (g : ℕ) → g ≤ 1024 → g + 1 ≡ capped_next g
unfolding capped_next
next_is g l = rw (le-leb g 1024 l) (add-one g)

pub next_over : (g : ℕ) → 1024 < g → 1025 ≡ capped_next g
unfolding capped_next
next_over g l = rw (lt-leb g 1024 l)

-- ---- what joins
module _ (l : Level) (b : ℕ) (s : List ℕ) (at : ℕ) (is : b ≡ get_or s at 0) where
  pub times_is : l ≡ level.Product → b ≡ 42 → Some operator.Times ≡ level_operator l (get_or s at 0)
  unfolding times_operator
  times_is j e = rw (j, ← is, eq-eqb b 42 e)

  pub times_no : l ≡ level.Product → (b ≡ 42 → ⊥) → None ≡ level_operator l (get_or s at 0)
  unfolding times_operator
  times_no j n = rw (j, ← is, ne_eqb b 42 n)

  module _ (j : l ≡ level.Sum) where
    pub plus_is : b ≡ 43 → Some operator.Plus ≡ level_operator l (get_or s at 0)
    unfolding term_operator
    plus_is e = rw (j, ← is, eq-eqb b 43 e)

    pub minus_is : b ≡ 45 → Some operator.Minus ≡ level_operator l (get_or s at 0)
    unfolding term_operator
    minus_is e = rw (j, ← is, e)

    pub term_no : (b ≡ 43 → ⊥) → (b ≡ 45 → ⊥) → None ≡ level_operator l (get_or s at 0)
    unfolding term_operator
    term_no n m = rw (j, ← is, ne_eqb b 43 n, ne_eqb b 45 m)

pub long_put : (p : ℕ) (out : List ℕ) (g : ℕ) (x : Gate) → length (put_gate p out g x) ≡ length out
unfolding put_gate
long_put p out g x = length-written out (place_in (version_for p) g) (gate_bytes (version_for p) x)

-- ---- two sides joined
module _ (o : Operator) (p l : ℕ) (out : List ℕ) (r : Part) (version : ℕ) (v : version ≡ version_for p) where
  module _ (q : o ≡ operator.Times) where
    pub operate_times : r.gates ≡ join_wire o r.gates
    unfolding join_wire
    operate_times = rw q

    pub file_times : (new : List ℕ) → new ≡ written out (place_in version r.gates) (gate_bytes version (Multiply l r.wire)) → new ≡ join_out o p l r.wire r.gates out
    unfolding join_out put_gate
    file_times new i = rw (q, ← v) i

  module _ (q : o ≡ operator.Plus) where
    pub operate_plus : r.gates ≡ join_wire o r.gates
    unfolding join_wire
    operate_plus = rw q

    pub file_plus : (new : List ℕ) → new ≡ written out (place_in version r.gates) (gate_bytes version (Add l r.wire)) → new ≡ join_out o p l r.wire r.gates out
    unfolding join_out put_gate
    file_plus new i = rw (q, ← v) i

  module _ (q : o ≡ operator.Minus) (h : ℕ) (eh : h ≡ capped_next r.gates) where
    pub operate_minus : h ≡ join_wire o r.gates
    unfolding join_wire
    operate_minus = rw q eh

    pub file_minus : (c : ℕ) (mid new : List ℕ) → c ≡ p - 1 → mid ≡ written out (place_in version r.gates) (gate_bytes version (Scale r.wire c)) → new ≡ written mid (place_in version h) (gate_bytes version (Add l r.gates)) → new ≡ join_out o p l r.wire r.gates out
    unfolding join_out put_gate
    file_minus c mid new ec i j = rw q (j ∙ rw (i, ec, eh, v))

pub ruleset joining = (rules, next_is, next_over, times_is, times_no, plus_is, minus_is, term_no, operate_times, file_times, operate_plus, file_plus, operate_minus, file_minus)
