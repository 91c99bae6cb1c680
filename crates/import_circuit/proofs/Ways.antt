-- What each way through the code says of a gate.
--     sizing     what closes the needs of the functions
-- Assumes nothing.
use Prim.Native.Nat.{ℕ}
use mathlib.Core.Path.{◌≡◌}
use borrow.Author.Rules.{rules}
use Rattle.import_text.specs.declared.LogicGate.{LogicGate}
use Rattle.import_text.specs.declared.LogicGate.TheVariants.{Xor, And, Inv}
use Rattle.import_circuit.specs.Wires.{set_by}
use Rattle.import_circuit.specs.Making.{gate_size}

module _ (x : LogicGate) where
  pub set-xor : (a b c : ℕ) → x ≡ Xor a b c → c ≡ set_by x
  unfolding set_by
  set-xor a b c e = rw e

  pub set-and : (a b c : ℕ) → x ≡ And a b c → c ≡ set_by x
  unfolding set_by
  set-and a b c e = rw e

  pub set-inv : (a c : ℕ) → x ≡ Inv a c → c ≡ set_by x
  unfolding set_by
  set-inv a c e = rw e

  pub size-xor : (a b c : ℕ) → x ≡ Xor a b c → 4 ≡ gate_size x
  unfolding gate_size
  size-xor a b c e = rw e

  pub size-and : (a b c : ℕ) → x ≡ And a b c → 1 ≡ gate_size x
  unfolding gate_size
  size-and a b c e = rw e

  pub size-inv : (a c : ℕ) → x ≡ Inv a c → 2 ≡ gate_size x
  unfolding gate_size
  size-inv a c e = rw e

pub ruleset sizing = (rules, set-xor, set-and, set-inv, size-xor, size-and, size-inv)
