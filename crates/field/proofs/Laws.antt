-- The numbers below a prime are a field. The laws hold for all numbers, below p or not; only the two units give back a number that is below p.
use mathlib.Core.Path.{◌≡◌}
use mathlib.Core.Logic.{◌≢◌}
use Prim.Native.Nat.{ℕ, ◌%◌, ◌<◌}
use native.Mathlib.Omega.{arith}
use Rattle.field.specs.Mod.{add, mul, sub}
use Rattle.field.specs.Prime.{Prime, inv}
use Rattle.field.proofs.Solve.{below, #, quote, solve}
use Rattle.field.proofs.Inverse.{pos, inv-law}

pub record FieldLaws (p : ℕ) : Type 0 where
  pub add_assoc : (a b c : ℕ) → add p (add p a b) c ≡ add p a (add p b c)
  pub add_comm : (a b : ℕ) → add p a b ≡ add p b a
  pub add-zero : (a : ℕ) → a < p → add p a 0 ≡ a
  pub add_neg : (a : ℕ) → add p a (sub p 0 a) ≡ 0
  pub sub_neg : (a b : ℕ) → sub p a b ≡ add p a (sub p 0 b)
  pub mul_assoc : (a b c : ℕ) → mul p (mul p a b) c ≡ mul p a (mul p b c)
  pub mul_comm : (a b : ℕ) → mul p a b ≡ mul p b a
  pub mul-one : (a : ℕ) → a < p → mul p a 1 ≡ a
  pub mul-inv : (a : ℕ) → a % p ≢ 0 → mul p a (inv p a) ≡ 1
  pub distrib : (a b c : ℕ) → mul p a (add p b c) ≡ add p (mul p a b) (mul p a c)

pub field_laws : {p : ℕ} → Prime p → FieldLaws p
field_laws {p} prime =
    let pos : 0 < p = pos prime in
    record {
      add_assoc = λ a b c. solve p (search (quote, # a, # b, # c)) (omega arith);
      add_comm = λ a b. solve p (search (quote, # a, # b)) (omega arith);
      add-zero = λ a h. solve p (search (quote, below h, # a)) (omega arith);
      add_neg = λ a. solve p (search (quote, # a)) (omega arith);
      sub_neg = λ a b. solve p (search (quote, # a, # b)) (omega arith);
      mul_assoc = λ a b c. solve p (search (quote, # a, # b, # c)) (omega arith);
      mul_comm = λ a b. solve p (search (quote, # a, # b)) (omega arith);
      mul-one = λ a h. solve p (search (quote, below h, # a)) (omega arith);
      mul-inv = inv-law prime;
      distrib = λ a b c. solve p (search (quote, # a, # b, # c)) (omega arith);
    }
