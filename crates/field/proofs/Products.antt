-- A product of two elements fits the code's words.
use Prim.Native.Nat.{ℕ, ◌*◌, ◌≤◌, ◌<◌}
use native.Mathlib.Nat.{mul-le-mul}
use native.Mathlib.Omega.{arith}

pub word : (a b : ℕ) → a < 2147483648 → b < 2147483648 → a * b ≤ 2147483647 * 2147483647
word a b h k = mul-le-mul {n₁ = a} {m₁ = b} {n₂ = 2147483647} {m₂ = 2147483647} (omega arith) (omega arith)
