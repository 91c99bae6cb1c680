-- What the bench and the line charge answer.
use Rattle.std.proofs.Common.{Result, Ok, Err}
use Prim.Native.Nat.{ℕ, ◌*◌, ◌%◌, ◌<◌}
use mathlib.Core.Path.{◌≡◌, refl, ap}
use native.Mathlib.Nat.{mod-lt}
use native.Mathlib.Omega.{arith}
use borrow.Author.Rules.{rules}
use Rattle.std.specs.Result.{MatchResult, IsOkAnd}
use Rattle.plan.specs.declared.Refusal.{Refusal}
use Rattle.plan_codes.specs.Values as codes
use Rattle.pool_answers.specs.Answers.{answer_of}

pub small_rest : (n : ℕ) → n % 4294967296 < 72057594037927936
small_rest n = omega (arith, mod-lt n {m = 4294967296} (omega arith))

-- the answer of what `map` made of a result, by what its closure gives
module _ (P : ℕ → ℕ → Type 0) where
  pub cut_answer : (r m : Result ℕ Refusal) → MatchResult r (λ x. IsOkAnd m (P x)) (λ e. m ≡ Err e) → ((x y : ℕ) → P x y → y ≡ x % 4294967296)
      → codes.answer_of m ≡ answer_of r
  unfolding answer_of codes.answer_of
  cut_answer (Ok x) (Ok y) h f = ap (λ v. 256 * v) (f x y h)
  cut_answer (Ok x) (Err e) h f = absurd h
  cut_answer (Err e) m h f = rw h refl

  pub same_answer : (r m : Result ℕ Refusal) → MatchResult r (λ x. IsOkAnd m (P x)) (λ e. m ≡ Err e) → ((x y : ℕ) → P x y → y ≡ x) → answer_of m ≡ answer_of r
  unfolding answer_of
  same_answer (Ok x) (Ok y) h f = ap (λ v. answer_of (Ok v)) (f x y h)
  same_answer (Ok x) (Err e) h f = absurd h
  same_answer (Err e) m h f = ap answer_of h

pub ruleset answering = (rules, small_rest)
