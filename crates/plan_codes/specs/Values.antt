-- The answer of a C call that has a value.
use Rattle.std.specs.Prelude.{Result, Ok, Err, ℕ, ◌≡◌, ◌*◌}
use Rattle.std.specs.Result.{MatchResult}
use Rattle.plan.specs.declared.Refusal.{Refusal}
use Rattle.plan.specs.Refusals.{Checked}
use Rattle.plan.specs.Refusals.{code_of}

-- 0 in the low byte and the value above it, or the refusal's code
unfoldable pub value_of : Checked → ℕ → ℕ
value_of (Ok tt) v = 256 * v
value_of (Err r) v = code_of (Err r)

-- the same of a value or a refusal
unfoldable pub answer_of : Result ℕ Refusal → ℕ
answer_of (Ok v) = 256 * v
answer_of (Err r) = code_of (Err r)

-- a call's value where its checks hold, or their refusal
abbrev pub Answered : Result ℕ Refusal → Checked → ℕ → Type 0
Answered r c v = MatchResult r (λ s. (c ≡ Ok tt) × (s ≡ v)) (λ q. c ≡ Err q)
