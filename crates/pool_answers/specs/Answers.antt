-- What the calls answer that have a value.
use Rattle.std.specs.Prelude.{Result, Ok, Err, ℕ, ◌*◌, ◌%◌}
use Rattle.plan.specs.declared.Refusal.{Refusal}
use Rattle.plan.specs.Refusals.{code_of}

-- what the bench answers: the elements sent as its value, in bits 8 to 39 (they are at most 231,360), or the refusal's code
unfoldable pub answer_of : Result ℕ Refusal → ℕ
answer_of (Ok n) = 256 * (n % 4294967296)
answer_of (Err r) = code_of (Err r)

-- what the line charge answers: the bill as its value, in bits 8 to 39 (it is at most 231,360,000), or the refusal's code
abbrev pub billed_of : Result ℕ Refusal → ℕ
billed_of = answer_of
