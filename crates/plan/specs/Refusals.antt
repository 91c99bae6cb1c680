-- Refusals in checking order: a call's checks are one list, and its answer is the first that does not hold.
use Rattle.std.specs.Prelude.{Option, Some, None, Result, Ok, Err, ℕ, ◌+◌, ◌*◌, ◌%◌, Bool, cond, List, [], ◌∷◌}
use Rattle.plan.specs.declared.Refusal.{Refusal}
use Rattle.plan.specs.declared.Refusal.TheVariants as refusal

-- what a check answers
abbrev pub Checked : Type 0
Checked = Result Unit Refusal

-- a refusal's number
unfoldable pub number_of : Refusal → ℕ
number_of refusal.CircuitText = 23
number_of refusal.SheetText = 27
number_of refusal.TooLarge = 24
number_of refusal.Magic = 1
number_of refusal.Version = 2
number_of refusal.Parties = 3
number_of refusal.Threshold = 4
number_of refusal.Modulus = 5
number_of refusal.Layout = 6
number_of (refusal.GateRule g) = 7
number_of (refusal.OutputRule o) = 8
number_of refusal.Majority = 25
number_of refusal.Points = 26
number_of refusal.Price = 31
number_of refusal.Record = 28
number_of refusal.Coalition = 9
number_of refusal.InputCount = 10
number_of (refusal.InputValue i) = 11
number_of refusal.CoinCount = 12
number_of (refusal.CoinValue i) = 13
number_of refusal.Triples = 29
number_of refusal.Settings = 30
number_of refusal.StateCount = 14
number_of refusal.StateValue = 15
number_of refusal.Finished = 16
number_of refusal.MailCount = 17
number_of (refusal.MailValue i) = 18
number_of refusal.BufferLength = 19
number_of (refusal.OffPolynomial i) = 20
number_of (refusal.InputsDiffer i) = 21
number_of (refusal.OutputsDiffer o) = 22

-- a refusal's place, 0 unless named
unfoldable pub place_of : Refusal → ℕ
place_of (refusal.GateRule g) = g
place_of (refusal.OutputRule o) = o
place_of (refusal.InputValue i) = i
place_of (refusal.CoinValue i) = i
place_of (refusal.MailValue i) = i
place_of (refusal.OffPolynomial i) = i
place_of (refusal.InputsDiffer i) = i
place_of (refusal.OutputsDiffer o) = o
place_of _ = 0

-- the answer of a C call that gives no number of its own: bits 0 to 7 are the refusal's number, bits 8 to 39 its place; 0 where there is none
unfoldable pub code_of : Checked → ℕ
code_of (Ok tt) = 0
code_of (Err r) = number_of r + 256 * (place_of r % 4294967296)

-- the first of two checks that does not hold
unfoldable pub and_then : Checked → Checked → Checked
and_then (Ok tt) c = c
and_then (Err r) c = Err r

-- the first of a list of checks that does not hold
unfoldable pub first_of : List Checked → Checked
first_of [] = (Ok tt)
first_of (c ∷ cs) = and_then c (first_of cs)

-- a refusal unless the test holds
unfoldable pub need : Refusal → Bool → Checked
need r ok = cond ok (Ok tt) (Err r)

-- a refusal with the place that a search found
unfoldable pub unless_found : (ℕ → Refusal) → Option ℕ → Checked
unless_found r (Some i) = Err (r i)
unless_found r None = (Ok tt)
