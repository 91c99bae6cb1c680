-- The checks in parts, for the code alone: those before the run, and refusal 20 as the table of shares tells it.
use Rattle.std.specs.Prelude.{ℕ, ◌*◌, List, [], ◌∷◌, ◌++◌, eqb, length, get_or}
use Rattle.numbers.specs.Tables.{tab}
use Rattle.numbers.specs.Bytes.{width}
use Rattle.plan.specs.Refusals.{Checked}
use Rattle.plan.specs.declared.Refusal.TheVariants as refusal
use Rattle.plan.specs.Refusals.{first_of, need}
use Rattle.plan.specs.Plans.{Plan}
use Rattle.plan_coalition.specs.Coalitions.{members, set_ok}
use Rattle.seat_messages.specs.Calls.{on_polynomial}
use Rattle.run_protocol.specs.Rounds.{view_count}
use Rattle.run_views.specs.Flat.{row_in}
use Rattle.run_bench.specs.BenchCalls.{given_checks}

-- refusals 9 to 13, 29 and 19
unfoldable pub lent_checks : Plan → ℕ → List ℕ → List ℕ → List ℕ → ℕ → List Checked
lent_checks plan set xs coins triples room =
    need refusal.Coalition (set_ok plan set)
    ∷ (given_checks plan xs coins triples ++ (need refusal.BufferLength (eqb room (width * view_count plan (members set))) ∷ []))

-- refusal 20 of out number k, by the row of its wire in the flat table of n parties, and that of the first out that breaks
unfoldable pub out_check : Plan → ℕ → List ℕ → ℕ → Checked
out_check plan n table k =
    on_polynomial plan.p plan.t plan.points (row_in n table (get_or plan.outs k (record { party = 0; wire = 0 })).wire)

unfoldable pub broken_in : Plan → ℕ → List ℕ → Checked
broken_in plan n table = first_of (tab (out_check plan n table) (length plan.outs))
