-- The text of a bench run whose buffer for the view has the right length.
use Rattle.std.specs.Prelude.{ℕ, ◌*◌, List, take, drop}
use Rattle.numbers.specs.Bytes.{width, numbers}
use Rattle.plan.specs.Plans.{input_count}
use Rattle.plan.specs.File.{plan_of}
use Rattle.plan_coalition.specs.Coalitions.{members}
use Rattle.run_protocol.specs.Rounds.{view_count}
use Rattle.run_bench.specs.BenchCalls.{bench_answer}
use Rattle.bench_lines.specs.Report.{coin_bytes, answer_lines}

unfoldable pub answered : List ℕ → ℕ → List ℕ → List ℕ → List ℕ → List ℕ
answered bs set figures coins triples =
    answer_lines (bench_answer bs set figures coins triples (width * view_count (plan_of bs) (members set))) (plan_of bs) set (numbers figures) (numbers coins)
    (numbers triples)

-- of figures, and what stands past them: coins, then triples
unfoldable pub parted : List ℕ → ℕ → List ℕ → List ℕ → List ℕ
parted bs set figures rest = answered bs set figures (take (coin_bytes (plan_of bs) rest) rest) (drop (coin_bytes (plan_of bs) rest) rest)

-- of a list of figures, coins and triples: the first numbers, as many as a run of the plan has figures, are these
unfoldable pub listed : List ℕ → ℕ → List ℕ → List ℕ
listed bs set list = parted bs set (take (width * input_count (plan_of bs)) list) (drop (width * input_count (plan_of bs)) list)
