-- The sizes of the lists and of the record that a host lends, as the C interface answers them.
use Rattle.std.specs.Prelude.{ℕ, suc, ◌+◌, ◌*◌, cond, List, [], ◌∷◌, ◌++◌, eqb, leb, length}
use Rattle.numbers.specs.Bytes.{width}
use Rattle.plan.specs.declared.Refusal.TheVariants as refusal
use Rattle.plan.specs.Refusals.{first_of, need}
use Rattle.plan.specs.Plans.{Plan, party_count, last_call, input_count, coin_count, own_input_count, own_coin_count, triple_numbers, mail_count, written_count}
use Rattle.plan.specs.File.{between, plan_checks, plan_check, plan_of}
use Rattle.plan_codes.specs.Values.{value_of}
use Rattle.plan_coalition.specs.Coalitions.{members, set_ok}
use Rattle.run_protocol.specs.Rounds.{view_count}
use Rattle.record_laws.specs.Records.{record_size}

-- the numbers of mail that party i's call takes, and of what it writes; 0 where there is no such call
unfoldable pub mail_of_call : Plan → ℕ → ℕ → ℕ
mail_of_call plan i call = cond (leb call (last_call plan)) (mail_count plan i call) 0

unfoldable pub written_by_call : Plan → ℕ → ℕ → ℕ
written_by_call plan i call = cond (leb call (last_call plan)) (written_count plan i call) 0

-- the numbers of a party's list: 0 its own inputs, 1 its own coins, 2 its state, 3 a call's mail, 4 what a call writes, 5 its triples; any
-- other: none
unfoldable pub seat_count : Plan → ℕ → ℕ → ℕ → ℕ
seat_count plan i call what =
    cond (eqb what 0) (own_input_count plan i)
    (cond (eqb what 1) (own_coin_count plan i)
    (cond (eqb what 2) (1 + length plan.gates)
    (cond (eqb what 3) (mail_of_call plan i call)
    (cond (eqb what 4) (written_by_call plan i call)
    (cond (eqb what 5) (triple_numbers plan) 0)))))

-- in bytes
unfoldable pub seat_size : List ℕ → ℕ → ℕ → ℕ → ℕ
seat_size bs i call what =
    value_of (first_of (plan_checks bs ++ (need refusal.Coalition (between 1 (party_count (plan_of bs)) i) ∷ []))) (width * seat_count (plan_of bs) i call what)

-- the numbers of a whole run: all inputs, all coins, a coalition's view, all triples
unfoldable pub run_count : Plan → ℕ → ℕ → ℕ
run_count plan set what =
    cond (eqb what 0) (input_count plan)
    (cond (eqb what 1) (coin_count plan)
    (cond (eqb what 2) (view_count plan (members set))
    (cond (eqb what 3) (party_count plan * triple_numbers plan) 0)))

unfoldable pub run_size : List ℕ → ℕ → ℕ → ℕ
run_size bs set what =
    value_of (first_of (plan_checks bs ++ (need refusal.Coalition (set_ok (plan_of bs) set) ∷ []))) (width * run_count (plan_of bs) set what)

-- how many calls each party makes: 0 to the last
unfoldable pub call_count : List ℕ → ℕ
call_count bs = value_of (plan_check bs) (suc (last_call (plan_of bs)))

-- the bytes of a run's record
unfoldable pub stored_size : List ℕ → ℕ
stored_size bs = value_of (plan_check bs) (record_size (plan_of bs))
