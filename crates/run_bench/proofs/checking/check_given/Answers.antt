use Rattle.plan.proofs.Handed.{handed_on}
use Rattle.run_bench.proofs.RunCheckLaws.{giving, given-triples}
use Rattle.run_bench.proofs.checking.check_given.Goals as goal

pub returns-in_err-check_inputs : goal.returns-in_err-check_inputs
returns-in_err-check_inputs c = rw (handed_on _ _ c.from_residual.ensures.1) (search (giving, c.in_err-check_inputs.was))

pub returns-in_err-check_coins : goal.returns-in_err-check_coins
returns-in_err-check_coins c = rw (handed_on _ _ c.from_residual-in_err-check_coins.ensures.1) (search (giving, c.in_ok-check_inputs.was, c.in_err-check_coins.was))

pub returns : goal.returns
returns c =
    given-triples _ _ c.args.plan.now.planned _ _ _ _ c.input_count.ensures.eq _ c.check_inputs.ensures c.in_ok-check_inputs.was
    _ c.coin_count.ensures.eq _ c.check_coins.ensures c.in_ok-check_coins.was
    _ c.triple_count.ensures.eq _ c.check_triples.ensures
