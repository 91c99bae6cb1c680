use Rattle.std.proofs.Common.{rules}
use Rattle.numbers.proofs.Searches.{begin, found-not, passed-not, nothing}
use Rattle.plan_reading.proofs.first_failing.Goals as goal

pub loop-i-init : goal.loop-i-init
loop-i-init g c = λ test decides. begin test c.args.n

pub returns-then-not-ok : goal.returns-then-not-ok
returns-then-not-ok g c = λ test decides. let w = c.loop-i.invariant test decides in let d = decides _ _ c.loop-i-test.true c.ok.ensures in let e = c.if-not-ok.true in let f = c.if-not-ok.ensures in found-not test c.args.n c.loop-i.i w c.ok.result c.loop-i-test.true d (search rules)

pub loop-i-preserved : goal.loop-i-preserved
loop-i-preserved g c = λ test decides. let w = c.loop-i.invariant test decides in let d = decides _ _ c.loop-i-test.true c.ok.ensures in let e = c.if-not-ok.false in let f = c.if-not-ok.ensures in passed-not test c.args.n c.loop-i.i w c.ok.result c.loop-i-test.true d (search rules)

pub returns : goal.returns
returns g c = λ test decides. nothing test c.args.n c.loop-i.i (c.loop-i.invariant test decides) c.loop-i-test.false
