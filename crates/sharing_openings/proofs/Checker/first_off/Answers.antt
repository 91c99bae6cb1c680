use Rattle.std.proofs.Common.{arith}
use Rattle.sharing_openings.proofs.Rows.{check-off, check-on}
use Rattle.sharing_openings.proofs.Checker.first_off.Goals as goal

pub returns-then-dot-share : goal.returns-then-dot-share
returns-then-dot-share c = check-off _ _ _ _ _ _ c.args.self.now.checkable (omega arith) c.loop-party.invariant _ c.dot.ensures c.if-dot-share.true

pub loop-party-preserved : goal.loop-party-preserved
loop-party-preserved c = check-on _ _ _ _ _ _ c.args.self.now.checkable (omega arith) c.loop-party.invariant _ c.dot.ensures c.if-dot-share.false
