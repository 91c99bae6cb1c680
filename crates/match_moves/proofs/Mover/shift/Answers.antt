use Prim.Native.Nat.{◌<◌, ◌+◌}
use Rattle.numbers.specs.Bytes.{numbers}
use Rattle.sharing.proofs.Coding.{entry_below}
use Rattle.match_moves.proofs.MoveLaws.{coin_low, coin_pair, coin_bound, coin_moved, move-next}
use Rattle.match_moves.proofs.Mover.shift.Goals as goal

pub add_product-sum-requires-clause-below2 : goal.add_product-sum-requires-clause-below2
add_product-sum-requires-clause-below2 c =
    let self = c.args.self.now in
    let ready = self.sized.ready in
    let coin : c.read-coin.result < self.header.field.p = rw c.read-coin.ensures.eq (entry_below _ (numbers self.coins.now) (c.args.at + c.loop-j.j) ready c.requires.lent.below) in
    coin_pair _ _ _ _ _ self.summed ready coin c.requires.d_lt_p (entry_below _ c.args.coefficients.now c.loop-j.j ready c.requires.coefficients_value)

pub add_product-sum-requires-clause-sum_bound : goal.add_product-sum-requires-clause-sum_bound
add_product-sum-requires-clause-sum_bound c =
    let self = c.args.self.now in
    let ready = self.sized.ready in
    let coin : c.read-coin.result < self.header.field.p = rw c.read-coin.ensures.eq (entry_below _ (numbers self.coins.now) (c.args.at + c.loop-j.j) ready c.requires.lent.below) in
    coin_low _ _ _ _ _ self.summed ready coin c.requires.d_lt_p (entry_below _ c.args.coefficients.now c.loop-j.j ready c.requires.coefficients_value)

pub reduced-requires : goal.reduced-requires
reduced-requires c =
    let self = c.args.self.now in
    let ready = self.sized.ready in
    let coin : c.read-coin.result < self.header.field.p = rw c.read-coin.ensures.eq (entry_below _ (numbers self.coins.now) (c.args.at + c.loop-j.j) ready c.requires.lent.below) in
    coin_bound _ _ _ _ _ self.summed ready coin c.requires.d_lt_p (entry_below _ c.args.coefficients.now c.loop-j.j ready c.requires.coefficients_value)
    _ c.add_product-sum.ensures

pub loop-j-preserved : goal.loop-j-preserved
loop-j-preserved c =
    let self = c.args.self.now in
    let ready = self.sized.ready in
    let coin : c.read-coin.result < self.header.field.p = rw c.read-coin.ensures.eq (entry_below _ (numbers self.coins.now) (c.args.at + c.loop-j.j) ready c.requires.lent.below) in
    let moved =
    coin_moved _ _ _ _ _ self.summed ready coin c.requires.d_lt_p (entry_below _ c.args.coefficients.now c.loop-j.j ready c.requires.coefficients_value)
    _ c.add_product-sum.ensures _ c.reduced.ensures in
    move-next _ _ _ _ _ _ _ _ c.loop-j.invariant _ _ _ ready c.loop-j-test.true c.read-coin.ensures.eq moved c.write.ensures
