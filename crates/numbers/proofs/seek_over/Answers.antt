use Rattle.std.proofs.Common.{◌≡◌, true, false, ◌/◌, arith, rules, tests, length}
use Rattle.std.proofs.lemmas.Iterator.{first_from_Range}
use Rattle.numbers.specs.Bytes.{width}
use Rattle.numbers.proofs.Searches.{find_is}
use Rattle.numbers.proofs.Ways.{is_below, over_is}
use Rattle.numbers.proofs.seek_over.Goals as goal

pub returns : goal.returns
returns c =
    let s = c.args.s.now in
    let p = c.args.p in
    over_is s p _ (find_is (is_below s p) (length s / width) _
    (first_from_Range _ _ _ _ (λ i. is_below s p i ≡ false) (λ i. is_below s p i ≡ true) c.find.ensures.ran
    (λ x q k. grind (arith, tests))
    (λ x q k. (search rules, grind (arith, tests)))))
