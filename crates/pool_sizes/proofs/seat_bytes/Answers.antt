use mathlib.Core.Path.{◌≡◌, subst}
use mathlib.Core.List.{List}
use Prim.Native.Nat.{ℕ}
use borrow.Author.Rules.{rules}
use Rattle.plan.specs.File.{between}
use Rattle.plan.specs.Planned.{Planned}
use Rattle.plan.proofs.Ranges.{contains_is}
use Rattle.pool_sizes.proofs.Sized.{sizing, seat_out}
use Rattle.pool_sizes.proofs.seat_bytes.Goals as goal

pub returns-then-not-contains-clause-is : goal.returns-then-not-contains-clause-is
returns-then-not-contains-clause-is c =
    let r = c.new.ensures in
    let t : c.contains.result ≡ between 1 c.in_ok-plan.plan.header.n c.args.party = contains_is _ _ _ _ _ r.start r.end r.exhausted c.contains.ensures.value in
    let p : Planned c.args.bytes.now c.in_ok-plan.plan.header = subst (λ (bs : List ℕ). Planned bs c.in_ok-plan.plan.header) c.in_ok-plan.ensures.passed c.in_ok-plan.plan.planned in
    seat_out c.args.bytes.now c.in_ok-plan.plan.header p c.args.party c.contains.result t (search rules)

pub returns-clause-is : goal.returns-clause-is
returns-clause-is c =
    let r = c.new.ensures in
    let t : c.contains.result ≡ between 1 c.in_ok-plan.plan.header.n c.args.party = contains_is _ _ _ _ _ r.start r.end r.exhausted c.contains.ensures.value in
    search sizing
