use mathlib.Core.Path.{refl}
use Prim.Native.Nat.{◌+◌, ◌*◌}
use lib.ListN.{length, drop, get_or, replicate}
use Rattle.numbers.specs.Bytes.{numbers}
use Rattle.run_dealings.specs.Rows.{summed_at, shared_by}
use Rattle.run_dealings.proofs.MaskLaws.{masking, twice_fits, twice_within, twice_counted, sum_long, sum_elements, sum_value, row_of_points}
use Rattle.run_dealings.proofs.Dealings.masks.Goals as goal

pub overflow_add-sum : goal.overflow_add-sum
overflow_add-sum c = twice_fits _ _ c.requires.t_bound c.terms-k.ensures

pub overflow_add-sum-2 : goal.overflow_add-sum-2
overflow_add-sum-2 c = twice_fits _ _ c.requires.t_bound c.terms-k.ensures

pub slice_bounds-sum-end : goal.slice_bounds-sum-end
slice_bounds-sum-end c = twice_within _ _ c.requires.t_bound c.terms-k.ensures

pub slice_bounds-sum_polynomials-end : goal.slice_bounds-sum_polynomials-end
slice_bounds-sum_polynomials-end c = twice_counted _ _ c.requires.t_bound c.terms-k.ensures _ refl

pub row_by-requires-clause-callable : goal.row_by-requires-clause-callable
row_by-requires-clause-callable c =
    λ j l.
    let p = c.args.self.now.sums.field.p in
    let long = sum_long _ _ c.requires.t_bound c.terms-k.ensures p _ c.sum_polynomials.new.out _ _ refl c.sum_polynomials.auto.out c.sum_polynomials.ensures in
    let below = sum_elements _ _ c.requires.t_bound c.terms-k.ensures p _ c.sum_polynomials.new.out _ _ refl c.sum_polynomials.auto.out c.sum_polynomials.ensures c.args.self.now.sums.field.ready in
    search (masking, long, below)

pub returns : goal.returns
returns c =
    let self = c.args.self.now in
    let entry = summed_at self.sums.field.p (shared_by (self.t + self.t) (3 * self.t) (replicate (length self.points.now) 0) (drop c.args.at (numbers c.args.coins.now))) in
    row_of_points entry self.points.now _
    (c.row_by.ensures (λ j. entry (get_or self.points.now j 0))
    (λ j r l q. sum_value _ _ c.requires.t_bound c.terms-k.ensures self.sums.field.p _ c.sum_polynomials.new.out _ _ refl c.sum_polynomials.auto.out c.sum_polynomials.ensures
    (length self.points.now) _ _ self.parties refl (search (masking, q)))).0
