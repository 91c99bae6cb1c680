-- Laws of the sum of a step's mail.
--     Summed, summing     the loop that adds the numbers up, and what closes its needs
-- Assumes nothing.
use mathlib.Core.Path.{◌≡◌, sym, ap, ◌∙◌}
use mathlib.Core.Bool.{true}
use mathlib.Core.List.{List}
use Prim.Native.Nat.{ℕ, suc, ◌+◌, ◌/◌, ◌<◌, ◌≤◌}
use native.Mathlib.Numerals.{add-one}
use native.Mathlib.Omega.{arith}
use borrow.Author.Rules.{rules}
use lib.ListN.{length, get_or, drop, drop_of_length-le}
use lib.Seq.{drop-cons}
use Rattle.numbers.specs.Bytes.{width, numbers, all_below}
use Rattle.numbers.proofs.Bytes.{numbers-length}
use Rattle.numbers.proofs.Below.{all_below_at}
use Rattle.field.specs.Mod.{add}
use Rattle.field.specs.Field.{Is, Below2, Ready}
use Rattle.field.proofs.Solve.{#, quote, solve, below}
use Rattle.sharing_laws.specs.Basis.{sum_all}
use Rattle.sharing_laws.proofs.Sums.{list_canon}

-- the invariant: with the sum of those from the j-th on it makes the whole
pub record Summed (p : ℕ) (xs : List ℕ) (sum j : ℕ) : Type 0 where
  pub rest : add p sum (sum_all p (drop j xs)) ≡ sum_all p xs
  pub below : sum < p

module _ (p : ℕ) (mail : List ℕ) (r : Ready p) where
  pub sum-none : Summed p (numbers mail) 0 0
  sum-none = record {
    rest = solve p (search (quote, # (sum_all p (numbers mail)), list_canon)) (omega arith);
    below = omega (arith, r.prime.above);
  }

  module _ (sum j : ℕ) (s : Summed p (numbers mail) sum j) where
    inside : j < length mail / width → j < length (numbers mail)
    inside l = omega (arith, numbers-length mail)

    pub sum_pair : (v : ℕ) → j < length mail / width → all_below p (numbers mail) ≡ true → v ≡ get_or (numbers mail) j 0 → Below2 p sum v
    sum_pair v l b e = record { left = s.below; right = rw e (all_below_at p (numbers mail) j b (inside l)) }

    pub sum_next : (v n : ℕ) → j < length mail / width → v ≡ get_or (numbers mail) j 0 → Is p (add p sum v) n → Summed p (numbers mail) n (j + 1)
    unfolding sum_all
    sum_next v n l e is = record {
      rest =
          rw (is.eq, e, add-one)
          (solve p (search (quote, # sum, # (get_or (numbers mail) j 0), # (sum_all p (drop (suc j) (numbers mail))))) (omega arith)
          ∙ (rw (drop-cons (numbers mail) j 0 (inside l)) at s.rest));
      below = is.lt;
    }

    pub summed : length mail / width ≤ j → Is p (sum_all p (numbers mail)) sum
    unfolding sum_all
    summed l = record {
      eq =
          sym
          (sym s.rest
          ∙ ap (λ (xs : List ℕ). add p sum (sum_all p xs)) (drop_of_length-le (numbers mail) {i = j} (omega (arith, numbers-length mail)))
          ∙ solve p (search (quote, # sum, below s.below)) (omega arith));
      lt = s.below;
    }

pub ruleset summing = (rules, sum-none, sum_pair, sum_next, summed)
