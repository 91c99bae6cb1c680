-- What a set's members own of a list of owners.
--     members-own     as many as there are owners in the set, where all are parties
--     own-most        not more than there are
-- Assumes nothing.
use Prim.Native.Nat.{ℕ, zero, suc, ◌+◌, ◌<◌, ◌≤◌}
use mathlib.Core.Path.{◌≡◌, refl, ap, ap₂, ◌∙◌}
use mathlib.Core.Bool.{Bool, true, false, cond}
use mathlib.Core.List.{List, [], ◌∷◌, map}
use mathlib.Core.Logic.{⊎_elim}
use native.Mathlib.Nat.{eq-or-lt_of_le}
use native.Mathlib.Omega.{arith}
use borrow.Author.Tests.{eq-eqb, ne_eqb, eqb-true}
use lib.Dec.{eqb}
use lib.ListN.{length}
use Rattle.numbers.specs.Tables.{count_where, total}
use Rattle.sharing_laws.specs.Interp.{All}
use Rattle.plan_coalition.specs.Coalitions.{in_set, members_from, members}

total-zero : (ms : List ℕ) → total (map (λ i. 0) ms) ≡ 0
unfolding total
total-zero [] = refl
total-zero (i ∷ ms) = omega (arith, total-zero ms)

total_more : (o : ℕ) (f : ℕ → ℕ) (ms : List ℕ) → total (map (λ i. cond (eqb i o) (suc (f i)) (f i)) ms) ≡ count_where (λ i. eqb i o) ms + total (map f ms)
unfolding total count_where
total_more o f [] = refl
total_more o f (i ∷ ms) = by (eqb i o) (f i) (count_where (λ i. eqb i o) ms) (total (map f ms)) (total (map (λ i. cond (eqb i o) (suc (f i)) (f i)) ms)) (total_more o f ms)
  where
    by : (b : Bool) (x c t u : ℕ) → u ≡ c + t → cond b (suc x) x + u ≡ cond b (suc c) c + (x + t)
    by true x c t u e = omega arith
    by false x c t u e = omega arith

-- ---- how often a party is among the members
none_earlier : (set o i k : ℕ) → o < i → count_where (λ j. eqb j o) (members_from set i k) ≡ 0
unfolding members_from count_where
none_earlier set o i zero l = refl
none_earlier set o i (suc k) l = by (in_set set i) (none_earlier set o (suc i) k (omega arith))
  where
    by : (b : Bool) → count_where (λ j. eqb j o) (members_from set (suc i) k) ≡ 0
        → count_where (λ j. eqb j o) (cond b (i ∷ members_from set (suc i) k) (members_from set (suc i) k)) ≡ 0
    by true h = rw (ne_eqb i o (λ e. omega arith)) h
    by false h = h

once_member : (set o i k : ℕ) → i ≤ o → o < i + k → count_where (λ j. eqb j o) (members_from set i k) ≡ cond (in_set set o) 1 0
unfolding members_from count_where
once_member set o i zero l m = absurd (omega arith)
once_member set o i (suc k) l m = ⊎_elim here (λ h. later (in_set set i) h (once_member set o (suc i) k h (omega arith))) (eq-or-lt_of_le {n = i} {m = o} l)
  where
    one : (b : Bool) → i ≡ o → count_where (λ j. eqb j o) (cond b (i ∷ members_from set (suc i) k) (members_from set (suc i) k)) ≡ cond b 1 0
    one true e = rw (eq-eqb i o e, none_earlier set o (suc i) k (omega arith))
    one false e = none_earlier set o (suc i) k (omega arith)

    here : i ≡ o → count_where (λ j. eqb j o) (cond (in_set set i) (i ∷ members_from set (suc i) k) (members_from set (suc i) k)) ≡ cond (in_set set o) 1 0
    here e = one (in_set set i) e ∙ ap (λ (j : ℕ). cond (in_set set j) 1 0) e

    later : (b : Bool) → i < o → count_where (λ j. eqb j o) (members_from set (suc i) k) ≡ cond (in_set set o) 1 0
        → count_where (λ j. eqb j o) (cond b (i ∷ members_from set (suc i) k) (members_from set (suc i) k)) ≡ cond (in_set set o) 1 0
    later true h e = rw (ne_eqb i o (λ q. omega arith)) e
    later false h e = e

at-most-once : (set o i k : ℕ) → count_where (λ j. eqb j o) (members_from set i k) ≤ 1
unfolding members_from count_where
at-most-once set o i zero = omega arith
at-most-once set o i (suc k) = by (in_set set i) (eqb i o) refl (at-most-once set o (suc i) k)
  where
    by : (b c : Bool) → eqb i o ≡ c → count_where (λ j. eqb j o) (members_from set (suc i) k) ≤ 1
        → count_where (λ j. eqb j o) (cond b (i ∷ members_from set (suc i) k) (members_from set (suc i) k)) ≤ 1
    by true true e h = rw (e, none_earlier set o (suc i) k (omega (arith, eqb-true i o e))) (omega arith)
    by true false e h = rw e h
    by false c e h = h

-- ---- of a list of owners
pub members-own :
    (set n : ℕ) → n ≤ 16 → (os : List ℕ) → All (λ o. (1 ≤ o) × (o ≤ n)) os → total (map (λ i. count_where (eqb i) os) (members set)) ≡ count_where (in_set set) os
unfolding members count_where
members-own set n l [] w = total-zero (members_from set 1 16)
members-own set n l (o ∷ os) w =
    total_more o (λ i. count_where (eqb i) os) (members_from set 1 16)
    ∙ ap₂ (λ (a b : ℕ). a + b) (once_member set o 1 16 w.0.0 (omega (arith, w.0.1))) (members-own set n l os w.1)
    ∙ by (in_set set o) (count_where (in_set set) os)
  where
    by : (b : Bool) (c : ℕ) → cond b 1 0 + c ≡ cond b (suc c) c
    by true c = omega arith
    by false c = omega arith

pub own-most : (set : ℕ) (os : List ℕ) → total (map (λ i. count_where (eqb i) os) (members set)) ≤ length os
unfolding members count_where
own-most set [] = omega (arith, total-zero (members_from set 1 16))
own-most set (o ∷ os) = omega (arith, total_more o (λ i. count_where (eqb i) os) (members_from set 1 16), at-most-once set o 1 16, own-most set os)
