-- Sums over the parties, and weighted sums of what changes by a multiple.
--     dot_differ         a weighted sum of values that change by a multiple of others
--     dot_both           a weighted sum of sums
--     sum_moved          one party's term changes
--     eval-total, take_total      the sum of the parties' polynomials, and its cut
--     Adding, adding     a loop that adds
-- Assumes nothing.
use mathlib.Core.Path.{◌≡◌, refl, sym, ap, ap₂, ◌∙◌}
use mathlib.Core.Logic.{◌≢◌}
use mathlib.Core.List.{List, [], ◌∷◌, ◌++◌, map, Memᴰ}
use Prim.Native.Nat.{ℕ, zero, suc, ◌+◌, ◌%◌, ◌≤◌, ◌<◌}
use native.Mathlib.Omega.{arith}
use borrow.Author.Rules.{rules}
use lib.ListN.{length, take}
use Rattle.numbers.specs.Tables.{tab}
use Rattle.numbers.proofs.Tables.{tab-next}
use Rattle.field.specs.Mod.{add, mul}
use Rattle.field.specs.Field.{Is, Ready}
use Rattle.field.proofs.Solve.{Canon, zero_canon, add_canon, #, quote, solve}
use Rattle.field.proofs.Inverse.{pos}
use Rattle.sharing_laws.specs.Poly.{eval, sum_of}
use Rattle.sharing_laws.specs.Interp.{All, Distinct, dot}
use Rattle.sharing_laws.specs.Basis.{sum_all}
use Rattle.sharing_laws.proofs.Polys.{eval_sum, length_sum}
use Rattle.sharing_laws.proofs.Cuts.{take_sum}
use Rattle.sharing_laws.proofs.Steps.{sum_over}

pub dot_differ :
    (p c : ℕ) (f g : ℕ → ℕ) (ws is : List ℕ)
    → dot p ws (map (λ i. add p (f i) (mul p c (g i))) is) ≡ add p (dot p ws (map f is)) (mul p c (dot p ws (map g is)))
unfolding dot
dot_differ p c f g [] is = solve p (search (quote, # c)) (omega arith)
dot_differ p c f g (w ∷ ws) [] = solve p (search (quote, # c)) (omega arith)
dot_differ p c f g (w ∷ ws) (i ∷ is) =
    rw (dot_differ p c f g ws is)
    (solve p (search (quote, # c, # w, # (f i), # (g i), # (dot p ws (map f is)), # (dot p ws (map g is))) depth 9) (omega arith))

pub dot_both : (p : ℕ) (f g : ℕ → ℕ) (ws is : List ℕ) → dot p ws (map (λ i. add p (f i) (g i)) is) ≡ add p (dot p ws (map f is)) (dot p ws (map g is))
unfolding dot
dot_both p f g [] is = solve p (search quote) (omega arith)
dot_both p f g (w ∷ ws) [] = solve p (search quote) (omega arith)
dot_both p f g (w ∷ ws) (i ∷ is) =
    rw (dot_both p f g ws is) (solve p (search (quote, # w, # (f i), # (g i), # (dot p ws (map f is)), # (dot p ws (map g is)))) (omega arith))

pub sum_canon : (p : ℕ) (is : List ℕ) (f : ℕ → ℕ) → Canon p (sum_over p is f)
unfolding sum_over
sum_canon p [] f = zero_canon
sum_canon p (i ∷ is) f = add_canon _ _

-- ---- one party's term changes
module _ (p : ℕ) (at : ℕ → ℕ) (l c : ℕ) (f f' : ℕ → ℕ) (moved : f' l ≡ add p (f l) c) (kept : (i : ℕ) → i ≢ l → f' i ≡ f i) where
  sum_kept : (is : List ℕ) → All (λ y. y % p ≢ at l % p) (map at is) → sum_over p is f' ≡ sum_over p is f
  unfolding sum_over
  sum_kept [] away = refl
  sum_kept (i ∷ is) away = ap₂ (add p) (kept i (λ e. away.0 (ap (λ n. at n % p) e))) (sum_kept is away.1)

  all_mem : (P : ℕ → Type 0) (is : List ℕ) → All P (map at is) → Memᴰ l is → P (at l)
  all_mem P [] a x'' = elim x'' [ ]
  all_mem P (i ∷ is) a (Memᴰ.head e) = rw e a.0
  all_mem P (i ∷ is) a (Memᴰ.tail m) = all_mem P is a.1 m

  pub sum_moved : (is : List ℕ) → Distinct p (map at is) → Memᴰ l is → sum_over p is f' ≡ add p (sum_over p is f) c
  unfolding sum_over
  sum_moved [] d x'' = elim x'' [ ]
  sum_moved (i ∷ is) d (Memᴰ.head e) =
      rw (← e) (ap₂ (add p) moved (sum_kept is (rw e d.0)) ∙ solve p (search (quote, # (f l), # c, # (sum_over p is f))) (omega arith))
  sum_moved (i ∷ is) d (Memᴰ.tail m) =
      ap₂ (add p) (kept i (λ e. all_mem (λ y. y % p ≢ at i % p) is d.0 m (ap (λ n. at n % p) (sym e)))) (sum_moved is d.1 m)
      ∙ solve p (search (quote, # (f i), # c, # (sum_over p is f))) (omega arith)

-- ---- the sum of the parties' polynomials
unfoldable pub total : ℕ → List ℕ → (ℕ → List ℕ) → List ℕ
total p [] f = []
total p (i ∷ is) f = sum_of p (f i) (total p is f)

pub eval-total : (p : ℕ) (is : List ℕ) (f : ℕ → List ℕ) (x : ℕ) → eval p (total p is f) x ≡ sum_over p is (λ i. eval p (f i) x)
unfolding total sum_over eval
eval-total p [] f x = refl
eval-total p (i ∷ is) f x = eval_sum p (f i) (total p is f) x ∙ ap (add p (eval p (f i) x)) (eval-total p is f x)

pub take_total : (p k : ℕ) (is : List ℕ) (f : ℕ → List ℕ) → take k (total p is f) ≡ total p is (λ i. take k (f i))
unfolding total
take_total p zero [] f = refl
take_total p (suc k) [] f = refl
take_total p k (i ∷ is) f = take_sum p k (f i) (total p is f) ∙ ap (sum_of p (take k (f i))) (take_total p k is f)

pub length-total : (p k : ℕ) (is : List ℕ) (f : ℕ → List ℕ) → ((i : ℕ) → length (f i) ≤ k) → length (total p is f) ≤ k
unfolding total
length-total p k [] f h = omega arith
length-total p k (i ∷ is) f h = omega (arith, length_sum p (f i) (total p is f), h i, length-total p k is f h)

pub sum_zeros : (p : ℕ) (is : List ℕ) (f : ℕ → ℕ) → ((i : ℕ) → f i ≡ 0) → sum_over p is f ≡ 0
unfolding sum_over
sum_zeros p [] f z = refl
sum_zeros p (i ∷ is) f z = ap₂ (add p) (z i) (sum_zeros p is f z) ∙ solve p (search quote) (omega arith)

-- ---- sums are elements
pub dot_canon : (p : ℕ) (ws vs : List ℕ) → Canon p (dot p ws vs)
unfolding dot
dot_canon p [] vs = zero_canon
dot_canon p (w ∷ ws) [] = zero_canon
dot_canon p (w ∷ ws) (v ∷ vs) = add_canon (mul p w v) (dot p ws vs)

pub list_canon : (p : ℕ) (vs : List ℕ) → Canon p (sum_all p vs)
unfolding sum_all
list_canon p [] = zero_canon
list_canon p (v ∷ vs) = add_canon v (sum_all p vs)

-- ---- a loop that adds: the first j terms of f are added
sum_snoc : (p : ℕ) (vs : List ℕ) (v : ℕ) → sum_all p (vs ++ (v ∷ [])) ≡ add p (sum_all p vs) v
unfolding sum_all
sum_snoc p [] v = solve p (search (quote, # v)) (omega arith)
sum_snoc p (u ∷ vs) v = rw (sum_snoc p vs v) (solve p (search (quote, # u, # v, # (sum_all p vs))) (omega arith))

pub record Adding (p : ℕ) (f : ℕ → ℕ) (sum j : ℕ) : Type 0 where
  pub is : Is p (sum_all p (tab f j)) sum

module _ (p : ℕ) (f : ℕ → ℕ) where
  pub add_none : Ready p → Adding p f 0 0
  unfolding tab sum_all
  add_none r = record { is = record { eq = refl; lt = pos r.prime } }

  module _ (sum j : ℕ) (h : Adding p f sum j) where
    pub add-below : sum < p
    add-below = h.is.lt

    pub add_next : (v y : ℕ) → v ≡ f j → Is p (add p sum v) y → Adding p f y (j + 1)
    add_next v y e is = record {
      is = record {
        eq = is.eq ∙ ap₂ (add p) h.is.eq e ∙ sym (ap (sum_all p) (tab-next f j) ∙ sum_snoc p (tab f j) (f j));
        lt = is.lt;
      };
    }

    pub added : (n : ℕ) → j ≤ n → n ≤ j → Is p (sum_all p (tab f n)) sum
    added n l m = let q : j ≡ n = omega arith in rw (← q) h.is

-- what closes each need of such a loop
pub ruleset adding = (rules, add_none, add-below, add_next, added)
