-- A random wire stands for the sum of the draws, and its matching shows the members nothing.
--     drawn_shared      the wire
--     drawn-differ      with the coins matched, it changes by the change of the sum times delta
--     draws-moved       one party's draw changes the sum by as much
-- Assumes nothing.
use mathlib.Core.Path.{◌≡◌, sym, ap, ◌∙◌, fun_ext}
use mathlib.Core.Logic.{◌≢◌}
use mathlib.Core.List.{List, [], ◌∷◌, map, Memᴰ}
use Prim.Native.Nat.{ℕ, suc, ◌≤◌, ◌<◌}
use native.Mathlib.Omega.{arith}
use lib.ListN.{length}
use Rattle.field.specs.Mod.{add, mul, sub}
use Rattle.field.specs.Prime.{Prime}
use Rattle.field.proofs.Solve.{Canon, #, quote, solve}
use Rattle.field.proofs.Inverse.{pos}
use Rattle.sharing_laws.specs.Poly.{eval}
use Rattle.sharing_laws.specs.Interp.{Distinct, delta}
use Rattle.sharing_laws.proofs.Shares.{matched-all}
use Rattle.sharing_laws.proofs.Openings.{Shared}
use Rattle.sharing_laws.proofs.Steps.{sum_over, drawn_at, new_coins, Differ}
use Rattle.sharing_laws.proofs.Sums.{sum_moved, total, eval-total, length-total}
use Rattle.sharing_laws.proofs.Reduced.{dealing_shared}

pub drawn_shared :
    (p t : ℕ) (is : List ℕ) (draw : ℕ → ℕ) (ks : ℕ → List ℕ) → ((i : ℕ) → Canon p (draw i)) → ((i : ℕ) → length (ks i) ≤ t)
    → Shared p t (drawn_at p is draw ks) (sum_over p is draw)
unfolding drawn_at
drawn_shared p t is draw ks can le = record {
  poly = total p is (λ i. draw i ∷ ks i);
  small = length-total p (suc t) is (λ i. draw i ∷ ks i) (λ i. omega (arith, le i));
  value = λ x. sym (eval-total p is (λ i. draw i ∷ ks i) x);
  secret = eval-total p is (λ i. draw i ∷ ks i) 0 ∙ ap (sum_over p is) (fun_ext (λ i. dealt i (dealing_shared p t (draw i) (ks i) (can i) (le i))));
}
  where
    dealt : (i : ℕ) → Shared p t (eval p (draw i ∷ ks i)) (draw i) → eval p (draw i ∷ ks i) 0 ≡ draw i
    dealt i s = s.value 0 ∙ s.secret

module _ {p : ℕ} (prime : Prime p) where
  -- each term f i changes by the change of s i times z
  sum-differ :
      (z : ℕ) (f s s' : ℕ → ℕ) (is : List ℕ)
      → sum_over p is (λ i. add p (f i) (mul p (sub p (s' i) (s i)) z)) ≡ add p (sum_over p is f) (mul p (sub p (sum_over p is s') (sum_over p is s)) z)
  unfolding sum_over
  sum-differ z f s s' [] = let pos : 0 < p = pos prime in solve p (search (quote, # z)) (omega arith)
  sum-differ z f s s' (i ∷ is) =
      let pos : 0 < p = pos prime in
      rw (sum-differ z f s s' is)
      (solve p (search (quote, # z, # (f i), # (s i), # (s' i), # (sum_over p is f), # (sum_over p is s), # (sum_over p is s')) depth 9) (omega arith))

  pub drawn-differ :
      (cs is : List ℕ) (draw draw' : ℕ → ℕ) (ks : ℕ → List ℕ)
      → Differ p cs (drawn_at p is draw ks) (drawn_at p is draw' (new_coins p cs draw draw' ks)) (sum_over p is draw) (sum_over p is draw')
  unfolding drawn_at new_coins
  drawn-differ cs is draw draw' ks x =
      ap (sum_over p is) (fun_ext (λ i. matched-all prime cs (ks i) (draw i) (draw' i) x))
      ∙ sum-differ (eval p (delta p cs) x) (λ i. eval p (draw i ∷ ks i) x) draw draw' is

  -- party l's draw changes by c
  pub draws-moved :
      (at : ℕ → ℕ) (l c : ℕ) (is : List ℕ) (draw draw' : ℕ → ℕ) → Canon p c → Distinct p (map at is) → Memᴰ l is → draw' l ≡ add p (draw l) c
      → ((i : ℕ) → i ≢ l → draw' i ≡ draw i) → sub p (sum_over p is draw') (sum_over p is draw) ≡ c
  draws-moved at l c is draw draw' can d m moved kept =
      let pos : 0 < p = pos prime in
      rw (sum_moved p at l c draw draw' moved kept is d m) (solve p (search (quote, can, # c, # (sum_over p is draw))) (omega arith))
