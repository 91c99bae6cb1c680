-- The polynomial that is 1 at 0 and 0 at given points.
use mathlib.Core.Path.{◌≡◌, refl, sym, ap, ◌∙◌}
use mathlib.Core.Logic.{◌≢◌}
use mathlib.Core.List.{List, [], ◌∷◌, Memᴰ}
use Prim.Native.Nat.{ℕ, suc, ◌%◌, ◌<◌}
use native.Mathlib.Omega.{arith}
use lib.ListN.{length}
use Rattle.field.proofs.Solve.{#, quote, solve, combine}
use Rattle.field.proofs.Inverse.{inv-law, pos, one-canon}
use Rattle.sharing_laws.proofs.Polys.{eval-linear, length-linear}
use Rattle.sharing_laws.specs.Interp.{delta}
use Rattle.field.specs.Mod.{sub}
use Rattle.field.specs.Prime.{Prime, inv}
use Rattle.sharing_laws.specs.Poly.{eval}

pub length-delta : (p : ℕ) (cs : List ℕ) → length (delta p cs) ≡ suc (length cs)
unfolding delta
length-delta p [] = refl
length-delta p (c ∷ cs) = length-linear p 1 (sub p 0 (inv p c)) (delta p cs) ∙ ap suc (length-delta p cs)

module _ {p : ℕ} (prime : Prime p) where
  pub delta-at-0 : (cs : List ℕ) → eval p (delta p cs) 0 ≡ 1
  unfolding delta eval
  delta-at-0 [] = solve p (search (quote, one-canon prime)) (omega arith)
  delta-at-0 (c ∷ cs) = rw (eval-linear p 1 (sub p 0 (inv p c)) (delta p cs) 0, delta-at-0 cs) (solve p (search (quote, one-canon prime, # (sub p 0 (inv p c)))) (omega arith))

  pub delta-at : (cs : List ℕ) (c : ℕ) → c % p ≢ 0 → Memᴰ c cs → eval p (delta p cs) c ≡ 0
  unfolding delta
  delta-at [] c nz x'' = elim x'' [ ]
  delta-at (d ∷ cs) c nz (Memᴰ.head e) =
      let pos : 0 < p = pos prime in
      rw (eval-linear p 1 (sub p 0 (inv p d)) (delta p cs) c, ← e)
      (combine p (eval p (delta p cs) c) (search quote) (search quote) (sym (inv-law prime c nz)) (solve p (search (quote, # c, # (inv p c), # (eval p (delta p cs) c)) depth 9) (omega arith)))
  delta-at (d ∷ cs) c nz (Memᴰ.tail m) =
      rw (eval-linear p 1 (sub p 0 (inv p d)) (delta p cs) c, delta-at cs c nz m)
      (solve p (search (quote, # c, # (sub p 0 (inv p d)))) (omega arith))
