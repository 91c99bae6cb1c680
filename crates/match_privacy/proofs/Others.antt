-- Fewer members than parties leave a party that is none.
--     all-members      if all of 1 to n are members, there are n members or more
--     other_exists     the lowest party that is not a member
-- Assumes nothing.
use Rattle.std.proofs.Common.{Option, Some, None}
use mathlib.Core.Path.{◌≡◌, refl, sym, ap, ◌∙◌}
use mathlib.Core.Logic.{◌≢◌}
use mathlib.Core.Bool.{Bool, true, false, cond}
use mathlib.Core.List.{List, [], ◌∷◌}
use Prim.Native.Nat.{ℕ, zero, suc, ◌≤◌, ◌<◌}
use native.Mathlib.Omega.{arith}
use borrow.Author.Tests.{eqb-true}
use lib.Dec.{eqb}
use lib.ListN.{length}
use Rattle.numbers.specs.Tables.{first_failing}
use Rattle.numbers.proofs.Searches.{First, nothing_passes, first_failing_lem}
use Rattle.match_privacy.specs.Matching.{is_member}

-- of the parties 1 to n the first that is not among ms, counted from 0
unfoldable pub lowest_other : List ℕ → ℕ → Option ℕ
lowest_other ms n = first_failing (λ i. is_member (suc i) ms) n

-- ms without the first i
unfoldable pub without : ℕ → List ℕ → List ℕ
without i [] = []
without i (j ∷ ms) = cond (eqb i j) ms (j ∷ without i ms)

length_without : (i : ℕ) (ms : List ℕ) → is_member i ms ≡ true → suc (length (without i ms)) ≡ length ms
unfolding is_member without
length_without i [] m = let z : ◌≡◌ {A = ℕ} 0 1 = cc in absurd (omega arith)
length_without i (j ∷ ms) m = pick (eqb i j) m (length_without i ms)
  where
    pick : (b : Bool) → cond b true (is_member i ms) ≡ true → (is_member i ms ≡ true → suc (length (without i ms)) ≡ length ms)
        → suc (length (cond b ms (j ∷ without i ms))) ≡ suc (length ms)
    pick true k later = refl
    pick false k later = ap suc (later k)

member_without : (i k : ℕ) (ms : List ℕ) → k ≢ i → is_member k ms ≡ true → is_member k (without i ms) ≡ true
unfolding is_member without
member_without i k [] ne m = m
member_without i k (j ∷ ms) ne m = pick (eqb i j) refl (eqb k j) refl m (member_without i k ms ne)
  where
    pick :
        (b : Bool) → eqb i j ≡ b → (c : Bool) → eqb k j ≡ c → cond c true (is_member k ms) ≡ true
        → (is_member k ms ≡ true → is_member k (without i ms) ≡ true) → is_member k (cond b ms (j ∷ without i ms)) ≡ true
    pick true e true f h later = absurd (ne (eqb-true k j f ∙ sym (eqb-true i j e)))
    pick true e false f h later = h
    pick false e true f h later = rw f
    pick false e false f h later = rw f (later h)

pub all-members : (n : ℕ) (ms : List ℕ) → ((i : ℕ) → i < n → is_member (suc i) ms ≡ true) → n ≤ length ms
all-members zero ms all = omega arith
all-members (suc n) ms all =
    omega (
      arith,
      length_without (suc n) ms (all n (omega arith)),
      all-members n (without (suc n) ms) (λ i l. member_without (suc n) (suc i) ms (λ e. omega arith) (all i (omega arith))),
    )

-- it is party suc l, no member, and all below it are
pub other_exists : (ms : List ℕ) (n : ℕ) → length ms < n → (l : ℕ) × (lowest_other ms n ≡ Some l) × First (λ i. is_member (suc i) ms) n l
unfolding lowest_other
other_exists ms n few = pick (lowest_other ms n) refl
  where
    pick : (o : Option ℕ) → lowest_other ms n ≡ o → (l : ℕ) × (lowest_other ms n ≡ Some l) × First (λ i. is_member (suc i) ms) n l
    pick (Some l) e = (l, e, first_failing_lem (λ i. is_member (suc i) ms) n l e)
    pick None e = absurd (omega (arith, all-members n ms (nothing_passes (λ i. is_member (suc i) ms) n e)))
