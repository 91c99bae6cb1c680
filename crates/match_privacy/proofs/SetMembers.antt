-- The members that a set names are parties, and few, if the set passes.
--     set_few, set-parties, members_from1     what the laws of this crate ask of the list of members
-- Assumes nothing.
use mathlib.Core.Path.{◌≡◌, refl, ap, ◌∙◌}
use mathlib.Core.Bool.{Bool, true, false, cond}
use mathlib.Core.List.{◌∷◌}
use Prim.Native.Nat.{ℕ, zero, suc, ◌-◌, ◌/◌, ◌%◌, ◌^◌, ◌≤◌, ◌<◌}
use native.Mathlib.Decide.{dec_le}
use native.Mathlib.Nat.{pow-le-pow_right, div-eq_of_lt}
use native.Mathlib.Omega.{arith}
use borrow.Author.Tests.{ltb-true, leb-true, eqb-true}
use lib.Dec.{eqb, leb, ltb}
use lib.ListN.{length}
use Rattle.plan.specs.Plans.{Plan, party_count}
use Rattle.plan_coalition.specs.Coalitions.{in_set, members_from, members, set_ok}
use Rattle.match_privacy.specs.Matching.{is_member}
use Rattle.numbers.proofs.Truth.{both_true}

-- a member's bit is set
pub member_in : (set k i j : ℕ) → is_member i (members_from set j k) ≡ true → in_set set i ≡ true
unfolding members_from is_member
member_in set zero i j m = let z : ◌≡◌ {A = ℕ} 0 1 = cc in absurd (omega arith)
member_in set (suc k) i j m = pick (in_set set j) refl (eqb i j) refl m (member_in set k i (suc j))
  where
    pick :
        (b : Bool) → in_set set j ≡ b → (e : Bool) → eqb i j ≡ e
        → is_member i (cond b (j ∷ members_from set (suc j) k) (members_from set (suc j) k)) ≡ true
        → (is_member i (members_from set (suc j) k) ≡ true → in_set set i ≡ true) → in_set set i ≡ true
    pick true on true same h later = ap (in_set set) (eqb-true i j same) ∙ on
    pick true on false other h later = later (rw other at h)
    pick false off e q h later = later h

-- no bit is set at 2 ^ n or above in a number below it
pub in_below : (set n i : ℕ) → set < 2 ^ n → in_set set i ≡ true → i ≤ n
unfolding in_set
in_below set n i lt on = at (dec_le i n)
  where
    at : Dec (i ≤ n) → i ≤ n
    at (yes le) = le
    at (no gt) =
        let up : 2 ^ n ≤ 2 ^ (i - 1) = pow-le-pow_right {n = 2} (omega arith) {i = n} {j = i - 1} (omega arith) in
        let none : set / 2 ^ (i - 1) ≡ 0 = div-eq_of_lt (omega arith) in
        let odd : set / 2 ^ (i - 1) % 2 ≡ 1 = eqb-true (set / 2 ^ (i - 1) % 2) 1 on in
        let even : set / 2 ^ (i - 1) % 2 ≡ 0 = ap (λ n. n % 2) none in
        absurd (omega arith)

pub set_few : (plan : Plan) (set : ℕ) → set_ok plan set ≡ true → length (members set) ≤ plan.t
unfolding set_ok
set_few plan set ok =
    leb-true (length (members set)) plan.t (both_true (ltb set (2 ^ party_count plan)) (leb (length (members set)) plan.t) ok).1

pub set-parties : (plan : Plan) (set : ℕ) → set_ok plan set ≡ true → (i : ℕ) → is_member i (members set) ≡ true → i ≤ party_count plan
unfolding set_ok members
set-parties plan set ok i m =
    in_below set (party_count plan) i
    (ltb-true set (2 ^ party_count plan) (both_true (ltb set (2 ^ party_count plan)) (leb (length (members set)) plan.t) ok).0)
    (member_in set 16 i 1 m)

member_from : (set k i j : ℕ) → is_member i (members_from set j k) ≡ true → j ≤ i
unfolding members_from is_member
member_from set zero i j m = let z : ◌≡◌ {A = ℕ} 0 1 = cc in absurd (omega arith)
member_from set (suc k) i j m = pick (in_set set j) (eqb i j) refl m (member_from set k i (suc j))
  where
    pick :
        (b e : Bool) → eqb i j ≡ e → is_member i (cond b (j ∷ members_from set (suc j) k) (members_from set (suc j) k)) ≡ true
        → (is_member i (members_from set (suc j) k) ≡ true → suc j ≤ i) → j ≤ i
    pick true true same h later = let q : i ≡ j = eqb-true i j same in omega arith
    pick true false other h later = let q : suc j ≤ i = later (rw other at h) in omega arith
    pick false e q h later = let r : suc j ≤ i = later h in omega arith

pub members_from1 : (set i : ℕ) → is_member i (members set) ≡ true → 1 ≤ i
unfolding members
members_from1 set i m = member_from set 16 i 1 m
