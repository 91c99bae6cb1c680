-- Whose the coins are: the members' and the others'.
--     members_others       together they are all
--     owners_within        every coin's owner is a party of the plan
--     members_sum          the members' coins, added party by party
--     few_coins            where there are at most 65,536 settings, a run has at most 14,576 coins
-- Assumes nothing.
use Prim.Native.Nat.{ℕ, zero, suc, ◌+◌, ◌*◌, ◌^◌, ◌<◌, ◌≤◌}
use mathlib.Core.Path.{◌≡◌, refl, sym, ap, ap₂, subst, ◌∙◌}
use mathlib.Core.Bool.{Bool, true, false, cond, not}
use mathlib.Core.List.{List, [], ◌∷◌, map, flat_map}
use mathlib.Core.Logic.{⊎_elim}
use Rattle.std.proofs.Math.Nat.{pow-le-pow_left}
use native.Mathlib.Nat.{zero-mul, mul-zero, mul-suc, mul-le-mul}
use native.Mathlib.Omega.{arith}
use lib.Pow.{pow_mono}
use lib.ListN.{length, get_or, replicate, length-append, length-replicate}
use Rattle.numbers.specs.Tables.{tab, count_where, total}
use Rattle.numbers.proofs.Tables.{tab-ext, length-tab}
use Rattle.numbers.proofs.Counts.{count_where-append}
use Rattle.sharing_laws.specs.Interp.{All}
use Rattle.sharing_laws.proofs.Alls.{all_append}
use Rattle.plan.specs.declared.Gate.{Gate}
use Rattle.plan.specs.declared.Gate.TheVariants.{Input, Add, Scale, Offset, Multiply, Random, Spend}
use Rattle.plan.specs.declared.Rule.{Rule}
use Rattle.plan.specs.declared.Rule.TheVariants.{Reduction, Truncation}
use Rattle.plan.specs.Plans.{Plan, party_count, dealer_count, kind_of, is_kind, multiplying, coin_owners_at, coin_owners, coin_count, own_coin_count, dealings_at}
use Rattle.plan.specs.File.{gate_ok}
use Rattle.plan.proofs.Planned.{between-true}
use Rattle.plan.proofs.Valid.{Valid}
use Rattle.plan_coalition.specs.Coalitions.{in_set, members_from, members, set_ok}
use Rattle.plan_coalition.proofs.Coalitions.{member_most}
use Rattle.plan_coalition.proofs.Owned.{members-own}
use Rattle.run_protocol.proofs.Owners.{blocks, length_blocks}
use Rattle.run_protocol.proofs.Dealt.{input-owners, reduction-owners, truncation-owners, random-owners}
use Rattle.std.proofs.lemmas.Bool.{cases_lt}
use Rattle.count_laws.specs.Settings.{member_coins, other_coins}

-- ---- together they are all
both_by : (b : Bool) (c d n : ℕ) → c + d ≡ n → cond b (suc c) c + cond (not b) (suc d) d ≡ suc n
both_by true c d n e = omega arith
both_by false c d n e = omega arith

count_both : {A : Type 0} (f : A → Bool) (xs : List A) → count_where f xs + count_where (λ x. not (f x)) xs ≡ length xs
unfolding count_where
count_both f [] = refl
count_both f (x ∷ xs) = both_by (f x) (count_where f xs) (count_where (λ x. not (f x)) xs) (length xs) (count_both f xs)

pub members_others : (plan : Plan) (set : ℕ) → member_coins plan set + other_coins plan set ≡ coin_count plan
unfolding member_coins other_coins coin_count
members_others plan set = count_both (in_set set) (coin_owners plan)

-- ---- blocks of coins
pub count-replicate : (f : ℕ → Bool) (c x : ℕ) → count_where f (replicate c x) ≡ c * cond (f x) 1 0
unfolding count_where
count-replicate f zero x = sym (zero-mul (cond (f x) 1 0))
count-replicate f (suc c) x = by (f x) (count-replicate f c x)
  where
    by : (b : Bool) → count_where f (replicate c x) ≡ c * cond b 1 0 → cond b (suc (count_where f (replicate c x))) (count_where f (replicate c x)) ≡ suc c * cond b 1 0
    by true e = omega arith
    by false e = omega arith

count_blocks : (f : ℕ → Bool) (c r n : ℕ) → count_where f (blocks c r n) ≡ c * count_where f (tab (λ k. suc (r + k)) n)
unfolding blocks count_where tab
count_blocks f c r zero = sym (mul-zero c)
count_blocks f c r (suc n) =
    let z : suc (r + 0) ≡ suc r = omega arith in
    let next : tab (λ k. suc (r + suc k)) n ≡ tab (λ k. suc (suc r + k)) n = tab-ext (λ k. suc (r + suc k)) (λ k. suc (suc r + k)) n (λ k l. omega arith) in
    rw (z, next)
    (count_where-append f (replicate c (suc r)) (blocks c (suc r) n) ∙ ap₂ (λ (a b : ℕ). a + b) (count-replicate f c (suc r)) (count_blocks f c (suc r) n)
    ∙ by (f (suc r)) (count_where f (tab (λ k. suc (suc r + k)) n)))
  where
    by : (b : Bool) (m : ℕ) → c * cond b 1 0 + c * m ≡ c * cond b (suc m) m
    by true m = omega (arith, mul-suc c m)
    by false m = omega arith

-- of k parties in a row, the members
run-members : (set i m k : ℕ) → m ≤ k → count_where (in_set set) (tab (λ j. i + j) m) ≤ length (members_from set i k)
unfolding count_where tab members_from
run-members set i zero k l = omega arith
run-members set i (suc m) zero l = absurd (omega arith)
run-members set i (suc m) (suc k) l =
    let z : i + 0 ≡ i = omega arith in
    let next : tab (λ j. i + suc j) m ≡ tab (λ j. suc i + j) m = tab-ext (λ j. i + suc j) (λ j. suc i + j) m (λ j h. omega arith) in
    rw (z, next) (by (in_set set i) (count_where (in_set set) (tab (λ j. suc i + j) m)) (members_from set (suc i) k) (run-members set (suc i) m k (omega arith)))
  where
    by : (b : Bool) (c : ℕ) (ms : List ℕ) → c ≤ length ms → cond b (suc c) c ≤ length (cond b (i ∷ ms) ms)
    by true c ms h = omega arith
    by false c ms h = h

first-members : (set m : ℕ) → m ≤ 16 → count_where (in_set set) (tab (λ k. suc (0 + k)) m) ≤ length (members set)
unfolding members
first-members set m l =
    let same : tab (λ k. suc (0 + k)) m ≡ tab (λ j. 1 + j) m = tab-ext (λ k. suc (0 + k)) (λ j. 1 + j) m (λ k h. omega arith) in
    rw same (run-members set 1 m 16 l)

-- ---- a gate's owners
abbrev Within : ℕ → ℕ → Type 0
Within n o = (1 ≤ o) × (o ≤ n)

within-replicate : (n c o : ℕ) → Within n o → All (Within n) (replicate c o)
within-replicate n zero o w = tt
within-replicate n (suc c) o w = (w, within-replicate n c o w)

within_blocks : (n c r k : ℕ) → r + k ≤ n → All (Within n) (blocks c r k)
unfolding blocks
within_blocks n c r zero l = tt
within_blocks n c r (suc k) l =
    all_append (Within n) (replicate c (suc r)) (blocks c (suc r) k) (within-replicate n c (suc r) (omega arith, omega arith)) (within_blocks n c (suc r) k (omega arith))

module _ (plan : Plan) where
  blocks_within : (x : Gate) (c k : ℕ) → coin_owners_at plan x ≡ blocks c 0 k → k ≤ party_count plan → All (Within (party_count plan)) (coin_owners_at plan x)
  blocks_within x c k e l = subst (All (Within (party_count plan))) (sym e) (within_blocks (party_count plan) c 0 k (omega arith))

  multiply_within : (a b : ℕ) (r : Rule) → plan.rule ≡ r → plan.t + plan.t < party_count plan → All (Within (party_count plan)) (coin_owners_at plan (Multiply a b))
  unfolding dealer_count
  multiply_within a b Reduction e l = blocks_within (Multiply a b) plan.t (dealer_count plan) (reduction-owners plan a b e) (omega arith)
  multiply_within a b Truncation e l = blocks_within (Multiply a b) (3 * plan.t) (party_count plan) (truncation-owners plan a b e) (omega arith)

  gate_within :
      (g : ℕ) (x : Gate) → gate_ok (party_count plan) plan.p g x ≡ true → (multiplying x ≡ true → plan.t + plan.t < party_count plan)
      → All (Within (party_count plan)) (coin_owners_at plan x)
  unfolding coin_owners_at dealings_at flat_map gate_ok kind_of multiplying is_kind
  gate_within g (Input s) ok m =
      subst (All (Within (party_count plan))) (sym (input-owners plan s)) (within-replicate (party_count plan) plan.t s (between-true 1 (party_count plan) s ok))
  gate_within g (Add a b) ok m = tt
  gate_within g (Scale a c) ok m = tt
  gate_within g (Offset a c) ok m = tt
  gate_within g (Multiply a b) ok m = multiply_within a b plan.rule refl (m refl)
  gate_within g Random ok m = blocks_within Random plan.t (party_count plan) (random-owners plan) (omega arith)
  gate_within g (Spend a b) ok m = tt

  gates-within :
      (g : ℕ) (gs : List Gate)
      → ((j : ℕ) → j < length gs → gate_ok (party_count plan) plan.p (g + j) (get_or gs j (Input 0)) ≡ true)
      → ((j : ℕ) → j < length gs → multiplying (get_or gs j (Input 0)) ≡ true → plan.t + plan.t < party_count plan)
      → All (Within (party_count plan)) (flat_map (coin_owners_at plan) gs)
  unfolding flat_map
  gates-within g [] rules most = tt
  gates-within g (x ∷ gs) rules most =
      let place : (j : ℕ) → suc g + j ≡ g + suc j = λ j. omega arith in
      let z : g + 0 ≡ g = omega arith in
      all_append (Within (party_count plan)) (coin_owners_at plan x) (flat_map (coin_owners_at plan) gs)
      (gate_within g x (ap (λ (k : ℕ). gate_ok (party_count plan) plan.p k x) (sym z) ∙ rules 0 (omega arith)) (most 0 (omega arith)))
      (gates-within (suc g) gs
      (λ j l. ap (λ (k : ℕ). gate_ok (party_count plan) plan.p k (get_or gs j (Input 0))) (place j) ∙ rules (suc j) (omega arith))
      (λ j l. most (suc j) (omega arith)))

pub owners_within : (plan : Plan) → Valid plan → All (λ o. (1 ≤ o) × (o ≤ party_count plan)) (coin_owners plan)
unfolding coin_owners
owners_within plan valid =
    gates-within plan 0 plan.gates
    (λ j l. let z : 0 + j ≡ j = omega arith in ap (λ (k : ℕ). gate_ok (party_count plan) plan.p k (get_or plan.gates j (Input 0))) z ∙ valid.gates j l)
    valid.majority

-- ---- party by party
pub members_sum : (plan : Plan) → Valid plan → party_count plan ≤ 15 → (set : ℕ) → total (map (own_coin_count plan) (members set)) ≡ member_coins plan set
unfolding member_coins own_coin_count
members_sum plan valid few set = members-own set (party_count plan) (omega arith) (coin_owners plan) (owners_within plan valid)

-- ---- how many coins a run has where there are few settings
pub few_others : (p e : ℕ) → 2 ≤ p → p ^ e ≤ 65536 → e ≤ 16
few_others p e two few = ⊎_elim (λ h. omega arith) (λ h. absurd (omega (arith, few, over, pow_mono {i = 17} {j = e} h))) (cases_lt e 17)
  where
    over : 2 ^ e ≤ p ^ e
    over = pow-le-pow_left two e

module _ (plan : Plan) (few : party_count plan ≤ 15) (below : plan.t < party_count plan) (set : ℕ) (most : length (members set) ≤ plan.t) where
  abbrev others : List ℕ → ℕ
  others os = count_where (λ o. not (in_set set o)) os

  -- of k parties that deal c coins each, at least one is no member
  blocks_few : (c k : ℕ) → plan.t < k → k ≤ 15 → length (blocks c 0 k) ≤ 15 * others (blocks c 0 k)
  blocks_few c k l m =
      let some : 1 ≤ others (tab (λ j. suc (0 + j)) k) =
      omega (arith, count_both (in_set set) (tab (λ j. suc (0 + j)) k), length-tab (λ j. suc (0 + j)) k, first-members set k (omega arith), most) in
      omega (
        arith,
        length_blocks c 0 k,
        count_blocks (λ o. not (in_set set o)) c 0 k,
        mul-le-mul {n₁ = c} {m₁ = k} {n₂ = c} {m₂ = 15} (omega arith) m,
        mul-le-mul {n₁ = c} {m₁ = 1} {n₂ = c} {m₂ = others (tab (λ j. suc (0 + j)) k)} (omega arith) some,
      )

  blocks-few : (x : Gate) (c k : ℕ) → coin_owners_at plan x ≡ blocks c 0 k → plan.t < k → k ≤ 15 → length (coin_owners_at plan x) ≤ 14 + 15 * others (coin_owners_at plan x)
  blocks-few x c k e l m = subst (λ (os : List ℕ). length os ≤ 14 + 15 * others os) (sym e) (omega (arith, blocks_few c k l m))

  multiply-few : (a b : ℕ) (r : Rule) → plan.rule ≡ r → plan.t + plan.t < party_count plan → length (coin_owners_at plan (Multiply a b)) ≤ 14 + 15 * others (coin_owners_at plan (Multiply a b))
  unfolding dealer_count
  multiply-few a b Reduction e l = blocks-few (Multiply a b) plan.t (dealer_count plan) (reduction-owners plan a b e) (omega arith) (omega arith)
  multiply-few a b Truncation e l = blocks-few (Multiply a b) (3 * plan.t) (party_count plan) (truncation-owners plan a b e) below few

  gate-few : (x : Gate) → (multiplying x ≡ true → plan.t + plan.t < party_count plan) → length (coin_owners_at plan x) ≤ 14 + 15 * others (coin_owners_at plan x)
  unfolding coin_owners_at dealings_at flat_map kind_of multiplying is_kind
  gate-few (Input s) m = omega (arith, ap length (input-owners plan s), length-replicate {A = ℕ} plan.t s)
  gate-few (Add a b) m = omega arith
  gate-few (Scale a c) m = omega arith
  gate-few (Offset a c) m = omega arith
  gate-few (Multiply a b) m = multiply-few a b plan.rule refl (m refl)
  gate-few Random m = blocks-few Random plan.t (party_count plan) (random-owners plan) below few
  gate-few (Spend a b) m = omega arith

  gates_few :
      (gs : List Gate) → ((j : ℕ) → j < length gs → multiplying (get_or gs j (Input 0)) ≡ true → plan.t + plan.t < party_count plan)
      → length (flat_map (coin_owners_at plan) gs) ≤ 14 * length gs + 15 * others (flat_map (coin_owners_at plan) gs)
  unfolding flat_map count_where
  gates_few [] m = omega arith
  gates_few (x ∷ gs) m =
      omega (
        arith,
        gate-few x (m 0 (omega arith)),
        gates_few gs (λ j l. m (suc j) (omega arith)),
        length-append (coin_owners_at plan x) (flat_map (coin_owners_at plan) gs),
        count_where-append (λ o. not (in_set set o)) (coin_owners_at plan x) (flat_map (coin_owners_at plan) gs),
      )

pub few_coins :
    (plan : Plan) → Valid plan → party_count plan ≤ 15 → length plan.gates ≤ 1024 → (set : ℕ) → set_ok plan set ≡ true → other_coins plan set ≤ 16
    → coin_count plan ≤ 14576
unfolding coin_count coin_owners other_coins set_ok
few_coins plan valid n gates set ok few =
    omega (arith, gates_few plan n valid.threshold set (member_most (party_count plan) plan.t set ok) plan.gates valid.majority)
