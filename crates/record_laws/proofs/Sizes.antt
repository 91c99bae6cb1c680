-- How large a record and its bodies are.
--     size_is                 the record has the contents and the views of all parties
--     before-le, size-le      a body begins and ends within the record
--     record_few              a record's length where no view is long
-- Assumes nothing.
use Prim.Native.Nat.{ℕ, zero, suc, ◌+◌, ◌-◌, ◌*◌, ◌≤◌, ◌<◌}
use mathlib.Core.Path.{◌≡◌, refl, ap, ◌∙◌}
use mathlib.Core.List.{List, [], ◌∷◌, ◌++◌, map}
use native.Mathlib.Omega.{arith}
use Rattle.numbers.specs.Tables.{tab, total}
use Rattle.numbers.specs.Bytes.{width, limit}
use Rattle.numbers.proofs.Tables.{tab-snoc}
use Rattle.plan.specs.Plans.{Plan, party_count, parties}
use Rattle.run_protocol.specs.Rounds.{view_count_of, view_count}
use Rattle.record_laws.specs.Records.{body_size, bodies_before, body_start, record_size}

-- the bodies of parties 1 to k have the bytes of their views
pub before-is : (plan : Plan) (k : ℕ) → bodies_before plan k ≡ width * total (map (view_count_of plan) (tab suc k))
unfolding bodies_before body_size tab total
before-is plan zero = refl
before-is plan (suc k) =
    let next : total (map (view_count_of plan) (tab suc (suc k))) ≡ total (map (view_count_of plan) (tab suc k)) + view_count_of plan (suc k) =
    ap (λ (l : List ℕ). total (map (view_count_of plan) l)) (tab-snoc suc k) ∙ total-last (view_count_of plan) (tab suc k) (suc k) in
    omega (arith, next, before-is plan k)
  where
    total-last : (f : ℕ → ℕ) (xs : List ℕ) (x : ℕ) → total (map f (xs ++ (x ∷ []))) ≡ total (map f xs) + f x
    total-last f [] x = unfold total in omega arith
    total-last f (y ∷ xs) x = unfold total in omega (arith, total-last f xs x)

pub size_is : (plan : Plan) → record_size plan ≡ 8 * party_count plan + width * view_count plan (parties plan)
unfolding record_size body_start view_count parties
size_is plan = ap (λ (k : ℕ). 8 * party_count plan + k) (before-is plan (party_count plan))

-- ---- within the record
before-add : (plan : Plan) (k d : ℕ) → bodies_before plan k ≤ bodies_before plan (k + d)
unfolding bodies_before
before-add plan k zero = let e : k + 0 ≡ k = omega arith in rw e (omega arith)
before-add plan k (suc d) = let e : k + suc d ≡ suc (k + d) = omega arith in rw e (omega (arith, before-add plan k d))

pub before-le : (plan : Plan) (k n : ℕ) → k ≤ n → body_start plan k ≤ body_start plan n
unfolding body_start
before-le plan k n l =
    let e : k + (n - k) ≡ n = omega arith in
    let more : bodies_before plan k ≤ bodies_before plan (k + (n - k)) = before-add plan k (n - k) in
    let same : bodies_before plan (k + (n - k)) ≡ bodies_before plan n = ap (bodies_before plan) e in
    omega (arith, more, same)

pub size-le : (plan : Plan) (k : ℕ) → k < party_count plan → body_size plan (suc k) ≤ record_size plan
unfolding record_size body_start bodies_before
size-le plan k l =
    let most : body_start plan (suc k) ≤ body_start plan (party_count plan) = before-le plan (suc k) (party_count plan) l in
    omega (arith, most)

-- ---- how large
before_few : (plan : Plan) → ((i : ℕ) → view_count_of plan i ≤ 131072) → (k : ℕ) → bodies_before plan k ≤ 524288 * k
unfolding bodies_before body_size
before_few plan few zero = omega arith
before_few plan few (suc k) = omega (arith, before_few plan few k, few (suc k))

pub record_few : (plan : Plan) → ((i : ℕ) → view_count_of plan i ≤ 131072) → party_count plan ≤ 15 → record_size plan < limit
unfolding record_size body_start
record_few plan few n = omega (arith, before_few plan few (party_count plan), n)
