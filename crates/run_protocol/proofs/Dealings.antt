-- Sums and dealings as tables.
--     sum-tab, sum-padded              the sum of a table, and of a list that a table pads
--     shared_first, shared_pairs       the polynomials of dealings of t coins each, and of pairs of 2t and t coins
--     seconds                          of pairs, the second of each
-- Assumes nothing.
use mathlib.Core.Path.{◌≡◌, refl, sym, ap, ap₂, ◌∙◌}
use mathlib.Core.List.{List, [], ◌∷◌, flat_map}
use Prim.Native.Nat.{ℕ, zero, suc, ◌+◌, ◌*◌, ◌≤◌}
use native.Mathlib.Nat.{mul-zero, mul-suc}
use native.Mathlib.Omega.{arith}
use lib.ListN.{length, take, drop, get_or}
use lib.Seq.{drop-drop}
use Rattle.numbers.specs.Tables.{tab}
use Rattle.numbers.proofs.Tables.{tab-ext, length-tab, get_or-tab}
use Rattle.field.specs.Mod.{add}
use Rattle.field.proofs.Solve.{quote, solve}
use Rattle.sharing_laws.specs.Basis.{sum_all}
use Rattle.seat_messages.specs.Messages.{from_each}
use Rattle.sharing_laws.proofs.Lists.{flat_map-tabs, get_d_rows, all-every}
use Rattle.sharing_laws.proofs.Steps.{sum_over}
use Rattle.run_protocol.specs.Shares.{sharings}

-- ---- sums
pub sum-tab : (p : ℕ) (f g h : ℕ → ℕ) (n : ℕ) → ((j : ℕ) → f j ≡ h (g j)) → sum_all p (tab f n) ≡ sum_over p (tab g n) h
unfolding tab sum_all sum_over
sum-tab p f g h zero e = refl
sum-tab p f g h (suc n) e = ap₂ (add p) (e 0) (sum-tab p (λ j. f (suc j)) (λ j. g (suc j)) h n (λ j. e (suc j)))

sum-none : (p : ℕ) (f : ℕ → ℕ) (n : ℕ) → ((j : ℕ) → f j ≡ 0) → sum_all p (tab f n) ≡ 0
unfolding tab sum_all
sum-none p f zero e = refl
sum-none p f (suc n) e = ap₂ (add p) (e 0) (sum-none p (λ j. f (suc j)) n (λ j. e (suc j))) ∙ solve p (search quote) (omega arith)

pub sum-padded : (p : ℕ) (xs : List ℕ) (n : ℕ) → length xs ≤ n → sum_all p xs ≡ sum_all p (tab (λ j. get_or xs j 0) n)
unfolding tab sum_all
sum-padded p [] n le = sym (sum-none p (λ j. 0) n (λ j. refl))
sum-padded p (x ∷ xs) zero le = absurd (omega arith)
sum-padded p (x ∷ xs) (suc n) le = ap (add p x) (sum-padded p xs n (omega arith))

-- ---- dealings
-- by party j + 1 with t coins each
pub shared_first :
    (t : ℕ) (d : ℕ → ℕ) (n : ℕ) (ss cs : List ℕ)
    → sharings (tab (λ i. record { dealer = d i; coins = t }) n) ss cs ≡ tab (λ j. get_or ss j 0 ∷ take t (drop (t * j) cs)) n
unfolding tab sharings
shared_first t d zero ss cs = refl
shared_first t d (suc n) ss cs =
    let none : t * 0 ≡ 0 = mul-zero t in
    ap₂ (λ (a : List ℕ) (l : List (List ℕ)). a ∷ l) (ap (λ (k : ℕ). get_or ss 0 0 ∷ take t (drop k cs)) (sym none))
    (shared_first t (λ i. d (suc i)) n (drop 1 ss) (drop t cs)
    ∙ tab-ext (λ j. get_or (drop 1 ss) j 0 ∷ take t (drop (t * j) (drop t cs))) (λ j. get_or ss (suc j) 0 ∷ take t (drop (t * suc j) cs)) n
    (λ j l. ap₂ (λ (a : ℕ) (k : List ℕ). a ∷ take t k) (next ss j) (drop-drop (t * j) t cs ∙ ap (λ (k : ℕ). drop k cs) (place j))))
  where
    next : (l : List ℕ) (j : ℕ) → get_or (drop 1 l) j 0 ≡ get_or l (suc j) 0
    next [] j = refl
    next (x ∷ l) j = refl

    place : (j : ℕ) → t + t * j ≡ t * suc j
    place j = omega (arith, mul-suc t j)

-- party by party 2t coins and t coins
pub shared_pairs :
    (t : ℕ) (d : ℕ → ℕ) (m x : ℕ → ℕ) (n : ℕ) (cs : List ℕ)
    → sharings (flat_map (λ i. record { dealer = i; coins = t + t } ∷ record { dealer = i; coins = t } ∷ []) (tab d n)) (flat_map (λ z. 0 ∷ m z ∷ []) (tab x n)) cs
    ≡ flat_map (λ j. (0 ∷ take (t + t) (drop (3 * t * j) cs)) ∷ (m (x j) ∷ take t (drop (3 * t * j + (t + t)) cs)) ∷ []) (tab (λ j. j) n)
unfolding tab sharings flat_map
shared_pairs t d m x zero cs = refl
shared_pairs t d m x (suc n) cs =
    let none : 3 * t * 0 ≡ 0 = mul-zero (3 * t) in
    let some : t + t ≡ 3 * t * 0 + (t + t) = omega (arith, mul-zero (3 * t)) in
    let later : List (List ℕ) =
    sharings (flat_map (λ i. record { dealer = i; coins = t + t } ∷ record { dealer = i; coins = t } ∷ []) (tab (λ i. d (suc i)) n))
    (flat_map (λ z. 0 ∷ m z ∷ []) (tab (λ i. x (suc i)) n)) (drop t (drop (t + t) cs)) in
    ap₂ (λ (k k' : ℕ). (0 ∷ take (t + t) (drop k cs)) ∷ (m (x 0) ∷ take t (drop k' cs)) ∷ later) (sym none) some
    ∙ ap (λ (l : List (List ℕ)). (0 ∷ take (t + t) (drop (3 * t * 0) cs)) ∷ (m (x 0) ∷ take t (drop (3 * t * 0 + (t + t)) cs)) ∷ l)
    (shared_pairs t (λ i. d (suc i)) m (λ i. x (suc i)) n (drop t (drop (t + t) cs))
    ∙ flat_map-tabs (λ j. (0 ∷ take (t + t) (drop (3 * t * j) (drop t (drop (t + t) cs)))) ∷ (m (x (suc j)) ∷ take t (drop (3 * t * j + (t + t)) (drop t (drop (t + t) cs)))) ∷ [])
    (λ j. (0 ∷ take (t + t) (drop (3 * t * j) cs)) ∷ (m (x j) ∷ take t (drop (3 * t * j + (t + t)) cs)) ∷ []) (λ j. j) (λ j. suc j) n
    (λ j l. ap₂ (λ (k k' : List ℕ). (0 ∷ take (t + t) k) ∷ (m (x (suc j)) ∷ take t k') ∷ []) (past (3 * t * j) (3 * t * suc j) (omega (arith, mul-suc (3 * t) j)))
    (past (3 * t * j + (t + t)) (3 * t * suc j + (t + t)) (omega (arith, mul-suc (3 * t) j)))))
  where
    past : (k k' : ℕ) → (t + t) + (t + k) ≡ k' → drop k (drop t (drop (t + t) cs)) ≡ drop k' cs
    past k k' e = drop-drop k t (drop (t + t) cs) ∙ drop-drop (t + k) (t + t) cs ∙ ap (λ (i : ℕ). drop i cs) e

-- of pairs, the second of each
pub seconds : (u v : ℕ → ℕ) (n : ℕ) → from_each n 2 1 (flat_map (λ j. u j ∷ v j ∷ []) (tab (λ j. j) n)) ≡ tab v n
unfolding from_each
seconds u v n =
    tab-ext (λ i. get_or (flat_map (λ j. u j ∷ v j ∷ []) (tab (λ j. j) n)) (2 * i + 1) 0) v n
    (λ i l. get_d_rows (λ j. u j ∷ v j ∷ []) 2 (tab (λ j. j) n) (all-every (λ j. length (u j ∷ v j ∷ []) ≡ 2) (tab (λ j. j) n) (λ j. refl)) i 1 0 (rw length-tab l) (omega arith)
    ∙ ap v (get_or-tab (λ j. j) n i 0 l))
