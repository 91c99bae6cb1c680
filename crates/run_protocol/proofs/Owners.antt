-- Of a list with owners, a party's own: appended lists, counts, and blocks of one size, a block for each party.
--     own-append, length-own, own_at       the own of a list in two parts; how many; those after the first part
--     own_same, own-other                  where all are the party's, or none
--     blocks, own_block, own_each          a block for each party; one for each party
-- Assumes nothing.
use mathlib.Core.Path.{◌≡◌, refl, sym, ap, ap₂, ◌∙◌}
use mathlib.Core.Bool.{Bool, true, false, cond}
use mathlib.Core.List.{List, [], ◌∷◌, ◌++◌, flat_map, append-nil}
use Prim.Native.Nat.{ℕ, zero, suc, ◌+◌, ◌*◌, ◌<◌, ◌≤◌}
use native.Mathlib.Nat.{mul-zero, mul-suc}
use native.Mathlib.Omega.{arith}
use borrow.Author.Tests.{eq-eqb, ne_eqb}
use lib.Dec.{eqb}
use lib.ListN.{length, get_or, take, drop, replicate, length-append, length-drop, length-replicate}
use lib.Seq.{drop-drop, drop_at, get_or-drop}
use Rattle.numbers.specs.Tables.{tab, count_where}
use Rattle.numbers.proofs.Tables.{tab-ext}
use Rattle.plan.specs.Plans.{own_of}

own_by : (b : Bool) (x : ℕ) (u r s : List ℕ) → u ≡ r ++ s → cond b (x ∷ u) u ≡ cond b (x ∷ r) r ++ s
own_by true x u r s e = ap (λ (l : List ℕ). x ∷ l) e
own_by false x u r s e = e

count_by : (b : Bool) (x n : ℕ) (u : List ℕ) → length u ≡ n → length (cond b (x ∷ u) u) ≡ cond b (suc n) n
count_by true x n u e = ap suc e
count_by false x n u e = e

module _ (i : ℕ) where
  pub own-append : (os ps xs : List ℕ) → own_of i (os ++ ps) xs ≡ own_of i os xs ++ own_of i ps (drop (length os) xs)
  unfolding own_of
  own-append [] ps xs = refl
  own-append (o ∷ os) ps xs =
      let e : 1 + length os ≡ suc (length os) = omega arith in
      own_by (eqb i o) (get_or xs 0 0) (own_of i (os ++ ps) (drop 1 xs)) (own_of i os (drop 1 xs)) (own_of i ps (drop (suc (length os)) xs))
      (own-append os ps (drop 1 xs) ∙ ap (λ (l : List ℕ). own_of i os (drop 1 xs) ++ own_of i ps l) (drop-drop (length os) 1 xs ∙ ap (λ (k : ℕ). drop k xs) e))

  pub length-own : (os xs : List ℕ) → length (own_of i os xs) ≡ count_where (eqb i) os
  unfolding own_of count_where
  length-own [] xs = refl
  length-own (o ∷ os) xs = count_by (eqb i o) (get_or xs 0 0) (count_where (eqb i) os) (own_of i os (drop 1 xs)) (length-own os (drop 1 xs))

  -- the own after the first part, of which the second begins the rest
  pub own_at : (os ps qs xs : List ℕ)
      → drop (count_where (eqb i) os) (own_of i (os ++ (ps ++ qs)) xs) ≡ own_of i ps (drop (length os) xs) ++ own_of i qs (drop (length ps) (drop (length os) xs))
  own_at os ps qs xs =
      ap (drop (count_where (eqb i) os)) (own-append os (ps ++ qs) xs)
      ∙ drop_at (own_of i os xs) (own_of i (ps ++ qs) (drop (length os) xs)) (count_where (eqb i) os) (length-own os xs)
      ∙ own-append ps qs (drop (length os) xs)

  pub own_same : (k : ℕ) (xs : List ℕ) → k ≤ length xs → own_of i (replicate k i) xs ≡ take k xs
  unfolding own_of
  own_same zero xs l = refl
  own_same (suc k) [] l = absurd (omega arith)
  own_same (suc k) (x ∷ xs) l = rw (eq-eqb i i refl) (ap (λ (r : List ℕ). x ∷ r) (own_same k xs (omega arith)))

  pub own-other : (k o : ℕ) (xs : List ℕ) → (i ≡ o → ⊥) → own_of i (replicate k o) xs ≡ []
  unfolding own_of
  own-other zero o xs h = refl
  own-other (suc k) o xs h = rw (ne_eqb i o h) (own-other k o (drop 1 xs) h)

-- ---- a block of c numbers for each of the parties r + 1 to r + n
unfoldable pub blocks : ℕ → ℕ → ℕ → List ℕ
blocks c r zero = []
blocks c r (suc n) = replicate c (suc r) ++ blocks c (suc r) n

pub length_blocks : (c r n : ℕ) → length (blocks c r n) ≡ c * n
unfolding blocks
length_blocks c r zero = sym (mul-zero c)
length_blocks c r (suc n) = omega (arith, length-append (replicate c (suc r)) (blocks c (suc r) n), length-replicate {A = ℕ} c (suc r), length_blocks c (suc r) n, mul-suc c n)

pub blocks_of : {A : Type 0} (c r n : ℕ) (owners : A → List ℕ) (f : ℕ → A) → ((k : ℕ) → k < n → owners (f k) ≡ replicate c (suc (r + k))) → flat_map owners (tab f n) ≡ blocks c r n
unfolding blocks flat_map tab
blocks_of c r zero owners f h = refl
blocks_of c r (suc n) owners f h =
    let e : r + 0 ≡ r = omega arith in
    ap₂ (λ (l m : List ℕ). l ++ m) (h 0 (omega arith) ∙ ap (λ (k : ℕ). replicate c (suc k)) e)
    (blocks_of c (suc r) n owners (λ k. f (suc k)) (λ k l. let q : r + suc k ≡ suc r + k = omega arith in h (suc k) (omega arith) ∙ ap (λ (m : ℕ). replicate c (suc m)) q))

blocks-after : (i c r n : ℕ) (xs : List ℕ) → i ≤ r → own_of i (blocks c r n) xs ≡ []
unfolding blocks own_of
blocks-after i c r zero xs l = refl
blocks-after i c r (suc n) xs l =
    own-append i (replicate c (suc r)) (blocks c (suc r) n) xs
    ∙ ap₂ (λ (u v : List ℕ). u ++ v) (own-other i c (suc r) xs (λ e. omega arith)) (blocks-after i c (suc r) n (drop (length (replicate c (suc r))) xs) (omega arith))

-- party r + 1 + j's block
own_block_from : (c n r j : ℕ) (xs : List ℕ) → j < n → c * n ≤ length xs → own_of (suc (r + j)) (blocks c r n) xs ≡ take c (drop (c * j) xs)
unfolding blocks
own_block_from c zero r j xs l h = absurd (omega arith)
own_block_from c (suc n) r zero xs l h =
    let e : suc (r + 0) ≡ suc r = omega arith in
    let z : c * 0 ≡ 0 = mul-zero c in
    rw (e, z)
    (own-append (suc r) (replicate c (suc r)) (blocks c (suc r) n) xs
    ∙ ap₂ (λ (u v : List ℕ). u ++ v) (own_same (suc r) c xs (omega (arith, mul-suc c n))) (blocks-after (suc r) c (suc r) n (drop (length (replicate c (suc r))) xs) (omega arith))
    ∙ append-nil (take c xs))
own_block_from c (suc n) r (suc j) xs l h =
    let e : suc (r + suc j) ≡ suc (suc r + j) = omega arith in
    let d : c + c * j ≡ c * suc j = omega (arith, mul-suc c j) in
    rw e
    (own-append (suc (suc r + j)) (replicate c (suc r)) (blocks c (suc r) n) xs
    ∙ ap₂ (λ (u : List ℕ) (k : ℕ). u ++ own_of (suc (suc r + j)) (blocks c (suc r) n) (drop k xs)) (own-other (suc (suc r + j)) c (suc r) xs (λ q. omega arith)) (length-replicate {A = ℕ} c (suc r))
    ∙ own_block_from c n (suc r) j (drop c xs) (omega arith) (omega (arith, mul-suc c n, length-drop c xs))
    ∙ ap (take c) (drop-drop (c * j) c xs ∙ ap (λ (k : ℕ). drop k xs) d))

pub own_block : (c n j : ℕ) (xs : List ℕ) → j < n → c * n ≤ length xs → own_of (suc j) (blocks c 0 n) xs ≡ take c (drop (c * j) xs)
own_block c n j xs l h = let e : suc j ≡ suc (0 + j) = omega arith in rw e (own_block_from c n 0 j xs l h)

-- ---- one number for each party
each_after : (i r n : ℕ) (xs : List ℕ) → i ≤ r → own_of i (tab (λ k. suc (r + k)) n) xs ≡ []
unfolding own_of tab
each_after i r zero xs l = refl
each_after i r (suc n) xs l =
    let e : tab (λ k. suc (r + suc k)) n ≡ tab (λ k. suc (suc r + k)) n = tab-ext (λ k. suc (r + suc k)) (λ k. suc (suc r + k)) n (λ k m. omega arith) in
    rw (ne_eqb i (suc (r + 0)) (λ q. omega arith), e) (each_after i (suc r) n (drop 1 xs) (omega arith))

own_each_from : (n r j : ℕ) (xs : List ℕ) → j < n → own_of (suc (r + j)) (tab (λ k. suc (r + k)) n) xs ≡ get_or xs j 0 ∷ []
unfolding own_of tab
own_each_from zero r j xs l = absurd (omega arith)
own_each_from (suc n) r zero xs l =
    let e : tab (λ k. suc (r + suc k)) n ≡ tab (λ k. suc (suc r + k)) n = tab-ext (λ k. suc (r + suc k)) (λ k. suc (suc r + k)) n (λ k m. omega arith) in
    rw (eq-eqb (suc (r + 0)) (suc (r + 0)) refl, e) (ap (λ (l : List ℕ). get_or xs 0 0 ∷ l) (each_after (suc (r + 0)) (suc r) n (drop 1 xs) (omega arith)))
own_each_from (suc n) r (suc j) xs l =
    let e : tab (λ k. suc (r + suc k)) n ≡ tab (λ k. suc (suc r + k)) n = tab-ext (λ k. suc (r + suc k)) (λ k. suc (suc r + k)) n (λ k m. omega arith) in
    let q : suc (r + suc j) ≡ suc (suc r + j) = omega arith in
    let s : 1 + j ≡ suc j = omega arith in
    rw (ne_eqb (suc (r + suc j)) (suc (r + 0)) (λ q. omega arith))
    (ap₂ (λ (a : ℕ) (ys : List ℕ). own_of a ys (drop 1 xs)) q e
    ∙ (own_each_from n (suc r) j (drop 1 xs) (omega arith) ∙ ap (λ (v : ℕ). v ∷ []) (get_or-drop 1 xs j 0 ∙ ap (λ (k : ℕ). get_or xs k 0) s)))

pub own_each : (n j : ℕ) (xs : List ℕ) → j < n → own_of (suc j) (tab suc n) xs ≡ get_or xs j 0 ∷ []
own_each n j xs l =
    let e : tab suc n ≡ tab (λ k. suc (0 + k)) n = tab-ext suc (λ k. suc (0 + k)) n (λ k m. omega arith) in
    let q : suc j ≡ suc (0 + j) = omega arith in
    ap₂ (λ (a : ℕ) (ys : List ℕ). own_of a ys xs) q e ∙ own_each_from n 0 j xs l
