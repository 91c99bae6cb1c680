-- Laws of lists by a rule, for entries of any type.
--     tab-cons, tab-snoc, tab-next, tab-append     a table in parts
--     length-tab, get_or-tab, take-tab, drop-tab     a table's entries
--     tab-ext, tab-map, set-tab, tab-replicate     tables that are equal
--     list-tab, is-tab                             a list as a table
--     row_room                                     rows of k entries, one after the other
-- Assumes nothing.
use mathlib.Core.Path.{◌≡◌, refl, ap, ap₂, ◌∙◌}
use mathlib.Core.Logic.{◌≢◌}
use mathlib.Core.List.{List, [], ◌∷◌, ◌++◌, map}
use Prim.Native.Nat.{ℕ, zero, suc, ◌+◌, ◌-◌, ◌*◌, ◌<◌, ◌≤◌}
use native.Mathlib.Nat.{mul-suc, mul-le-mul_left}
use native.Mathlib.Numerals.{add-one}
use native.Mathlib.Omega.{arith}
use lib.ListN.{length, get_or, take, drop, set, replicate, get_or-eq_default}
use Rattle.numbers.specs.Tables.{tab}

module _ {A : Type 0} where
  pub tab-zero : (f : ℕ → A) → tab f 0 ≡ []
  unfolding tab
  tab-zero f = refl

  pub tab-cons : (f : ℕ → A) (n : ℕ) → tab f (suc n) ≡ f 0 ∷ tab (λ k. f (suc k)) n
  unfolding tab
  tab-cons f n = refl

  pub tab-snoc : (f : ℕ → A) (n : ℕ) → tab f (suc n) ≡ tab f n ++ (f n ∷ [])
  unfolding tab
  tab-snoc f zero = refl
  tab-snoc f (suc n) = ap (λ (l : List A). f 0 ∷ l) (tab-snoc (λ k. f (suc k)) n)

  -- the same in the code's terms
  pub tab-next : (f : ℕ → A) (n : ℕ) → tab f (n + 1) ≡ tab f n ++ (f n ∷ [])
  tab-next f n = rw add-one (tab-snoc f n)

  pub length-tab : (f : ℕ → A) (n : ℕ) → length (tab f n) ≡ n
  unfolding tab
  length-tab f zero = refl
  length-tab f (suc n) = ap suc (length-tab (λ k. f (suc k)) n)

  pub get_or-tab : (f : ℕ → A) (n i : ℕ) (d : A) → i < n → get_or (tab f n) i d ≡ f i
  unfolding tab
  get_or-tab f zero i d h = absurd (omega arith)
  get_or-tab f (suc n) zero d h = refl
  get_or-tab f (suc n) (suc i) d h = get_or-tab (λ k. f (suc k)) n i d (omega arith)

  pub get_or-tab-past : (f : ℕ → A) (n i : ℕ) (d : A) → n ≤ i → get_or (tab f n) i d ≡ d
  get_or-tab-past f n i d h = get_or-eq_default (tab f n) d (rw length-tab h)

  -- two rules that agree below n
  pub tab-ext : (f g : ℕ → A) (n : ℕ) → ((i : ℕ) → i < n → f i ≡ g i) → tab f n ≡ tab g n
  unfolding tab
  tab-ext f g zero h = refl
  tab-ext f g (suc n) h = ap₂ (λ (x : A) (l : List A). x ∷ l) (h 0 (omega arith)) (tab-ext (λ k. f (suc k)) (λ k. g (suc k)) n (λ i l. h (suc i) (omega arith)))

  pub tab-append : (f : ℕ → A) (m n : ℕ) → tab f (m + n) ≡ tab f m ++ tab (λ k. f (m + k)) n
  unfolding tab
  tab-append f zero n =
      let e : zero + n ≡ n = omega arith in
      ap (tab f) e ∙ tab-ext f (λ k. f (zero + k)) n (λ i l. let q : i ≡ zero + i = omega arith in ap f q)
  tab-append f (suc m) n =
      let e : suc m + n ≡ suc (m + n) = omega arith in
      ap (tab f) e
      ∙ ap (λ (l : List A). f 0 ∷ l)
      (tab-append (λ k. f (suc k)) m n
      ∙ ap (λ (l : List A). tab (λ k. f (suc k)) m ++ l)
      (tab-ext (λ k. f (suc (m + k))) (λ k. f (suc m + k)) n (λ i l. let q : suc (m + i) ≡ suc m + i = omega arith in ap f q)))

  pub take-tab : (f : ℕ → A) (n i : ℕ) → i ≤ n → take i (tab f n) ≡ tab f i
  unfolding tab
  take-tab f n zero h = refl
  take-tab f zero (suc i) h = absurd (omega arith)
  take-tab f (suc n) (suc i) h = ap (λ (l : List A). f 0 ∷ l) (take-tab (λ k. f (suc k)) n i (omega arith))

  pub drop-tab : (f : ℕ → A) (n i : ℕ) → drop i (tab f n) ≡ tab (λ k. f (i + k)) (n - i)
  unfolding tab
  drop-tab f n zero =
      let e : n ≡ n - zero = omega arith in
      ap (tab f) e ∙ tab-ext f (λ k. f (zero + k)) (n - zero) (λ i l. let q : i ≡ zero + i = omega arith in ap f q)
  drop-tab f zero (suc i) = let e : 0 ≡ zero - suc i = omega arith in ap (tab (λ k. f (suc i + k))) e
  drop-tab f (suc n) (suc i) =
      let e : n - i ≡ suc n - suc i = omega arith in
      drop-tab (λ k. f (suc k)) n i
      ∙ tab-ext (λ k. f (suc (i + k))) (λ k. f (suc i + k)) (n - i) (λ j l. let q : suc (i + j) ≡ suc i + j = omega arith in ap f q)
      ∙ ap (tab (λ k. f (suc i + k))) e

  -- a table with one entry changed
  pub set-tab : (f g : ℕ → A) (n i : ℕ) → ((j : ℕ) → j ≢ i → f j ≡ g j) → set (tab f n) i (g i) ≡ tab g n
  unfolding tab
  set-tab f g zero i h = refl
  set-tab f g (suc n) zero h = ap (λ (l : List A). g 0 ∷ l) (tab-ext (λ k. f (suc k)) (λ k. g (suc k)) n (λ j l. h (suc j) (omega arith)))
  set-tab f g (suc n) (suc i) h =
      ap₂ (λ (x : A) (l : List A). x ∷ l) (h 0 (omega arith))
      (set-tab (λ k. f (suc k)) (λ k. g (suc k)) n i (λ j ne. h (suc j) (λ e. ne (omega arith))))

  pub tab-replicate : (v : A) (n : ℕ) → tab (λ i. v) n ≡ replicate n v
  unfolding tab
  tab-replicate v zero = refl
  tab-replicate v (suc n) = ap (λ (l : List A). v ∷ l) (tab-replicate v n)

  -- a list is the table of its entries
  pub list-tab : (xs : List A) (d : A) → xs ≡ tab (λ i. get_or xs i d) (length xs)
  unfolding tab
  list-tab [] d = refl
  list-tab (x ∷ xs) d = ap (λ (l : List A). x ∷ l) (list-tab xs d)

  -- the table that a list is, by its length and its entries
  pub is-tab : (f : ℕ → A) (n : ℕ) (xs : List A) (d : A) → length xs ≡ n → ((i : ℕ) → i < n → get_or xs i d ≡ f i) → xs ≡ tab f n
  is-tab f n xs d e h = list-tab xs d ∙ ap (tab (λ i. get_or xs i d)) e ∙ tab-ext (λ i. get_or xs i d) f n h

pub tab-map : {A B : Type 0} (g : A → B) (f : ℕ → A) (n : ℕ) → map g (tab f n) ≡ tab (λ i. g (f i)) n
unfolding tab
tab-map g f zero = refl
tab-map {A} {B} g f (suc n) = ap (λ (l : List B). g (f 0) ∷ l) (tab-map g (λ k. f (suc k)) n)

-- row j of n rows of k entries ends within them
pub row_room : (k j n : ℕ) → j < n → k * j + k ≤ k * n
row_room k j n l = omega (arith, mul-suc k j, mul-le-mul_left {m = suc j} {n = n} k (omega arith))
