-- Laws of lists: maps and concatenations that agree entry by entry, rows laid end to end, and statements on every entry.
--     map-all, flat_map-all, flat_map-tabs, flat_map-append, flat_map-map, map-flat_map     maps and concatenations
--     all-every, all-flat_map, all_map, at_all  on every entry
--     in-tab, in-flat_map                                                               membership
--     get_or-map-in, get_d_rows, length_rows                                              entries of maps and of rows
-- Assumes nothing.
use mathlib.Core.Path.{◌≡◌, refl, sym, ap, ap₂, subst, ◌∙◌}
use mathlib.Core.Bool.{Bool, true, false, cond}
use mathlib.Core.List.Memᴰ
use mathlib.Core.List.{List, [], ◌∷◌, ◌++◌, map, flat_map, append_assoc, Memᴰ}
use Prim.Native.Nat.{ℕ, zero, suc, ◌+◌, ◌*◌, ◌<◌}
use native.Mathlib.Nat.{mul-zero, zero-mul, suc-mul, mul-suc}
use native.Mathlib.Omega.{arith}
use lib.ListN.{length, get_or, length-append, get_or-append}
use lib.Seq.{get_or-append-add}
use Rattle.numbers.specs.Tables.{tab}
use Rattle.sharing_laws.specs.Interp.{All}
use Rattle.sharing_laws.proofs.Alls.{all_append}

-- ---- maps and concatenations
module _ {B : Type 0} where
  pub map-all : (g h : ℕ → B) (is : List ℕ) → All (λ i. g i ≡ h i) is → map g is ≡ map h is
  map-all g h [] e = refl
  map-all g h (i ∷ is) e = ap₂ (λ (x : B) (l : List B). x ∷ l) e.0 (map-all g h is e.1)

  pub flat_map-all : (g h : ℕ → List B) (is : List ℕ) → All (λ i. g i ≡ h i) is → flat_map g is ≡ flat_map h is
  unfolding flat_map
  flat_map-all g h [] e = refl
  flat_map-all g h (i ∷ is) e = ap₂ (λ (x l : List B). x ++ l) e.0 (flat_map-all g h is e.1)

  -- nothing from every entry
  pub flat_map-nil : (g : ℕ → List B) (is : List ℕ) → All (λ i. g i ≡ []) is → flat_map g is ≡ []
  unfolding flat_map
  flat_map-nil g [] e = refl
  flat_map-nil g (i ∷ is) e = ap₂ (λ (x l : List B). x ++ l) e.0 (flat_map-nil g is e.1)

  -- one from every entry
  pub flat_map-single : (g : ℕ → List B) (h : ℕ → B) (is : List ℕ) → All (λ i. g i ≡ h i ∷ []) is → flat_map g is ≡ map h is
  unfolding flat_map
  flat_map-single g h [] e = refl
  flat_map-single g h (i ∷ is) e = ap₂ (λ (x l : List B). x ++ l) e.0 (flat_map-single g h is e.1)

  -- two tables that give the same entry by entry
  pub flat_map-tabs : (g h : ℕ → List B) (u v : ℕ → ℕ) (n : ℕ) → ((k : ℕ) → k < n → g (u k) ≡ h (v k)) → flat_map g (tab u n) ≡ flat_map h (tab v n)
  unfolding flat_map tab
  flat_map-tabs g h u v zero e = refl
  flat_map-tabs g h u v (suc n) e = ap₂ (λ (x l : List B). x ++ l) (e 0 (omega arith)) (flat_map-tabs g h (λ k. u (suc k)) (λ k. v (suc k)) n (λ k l. e (suc k) (omega arith)))

module _ {A B : Type 0} where
  pub flat_map-append : (f : A → List B) (xs ys : List A) → flat_map f (xs ++ ys) ≡ flat_map f xs ++ flat_map f ys
  unfolding flat_map
  flat_map-append f [] ys = refl
  flat_map-append f (x ∷ xs) ys = ap (λ (l : List B). f x ++ l) (flat_map-append f xs ys) ∙ sym (append_assoc (f x) (flat_map f xs) (flat_map f ys))

  map-append : (g : A → B) (xs ys : List A) → map g (xs ++ ys) ≡ map g xs ++ map g ys
  map-append g [] ys = refl
  map-append g (x ∷ xs) ys = ap (λ (l : List B). g x ∷ l) (map-append g xs ys)

  -- an entry of a map
  pub get_or-map-in : (f : A → B) (l : List A) (i : ℕ) (d : A) (e : B) → i < length l → get_or (map f l) i e ≡ f (get_or l i d)
  get_or-map-in f [] i d e h = absurd (omega arith)
  get_or-map-in f (x ∷ l) zero d e h = refl
  get_or-map-in f (x ∷ l) (suc i) d e h = get_or-map-in f l i d e (omega arith)

  pub length-map : (f : A → B) (l : List A) → length (map f l) ≡ length l
  length-map f [] = refl
  length-map f (x ∷ l) = ap suc (length-map f l)

module _ {A B C : Type 0} where
  pub flat_map-map : (f : B → List C) (g : A → B) (xs : List A) → flat_map f (map g xs) ≡ flat_map (λ x. f (g x)) xs
  unfolding flat_map
  flat_map-map f g [] = refl
  flat_map-map f g (x ∷ xs) = ap (λ (l : List C). f (g x) ++ l) (flat_map-map f g xs)

  pub map-flat_map : (g : B → C) (f : A → List B) (xs : List A) → map g (flat_map f xs) ≡ flat_map (λ x. map g (f x)) xs
  unfolding flat_map
  map-flat_map g f [] = refl
  map-flat_map g f (x ∷ xs) = map-append g (f x) (flat_map f xs) ∙ ap (λ (l : List C). map g (f x) ++ l) (map-flat_map g f xs)

pub all-every : (P : ℕ → Type 0) (xs : List ℕ) → ((x : ℕ) → P x) → All P xs
all-every P [] h = tt
all-every P (x ∷ xs) h = (h x, all-every P xs h)

pub all-flat_map : (P : ℕ → Type 0) (f : ℕ → List ℕ) (xs : List ℕ) → All (λ x. All P (f x)) xs → All P (flat_map f xs)
unfolding flat_map
all-flat_map P f [] a = tt
all-flat_map P f (x ∷ xs) a = all_append P (f x) (flat_map f xs) a.0 (all-flat_map P f xs a.1)

pub all_map : (P Q : ℕ → Type 0) (xs : List ℕ) → ((x : ℕ) → P x → Q x) → All P xs → All Q xs
all_map P Q [] f a = tt
all_map P Q (x ∷ xs) f a = (f x a.0, all_map P Q xs f a.1)

pub all_mapped : {A : Type 0} (P : ℕ → Type 0) (f : A → ℕ) (xs : List A) → ((x : A) → P (f x)) → All P (map f xs)
all_mapped P f [] h = tt
all_mapped P f (x ∷ xs) h = (h x, all_mapped P f xs h)

pub all_get_d : (P : ℕ → Type 0) (xs : List ℕ) (i d : ℕ) → P d → All P xs → P (get_or xs i d)
all_get_d P [] i d h a = h
all_get_d P (x ∷ xs) zero d h a = a.0
all_get_d P (x ∷ xs) (suc i) d h a = all_get_d P xs i d h a.1

-- by its entries
pub at_all : (P : ℕ → Type 0) (xs : List ℕ) → ((i : ℕ) → i < length xs → P (get_or xs i 0)) → All P xs
at_all P [] h = tt
at_all P (x ∷ xs) h = (h 0 (omega arith), at_all P xs (λ i l. h (suc i) (omega arith)))

pub all-cond : (P : ℕ → Type 0) (b : Bool) (x : ℕ) (xs : List ℕ) → (b ≡ true → P x) → All P xs → All P (cond b (x ∷ xs) xs)
all-cond P true x xs h a = (h refl, a)
all-cond P false x xs h a = a

-- ---- membership
pub in-tab : (x : ℕ) (f : ℕ → ℕ) (n k : ℕ) → k < n → x ≡ f k → Memᴰ x (tab f n)
unfolding tab
in-tab x f zero k l e = absurd (omega arith)
in-tab x f (suc n) zero l e = Memᴰ.head e
in-tab x f (suc n) (suc k) l e = Memᴰ.tail (in-tab x (λ j. f (suc j)) n k (omega arith) e)

pub in-flat_map : {x : ℕ} (f : ℕ → List ℕ) {y : ℕ} {ys : List ℕ} → Memᴰ y ys → Memᴰ x (f y) → Memᴰ x (flat_map f ys)
unfolding flat_map
in-flat_map {x} f (Memᴰ.head {x = z} {xs = zs} e) m = Memᴰ.append_left (flat_map f zs) (subst (λ (w : ℕ). Memᴰ x (f w)) e m)
in-flat_map f (Memᴰ.tail {x = z} a) m = Memᴰ.append_right (f z) (in-flat_map f a m)

-- ---- rows of one length, laid end to end
module _ {B : Type 0} (row : ℕ → List B) (c : ℕ) where
  pub length_rows : (is : List ℕ) → All (λ i. length (row i) ≡ c) is → length (flat_map row is) ≡ length is * c
  unfolding flat_map
  length_rows [] a = sym (zero-mul c)
  length_rows (i ∷ is) a = omega (arith, length-append (row i) (flat_map row is), a.0, length_rows is a.1, suc-mul (length is) c)

  pub get_d_rows : (is : List ℕ) → All (λ i. length (row i) ≡ c) is → (r j : ℕ) (d : B) → r < length is → j < c → get_or (flat_map row is) (c * r + j) d ≡ get_or (row (get_or is r 0)) j d
  unfolding flat_map
  get_d_rows [] a r j d l m = absurd (omega arith)
  get_d_rows (i ∷ is) a zero j d l m =
      let e : c * zero + j ≡ j = omega (arith, mul-zero c) in
      ap (λ (k : ℕ). get_or (row i ++ flat_map row is) k d) e ∙ get_or-append (row i) (flat_map row is) d j (omega (arith, a.0))
  get_d_rows (i ∷ is) a (suc r) j d l m =
      let e : c * suc r + j ≡ length (row i) + (c * r + j) = omega (arith, mul-suc c r, a.0) in
      ap (λ (k : ℕ). get_or (row i ++ flat_map row is) k d) e ∙ get_or-append-add (row i) (flat_map row is) (c * r + j) d ∙ get_d_rows is a.1 r j d (omega arith) m
