-- A sheet's tree has numbers below p, names of the parties 1 to n, and all its names are in its list.
--     Below, sheet_below      numbers and parties
--     tree_proper             names that are known
--     tree-value              what the plan grants
-- Assumes nothing.
use Rattle.std.proofs.Common.{Option, Some, None}
use Prim.Native.Nat.{ℕ, zero, suc, ◌+◌, ◌-◌, ◌*◌, ◌/◌, ◌<◌, ◌≤◌}
use mathlib.Core.Path.{◌≡◌, refl, ap}
use mathlib.Core.Bool.{Bool, true, false, cond, not}
use mathlib.Core.List.{List, [], ◌∷◌}
use native.Mathlib.Omega.{arith}
use borrow.Author.Tests.{eq-eqb, ne_eqb, eqb-false, leb-false, not-true, leb-true}
use lib.Dec.{eqb, leb, ltb}
use lib.ListN.{length, get_or}
use Rattle.numbers.proofs.Truth.{both_true}
use Rattle.plan.specs.Plans.{out_wires, out_wires_of}
use Rattle.run_protocol.specs.Ideal.{values, granted}
use Rattle.plan_file.specs.Bodies.{plan_with}
use Rattle.text_decimals.specs.Reading.{blanks_end, digits_from, digits_at, is_digit, zero_at, decimal_at}
use Rattle.sheet_text.specs.Trees.{Tree, party_of, name_index, with_name, names_from, names_of, formula_value}
use Rattle.sheet_text.specs.Sheets.{Parsed, Link, number_from, name_from, closed, is_letter, atom_by, joined, times_link, terms_link, linked, go_on, product_by, sum_by, inner_at, sum_at, whole, sheet_at}
use Rattle.sheet_text.specs.Making.{tree_of, sheet_tree, tree_made, bodies_with, tree_bodies}
use Rattle.sheet_text.proofs.Formula.{Proper, formula_wire}

-- ---- numbers below the limit
Small : ℕ → Option (ℕ × ℕ) → Type 0
Small limit (Some (v, e)) = v < limit
Small limit None = Unit

small_step : (limit v e : ℕ) (r : Option (ℕ × ℕ)) (x y z : Bool) → v < limit → (z ≡ false → Small limit r)
    → Small limit (cond x (Some (v, e)) (cond y (Some (v, e)) (cond z None r)))
unfolding Small
small_step limit v e r true y z l f = l
small_step limit v e r false true z l f = l
small_step limit v e r false false true l f = tt
small_step limit v e r false false false l f = f refl

digits_small : (m limit : ℕ) (s : List ℕ) (at v : ℕ) → v < limit → Small limit (digits_from m limit s at v)
unfolding digits_from Small
digits_small zero limit s at v l = l
digits_small (suc m) limit s at v l =
    let w : ℕ = 10 * v + (get_or s at 0 - 48) in
    small_step limit v at (digits_from m limit s (suc at) w) (ltb (get_or s at 0) 48) (ltb 57 (get_or s at 0)) (leb limit w) l
    (λ e. digits_small m limit s (suc at) w (leb-false limit w e))

decimal_small : (limit : ℕ) (s : List ℕ) (at : ℕ) → 1 ≤ limit → Small limit (decimal_at limit s at)
unfolding decimal_at zero_at digits_at Small
decimal_small limit s at l = by (is_digit (get_or s at 0)) (eqb (get_or s at 0) 48) (is_digit (get_or s (suc at) 0)) (eqb limit 0)
  where
    by : (a b c d : Bool) → Small limit (cond a (cond b (cond c None (cond d None (Some (0, suc at)))) (digits_from (length s - at) limit s at 0)) None)
    by false b c d = tt
    by true false c d = digits_small (length s - at) limit s at 0 l
    by true true true d = tt
    by true true false true = tt
    by true true false false = l

-- ---- trees with numbers below p, and names of the parties 1 to n
unfoldable pub Below : ℕ → ℕ → Tree → Type 0
Below n p (Tree.Number v) = v < p
Below n p (Tree.Name x) = (1 ≤ party_of x) × (party_of x ≤ n)
Below n p (Tree.Plus l r) = Below n p l × Below n p r
Below n p (Tree.Minus l r) = Below n p l × Below n p r
Below n p (Tree.Times l r) = Below n p l × Below n p r

Fine : ℕ → ℕ → Parsed → Type 0
Fine n p (Parsed.Read x e) = Below n p x
Fine n p Parsed.Wrong = Unit

Good : ℕ → ℕ → Link → Type 0
Good n p (Link.Joins op) = (l r : Tree) → Below n p l → Below n p r → Below n p (op l r)
Good n p Link.Ends = Unit

number_fine : (n p : ℕ) (s : List ℕ) (d : Option (ℕ × ℕ)) → Small p d → Fine n p (number_from s d)
unfolding Fine Below Small number_from
number_fine n p s (Some (v, e)) h = h
number_fine n p s None h = tt

name_fine : (n p b : ℕ) (s : List ℕ) (d : Option (ℕ × ℕ)) → b < 256 → Small (suc n) d → Fine n p (name_from b s d)
unfolding Fine Below name_from Small party_of
name_fine n p b s (Some (v, e)) l h = by (eqb v 0) refl
  where
    some : (v : ℕ) → (v ≡ 0 → ⊥) → 1 ≤ v
    some zero n = absurd (n refl)
    some (suc v) n = omega arith

    by : (x : Bool) → eqb v 0 ≡ x → Fine n p (cond x Parsed.Wrong (Parsed.Read (Tree.Name (256 * v + b)) (blanks_end s e)))
    by true q = tt
    by false q =
        let party : (256 * v + b) / 256 ≡ v = omega arith in
        rw party (some v (eqb-false v 0 q), omega arith)
name_fine n p b s None l h = tt

closed_fine : (n p : ℕ) (s : List ℕ) (q : Parsed) → Fine n p q → Fine n p (closed s q)
unfolding Fine closed
closed_fine n p s (Parsed.Read x e) h = by (eqb (get_or s e 0) 41)
  where
    by : (t : Bool) → Fine n p (cond t (Parsed.Read x (blanks_end s (suc e))) Parsed.Wrong)
    by true = h
    by false = tt
closed_fine n p s Parsed.Wrong h = tt

letter_small : (b : ℕ) → is_letter b ≡ true → b < 256
unfolding is_letter
letter_small b e = omega (arith, leb-true b 122 (both_true (leb 97 b) (leb b 122) e).1)

atom_fine : (inner : ℕ → Parsed) (n p : ℕ) (s : List ℕ) (at : ℕ) → 1 ≤ p → ((e : ℕ) → Fine n p (inner e)) → Fine n p (atom_by inner n p s at)
unfolding atom_by
atom_fine inner n p s at l h = by (eqb (get_or s at 0) 40) (is_letter (get_or s at 0)) refl
  where
    by : (x y : Bool) → is_letter (get_or s at 0) ≡ y
        → Fine n p (cond x (closed s (inner (blanks_end s (suc at)))) (cond y (name_from (get_or s at 0) s (decimal_at (suc n) s (suc at))) (number_from s (decimal_at p s at))))
    by true y q = closed_fine n p s (inner (blanks_end s (suc at))) (h (blanks_end s (suc at)))
    by false true q = name_fine n p (get_or s at 0) s (decimal_at (suc n) s (suc at)) (letter_small (get_or s at 0) q) (decimal_small (suc n) s (suc at) (omega arith))
    by false false q = number_fine n p s (decimal_at p s at) (decimal_small p s at l)

joined_fine : (n p : ℕ) (op : Tree → Tree → Tree) (l : Tree) (q : Parsed) → Good n p (Link.Joins op) → Below n p l → Fine n p q → Fine n p (joined op l q)
unfolding Fine joined Good
joined_fine n p op l (Parsed.Read r e) g h f = g l r h f
joined_fine n p op l Parsed.Wrong g h f = tt

module _ (n p : ℕ) (link : ℕ → Link) (part : ℕ → Parsed) (s : List ℕ) (good : (b : ℕ) → Good n p (link b)) (fine : (e : ℕ) → Fine n p (part e)) where
  linked-fine : (again : Parsed → Parsed) (l : Tree) (e : ℕ) (k : Link) → ((q : Parsed) → Fine n p q → Fine n p (again q)) → Good n p k → Below n p l → Fine n p (linked again part s l e k)
  unfolding linked Fine
  linked-fine again l e (Link.Joins op) f g h = f (joined op l (part (blanks_end s (suc e)))) (joined_fine n p op l (part (blanks_end s (suc e))) g h (fine (blanks_end s (suc e))))
  linked-fine again l e Link.Ends f g h = h

  go-fine : (m : ℕ) (q : Parsed) → Fine n p q → Fine n p (go_on link m part s q)
  unfolding go_on Fine
  go-fine zero q h = h
  go-fine (suc m) (Parsed.Read l e) h = linked-fine (λ r. go_on link m part s r) l e (link (get_or s e 0)) (λ q f. go-fine m q f) (good (get_or s e 0)) h
  go-fine (suc m) Parsed.Wrong h = tt

times_good : (n p b : ℕ) → Good n p (times_link b)
unfolding times_link Good Below
times_good n p b = by (eqb b 42)
  where
    by : (x : Bool) → Good n p (cond x (Link.Joins Tree.Times) Link.Ends)
    by true = λ l r f g. (f, g)
    by false = tt

terms_good : (n p b : ℕ) → Good n p (terms_link b)
unfolding terms_link Good Below
terms_good n p b = by (eqb b 43) (eqb b 45)
  where
    by : (x y : Bool) → Good n p (cond x (Link.Joins Tree.Plus) (cond y (Link.Joins Tree.Minus) Link.Ends))
    by true y = λ l r f g. (f, g)
    by false true = λ l r f g. (f, g)
    by false false = tt

module _ (inner : ℕ → Parsed) (n p : ℕ) (s : List ℕ) (l : 1 ≤ p) (h : (e : ℕ) → Fine n p (inner e)) where
  product-fine : (at : ℕ) → Fine n p (product_by inner n p s at)
  unfolding product_by
  product-fine at = go-fine n p times_link (atom_by inner n p s) s (times_good n p) (λ e. atom_fine inner n p s e l h) (length s) (atom_by inner n p s at) (atom_fine inner n p s at l h)

  sum-fine : (at : ℕ) → Fine n p (sum_by inner n p s at)
  unfolding sum_by
  sum-fine at = go-fine n p terms_link (product_by inner n p s) s (terms_good n p) product-fine (length s) (product_by inner n p s at) (product-fine at)

inner_fine : (k n p : ℕ) (s : List ℕ) → 1 ≤ p → (at : ℕ) → Fine n p (inner_at k n p s at)
unfolding inner_at Fine
inner_fine zero n p s l at = tt
inner_fine (suc k) n p s l at = sum-fine (inner_at k n p s) n p s l (λ e. inner_fine k n p s l e) at

whole_fine : (n p : ℕ) (s : List ℕ) (q : Parsed) → Fine n p q → Fine n p (whole s q)
unfolding whole Fine
whole_fine n p s (Parsed.Read x e) h = by (eqb e (length s))
  where
    by : (t : Bool) → Fine n p (cond t (Parsed.Read x e) Parsed.Wrong)
    by true = h
    by false = tt
whole_fine n p s Parsed.Wrong h = tt

sheet_fine : (n p : ℕ) (s : List ℕ) → 1 ≤ p → Fine n p (sheet_at n p s)
unfolding sheet_at sum_at
sheet_fine n p s l = whole_fine n p s _ (sum-fine (inner_at 16 n p s) n p s l (λ e. inner_fine 16 n p s l e) (blanks_end s 0))

tree_below : (n p : ℕ) (q : Parsed) → 1 ≤ p → Fine n p q → Below n p (tree_of q)
unfolding tree_of Fine Below
tree_below n p (Parsed.Read x e) l h = h
tree_below n p Parsed.Wrong l h = l

pub sheet_below : (n p : ℕ) (s : List ℕ) → 1 ≤ p → Below n p (sheet_tree n p s)
unfolding sheet_tree
sheet_below n p s l = tree_below n p (sheet_at n p s) l (sheet_fine n p s l)

-- ---- names
unfoldable pub Known : ℕ → List ℕ → Type 0
Known x ys = name_index x ys < length ys

longer_step : (t : Bool) (k j n m : ℕ) → (k < n → j < m) → cond t 0 (suc k) < suc n → cond t 0 (suc j) < suc m
longer_step true k j n m f l = omega arith
longer_step false k j n m f l = omega (arith, f (omega arith))

with_known : (x : ℕ) (ys : List ℕ) → Known x (with_name x ys)
unfolding with_name Known name_index
with_known x [] = rw (eq-eqb x x refl) (omega arith)
with_known x (y ∷ ys) = by (eqb y x) (with_known x ys)
  where
    by : (t : Bool) → name_index x (with_name x ys) < length (with_name x ys) → cond t 0 (suc (name_index x (cond t ys (with_name x ys)))) < suc (length (cond t ys (with_name x ys)))
    by true h = omega arith
    by false h = omega arith

with_keeps : (x y : ℕ) (ys : List ℕ) → Known x ys → Known x (with_name y ys)
unfolding with_name Known name_index
with_keeps x y [] h = absurd (omega arith)
with_keeps x y (z ∷ ys) h = by (eqb z y) (eqb z x) (λ i. with_keeps x y ys i) h
  where
    by : (t u : Bool) → (name_index x ys < length ys → name_index x (with_name y ys) < length (with_name y ys)) → cond u 0 (suc (name_index x ys)) < suc (length ys) → cond u 0 (suc (name_index x (cond t ys (with_name y ys)))) < suc (length (cond t ys (with_name y ys)))
    by true u f l = l
    by false u f l = longer_step u (name_index x ys) (name_index x (with_name y ys)) (length ys) (length (with_name y ys)) f l

names_keep : (x : ℕ) (t : Tree) (ys : List ℕ) → Known x ys → Known x (names_from ys t)
unfolding names_from
names_keep x (Tree.Number v) ys h = h
names_keep x (Tree.Name c) ys h = with_keeps x c ys h
names_keep x (Tree.Plus l r) ys h = names_keep x r (names_from ys l) (names_keep x l ys h)
names_keep x (Tree.Minus l r) ys h = names_keep x r (names_from ys l) (names_keep x l ys h)
names_keep x (Tree.Times l r) ys h = names_keep x r (names_from ys l) (names_keep x l ys h)

-- a tree whose numbers are below p is proper over a list that knows all that the names of the tree bring
proper : (n p : ℕ) (t : Tree) (ys zs : List ℕ) → Below n p t → ((x : ℕ) → Known x (names_from ys t) → Known x zs) → Proper p zs t
unfolding Proper Below names_from Known
proper n p (Tree.Number v) ys zs b f = b
proper n p (Tree.Name c) ys zs b f = f c (with_known c ys)
proper n p (Tree.Plus l r) ys zs b f = (proper n p l ys zs b.0 (λ x h. f x (names_keep x r (names_from ys l) h)), proper n p r (names_from ys l) zs b.1 f)
proper n p (Tree.Minus l r) ys zs b f = (proper n p l ys zs b.0 (λ x h. f x (names_keep x r (names_from ys l) h)), proper n p r (names_from ys l) zs b.1 f)
proper n p (Tree.Times l r) ys zs b f = (proper n p l ys zs b.0 (λ x h. f x (names_keep x r (names_from ys l) h)), proper n p r (names_from ys l) zs b.1 f)

pub tree_proper : (n p : ℕ) (x : Tree) → Below n p x → Proper p (names_of x) x
unfolding names_of
tree_proper n p x b = proper n p x [] (names_from [] x) b (λ y h. h)

-- the parties of the names
unfoldable pub Parties : ℕ → List ℕ → Type 0
Parties n [] = Unit
Parties n (x ∷ xs) = ((1 ≤ party_of x) × (party_of x ≤ n)) × Parties n xs

with-parties : (n x : ℕ) (ys : List ℕ) → (1 ≤ party_of x) × (party_of x ≤ n) → Parties n ys → Parties n (with_name x ys)
unfolding with_name Parties
with-parties n x [] h k = (h, tt)
with-parties n x (y ∷ ys) h k = (k.0, by (eqb y x) (with-parties n x ys h k.1))
  where
    by : (t : Bool) → Parties n (with_name x ys) → Parties n (cond t ys (with_name x ys))
    by true m = k.1
    by false m = m

names-parties : (n p : ℕ) (t : Tree) (ys : List ℕ) → Below n p t → Parties n ys → Parties n (names_from ys t)
unfolding Below names_from
names-parties n p (Tree.Number v) ys b k = k
names-parties n p (Tree.Name c) ys b k = with-parties n c ys b k
names-parties n p (Tree.Plus l r) ys b k = names-parties n p r (names_from ys l) b.1 (names-parties n p l ys b.0 k)
names-parties n p (Tree.Minus l r) ys b k = names-parties n p r (names_from ys l) b.1 (names-parties n p l ys b.0 k)
names-parties n p (Tree.Times l r) ys b k = names-parties n p r (names_from ys l) b.1 (names-parties n p l ys b.0 k)

pub tree-parties : (n p : ℕ) (x : Tree) → Below n p x → Parties n (names_of x)
unfolding names_of Parties
tree-parties n p x b = names-parties n p x [] b tt

-- ---- the value
pub some_name : (k : ℕ) → not (eqb k 0) ≡ true → 1 ≤ k
some_name zero h = absurd (eqb-false 0 0 (not-true (eqb 0 0) h) refl)
some_name (suc k) h = omega arith

module _ (n t p i : ℕ) (x : Tree) (xs : List ℕ) where
  -- what a tree's gates and out grant to the party that gets the result is the formula's value
  pub tree-value : 1 ≤ p → Below n p x → 1 ≤ length (names_of x) → length xs ≡ length (names_of x)
      → granted (plan_with n t p (tree_bodies p i x)) xs i ≡ formula_value p (names_of x) xs x ∷ []
  unfolding granted values plan_with tree_bodies tree_made bodies_with out_wires out_wires_of
  tree-value l b h e =
      rw (eq-eqb i i refl)
      (ap (λ (v : ℕ). v ∷ []) (formula_wire (plan_with n t p (tree_bodies p i x)) xs (names_of x) x l h e (tree_proper n p x b)))

  -- and nothing to any other
  pub tree-others : (j : ℕ) → (j ≡ i → ⊥) → granted (plan_with n t p (tree_bodies p i x)) xs j ≡ []
  unfolding granted plan_with tree_bodies bodies_with out_wires out_wires_of
  tree-others j d = rw (ne_eqb j i d)
