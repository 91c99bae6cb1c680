-- The laws of arithmetic modulo p hold for all numbers, below p or not.
-- An equation between sums, products, differences and remainders is proved by `solve p (search (quote, # x, # y)) (omega arith)`, with `#` at each of its atoms.
use mathlib.Core.Path.{◌≡◌, refl, sym, ap, ◌∙◌}
use Prim.Native.Nat.{ℕ, ◌+◌, ◌*◌, ◌-◌, ◌/◌, ◌%◌, ◌≤◌, ◌<◌}
use native.Mathlib.Nat.{mod-lt, mod-eq_of_lt, mod-mod, add-mul-mod_self_right, div-add-mod', mul_comm, zero-mod}
use native.Mathlib.Omega.{arith}
use Rattle.field.specs.Mod.{add, mul, sub}

-- ---- the same number modulo p
pub record Same (p a b : ℕ) : Type 0 where
  pub rest : a % p ≡ b % p

pub same_by : {p a b : ℕ} (k l : ℕ) → a + k * p ≡ b + l * p → Same p a b
same_by {p} {a} {b} k l e = record { rest = sym (add-mul-mod_self_right a k p) ∙ ap (λ n. n % p) e ∙ add-mul-mod_self_right b l p }

pub multiples : {p a b : ℕ} → Same p a b → a + b / p * p ≡ b + a / p * p
multiples {p} {a} {b} s = omega (arith, div-add-mod' a p, div-add-mod' b p)

pub same : {p a b : ℕ} → a ≡ b → Same p a b
same {p} e = record { rest = ap (λ n. n % p) e }

pub turn : {p a b : ℕ} → Same p a b → Same p b a
turn s = record { rest = sym s.rest }

infixl 30 ◌⨾◌
pub ◌⨾◌ : {p a b c : ℕ} → Same p a b → Same p b c → Same p a c
s ⨾ t = record { rest = s.rest ∙ t.rest }

pub plus : {p a b c d : ℕ} → Same p a b → Same p c d → Same p (a + c) (b + d)
plus {p} {a} {b} {c} {d} s t = same_by (b / p + d / p) (a / p + c / p) (omega (arith, multiples s, multiples t))

pub cancel : {p a b : ℕ} (c d : ℕ) → Same p c d → Same p (a + c) (b + d) → Same p a b
cancel {p} {a} {b} c d s t = same_by ((b + d) / p + c / p) ((a + c) / p + d / p) (omega (arith, multiples s, multiples t))

times_left : {p a b : ℕ} (c : ℕ) → Same p a b → Same p (a * c) (b * c)
times_left {p} {a} {b} c s = same_by (b / p * c) (a / p * c) (omega (arith, ap (λ n. n * c) (multiples s)))

pub times : {p a b c d : ℕ} → Same p a b → Same p c d → Same p (a * c) (b * d)
times {p} {a} {b} {c} {d} s t = times_left c s ⨾ same (mul_comm b c) ⨾ times_left b t ⨾ same (mul_comm d b)

-- ---- what the operations are
pub mod_same : (p a : ℕ) → Same p (a % p) a
mod_same p a = record { rest = mod-mod a p }

pub add_same : (p a b : ℕ) → Same p (add p a b) (a + b)
unfolding add
add_same p a b = mod_same p (a + b)

pub mul_same : (p a b : ℕ) → Same p (mul p a b) (a * b)
unfolding mul
mul_same p a b = mod_same p (a * b)

pub sub_same : (p a b : ℕ) → 0 < p → Same p (sub p a b + b) a
unfolding sub
sub_same p a b pos = plus (mod_same p (a + (p - b % p))) (same refl) ⨾ same_by 0 (b / p + 1) (omega (arith, div-add-mod' b p, mod-lt b pos))

-- ---- a remainder by p
pub record Canon (p a : ℕ) : Type 0 where
  pub canon : a % p ≡ a

pub below : {p a : ℕ} → a < p → Canon p a
below h = record { canon = mod-eq_of_lt h }

pub zero_canon : {p : ℕ} → Canon p 0
zero_canon {p} = record { canon = zero-mod p }

module _ {p : ℕ} where
  pub mod_canon : (a : ℕ) → Canon p (a % p)
  mod_canon a = record { canon = mod-mod a p }

  pub add_canon : (a b : ℕ) → Canon p (add p a b)
  unfolding add
  add_canon a b = record { canon = mod-mod (a + b) p }

  pub mul_canon : (a b : ℕ) → Canon p (mul p a b)
  unfolding mul
  mul_canon a b = record { canon = mod-mod (a * b) p }

  pub sub_canon : (a b : ℕ) → Canon p (sub p a b)
  unfolding sub
  sub_canon a b = record { canon = mod-mod (a + (p - b % p)) p }

  pub canon_same : {a b : ℕ} → Canon p a → Canon p b → Same p a b → a ≡ b
  canon_same c d s = sym c.canon ∙ s.rest ∙ d.canon

  pub canon-lt : {a : ℕ} → 0 < p → Canon p a → a < p
  canon-lt {a} pos c = omega (arith, mod-lt a pos, c.canon)

-- the difference of two remainders, as code finds it
pub sub_down : (p a b : ℕ) → b ≤ a → a < p → sub p a b ≡ a - b
sub_down p a b le lt = canon_same (sub_canon a b) (below (omega arith)) (cancel b b (same refl) (sub_same p a b (omega arith) ⨾ same (omega arith)))

pub sub_over : (p a b : ℕ) → a < b → b < p → sub p a b ≡ a + p - b
sub_over p a b lt bound = canon_same (sub_canon a b) (below (omega arith)) (cancel b b (same refl) (sub_same p a b (omega arith) ⨾ same_by 1 0 (omega arith)))

-- ---- the solver
-- a number, where none is a 0 that leaves no trace in a sum or a product
pub data Part : Type 0 where
  none : Part
  some : ℕ → Part

abbrev pub val : Part → ℕ
val none = 0
val (some n) = n

infixl 65 ◌⊕◌
abbrev pub ◌⊕◌ : Part → Part → Part
none ⊕ y = y
(some m) ⊕ none = some m
(some m) ⊕ (some n) = some (m + n)

infixl 70 ◌⊗◌
abbrev pub ◌⊗◌ : Part → Part → Part
none ⊗ y = none
(some m) ⊗ none = none
(some m) ⊗ (some n) = some (m * n)

val-⊕ : (x y : Part) → val (x ⊕ y) ≡ val x + val y
val-⊕ none y = omega arith
val-⊕ (some m) none = omega arith
val-⊕ (some m) (some n) = refl

val-⊗ : (x y : Part) → val (x ⊗ y) ≡ val x * val y
val-⊗ none y = omega arith
val-⊗ (some m) none = omega arith
val-⊗ (some m) (some n) = refl

val_cross : (x y z w : Part) → val (x ⊗ y ⊕ z ⊗ w) ≡ val x * val y + val z * val w
val_cross x y z w = omega (arith, val-⊕ (x ⊗ y) (z ⊗ w), val-⊗ x y, val-⊗ z w)

-- the number a is P less N, modulo p
pub record Diff (p a : ℕ) : Type 0 where
  pub P : Part
  pub N : Part
  pub is : Same p (a + val N) (val P)

pub record Value (p a : ℕ) : Type 0 where
  pub diff : Diff p a
  pub canon : Canon p a

pub record Sides (p a b : ℕ) : Type 0 where
  pub left : Value p a
  pub right : Value p b

-- an atom of the equation
pub data Atom : ℕ → Type 0 where
  # : (a : ℕ) → Atom a

module _ {p : ℕ} where
  pub atom-is : (a : ℕ) → Same p (a + 0) a
  atom-is a = same (omega arith)

  pub add_is : {a b : ℕ} (d : Diff p a) (e : Diff p b) → Same p (add p a b + val (d.N ⊕ e.N)) (val (d.P ⊕ e.P))
  add_is {a} {b} d e = rw (val-⊕ d.N e.N, val-⊕ d.P e.P)
      (plus (add_same p a b) (same refl) ⨾ same {a = a + b + (val d.N + val e.N)} {b = a + val d.N + (b + val e.N)} (omega arith) ⨾ plus d.is e.is)

  pub mul_is : {a b : ℕ} (d : Diff p a) (e : Diff p b) → Same p (mul p a b + val (d.P ⊗ e.N ⊕ d.N ⊗ e.P)) (val (d.P ⊗ e.P ⊕ d.N ⊗ e.N))
  mul_is {a} {b} d e = rw (val_cross d.P e.N d.N e.P, val_cross d.P e.P d.N e.N)
      (plus (mul_same p a b) (plus (times (turn d.is) (same refl)) (times (same refl) (turn e.is)))
      ⨾ same {a = a * b + ((a + val d.N) * val e.N + val d.N * (b + val e.N))} {b = (a + val d.N) * (b + val e.N) + val d.N * val e.N} (omega arith)
      ⨾ plus (times d.is e.is) (same refl))

  pub sub_is : {a b : ℕ} (d : Diff p a) (e : Diff p b) → 0 < p → Same p (sub p a b + val (d.N ⊕ e.P)) (val (d.P ⊕ e.N))
  sub_is {a} {b} d e pos = rw (val-⊕ d.N e.P, val-⊕ d.P e.N)
      (plus (same refl) (plus (same refl) (turn e.is))
      ⨾ same {a = sub p a b + (val d.N + (b + val e.N))} {b = sub p a b + b + val d.N + val e.N} (omega arith)
      ⨾ plus (plus (sub_same p a b pos) (same refl) ⨾ d.is) (same refl))

  pub mod-is : {a : ℕ} (d : Diff p a) → Same p (a % p + val d.N) (val d.P)
  mod-is {a} d = plus (mod_same p a) (same refl) ⨾ d.is

  abbrev pub diff-atom : {a : ℕ} → Atom a → Diff p a
  diff-atom {a} _ = record { P = some a; N = none; is = atom-is a }

  abbrev pub diff-zero : Diff p 0
  diff-zero = record { P = none; N = none; is = atom-is 0 }

  abbrev pub diff-one : Diff p 1
  diff-one = record { P = some 1; N = none; is = atom-is 1 }

  abbrev pub diff-mod : {a : ℕ} → Diff p a → Diff p (a % p)
  diff-mod d = record { P = d.P; N = d.N; is = mod-is d }

  abbrev pub diff-add : {a b : ℕ} → Diff p a → Diff p b → Diff p (add p a b)
  diff-add d e = record { P = d.P ⊕ e.P; N = d.N ⊕ e.N; is = add_is d e }

  abbrev pub diff-mul : {a b : ℕ} → Diff p a → Diff p b → Diff p (mul p a b)
  diff-mul d e = record { P = d.P ⊗ e.P ⊕ d.N ⊗ e.N; N = d.P ⊗ e.N ⊕ d.N ⊗ e.P; is = mul_is d e }

  abbrev pub diff-sub : {a b : ℕ} → Diff p a → Diff p b → 0 < p → Diff p (sub p a b)
  diff-sub d e pos = record { P = d.P ⊕ e.N; N = d.N ⊕ e.P; is = sub_is d e pos }

  abbrev pub value : {a : ℕ} → Diff p a → Canon p a → Value p a
  value d c = record { diff = d; canon = c }

  abbrev pub sides : {a b : ℕ} → Value p a → Value p b → Sides p a b
  sides d e = record { left = d; right = e }

  merge : {a b : ℕ} (d : Diff p a) (e : Diff p b) → val (d.P ⊕ e.N) ≡ val (e.P ⊕ d.N) → Same p a b
  merge {a} {b} d e h = cancel (val d.N + val e.N) (val e.N + val d.N) (same (omega arith)) (widen a d (val e.N) ⨾ same (sym (val-⊕ d.P e.N) ∙ h ∙ val-⊕ e.P d.N) ⨾ turn (widen b e (val d.N)))
    where
      widen : (a : ℕ) (d : Diff p a) (n : ℕ) → Same p (a + (val d.N + n)) (val d.P + n)
      widen a d n = same {a = a + (val d.N + n)} {b = a + val d.N + n} (omega arith) ⨾ plus d.is (same refl)

pub ruleset quote = (sides, value, diff-add, diff-mul, diff-sub, diff-mod, diff-zero, diff-one, diff-atom, zero_canon, mod_canon, add_canon, mul_canon, sub_canon)

pub solve : (p : ℕ) {a b : ℕ} (s : Sides p a b) → val (s.left.diff.P ⊕ s.right.diff.N) ≡ val (s.right.diff.P ⊕ s.left.diff.N) → a ≡ b
solve p s h = canon_same s.left.canon s.right.canon (merge s.left.diff s.right.diff h)

-- an equation a ≡ b that follows from u ≡ v times c
pub combine : (p c : ℕ) {a b u v : ℕ} → Canon p a → Canon p b → u ≡ v → add p a (mul p c v) ≡ add p b (mul p c u) → a ≡ b
combine p c {a} {b} {u} {v} ca cb e h = canon_same ca cb (cancel (mul p c v) (mul p c u) (same (ap (λ n. mul p c n) (sym e))) (turn (add_same p a (mul p c v)) ⨾ same h ⨾ add_same p b (mul p c u)))
