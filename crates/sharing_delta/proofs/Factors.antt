-- The code of the vanishing polynomial, factor by factor, in place.
--     clearing                the polynomial 1
--     Carried, carrying       one factor a + b·X
--     carried-cut             what it does to a polynomial that is cut
--     Grown, growing          the factors, from the last
-- Assumes nothing.
use mathlib.Core.Path.{◌≡◌, refl, sym, ap, ap₂, ◌∙◌}
use mathlib.Core.Bool.{true}
use mathlib.Core.List.{List, [], ◌∷◌, ◌++◌, append_assoc, append-nil, reverse}
use Rattle.std.proofs.lemmas.List.{length-reverse}
use Rattle.sharing.proofs.Walks.{Next}
use Prim.Native.Nat.{ℕ, zero, suc, ◌+◌, ◌*◌, ◌-◌, ◌%◌, ◌^◌, ◌≤◌, ◌<◌}
use native.Mathlib.Numerals.{add-one}
use native.Mathlib.Omega.{arith}
use borrow.Author.Rules.{rules}
use lib.ListN.{length, take, drop, set, get_or, replicate, length-drop, length-set, drop_of_length-le}
use lib.Seq.{drop-cons, drop-drop, get_or-drop, drop-length, drop-set-lt, take-suc-set, take_all, take-nil}
use Rattle.numbers.specs.Bytes.{all_below}
use Rattle.field.specs.Mod.{add, mul, sub}
use Rattle.field.specs.Prime.{inv}
use Rattle.field.specs.Field.{Below2, Is, Ready}
use Rattle.field.proofs.Solve.{#, quote, solve, turn, ◌⨾◌, plus, mul_same, add_same, mod_same, mod_canon, add_canon, canon_same}
use Rattle.field.proofs.Products.{word}
use Rattle.sharing_laws.specs.Poly.{sum_of, scale, linear, carried, padded}
use Rattle.sharing_laws.specs.Interp.{delta}
use Rattle.sharing.proofs.Coding.{entry_below}
use Rattle.sharing_laws.proofs.Deltas.{length-delta}
use Rattle.sharing_laws.proofs.Polys.{length-linear}
use Rattle.sharing_laws.proofs.Elements.{delta-below, padded-below}

-- ---- the polynomial 1
first_one : (n : ℕ) → 0 < n → set (replicate n 0) 0 1 ≡ padded n (1 ∷ [])
unfolding padded
first_one zero l = absurd (omega arith)
first_one (suc n) l = let e : suc n - 1 ≡ n = omega arith in rw e

pub one_set : (d : List ℕ) (n : ℕ) → d ≡ replicate n 0 → 0 < n → set d 0 1 ≡ padded n (1 ∷ [])
one_set d n e l = rw e (first_one n l)

pub ruleset clearing = (rules, one_set)

-- ---- one factor
-- one remainder for a step
step_both : (p a x b c : ℕ) → (a * x + b * c) % p ≡ add p (mul p a x) (mul p b c)
step_both p a x b c = canon_same (mod_canon (a * x + b * c)) (add_canon (mul p a x) (mul p b c)) (mod_same p (a * x + b * c) ⨾ plus (turn (mul_same p a x)) (turn (mul_same p b c)) ⨾ turn (add_same p (mul p a x) (mul p b c)))

-- the invariant: what is written, and what is left to write from i on, is the product
pub record Carried (p a b : ℕ) (d₀ d : List ℕ) (before i : ℕ) : Type 0 where
  pub within : i ≤ length d₀
  pub long : length d ≡ length d₀
  pub small : before < p
  pub left : drop i d ≡ drop i d₀
  pub whole : take i d ++ carried p a b before (drop i d) ≡ carried p a b 0 d₀

module _ (p a b : ℕ) (d₀ : List ℕ) (r : Ready p) where
  pub carry-none : Carried p a b d₀ d₀ 0 0
  carry-none = record { within = omega arith; long = refl; small = omega (arith, r.prime.above); left = refl; whole = refl }

  module _ (d : List ℕ) (before i : ℕ) (h : Carried p a b d₀ d before i) where
    -- what is read at i is what stood there
    left_at : get_or d i 0 ≡ get_or d₀ i 0
    left_at =
        let e : i + 0 ≡ i = omega arith in
        ap (λ (k : ℕ). get_or d k 0) (sym e) ∙ sym (get_or-drop i d 0 0) ∙ ap (λ (l : List ℕ). get_or l 0 0) h.left ∙ get_or-drop i d₀ 0 0 ∙ ap (λ (k : ℕ). get_or d₀ k 0) e

    left-next : drop (i + 1) d ≡ drop (i + 1) d₀
    left-next = sym (drop-drop 1 i d) ∙ ap (drop 1) h.left ∙ drop-drop 1 i d₀

    read_below : all_below p d₀ ≡ true → get_or d i 0 < p
    read_below below = rw left_at (entry_below p d₀ i r below)

    pub carry-more : all_below p d₀ ≡ true → i < length d → Carried p a b d₀ (set d i ((a * get_or d i 0 + b * before) % p)) (get_or d i 0) (i + 1)
    unfolding carried
    carry-more below l =
        let v : ℕ = (a * get_or d i 0 + b * before) % p in
        record {
          within = omega (arith, h.long);
          long = length-set d i v ∙ h.long;
          small = read_below below;
          left = drop-set-lt (i + 1) d i v (omega arith) ∙ left-next;
          whole =
              rw (drop-set-lt (i + 1) d i v (omega arith), add-one, take-suc-set d i v l, append_assoc, step_both p a (get_or d i 0) b before)
              (rw (drop-cons d i 0 l) at h.whole);
        }

    pub carry-whole : length d ≤ i → d ≡ carried p a b 0 d₀
    unfolding carried
    carry-whole l = sym (take_all i d l) ∙ sym (append-nil (take i d)) ∙ rw (drop_of_length-le d {i = i} l) at h.whole

    -- both products fit, and their sum
    part_fits : (u v : ℕ) → u < p → v < p → u * v ≤ 2147483647 * 2147483647
    part_fits u v l m = word u v (omega (arith, r.small)) (omega (arith, r.small))

    pub carry-fits : all_below p d₀ ≡ true → Below2 p a b → a * get_or d i 0 + b * before < 2 ^ 64
    carry-fits below two = omega (arith, part_fits a (get_or d i 0) two.left (read_below below), part_fits b before two.right h.small)

    pub read-fits : all_below p d₀ ≡ true → Below2 p a b → a * get_or d i 0 < 2 ^ 64
    read-fits below two = omega (arith, part_fits a (get_or d i 0) two.left (read_below below))

    pub product_fits : Below2 p a b → b * before < 2 ^ 64
    product_fits two = omega (arith, part_fits b before two.right h.small)

-- As it is: answers name this set, since the check leaves their goals open by `using` alone.
pub ruleset carrying = (rules, carry-none, carry-more, carry-whole, carry-fits, read-fits, product_fits)

-- ---- what one factor does to a polynomial that is cut, or has room above it
pub padded-nil : (n : ℕ) → padded n [] ≡ replicate n 0
unfolding padded
padded-nil n = let e : n - 0 ≡ n = omega arith in rw e

pub padded-cons : (n x : ℕ) (f : List ℕ) → padded (suc n) (x ∷ f) ≡ x ∷ padded n f
unfolding padded
padded-cons n x f = let e : suc n - suc (length f) ≡ n - length f = omega arith in rw e

module _ (p a b : ℕ) where
  carried_zeros : (m : ℕ) → carried p a b 0 (replicate m 0) ≡ replicate m 0
  unfolding carried
  carried_zeros zero = refl
  carried_zeros (suc m) = ap₂ ◌∷◌ (solve p (search (quote, # a, # b)) (omega arith)) (carried_zeros m)

  carried_sum : (k c : ℕ) (f : List ℕ) → carried p a b c (padded k (take k f)) ≡ padded k (take k (sum_of p (scale p a f) (mul p b c ∷ scale p b f)))
  unfolding carried sum_of scale
  carried_sum zero c f = rw (padded-nil 0)
  carried_sum (suc k) c [] = rw (padded-nil (suc k), take-nil k, padded-cons k (mul p b c) [], padded-nil k) (ap₂ ◌∷◌ (solve p (search (quote, # a, # b, # c)) (omega arith)) (carried_zeros k))
  carried_sum (suc k) c (x ∷ f) =
      rw (padded-cons k x (take k f), padded-cons k (add p (mul p a x) (mul p b c)) (take k (sum_of p (scale p a f) (mul p b x ∷ scale p b f))))
      (ap (λ (l : List ℕ). add p (mul p a x) (mul p b c) ∷ l) (carried_sum k x f))

  pub carried-cut : (f : List ℕ) (k : ℕ) → carried p a b 0 (padded k (take k f)) ≡ padded k (take k (linear p a b f))
  unfolding linear
  carried-cut f k =
      let none : mul p b 0 ≡ 0 = solve p (search (quote, # b)) (omega arith) in
      carried_sum k 0 f ∙ rw none

  pub carried-linear : (f : List ℕ) (n : ℕ) → length f < n → carried p a b 0 (padded n f) ≡ padded n (linear p a b f)
  carried-linear f n l =
      ap (λ (g : List ℕ). carried p a b 0 (padded n g)) (sym (take_all n f (omega arith))) ∙ carried-cut f n
      ∙ ap (padded n) (take_all n (linear p a b f) (omega (arith, length-linear p a b f)))

-- ---- all factors: the members from i on have theirs
pub record Grown (p : ℕ) (ms d₀ d : List ℕ) (i : ℕ) : Type 0 where
  pub within : i ≤ length ms
  pub room : length ms + 1 ≤ length d₀
  pub long : length d ≡ length d₀
  pub is : d ≡ padded (length d₀) (delta p (drop i ms))

module _ (p : ℕ) (ms d₀ : List ℕ) where
  pub grow-none : (e : List ℕ) → d₀ ≡ padded (length e) (1 ∷ []) → length d₀ ≡ length e → length ms + 1 ≤ length e → Grown p ms d₀ d₀ (length ms - 0)
  unfolding delta
  grow-none e one same l =
      let z : length ms - 0 ≡ length ms = omega arith in
      rw z (record { within = omega arith; room = omega arith; long = refl; is = rw (drop-length ms) (one ∙ ap (λ (n : ℕ). padded n (1 ∷ [])) (sym same)) })

  module _ (d : List ℕ) (k : ℕ) (h : Grown p ms d₀ d (length ms - k)) where
    pub grow-more : (c v b j : ℕ) (e : List ℕ) → Next ms k c → Is p (inv p c) v → Is p (sub p 0 v) b → e ≡ carried p 1 b 0 d → length e ≡ length d → j ≡ k + 1 → Grown p ms d₀ e (length ms - j)
    unfolding delta
    grow-more c v b j e n ev eb to same next =
        let at : length ms - k ≡ suc (length ms - 1 - k) = omega (arith, n.within) in
        let now : length ms - j ≡ length ms - 1 - k = omega arith in
        let fits : length (delta p (drop (length ms - k) ms)) < length d₀ = omega (arith, length-delta p (drop (length ms - k) ms), length-drop (length ms - k) ms, h.room, n.within) in
        rw now (record {
          within = omega arith;
          room = h.room;
          long = same ∙ h.long;
          is =
              to ∙ ap (carried p 1 b 0) h.is ∙ carried-linear p 1 b (delta p (drop (length ms - k) ms)) (length d₀) fits
              ∙ rw (drop-cons ms (length ms - 1 - k) 0 (omega (arith, n.within)), ← n.is, ← ev.eq, ← eb.eq) (ap (λ (m : ℕ). padded (length d₀) (linear p 1 b (delta p (drop m ms)))) at);
        })

    pub grow-whole : (e : List ℕ) → length d₀ ≡ length e → length ms ≤ k → d ≡ padded (length e) (delta p ms)
    grow-whole e same l = let z : length ms - k ≡ 0 = omega arith in h.is ∙ ap (λ (m : ℕ). padded (length d₀) (delta p (drop m ms))) z ∙ ap (λ (n : ℕ). padded n (delta p ms)) same

    pub grown-below : Ready p → all_below p d ≡ true
    grown-below r = rw h.is (padded-below p (omega (arith, r.prime.above)) (length d₀) (delta p (drop (length ms - k) ms)) (delta-below p r.prime.above (drop (length ms - k) ms)))

-- a member is an element
pub member_below : (p : ℕ) (ms : List ℕ) (k c : ℕ) → Ready p → all_below p ms ≡ true → Next ms k c → c < p
member_below p ms k c r h n = rw n.is (entry_below p ms (length ms - 1 - k) r h)

pub none-left : (ms : List ℕ) (k : ℕ) → k ≡ length (reverse ms) → length ms ≤ k
none-left ms k e = omega (arith, length-reverse ms)

pub ruleset growing = (rules, member_below, grow-none, grow-more, grow-whole, grown-below)
