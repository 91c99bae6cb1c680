-- The parts of a bill: they add up to it, each is rounded down or one cent more, and the cents go to the greatest remainders, the lower
-- parties' first among equals.
--     few-left, parts-sum, parts_long                       cents left over, the sum
--     part-either, more-greater, more-lower, more-owed      who gets a cent
--     bill_covers, bill_least, bill_fits                    the bill is rounded up, and has four bytes
-- Assumes nothing.
use Prim.Native.Nat.{ℕ, zero, suc, ◌+◌, ◌*◌, ◌≤◌, ◌<◌}
use mathlib.Core.Path.{◌≡◌, refl, sym, ap, ◌∙◌}
use mathlib.Core.Logic.{◌⊎◌, inl, inr}
use mathlib.Core.List.{List, [], ◌∷◌}
use native.Mathlib.Nat.{add-mul, suc-mul, mul-add, mul-zero, mod-lt, mul-le-mul, div-add-mod', le_of_mul-le-mul_right, lt_of_mul-lt-mul_right}
use native.Mathlib.Omega.{arith}
use lib.ListN.{length, get_or, length-set}
use lib.Seq.{get_or-set_same, get_or-set_other}
use Rattle.numbers.specs.Tables.{tab, total}
use Rattle.numbers.proofs.Tables.{length-tab, get_or-tab}
use Rattle.charge_laws.specs.Charges.{bill_for, floor_at, remainder_at, left_over, greatest, Shares, give_to, give, shares_first, parts_of, part_at}
use Rattle.charge_laws.proofs.Totals.{total_more, total_less, total-none, nonempty, same_or, Best, best-greatest, greatest_in}

-- ---- cents given
give-total : (m : ℕ) (s : Shares) → length s.parts ≡ length s.rests → 1 ≤ length s.rests → total (give m s).parts ≡ m + total s.parts
unfolding give give_to
give-total zero s e l = omega arith
give-total (suc m) s e l =
    let k : ℕ = greatest s.rests in
    let one = total_more s.parts k (omega (arith, e, greatest_in s.rests l)) in
    let h = give-total m (give_to k s) (length-set s.parts k (suc (get_or s.parts k 0)) ∙ e ∙ sym (length-set s.rests k 0)) (omega (arith, l, length-set s.rests k 0)) in
    omega (arith, h, one)

pub give_long : (m : ℕ) (s : Shares) → length (give m s).parts ≡ length s.parts
unfolding give give_to
give_long zero s = refl
give_long (suc m) s = give_long m (give_to (greatest s.rests) s) ∙ length-set s.parts (greatest s.rests) (suc (get_or s.parts (greatest s.rests) 0))

-- ---- quotients and remainders of a list
sums : (t n : ℕ) (f g h : ℕ → ℕ) → ((i : ℕ) → f i * t + g i ≡ h i) → total (tab f n) * t + total (tab g n) ≡ total (tab h n)
unfolding total tab
sums t zero f g h e = omega arith
sums t (suc n) f g h e =
    let r = sums t n (λ k. f (suc k)) (λ k. g (suc k)) (λ k. h (suc k)) (λ k. e (suc k)) in
    omega (arith, r, e 0, add-mul (f 0) (total (tab (λ k. f (suc k)) n)) t)

scaled : (b : ℕ) (es : List ℕ) → total (tab (λ i. b * get_or es i 0) (length es)) ≡ b * total es
unfolding total tab
scaled b [] = sym (mul-zero b)
scaled b (e ∷ es) = let h = scaled b es in omega (arith, h, mul-add b e (total es))

-- each remainder is below the total
few_rests : (t n : ℕ) (g : ℕ → ℕ) → ((i : ℕ) → g i < t) → total (tab g n) + n ≤ n * t
unfolding total tab
few_rests t zero g h = omega arith
few_rests t (suc n) g h = omega (arith, h 0, few_rests t n (λ k. g (suc k)) (λ k. h (suc k)), add-mul 1 n t)

module _ (bill : ℕ) (es : List ℕ) (l : 1 ≤ total es) where
  floors : ℕ
  floors = total (tab (floor_at bill es) (length es))

  rests : ℕ
  rests = total (tab (remainder_at bill es) (length es))

  all : floors * total es + rests ≡ bill * total es
  unfolding floors rests floor_at remainder_at
  all =
      sums (total es) (length es) (floor_at bill es) (remainder_at bill es) (λ i. bill * get_or es i 0)
      (λ i. div-add-mod' (bill * get_or es i 0) (total es)) ∙ scaled bill es

  pub floors-under : total (tab (floor_at bill es) (length es)) ≤ bill
  unfolding floors
  floors-under = le_of_mul-le-mul_right (omega (arith, all)) l

  left_is : left_over bill es * total es ≡ rests
  unfolding left_over floors
  left_is = let e : bill ≡ floors + left_over bill es = omega (arith, floors-under) in
      omega (arith, all, ap (λ (k : ℕ). k * total es) e, add-mul floors (left_over bill es) (total es))

  remainder-below : (i : ℕ) → remainder_at bill es i < total es
  unfolding remainder_at
  remainder-below i = mod-lt (bill * get_or es i 0) l

  -- fewer cents are left over than there are parts
  pub few-left : left_over bill es < length es
  unfolding rests
  few-left = lt_of_mul-lt-mul_right (total es) (omega (arith, left_is, nonempty es l, few_rests (total es) (length es) (remainder_at bill es) remainder-below))

  -- the parts add up to the bill
  pub parts-sum : total (parts_of bill es) ≡ bill
  unfolding parts_of shares_first left_over
  parts-sum =
      let lp = length-tab (floor_at bill es) (length es) in
      let lr = length-tab (remainder_at bill es) (length es) in
      let h = give-total (left_over bill es) (shares_first bill es) (lp ∙ sym lr) (omega (arith, lr, nonempty es l)) in
      omega (arith, h, floors-under)

  pub parts_long : length (parts_of bill es) ≡ length es
  unfolding parts_of shares_first
  parts_long = give_long (left_over bill es) (shares_first bill es) ∙ length-tab (floor_at bill es) (length es)

  -- ---- who gets a cent: while m cents are left
  record Plain (s : Shares) (i : ℕ) : Type 0 where
    part : get_or s.parts i 0 ≡ floor_at bill es i
    rest : get_or s.rests i 0 ≡ remainder_at bill es i

  record More (s : Shares) (i : ℕ) : Type 0 where
    part : get_or s.parts i 0 ≡ suc (floor_at bill es i)
    rest : get_or s.rests i 0 ≡ 0
    owed : 1 ≤ remainder_at bill es i

  record Going (m : ℕ) (s : Shares) : Type 0 where
    parts_are : length s.parts ≡ length es
    rests-are : length s.rests ≡ length es
    -- more is left over than these cents
    enough : m * total es ≤ total s.rests
    each : (i : ℕ) → i < length es → Plain s i ⊎ More s i
    greater :
        (i j : ℕ) → i < length es → j < length es → get_or s.parts i 0 ≡ suc (floor_at bill es i) → get_or s.parts j 0 ≡ floor_at bill es j
        → remainder_at bill es j ≤ remainder_at bill es i
    lower :
        (i j : ℕ) → i < length es → j < length es → get_or s.parts i 0 ≡ suc (floor_at bill es i) → get_or s.parts j 0 ≡ floor_at bill es j
        → remainder_at bill es j ≡ remainder_at bill es i → i < j

  going-first : Going (left_over bill es) (shares_first bill es)
  unfolding shares_first rests
  going-first = record {
    parts_are = length-tab (floor_at bill es) (length es);
    rests-are = length-tab (remainder_at bill es) (length es);
    enough = omega (arith, left_is);
    each = λ i q. inl (record { part = floor i q; rest = get_or-tab (remainder_at bill es) (length es) i 0 q });
    greater = λ i j q r e f. absurd (omega (arith, e, floor i q));
    lower = λ i j q r e f s. absurd (omega (arith, e, floor i q));
  }
    where
      floor : (i : ℕ) → i < length es → get_or (tab (floor_at bill es) (length es)) i 0 ≡ floor_at bill es i
      floor i q = get_or-tab (floor_at bill es) (length es) i 0 q

  module _ (m : ℕ) (s : Shares) (h : Going (suc m) s) where
    k : ℕ
    k = greatest s.rests

    best : Best s.rests k (length s.rests)
    unfolding k
    best = best-greatest s.rests

    some : 1 ≤ total s.rests
    some = omega (arith, h.enough, suc-mul m (total es), l)

    k-in : k < length es
    unfolding k
    k-in = omega (arith, h.rests-are, greatest_in s.rests (nonempty s.rests some))

    -- the greatest remainder left is above 0
    k-some : 1 ≤ get_or s.rests k 0
    k-some = same_or (get_or s.rests k 0) 0 (λ z. absurd (omega (arith, some, total-none s.rests (λ j q. omega (arith, z, best.most j q))))) (λ nz. omega (arith, nz))

    k-plain : Plain s k
    k-plain = by (h.each k k-in)
      where
        by : Plain s k ⊎ More s k → Plain s k
        by (inl p) = p
        by (inr q) = absurd (omega (arith, q.rest, k-some))

    -- another that has no cent
    other-plain : (j : ℕ) → j < length es → get_or s.parts j 0 ≡ floor_at bill es j → get_or s.rests j 0 ≡ remainder_at bill es j
    other-plain j q e = by (h.each j q)
      where
        by : Plain s j ⊎ More s j → get_or s.rests j 0 ≡ remainder_at bill es j
        by (inl p) = p.rest
        by (inr p) = absurd (omega (arith, e, p.part))

    new : Shares
    new = give_to k s

    new_same : get_or new.parts k 0 ≡ suc (floor_at bill es k)
    unfolding new give_to
    new_same = get_or-set_same s.parts k (suc (get_or s.parts k 0)) 0 (omega (arith, h.parts_are, k-in)) ∙ ap suc k-plain.part

    new-spent : get_or new.rests k 0 ≡ 0
    unfolding new give_to
    new-spent = get_or-set_same s.rests k 0 0 (omega (arith, h.rests-are, k-in))

    new-other : (j : ℕ) → (j ≡ k → ⊥) → get_or new.parts j 0 ≡ get_or s.parts j 0
    unfolding new give_to
    new-other j ne = get_or-set_other s.parts k j (suc (get_or s.parts k 0)) 0 ne

    rest-other : (j : ℕ) → (j ≡ k → ⊥) → get_or new.rests j 0 ≡ get_or s.rests j 0
    unfolding new give_to
    rest-other j ne = get_or-set_other s.rests k j 0 0 ne

    new-each : (i : ℕ) → i < length es → Plain new i ⊎ More new i
    new-each i q = same_or i k
        (λ e. rw e (inr (record { part = new_same; rest = new-spent; owed = omega (arith, k-some, k-plain.rest) })))
        (λ ne. by ne (h.each i q))
      where
        by : (i ≡ k → ⊥) → Plain s i ⊎ More s i → Plain new i ⊎ More new i
        by ne (inl p) = inl (record { part = new-other i ne ∙ p.part; rest = rest-other i ne ∙ p.rest })
        by ne (inr p) = inr (record { part = new-other i ne ∙ p.part; rest = rest-other i ne ∙ p.rest; owed = p.owed })

    module _ (i j : ℕ) (q : i < length es) (r : j < length es) (e : get_or new.parts i 0 ≡ suc (floor_at bill es i)) (f : get_or new.parts j 0 ≡ floor_at bill es j) where
      j-other : j ≡ k → ⊥
      j-other z = let w : suc (floor_at bill es j) ≡ floor_at bill es j = rw (← z) at (sym new_same) ∙ f in omega (arith, w)

      j-rest : get_or s.rests j 0 ≡ remainder_at bill es j
      j-rest = other-plain j r (sym (new-other j j-other) ∙ f)

      j-place : j < length s.rests
      j-place = omega (arith, r, h.rests-are)

      new-greater : remainder_at bill es j ≤ remainder_at bill es i
      new-greater = same_or i k
          (λ z. rw z (omega (arith, best.most j j-place, j-rest, k-plain.rest)))
          (λ ne. h.greater i j q r (sym (new-other i ne) ∙ e) (sym (new-other j j-other) ∙ f))

      new-lower : remainder_at bill es j ≡ remainder_at bill es i → i < j
      new-lower w = same_or i k
          (λ z. omega (arith, z, j-other, best.first j j-place (j-rest ∙ w ∙ ap (remainder_at bill es) z ∙ sym k-plain.rest)))
          (λ ne. h.lower i j q r (sym (new-other i ne) ∙ e) (sym (new-other j j-other) ∙ f) w)

    going_next : Going m (give_to (greatest s.rests) s)
    unfolding new k give_to
    going_next = record {
      parts_are = length-set s.parts k (suc (get_or s.parts k 0)) ∙ h.parts_are;
      rests-are = length-set s.rests k 0 ∙ h.rests-are;
      enough = omega (arith, h.enough, suc-mul m (total es), total_less s.rests k, k-plain.rest, remainder-below k);
      each = new-each;
      greater = new-greater;
      lower = new-lower;
    }

  going : (m : ℕ) (s : Shares) → Going m s → Going 0 (give m s)
  unfolding give
  going zero s h = h
  going (suc m) s h = going m (give_to (greatest s.rests) s) (going_next m s h)

  done : Going 0 (give (left_over bill es) (shares_first bill es))
  done = going (left_over bill es) (shares_first bill es) going-first

  -- each part is rounded down, or one cent more
  pub part-either : (i : ℕ) → i < length es → (part_at bill es i ≡ floor_at bill es i) ⊎ (part_at bill es i ≡ suc (floor_at bill es i))
  unfolding part_at parts_of
  part-either i q = by (done.each i q)
    where
      by : Plain (give (left_over bill es) (shares_first bill es)) i ⊎ More (give (left_over bill es) (shares_first bill es)) i
          → (get_or (give (left_over bill es) (shares_first bill es)).parts i 0 ≡ floor_at bill es i) ⊎ (get_or (give (left_over bill es) (shares_first bill es)).parts i 0 ≡ suc (floor_at bill es i))
      by (inl p) = inl p.part
      by (inr p) = inr p.part

  -- one that gets a cent has a remainder no smaller than one that does not
  pub more-greater : (i j : ℕ) → i < length es → j < length es → part_at bill es i ≡ suc (floor_at bill es i) → part_at bill es j ≡ floor_at bill es j
      → remainder_at bill es j ≤ remainder_at bill es i
  unfolding part_at parts_of
  more-greater = done.greater

  -- and of equal remainders the lower has it
  pub more-lower : (i j : ℕ) → i < length es → j < length es → part_at bill es i ≡ suc (floor_at bill es i) → part_at bill es j ≡ floor_at bill es j
      → remainder_at bill es j ≡ remainder_at bill es i → i < j
  unfolding part_at parts_of
  more-lower = done.lower

  -- and it has one at all
  pub more-owed : (i : ℕ) → i < length es → part_at bill es i ≡ suc (floor_at bill es i) → 1 ≤ remainder_at bill es i
  unfolding part_at parts_of
  more-owed i q e = by (done.each i q)
    where
      by : Plain (give (left_over bill es) (shares_first bill es)) i ⊎ More (give (left_over bill es) (shares_first bill es)) i → 1 ≤ remainder_at bill es i
      by (inl p) = absurd (omega (arith, e, p.part))
      by (inr p) = p.owed

-- ---- the bill: the least whole number of cents that covers the price
pub bill_covers : (sent price : ℕ) → sent * price ≤ 1000 * bill_for sent price
unfolding bill_for
bill_covers sent price = omega arith

pub bill_least : (sent price : ℕ) → 1000 * bill_for sent price < sent * price + 1000
unfolding bill_for
bill_least sent price = omega arith

pub bill_fits : (sent price : ℕ) → sent ≤ 692160 → price ≤ 1000000 → bill_for sent price < 4294967296
unfolding bill_for
bill_fits sent price s p = omega (arith, mul-le-mul {n₁ = sent} {m₁ = price} {n₂ = 692160} {m₂ = 1000000} s p)
