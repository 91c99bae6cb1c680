-- Laws of numbers in bytes. Those of a list's numbers hold for every width: none looks at how many bytes a number has.
--     number_same, number_past, number_below, word_number             the number at an offset
--     bytes_number, number_bytes                                      a number from its bytes, and its bytes
--     numbers-length, get_or-numbers, numbers-cons, numbers-append      what the numbers of bytes are
--     numbers-part, numbers-drop, numbers_slice                       the numbers of a part
--     holds-length, length_holds                                      a list of k numbers
--     length-stored, numbers-stored, number-stored, take-stored       the bytes after a store
--     length-bytes_of, bytes_of-append, take-bytes_of, drop-bytes_of      a list as bytes
--     numbers_of_bytes, bytes_of-numbers                              there and back
-- Assumes nothing.
use mathlib.Core.Path.{◌≡◌, refl, sym, ap, ap₂, subst, ◌∙◌}
use mathlib.Core.Logic.{◌≢◌}
use mathlib.Core.Bool.{Bool, true, false}
use mathlib.Core.List.{List, [], ◌∷◌, ◌++◌, append_assoc, append-nil}
use Prim.Native.Nat.{ℕ, zero, suc, ◌+◌, ◌-◌, ◌*◌, ◌/◌, ◌%◌, ◌<◌, ◌≤◌, min}
use native.Mathlib.Decide.{dec_le}
use native.Mathlib.Omega.{arith}
use borrow.Author.Tests.{leb-true, leb-false, ltb-true, ltb-false, eqb-true, eqb-false, eq-eqb, le-leb, lt-leb}
use lib.Dec.{leb, ltb, eqb}
use lib.ListN.{length, get_or, take, drop, set, length-append, length-take, length-drop, length-set, take-append-drop, get_or-append, get_or-eq_default}
use Rattle.std.specs.Int.{to_le_bytes}
use mir.Syntax.{w64}
use lib.Seq.{ext_get_or, get_or-take, get_or-drop, get_or-set_same, get_or-set_other, set_out, take_all, take-nil, drop-nil, take-append-add, drop-append-add, get_or-append-add, take_at, drop_at, drop-cons, length-take-le, sets, length-sets, sets-eq}
use mir.Syntax.{w8}
use mir.Val.{Fits}
use Rattle.numbers.specs.Tables.{tab}
use Rattle.numbers.specs.Bytes.{width, limit, number_at, bytes_from, word_at, numbers_of, numbers, bytes_of, holds_count, stored}
use Rattle.numbers.proofs.Tables.{tab-cons, tab-ext, length-tab, get_or-tab}

-- every entry is below p
abbrev pub EachBelow : ℕ → List ℕ → Type 0
EachBelow p xs = (i : ℕ) → i < length xs → get_or xs i 0 < p

-- what a slice's `slice-known` gives of its bytes
pub fits_below : (bs : List ℕ) → ((i : ℕ) → Fits w8 (get_or bs i 0)) → EachBelow 256 bs
fits_below bs h i l = (h i).fits

-- ---- the number of w bytes at an offset
-- above every number of w bytes
unfoldable pub span : ℕ → ℕ
span zero = 1
span (suc w) = 256 * span w

pub limit_is : limit ≡ span width
unfolding span
limit_is = refl

pub number_same : (w : ℕ) (cs bs : List ℕ) (a b : ℕ) → ((k : ℕ) → k < w → get_or cs (a + k) 0 ≡ get_or bs (b + k) 0) → number_at w cs a ≡ number_at w bs b
unfolding number_at
number_same zero cs bs a b h = refl
number_same (suc w) cs bs a b h =
    let ea : a ≡ a + 0 = omega arith in
    let eb : b + 0 ≡ b = omega arith in
    ap₂ (λ (x y : ℕ). x + 256 * y) (ap (λ (k : ℕ). get_or cs k 0) ea ∙ h 0 (omega arith) ∙ ap (λ (k : ℕ). get_or bs k 0) eb)
    (number_same w cs bs (suc a) (suc b)
    (λ k l.
    let fa : suc a + k ≡ a + suc k = omega arith in
    let fb : b + suc k ≡ suc b + k = omega arith in
    ap (λ (j : ℕ). get_or cs j 0) fa ∙ h (suc k) (omega arith) ∙ ap (λ (j : ℕ). get_or bs j 0) fb))

pub number_past : (w : ℕ) (bs : List ℕ) (at : ℕ) → length bs ≤ at → number_at w bs at ≡ 0
unfolding number_at
number_past zero bs at l = refl
number_past (suc w) bs at l = rw (get_or-eq_default bs 0 {n = at} l, number_past w bs (suc at) (omega arith))

pub word_number : (bs : List ℕ) (at : ℕ) → word_at bs at ≡ number_at 2 bs at
unfolding word_at number_at
word_number bs at = let e : at + 1 ≡ suc at = omega arith in rw e (omega arith)

pub word-past : (bs : List ℕ) (at : ℕ) → length bs ≤ at → word_at bs at ≡ 0
word-past bs at l = word_number bs at ∙ number_past 2 bs at l

byte_below : (bs : List ℕ) → EachBelow 256 bs → (k : ℕ) → get_or bs k 0 < 256
byte_below bs h k = by (dec_le (length bs) k)
  where
    by : Dec (length bs ≤ k) → get_or bs k 0 < 256
    by (yes past) = rw (get_or-eq_default bs 0 past) (omega arith)
    by (no within) = h k (omega arith)

pub number_below : (w : ℕ) (bs : List ℕ) (at : ℕ) → EachBelow 256 bs → number_at w bs at < span w
unfolding number_at span
number_below zero bs at h = omega arith
number_below (suc w) bs at h = omega (arith, byte_below bs h at, number_below w bs (suc at) h)

-- ---- a number's bytes
pub length-bytes_from : (w v : ℕ) → length (bytes_from w v) ≡ w
unfolding bytes_from
length-bytes_from zero v = refl
length-bytes_from (suc w) v = ap suc (length-bytes_from w (v / 256))

-- a number's low bytes
pub low_bytes : (w x : ℕ) → w ≤ 4 → take w (to_le_bytes w64 x) ≡ bytes_from w x
unfolding bytes_from
low_bytes zero x l = refl
low_bytes (suc zero) x l = refl
low_bytes (suc (suc zero)) x l = refl
low_bytes (suc (suc (suc zero))) x l = let e : x / 65536 ≡ x / 256 / 256 = omega arith in rw e
low_bytes (suc (suc (suc (suc zero)))) x l = let e : x / 65536 ≡ x / 256 / 256 = omega arith in let f : x / 16777216 ≡ x / 256 / 256 / 256 = omega arith in rw (e, f)
low_bytes (suc (suc (suc (suc (suc w))))) x l = absurd (omega arith)

number_shift : (w x : ℕ) (l : List ℕ) (at : ℕ) → number_at w (x ∷ l) (suc at) ≡ number_at w l at
number_shift w x l at = number_same w (x ∷ l) l (suc at) at (λ k m. let e : suc at + k ≡ suc (at + k) = omega arith in ap (λ (j : ℕ). get_or (x ∷ l) j 0) e)

pub bytes_number : (w v : ℕ) → v < span w → number_at w (bytes_from w v) 0 ≡ v
unfolding number_at bytes_from span
bytes_number zero v l = omega arith
bytes_number (suc w) v l =
    let q : number_at w (v % 256 ∷ bytes_from w (v / 256)) 1 ≡ v / 256 = number_shift w (v % 256) (bytes_from w (v / 256)) 0 ∙ bytes_number w (v / 256) (omega arith) in
    omega arith

pub number_bytes : (w : ℕ) (bs : List ℕ) (at : ℕ) → at + w ≤ length bs → EachBelow 256 bs → bytes_from w (number_at w bs at) ≡ take w (drop at bs)
unfolding number_at bytes_from
number_bytes zero bs at l h = refl
number_bytes (suc w) bs at l h =
    let lt : get_or bs at 0 < 256 = h at (omega arith) in
    let low : (get_or bs at 0 + 256 * number_at w bs (suc at)) % 256 ≡ get_or bs at 0 = omega arith in
    let high : (get_or bs at 0 + 256 * number_at w bs (suc at)) / 256 ≡ number_at w bs (suc at) = omega arith in
    rw (low, high, drop-cons bs at 0 (omega arith)) (ap (λ (l : List ℕ). get_or bs at 0 ∷ l) (number_bytes w bs (suc at) (omega arith) h))

-- ---- the numbers of bytes
pub numbers-length : (bs : List ℕ) → length (numbers bs) ≡ length bs / width
unfolding numbers numbers_of
numbers-length bs = length-tab (λ i. number_at width bs (width * i)) (length bs / width)

pub get_or-numbers : (bs : List ℕ) (i : ℕ) → i < length bs / width → get_or (numbers bs) i 0 ≡ number_at width bs (width * i)
unfolding numbers numbers_of
get_or-numbers bs i l = get_or-tab (λ k. number_at width bs (width * k)) (length bs / width) i 0 l

pub get_or-numbers-past : (bs : List ℕ) (i : ℕ) → length bs / width ≤ i → get_or (numbers bs) i 0 ≡ 0
get_or-numbers-past bs i l = get_or-eq_default (numbers bs) 0 (omega (arith, numbers-length bs))

pub numbers-nil : numbers [] ≡ []
unfolding numbers numbers_of tab
numbers-nil = refl

pub numbers-cons : (cs bs : List ℕ) → length cs ≡ width → numbers (cs ++ bs) ≡ number_at width cs 0 ∷ numbers bs
unfolding numbers numbers_of
numbers-cons cs bs e =
    let n : length (cs ++ bs) / width ≡ suc (length bs / width) = omega (arith, length-append cs bs) in
    ap (tab (λ i. number_at width (cs ++ bs) (width * i))) n
    ∙ tab-cons (λ i. number_at width (cs ++ bs) (width * i)) (length bs / width)
    ∙ ap₂ (λ (x : ℕ) (l : List ℕ). x ∷ l) first
    (tab-ext (λ k. number_at width (cs ++ bs) (width * suc k)) (λ k. number_at width bs (width * k)) (length bs / width) later)
  where
    first : number_at width (cs ++ bs) (width * 0) ≡ number_at width cs 0
    first = number_same width (cs ++ bs) cs (width * 0) 0 (λ k l. get_or-append cs bs 0 (0 + k) (omega arith))

    later : (k : ℕ) → k < length bs / width → number_at width (cs ++ bs) (width * suc k) ≡ number_at width bs (width * k)
    later k l =
        number_same width (cs ++ bs) bs (width * suc k) (width * k)
        (λ j m. let q : width * suc k + j ≡ length cs + (width * k + j) = omega arith in ap (λ (n : ℕ). get_or (cs ++ bs) n 0) q ∙ get_or-append-add cs bs (width * k + j) 0)

-- ---- a list of k numbers
pub holds-length : (k : ℕ) (bs : List ℕ) → holds_count k bs ≡ true → length bs ≡ width * k
unfolding holds_count
holds-length k bs h = eqb-true (length bs) (width * k) h

pub length_holds : (k : ℕ) (bs : List ℕ) → length bs ≡ width * k → holds_count k bs ≡ true
unfolding holds_count
length_holds k bs e = eq-eqb (length bs) (width * k) e

pub holds-numbers : (k : ℕ) (bs : List ℕ) → holds_count k bs ≡ true → length (numbers bs) ≡ k
holds-numbers k bs h = omega (arith, numbers-length bs, holds-length k bs h)

-- ---- numbers of a part of the bytes
pub number_part_lem : (bs : List ℕ) (a k j : ℕ) → j < k → number_at width (take (width * k) (drop (width * a) bs)) (width * j) ≡ number_at width bs (width * (a + j))
number_part_lem bs a k j l =
    number_same width (take (width * k) (drop (width * a) bs)) bs (width * j) (width * (a + j))
    (λ r m.
    let e : width * a + (width * j + r) ≡ width * (a + j) + r = omega arith in
    get_or-take (width * k) (drop (width * a) bs) (width * j + r) 0 (omega arith) ∙ get_or-drop (width * a) bs (width * j + r) 0 ∙ ap (λ (n : ℕ). get_or bs n 0) e)

module _ (bs : List ℕ) (a k : ℕ) where
  part-long : length (take (width * k) (drop (width * a) bs)) ≡ min (width * k) (length bs - width * a)
  part-long = rw (length-take, length-drop)

  numbers-long : length (take k (drop a (numbers bs))) ≡ min k (length bs / width - a)
  numbers-long = rw (length-take, length-drop, numbers-length)

  pub numbers-part : numbers (take (width * k) (drop (width * a) bs)) ≡ take k (drop a (numbers bs))
  numbers-part =
      ext_get_or 0 (numbers (take (width * k) (drop (width * a) bs))) (take k (drop a (numbers bs)))
      (omega (arith, numbers-length (take (width * k) (drop (width * a) bs)), part-long, numbers-long))
      (λ j l.
      let m : j < length (take (width * k) (drop (width * a) bs)) / width = omega (arith, numbers-length (take (width * k) (drop (width * a) bs))) in
      let n : j < k = omega (arith, part-long) in
      let o : a + j < length bs / width = omega (arith, part-long) in
      get_or-numbers (take (width * k) (drop (width * a) bs)) j m
      ∙ number_part_lem bs a k j n
      ∙ sym (get_or-take k (drop a (numbers bs)) j 0 n ∙ get_or-drop a (numbers bs) j 0 ∙ get_or-numbers bs (a + j) o))

pub numbers-drop : (bs : List ℕ) (a : ℕ) → numbers (drop (width * a) bs) ≡ drop a (numbers bs)
numbers-drop bs a =
    let l : length (drop (width * a) bs) ≤ width * length bs = rw length-drop (omega arith) in
    let m : length (drop a (numbers bs)) ≤ length bs = rw (length-drop, numbers-length) (omega arith) in
    ap numbers (sym (take_all (width * length bs) (drop (width * a) bs) l)) ∙ numbers-part bs a (length bs) ∙ take_all (length bs) (drop a (numbers bs)) m

-- the same for a part from a to e, in the code's terms
pub numbers_slice : (bs : List ℕ) (a e x y : ℕ) → a ≡ width * x → e ≡ width * y → numbers (take (e - a) (drop a bs)) ≡ take (y - x) (drop x (numbers bs))
numbers_slice bs a e x y p q =
    let r : e - a ≡ width * (y - x) = omega arith in
    rw (r, p) (numbers-part bs x (y - x))

pub numbers-append : (k : ℕ) (xs ys : List ℕ) → length xs ≡ width * k → numbers (xs ++ ys) ≡ numbers xs ++ numbers ys
numbers-append zero [] ys e = sym (ap (λ (l : List ℕ). l ++ numbers ys) numbers-nil)
numbers-append zero (x ∷ xs) ys e = absurd (omega arith)
numbers-append (suc k) xs ys e =
    let cs : List ℕ = take width xs in
    let bs : List ℕ = drop width xs in
    let w : length (take width xs) ≡ width = length-take-le width xs (omega arith) in
    let both : take width xs ++ drop width xs ≡ xs = take-append-drop width xs in
    ap (λ (l : List ℕ). numbers (l ++ ys)) (sym both) ∙ ap numbers (append_assoc cs bs ys) ∙ numbers-cons cs (bs ++ ys) w
    ∙ ap (λ (l : List ℕ). number_at width cs 0 ∷ l) (numbers-append k bs ys (omega (arith, length-drop width xs)))
    ∙ ap (λ (l : List ℕ). l ++ numbers ys) (sym (numbers-cons cs bs w) ∙ ap numbers both)

-- ---- a store
sets_before : (vs l : List ℕ) (at j : ℕ) → j < at → get_or (sets l at vs) j 0 ≡ get_or l j 0
sets_before [] l at j m = refl
sets_before (v ∷ vs) l at j m = sets_before vs (set l at v) (suc at) j (omega arith) ∙ get_or-set_other l at j v 0 (λ e. omega arith)

sets-after : (vs l : List ℕ) (at j : ℕ) → at + length vs ≤ j → get_or (sets l at vs) j 0 ≡ get_or l j 0
sets-after [] l at j m = refl
sets-after (v ∷ vs) l at j m = sets-after vs (set l at v) (suc at) j (omega arith) ∙ get_or-set_other l at j v 0 (λ e. omega arith)

sets_in : (vs l : List ℕ) (at k : ℕ) → at + length vs ≤ length l → k < length vs → get_or (sets l at vs) (at + k) 0 ≡ get_or vs k 0
sets_in [] l at k m n = absurd (omega arith)
sets_in (v ∷ vs) l at zero m n =
    let e : at + 0 ≡ at = omega arith in
    ap (λ (j : ℕ). get_or (sets (set l at v) (suc at) vs) j 0) e ∙ sets_before vs (set l at v) (suc at) at (omega arith) ∙ get_or-set_same l at v 0 (omega arith)
sets_in (v ∷ vs) l at (suc k) m n =
    let e : at + suc k ≡ suc at + k = omega arith in
    ap (λ (j : ℕ). get_or (sets (set l at v) (suc at) vs) j 0) e ∙ sets_in vs (set l at v) (suc at) k (omega (arith, length-set l at v)) (omega arith)

pub stored_in : (bs : List ℕ) (i v : ℕ) → width * i + width ≤ length bs → sets bs (width * i) (bytes_from width v) ≡ stored bs i v
unfolding stored
stored_in bs i v l = rw (le-leb (width * i + width) (length bs) l)

pub stored_past : (bs : List ℕ) (i v : ℕ) → length bs < width * i + width → bs ≡ stored bs i v
unfolding stored
stored_past bs i v l = rw (lt-leb (width * i + width) (length bs) l)

-- a store is within the bytes or past them
store_cases : (P : List ℕ → Type 0) (bs : List ℕ) (i v : ℕ) → (width * i + width ≤ length bs → P (sets bs (width * i) (bytes_from width v)))
    → (length bs < width * i + width → P bs) → P (stored bs i v)
store_cases P bs i v inside past = by (leb (width * i + width) (length bs)) refl
  where
    by : (t : Bool) → leb (width * i + width) (length bs) ≡ t → P (stored bs i v)
    by true e = let l : width * i + width ≤ length bs = leb-true (width * i + width) (length bs) e in subst P (stored_in bs i v l) (inside l)
    by false e = let l : length bs < width * i + width = leb-false (width * i + width) (length bs) e in subst P (stored_past bs i v l) (past l)

pub length-stored : (bs : List ℕ) (i v : ℕ) → length (stored bs i v) ≡ length bs
length-stored bs i v = store_cases (λ xs. length xs ≡ length bs) bs i v (λ l. length-sets bs (width * i) (bytes_from width v)) (λ l. refl)

module _ (bs : List ℕ) (i v : ℕ) where
  new : List ℕ
  new = bytes_from width v

  new-long : length (bytes_from width v) ≡ width
  new-long = length-bytes_from width v

  pub number-stored : width * i + width ≤ length bs → v < limit → number_at width (stored bs i v) (width * i) ≡ v
  number-stored l m =
      ap (λ (xs : List ℕ). number_at width xs (width * i)) (sym (stored_in bs i v l))
      ∙ number_same width (sets bs (width * i) (bytes_from width v)) (bytes_from width v) (width * i) 0
      (λ k q. sets_in (bytes_from width v) bs (width * i) k (omega (arith, new-long)) (omega (arith, new-long)) ∙ (let e : k ≡ 0 + k = omega arith in ap (λ (j : ℕ). get_or (bytes_from width v) j 0) e))
      ∙ bytes_number width v (omega (arith, limit_is))

  pub number-stored-other : (j : ℕ) → j ≢ i → number_at width (stored bs i v) (width * j) ≡ number_at width bs (width * j)
  number-stored-other j ne =
      store_cases (λ xs. number_at width xs (width * j) ≡ number_at width bs (width * j)) bs i v
      (λ l. number_same width (sets bs (width * i) (bytes_from width v)) bs (width * j) (width * j) (λ k m. by (dec_le (suc j) i) k m))
      (λ l. refl)
    where
      by : Dec (suc j ≤ i) → (k : ℕ) → k < width → get_or (sets bs (width * i) (bytes_from width v)) (width * j + k) 0 ≡ get_or bs (width * j + k) 0
      by (yes less) k m = sets_before (bytes_from width v) bs (width * i) (width * j + k) (omega arith)
      by (no more) k m =
          let lt : i < j = omega arith in
          sets-after (bytes_from width v) bs (width * i) (width * j + k) (omega (arith, new-long))

  entry-stored : v < limit → i < length bs / width → (j : ℕ) → j < length bs / width → (t : Bool) → eqb j i ≡ t → get_or (numbers (stored bs i v)) j 0 ≡ get_or (set (numbers bs) i v) j 0
  entry-stored m n j l true e =
      let q : j ≡ i = eqb-true j i e in
      rw (q, get_or-numbers (stored bs i v) i (rw length-stored n), number-stored (omega arith) m) (sym (get_or-set_same (numbers bs) i v 0 (rw numbers-length n)))
  entry-stored m n j l false e =
      let q : j ≢ i = eqb-false j i e in
      rw (get_or-numbers (stored bs i v) j (rw length-stored l), number-stored-other j q, get_or-set_other (numbers bs) i j v 0 q) (sym (get_or-numbers bs j l))

  inside-stored : v < limit → i < length bs / width → numbers (stored bs i v) ≡ set (numbers bs) i v
  inside-stored m n =
      ext_get_or 0 (numbers (stored bs i v)) (set (numbers bs) i v) (rw (numbers-length, length-stored, length-set, numbers-length))
      (λ j l. entry-stored m n j (rw (numbers-length, length-stored) at l) (eqb j i) refl)

  by_place : v < limit → (t : Bool) → ltb i (length bs / width) ≡ t → numbers (stored bs i v) ≡ set (numbers bs) i v
  by_place m true e = inside-stored m (ltb-true i (length bs / width) e)
  by_place m false e =
      let n : length bs / width ≤ i = ltb-false i (length bs / width) e in
      rw (← stored_past bs i v (omega arith)) (sym (set_out (numbers bs) i v (rw numbers-length n)))

  -- the numbers after a store; past the end nothing changes
  pub numbers-stored : v < limit → numbers (stored bs i v) ≡ set (numbers bs) i v
  numbers-stored m = by_place m (ltb i (length bs / width)) refl

  -- the bytes up to a store's end, and those after it
  stored-parts : width * i + width ≤ length bs → stored bs i v ≡ (take (width * i) bs ++ bytes_from width v) ++ drop (width * (i + 1)) bs
  stored-parts l =
      let e : width * i + length (bytes_from width v) ≡ width * (i + 1) = omega (arith, new-long) in
      sym (stored_in bs i v l) ∙ sets-eq (bytes_from width v) bs (width * i) (omega (arith, new-long))
      ∙ ap (λ (n : ℕ). (take (width * i) bs ++ bytes_from width v) ++ drop n bs) e

  front_long : width * i + width ≤ length bs → length (take (width * i) bs ++ bytes_from width v) ≡ width * (i + 1)
  front_long l = omega (arith, length-append (take (width * i) bs) (bytes_from width v), length-take-le (width * i) bs (omega arith), new-long)

  pub take-stored : width * i + width ≤ length bs → take (width * (i + 1)) (stored bs i v) ≡ take (width * i) bs ++ bytes_of (v ∷ [])
  unfolding bytes_of
  take-stored l =
      ap (take (width * (i + 1))) (stored-parts l) ∙ take_at (take (width * i) bs ++ bytes_from width v) (drop (width * (i + 1)) bs) (width * (i + 1)) (front_long l)
      ∙ ap (λ (b : List ℕ). take (width * i) bs ++ b) (sym (append-nil (bytes_from width v)))

  pub drop-stored : drop (width * (i + 1)) (stored bs i v) ≡ drop (width * (i + 1)) bs
  drop-stored = by (dec_le (width * i + width) (length bs))
    where
      by : Dec (width * i + width ≤ length bs) → drop (width * (i + 1)) (stored bs i v) ≡ drop (width * (i + 1)) bs
      by (yes l) = ap (drop (width * (i + 1))) (stored-parts l) ∙ drop_at (take (width * i) bs ++ bytes_from width v) (drop (width * (i + 1)) bs) (width * (i + 1)) (front_long l)
      by (no l) = ap (drop (width * (i + 1))) (sym (stored_past bs i v (omega arith)))

-- ---- there and back
pub length-bytes_of : (xs : List ℕ) → length (bytes_of xs) ≡ width * length xs
unfolding bytes_of
length-bytes_of [] = refl
length-bytes_of (x ∷ xs) = omega (arith, length-append (bytes_from width x) (bytes_of xs), length-bytes_from width x, length-bytes_of xs)

pub bytes_of-nil : bytes_of [] ≡ []
unfolding bytes_of
bytes_of-nil = refl

pub bytes_of-append : (xs ys : List ℕ) → bytes_of (xs ++ ys) ≡ bytes_of xs ++ bytes_of ys
unfolding bytes_of
bytes_of-append [] ys = refl
bytes_of-append (x ∷ xs) ys = ap (λ (l : List ℕ). bytes_from width x ++ l) (bytes_of-append xs ys) ∙ sym (append_assoc (bytes_from width x) (bytes_of xs) (bytes_of ys))

pub take-bytes_of : (k : ℕ) (xs : List ℕ) → take (width * k) (bytes_of xs) ≡ bytes_of (take k xs)
unfolding bytes_of
take-bytes_of zero xs = refl
take-bytes_of (suc k) [] = take-nil (width * suc k)
take-bytes_of (suc k) (x ∷ xs) =
    let e : width * suc k ≡ length (bytes_from width x) + width * k = omega (arith, length-bytes_from width x) in
    ap (λ (n : ℕ). take n (bytes_from width x ++ bytes_of xs)) e ∙ take-append-add (bytes_from width x) (bytes_of xs) (width * k)
    ∙ ap (λ (l : List ℕ). bytes_from width x ++ l) (take-bytes_of k xs)

pub drop-bytes_of : (k : ℕ) (xs : List ℕ) → drop (width * k) (bytes_of xs) ≡ bytes_of (drop k xs)
unfolding bytes_of
drop-bytes_of zero xs = refl
drop-bytes_of (suc k) [] = drop-nil (width * suc k)
drop-bytes_of (suc k) (x ∷ xs) =
    let e : width * suc k ≡ length (bytes_from width x) + width * k = omega (arith, length-bytes_from width x) in
    ap (λ (n : ℕ). drop n (bytes_from width x ++ bytes_of xs)) e ∙ drop-append-add (bytes_from width x) (bytes_of xs) (width * k) ∙ drop-bytes_of k xs

pub numbers_below : (bs : List ℕ) → EachBelow 256 bs → EachBelow limit (numbers bs)
numbers_below bs h i l =
    let m : i < length bs / width = rw numbers-length at l in
    rw (get_or-numbers bs i m) (omega (arith, number_below width bs (width * i) h, limit_is))

pub numbers_of_bytes : (xs : List ℕ) → EachBelow limit xs → numbers (bytes_of xs) ≡ xs
unfolding bytes_of
numbers_of_bytes [] h = numbers-nil
numbers_of_bytes (x ∷ xs) h =
    numbers-cons (bytes_from width x) (bytes_of xs) (length-bytes_from width x)
    ∙ ap₂ (λ (y : ℕ) (l : List ℕ). y ∷ l) (bytes_number width x (omega (arith, h 0 (omega arith), limit_is))) (numbers_of_bytes xs (λ i l. h (suc i) (omega arith)))

pub bytes_of-numbers : (k : ℕ) (bs : List ℕ) → length bs ≡ width * k → EachBelow 256 bs → bytes_of (numbers bs) ≡ bs
unfolding bytes_of
bytes_of-numbers zero [] e h = ap bytes_of numbers-nil
bytes_of-numbers zero (b ∷ bs) e h = absurd (omega arith)
bytes_of-numbers (suc k) bs e h =
    let cs : List ℕ = take width bs in
    let rest : List ℕ = drop width bs in
    let w : length (take width bs) ≡ width = length-take-le width bs (omega arith) in
    let both : take width bs ++ drop width bs ≡ bs = take-append-drop width bs in
    let small : EachBelow 256 (take width bs) = λ i l. rw (get_or-take width bs i 0 (omega arith)) (h i (omega arith)) in
    let tiny : EachBelow 256 (drop width bs) = λ i l. rw (get_or-drop width bs i 0) (h (width + i) (omega (arith, length-drop width bs))) in
    ap (λ (l : List ℕ). bytes_of (numbers l)) (sym both) ∙ ap bytes_of (numbers-cons cs rest w)
    ∙ ap₂ (λ (x y : List ℕ). x ++ y) (number_bytes width cs 0 (omega arith) small ∙ take_all width cs (omega arith)) (bytes_of-numbers k rest (omega (arith, length-drop width bs)) tiny)
    ∙ both
