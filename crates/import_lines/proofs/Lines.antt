-- A text read from a place on is the text as lines of fields.
--     line_fields, later_lines       the fields left of a line, and the lines after it
--     word, past                   the bytes before the next blank or line feed, and the rest
--     lines-start, blanks-stand    what the code skips
--     number-field                 the number at a place is the field's
-- Assumes nothing.
use Rattle.std.proofs.Common.{Option, Some, None}
use Prim.Native.Nat.{ℕ, suc, ◌+◌, ◌-◌, ◌*◌, ◌<◌, ◌≤◌}
use mathlib.Core.Path.{◌≡◌, refl, sym, ap, ap₂, ◌∙◌}
use mathlib.Core.Bool.{Bool, true, false, cond, ◌&&◌}
use mathlib.Core.List.{List, [], ◌∷◌, map}
use native.Mathlib.Omega.{arith}
use borrow.Author.Tests.{ne_eqb, eqb-true, le-leb, lt-leb, leb-true, leb-false, lt-ltb, ltb-true, ltb-false}
use lib.Dec.{eqb, leb, ltb}
use lib.ListN.{length, get_or, drop, length-drop}
use lib.Seq.{get_or-drop, drop-drop}
use Rattle.import_lines.specs.Lines.{onto_first, parted, filled, fields_of, lines_of, every, value_after, decimal_of, unpadded, is_number}
use Rattle.numbers.proofs.Ways.{byte-none}
use Rattle.text_decimals.specs.Reading.{is_digit, blanks_from, blanks_end, digits_from, digits_at, zero_at, decimal_at}
use Rattle.import_lines.specs.Places.{is_gap, line_from, line_over, field_over, whole_field, number_at}

-- ---- the parts of a text
first : ℕ → List ℕ → List ℕ
first b u = get_or (parted b u) 0 []

others : ℕ → List ℕ → List (List ℕ)
others b u = drop 1 (parted b u)

module _ (b : ℕ) where
  onto-is : (x : ℕ) (l : List (List ℕ)) → onto_first x l ≡ get_or (onto_first x l) 0 [] ∷ drop 1 (onto_first x l)
  unfolding onto_first
  onto-is x [] = refl
  onto-is x (p ∷ ps) = refl

  parted-is : (u : List ℕ) → parted b u ≡ first b u ∷ others b u
  unfolding first others parted
  parted-is [] = refl
  parted-is (x ∷ u) = by (eqb x b)
    where
      by : (t : Bool) → cond t ([] ∷ parted b u) (onto_first x (parted b u))
          ≡ get_or (cond t ([] ∷ parted b u) (onto_first x (parted b u))) 0 [] ∷ drop 1 (cond t ([] ∷ parted b u) (onto_first x (parted b u)))
      by true = refl
      by false = onto-is x (parted b u)

  first_at : (x : ℕ) (u : List ℕ) → eqb x b ≡ true → first b (x ∷ u) ≡ []
  unfolding first parted
  first_at x u e = rw e

  others_at : (x : ℕ) (u : List ℕ) → eqb x b ≡ true → others b (x ∷ u) ≡ parted b u
  unfolding others parted
  others_at x u e = rw e

  first_past : (x : ℕ) (u : List ℕ) → eqb x b ≡ false → first b (x ∷ u) ≡ x ∷ first b u
  unfolding parted onto_first
  first_past x u e = unfold first in rw (e, parted-is u)

  others-past : (x : ℕ) (u : List ℕ) → eqb x b ≡ false → others b (x ∷ u) ≡ others b u
  unfolding parted onto_first
  others-past x u e = unfold others in rw (e, parted-is u)

-- one list more in front, unless it is empty
unfoldable pub added : {A : Type 0} → List A → List (List A) → List (List A)
added [] ls = ls
added (x ∷ xs) ls = (x ∷ xs) ∷ ls

filled-cons : {A : Type 0} (l : List A) (ls : List (List A)) → filled (l ∷ ls) ≡ added l (filled ls)
unfolding filled added
filled-cons [] ls = refl
filled-cons (x ∷ xs) ls = refl

-- ---- what is left of a line, and the lines after it
pub line_fields : List ℕ → List (List ℕ)
line_fields u = fields_of (first 10 u)

pub later_lines : List ℕ → List (List (List ℕ))
later_lines u = filled (map fields_of (others 10 u))

lines_are : (u : List ℕ) → lines_of u ≡ added (line_fields u) (later_lines u)
unfolding lines_of line_fields later_lines
lines_are u = rw (parted-is 10 u) (filled-cons (fields_of (first 10 u)) (map fields_of (others 10 u)))

-- nothing left of the line
pub lines_later : (u : List ℕ) → line_fields u ≡ [] → lines_of u ≡ later_lines u
unfolding added
lines_later u e = lines_are u ∙ rw e

-- the next line is the one that stands here
pub lines_here : (u : List ℕ) (f : List ℕ) (fs : List (List ℕ)) → line_fields u ≡ f ∷ fs → lines_of u ≡ (f ∷ fs) ∷ later_lines u
unfolding added
lines_here u f fs e = lines_are u ∙ rw e

pub fields-nil : line_fields [] ≡ []
unfolding line_fields fields_of first parted filled
fields-nil = refl

pub later-nil : later_lines [] ≡ []
unfolding later_lines others parted filled
later-nil = refl

module _ (x : ℕ) (u : List ℕ) where
  -- a blank
  pub fields-blank : eqb x 32 ≡ true → line_fields (x ∷ u) ≡ line_fields u
  unfolding line_fields fields_of parted filled
  fields-blank e = rw (first_past 10 x u (other-ten x e), e)
    where
      other-ten : (x : ℕ) → eqb x 32 ≡ true → eqb x 10 ≡ false
      other-ten x e = ne_eqb x 10 (λ f. omega (arith, eqb-true x 32 e))

  pub later-blank : eqb x 32 ≡ true → later_lines (x ∷ u) ≡ later_lines u
  unfolding later_lines
  later-blank e = rw (others-past 10 x u (ne_eqb x 10 (λ f. omega (arith, eqb-true x 32 e))))

  -- a line feed
  pub fields_feed : eqb x 10 ≡ true → line_fields (x ∷ u) ≡ []
  unfolding line_fields fields_of parted filled
  fields_feed e = rw (first_at 10 x u e)

  pub later_feed : eqb x 10 ≡ true → later_lines (x ∷ u) ≡ lines_of u
  unfolding later_lines lines_of
  later_feed e = rw (others_at 10 x u e)

-- ---- the next field
unfoldable pub word : List ℕ → List ℕ
word [] = []
word (x ∷ u) = cond (is_gap x) [] (x ∷ word u)

unfoldable pub past : List ℕ → List ℕ
past [] = []
past (x ∷ u) = cond (is_gap x) (x ∷ u) (past u)

record Split (u : List ℕ) : Type 0 where
  front : first 32 (first 10 u) ≡ word u
  fields : filled (others 32 (first 10 u)) ≡ line_fields (past u)
  later : later_lines u ≡ later_lines (past u)

field_split : (u : List ℕ) → Split u
unfolding word past
field_split [] = record {
  front = unfold first in unfold parted in refl;
  fields = unfold first in unfold others in unfold parted in unfold filled in sym fields-nil;
  later = refl;
}
field_split (x ∷ u) = by (field_split u) (eqb x 32) (eqb x 10) refl refl
  where
    by : Split u → (a b : Bool) → eqb x 32 ≡ a → eqb x 10 ≡ b → Split (x ∷ u)
    by rest true b e f =
        let ten : eqb x 10 ≡ false = ne_eqb x 10 (λ g. omega (arith, eqb-true x 32 e)) in
        let gap : is_gap x ≡ true = unfold is_gap in rw e in
        record {
          front = rw (first_past 10 x u ten, first_at 32 x (first 10 u) e, gap);
          fields = rw (first_past 10 x u ten, others_at 32 x (first 10 u) e, gap, fields-blank x u e) (unfold line_fields in unfold fields_of in refl);
          later = rw gap;
        }
    by rest false true e f =
        let gap : is_gap x ≡ true = unfold is_gap in rw (e, f) in
        record {
          front = rw (first_at 10 x u f, gap) (unfold first in unfold parted in refl);
          fields = rw (first_at 10 x u f, gap, fields_feed x u f) (unfold others in unfold parted in unfold filled in refl);
          later = rw gap;
        }
    by rest false false e f =
        let gap : is_gap x ≡ false = unfold is_gap in rw (e, f) in
        record {
          front = rw (first_past 10 x u f, first_past 32 x (first 10 u) e, gap, rest.front);
          fields = rw (first_past 10 x u f, others-past 32 x (first 10 u) e, gap) rest.fields;
          later = rw gap (unfold later_lines in rw (others-past 10 x u f) rest.later);
        }

pub fields_are : (u : List ℕ) → line_fields u ≡ added (word u) (line_fields (past u))
unfolding fields_of
fields_are u =
    unfold line_fields in
    (rw (parted-is 32 (first 10 u)) (filled-cons (first 32 (first 10 u)) (others 32 (first 10 u)))
    ∙ ap₂ added (field_split u).front (field_split u).fields)

pub later-past : (u : List ℕ) → later_lines u ≡ later_lines (past u)
later-past u = (field_split u).later

-- ---- at a place
module _ (s : List ℕ) (at : ℕ) where
  pub at_end : drop at s ≡ [] → length s ≤ at
  at_end e = omega (arith, ap length e, length-drop at s)

  module _ (x : ℕ) (u : List ℕ) (e : drop at s ≡ x ∷ u) where
    pub at_byte : get_or s at 0 ≡ x
    at_byte = let z : at + 0 ≡ at = omega arith in ap (λ (k : ℕ). get_or s k 0) (sym z) ∙ sym (get_or-drop at s 0 0) ∙ ap (λ (l : List ℕ). get_or l 0 0) e

    pub at_rest : drop (suc at) s ≡ u
    at_rest = let z : at + 1 ≡ suc at = omega arith in ap (λ (k : ℕ). drop k s) (sym z) ∙ sym (drop-drop 1 at s) ∙ ap (drop 1) e

    at_left : length s - at ≡ suc (length s - suc at)
    at_left = omega (arith, ap length e, length-drop at s)

    pub at-inside : at < length s
    at-inside = omega (arith, ap length e, length-drop at s)

byte_end : (s : List ℕ) (at : ℕ) → length s ≤ at → get_or s at 0 ≡ 0
byte_end s at l = sym (byte-none s at l)

-- ---- blanks
pub record Same (s : List ℕ) (at e : ℕ) : Type 0 where
  pub clear : eqb (get_or s e 0) 32 ≡ false
  pub fields : line_fields (drop e s) ≡ line_fields (drop at s)
  pub later : later_lines (drop e s) ≡ later_lines (drop at s)

pub blanks_same : (s u : List ℕ) (at : ℕ) → drop at s ≡ u → Same s at (blanks_from (length s - at) s at)
unfolding blanks_from
blanks_same s [] at e =
    let z : length s - at ≡ 0 = omega (arith, at_end s at e) in
    rw z (record { clear = rw (byte_end s at (at_end s at e)); fields = refl; later = refl })
blanks_same s (x ∷ u) at e =
    rw (at_left s at x u e, at_byte s at x u e) (by (eqb x 32) refl (blanks_same s u (suc at) (at_rest s at x u e)))
  where
    by : (t : Bool) → eqb x 32 ≡ t → Same s (suc at) (blanks_from (length s - suc at) s (suc at))
        → Same s at (cond t (blanks_from (length s - suc at) s (suc at)) at)
    by true q h = record {
      clear = h.clear;
      fields = h.fields ∙ ap line_fields (at_rest s at x u e) ∙ sym (ap line_fields e ∙ fields-blank x u q);
      later = h.later ∙ ap later_lines (at_rest s at x u e) ∙ sym (ap later_lines e ∙ later-blank x u q);
    }
    by false q h = record { clear = rw (at_byte s at x u e) q; fields = refl; later = refl }

-- ---- the start of a line
pub record Start (s : List ℕ) (at e : ℕ) : Type 0 where
  pub clear : is_gap (get_or s e 0) ≡ false
  pub lines : lines_of (drop e s) ≡ lines_of (drop at s)

lines_gap : (x : ℕ) (u : List ℕ) → is_gap x ≡ true → lines_of (x ∷ u) ≡ lines_of u
lines_gap x u g = by (eqb x 32) (eqb x 10) refl refl
  where
    by : (a b : Bool) → eqb x 32 ≡ a → eqb x 10 ≡ b → lines_of (x ∷ u) ≡ lines_of u
    by true b e f = lines_are (x ∷ u) ∙ ap₂ added (fields-blank x u e) (later-blank x u e) ∙ sym (lines_are u)
    by false true e f = lines_later (x ∷ u) (fields_feed x u f) ∙ later_feed x u f
    by false false e f = let z : ◌≡◌ {A = Bool} false true = unfold is_gap in (sym (rw (e, f)) ∙ g) in absurd (let y : ◌≡◌ {A = ℕ} 0 1 = cc in omega arith)

pub start_same : (s u : List ℕ) (at : ℕ) → drop at s ≡ u → Start s at (line_from (length s - at) s at)
unfolding line_from
start_same s [] at e =
    let z : length s - at ≡ 0 = omega (arith, at_end s at e) in
    rw z (record { clear = rw (byte_end s at (at_end s at e)) (unfold is_gap in refl); lines = refl })
start_same s (x ∷ u) at e =
    rw (at_left s at x u e, at_byte s at x u e) (by (is_gap x) refl (start_same s u (suc at) (at_rest s at x u e)))
  where
    by : (t : Bool) → is_gap x ≡ t → Start s (suc at) (line_from (length s - suc at) s (suc at))
        → Start s at (cond t (line_from (length s - suc at) s (suc at)) at)
    by true q h = record {
      clear = h.clear;
      lines = h.lines ∙ ap lines_of (at_rest s at x u e) ∙ sym (ap lines_of e ∙ lines_gap x u q);
    }
    by false q h = record { clear = rw (at_byte s at x u e) q; lines = refl }

-- ---- numbers
pub clash : {A : Type 0} → ◌≡◌ {A = Bool} true false → A
clash e = absurd (let z : ◌≡◌ {A = ℕ} 0 1 = cc in omega arith)

-- a digit is no gap, and a gap no digit
gap_low : (x : ℕ) → is_gap x ≡ true → x < 48
gap_low x g = by (eqb x 32) (eqb x 10) refl refl
  where
    by : (a b : Bool) → eqb x 32 ≡ a → eqb x 10 ≡ b → x < 48
    by true b e f = omega (arith, eqb-true x 32 e)
    by false true e f = omega (arith, eqb-true x 10 f)
    by false false e f = clash (sym g ∙ (unfold is_gap in rw (e, f)))

pub gap_digit : (x : ℕ) → is_gap x ≡ true → is_digit x ≡ false
unfolding is_digit
gap_digit x g = rw (lt-leb 48 x (gap_low x g))

-- where a field is over
over_gap : (s : List ℕ) (at x : ℕ) (u : List ℕ) → drop at s ≡ x ∷ u → field_over s at ≡ is_gap x
unfolding field_over line_over is_gap
over_gap s at x u e = rw (at_byte s at x u e, lt-leb (length s) at (at-inside s at x u e))

over_end : (s : List ℕ) (at : ℕ) → drop at s ≡ [] → field_over s at ≡ true
unfolding field_over line_over
over_end s at e = rw (byte_end s at (at_end s at e), le-leb (length s) at (at_end s at e))

value_grows : (v : ℕ) (ds : List ℕ) → v ≤ value_after v ds
unfolding value_after
value_grows v [] = omega arith
value_grows v (d ∷ ds) = omega (arith, value_grows (10 * v + (d - 48)) ds)

-- what a field's number is, v being the value of the digits before it
read : List ℕ → ℕ → ℕ → List ℕ → Option (ℕ × ℕ)
read s at v f = cond (every is_digit f && leb (value_after v f) 65535) (Some (value_after v f, blanks_end s (at + length f))) None

read_none : (s : List ℕ) (at v : ℕ) → v ≤ 65535 → Some (v, blanks_end s at) ≡ read s at v []
unfolding read every value_after
read_none s at v l = let z : at + 0 ≡ at = omega arith in rw (le-leb v 65535 l, z)

module _ (s : List ℕ) (at v x : ℕ) (f : List ℕ) where
  -- no digit
  read_other : is_digit x ≡ false → read s at v (x ∷ f) ≡ None
  unfolding read every
  read_other e = rw e

  -- too large
  read_large : 65536 ≤ 10 * v + (x - 48) → read s at v (x ∷ f) ≡ None
  unfolding read value_after
  read_large l = rw (lt-leb (value_after (10 * v + (x - 48)) f) 65535 (omega (arith, value_grows (10 * v + (x - 48)) f))) (by (every is_digit (x ∷ f)))
    where
      by : (t : Bool) → cond {A = Option (ℕ × ℕ)} (t && false) (Some (value_after (10 * v + (x - 48)) f, blanks_end s (at + length (x ∷ f)))) None ≡ None
      by true = refl
      by false = refl

  -- one digit more
  read_digit : is_digit x ≡ true → read s (suc at) (10 * v + (x - 48)) f ≡ read s at v (x ∷ f)
  unfolding read every value_after
  read_digit e = let z : at + suc (length f) ≡ suc at + length f = omega arith in rw (e, z)

digits-field : (s u : List ℕ) (at v : ℕ) → drop at s ≡ u → v ≤ 65535 → whole_field s (digits_from (length s - at) 65536 s at v) ≡ read s at v (word u)
unfolding digits_from whole_field word
digits-field s [] at v e l =
    let z : length s - at ≡ 0 = omega (arith, at_end s at e) in
    rw (z, over_end s at e) (read_none s at v l)
digits-field s (x ∷ u) at v e l =
    rw (at_left s at x u e, at_byte s at x u e)
    (by (is_gap x) refl (λ m. digits-field s u (suc at) (10 * v + (x - 48)) (at_rest s at x u e) m))
  where
    w : ℕ
    w = 10 * v + (x - 48)

    next : ℕ
    next = blanks_end s (suc at + length (word u))

    stops : is_gap x ≡ false → whole_field s (Some (v, at)) ≡ None
    stops g = unfold whole_field in rw (over_gap s at x u e, g)

    by : (t : Bool) → is_gap x ≡ t → (w ≤ 65535 → whole_field s (digits_from (length s - suc at) 65536 s (suc at) w) ≡ read s (suc at) w (word u))
        → whole_field s (cond (ltb x 48) (Some (v, at)) (cond (ltb 57 x) (Some (v, at)) (cond (leb 65536 w) None (digits_from (length s - suc at) 65536 s (suc at) w))))
        ≡ read s at v (cond t [] (x ∷ word u))
    by true g h =
        unfold whole_field in rw (lt-ltb x 48 (gap_low x g), over_gap s at x u e, g) (read_none s at v l)
    by false g h = digit (ltb x 48) (ltb 57 x) (leb 65536 w) refl refl refl
      where
        rest : Option (ℕ × ℕ)
        rest = digits_from (length s - suc at) 65536 s (suc at) w

        digit : (a b c : Bool) → ltb x 48 ≡ a → ltb 57 x ≡ b → leb 65536 w ≡ c
            → whole_field s (cond a (Some (v, at)) (cond b (Some (v, at)) (cond c None rest))) ≡ read s at v (x ∷ word u)
        digit true b c p q r = stops g ∙ sym (read_other s at v x (word u) (unfold is_digit in rw (lt-leb 48 x (ltb-true x 48 p))))
        digit false true c p q r =
            stops g ∙ sym (read_other s at v x (word u) (unfold is_digit in rw (le-leb 48 x (ltb-false x 48 p), lt-leb x 57 (ltb-true 57 x q))))
        digit false false true p q r = sym (read_large s at v x (word u) (leb-true 65536 w r))
        digit false false false p q r =
            h (omega (arith, leb-false 65536 w r))
            ∙ read_digit s at v x (word u) (unfold is_digit in rw (le-leb 48 x (ltb-false x 48 p), le-leb x 57 (ltb-false 57 x q)))

-- the number at a place is that of the field there
module _ (s : List ℕ) (at : ℕ) where
  numbered : List ℕ → Option (ℕ × ℕ)
  numbered f = cond (is_number f) (Some (decimal_of f, blanks_end s (at + length f))) None

  none_numbered : numbered [] ≡ None
  unfolding numbered is_number every unpadded
  none_numbered = refl

  other_numbered : (x : ℕ) (f : List ℕ) → is_digit x ≡ false → numbered (x ∷ f) ≡ None
  unfolding numbered is_number every
  other_numbered x f e = rw e

  -- a first digit that isn't 0
  first_numbered : (x : ℕ) (f : List ℕ) → eqb x 48 ≡ false → read s at 0 (x ∷ f) ≡ numbered (x ∷ f)
  unfolding numbered is_number decimal_of read
  first_numbered x f e = by f
    where
      by : (f : List ℕ)
          → cond {A = Option (ℕ × ℕ)} (every is_digit (x ∷ f) && leb (value_after 0 (x ∷ f)) 65535) (Some (value_after 0 (x ∷ f), blanks_end s (at + length (x ∷ f)))) None
          ≡ cond {A = Option (ℕ × ℕ)} (every is_digit (x ∷ f) && (unpadded (x ∷ f) && leb (value_after 0 (x ∷ f)) 65535)) (Some (value_after 0 (x ∷ f), blanks_end s (at + length (x ∷ f)))) None
      by [] = unfold unpadded in refl
      by (y ∷ f) = unfold unpadded in rw e

  -- a 0
  zero_alone : Some (0, blanks_end s (suc at)) ≡ numbered (48 ∷ [])
  unfolding numbered is_number decimal_of every unpadded value_after is_digit
  zero_alone = let z : at + 1 ≡ suc at = omega arith in rw z

  zero-padded : (y : ℕ) (f : List ℕ) → numbered (48 ∷ y ∷ f) ≡ None
  unfolding numbered is_number unpadded
  zero-padded y f = by (every is_digit (48 ∷ y ∷ f))
    where
      by : (t : Bool) → cond {A = Option (ℕ × ℕ)} (t && false) (Some (decimal_of (48 ∷ y ∷ f), blanks_end s (at + length (48 ∷ y ∷ f)))) None ≡ None
      by true = refl
      by false = refl

  zero_numbered : (u : List ℕ) → drop (suc at) s ≡ u → whole_field s (zero_at 65536 s at) ≡ numbered (48 ∷ word u)
  unfolding zero_at word
  zero_numbered [] e =
      rw (byte_end s (suc at) (at_end s (suc at) e))
      (unfold is_digit in unfold whole_field in rw (over_end s (suc at) e) zero_alone)
  zero_numbered (y ∷ u) e = rw (at_byte s (suc at) y u e) (by (is_digit y) (is_gap y) refl refl)
    where
      by : (d g : Bool) → is_digit y ≡ d → is_gap y ≡ g
          → whole_field s (cond d None (Some (0, suc at))) ≡ numbered (48 ∷ cond g [] (y ∷ word u))
      by true true p q = clash (sym p ∙ gap_digit y q)
      by true false p q = unfold whole_field in sym (zero-padded y (word u))
      by false true p q = unfold whole_field in rw (over_gap s (suc at) y u e, q) zero_alone
      by false false p q = unfold whole_field in rw (over_gap s (suc at) y u e, q) (sym (zero-padded y (word u)))

  pub number-field : (u : List ℕ) → drop at s ≡ u → number_at s at ≡ cond (is_number (word u)) (Some (decimal_of (word u), blanks_end s (at + length (word u)))) None
  unfolding number_at decimal_at word
  number-field [] e = rw (byte_end s at (at_end s at e)) (unfold whole_field in unfold is_digit in unfold numbered in sym none_numbered)
  number-field (x ∷ u) e = rw (at_byte s at x u e) (by (is_digit x) (is_gap x) (eqb x 48) refl refl refl)
    where
      by : (d g z : Bool) → is_digit x ≡ d → is_gap x ≡ g → eqb x 48 ≡ z
          → whole_field s (cond d (cond z (zero_at 65536 s at) (digits_at 65536 s at)) None)
          ≡ cond (is_number (cond g [] (x ∷ word u))) (Some (decimal_of (cond g [] (x ∷ word u)), blanks_end s (at + length (cond g [] (x ∷ word u))))) None
      by true true z p q r = clash (sym p ∙ gap_digit x q)
      by true false true p q r =
          let is : x ≡ 48 = eqb-true x 48 r in
          rw is (unfold numbered in zero_numbered u (at_rest s at x u e))
      by true false false p q r =
          unfold numbered in unfold digits_at in
          (digits-field s (x ∷ u) at 0 e (omega arith) ∙ ap (read s at 0) (unfold word in rw q) ∙ first_numbered x (word u) r)
      by false true z p q r = unfold whole_field in unfold numbered in sym none_numbered
      by false false z p q r = unfold whole_field in unfold numbered in sym (other_numbered x (word u) p)
