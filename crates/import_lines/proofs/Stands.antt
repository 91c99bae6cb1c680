-- What a reader finds at a place of a text: the fields that are left of its line, and the lines after it.
--     Stands                               a place, by both
--     start_none, start-some               after the gap before a line
--     number-none .. number-next           a number, and the next place
--     over_none, over-some                 whether the line is over
-- Assumes nothing.
use Rattle.std.proofs.Common.{Some, None}
use Prim.Native.Nat.{ℕ, ◌+◌, ◌<◌, ◌≤◌}
use mathlib.Core.Path.{◌≡◌, refl, sym, ap, ◌∙◌}
use mathlib.Core.Logic.{◌⊎◌, inl, inr}
use mathlib.Core.Bool.{Bool, true, false, cond}
use mathlib.Core.List.{List, [], ◌∷◌}
use native.Mathlib.Omega.{arith}
use borrow.Author.Tests.{le-leb, lt-leb, leb-true, leb-false}
use lib.Dec.{eqb, leb}
use lib.ListN.{length, get_or, drop, drop_of_length-le}
use lib.Seq.{get_or-drop, drop-drop}
use Rattle.numbers.proofs.Ways.{byte-none}
use Rattle.text_decimals.specs.Reading.{blanks_end}
use Rattle.import_lines.specs.Lines.{lines_of, every, decimal_of, unpadded, is_number}
use Rattle.import_lines.specs.Places.{is_gap, line_start, line_over, number_at}
use Rattle.import_lines.proofs.Lines.{line_fields, later_lines, word, past, added, lines_later, lines_here, fields-nil, later-nil, fields_feed, fields_are, later-past, at_end, at_byte, at-inside, Same, blanks_same, Start, start_same, clash, number-field}

pub record Stands (s : List ℕ) (at : ℕ) (fs : List (List ℕ)) (ls : List (List (List ℕ))) : Type 0 where
  pub clear : eqb (get_or s at 0) 32 ≡ false
  pub line : line_fields (drop at s) ≡ fs
  pub later : later_lines (drop at s) ≡ ls

-- ---- the next field
pub absent : {A : Type 0} {B : Type 0} (x : A) (xs : List A) → ◌≡◌ {A = List A} [] (x ∷ xs) → B
absent x xs e = absurd (let z : ◌≡◌ {A = ℕ} 0 1 = cc in omega arith)

past-drop : (u : List ℕ) → drop (length (word u)) u ≡ past u
unfolding word past
past-drop [] = refl
past-drop (x ∷ u) = by (is_gap x) (past-drop u)
  where
    by : (t : Bool) → drop (length (word u)) u ≡ past u → drop (length (cond t [] (x ∷ word u))) (x ∷ u) ≡ cond t (x ∷ u) (past u)
    by true h = refl
    by false h = h

past_place : (s : List ℕ) (at : ℕ) → drop (at + length (word (drop at s))) s ≡ past (drop at s)
past_place s at = sym (drop-drop (length (word (drop at s))) at s) ∙ past-drop (drop at s)

word_on : (x : ℕ) (u : List ℕ) → eqb x 32 ≡ false → eqb x 10 ≡ false → word (x ∷ u) ≡ x ∷ word u
unfolding word is_gap
word_on x u e f = rw (e, f)

pub word_gone : (u : List ℕ) → line_fields u ≡ [] → word u ≡ []
word_gone u e = by (word u) (sym (fields_are u) ∙ e)
  where
    by : (f : List ℕ) → added f (line_fields (past u)) ≡ [] → f ≡ []
    by [] h = refl
    by (x ∷ f) h = absent (x ∷ f) (line_fields (past u)) (sym (unfold added in h))

-- without a blank in front, a line that isn't over has a field
no_word : (u : List ℕ) → eqb (get_or u 0 0) 32 ≡ false → word u ≡ [] → line_fields u ≡ []
unfolding word
no_word [] c e = fields-nil
no_word (x ∷ u) c e = by (is_gap x) refl e
  where
    by : (t : Bool) → is_gap x ≡ t → cond t [] (x ∷ word u) ≡ [] → line_fields (x ∷ u) ≡ []
    by true g h = fields_feed x u (feed (eqb x 10) refl g)
      where
        feed : (t : Bool) → eqb x 10 ≡ t → is_gap x ≡ true → eqb x 10 ≡ true
        feed true f g = f
        feed false f g = clash (sym g ∙ (unfold is_gap in rw (c, f)))
    by false g h = absent x (word u) (sym h)

word_there : (u f : List ℕ) (fs : List (List ℕ)) → eqb (get_or u 0 0) 32 ≡ false → line_fields u ≡ f ∷ fs → (word u ≡ f) × (line_fields (past u) ≡ fs)
word_there u f fs c e = by (word u) refl (sym (fields_are u) ∙ e)
  where
    by : (w : List ℕ) → word u ≡ w → added w (line_fields (past u)) ≡ f ∷ fs → (w ≡ f) × (line_fields (past u) ≡ fs)
    by [] q h = absent f fs (sym (no_word u c q) ∙ e)
    by (x ∷ w) q h = let h' : (x ∷ w) ∷ line_fields (past u) ≡ f ∷ fs = unfold added in h in ((cc), (cc))

-- the byte at a place is the first of what stands there
here : (s : List ℕ) (at : ℕ) → get_or (drop at s) 0 0 ≡ get_or s at 0
here s at = let z : at + 0 ≡ at = omega arith in get_or-drop at s 0 0 ∙ ap (λ (k : ℕ). get_or s k 0) z

module _ (s : List ℕ) (at : ℕ) (fs : List (List ℕ)) (ls : List (List (List ℕ))) (h : Stands s at fs ls) where
  bare : eqb (get_or (drop at s) 0 0) 32 ≡ false
  bare = rw (here s at) h.clear

-- ---- after the gap before a line
module _ (s : List ℕ) (at : ℕ) where
  begun : Start s at (line_start s at)
  begun = unfold line_start in start_same s (drop at s) at refl

  abbrev rest : List ℕ
  rest = drop (line_start s at) s

  -- where the rest begins with a byte that is no gap, a line stands there
  there : (u : List ℕ) → is_gap (get_or u 0 0) ≡ false → u ≡ [] ⊎ (lines_of u ≡ line_fields u ∷ later_lines u)
  there [] g = inl refl
  there (x ∷ u) g = inr (by (line_fields (x ∷ u)) refl)
    where
      some : word (x ∷ u) ≡ x ∷ word u
      some = unfold word in rw g

      by : (fs : List (List ℕ)) → line_fields (x ∷ u) ≡ fs → lines_of (x ∷ u) ≡ line_fields (x ∷ u) ∷ later_lines (x ∷ u)
      by [] e = absent x (word u) (sym (word_gone (x ∷ u) e) ∙ some)
      by (f ∷ fs) e = lines_here (x ∷ u) f fs e ∙ ap (λ (l : List (List ℕ)). l ∷ later_lines (x ∷ u)) (sym e)

  gapless : is_gap (get_or rest 0 0) ≡ false
  gapless = rw (here s (line_start s at)) begun.clear

  lines_rest : lines_of rest ≡ lines_of (drop at s)
  lines_rest = begun.lines

  nothing : lines_of [] ≡ []
  nothing = lines_later [] fields-nil ∙ later-nil

  pub start_none : lines_of (drop at s) ≡ [] → length s ≤ line_start s at
  start_none e = by (there rest gapless)
    where
      by : rest ≡ [] ⊎ (lines_of rest ≡ line_fields rest ∷ later_lines rest) → length s ≤ line_start s at
      by (inl z) = at_end s (line_start s at) z
      by (inr q) = absent (line_fields rest) (later_lines rest) (sym (lines_rest ∙ e) ∙ q)

  clear_start : eqb (get_or s (line_start s at) 0) 32 ≡ false
  clear_start = by (eqb (get_or s (line_start s at) 0) 32) refl
    where
      by : (t : Bool) → eqb (get_or s (line_start s at) 0) 32 ≡ t → t ≡ false
      by true e = let gap : is_gap (get_or s (line_start s at) 0) ≡ true = unfold is_gap in rw e in clash (sym gap ∙ begun.clear)
      by false e = refl

  pub start-some : (l : List (List ℕ)) (ls : List (List (List ℕ))) → lines_of (drop at s) ≡ l ∷ ls → Stands s (line_start s at) l ls × (line_start s at < length s)
  start-some l ls e = by (there rest gapless)
    where
      by : rest ≡ [] ⊎ (lines_of rest ≡ line_fields rest ∷ later_lines rest) → Stands s (line_start s at) l ls × (line_start s at < length s)
      by (inl z) = absent l ls (sym nothing ∙ ap lines_of (sym z) ∙ lines_rest ∙ e)
      by (inr q) =
          let same : line_fields rest ∷ later_lines rest ≡ l ∷ ls = sym q ∙ lines_rest ∙ e in
          (record { clear = clear_start; line = cc; later = cc }, inside (leb (length s) (line_start s at)) refl)
        where
          inside : (t : Bool) → leb (length s) (line_start s at) ≡ t → line_start s at < length s
          inside true m =
              absent l ls (sym nothing ∙ ap lines_of (sym (drop_of_length-le s {i = line_start s at} (leb-true (length s) (line_start s at) m))) ∙ lines_rest ∙ e)
          inside false m = leb-false (length s) (line_start s at) m

-- ---- a number
module _ (s : List ℕ) (at : ℕ) (ls : List (List (List ℕ))) where
  pub number-none : Stands s at [] ls → number_at s at ≡ None
  number-none h = number-field s at (drop at s) refl ∙ rw (word_gone (drop at s) h.line) (unfold is_number in unfold every in unfold unpadded in refl)

  module _ (f : List ℕ) (fs : List (List ℕ)) (h : Stands s at (f ∷ fs) ls) where
    parts : (word (drop at s) ≡ f) × (line_fields (past (drop at s)) ≡ fs)
    parts = word_there (drop at s) f fs (bare s at (f ∷ fs) ls h) h.line

    pub field-here : word (drop at s) ≡ f
    field-here = parts.0

    pub number-wrong : is_number f ≡ false → number_at s at ≡ None
    number-wrong n = number-field s at (drop at s) refl ∙ rw (parts.0, n)

    pub number-some : is_number f ≡ true → number_at s at ≡ Some (decimal_of f, blanks_end s (at + length f))
    number-some n = number-field s at (drop at s) refl ∙ rw (parts.0, n)

    gone : drop (at + length f) s ≡ past (drop at s)
    gone = ap (λ (w : List ℕ). drop (at + length w) s) (sym parts.0) ∙ past_place s at

    skipped : Same s (at + length f) (blanks_end s (at + length f))
    unfolding blanks_end
    skipped = blanks_same s (drop (at + length f) s) (at + length f) refl

    fields-left : line_fields (drop (at + length f) s) ≡ fs
    fields-left = ap line_fields gone ∙ parts.1

    lines_left : later_lines (drop (at + length f) s) ≡ ls
    lines_left = ap later_lines gone ∙ sym (later-past (drop at s)) ∙ h.later

    pub number-next : Stands s (blanks_end s (at + length f)) fs ls
    number-next = record { clear = skipped.clear; line = skipped.fields ∙ fields-left; later = skipped.later ∙ lines_left }

    -- after a line's last field
    pub last-lines : fs ≡ [] → lines_of (drop (at + length f) s) ≡ ls
    last-lines e = lines_later (drop (at + length f) s) (fields-left ∙ e) ∙ lines_left

-- ---- the end of a line
pub over_byte : (s : List ℕ) (at x : ℕ) (u : List ℕ) → drop at s ≡ x ∷ u → line_over s at ≡ eqb x 10
unfolding line_over
over_byte s at x u e = rw (at_byte s at x u e, lt-leb (length s) at (at-inside s at x u e))

over-past : (s : List ℕ) (at : ℕ) → drop at s ≡ [] → line_over s at ≡ true
unfolding line_over
over-past s at e = rw (le-leb (length s) at (at_end s at e))

module _ (s : List ℕ) (at : ℕ) (ls : List (List (List ℕ))) where
  pub over_none : Stands s at [] ls → line_over s at ≡ true
  over_none h = by (drop at s) refl
    where
      by : (u : List ℕ) → drop at s ≡ u → line_over s at ≡ true
      by [] e = over-past s at e
      by (x ∷ u) e = over_byte s at x u e ∙ feed (eqb x 10) refl
        where
          gone : word (x ∷ u) ≡ []
          gone = ap word (sym e) ∙ word_gone (drop at s) h.line

          feed : (t : Bool) → eqb x 10 ≡ t → t ≡ true
          feed true q = refl
          feed false q =
              absent x (word u) (sym gone ∙ word_on x u (ap (λ (b : ℕ). eqb b 32) (sym (at_byte s at x u e)) ∙ h.clear) q)

  pub over-some : (f : List ℕ) (fs : List (List ℕ)) → Stands s at (f ∷ fs) ls → line_over s at ≡ false
  over-some f fs h = by (drop at s) refl
    where
      by : (u : List ℕ) → drop at s ≡ u → line_over s at ≡ false
      by [] e = absent f fs (sym fields-nil ∙ ap line_fields (sym e) ∙ h.line)
      by (x ∷ u) e = over_byte s at x u e ∙ feed (eqb x 10) refl
        where
          feed : (t : Bool) → eqb x 10 ≡ t → t ≡ false
          feed true q = absent f fs (sym (fields_feed x u q) ∙ ap line_fields (sym e) ∙ h.line)
          feed false q = refl

-- ---- the text's end
pub end_stands : (s : List ℕ) (at : ℕ) → length s ≤ at → Stands s at [] []
end_stands s at l =
    let e : drop at s ≡ [] = drop_of_length-le s {i = at} l in
    record {
      clear = ap (λ (b : ℕ). eqb b 32) (sym (byte-none s at l));
      line = ap line_fields e ∙ fields-nil;
      later = ap later_lines e ∙ later-nil;
    }

-- the lines from a place on at which a line is over
pub over_lines : (s : List ℕ) (at : ℕ) (ls : List (List (List ℕ))) → Stands s at [] ls → lines_of (drop at s) ≡ ls
over_lines s at ls h = lines_later (drop at s) h.line ∙ h.later
