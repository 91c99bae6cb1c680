-- An operation at the end of a gate's line.
--     word_gone, word-other, word_more     where the line's last field isn't this word
--     word-is, word-lines                  where it is: the place past it, and the lines from there
-- Assumes nothing.
use Rattle.std.specs.List.{starts_with}
use Rattle.std.proofs.lemmas.Slice.Eq.{starts_is}
use Rattle.std.proofs.lemmas.Bool.Decides.{Decides-eqb}
use Rattle.std.proofs.Common.{Some, None}
use Prim.Native.Nat.{ℕ, zero, suc, ◌+◌, ◌-◌, ◌≤◌}
use mathlib.Core.Path.{◌≡◌, refl, sym, ap, ◌∙◌}
use mathlib.Core.Bool.{Bool, true, false, cond, ◌&&◌}
use mathlib.Core.List.{List, [], ◌∷◌}
use native.Mathlib.Omega.{arith}
use borrow.Author.Tests.{eqb-true, eq-eqb, le-leb}
use lib.Dec.{eqb, leb}
use lib.ListN.{length, get_or, drop, length-drop}
use lib.Seq.{drop-drop}
use Rattle.numbers.proofs.Truth.{both_true}
use Rattle.text_decimals.specs.Reading.{blanks_from, blanks_end}
use Rattle.plan.specs.File.{same_bytes}
use Rattle.import_lines.specs.Lines.{lines_of}
use Rattle.import_lines.specs.Places.{is_gap, line_over, word_past}
use Rattle.import_lines.proofs.Lines.{word, at_byte, clash}
use Rattle.import_lines.proofs.Stands.{Stands, absent, word_gone, field-here, over_byte, over_none, over-some, number-next, last-lines}

-- ---- equal bytes
pub same_true : (xs ys : List ℕ) → same_bytes xs ys ≡ true → xs ≡ ys
unfolding same_bytes
same_true [] [] e = refl
same_true [] (y ∷ ys) e = clash (sym e)
same_true (x ∷ xs) [] e = clash (sym e)
same_true (x ∷ xs) (y ∷ ys) e =
    let t = both_true (eqb x y) (same_bytes xs ys) e in
    let p : x ≡ y = eqb-true x y t.0 in
    let q : xs ≡ ys = same_true xs ys t.1 in
    (cc)

pub same_self : (xs : List ℕ) → same_bytes xs xs ≡ true
unfolding same_bytes
same_self [] = refl
same_self (x ∷ xs) = rw (eq-eqb x x refl) (same_self xs)

-- ---- three letters
word-cons : (u f : List ℕ) (x : ℕ) → word u ≡ x ∷ f → (v : List ℕ) × (u ≡ x ∷ v) × (is_gap x ≡ false) × (word v ≡ f)
unfolding word
word-cons [] f x e = absent x f e
word-cons (y ∷ u) f x e = by (is_gap y) refl e
  where
    by : (t : Bool) → is_gap y ≡ t → cond t [] (y ∷ word u) ≡ x ∷ f → (v : List ℕ) × (y ∷ u ≡ x ∷ v) × (is_gap x ≡ false) × (word v ≡ f)
    by true g e = absent x f e
    by false g e =
        let q : y ≡ x = cc in
        let r : word u ≡ f = cc in
        (u, ap (λ (z : ℕ). z ∷ u) q, ap is_gap (sym q) ∙ g, r)

gap_parts : (x : ℕ) → is_gap x ≡ false → (eqb x 32 ≡ false) × (eqb x 10 ≡ false)
unfolding is_gap
gap_parts x g = by (eqb x 32) g
  where
    by : (t : Bool) → cond t true (eqb x 10) ≡ false → (t ≡ false) × (eqb x 10 ≡ false)
    by true g = clash g
    by false g = (refl, g)

-- a byte that isn't a blank is where the blanks from it on end
blanks_still : (s : List ℕ) (at : ℕ) → eqb (get_or s at 0) 32 ≡ false → blanks_end s at ≡ at
unfolding blanks_end
blanks_still s at e = by (length s - at)
  where
    by : (m : ℕ) → blanks_from m s at ≡ at
    by zero = unfold blanks_from in refl
    by (suc m) = unfold blanks_from in rw e

module _ (a b c : ℕ) (ga : is_gap a ≡ false) (gb : is_gap b ≡ false) (gc : is_gap c ≡ false) (s : List ℕ) (at : ℕ) where
  abbrev three : List ℕ
  three = a ∷ b ∷ c ∷ []

  abbrev stand : Bool
  stand = starts_with eqb (drop at s) three

  -- the letters stand there
  letters-drop : stand ≡ true → drop at s ≡ a ∷ b ∷ c ∷ drop (at + 3) s
  letters-drop e = (starts_is Decides-eqb (drop at s) three stand refl).0 e ∙ ap (λ (l : List ℕ). a ∷ b ∷ c ∷ l) (drop-drop 3 at s)

  letters-word : stand ≡ true → word (drop at s) ≡ a ∷ b ∷ c ∷ word (drop (at + 3) s)
  unfolding word
  letters-word e = rw (letters-drop e, ga, gb, gc)

  -- the line is over right after them, so that they are the whole field
  over_word : line_over s (blanks_end s (at + 3)) ≡ true → word (drop (at + 3) s) ≡ []
  over_word e = by (word (drop (at + 3) s)) refl
    where
      by : (w : List ℕ) → word (drop (at + 3) s) ≡ w → w ≡ []
      by [] q = refl
      by (x ∷ w) q =
          let k = word-cons (drop (at + 3) s) w x q in
          let g = gap_parts x k.2 in
          let still : blanks_end s (at + 3) ≡ at + 3 = blanks_still s (at + 3) (ap (λ (z : ℕ). eqb z 32) (at_byte s (at + 3) x k.0 k.1) ∙ g.0) in
          clash (sym e ∙ ap (line_over s) still ∙ over_byte s (at + 3) x k.0 k.1 ∙ g.1)

  -- a field that is the word
  word-letters : word (drop at s) ≡ three → (at + 3 ≤ length s) × (stand ≡ true)
  word-letters e =
      let i = word-cons (drop at s) (b ∷ c ∷ []) a e in
      let j = word-cons i.0 (c ∷ []) b i.3 in
      let k = word-cons j.0 [] c j.3 in
      let q : drop at s ≡ a ∷ b ∷ c ∷ k.0 = i.1 ∙ ap (λ (l : List ℕ). a ∷ l) (j.1 ∙ ap (λ (l : List ℕ). b ∷ l) k.1) in
      (omega (arith, ap length q, length-drop at s), (starts_is Decides-eqb (drop at s) three stand refl).1 k.0 q)

  -- found only where the field is the word and the line is over
  found_word : {A : Type 0} → (leb (at + 3) (length s) && (stand && line_over s (blanks_end s (at + 3)))) ≡ true
      → (word (drop at s) ≡ three → line_over s (blanks_end s (at + 3)) ≡ true → A) → A
  found_word e k =
      let t = both_true (leb (at + 3) (length s)) (stand && line_over s (blanks_end s (at + 3))) e in
      let u = both_true (stand) (line_over s (blanks_end s (at + 3))) t.1 in
      k (letters-word u.0 ∙ ap (λ (w : List ℕ). a ∷ b ∷ c ∷ w) (over_word u.1)) u.1

  not_found : ((word (drop at s) ≡ three → line_over s (blanks_end s (at + 3)) ≡ true → ⊥)) → word_past three s at ≡ None
  unfolding word_past
  not_found n = by (leb (at + 3) (length s) && (stand && line_over s (blanks_end s (at + 3)))) refl
    where
      by : (t : Bool) → (leb (at + 3) (length s) && (stand && line_over s (blanks_end s (at + 3)))) ≡ t → cond t (Some (at + 3)) None ≡ None
      by true e = found_word e (λ w o. absurd (n w o))
      by false e = refl

  module _ (ls : List (List (List ℕ))) where
    pub word_over : Stands s at [] ls → word_past three s at ≡ None
    word_over h = not_found (λ w o. absent a (b ∷ c ∷ []) (sym (word_gone (drop at s) h.line) ∙ w))

    pub word-other : (f : List ℕ) (fs : List (List ℕ)) → Stands s at (f ∷ fs) ls → same_bytes f three ≡ false → word_past three s at ≡ None
    word-other f fs h e =
        not_found (λ w o. clash (sym (same_self three) ∙ ap (λ (l : List ℕ). same_bytes l three) (sym w ∙ field-here s at ls f fs h) ∙ e))

    pub word_more : (f g : List ℕ) (fs : List (List ℕ)) → Stands s at (f ∷ g ∷ fs) ls → word_past three s at ≡ None
    word_more f g fs h =
        not_found (λ w o.
        let is : three ≡ f = sym w ∙ field-here s at ls f (g ∷ fs) h in
        clash (sym o ∙ ap (λ (l : List ℕ). line_over s (blanks_end s (at + length l))) is
        ∙ over-some s (blanks_end s (at + length f)) ls g fs (number-next s at ls f (g ∷ fs) h)))

    module _ (f : List ℕ) (h : Stands s at (f ∷ []) ls) (e : same_bytes f three ≡ true) where
      is-three : f ≡ three
      is-three = same_true f three e

      pub word-is : word_past three s at ≡ Some (at + 3)
      unfolding word_past
      word-is =
          let k = word-letters (field-here s at ls f [] h ∙ is-three) in
          let o : line_over s (blanks_end s (at + 3)) ≡ true = ap (λ (l : List ℕ). line_over s (blanks_end s (at + length l))) (sym is-three) ∙ over_none s (blanks_end s (at + length f)) ls (number-next s at ls f [] h) in
          rw (le-leb (at + 3) (length s) k.0, k.1, o)

      pub word-lines : lines_of (drop (at + 3) s) ≡ ls
      word-lines = ap (λ (l : List ℕ). lines_of (drop (at + length l) s)) (sym is-three) ∙ last-lines s at ls f [] h refl
