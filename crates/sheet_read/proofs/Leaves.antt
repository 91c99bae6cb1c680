-- What each way through the readers of names and numbers says of the definitions.
--     ahead_made, wrong_ahead     places
--     leaving                     what closes the needs of the functions
-- Assumes nothing.
use Rattle.std.proofs.Common.{Option, Some, None}
use Prim.Native.Nat.{ℕ, suc, ◌+◌, ◌-◌, ◌*◌, ◌<◌, ◌≤◌}
use mathlib.Core.Path.{◌≡◌, refl, sym, ap, ◌∙◌}
use mathlib.Core.Bool.{Bool, true, false, cond}
use mathlib.Core.List.{List}
use native.Mathlib.Omega.{arith}
use native.Mathlib.Numerals.{add-one}
use borrow.Author.Rules.{rules}
use borrow.Author.Tests.{eq-eqb, ne_eqb, leb-true}
use lib.Dec.{eqb, leb}
use lib.ListN.{length, get_or, set, length-set}
use Rattle.numbers.proofs.Truth.{both_true}
use Rattle.text_decimals.specs.Reading.{blanks_end, decimal_at, Within, Placed}
use Rattle.text_decimals.specs.Reading as reading
use Rattle.text_decimals.proofs.Laws.{inside_of}
use Rattle.plan.specs.declared.Gate.TheVariants.{Scale, Offset}
use Rattle.plan_file.specs.Bodies.{written, gate_bytes, place_in, version_for}
use Rattle.sheet_text.specs.Trees.{Tree}
use Rattle.sheet_text.specs.Sheets.{Parsed, is_letter, name_from, number_from}
use Rattle.sheet_read.specs.declared.Part.{Part}
use Rattle.sheet_read.specs.Working.{free_or, capped_next, put_gate, number_out, work}
use Rattle.sheet_read.specs.Reading.{made, part_of, Left, Ahead, Reads, number_part, number_file, name_part, name_table, leaf_at, Letter, Leaf}
use Rattle.sheet_read.proofs.Gates.{long_put}

-- ---- places
pub fits_next : (n e : ℕ) → e + 1 ≤ n → n < 18446744073709551616 → e + 1 < 18446744073709551616
fits_next n e l m = omega arith

pub wrong_ahead : (s : List ℕ) (at : ℕ) → Ahead s at None
unfolding Ahead
wrong_ahead s at = tt

pub ahead_made : (s : List ℕ) (at w g e : ℕ) → at < e → e ≤ length s → Ahead s at (Some (made w g e))
unfolding Ahead
ahead_made s at w g e a b = record { from = a; upto = b }

numeral_ends : (s : List ℕ) (at limit v e : ℕ) (d : Option (ℕ × ℕ)) → d ≡ Some (v, e) → reading.Ahead s at limit d → record { from : at < e; upto : e ≤ at + (length s - at); small : v < limit }
unfolding reading.Ahead
numeral_ends s at limit v e d q h = rw q at h

-- ---- numbers
module _ (s : List ℕ) (at limit g : ℕ) (out : List ℕ) (d : Option (ℕ × ℕ)) (h : Placed s at limit (decimal_at limit s at) d) where
  pub number_wrong : d ≡ None → None ≡ number_part s g (decimal_at limit s at)
  unfolding number_part
  number_wrong q = rw (← h.eq, q)

  pub number_kept : d ≡ None → out ≡ number_file limit g out (decimal_at limit s at)
  unfolding number_file
  number_kept q = rw (← h.eq, q)

  module _ (v e k : ℕ) (q : d ≡ Some (v, e)) (ek : k ≡ capped_next g) where
    pub number_part_is : (m f : ℕ) → m ≡ capped_next k → Within s e (blanks_end s e) f → Some (made k m f) ≡ number_part s g (decimal_at limit s at)
    unfolding number_part
    number_part_is m f em w = rw (← h.eq, q, em, ek, w.eq)

    pub number_file_is : (version : ℕ) (mid new : List ℕ) → version ≡ version_for limit → mid ≡ written out (place_in version g) (gate_bytes version (Scale 0 0)) → new ≡ written mid (place_in version k) (gate_bytes version (Offset g v))
        → new ≡ number_file limit g out (decimal_at limit s at)
    unfolding number_file number_out put_gate
    number_file_is version mid new ev a b = rw (← h.eq, q) (b ∙ rw (a, ek, ev))

  pub number_past : (v e f m k : ℕ) → d ≡ Some (v, e) → at ≤ length s → Within s e (blanks_end s e) f → Ahead s at (Some (made k m f))
  number_past v e f m k q l w =
      let a = numeral_ends s at limit v e d q h.ahead in
      ahead_made s at k m f (omega (arith, a.from, w.from)) (omega (arith, a.upto, w.upto))

-- ---- names
module _ (s : List ℕ) (at n b g : ℕ) (names : List ℕ) (d : Option (ℕ × ℕ)) (h : Placed s (at + 1) (n + 1) (decimal_at (n + 1) s (at + 1)) d) where
  name_eq : decimal_at (suc n) s (suc at) ≡ d
  name_eq = rw (← add-one n, ← add-one at) (sym h.eq)

  pub name_wrong : d ≡ None → None ≡ name_part s b g names (decimal_at (suc n) s (suc at))
  unfolding name_part
  name_wrong q = rw (name_eq, q)

  pub name_kept : d ≡ None → names ≡ name_table b names (decimal_at (suc n) s (suc at))
  unfolding name_table
  name_kept q = rw (name_eq, q)

  module _ (v e : ℕ) (q : d ≡ Some (v, e)) where
    pub name_zero : v ≡ 0 → None ≡ name_part s b g names (decimal_at (suc n) s (suc at))
    unfolding name_part
    name_zero z = rw (name_eq, q, eq-eqb v 0 z)

    pub name_zero_kept : v ≡ 0 → names ≡ name_table b names (decimal_at (suc n) s (suc at))
    unfolding name_table
    name_zero_kept z = rw (name_eq, q, eq-eqb v 0 z)

    pub name_part_is : (i f : ℕ) → (v ≡ 0 → ⊥) → i ≡ free_or (256 * v + b + 1) names → Within s e (blanks_end s e) f → Some (made i g f) ≡ name_part s b g names (decimal_at (suc n) s (suc at))
    unfolding name_part
    name_part_is i f z ei w = rw (name_eq, q, ne_eqb v 0 z, ei, add-one (256 * v + b), w.eq)

    pub name_table_is : (new : List ℕ) → (v ≡ 0 → ⊥) → new ≡ set names (free_or (256 * v + b + 1) names) (256 * v + b + 1) → new ≡ name_table b names (decimal_at (suc n) s (suc at))
    unfolding name_table
    name_table_is new z en = rw (name_eq, q, ne_eqb v 0 z) (en ∙ rw (add-one (256 * v + b)))

    pub name_past : (i f : ℕ) → Letter s at b → Within s e (blanks_end s e) f → Ahead s at (Some (made i g f))
    name_past i f x w =
        let a = numeral_ends s (at + 1) (n + 1) v e d q h.ahead in
        ahead_made s at i g f (omega (arith, a.from, w.from)) (omega (arith, a.upto, w.upto, x.place))

    value_small : n < 4294967296 → v ≤ 4294967296
    value_small l = omega (arith, (numeral_ends s (at + 1) (n + 1) v e d q h.ahead).small)

    pub name_times : Letter s at b → n < 4294967296 → 256 * v < 18446744073709551616
    name_times x l = omega (arith, value_small l)

    pub name_plus : Letter s at b → n < 4294967296 → 256 * v + b < 18446744073709551616
    name_plus x l = omega (arith, value_small l, x.letter)

    pub name_one : Letter s at b → n < 4294967296 → 256 * v + b + 1 < 18446744073709551616
    name_one x l = omega (arith, value_small l, x.letter)

pub letter_next : (s : List ℕ) (at b : ℕ) → length s < 18446744073709551616 → Letter s at b → at + 1 < 18446744073709551616
letter_next s at b l h = omega (arith, h.place)

-- ---- leaves
letter_range : (b : ℕ) → is_letter b ≡ true → (97 ≤ b) × (b ≤ 122)
unfolding is_letter
letter_range b e = let t = both_true (leb 97 b) (leb b 122) e in (leb-true 97 b t.0, leb-true b 122 t.1)

module _ (s : List ℕ) (at p g : ℕ) (names out : List ℕ) (r : Option Part) where
  name_reads : (b : ℕ) (names' : List ℕ) (d : Option (ℕ × ℕ)) → r ≡ name_part s b g names d → names' ≡ name_table b names d → Ahead s at r → Reads s at (name_from b s d) p g names out r names' out
  unfolding name_part name_table name_from part_of Left work
  name_reads b names' (Some (v, e)) er en a = by (eqb v 0) er en
    where
      by : (z : Bool) → r ≡ cond z None (Some (made (free_or (suc (256 * v + b)) names) g (blanks_end s e)))
          → names' ≡ cond z names (set names (free_or (suc (256 * v + b)) names) (suc (256 * v + b)))
          → Reads s at (cond z Parsed.Wrong (Parsed.Read (Tree.Name (256 * v + b)) (blanks_end s e))) p g names out r names' out
      by true i j = record { eq = i; left = tt; ahead = a; long_names = ap length j; long_out = refl }
      by false i j = record { eq = i; left = record { table = j; file = refl }; ahead = a; long_names = ap length j ∙ length-set names (free_or (suc (256 * v + b)) names) (suc (256 * v + b)); long_out = refl }
  name_reads b names' None er en a = record { eq = er; left = tt; ahead = a; long_names = ap length en; long_out = refl }

  number_reads : (out' : List ℕ) (d : Option (ℕ × ℕ)) → r ≡ number_part s g d → out' ≡ number_file p g out d → Ahead s at r → Reads s at (number_from s d) p g names out r names out'
  unfolding number_part number_file number_from part_of Left work
  number_reads out' (Some (v, e)) er eo a =
      record { eq = er; left = record { table = refl; file = eo }; ahead = a; long_names = refl; long_out = ap length eo ∙ long_number v }
    where
      long_number : (v : ℕ) → length (number_out p g v out) ≡ length out
      long_number v = unfold number_out in long_put p (put_gate p out g (Scale 0 0)) (capped_next g) (Offset g v) ∙ long_put p out g (Scale 0 0)
  number_reads out' None er eo a = record { eq = er; left = tt; ahead = a; long_names = refl; long_out = ap length eo }

  module _ (n b : ℕ) (h : Leaf s at b) (x : Bool) (i : x ≡ is_letter b) where
    pub leaf_name : (names' : List ℕ) → x ≡ true → r ≡ name_part s b g names (decimal_at (suc n) s (suc at)) → names' ≡ name_table b names (decimal_at (suc n) s (suc at)) → Ahead s at r
        → Reads s at (leaf_at n p s at) p g names out r names' out
    unfolding leaf_at
    leaf_name names' t er en a =
        let e : is_letter (get_or s at 0) ≡ true = ap is_letter (sym h.is) ∙ (sym i ∙ t) in
        rw (e, ← h.is) (name_reads b names' (decimal_at (suc n) s (suc at)) er en a)

    pub leaf_number : (out' : List ℕ) → x ≡ false → r ≡ number_part s g (decimal_at p s at) → out' ≡ number_file p g out (decimal_at p s at) → Ahead s at r
        → Reads s at (leaf_at n p s at) p g names out r names out'
    unfolding leaf_at
    leaf_number out' t er eo a =
        let e : is_letter (get_or s at 0) ≡ false = ap is_letter (sym h.is) ∙ (sym i ∙ t) in
        rw e (number_reads out' (decimal_at p s at) er eo a)

pub leaf_letter : (s : List ℕ) (at b : ℕ) (x : Bool) → Leaf s at b → x ≡ is_letter b → x ≡ true → Letter s at b
leaf_letter s at b x h i t =
    let l = letter_range b (sym i ∙ t) in
    record { place = inside_of s at b h.is (omega (arith, l.0)); letter = omega (arith, l.1) }

-- As it is: answers name this set, since the check leaves their goals open by `using` alone.
pub ruleset leaving = (rules, wrong_ahead, number_wrong, number_kept, number_part_is, number_file_is, number_past, name_wrong, name_kept, name_zero, name_zero_kept, name_part_is, name_table_is, name_past, name_times, name_plus, name_one, letter_next, leaf_name, leaf_number, leaf_letter)
