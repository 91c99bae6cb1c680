-- Laws of text that is appended as far as there is room.
--     put_full, put_one, put-nothing, put_then, put_as      appending, in parts
--     Left, left_all, left_then, left_end                   a loop that appends: what is left to append
--     decimal_small, decimal_more                           a number's digits
-- Assumes nothing.
use mathlib.Core.Path.{◌≡◌, refl, sym, ap, ◌∙◌}
use mathlib.Core.Bool.{Bool, true, false}
use mathlib.Core.List.{List, [], ◌∷◌, ◌++◌, append_assoc, append-nil, flat_map}
use mathlib.Core.Logic.{⊎_elim}
use Rattle.std.proofs.lemmas.Bool.{cases_lt}
use Prim.Native.Nat.{min, ℕ, zero, suc, ◌+◌, ◌-◌, ◌/◌, ◌%◌, ◌^◌, ◌<◌, ◌≤◌}
use native.Mathlib.Numerals.{add-one}
use native.Mathlib.Nat.{pow-suc, min-le_left, min-le_right, min-eq_left, min-eq_right}
use Rattle.std.proofs.Math.Nat.{min_comm}
use Rattle.std.proofs.lemmas.List.{take_min}
use native.Mathlib.Omega.{arith}
use borrow.Author.Rules.{rules}
use borrow.Author.Tests.{lt-ltb, le-ltb, ltb-false}
use borrow.Rule.Slice.PartMut.{put_mid, same_len_mid}
use Rattle.std.proofs.lemmas.Slice.{take-put_mid}
use mir.Syntax.{w8, w64}
use mir.Val.{Fits}
use lib.Dec.{ltb}
use lib.ListN.{length, take, drop, set, get_or, length-append, length-set, length-drop, drop_of_length-le}
use lib.Seq.{take_all, take-append-le, take-append-add, take-suc-set, length-take-le, drop-cons, take-nil}
use Rattle.numbers.specs.Bytes.{width, numbers}
use Rattle.numbers.proofs.Bytes.{numbers-length}
use Rattle.bench_text.specs.Decimals.{digits, decimal, field, line}
use Rattle.bench_text.specs.Texts.{Put}

take-take-append : (n : ℕ) (a b : List ℕ) → take n (take n a ++ b) ≡ take n (a ++ b)
take-take-append zero a b = refl
take-take-append (suc n) [] b = refl
take-take-append (suc n) (x ∷ a) b = ap (λ (l : List ℕ). x ∷ l) (take-take-append n a b)

-- ---- in parts
pub put_full : (xs : List ℕ) (at : ℕ) (old : List ℕ) → length old ≤ at → at ≤ length old → Put xs at old old at
put_full xs at old l h =
    let e : at ≡ length old = omega arith in
    record {
      long = refl;
      room = h;
      text = rw e (sym (take-take-append (length old) old xs ∙ take-append-le (length old) old xs (omega arith)));
    }

pub put-nothing : (at : ℕ) (old : List ℕ) → at ≤ length old → Put [] at old old at
put-nothing at old h =
    record { long = refl; room = h; text = rw append-nil (sym (take_all (length old) (take at old) (omega (arith, length-take-le at old h)))) }

pub put_one : (b at : ℕ) (old : List ℕ) → at < length old → Put (b ∷ []) at old (set old at b) (at + 1)
put_one b at old h =
    record {
      long = length-set old at b;
      room = omega arith;
      text = rw (add-one at, take-suc-set old at b h) (sym (take_all (length old) (take at old ++ (b ∷ [])) (rw length-append (omega (arith, length-take-le at old (omega arith))))));
    }

pub put_then : (xs ys : List ℕ) (at m r : ℕ) (old mid new : List ℕ) → Put xs at old mid m → Put ys m mid new r → Put (xs ++ ys) at old new r
put_then xs ys at m r old mid new a b =
    record {
      long = b.long ∙ a.long;
      room = omega (arith, b.room, a.long);
      text = b.text ∙ rw (a.long, a.text, take-take-append (length old) (take at old ++ xs) ys, append_assoc (take at old) xs ys);
    }

-- the same, written another way
pub put_as : (xs ys : List ℕ) (at r : ℕ) (old new : List ℕ) → xs ≡ ys → Put xs at old new r → Put ys at old new r
put_as xs ys at r old new e h = rw (← e) h

-- ---- a loop that appends `whole`, of which `left` is left
pub record Left (whole : List ℕ) (at : ℕ) (old new : List ℕ) (next : ℕ) (left : List ℕ) : Type 0 where
  pub long : length new ≡ length old
  pub room : next ≤ length old
  pub text : take (length old) (take next new ++ left) ≡ take (length old) (take at old ++ whole)

pub left_all : (whole : List ℕ) (at : ℕ) (old left : List ℕ) → left ≡ whole → at ≤ length old → Left whole at old old at left
left_all whole at old left e h = record { long = refl; room = h; text = rw e }

module _ (whole : List ℕ) (at : ℕ) (old new : List ℕ) (next : ℕ) (left : List ℕ) (h : Left whole at old new next left) where
  pub left_then : (xs rest new' : List ℕ) (next' : ℕ) → left ≡ xs ++ rest → Put xs next new new' next' → Left whole at old new' next' rest
  left_then xs rest new' next' e w =
      record {
        long = w.long ∙ h.long;
        room = omega (arith, w.room, h.long);
        text =
            rw (w.text, h.long, take-take-append (length old) (take next new ++ xs) rest, append_assoc (take next new) xs rest, ← e)
            h.text;
      }

  pub left_end : left ≡ [] → Put whole at old new next
  left_end e =
      let l : length (take next new) ≡ next = length-take-le next new (omega (arith, h.room, h.long)) in
      record {
        long = h.long;
        room = h.room;
        text = sym (take_all (length old) (take next new) (omega (arith, h.room))) ∙ rw (e, append-nil) at h.text;
      }

-- ---- a word, of which as much is copied as there is room for
copied_part : (word : List ℕ) (n m : ℕ) → n ≡ min (length word) m → take n word ≡ take m word
copied_part word n m e = ap (λ (k : ℕ). take k word) (e ∙ min_comm (length word) m) ∙ take_min m word

pub put_copied : (word : List ℕ) (at n : ℕ) (old ys : List ℕ) → at ≤ length old → n ≡ min (length word) (length old - at) → ys ≡ take n word
    → Put word at old (put_mid at (at + n - at) old ys) (at + n)
put_copied word at n old ys h e f =
    let few : n ≤ length word = omega (arith, e, min-le_left (length word) (length old - at)) in
    let fits : n ≤ length old - at = omega (arith, e, min-le_right (length word) (length old - at)) in
    let long : length ys ≡ n = ap length f ∙ length-take-le n word few in
    let front : length (take at old) ≡ at = length-take-le at old h in
    let rest : length (take at old) + (length old - at) ≡ length old = omega arith in
    record {
      long = same_len_mid at (at + n - at) old ys (omega (arith, length-take-le (at + n - at) (drop at old) (omega (arith, length-drop at old))));
      room = omega arith;
      text =
          take-put_mid at (at + n - at) old ys (at + n) (omega arith) h ∙ ap (λ (l : List ℕ). take at old ++ l) (f ∙ copied_part word n (length old - at) e)
          ∙ sym (take-append-add (take at old) word (length old - at)) ∙ ap (λ (k : ℕ). take k (take at old ++ word)) rest;
    }

-- ---- a number
digits_step : (k x : ℕ) (b : Bool) → ltb x 10 ≡ b → (b ≡ false → digits k (x / 10) ≡ digits (suc k) (x / 10)) → digits (suc k) x ≡ digits (suc (suc k)) x
unfolding digits
digits_step k x true e h = rw e
digits_step k x false e h = rw (e, h refl)

digits_more : (k x : ℕ) → x < 10 ^ suc k → digits (suc k) x ≡ digits (suc (suc k)) x
digits_more zero x l = digits_step 0 x (ltb x 10) refl (λ q. absurd (omega (arith, ltb-false x 10 q)))
digits_more (suc k) x l = digits_step (suc k) x (ltb x 10) refl (λ q. digits_more k (x / 10) (omega (arith, pow-suc 10 (suc k))))

pub decimal_small : (x : ℕ) → x < 10 → (48 + x) ∷ [] ≡ decimal x
unfolding decimal digits
decimal_small x l = rw (lt-ltb x 10 l)

decimal_last : (x : ℕ) → ltb x 10 ≡ false → digits 19 (x / 10) ≡ digits 20 (x / 10) → decimal (x / 10) ++ ((48 + x % 10) ∷ []) ≡ decimal x
unfolding decimal digits
decimal_last x e d = rw (e, d)

pub decimal_more : (x : ℕ) → 10 ≤ x → Fits w64 x → decimal (x / 10) ++ ((48 + x % 10) ∷ []) ≡ decimal x
decimal_more x l f = decimal_last x (le-ltb x 10 l) (digits_more 18 (x / 10) (omega (arith, f.fits)))

pub put_digit : (x at r : ℕ) (old new : List ℕ) → x < 10 → Put ((48 + x) ∷ []) at old new r → Put (decimal x) at old new r
put_digit x at r old new l h = put_as ((48 + x) ∷ []) (decimal x) at r old new (decimal_small x l) h

pub put-digits :
    (x at m r : ℕ) (old mid new : List ℕ) → 10 ≤ x → Fits w64 x → Put (decimal (x / 10)) at old mid m → Put ((48 + x % 10) ∷ []) m mid new r
    → Put (decimal x) at old new r
put-digits x at m r old mid new l f a b =
    put_as (decimal (x / 10) ++ ((48 + x % 10) ∷ [])) (decimal x) at r old new (decimal_more x l f) (put_then (decimal (x / 10)) ((48 + x % 10) ∷ []) at m r old mid new a b)

pub digit_fits : (x : ℕ) → x < 10 → Fits w8 (48 + x)
digit_fits x l = record { fits = omega arith }

pub last_digit_fits : (x : ℕ) → Fits w8 (48 + x % 10)
last_digit_fits x = record { fits = omega arith }

pub last_digit_fits_wide : (x : ℕ) → Fits w64 (48 + x % 10)
last_digit_fits_wide x = record { fits = omega arith }

pub shorter : (x : ℕ) → 10 ≤ x → x / 10 < x
shorter x l = omega arith

pub put-blank : (x at m r : ℕ) (old mid new : List ℕ) → Put (32 ∷ []) at old mid m → Put (decimal x) m mid new r → Put (field x) at old new r
unfolding field
put-blank x at m r old mid new a b = put_then (32 ∷ []) (decimal x) at m r old mid new a b

-- ---- numbers of a list
-- the fields of so many numbers from one place on, but for those before place i
unfoldable pub fields_from : List ℕ → ℕ → ℕ → ℕ → List ℕ
fields_from xs from count i = flat_map field (take (from + count - i) (drop i xs))

module _ (xs : List ℕ) (from count at : ℕ) (old : List ℕ) where
  abbrev Fields : List ℕ → ℕ → ℕ → Type 0
  Fields new next i = Left (flat_map field (take count (drop from xs))) at old new next (fields_from xs from count i)

  pub fields_all : at ≤ length old → Fields old at from
  unfolding fields_from
  fields_all h = let e : from + count - from ≡ count = omega arith in left_all (flat_map field (take count (drop from xs))) at old (fields_from xs from count from) (rw e) h

  fields-cons : (i : ℕ) → i < from + count → i < length xs → fields_from xs from count i ≡ field (get_or xs i 0) ++ fields_from xs from count (i + 1)
  unfolding fields_from flat_map
  fields-cons i l m =
      let e : from + count - i ≡ suc (from + count - (i + 1)) = omega arith in
      rw (e, drop-cons xs i 0 m, add-one i)

  module _ (new : List ℕ) (next i : ℕ) (h : Fields new next i) where
    fields-next : (v : ℕ) (new' : List ℕ) (next' : ℕ) → i < from + count → i < length xs → v ≡ get_or xs i 0 → Put (field v) next new new' next' → Fields new' next' (i + 1)
    fields-next v new' next' l m e w =
        left_then (flat_map field (take count (drop from xs))) at old new next (fields_from xs from count i) h (field v) (fields_from xs from count (i + 1)) new' next'
        (rw e (fields-cons i l m)) w

    fields-end : from + count ≤ i → Put (flat_map field (take count (drop from xs))) at old new next
    unfolding fields_from flat_map
    fields-end l =
        let e : from + count - i ≡ 0 = omega arith in
        left_end (flat_map field (take count (drop from xs))) at old new next (fields_from xs from count i) h (rw e)

    pub fields-past : length xs ≤ i → Put (flat_map field (take count (drop from xs))) at old new next
    unfolding fields_from flat_map
    fields-past l =
        left_end (flat_map field (take count (drop from xs))) at old new next (fields_from xs from count i) h
        (rw (drop_of_length-le xs {i = i} l, take-nil (from + count - i)))

-- the numbers of a list that is lent as bytes: all of those that stand there
module _ (bs : List ℕ) (from count at : ℕ) (old new : List ℕ) (next i end : ℕ) (h : Left (flat_map field (take count (drop from (numbers bs)))) at old new next (fields_from (numbers bs) from count i))
    (e : end ≡ min (length bs / width) (from + count)) where
  pub fields_on : (v : ℕ) (new' : List ℕ) (next' : ℕ) → Put (field v) next new new' next' → v ≡ get_or (numbers bs) i 0 → i < end
      → Left (flat_map field (take count (drop from (numbers bs)))) at old new' next' (fields_from (numbers bs) from count (i + 1))
  fields_on v new' next' w f l =
      fields-next (numbers bs) from count at old new next i h v new' next' (omega (arith, min-le_right (length bs / width) (from + count)))
      (omega (arith, numbers-length bs, min-le_left (length bs / width) (from + count))) f w

  pub fields_end : end ≤ i → Put (flat_map field (take count (drop from (numbers bs)))) at old new next
  fields_end l =
      ⊎_elim
      (λ m. fields-past (numbers bs) from count at old new next i h (omega (arith, numbers-length bs, e ∙ min-eq_left (omega arith))))
      (λ m. fields-end (numbers bs) from count at old new next i h (omega (arith, e ∙ min-eq_right m)))
      (cases_lt (length bs / width) (from + count))

pub field_room : (bs : List ℕ) (n i end : ℕ) → end ≡ min (length bs / width) n → i < end → i < length bs / width
field_room bs n i end e l = omega (arith, e, min-le_left (length bs / width) n)

-- ---- numbers that are lent as they are
module _ (xs : List ℕ) (at : ℕ) (old : List ℕ) where
  pub each_all : at ≤ length old → Left (flat_map field xs) at old old at (flat_map field (drop 0 xs))
  each_all h = left_all (flat_map field xs) at old (flat_map field xs) refl h

  each-cons : (k : ℕ) → k < length xs → flat_map field (drop k xs) ≡ field (get_or xs k 0) ++ flat_map field (drop (k + 1) xs)
  unfolding flat_map
  each-cons k l = rw (add-one k, drop-cons xs k 0 l)

  module _ (new : List ℕ) (next k : ℕ) (h : Left (flat_map field xs) at old new next (flat_map field (drop k xs))) where
    pub each_next : (new' : List ℕ) (next' : ℕ) → Put (field (get_or xs k 0)) next new new' next' → k < length xs → Left (flat_map field xs) at old new' next' (flat_map field (drop (k + 1) xs))
    each_next new' next' w l =
        left_then (flat_map field xs) at old new next (flat_map field (drop k xs)) h (field (get_or xs k 0)) (flat_map field (drop (k + 1) xs)) new' next' (each-cons k l) w

    pub each-end : length xs ≤ k → Put (flat_map field xs) at old new next
    unfolding flat_map
    each-end l = left_end (flat_map field xs) at old new next (flat_map field (drop k xs)) h (rw (drop_of_length-le xs {i = k} l))

-- ---- a line
pub plain-line :
    (word xs : List ℕ) (at a b r : ℕ) (old s t new : List ℕ) → Put word at old s a → Put (flat_map field xs) a s t b → Put (10 ∷ []) b t new r
    → Put (line word xs) at old new r
unfolding line
plain-line word xs at a b r old s t new k l m =
    put_then word (flat_map field xs ++ (10 ∷ [])) at a r old s new k (put_then (flat_map field xs) (10 ∷ []) a b r s t new l m)

pub list-line :
    (word xs : List ℕ) (x at a b c r : ℕ) (old s t u new : List ℕ)
    → Put word at old s a → Put (field x) a s t b → Put (flat_map field xs) b t u c → Put (10 ∷ []) c u new r
    → Put (line word (x ∷ xs)) at old new r
unfolding line flat_map
list-line word xs x at a b c r old s t u new k l m n =
    put_as (word ++ (field x ++ (flat_map field xs ++ (10 ∷ [])))) (line word (x ∷ xs)) at r old new (rw (append_assoc (field x) (flat_map field xs) (10 ∷ [])))
    (put_then word (field x ++ (flat_map field xs ++ (10 ∷ []))) at a r old s new k
    (put_then (field x) (flat_map field xs ++ (10 ∷ [])) a b r s t new l (put_then (flat_map field xs) (10 ∷ []) b c r t u new m n)))

pub ruleset appending = (rules, put_full, put_one, put_then)

pub ruleset wording = (rules, put_copied)

pub ruleset digiting = (rules, digit_fits, last_digit_fits, last_digit_fits_wide, shorter, put_digit, put-digits)

pub ruleset blanking = (rules, put-blank)

pub ruleset fielding = (rules, fields_all, fields_on, fields_end, field_room)

pub ruleset eaching = (rules, each_all, each_next, each-end)

pub ruleset lining = (rules, plain-line, list-line)
