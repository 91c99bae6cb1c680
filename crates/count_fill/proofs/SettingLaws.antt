-- A setting's coins as they are written.
--     choosing               the next coin, and what is left of the setting's number
--     Setting, setting       the loop over the coins
-- Assumes nothing.
use Prim.Native.Nat.{ℕ, ◌+◌, ◌*◌, ◌/◌, ◌%◌, ◌^◌, ◌<◌, ◌≤◌}
use mathlib.Core.Path.{◌≡◌, refl, sym, ap, ap₂, ◌∙◌}
use mathlib.Core.Bool.{Bool, true, false, cond}
use mathlib.Core.List.{List, [], ◌∷◌, ◌++◌, append_assoc, append-nil}
use native.Mathlib.Numerals.{add-one}
use native.Mathlib.Omega.{arith}
use borrow.Author.Rules.{rules}
use lib.ListN.{length, take, drop, get_or, drop_of_length-le}
use lib.Seq.{take_all, drop-cons, drop-drop, get_or-drop}
use mir.Syntax.{w64}
use mir.Val.{Fits}
use Rattle.numbers.specs.Bytes.{width, bytes_of, stored}
use Rattle.numbers.proofs.Bytes.{bytes_of-nil, bytes_of-append, length-stored, take-stored}
use Rattle.field.specs.Field.{Ready}
use Rattle.field.proofs.Elements.{ready_positive}
use Rattle.plan_coalition.specs.Coalitions.{in_set}
use Rattle.count_laws.specs.Settings.{coins_from}

-- ---- one coin
module _ (b : Bool) (x y : ℕ) where
  pub chosen : b ≡ true → x ≡ cond b x y
  chosen e = rw e

  pub chosen_as : (r : ℕ) → b ≡ true → r ≡ x → r ≡ cond b x y
  chosen_as r e q = q ∙ rw e

  pub passed_over : b ≡ false → y ≡ cond b x y
  passed_over e = rw e

pub divides : (p : ℕ) → Ready p → p ≡ 0 → ⊥
divides p l e = omega (arith, ready_positive p l)

pub ruleset choosing = (rules, chosen, chosen_as, passed_over, divides)

-- ---- the loop: what is written, and the coins that are still to be
pub record Setting (p set : ℕ) (owners cs : List ℕ) (k : ℕ) (d₀ d : List ℕ) (from rest c : ℕ) : Type 0 where
  pub within : c ≤ length owners
  pub room : length d₀ ≡ width * length owners
  pub long : length d ≡ length d₀
  pub few : from ≤ c
  pub whole : take (width * c) d ++ bytes_of (coins_from p set (drop c owners) (drop from cs) rest) ≡ bytes_of (coins_from p set owners cs k)

pub setting-none : (p set : ℕ) (owners cs : List ℕ) (k : ℕ) (d : List ℕ) → length d ≡ width * length owners → Setting p set owners cs k d d 0 k 0
setting-none p set owners cs k d l = record { within = omega arith; room = l; long = refl; few = omega arith; whole = refl }

coin_step : (p set o : ℕ) (os cs : List ℕ) (from rest : ℕ) (b : Bool)
    → cond b (get_or (drop from cs) 0 0 ∷ coins_from p set os (drop 1 (drop from cs)) rest) (rest % p ∷ coins_from p set os (drop from cs) (rest / p))
    ≡ cond b (get_or cs from 0) (rest % p) ∷ coins_from p set os (drop (from + cond b 1 0) cs) (cond b rest (rest / p))
coin_step p set o os cs from rest true =
    let z : from + 0 ≡ from = omega arith in
    ap₂ (λ (x : ℕ) (ys : List ℕ). x ∷ coins_from p set os ys rest) (get_or-drop from cs 0 0 ∙ ap (λ (n : ℕ). get_or cs n 0) z) (drop-drop 1 from cs)
coin_step p set o os cs from rest false =
    let z : from ≡ from + 0 = omega arith in
    ap (λ (n : ℕ). rest % p ∷ coins_from p set os (drop n cs) (rest / p)) z

module _ (p set : ℕ) (owners cs : List ℕ) (k : ℕ) (d₀ d : List ℕ) (from rest c : ℕ) (h : Setting p set owners cs k d₀ d from rest c) where
  pub setting_next :
      (b : Bool) (w v o : ℕ) (e : List ℕ) (r : ℕ) → c < length owners → w ≡ get_or owners c 0 → b ≡ in_set set w → v ≡ cond b (get_or cs from 0) (rest % p) → o ≡ cond b 1 0
      → r ≡ cond b rest (rest / p) → e ≡ stored d c v → Setting p set owners cs k d₀ e (from + o) r (c + 1)
  unfolding coins_from
  setting_next b w v o e r l ew eb' ev eo er ee =
      let eb : b ≡ in_set set (get_or owners c 0) = eb' ∙ ap (in_set set) ew in
      let here : drop c owners ≡ get_or owners c 0 ∷ drop (c + 1) owners = drop-cons owners c 0 l ∙ ap (λ (n : ℕ). get_or owners c 0 ∷ drop n owners) (sym (add-one c)) in
      let front : take (width * (c + 1)) e ≡ take (width * c) d ++ bytes_of (v ∷ []) = ap (take (width * (c + 1))) ee ∙ take-stored d c v (omega (arith, h.room, h.long)) in
      let left : coins_from p set (drop c owners) (drop from cs) rest ≡ v ∷ coins_from p set (drop (c + 1) owners) (drop (from + o) cs) r =
      ap (λ (os : List ℕ). coins_from p set os (drop from cs) rest) here
      ∙ ap (λ (t : Bool). cond t (get_or (drop from cs) 0 0 ∷ coins_from p set (drop (c + 1) owners) (drop 1 (drop from cs)) rest) (rest % p ∷ coins_from p set (drop (c + 1) owners) (drop from cs) (rest / p))) (sym eb)
      ∙ coin_step p set (get_or owners c 0) (drop (c + 1) owners) cs from rest b
      ∙ ap₂ (λ (x : ℕ) (ys : List ℕ). x ∷ ys) (sym ev) (ap₂ (λ (n q : ℕ). coins_from p set (drop (c + 1) owners) (drop (from + n) cs) q) (sym eo) (sym er)) in
      record {
        within = omega arith;
        room = h.room;
        long = ap length ee ∙ length-stored d c v ∙ h.long;
        few = omega (arith, h.few, at_most b o eo);
        whole =
            ap (λ (xs : List ℕ). xs ++ bytes_of (coins_from p set (drop (c + 1) owners) (drop (from + o) cs) r)) front
            ∙ append_assoc (take (width * c) d) (bytes_of (v ∷ [])) (bytes_of (coins_from p set (drop (c + 1) owners) (drop (from + o) cs) r))
            ∙ ap (λ (xs : List ℕ). take (width * c) d ++ xs) (sym (bytes_of-append (v ∷ []) (coins_from p set (drop (c + 1) owners) (drop (from + o) cs) r)) ∙ ap bytes_of (sym left))
            ∙ h.whole;
      }
    where
      at_most : (b : Bool) (o : ℕ) → o ≡ cond b 1 0 → o ≤ 1
      at_most true o e = omega arith
      at_most false o e = omega arith

  pub setting_fits : (b : Bool) (o : ℕ) → c < length owners → o ≤ 1 → length owners < 2 ^ 64 → Fits w64 (from + o)
  setting_fits b o l m f = record { fits = omega (arith, h.few) }

  pub setting_done : length owners ≤ c → d ≡ bytes_of (coins_from p set owners cs k)
  unfolding coins_from
  setting_done l =
      let q : c ≡ length owners = omega (arith, h.within) in
      let none : drop c owners ≡ [] = drop_of_length-le owners {i = c} (omega arith) in
      sym (append-nil d) ∙ ap (λ (xs : List ℕ). xs ++ []) (sym (take_all (width * c) d (omega (arith, h.room, h.long))))
      ∙ ap (λ (xs : List ℕ). take (width * c) d ++ xs) (sym (ap (λ (os : List ℕ). bytes_of (coins_from p set os (drop from cs) rest)) none ∙ bytes_of-nil))
      ∙ h.whole

pub ruleset setting = (rules, setting-none, setting_next, setting_fits, setting_done)
