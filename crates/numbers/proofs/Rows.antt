-- Rows one after the other, and entries that are set one after the other.
--     flat-snoc, flat_append, flat-length, flat-part      rows as a flat_map; the last two: rows of k entries
--     sets-append, sets_all, sets_out                     entries set from a place on
-- Assumes nothing.
use mathlib.Core.Path.{◌≡◌, refl, sym, ap, ◌∙◌}
use mathlib.Core.List.{List, [], ◌∷◌, ◌++◌, flat_map, append_assoc, append-nil}
use Prim.Native.Nat.{ℕ, zero, suc, ◌+◌, ◌*◌, ◌<◌, ◌≤◌}
use native.Mathlib.Nat.{mul-zero, mul-suc}
use native.Mathlib.Omega.{arith}
use lib.ListN.{length, take, drop, set, get_or, length-append, drop_of_length-le}
use lib.Seq.{take_at, drop-append-add, set_out, sets, sets-eq}

-- ---- rows
module _ {A : Type 0} (F : A → List ℕ) where
  pub flat_append : (l m : List A) → flat_map F (l ++ m) ≡ flat_map F l ++ flat_map F m
  unfolding flat_map
  flat_append [] m = refl
  flat_append (a ∷ l) m = ap (λ (r : List ℕ). F a ++ r) (flat_append l m) ∙ sym (append_assoc (F a) (flat_map F l) (flat_map F m))

  pub flat-snoc : (l : List A) (a : A) → flat_map F (l ++ (a ∷ [])) ≡ flat_map F l ++ F a
  unfolding flat_map
  flat-snoc l a = flat_append l (a ∷ []) ∙ ap (λ (r : List ℕ). flat_map F l ++ r) (append-nil (F a))

  module _ (k : ℕ) (each : (a : A) → length (F a) ≡ k) where
    pub flat-length : (l : List A) → length (flat_map F l) ≡ k * length l
    unfolding flat_map
    flat-length [] = sym (mul-zero k)
    flat-length (a ∷ l) = length-append (F a) (flat_map F l) ∙ omega (arith, each a, flat-length l, mul-suc k (length l))

    pub flat-part : (l : List A) (i : ℕ) (d : A) → i < length l → take k (drop (k * i) (flat_map F l)) ≡ F (get_or l i d)
    unfolding flat_map
    flat-part [] i d lt = absurd (omega arith)
    flat-part (a ∷ l) zero d lt = rw mul-zero (take_at (F a) (flat_map F l) k (each a))
    flat-part (a ∷ l) (suc i) d lt =
        let e : k * suc i ≡ length (F a) + k * i = omega (arith, each a, mul-suc k i) in
        rw (e, drop-append-add (F a) (flat_map F l) (k * i)) (flat-part l i d (omega arith))

-- ---- entries set one after the other
pub sets-append : (l : List ℕ) (at : ℕ) (vs ws : List ℕ) → sets l at (vs ++ ws) ≡ sets (sets l at vs) (at + length vs) ws
sets-append l at [] ws = let e : at ≡ at + 0 = omega arith in ap (λ (n : ℕ). sets l n ws) e
sets-append l at (v ∷ vs) ws =
    let e : suc at + length vs ≡ at + suc (length vs) = omega arith in
    sets-append (set l at v) (suc at) vs ws ∙ ap (λ (n : ℕ). sets (sets (set l at v) (suc at) vs) n ws) e

pub sets_all : (l vs : List ℕ) → length vs ≡ length l → sets l 0 vs ≡ vs
sets_all l vs e =
    sets-eq vs l 0 (omega arith)
    ∙ ap (λ (r : List ℕ). vs ++ r) (drop_of_length-le l {i = 0 + length vs} (omega arith))
    ∙ append-nil vs

pub sets_out : (l : List ℕ) (at : ℕ) (vs : List ℕ) → length l ≤ at → sets l at vs ≡ l
sets_out l at [] h = refl
sets_out l at (v ∷ vs) h = ap (λ (r : List ℕ). sets r (suc at) vs) (set_out l at v h) ∙ sets_out l (suc at) vs (omega arith)
