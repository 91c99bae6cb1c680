-- Laws of numbers that are written one after the other to a lent buffer, as far as there is room.
--     wrote_full, wrote_one, wrote_none, wrote_then, wrote_as     writing in parts
--     wrote_whole                                                a buffer that is filled to its end
--     Left, left_all, left_then, left_end                        a loop that writes: what is left to write
-- Assumes nothing.
use mathlib.Core.Path.{◌≡◌, refl, sym, ap, ◌∙◌}
use mathlib.Core.List.{List, [], ◌∷◌, ◌++◌, append_assoc, append-nil}
use Prim.Native.Nat.{ℕ, zero, suc, ◌+◌, ◌*◌, ◌/◌, ◌<◌, ◌≤◌}
use native.Mathlib.Omega.{arith}
use borrow.Author.Rules.{rules}
use lib.ListN.{length, take, length-append}
use lib.Seq.{take_all, take-append-le, length-take-le}
use Rattle.numbers.specs.Bytes.{width, stored, bytes_of}
use Rattle.numbers.proofs.Bytes.{length-stored, take-stored, length-bytes_of, bytes_of-append, bytes_of-nil}
use Rattle.run_views.specs.Writing.{Wrote}

take_take_append : (n : ℕ) (a b : List ℕ) → take n (take n a ++ b) ≡ take n (a ++ b)
take_take_append zero a b = refl
take_take_append (suc n) [] b = refl
take_take_append (suc n) (x ∷ a) b = ap (λ (l : List ℕ). x ∷ l) (take_take_append n a b)

-- ---- in parts
pub wrote_full : (xs : List ℕ) (at : ℕ) (old : List ℕ) → length old / width ≤ at → at ≤ length old / width → Wrote xs at old old at
wrote_full xs at old l h =
    let e : at ≡ length old / width = omega arith in
    record {
      long = refl;
      room = h;
      bytes =
          rw e
          (sym (take_take_append (width * (length old / width)) old (bytes_of xs)
          ∙ take-append-le (width * (length old / width)) old (bytes_of xs) (omega arith)));
    }

pub wrote_none : (at : ℕ) (old : List ℕ) → at ≤ length old / width → Wrote [] at old old at
wrote_none at old h =
    record {
      long = refl;
      room = h;
      bytes = rw (bytes_of-nil, append-nil) (sym (take_all (width * (length old / width)) (take (width * at) old) (omega (arith, length-take-le (width * at) old (omega arith)))));
    }

pub wrote_one : (v at : ℕ) (old new : List ℕ) → at < length old / width → new ≡ stored old at v → Wrote (v ∷ []) at old new (at + 1)
wrote_one v at old new h e =
    rw e
    (record {
      long = length-stored old at v;
      room = omega arith;
      bytes =
          take-stored old at v (omega arith)
          ∙ sym (take_all (width * (length old / width)) (take (width * at) old ++ bytes_of (v ∷ []))
          (rw length-append (omega (arith, length-take-le (width * at) old (omega arith), length-bytes_of (v ∷ [])))));
    })

pub wrote_then : (xs ys : List ℕ) (at m r : ℕ) (old mid new : List ℕ) → Wrote xs at old mid m → Wrote ys m mid new r → Wrote (xs ++ ys) at old new r
wrote_then xs ys at m r old mid new a b =
    record {
      long = b.long ∙ a.long;
      room = omega (arith, b.room, a.long);
      bytes =
          b.bytes
          ∙ rw (a.long, a.bytes, take_take_append (width * (length old / width)) (take (width * at) old ++ bytes_of xs) (bytes_of ys), bytes_of-append xs ys)
          (ap (take (width * (length old / width))) (append_assoc (take (width * at) old) (bytes_of xs) (bytes_of ys)));
    }

-- the same, written another way
pub wrote_as : (xs ys : List ℕ) (at r : ℕ) (old new : List ℕ) → xs ≡ ys → Wrote xs at old new r → Wrote ys at old new r
wrote_as xs ys at r old new e h = rw (← e) h

-- a buffer that is filled to its end
pub wrote_whole : (xs old new : List ℕ) (r : ℕ) → Wrote xs 0 old new r → length old ≡ width * length xs → new ≡ bytes_of xs
wrote_whole xs old new r w l =
    let all : take (width * (length old / width)) (bytes_of xs) ≡ bytes_of xs = take_all (width * (length old / width)) (bytes_of xs) (omega (arith, length-bytes_of xs)) in
    let is : take (width * r) new ≡ bytes_of xs = w.bytes ∙ all in
    let end : length new ≤ width * r =
    omega (arith, w.long, length-bytes_of xs, ap length is, length-take-le (width * r) new (omega (arith, w.room, w.long))) in
    sym (take_all (width * r) new end) ∙ is

pub ruleset putting = (rules, wrote_full, wrote_one)

-- ---- a loop that writes the list `whole`, of which `left` is left
pub record Left (whole : List ℕ) (at : ℕ) (old new : List ℕ) (next : ℕ) (left : List ℕ) : Type 0 where
  pub long : length new ≡ length old
  pub room : next ≤ length old / width
  pub bytes : take (width * (length old / width)) (take (width * next) new ++ bytes_of left) ≡ take (width * (length old / width)) (take (width * at) old ++ bytes_of whole)

pub left_all : (whole : List ℕ) (at : ℕ) (old left : List ℕ) → left ≡ whole → at ≤ length old / width → Left whole at old old at left
left_all whole at old left e h = record { long = refl; room = h; bytes = rw e }

module _ (whole : List ℕ) (at : ℕ) (old new : List ℕ) (next : ℕ) (left : List ℕ) (h : Left whole at old new next left) where
  pub left_then : (xs rest new' : List ℕ) (next' : ℕ) → left ≡ xs ++ rest → Wrote xs next new new' next' → Left whole at old new' next' rest
  left_then xs rest new' next' e w =
      let all : (take (width * next) new ++ bytes_of xs) ++ bytes_of rest ≡ take (width * next) new ++ bytes_of left =
      append_assoc (take (width * next) new) (bytes_of xs) (bytes_of rest) ∙ ap (λ (l : List ℕ). take (width * next) new ++ l) (sym (bytes_of-append xs rest) ∙ ap bytes_of (sym e)) in
      record {
        long = w.long ∙ h.long;
        room = omega (arith, w.room, h.long);
        bytes =
            rw (w.bytes, h.long, take_take_append (width * (length old / width)) (take (width * next) new ++ bytes_of xs) (bytes_of rest))
            (ap (take (width * (length old / width))) all ∙ h.bytes);
      }

  pub left_end : left ≡ [] → Wrote whole at old new next
  left_end e =
      let l : length (take (width * next) new) ≡ width * next = length-take-le (width * next) new (omega (arith, h.room, h.long)) in
      record {
        long = h.long;
        room = h.room;
        bytes = sym (take_all (width * (length old / width)) (take (width * next) new) (omega (arith, h.room))) ∙ rw (e, bytes_of-nil, append-nil) at h.bytes;
      }

  pub left_as : (rest : List ℕ) → left ≡ rest → Left whole at old new next rest
  left_as rest e = rw (← e) h
