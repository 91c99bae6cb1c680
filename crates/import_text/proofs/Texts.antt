-- A circuit's text read from a place on is the circuit that its lines say.
--     numbers-line, values-line, gate-line, gates_lines      a line, and the lines of the gates
--     Reads, text_reads                                      the whole text
-- Assumes nothing.
use Rattle.std.proofs.Common.{Option, Some, None}
use Prim.Native.Nat.{ℕ, zero, suc, ◌+◌}
use mathlib.Core.Path.{◌≡◌, refl, sym, ap, ◌∙◌}
use mathlib.Core.Logic.{◌⊎◌, inl, inr}
use mathlib.Core.Bool.{Bool, true, false, cond, ◌&&◌, ◌||◌}
use mathlib.Core.List.{List, [], ◌∷◌, map}
use native.Mathlib.Omega.{arith}
use borrow.Author.Tests.{ne_eqb, eqb-true, le-leb, lt-leb, leb-true}
use Rattle.std.proofs.Math.Bool.{and-false, or-false}
use lib.Dec.{eqb, leb, eqb-suc-suc}
use lib.ListN.{length, get_or, take, drop, length-map}
use Rattle.numbers.proofs.Truth.{both_true}
use Rattle.text_decimals.specs.Reading.{blanks_end}
use Rattle.plan.specs.File.{same_bytes}
use Rattle.import_lines.specs.Lines.{lines_of, every, decimal_of, is_number}
use Rattle.import_lines.specs.Places.{is_gap, line_start, number_at, with_number, NumbersRead, following, numbers_at, sum_of, summed, values_at}
use Rattle.import_lines.proofs.Lines.{clash}
use Rattle.import_lines.proofs.Stands.{Stands, start_none, start-some, number-none, number-wrong, number-some, number-next, over_none, over-some, end_stands, over_lines}
use Rattle.import_text.specs.declared.LogicGate.{LogicGate}
use Rattle.import_text.specs.declared.Head.{Head}
use Rattle.import_text.specs.Circuits.{number_in, xor_word, and_word, inv_word, gate_in, circuit_in, contents_line, values_line, reads_line, gate_line, format_ok, circuit_of}
use Rattle.import_text.specs.Scanning.{ended, first_ended, two_named, one_named, two_wires, one_wire, wires_at, gate_at, GatesRead, gate_then, with_gate, gates_at, with_values, values_head, head_at}
use Rattle.import_text.proofs.Words.{word_over, word-other, word_more, word-is, word-lines}

-- ---- truth values
letter : (x : ℕ) → leb 33 x ≡ true → is_gap x ≡ false
unfolding is_gap
letter x l = rw (ne_eqb x 32 (λ e. omega (arith, leb-true 33 x l, e)), ne_eqb x 10 (λ e. omega (arith, leb-true 33 x l, e)))

-- ---- as many numbers
record Numbers (s : List ℕ) (k at : ℕ) (fs : List (List ℕ)) (ls : List (List (List ℕ))) : Type 0 where
  end : ℕ
  is : numbers_at k s at ≡ NumbersRead.Read (map decimal_of fs) end
  next : Stands s end [] ls
  count : eqb (length fs) k ≡ true
  numbers : every is_number fs ≡ true

record NoNumbers (s : List ℕ) (k at : ℕ) (fs : List (List ℕ)) : Type 0 where
  is : numbers_at k s at ≡ NumbersRead.Wrong
  not : (every is_number fs && eqb (length fs) k) ≡ false

numbers-line : (s : List ℕ) (k at : ℕ) (fs : List (List ℕ)) (ls : List (List (List ℕ))) → Stands s at fs ls → Numbers s k at fs ls ⊎ NoNumbers s k at fs
unfolding numbers_at with_number
numbers-line s zero at [] ls h =
    inl (record { end = at; is = rw (over_none s at ls h); next = h; count = refl; numbers = unfold every in refl })
numbers-line s zero at (f ∷ fs) ls h = inr (record { is = rw (over-some s at ls f fs h); not = rw (ne_eqb (suc (length fs)) 0 (λ e. omega (arith, e))) (and-false (every is_number (f ∷ fs))) })
numbers-line s (suc k) at [] ls h = inr (record { is = rw (number-none s at ls h); not = unfold every in ne_eqb 0 (suc k) (λ e. omega (arith, e)) })
numbers-line s (suc k) at (f ∷ fs) ls h = by (is_number f) refl (numbers-line s k (blanks_end s (at + length f)) fs ls (number-next s at ls f fs h))
  where
    by : (t : Bool) → is_number f ≡ t → Numbers s k (blanks_end s (at + length f)) fs ls ⊎ NoNumbers s k (blanks_end s (at + length f)) fs
        → Numbers s (suc k) at (f ∷ fs) ls ⊎ NoNumbers s (suc k) at (f ∷ fs)
    by false e r = inr (record {
      is = unfold numbers_at in unfold with_number in rw (number-wrong s at ls f fs h e);
      not = unfold every in rw e;
    })
    by true e (inl r) = inl (record {
      end = r.end;
      is = unfold numbers_at in unfold with_number in unfold following in rw (number-some s at ls f fs h e, r.is);
      next = r.next;
      count = eqb-suc-suc (length fs) k ∙ r.count;
      numbers = unfold every in rw e r.numbers;
    })
    by true e (inr r) = inr (record {
      is = unfold numbers_at in unfold with_number in unfold following in rw (number-some s at ls f fs h e, r.is);
      not = unfold every in rw (e, eqb-suc-suc (length fs) k) r.not;
    })

-- ---- a line of values
record ValuesThere (s : List ℕ) (at : ℕ) (fs : List (List ℕ)) (ls : List (List (List ℕ))) : Type 0 where
  first : ℕ
  end : ℕ
  is : values_at s at ≡ Some (record { count = number_in fs 0; first = first; total = sum_of (map decimal_of (drop 1 fs)); past = end })
  each : numbers_at (number_in fs 0) s first ≡ NumbersRead.Read (map decimal_of (drop 1 fs)) end
  next : Stands s end [] ls
  ok : values_line fs ≡ true

record NoValues (s : List ℕ) (at : ℕ) (fs : List (List ℕ)) : Type 0 where
  is : values_at s at ≡ None
  not : values_line fs ≡ false

values-line : (s : List ℕ) (at : ℕ) (fs : List (List ℕ)) (ls : List (List (List ℕ))) → Stands s at fs ls → ValuesThere s at fs ls ⊎ NoValues s at fs
unfolding values_at with_number values_line
values-line s at [] ls h = inr (record { is = rw (number-none s at ls h); not = unfold every in unfold decimal_of in ne_eqb 0 (suc (number_in [] 0)) (λ e. omega (arith, e)) })
values-line s at (f ∷ fs) ls h = by (is_number f) refl
  where
    by : (t : Bool) → is_number f ≡ t → ValuesThere s at (f ∷ fs) ls ⊎ NoValues s at (f ∷ fs)
    by false e = inr (record {
      is = unfold values_at in unfold with_number in rw (number-wrong s at ls f fs h e);
      not = unfold values_line in unfold every in rw e;
    })
    by true e = there (numbers-line s (decimal_of f) (blanks_end s (at + length f)) fs ls (number-next s at ls f fs h))
      where
        there : Numbers s (decimal_of f) (blanks_end s (at + length f)) fs ls ⊎ NoNumbers s (decimal_of f) (blanks_end s (at + length f)) fs
            → ValuesThere s at (f ∷ fs) ls ⊎ NoValues s at (f ∷ fs)
        there (inl r) = inl (record {
          first = blanks_end s (at + length f);
          end = r.end;
          is = unfold values_at in unfold with_number in unfold summed in rw (number-some s at ls f fs h e, r.is) (let z : 0 + sum_of (map decimal_of fs) ≡ sum_of (map decimal_of fs) = omega arith in rw z);
          each = r.is;
          next = r.next;
          ok = unfold values_line in unfold every in rw (e, r.numbers, eqb-suc-suc (length fs) (decimal_of f)) r.count;
        })
        there (inr r) = inr (record {
          is = unfold values_at in unfold with_number in unfold summed in rw (number-some s at ls f fs h e, r.is);
          not = unfold values_line in unfold every in rw (e, eqb-suc-suc (length fs) (decimal_of f)) r.not;
        })

-- ---- a gate's line
-- the rule, part by part
module _ (r : ℕ) (fs : List (List ℕ)) where
  reads_long : eqb (length fs) (r + 4) ≡ false → reads_line r fs ≡ false
  unfolding reads_line
  reads_long e = rw e

  reads-numbers : every is_number (take (r + 3) fs) ≡ false → reads_line r fs ≡ false
  unfolding reads_line
  reads-numbers e = rw e (and-false (eqb (length fs) (r + 4)))

  reads_count : eqb (number_in fs 0) r ≡ false → reads_line r fs ≡ false
  unfolding reads_line
  reads_count e = rw (e, and-false (every is_number (take (r + 3) fs))) (and-false (eqb (length fs) (r + 4)))

  reads-set : eqb (number_in fs 1) 1 ≡ false → reads_line r fs ≡ false
  unfolding reads_line
  reads-set e = rw (e, and-false (eqb (number_in fs 0) r), and-false (every is_number (take (r + 3) fs))) (and-false (eqb (length fs) (r + 4)))

module _ (fs : List (List ℕ)) where
  gate-not : reads_line 2 fs ≡ false → reads_line 1 fs ≡ false → gate_line fs ≡ false
  unfolding gate_line
  gate-not a b = rw (a, b)

  gate-two : reads_line 1 fs ≡ false → gate_line fs ≡ (reads_line 2 fs && (same_bytes (get_or fs 5 []) xor_word || same_bytes (get_or fs 5 []) and_word))
  unfolding gate_line
  gate-two b = rw b (or-false (reads_line 2 fs && (same_bytes (get_or fs 5 []) xor_word || same_bytes (get_or fs 5 []) and_word)))

  gate-one : reads_line 2 fs ≡ false → gate_line fs ≡ (reads_line 1 fs && same_bytes (get_or fs 4 []) inv_word)
  unfolding gate_line
  gate-one b = rw b

-- what a reader of a gate's line, or of its rest, answers where the whole line is fs
record GateThere (r : Option (LogicGate × ℕ)) (s : List ℕ) (fs : List (List ℕ)) (ls : List (List (List ℕ))) : Type 0 where
  end : ℕ
  is : r ≡ Some (gate_in fs, end)
  next : lines_of (drop end s) ≡ ls
  ok : gate_line fs ≡ true

record NoGate (r : Option (LogicGate × ℕ)) (fs : List (List ℕ)) : Type 0 where
  is : r ≡ None
  not : gate_line fs ≡ false

module _ (s : List ℕ) (ls : List (List (List ℕ))) (r w : List ℕ) (is-r : is_number r ≡ true) (is-w : is_number w ≡ true) (one : decimal_of w ≡ 1) where
  -- two wires are read
  module _ (two : decimal_of r ≡ 2) where
    no_one : (fs : List (List ℕ)) → reads_line 1 (r ∷ w ∷ fs) ≡ false
    no_one fs = reads_count 1 (r ∷ w ∷ fs) (rw two)

    none : (fs : List (List ℕ)) → reads_line 2 (r ∷ w ∷ fs) ≡ false → gate_line (r ∷ w ∷ fs) ≡ false
    none fs e = gate-not (r ∷ w ∷ fs) e (no_one fs)

    two-named : (a b c : List ℕ) (fs : List (List ℕ)) (at : ℕ) → is_number a ≡ true → is_number b ≡ true → is_number c ≡ true → Stands s at fs ls
        → GateThere (two_named (decimal_of a) (decimal_of b) (decimal_of c) s at) s (r ∷ w ∷ a ∷ b ∷ c ∷ fs) ls ⊎ NoGate (two_named (decimal_of a) (decimal_of b) (decimal_of c) s at) (r ∷ w ∷ a ∷ b ∷ c ∷ fs)
    unfolding two_named first_ended ended
    two-named a b c [] at ia ib ic h = inr (record {
      is = rw (word_over 88 79 82 (letter 88 refl) (letter 79 refl) (letter 82 refl) s at ls h, word_over 65 78 68 (letter 65 refl) (letter 78 refl) (letter 68 refl) s at ls h);
      not = none (a ∷ b ∷ c ∷ []) (reads_long 2 (r ∷ w ∷ a ∷ b ∷ c ∷ []) refl);
    })
    two-named a b c (op ∷ g ∷ fs) at ia ib ic h = inr (record {
      is = rw (word_more 88 79 82 (letter 88 refl) (letter 79 refl) (letter 82 refl) s at ls op g fs h, word_more 65 78 68 (letter 65 refl) (letter 78 refl) (letter 68 refl) s at ls op g fs h);
      not = none (a ∷ b ∷ c ∷ op ∷ g ∷ fs) (reads_long 2 (r ∷ w ∷ a ∷ b ∷ c ∷ op ∷ g ∷ fs) (ne_eqb (length (r ∷ w ∷ a ∷ b ∷ c ∷ op ∷ g ∷ fs)) 6 (λ e. omega (arith, e))));
    })
    two-named a b c (op ∷ []) at ia ib ic h = by (same_bytes op xor_word) (same_bytes op and_word) refl refl
      where
        reads : reads_line 2 (r ∷ w ∷ a ∷ b ∷ c ∷ op ∷ []) ≡ true
        reads = unfold reads_line in unfold every in rw (is-r, is-w, ia, ib, ic, two, one)

        by : (x y : Bool) → same_bytes op xor_word ≡ x → same_bytes op and_word ≡ y
            → GateThere (two_named (decimal_of a) (decimal_of b) (decimal_of c) s at) s (r ∷ w ∷ a ∷ b ∷ c ∷ op ∷ []) ls ⊎ NoGate (two_named (decimal_of a) (decimal_of b) (decimal_of c) s at) (r ∷ w ∷ a ∷ b ∷ c ∷ op ∷ [])
        by true y e f = inl (record {
          end = at + 3;
          is = unfold two_named in unfold first_ended in unfold gate_in in rw (word-is 88 79 82 (letter 88 refl) (letter 79 refl) (letter 82 refl) s at ls op h (unfold xor_word in e), e);
          next = word-lines 88 79 82 (letter 88 refl) (letter 79 refl) (letter 82 refl) s at ls op h (unfold xor_word in e);
          ok = gate-two (r ∷ w ∷ a ∷ b ∷ c ∷ op ∷ []) (no_one (a ∷ b ∷ c ∷ op ∷ [])) ∙ rw (reads, e);
        })
        by false true e f = inl (record {
          end = at + 3;
          is = unfold two_named in unfold first_ended in unfold ended in unfold gate_in in rw (word-other 88 79 82 (letter 88 refl) (letter 79 refl) (letter 82 refl) s at ls op [] h (unfold xor_word in e), word-is 65 78 68 (letter 65 refl) (letter 78 refl) (letter 68 refl) s at ls op h (unfold and_word in f), e, f);
          next = word-lines 65 78 68 (letter 65 refl) (letter 78 refl) (letter 68 refl) s at ls op h (unfold and_word in f);
          ok = gate-two (r ∷ w ∷ a ∷ b ∷ c ∷ op ∷ []) (no_one (a ∷ b ∷ c ∷ op ∷ [])) ∙ rw (reads, e, f);
        })
        by false false e f = inr (record {
          is = unfold two_named in unfold first_ended in unfold ended in rw (word-other 88 79 82 (letter 88 refl) (letter 79 refl) (letter 82 refl) s at ls op [] h (unfold xor_word in e), word-other 65 78 68 (letter 65 refl) (letter 78 refl) (letter 68 refl) s at ls op [] h (unfold and_word in f));
          not = gate-two (r ∷ w ∷ a ∷ b ∷ c ∷ op ∷ []) (no_one (a ∷ b ∷ c ∷ op ∷ [])) ∙ rw (reads, e, f);
        })

    -- a wire that is missing, or is no number
    short : (fs : List (List ℕ)) → eqb (length (r ∷ w ∷ fs)) 6 ≡ false → gate_line (r ∷ w ∷ fs) ≡ false
    short fs e = none fs (reads_long 2 (r ∷ w ∷ fs) e)

    bad : (fs : List (List ℕ)) → every is_number (take 5 (r ∷ w ∷ fs)) ≡ false → gate_line (r ∷ w ∷ fs) ≡ false
    bad fs e = none fs (reads-numbers 2 (r ∷ w ∷ fs) e)

    two-third : (a b : List ℕ) (fs : List (List ℕ)) (at : ℕ) → is_number a ≡ true → is_number b ≡ true → Stands s at fs ls
        → GateThere (with_number None (λ c i. two_named (decimal_of a) (decimal_of b) c s i) (number_at s at)) s (r ∷ w ∷ a ∷ b ∷ fs) ls
        ⊎ NoGate (with_number None (λ c i. two_named (decimal_of a) (decimal_of b) c s i) (number_at s at)) (r ∷ w ∷ a ∷ b ∷ fs)
    unfolding with_number
    two-third a b [] at ia ib h = inr (record { is = rw (number-none s at ls h); not = short (a ∷ b ∷ []) refl })
    two-third a b (c ∷ fs) at ia ib h = by (is_number c) refl
      where
        by : (t : Bool) → is_number c ≡ t
            → GateThere (with_number None (λ c i. two_named (decimal_of a) (decimal_of b) c s i) (number_at s at)) s (r ∷ w ∷ a ∷ b ∷ c ∷ fs) ls
            ⊎ NoGate (with_number None (λ c i. two_named (decimal_of a) (decimal_of b) c s i) (number_at s at)) (r ∷ w ∷ a ∷ b ∷ c ∷ fs)
        by false e = inr (record {
          is = unfold with_number in rw (number-wrong s at ls c fs h e);
          not = bad (a ∷ b ∷ c ∷ fs) (unfold every in rw (is-r, is-w, ia, ib, e));
        })
        by true e = rw (number-some s at ls c fs h e) (two-named a b c fs (blanks_end s (at + length c)) ia ib e (number-next s at ls c fs h))

    two-second : (a : List ℕ) (fs : List (List ℕ)) (at : ℕ) → is_number a ≡ true → Stands s at fs ls
        → GateThere (with_number None (λ b f. with_number None (λ c i. two_named (decimal_of a) b c s i) (number_at s f)) (number_at s at)) s (r ∷ w ∷ a ∷ fs) ls
        ⊎ NoGate (with_number None (λ b f. with_number None (λ c i. two_named (decimal_of a) b c s i) (number_at s f)) (number_at s at)) (r ∷ w ∷ a ∷ fs)
    unfolding with_number
    two-second a [] at ia h = inr (record { is = rw (number-none s at ls h); not = short (a ∷ []) refl })
    two-second a (b ∷ fs) at ia h = by (is_number b) refl
      where
        by : (t : Bool) → is_number b ≡ t
            → GateThere (with_number None (λ b f. with_number None (λ c i. two_named (decimal_of a) b c s i) (number_at s f)) (number_at s at)) s (r ∷ w ∷ a ∷ b ∷ fs) ls
            ⊎ NoGate (with_number None (λ b f. with_number None (λ c i. two_named (decimal_of a) b c s i) (number_at s f)) (number_at s at)) (r ∷ w ∷ a ∷ b ∷ fs)
        by false e = inr (record {
          is = unfold with_number in rw (number-wrong s at ls b fs h e);
          not = bad (a ∷ b ∷ fs) (unfold every in rw (is-r, is-w, ia, e));
        })
        by true e = rw (number-some s at ls b fs h e) (unfold with_number in two-third a b fs (blanks_end s (at + length b)) ia e (number-next s at ls b fs h))

    two-line : (fs : List (List ℕ)) (at : ℕ) → Stands s at fs ls → GateThere (two_wires s at) s (r ∷ w ∷ fs) ls ⊎ NoGate (two_wires s at) (r ∷ w ∷ fs)
    unfolding two_wires with_number
    two-line [] at h = inr (record { is = rw (number-none s at ls h); not = short [] refl })
    two-line (a ∷ fs) at h = by (is_number a) refl
      where
        by : (t : Bool) → is_number a ≡ t → GateThere (two_wires s at) s (r ∷ w ∷ a ∷ fs) ls ⊎ NoGate (two_wires s at) (r ∷ w ∷ a ∷ fs)
        by false e = inr (record {
          is = unfold two_wires in unfold with_number in rw (number-wrong s at ls a fs h e);
          not = bad (a ∷ fs) (unfold every in rw (is-r, is-w, e));
        })
        by true e = unfold two_wires in rw (number-some s at ls a fs h e) (unfold with_number in two-second a fs (blanks_end s (at + length a)) e (number-next s at ls a fs h))

  -- one wire is read
  module _ (one-read : decimal_of r ≡ 1) where
    no-two : (fs : List (List ℕ)) → reads_line 2 (r ∷ w ∷ fs) ≡ false
    no-two fs = reads_count 2 (r ∷ w ∷ fs) (rw one-read)

    lone : (fs : List (List ℕ)) → reads_line 1 (r ∷ w ∷ fs) ≡ false → gate_line (r ∷ w ∷ fs) ≡ false
    lone fs e = gate-not (r ∷ w ∷ fs) (no-two fs) e

    one-short : (fs : List (List ℕ)) → eqb (length (r ∷ w ∷ fs)) 5 ≡ false → gate_line (r ∷ w ∷ fs) ≡ false
    one-short fs e = lone fs (reads_long 1 (r ∷ w ∷ fs) e)

    one-bad : (fs : List (List ℕ)) → every is_number (take 4 (r ∷ w ∷ fs)) ≡ false → gate_line (r ∷ w ∷ fs) ≡ false
    one-bad fs e = lone fs (reads-numbers 1 (r ∷ w ∷ fs) e)

    one-named : (a c : List ℕ) (fs : List (List ℕ)) (at : ℕ) → is_number a ≡ true → is_number c ≡ true → Stands s at fs ls
        → GateThere (one_named (decimal_of a) (decimal_of c) s at) s (r ∷ w ∷ a ∷ c ∷ fs) ls ⊎ NoGate (one_named (decimal_of a) (decimal_of c) s at) (r ∷ w ∷ a ∷ c ∷ fs)
    unfolding one_named ended
    one-named a c [] at ia ic h = inr (record {
      is = rw (word_over 73 78 86 (letter 73 refl) (letter 78 refl) (letter 86 refl) s at ls h);
      not = one-short (a ∷ c ∷ []) refl;
    })
    one-named a c (op ∷ g ∷ fs) at ia ic h = inr (record {
      is = rw (word_more 73 78 86 (letter 73 refl) (letter 78 refl) (letter 86 refl) s at ls op g fs h);
      not = one-short (a ∷ c ∷ op ∷ g ∷ fs) (ne_eqb (length (r ∷ w ∷ a ∷ c ∷ op ∷ g ∷ fs)) 5 (λ e. omega (arith, e)));
    })
    one-named a c (op ∷ []) at ia ic h = by (same_bytes op inv_word) refl
      where
        reads : reads_line 1 (r ∷ w ∷ a ∷ c ∷ op ∷ []) ≡ true
        reads = unfold reads_line in unfold every in rw (is-r, is-w, ia, ic, one-read, one)

        by : (x : Bool) → same_bytes op inv_word ≡ x
            → GateThere (one_named (decimal_of a) (decimal_of c) s at) s (r ∷ w ∷ a ∷ c ∷ op ∷ []) ls ⊎ NoGate (one_named (decimal_of a) (decimal_of c) s at) (r ∷ w ∷ a ∷ c ∷ op ∷ [])
        by true e = inl (record {
          end = at + 3;
          is = unfold one_named in unfold ended in unfold gate_in in unfold same_bytes in unfold xor_word in unfold and_word in rw (word-is 73 78 86 (letter 73 refl) (letter 78 refl) (letter 86 refl) s at ls op h (unfold inv_word in e));
          next = word-lines 73 78 86 (letter 73 refl) (letter 78 refl) (letter 86 refl) s at ls op h (unfold inv_word in e);
          ok = gate-one (r ∷ w ∷ a ∷ c ∷ op ∷ []) (no-two (a ∷ c ∷ op ∷ [])) ∙ rw (reads, e);
        })
        by false e = inr (record {
          is = unfold one_named in unfold ended in rw (word-other 73 78 86 (letter 73 refl) (letter 78 refl) (letter 86 refl) s at ls op [] h (unfold inv_word in e));
          not = gate-one (r ∷ w ∷ a ∷ c ∷ op ∷ []) (no-two (a ∷ c ∷ op ∷ [])) ∙ rw (reads, e);
        })

    one-second : (a : List ℕ) (fs : List (List ℕ)) (at : ℕ) → is_number a ≡ true → Stands s at fs ls
        → GateThere (with_number None (λ c f. one_named (decimal_of a) c s f) (number_at s at)) s (r ∷ w ∷ a ∷ fs) ls
        ⊎ NoGate (with_number None (λ c f. one_named (decimal_of a) c s f) (number_at s at)) (r ∷ w ∷ a ∷ fs)
    unfolding with_number
    one-second a [] at ia h = inr (record { is = rw (number-none s at ls h); not = one-short (a ∷ []) refl })
    one-second a (c ∷ fs) at ia h = by (is_number c) refl
      where
        by : (t : Bool) → is_number c ≡ t
            → GateThere (with_number None (λ c f. one_named (decimal_of a) c s f) (number_at s at)) s (r ∷ w ∷ a ∷ c ∷ fs) ls
            ⊎ NoGate (with_number None (λ c f. one_named (decimal_of a) c s f) (number_at s at)) (r ∷ w ∷ a ∷ c ∷ fs)
        by false e = inr (record {
          is = unfold with_number in rw (number-wrong s at ls c fs h e);
          not = one-bad (a ∷ c ∷ fs) (unfold every in rw (is-r, is-w, ia, e));
        })
        by true e = rw (number-some s at ls c fs h e) (one-named a c fs (blanks_end s (at + length c)) ia e (number-next s at ls c fs h))

    one_line : (fs : List (List ℕ)) (at : ℕ) → Stands s at fs ls → GateThere (one_wire s at) s (r ∷ w ∷ fs) ls ⊎ NoGate (one_wire s at) (r ∷ w ∷ fs)
    unfolding one_wire with_number
    one_line [] at h = inr (record { is = rw (number-none s at ls h); not = one-short [] refl })
    one_line (a ∷ fs) at h = by (is_number a) refl
      where
        by : (t : Bool) → is_number a ≡ t → GateThere (one_wire s at) s (r ∷ w ∷ a ∷ fs) ls ⊎ NoGate (one_wire s at) (r ∷ w ∷ a ∷ fs)
        by false e = inr (record {
          is = unfold one_wire in unfold with_number in rw (number-wrong s at ls a fs h e);
          not = one-bad (a ∷ fs) (unfold every in rw (is-r, is-w, e));
        })
        by true e = unfold one_wire in rw (number-some s at ls a fs h e) (unfold with_number in one-second a fs (blanks_end s (at + length a)) e (number-next s at ls a fs h))

-- the counts, then the wires
wires-line : (s : List ℕ) (ls : List (List (List ℕ))) (r w : List ℕ) (fs : List (List ℕ)) (at : ℕ) → is_number r ≡ true → is_number w ≡ true → Stands s at fs ls
    → GateThere (wires_at (decimal_of r) (decimal_of w) s at) s (r ∷ w ∷ fs) ls ⊎ NoGate (wires_at (decimal_of r) (decimal_of w) s at) (r ∷ w ∷ fs)
unfolding wires_at
wires-line s ls r w fs at ir iw h = by (eqb (decimal_of w) 1) (eqb (decimal_of r) 2) (eqb (decimal_of r) 1) refl refl refl
  where
    by : (x y z : Bool) → eqb (decimal_of w) 1 ≡ x → eqb (decimal_of r) 2 ≡ y → eqb (decimal_of r) 1 ≡ z
        → GateThere (cond x (cond y (two_wires s at) (cond z (one_wire s at) None)) None) s (r ∷ w ∷ fs) ls
        ⊎ NoGate (cond x (cond y (two_wires s at) (cond z (one_wire s at) None)) None) (r ∷ w ∷ fs)
    by false y z e f g = inr (record { is = refl; not = gate-not (r ∷ w ∷ fs) (reads-set 2 (r ∷ w ∷ fs) e) (reads-set 1 (r ∷ w ∷ fs) e) })
    by true true z e f g = two-line s ls r w ir iw (eqb-true (decimal_of w) 1 e) (eqb-true (decimal_of r) 2 f) fs at h
    by true false true e f g = one_line s ls r w ir iw (eqb-true (decimal_of w) 1 e) (eqb-true (decimal_of r) 1 g) fs at h
    by true false false e f g = inr (record { is = refl; not = gate-not (r ∷ w ∷ fs) (reads_count 2 (r ∷ w ∷ fs) f) (reads_count 1 (r ∷ w ∷ fs) g) })

short-line : (fs : List (List ℕ)) → eqb (length fs) 6 ≡ false → eqb (length fs) 5 ≡ false → gate_line fs ≡ false
short-line fs e f = gate-not fs (reads_long 2 fs e) (reads_long 1 fs f)

bad-line : (fs : List (List ℕ)) → every is_number (take 5 fs) ≡ false → every is_number (take 4 fs) ≡ false → gate_line fs ≡ false
bad-line fs e f = gate-not fs (reads-numbers 2 fs e) (reads-numbers 1 fs f)

gate_second : (s : List ℕ) (ls : List (List (List ℕ))) (r : List ℕ) (fs : List (List ℕ)) (at : ℕ) → is_number r ≡ true → Stands s at fs ls
    → GateThere (with_number None (λ w f. wires_at (decimal_of r) w s f) (number_at s at)) s (r ∷ fs) ls
    ⊎ NoGate (with_number None (λ w f. wires_at (decimal_of r) w s f) (number_at s at)) (r ∷ fs)
unfolding with_number
gate_second s ls r [] at ir h = inr (record { is = rw (number-none s at ls h); not = short-line (r ∷ []) refl refl })
gate_second s ls r (w ∷ fs) at ir h = by (is_number w) refl
  where
    by : (t : Bool) → is_number w ≡ t
        → GateThere (with_number None (λ w f. wires_at (decimal_of r) w s f) (number_at s at)) s (r ∷ w ∷ fs) ls
        ⊎ NoGate (with_number None (λ w f. wires_at (decimal_of r) w s f) (number_at s at)) (r ∷ w ∷ fs)
    by false e = inr (record {
      is = unfold with_number in rw (number-wrong s at ls w fs h e);
      not = bad-line (r ∷ w ∷ fs) (unfold every in rw (ir, e)) (unfold every in rw (ir, e));
    })
    by true e = rw (number-some s at ls w fs h e) (unfold with_number in wires-line s ls r w fs (blanks_end s (at + length w)) ir e (number-next s at ls w fs h))

gate-line : (s : List ℕ) (at : ℕ) (fs : List (List ℕ)) (ls : List (List (List ℕ))) → Stands s at fs ls → GateThere (gate_at s at) s fs ls ⊎ NoGate (gate_at s at) fs
unfolding gate_at with_number
gate-line s at [] ls h = inr (record { is = rw (number-none s at ls h); not = short-line [] refl refl })
gate-line s at (r ∷ fs) ls h = by (is_number r) refl
  where
    by : (t : Bool) → is_number r ≡ t → GateThere (gate_at s at) s (r ∷ fs) ls ⊎ NoGate (gate_at s at) (r ∷ fs)
    by false e = inr (record {
      is = unfold gate_at in unfold with_number in rw (number-wrong s at ls r fs h e);
      not = bad-line (r ∷ fs) (unfold every in rw e) (unfold every in rw e);
    })
    by true e = unfold gate_at in rw (number-some s at ls r fs h e) (unfold with_number in gate_second s ls r fs (blanks_end s (at + length r)) e (number-next s at ls r fs h))

-- ---- the gates' lines
record GatesThere (s : List ℕ) (k at : ℕ) (ls : List (List (List ℕ))) : Type 0 where
  is : gates_at k s at ≡ GatesRead.Read (map gate_in ls)
  ok : (eqb (length ls) k && every gate_line ls) ≡ true

record NoGates (s : List ℕ) (k at : ℕ) (ls : List (List (List ℕ))) : Type 0 where
  is : gates_at k s at ≡ GatesRead.Wrong
  not : (eqb (length ls) k && every gate_line ls) ≡ false

gates_lines : (s : List ℕ) (k at : ℕ) (ls : List (List (List ℕ))) → lines_of (drop at s) ≡ ls → GatesThere s k at ls ⊎ NoGates s k at ls
unfolding gates_at with_gate
gates_lines s zero at [] h = inl (record { is = rw (le-leb (length s) (line_start s at) (start_none s at h)); ok = unfold every in refl })
gates_lines s zero at (l ∷ ls) h = inr (record {
  is = rw (lt-leb (length s) (line_start s at) (start-some s at l ls h).1);
  not = rw (ne_eqb (length (l ∷ ls)) 0 (λ e. omega (arith, e)));
})
gates_lines s (suc k) at [] h = by (gate-line s (line_start s at) [] [] (end_stands s (line_start s at) (start_none s at h)))
  where
    by : GateThere (gate_at s (line_start s at)) s [] [] ⊎ NoGate (gate_at s (line_start s at)) [] → GatesThere s (suc k) at [] ⊎ NoGates s (suc k) at []
    by (inl r) = clash (sym r.ok ∙ short-line [] refl refl)
    by (inr r) = inr (record { is = unfold gates_at in unfold with_gate in rw r.is; not = rw (ne_eqb 0 (suc k) (λ e. omega (arith, e))) })
gates_lines s (suc k) at (l ∷ ls) h = by (gate-line s (line_start s at) l ls (start-some s at l ls h).0) (λ e n. gates_lines s k e ls n)
  where
    by : GateThere (gate_at s (line_start s at)) s l ls ⊎ NoGate (gate_at s (line_start s at)) l
        → ((e : ℕ) → lines_of (drop e s) ≡ ls → GatesThere s k e ls ⊎ NoGates s k e ls)
        → GatesThere s (suc k) at (l ∷ ls) ⊎ NoGates s (suc k) at (l ∷ ls)
    by (inr r) more = inr (record {
      is = unfold gates_at in unfold with_gate in rw r.is;
      not = unfold every in rw r.not (and-false (eqb (length (l ∷ ls)) (suc k)));
    })
    by (inl r) more = rest (more r.end r.next)
      where
        rest : GatesThere s k r.end ls ⊎ NoGates s k r.end ls → GatesThere s (suc k) at (l ∷ ls) ⊎ NoGates s (suc k) at (l ∷ ls)
        rest (inl q) = inl (record {
          is = unfold gates_at in unfold with_gate in unfold gate_then in rw (r.is, q.is);
          ok = unfold every in rw (eqb-suc-suc (length ls) k, r.ok) q.ok;
        })
        rest (inr q) = inr (record {
          is = unfold gates_at in unfold with_gate in unfold gate_then in rw (r.is, q.is);
          not = unfold every in rw (eqb-suc-suc (length ls) k, r.ok) q.not;
        })

-- ---- the whole text
pub record Reads (s : List ℕ) (h : Head) : Type 0 where
  pub head : head_at s ≡ Some h
  pub gates : gates_at h.gates s h.at ≡ GatesRead.Read (circuit_of s).gates
  pub count : h.gates ≡ length (circuit_of s).gates
  pub wires : h.wires ≡ (circuit_of s).wires
  pub values : h.values ≡ length (circuit_of s).inputs
  pub inputs : h.inputs ≡ sum_of (circuit_of s).inputs
  pub outputs : h.outputs ≡ sum_of (circuit_of s).outputs
  pub end : ℕ
  pub widths : numbers_at h.values s h.first ≡ NumbersRead.Read (circuit_of s).inputs end

pub record NoRead (s : List ℕ) : Type 0 where
  pub not : format_ok (lines_of s) ≡ false
  pub wrong : (h : Head) → head_at s ≡ Some h → gates_at h.gates s h.at ≡ GatesRead.Wrong

pub record GoodRead (s : List ℕ) : Type 0 where
  pub ok : format_ok (lines_of s) ≡ true
  pub found : Head
  pub reads : Reads s found

no_head : {A : Type 0} (h : Head) → None ≡ Some h → A
no_head h e = absurd (let z : ◌≡◌ {A = ℕ} 0 1 = cc in omega arith)

headless : (s : List ℕ) → format_ok (lines_of s) ≡ false → head_at s ≡ None → NoRead s
headless s n e = record { not = n; wrong = λ h q. no_head h (sym e ∙ q) }

-- the format, line by line
format-is : (l0 l1 l2 : List (List ℕ)) (rest : List (List (List ℕ)))
    → format_ok (l0 ∷ l1 ∷ l2 ∷ rest) ≡ (contents_line l0 && (values_line l1 && (values_line l2 && (eqb (length rest) (number_in l0 0) && every gate_line rest))))
unfolding format_ok
format-is l0 l1 l2 rest =
    let three : 3 + number_in l0 0 ≡ suc (suc (suc (number_in l0 0))) = omega arith in
    rw (le-leb 3 (length (l0 ∷ l1 ∷ l2 ∷ rest)) (omega arith), three, eqb-suc-suc (suc (suc (length rest))) (suc (suc (number_in l0 0))), eqb-suc-suc (suc (length rest)) (suc (number_in l0 0)), eqb-suc-suc (length rest) (number_in l0 0))

format_first : (l0 : List (List ℕ)) (ls : List (List (List ℕ))) → contents_line l0 ≡ false → format_ok (l0 ∷ ls) ≡ false
format_first l0 [] e = unfold format_ok in refl
format_first l0 (l1 ∷ []) e = unfold format_ok in refl
format_first l0 (l1 ∷ l2 ∷ rest) e = format-is l0 l1 l2 rest ∙ rw e

format_second : (l0 l1 : List (List ℕ)) (ls : List (List (List ℕ))) → values_line l1 ≡ false → format_ok (l0 ∷ l1 ∷ ls) ≡ false
format_second l0 l1 [] e = unfold format_ok in refl
format_second l0 l1 (l2 ∷ rest) e = format-is l0 l1 l2 rest ∙ rw e (and-false (contents_line l0))

-- the first line
record ContentsThere (s : List ℕ) (l0 : List (List ℕ)) (ls : List (List (List ℕ))) : Type 0 where
  end : ℕ
  is : head_at s ≡ values_head (number_in l0 0) (number_in l0 1) s end
  next : Stands s end [] ls
  ok : contents_line l0 ≡ true

record NoContents (s : List ℕ) (l0 : List (List ℕ)) : Type 0 where
  is : head_at s ≡ None
  not : contents_line l0 ≡ false

contents-line : (s : List ℕ) (l0 : List (List ℕ)) (ls : List (List (List ℕ))) → Stands s (line_start s 0) l0 ls → ContentsThere s l0 ls ⊎ NoContents s l0
unfolding head_at with_number contents_line
contents-line s [] ls h = inr (record { is = rw (number-none s (line_start s 0) ls h); not = refl })
contents-line s (f ∷ fs) ls h = by (is_number f) refl
  where
    by : (t : Bool) → is_number f ≡ t → ContentsThere s (f ∷ fs) ls ⊎ NoContents s (f ∷ fs)
    by false e = inr (record {
      is = unfold head_at in unfold with_number in rw (number-wrong s (line_start s 0) ls f fs h e);
      not = unfold contents_line in unfold every in rw e (and-false (eqb (length (f ∷ fs)) 2));
    })
    by true e = second fs (number-next s (line_start s 0) ls f fs h) (number-some s (line_start s 0) ls f fs h e)
      where
        second : (fs : List (List ℕ)) → Stands s (blanks_end s (line_start s 0 + length f)) fs ls
            → number_at s (line_start s 0) ≡ Some (decimal_of f, blanks_end s (line_start s 0 + length f)) → ContentsThere s (f ∷ fs) ls ⊎ NoContents s (f ∷ fs)
        second [] k n = inr (record {
          is = unfold head_at in unfold with_number in rw (n, number-none s (blanks_end s (line_start s 0 + length f)) ls k);
          not = unfold contents_line in refl;
        })
        second (g ∷ gs) k n = third (is_number g) refl
          where
            third : (t : Bool) → is_number g ≡ t → ContentsThere s (f ∷ g ∷ gs) ls ⊎ NoContents s (f ∷ g ∷ gs)
            third false q = inr (record {
              is = unfold head_at in unfold with_number in rw (n, number-wrong s (blanks_end s (line_start s 0 + length f)) ls g gs k q);
              not = unfold contents_line in unfold every in rw (e, q) (and-false (eqb (length (f ∷ g ∷ gs)) 2));
            })
            third true q = last gs (number-next s (blanks_end s (line_start s 0 + length f)) ls g gs k) (number-some s (blanks_end s (line_start s 0 + length f)) ls g gs k q)
              where
                last : (gs : List (List ℕ)) → Stands s (blanks_end s (blanks_end s (line_start s 0 + length f) + length g)) gs ls
                    → number_at s (blanks_end s (line_start s 0 + length f)) ≡ Some (decimal_of g, blanks_end s (blanks_end s (line_start s 0 + length f) + length g))
                    → ContentsThere s (f ∷ g ∷ gs) ls ⊎ NoContents s (f ∷ g ∷ gs)
                last [] m o = inl (record {
                  end = blanks_end s (blanks_end s (line_start s 0 + length f) + length g);
                  is = unfold head_at in unfold with_number in rw (n, o, over_none s (blanks_end s (blanks_end s (line_start s 0 + length f) + length g)) ls m);
                  next = m;
                  ok = unfold contents_line in unfold every in rw (e, q);
                })
                last (x ∷ xs) m o = inr (record {
                  is = unfold head_at in unfold with_number in rw (n, o, over-some s (blanks_end s (blanks_end s (line_start s 0 + length f) + length g)) ls x xs m);
                  not = unfold contents_line in rw (ne_eqb (length (f ∷ g ∷ x ∷ xs)) 2 (λ z. omega (arith, z)));
                })

-- the line of the values that stands after the lines before it
next-values : (s : List ℕ) (at : ℕ) (l : List (List ℕ)) (ls : List (List (List ℕ))) → Stands s at [] (l ∷ ls) → ValuesThere s (line_start s at) l ls ⊎ NoValues s (line_start s at) l
next-values s at l ls h = values-line s (line_start s at) l ls (start-some s at l ls (over_lines s at (l ∷ ls) h)).0

no-values : (s : List ℕ) (at : ℕ) → Stands s at [] [] → values_at s (line_start s at) ≡ None
no-values s at h = by (values-line s (line_start s at) [] [] (end_stands s (line_start s at) (start_none s at (over_lines s at [] h))))
  where
    by : ValuesThere s (line_start s at) [] [] ⊎ NoValues s (line_start s at) [] → values_at s (line_start s at) ≡ None
    by (inl r) = clash (sym r.ok ∙ (unfold values_line in unfold every in ne_eqb 0 (suc (number_in [] 0)) (λ e. omega (arith, e))))
    by (inr r) = r.is

values_count : (fs : List (List ℕ)) → values_line fs ≡ true → number_in fs 0 ≡ length (map decimal_of (drop 1 fs))
unfolding values_line
values_count [] e = absurd (omega (arith, eqb-true 0 (suc (number_in [] 0)) (both_true (every is_number []) (eqb 0 (suc (number_in [] 0))) e).1))
values_count (f ∷ fs) e =
    omega (arith, eqb-true (length (f ∷ fs)) (suc (decimal_of f)) (both_true (every is_number (f ∷ fs)) (eqb (length (f ∷ fs)) (suc (decimal_of f))) e).1, length-map fs decimal_of)

module _ (s : List ℕ) (l0 : List (List ℕ)) (ls : List (List (List ℕ))) (lines : lines_of s ≡ l0 ∷ ls) (c : ContentsThere s l0 ls) where
  wrong : format_ok (l0 ∷ ls) ≡ false → values_head (number_in l0 0) (number_in l0 1) s c.end ≡ None → NoRead s
  wrong n e = headless s (ap format_ok lines ∙ n) (c.is ∙ e)

abbrev head_from : List (List ℕ) → List (List ℕ) → List (List ℕ) → ℕ → ℕ → Head
head_from l0 l1 l2 first at =
    record {
      gates = number_in l0 0;
      wires = number_in l0 1;
      values = number_in l1 0;
      first = first;
      inputs = sum_of (map decimal_of (drop 1 l1));
      outputs = sum_of (map decimal_of (drop 1 l2));
      at = at;
    }

whole : (s : List ℕ) (l0 l1 l2 : List (List ℕ)) (rest : List (List (List ℕ))) → lines_of s ≡ l0 ∷ l1 ∷ l2 ∷ rest → (c : ContentsThere s l0 (l1 ∷ l2 ∷ rest))
    → (r : ValuesThere s (line_start s c.end) l1 (l2 ∷ rest)) → (q : ValuesThere s (line_start s r.end) l2 rest)
    → GatesThere s (number_in l0 0) q.end rest ⊎ NoGates s (number_in l0 0) q.end rest → GoodRead s ⊎ NoRead s
whole s l0 l1 l2 rest lines c r q g = by g
  where
    reads : head_at s ≡ Some (head_from l0 l1 l2 r.first q.end)
    reads = c.is ∙ (unfold values_head in unfold with_values in rw (r.is, q.is))

    it : circuit_of s ≡ circuit_in (l0 ∷ l1 ∷ l2 ∷ rest)
    it = unfold circuit_of in ap circuit_in lines

    by : GatesThere s (number_in l0 0) q.end rest ⊎ NoGates s (number_in l0 0) q.end rest → GoodRead s ⊎ NoRead s
    by (inl k) = inl (record {
      ok = ap format_ok lines ∙ format-is l0 l1 l2 rest ∙ rw (c.ok, r.ok, q.ok) k.ok;
      found = head_from l0 l1 l2 r.first q.end;
      reads = record {
        head = reads;
        gates = rw it (unfold circuit_in in k.is);
        count = rw it (unfold circuit_in in (sym (eqb-true (length rest) (number_in l0 0) (both_true (eqb (length rest) (number_in l0 0)) (every gate_line rest) k.ok).0) ∙ sym (length-map rest gate_in)));
        wires = rw it (unfold circuit_in in refl);
        values = rw it (unfold circuit_in in values_count l1 r.ok);
        inputs = rw it (unfold circuit_in in refl);
        outputs = rw it (unfold circuit_in in refl);
        end = r.end;
        widths = rw it (unfold circuit_in in r.each);
      };
    })
    by (inr k) = inr (record {
      not = ap format_ok lines ∙ format-is l0 l1 l2 rest ∙ rw (c.ok, r.ok, q.ok) k.not;
      wrong = λ h e.
          let f : head_from l0 l1 l2 r.first q.end ≡ h = only (head_from l0 l1 l2 r.first q.end) h (sym reads ∙ e) in
          ap (λ (x : Head). gates_at x.gates s x.at) (sym f) ∙ k.is;
    })
      where
        only : (x y : Head) → Some x ≡ Some y → x ≡ y
        only x y e = cc

after_second : (s : List ℕ) (l0 l1 : List (List ℕ)) (ls : List (List (List ℕ))) → lines_of s ≡ l0 ∷ l1 ∷ ls → (c : ContentsThere s l0 (l1 ∷ ls))
    → ValuesThere s (line_start s c.end) l1 ls → GoodRead s ⊎ NoRead s
unfolding values_head with_values
after_second s l0 l1 [] e c r = inr (wrong s l0 (l1 ∷ []) e c (unfold format_ok in refl) (rw (r.is, no-values s r.end r.next)))
after_second s l0 l1 (l2 ∷ rest) e c r = third (next-values s r.end l2 rest r.next)
  where
    third : ValuesThere s (line_start s r.end) l2 rest ⊎ NoValues s (line_start s r.end) l2 → GoodRead s ⊎ NoRead s
    third (inr q) =
        inr (wrong s l0 (l1 ∷ l2 ∷ rest) e c
        (format-is l0 l1 l2 rest ∙ rw (q.not, and-false (values_line l1)) (and-false (contents_line l0)))
        (unfold values_head in unfold with_values in rw (r.is, q.is)))
    third (inl q) = whole s l0 l1 l2 rest e c r q (gates_lines s (number_in l0 0) q.end rest (over_lines s q.end rest q.next))

after_first : (s : List ℕ) (l0 : List (List ℕ)) (ls : List (List (List ℕ))) → lines_of s ≡ l0 ∷ ls → ContentsThere s l0 ls → GoodRead s ⊎ NoRead s
unfolding values_head with_values
after_first s l0 [] e c = inr (wrong s l0 [] e c (unfold format_ok in refl) (rw (no-values s c.end c.next)))
after_first s l0 (l1 ∷ ls) e c = second (next-values s c.end l1 ls c.next)
  where
    second : ValuesThere s (line_start s c.end) l1 ls ⊎ NoValues s (line_start s c.end) l1 → GoodRead s ⊎ NoRead s
    second (inr r) = inr (wrong s l0 (l1 ∷ ls) e c (format_second l0 l1 ls r.not) (unfold values_head in unfold with_values in rw r.is))
    second (inl r) = after_second s l0 l1 ls e c r

-- what the code reads of a text is the circuit that its lines say, or it finds the format broken
pub text_reads : (s : List ℕ) → GoodRead s ⊎ NoRead s
text_reads s = lines (lines_of s) refl
  where
    lines : (ls : List (List (List ℕ))) → lines_of s ≡ ls → GoodRead s ⊎ NoRead s
    lines [] e = inr (headless s (ap format_ok e ∙ (unfold format_ok in refl)) none)
      where
        none : head_at s ≡ None
        none = unfold head_at in unfold with_number in rw (number-none s (line_start s 0) [] (end_stands s (line_start s 0) (start_none s 0 e)))
    lines (l0 ∷ ls) e = first (contents-line s l0 ls (start-some s 0 l0 ls e).0)
      where
        first : ContentsThere s l0 ls ⊎ NoContents s l0 → GoodRead s ⊎ NoRead s
        first (inr c) = inr (headless s (ap format_ok e ∙ format_first l0 ls c.not) c.is)
        first (inl c) = after_first s l0 ls e c
