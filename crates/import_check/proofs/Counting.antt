-- The first pass is refusal 23 and the counts.
--     sized-is               the loop over the gates' lines, by the gates that they say
--     good-ok                refusal 23, by what the lines before the gates say and the gates
--     heading, surveying     what closes the needs of the functions
-- Assumes nothing.
use Rattle.std.proofs.Common.{Option, Some, None}
use Prim.Native.Nat.{ℕ, zero, suc, ◌+◌, ◌-◌, ◌*◌, ◌<◌, ◌≤◌}
use mathlib.Core.Path.{◌≡◌, refl, sym, ap, ◌∙◌}
use mathlib.Core.Logic.{◌⊎◌, inl, inr}
use mathlib.Core.Bool.{Bool, true, false, cond, ◌&&◌}
use mathlib.Core.List.{List, []}
use native.Mathlib.Omega.{arith}
use borrow.Author.Rules.{rules}
use borrow.Author.Tests.{not-true, not-false, le-leb, lt-leb, leb-true}
use lib.Dec.{eqb, leb}
use lib.ListN.{length, take}
use lib.Seq.{length-take-le}
use mir.Syntax.{w64}
use mir.Val.{Fits}
use Rattle.numbers.proofs.Truth.{both_true}
use Rattle.import_lines.specs.Lines.{lines_of, every}
use Rattle.import_lines.specs.Places.{line_start}
use Rattle.import_text.specs.declared.LogicGate.{LogicGate}
use Rattle.import_text.specs.declared.LogicGate.TheVariants.{Xor, And, Inv}
use Rattle.import_text.specs.declared.Head.{Head}
use Rattle.import_text.specs.Circuits.{format_ok, circuit_of}
use Rattle.import_text.specs.Scanning.{gate_at, GatesRead, gate_then, with_gate, gates_at, head_at, SmallHead, HeadIs}
use Rattle.import_text.proofs.Texts.{Reads, NoRead, GoodRead, text_reads}
use Rattle.import_circuit.specs.Wires.{input_wires, output_wires, input_marks, gate_fits, marked, gates_fit, last_marks, circuit_ok}
use Rattle.import_circuit.specs.Making.{gate_size, size_of}
use Rattle.import_circuit.proofs.Wires.{all_set}
use Rattle.import_check.specs.declared.Counts.{Counts}
use Rattle.import_check.specs.Surveying.{text_ok, survey_of, head_ok, marks_of, sized_from, SmallSurvey, Surveyed}

-- ---- the loop over the gates' lines
sized_of : List ℕ → ℕ → GatesRead → Option ℕ
sized_of marks size (GatesRead.Read gs) = cond (gates_fit marks gs) (Some (size + size_of gs)) None
sized_of marks size GatesRead.Wrong = None

sized-is : (k : ℕ) (s : List ℕ) (at : ℕ) (marks : List ℕ) (size : ℕ) → sized_from k s at marks size ≡ sized_of marks size (gates_at k s at)
unfolding sized_from gates_at
sized-is zero s at marks size = by (leb (length s) (line_start s at))
  where
    by : (t : Bool) → cond t (Some size) None ≡ sized_of marks size (cond t (GatesRead.Read []) GatesRead.Wrong)
    by true = unfold sized_of in unfold gates_fit in unfold size_of in (let z : size + 0 ≡ size = omega arith in rw z)
    by false = unfold sized_of in refl
sized-is (suc k) s at marks size = by (gate_at s (line_start s at)) (λ e m x. sized-is k s e m x)
  where
    by : (r : Option (LogicGate × ℕ)) → ((e : ℕ) (m : List ℕ) (x : ℕ) → sized_from k s e m x ≡ sized_of m x (gates_at k s e))
        → with_gate None (λ g e. cond (gate_fits marks g) (sized_from k s e (marked marks g) (size + gate_size g)) None) r
        ≡ sized_of marks size (with_gate GatesRead.Wrong (λ g e. gate_then g (gates_at k s e)) r)
    by None h = unfold with_gate in unfold sized_of in refl
    by (Some (g, e)) h = unfold with_gate in rw (h e (marked marks g) (size + gate_size g)) (rest (gates_at k s e))
      where
        rest : (q : GatesRead) → cond (gate_fits marks g) (sized_of (marked marks g) (size + gate_size g) q) None ≡ sized_of marks size (gate_then g q)
        rest GatesRead.Wrong = unfold gate_then in unfold sized_of in none (gate_fits marks g)
          where
            none : (t : Bool) → cond {A = Option ℕ} t None None ≡ None
            none true = refl
            none false = refl
        rest (GatesRead.Read gs) = unfold gate_then in unfold sized_of in unfold gates_fit in unfold size_of in some (gate_fits marks g)
          where
            some : (t : Bool) → cond t (cond (gates_fit (marked marks g) gs) (Some (size + gate_size g + size_of gs)) None) None
                ≡ cond (t && gates_fit (marked marks g) gs) (Some (size + (gate_size g + size_of gs))) None
            some true = let z : size + gate_size g + size_of gs ≡ size + (gate_size g + size_of gs) = omega arith in rw z
            some false = refl

-- ---- what the lines before the gates say
module _ (s : List ℕ) (h : Head) (r : Reads s h) where
  marks-are : marks_of h.inputs h.wires ≡ input_marks (circuit_of s)
  unfolding marks_of input_marks
  marks-are = rw (r.inputs, r.wires)

  -- all wires are set where there are as many as inputs and gates
  circuit-head : (n : ℕ) → circuit_ok n (circuit_of s) ≡ (head_ok n h && gates_fit (marks_of h.inputs h.wires) (circuit_of s).gates)
  unfolding circuit_ok head_ok
  circuit-head n =
      rw (marks-are, r.values, r.inputs, r.outputs, r.wires, r.count)
      (by (leb (length (circuit_of s).inputs) n) (leb (input_wires (circuit_of s)) (circuit_of s).wires) (leb (output_wires (circuit_of s)) (circuit_of s).wires)
      (gates_fit (input_marks (circuit_of s)) (circuit_of s).gates) refl refl)
    where
      all : Bool
      all = every (eqb 1) (last_marks (input_marks (circuit_of s)) (circuit_of s).gates)

      counted : Bool
      counted = eqb (input_wires (circuit_of s) + length (circuit_of s).gates) (circuit_of s).wires

      by : (a b d f : Bool) → leb (input_wires (circuit_of s)) (circuit_of s).wires ≡ b → gates_fit (input_marks (circuit_of s)) (circuit_of s).gates ≡ f
          → (a && (b && (d && (f && all)))) ≡ ((a && (b && (d && counted))) && f)
      by false b d f p q = refl
      by true false d f p q = refl
      by true true false f p q = refl
      by true true true true p q = all_set (circuit_of s) (leb-true (input_wires (circuit_of s)) (circuit_of s).wires p) q ∙ sym (end counted)
        where
          end : (t : Bool) → (t && true) ≡ t
          end true = refl
          end false = refl
      by true true true false p q = sym (end counted)
        where
          end : (t : Bool) → (t && false) ≡ false
          end true = refl
          end false = refl

-- ---- the whole pass
no_read : (s : List ℕ) (h : Head) → head_at s ≡ None → head_at s ≡ Some h → ⊥
no_read s h e f = let z : ◌≡◌ {A = ℕ} 0 1 = cc in omega arith

one_head : (s : List ℕ) (h k : Head) → head_at s ≡ Some h → head_at s ≡ Some k → h ≡ k
one_head s h k e f = cc

module _ (n : ℕ) (s : List ℕ) where
  format-wrong : format_ok (lines_of s) ≡ false → None ≡ survey_of n s
  unfolding survey_of text_ok
  format-wrong e = rw e

  rules-wrong : circuit_ok n (circuit_of s) ≡ false → None ≡ survey_of n s
  unfolding survey_of text_ok
  rules-wrong e = rw e (by (format_ok (lines_of s)))
    where
      by : (t : Bool) → ◌≡◌ {A = Option Counts} None (cond (t && false) (Some (record { gates = input_wires (circuit_of s) + size_of (circuit_of s).gates; outs = output_wires (circuit_of s) })) None)
      by true = refl
      by false = refl

  rules-kept : format_ok (lines_of s) ≡ true → circuit_ok n (circuit_of s) ≡ true
      → Some (record { gates = input_wires (circuit_of s) + size_of (circuit_of s).gates; outs = output_wires (circuit_of s) }) ≡ survey_of n s
  unfolding survey_of text_ok
  rules-kept e f = rw (e, f)

  none_is : head_at s ≡ None → None ≡ survey_of n s
  none_is e = by (text_reads s)
    where
      by : GoodRead s ⊎ NoRead s → None ≡ survey_of n s
      by (inl g) = absurd (no_read s g.found e g.reads.head)
      by (inr w) = format-wrong w.not

  module _ (h : Head) (eh : head_at s ≡ Some h) where
    gates_are : (g : GoodRead s) → Reads s h
    gates_are g = rw (one_head s h g.found eh g.reads.head) g.reads

    head-not : head_ok n h ≡ false → None ≡ survey_of n s
    head-not e = by (text_reads s)
      where
        by : GoodRead s ⊎ NoRead s → None ≡ survey_of n s
        by (inr w) = format-wrong w.not
        by (inl g) = rules-wrong (circuit-head s h (gates_are g) n ∙ rw e)

    sized-read : Reads s h → sized_from h.gates s h.at (marks_of h.inputs h.wires) 0
        ≡ cond (gates_fit (marks_of h.inputs h.wires) (circuit_of s).gates) (Some (0 + size_of (circuit_of s).gates)) None
    unfolding sized_of
    sized-read r = sized-is h.gates s h.at (marks_of h.inputs h.wires) 0 ∙ rw r.gates

    gates-not : sized_from h.gates s h.at (marks_of h.inputs h.wires) 0 ≡ None → None ≡ survey_of n s
    gates-not e = by (text_reads s)
      where
        by : GoodRead s ⊎ NoRead s → None ≡ survey_of n s
        by (inr w) = format-wrong w.not
        by (inl g) = rules-wrong (circuit-head s h (gates_are g) n ∙ fail (head_ok n h) (gates_fit (marks_of h.inputs h.wires) (circuit_of s).gates) (sym (sized-read (gates_are g)) ∙ e))
          where
            fail : (t f : Bool) → cond f (Some (0 + size_of (circuit_of s).gates)) None ≡ None → (t && f) ≡ false
            fail t true q = absurd (let z : ◌≡◌ {A = ℕ} 0 1 = cc in omega arith)
            fail true false q = refl
            fail false false q = refl

    counts-are : (size : ℕ) → head_ok n h ≡ true → sized_from h.gates s h.at (marks_of h.inputs h.wires) 0 ≡ Some size
        → Some (record { gates = h.inputs + size; outs = h.outputs }) ≡ survey_of n s
    counts-are size e f = by (text_reads s)
      where
        nothing : {A : Type 0} → None ≡ Some size → A
        nothing q = absurd (let z : ◌≡◌ {A = ℕ} 0 1 = cc in omega arith)

        by : GoodRead s ⊎ NoRead s → Some (record { gates = h.inputs + size; outs = h.outputs }) ≡ survey_of n s
        by (inr w) = nothing (sym (sized-is h.gates s h.at (marks_of h.inputs h.wires) 0 ∙ (unfold sized_of in rw (w.wrong h eh))) ∙ f)
        by (inl g) = some (gates_fit (marks_of h.inputs h.wires) (circuit_of s).gates) refl (sym (sized-read (gates_are g)) ∙ f)
          where
            some : (t : Bool) → gates_fit (marks_of h.inputs h.wires) (circuit_of s).gates ≡ t → cond t (Some (0 + size_of (circuit_of s).gates)) None ≡ Some size
                → Some (record { gates = h.inputs + size; outs = h.outputs }) ≡ survey_of n s
            some false p q = nothing q
            some true p q =
                let z : 0 + size_of (circuit_of s).gates ≡ size = cc in
                let z' : size_of (circuit_of s).gates ≡ size = omega (arith, z) in
                rw (← z', (gates_are g).inputs, (gates_are g).outputs) (rules-kept g.ok (circuit-head s h (gates_are g) n ∙ rw (e, p)))

-- ---- the needs
module _ (n : ℕ) (h : Head) where
  pub head-values : n < h.values → false ≡ head_ok n h
  unfolding head_ok
  head-values l = rw (lt-leb h.values n l)

  module _ (v : h.values ≤ n) where
    pub head-inputs : h.wires < h.inputs → false ≡ head_ok n h
    unfolding head_ok
    head-inputs l = rw (le-leb h.values n v, lt-leb h.inputs h.wires l)

    module _ (i : h.inputs ≤ h.wires) where
      pub head-outputs : h.wires < h.outputs → false ≡ head_ok n h
      unfolding head_ok
      head-outputs l = rw (le-leb h.values n v, le-leb h.inputs h.wires i, lt-leb h.outputs h.wires l)

      pub head-wires : h.outputs ≤ h.wires → eqb (h.inputs + h.gates) h.wires ≡ head_ok n h
      unfolding head_ok
      head-wires l = rw (le-leb h.values n v, le-leb h.inputs h.wires i, le-leb h.outputs h.wires l)

pub on-marked : (s : List ℕ) (at gates inputs : ℕ) (marks new : List ℕ) (r : Option ℕ) → new ≡ marks_of inputs (length marks) → r ≡ sized_from gates s at new 0
    → r ≡ sized_from gates s at (marks_of inputs (length marks)) 0
on-marked s at gates inputs marks new r e f = f ∙ ap (λ (m : List ℕ). sized_from gates s at m 0) e

pub ruleset heading = (rules, head-values, head-inputs, head-outputs, head-wires, on-marked)

pub part-marked : (s : List ℕ) (h : Head) (room : List ℕ) (r : Option ℕ) → h.wires < 65536 → length room ≡ 65536
    → r ≡ sized_from h.gates s h.at (marks_of h.inputs (length (take (h.wires - 0) room))) 0 → r ≡ sized_from h.gates s h.at (marks_of h.inputs h.wires) 0
part-marked s h room r w l f =
    let z : h.wires - 0 ≡ h.wires = omega arith in
    let long : length (take (h.wires - 0) room) ≡ h.wires = ap (λ (n : ℕ). length (take n room)) z ∙ length-take-le h.wires room (omega arith) in
    f ∙ ap (λ (n : ℕ). sized_from h.gates s h.at (marks_of h.inputs n) 0) long

pub ruleset placing = (rules, part-marked)

-- a head's numbers
module _ (d r : Option Head) (h : Head) (i : HeadIs d r) (q : r ≡ Some h) where
  pub small-gates : h.gates < 65536
  unfolding SmallHead
  small-gates = (rw q at i.small).gates

  pub small-wires : h.wires < 65536
  unfolding SmallHead
  small-wires = (rw q at i.small).wires

  pub small-inputs : h.inputs ≤ 65535 * 65535
  unfolding SmallHead
  small-inputs = (rw q at i.small).inputs

-- no more gates of the plan than four a line
sized_bound : (k : ℕ) (s : List ℕ) (at : ℕ) (marks : List ℕ) (size y : ℕ) → sized_from k s at marks size ≡ Some y → y ≤ size + 4 * k
unfolding sized_from
sized_bound zero s at marks size y e = by (leb (length s) (line_start s at)) e
  where
    by : (t : Bool) → cond t (Some size) None ≡ Some y → y ≤ size + 4 * 0
    by true q = let z : size ≡ y = cc in omega (arith, z)
    by false q = absurd (let z : ◌≡◌ {A = ℕ} 0 1 = cc in omega arith)
sized_bound (suc k) s at marks size y e = by (gate_at s (line_start s at)) (λ f m x. sized_bound k s f m x y) e
  where
    by : (r : Option (LogicGate × ℕ)) → ((f : ℕ) (m : List ℕ) (x : ℕ) → sized_from k s f m x ≡ Some y → y ≤ x + 4 * k)
        → with_gate None (λ g f. cond (gate_fits marks g) (sized_from k s f (marked marks g) (size + gate_size g)) None) r ≡ Some y → y ≤ size + 4 * suc k
    by None more q = absurd (unfold with_gate in (let z : ◌≡◌ {A = ℕ} 0 1 = cc in omega arith))
    by (Some (g, f)) more q = fit (gate_fits marks g) (unfold with_gate in q)
      where
        fit : (t : Bool) → cond t (sized_from k s f (marked marks g) (size + gate_size g)) None ≡ Some y → y ≤ size + 4 * suc k
        fit true p = omega (arith, more f (marked marks g) (size + gate_size g) p, four g)
          where
            four : (g : LogicGate) → gate_size g ≤ 4
            four (Xor a b c) = unfold gate_size in omega arith
            four (And a b c) = unfold gate_size in omega arith
            four (Inv a c) = unfold gate_size in omega arith
        fit false p = absurd (let z : ◌≡◌ {A = ℕ} 0 1 = cc in omega arith)

head_parts : (n : ℕ) (h : Head) → head_ok n h ≡ true → (h.inputs ≤ h.wires) × (h.outputs ≤ h.wires)
unfolding head_ok
head_parts n h e =
    let a = both_true (leb h.values n) _ e in
    let b = both_true (leb h.inputs h.wires) _ a.1 in
    let c = both_true (leb h.outputs h.wires) _ b.1 in
    (leb-true h.inputs h.wires b.0, leb-true h.outputs h.wires c.0)

module _ (n : ℕ) (s : List ℕ) (r : Option Head) (i : HeadIs (head_at s) r) where
  pub survey-none : (y : Option Counts) → r ≡ None → y ≡ None → Surveyed (survey_of n s) y
  unfolding SmallSurvey
  survey-none y q e = rw e (record { eq = none_is n s (sym i.eq ∙ q); small = tt })

  module _ (h : Head) (q : r ≡ Some h) (t : Bool) (et : t ≡ head_ok n h) where
    pub survey-head : t ≡ false → Surveyed (survey_of n s) None
    unfolding SmallSurvey
    survey-head e = record { eq = head-not n s h (sym i.eq ∙ q) (sym et ∙ e); small = tt }

    module _ (ht : t ≡ true) (f : Option ℕ) (ef : f ≡ sized_from h.gates s h.at (marks_of h.inputs h.wires) 0) where
      pub survey-gates : (y : Option Counts) → f ≡ None → y ≡ None → Surveyed (survey_of n s) y
      unfolding SmallSurvey
      survey-gates y e z = rw z (record { eq = gates-not n s h (sym i.eq ∙ q) (sym ef ∙ e); small = tt })

      module _ (size : ℕ) (qf : f ≡ Some size) where
        few : h.inputs + size ≤ 5 * 65536
        few =
            omega (arith, sized_bound h.gates s h.at (marks_of h.inputs h.wires) 0 size (sym ef ∙ qf), (head_parts n h (sym et ∙ ht)).0, small-wires (head_at s) r h i q, small-gates (head_at s) r h i q)

        pub survey-fits : Fits w64 (h.inputs + size)
        survey-fits = record { fits = omega (arith, few) }

        pub survey-counts : Surveyed (survey_of n s) (Some (record { gates = h.inputs + size; outs = h.outputs }))
        unfolding SmallSurvey
        survey-counts = record {
          eq = counts-are n s h (sym i.eq ∙ q) size (sym et ∙ ht) (sym ef ∙ qf);
          small = record { gates = few; outs = omega (arith, (head_parts n h (sym et ∙ ht)).1, small-wires (head_at s) r h i q) };
        }

pub ruleset surveying = (rules, not-true, not-false, small-gates, small-wires, small-inputs, survey-none, survey-head, survey-gates, survey-fits, survey-counts)
