-- The second pass writes the plan's file.
--     numbers_in_lem, gates_in_lem       what it reads is what the first pass read
--     filing                     what closes the needs of the functions
-- Assumes nothing.
use Rattle.std.proofs.Common.{Option, Some, None}
use Prim.Native.Nat.{ℕ, zero, suc, ◌+◌, ◌-◌, ◌<◌, ◌≤◌}
use mathlib.Core.Path.{◌≡◌, refl, sym, ap, ap₂, ◌∙◌}
use mathlib.Core.Logic.{◌⊎◌, inl, inr}
use mathlib.Core.Bool.{Bool, true, false, cond}
use mathlib.Core.List.{List, [], ◌∷◌, flat_map}
use native.Mathlib.Omega.{arith}
use borrow.Author.Rules.{rules}
use lib.Dec.{leb}
use lib.ListN.{length, get_or, take, drop, length-drop, length-set}
use lib.Seq.{get_or-drop, take_all}
use Rattle.numbers.specs.Tables.{tab}
use Rattle.numbers.proofs.Tables.{length-tab, tab-ext}
use Rattle.plan.specs.declared.Gate.{Gate}
use Rattle.plan.specs.Plans.{party_count}
use Rattle.plan_file.specs.Bodies.{plan_with, written, gates_bytes, out_bytes, points_bytes, place_in, out_start, contents, file_size, file_as, version_for, file_of_plan, field_limit}
use Rattle.plan_file.proofs.Files.{made_long}
use Rattle.plan_file.proofs.Writing.{written-whole, fits_for, version_low}
use Rattle.import_lines.specs.Lines.{lines_of}
use Rattle.import_lines.specs.Places.{line_start, line_over, number_at, with_number, NumbersRead, following, numbers_at, sum_of}
use Rattle.import_lines.proofs.Lines.{clash}
use Rattle.import_text.specs.declared.LogicGate.{LogicGate}
use Rattle.import_text.specs.declared.Head.{Head}
use Rattle.import_text.specs.Circuits.{format_ok, circuit_of}
use Rattle.import_text.specs.Scanning.{gate_at, GatesRead, gate_then, with_gate, gates_at, head_at, SmallHead, HeadIs}
use Rattle.import_text.proofs.Texts.{Reads, NoRead, GoodRead, text_reads}
use Rattle.import_circuit.specs.Wires.{input_wires, output_wires}
use Rattle.import_circuit.specs.Making.{input_gates, first_holders, gates_from, held_after, circuit_gates, outs_of, circuit_outs, circuit_bodies, held_by, gate_size}
use Rattle.import_circuit.proofs.Wires.{length-input_gates, Kept, kept, few_wires}
use Rattle.import_circuit.proofs.Sound.{outs_long}
use Rattle.import_write.specs.Second.{numbers_in, gates_in, all_gates, Putting, Importable, Filing}
use Rattle.plan_file.proofs.Rows.{gates_then, file_put}

-- ---- the table keeps its length
long_after : (g : ℕ) (held : List ℕ) (xs : List LogicGate) → length (held_after g held xs) ≡ length held
unfolding held_after held_by
long_after g held [] = refl
long_after g held (x ∷ xs) = long_after (g + gate_size x) (held_by g held x) xs ∙ length-set held _ _

-- ---- what is read
numbers_in_lem : (k : ℕ) (s : List ℕ) (at : ℕ) (vs : List ℕ) (e : ℕ) → numbers_at k s at ≡ NumbersRead.Read vs e → numbers_in k s at ≡ vs
unfolding numbers_at numbers_in
numbers_in_lem zero s at vs e q = by (line_over s at) q
  where
    by : (t : Bool) → cond t (NumbersRead.Read [] at) NumbersRead.Wrong ≡ NumbersRead.Read vs e → [] ≡ vs
    by true q = cc
    by false q = absurd (let z : ◌≡◌ {A = ℕ} 0 1 = cc in omega arith)
numbers_in_lem (suc k) s at vs e q = by (number_at s at) (λ f ws h. numbers_in_lem k s f ws e h) q
  where
    by : (d : Option (ℕ × ℕ)) → ((f : ℕ) (ws : List ℕ) → numbers_at k s f ≡ NumbersRead.Read ws e → numbers_in k s f ≡ ws)
        → with_number NumbersRead.Wrong (λ v f. following v (numbers_at k s f)) d ≡ NumbersRead.Read vs e → with_number [] (λ v f. v ∷ numbers_in k s f) d ≡ vs
    by None more q = absurd (unfold with_number in (let z : ◌≡◌ {A = ℕ} 0 1 = cc in omega arith))
    by (Some (v, f)) more q = unfold with_number in rest (numbers_at k s f) refl q
      where
        rest : (r : NumbersRead) → numbers_at k s f ≡ r → following v r ≡ NumbersRead.Read vs e → v ∷ numbers_in k s f ≡ vs
        rest NumbersRead.Wrong p h = absurd (unfold following in (let z : ◌≡◌ {A = ℕ} 0 1 = cc in omega arith))
        rest (NumbersRead.Read ws i) p h = unfold following in (let j : i ≡ e = cc in ap (λ (l : List ℕ). v ∷ l) (more f ws (p ∙ ap (NumbersRead.Read ws) j)) ∙ (cc))

gates_in_lem : (k : ℕ) (s : List ℕ) (at : ℕ) (gs : List LogicGate) → gates_at k s at ≡ GatesRead.Read gs → gates_in k s at ≡ gs
unfolding gates_at gates_in
gates_in_lem zero s at gs q = by (leb (length s) (line_start s at)) q
  where
    by : (t : Bool) → cond t (GatesRead.Read []) GatesRead.Wrong ≡ GatesRead.Read gs → [] ≡ gs
    by true q = cc
    by false q = absurd (let z : ◌≡◌ {A = ℕ} 0 1 = cc in omega arith)
gates_in_lem (suc k) s at gs q = by (gate_at s (line_start s at)) (λ f hs h. gates_in_lem k s f hs h) q
  where
    by : (r : Option (LogicGate × ℕ)) → ((f : ℕ) (hs : List LogicGate) → gates_at k s f ≡ GatesRead.Read hs → gates_in k s f ≡ hs)
        → with_gate GatesRead.Wrong (λ x f. gate_then x (gates_at k s f)) r ≡ GatesRead.Read gs → with_gate [] (λ x f. x ∷ gates_in k s f) r ≡ gs
    by None more q = absurd (unfold with_gate in (let z : ◌≡◌ {A = ℕ} 0 1 = cc in omega arith))
    by (Some (x, f)) more q = unfold with_gate in rest (gates_at k s f) refl q
      where
        rest : (r : GatesRead) → gates_at k s f ≡ r → gate_then x r ≡ GatesRead.Read gs → x ∷ gates_in k s f ≡ gs
        rest GatesRead.Wrong p h = absurd (unfold gate_then in (let z : ◌≡◌ {A = ℕ} 0 1 = cc in omega arith))
        rest (GatesRead.Read hs) p h = unfold gate_then in (ap (λ (l : List LogicGate). x ∷ l) (more f hs p) ∙ (cc))

-- ---- the gates
pub all_put : (version : ℕ) (s : List ℕ) (h : Head) (p : ℕ) (held out out1 out2 own : List ℕ) → Putting s h p
    → out1 ≡ written out (place_in version 0) (gates_bytes version (input_gates 1 (numbers_in h.values s h.first))) → own ≡ tab (λ w. w) (length held)
    → out2 ≡ written out1 (place_in version h.inputs) (gates_bytes version (gates_from p h.inputs own (gates_in h.gates s h.at)))
    → out2 ≡ written out (place_in version 0) (gates_bytes version (all_gates s h p (length held)))
unfolding all_gates
all_put version s h p held out out1 out2 own k e o f =
    gates_then version out out1 out2 0 h.inputs (input_gates 1 (numbers_in h.values s h.first)) (gates_from p h.inputs (tab (λ w. w) (length held)) (gates_in h.gates s h.at))
    e (rw o at f) (omega (arith, length-input_gates 1 (numbers_in h.values s h.first), k.sum))

pub all_held : (s : List ℕ) (h : Head) (held own new : List ℕ) → own ≡ tab (λ w. w) (length held) → new ≡ held_after h.inputs own (gates_in h.gates s h.at)
    → new ≡ held_after h.inputs (tab (λ w. w) (length held)) (gates_in h.gates s h.at)
all_held s h held own new e f = f ∙ ap (λ (l : List ℕ). held_after h.inputs l (gates_in h.gates s h.at)) e

pub ruleset filling = (rules, all_put, all_held)

-- ---- the file
reads_of : (s : List ℕ) (h : Head) → format_ok (lines_of s) ≡ true → head_at s ≡ Some h → Reads s h
reads_of s h ok e = by (text_reads s)
  where
    by : GoodRead s ⊎ NoRead s → Reads s h
    by (inr w) = clash (sym ok ∙ w.not)
    by (inl g) = let same : h ≡ g.found = only (sym e ∙ g.reads.head) in rw same g.reads
      where
        only : Some h ≡ Some g.found → h ≡ g.found
        only q = cc

module _ (s : List ℕ) (h : Head) (n t p gates room : ℕ) (k : Filing s h n t p gates room) where
  read : Reads s h
  read = reads_of s h k.text.format k.is

  its : Kept n (circuit_of s)
  its = kept n (circuit_of s) k.text.rules

  numbers_are : numbers_in h.values s h.first ≡ (circuit_of s).inputs
  numbers_are = numbers_in_lem h.values s h.first (circuit_of s).inputs read.end read.widths

  gates_are : gates_in h.gates s h.at ≡ (circuit_of s).gates
  gates_are = gates_in_lem h.gates s h.at (circuit_of s).gates read.gates

  wires_few : h.wires ≤ 1024
  wires_few = omega (arith, read.wires, few_wires n p (circuit_of s) k.text.rules, k.text.count, k.text.few)

  held_are : held_after h.inputs (tab (λ w. w) room) (gates_in h.gates s h.at) ≡ held_after (input_wires (circuit_of s)) (first_holders (circuit_of s)) (circuit_of s).gates
  unfolding first_holders
  held_are = rw (gates_are, k.wires, read.wires, read.inputs)

  all_are : all_gates s h p room ≡ circuit_gates p (circuit_of s)
  unfolding all_gates circuit_gates first_holders
  all_are = rw (numbers_are, gates_are, k.wires, read.wires, read.inputs)

  pub few_outputs : h.outputs ≤ h.wires
  few_outputs = omega (arith, read.outputs, read.wires, its.outputs)

  pub outs_few : h.outputs ≤ 64
  outs_few = omega (arith, read.outputs, k.text.outs)

  pub file_putting : Putting s h p
  file_putting = record {
    gates = k.gates_small;
    values = k.values_small;
    inputs = omega (arith, read.inputs, read.wires, its.inputs, wires_few);
    sum = ap sum_of numbers_are ∙ sym read.inputs;
    prime = k.text.prime;
  }

  -- the table's last entries are those of the outputs
  module _ (held : List ℕ) (is : held ≡ held_after h.inputs (tab (λ w. w) room) (gates_in h.gates s h.at)) where
    long : length held ≡ h.wires
    long = ap length is ∙ long_after h.inputs (tab (λ w. w) room) (gates_in h.gates s h.at) ∙ length-tab (λ w. w) room ∙ k.wires

    pub last_in : h.wires - h.outputs ≤ length held
    last_in = omega (arith, long)

    pub last_few : length (drop (h.wires - h.outputs) held) ≤ 64
    last_few = omega (arith, length-drop (h.wires - h.outputs) held, long, few_outputs, outs_few)

    last_long : length (drop (h.wires - h.outputs) held) ≡ h.outputs
    last_long = omega (arith, length-drop (h.wires - h.outputs) held, long, few_outputs)

    last_is : take (length held - (h.wires - h.outputs)) (drop (h.wires - h.outputs) held) ≡ drop (h.wires - h.outputs) held
    last_is = take_all (length held - (h.wires - h.outputs)) (drop (h.wires - h.outputs) held) (omega (arith, length-drop (h.wires - h.outputs) held))

    outs_dropped : outs_of (take (length held - (h.wires - h.outputs)) (drop (h.wires - h.outputs) held)) 0 (length (take (length held - (h.wires - h.outputs)) (drop (h.wires - h.outputs) held))) ≡ outs_of held (h.wires - h.outputs) h.outputs
    unfolding outs_of
    outs_dropped = rw (last_is, last_long) (tab-ext _ _ h.outputs (λ i l. let z : 0 + i ≡ i = omega arith in ap (λ (v : ℕ). record { party = 1; wire = v }) (ap (λ (n : ℕ). get_or (drop (h.wires - h.outputs) held) n 0) z ∙ get_or-drop (h.wires - h.outputs) held i 0)))

  module _ (version : ℕ) (ev : version ≡ version_for p) where
    pub low_version : version < 256
    low_version = rw ev (version_low p)

    pub file_fits : p < field_limit version
    file_fits = rw ev (fits_for p (omega (arith, k.text.small)))

    pub file_written : (held : List ℕ) (points : ℕ) (out out1 out2 out3 out4 : List ℕ) → out1 ≡ written out 0 (contents version n t p gates h.outputs)
        → (held ≡ held_after h.inputs (tab (λ w. w) room) (gates_in h.gates s h.at)) × (out2 ≡ written out1 (place_in version 0) (gates_bytes version (all_gates s h p room)))
        → out3 ≡ written out2 (out_start version gates 0) (flat_map out_bytes (outs_of (take (length held - (h.wires - h.outputs)) (drop (h.wires - h.outputs) held)) 0 (length (take (length held - (h.wires - h.outputs)) (drop (h.wires - h.outputs) held)))))
        → record { eq : points ≡ out_start version gates h.outputs; high : points ≤ 10464 } → out4 ≡ written out3 points (points_bytes version (tab suc n))
        → out4 ≡ written out 0 (file_of_plan n t p (circuit_bodies p (circuit_of s)))
    unfolding file_of_plan plan_with circuit_bodies party_count
    file_written held points out out1 out2 out3 out4 e (o, f) i ep j =
        let outs : outs_of (take (length held - (h.wires - h.outputs)) (drop (h.wires - h.outputs) held)) 0 (length (take (length held - (h.wires - h.outputs)) (drop (h.wires - h.outputs) held))) ≡ circuit_outs (circuit_of s) =
        outs_dropped held o ∙ (unfold circuit_outs in rw (o, held_are, read.wires, read.outputs)) in
        let count : h.outputs ≡ length (circuit_outs (circuit_of s)) = read.outputs ∙ sym (outs_long n p (circuit_of s) k.text.rules) in
        let e' : out1 ≡ written out 0 (contents version (length (tab suc n)) t p (length (circuit_gates p (circuit_of s))) (length (circuit_outs (circuit_of s)))) =
        e ∙ rw (length-tab suc n, ← k.text.count, ← count) in
        let f' : out2 ≡ written out1 (place_in version 0) (gates_bytes version (circuit_gates p (circuit_of s))) = f ∙ ap (λ (l : List Gate). written out1 (place_in version 0) (gates_bytes version l)) all_are in
        let i' : out3 ≡ written out2 (out_start version (length (circuit_gates p (circuit_of s))) 0) (flat_map out_bytes (circuit_outs (circuit_of s))) =
        i ∙ ap₂ (λ (g : ℕ) (l : List ℕ). written out2 (out_start version g 0) l) k.text.count (ap (flat_map out_bytes) outs) in
        let j' : out4 ≡ written out3 (out_start version (length (circuit_gates p (circuit_of s))) (length (circuit_outs (circuit_of s)))) (points_bytes version (tab suc n)) =
        j ∙ ap (λ (m : ℕ). written out3 m (points_bytes version (tab suc n))) (ep.eq ∙ ap₂ (out_start version) k.text.count count) in
        file_put version (plan_with n t p (circuit_bodies p (circuit_of s))) out out1 out2 out3 out4 e' f' i' j'
        ∙ ap (λ (v : ℕ). written out 0 (file_as v (plan_with n t p (circuit_bodies p (circuit_of s))))) ev

  pub parties_few : n ≤ 15
  parties_few = k.text.parties

  pub few_parties : n < 256
  few_parties = omega (arith, k.text.parties)

  pub room_few : h.wires ≤ 1024
  room_few = wires_few

-- As it is: answers name this set, since the check leaves their goals open by `using` alone.
pub ruleset filing = (rules, few_outputs, outs_few, file_putting, last_in, last_few, low_version, file_fits, parties_few, few_parties, file_written)

-- a text that was checked has lines before its gates
module _ (s : List ℕ) (n t p gates : ℕ) (k : Importable s n t p gates) (r : Option Head) (i : HeadIs (head_at s) r) where
  pub import_none : (out : List ℕ) → r ≡ None → out ≡ file_of_plan n t p (circuit_bodies p (circuit_of s))
  import_none out q = by (text_reads s)
    where
      by : GoodRead s ⊎ NoRead s → out ≡ file_of_plan n t p (circuit_bodies p (circuit_of s))
      by (inr w) = clash (sym k.format ∙ w.not)
      by (inl g) = absurd (none (sym (sym i.eq ∙ q) ∙ g.reads.head))
        where
          none : None ≡ Some g.found → ⊥
          none e = let z : ◌≡◌ {A = ℕ} 0 1 = cc in omega arith

  module _ (h : Head) (q : r ≡ Some h) where
    pub import_filing : Filing s h n t p gates h.wires
    unfolding SmallHead
    import_filing =
        let small = rw q at i.small in
        record { is = sym i.eq ∙ q; text = k; gates_small = small.gates; values_small = small.values; wires = refl }

    pub import_whole : (out new : List ℕ) → length out ≡ file_size (version_for p) n gates (output_wires (circuit_of s)) → new ≡ written out 0 (file_of_plan n t p (circuit_bodies p (circuit_of s)))
        → new ≡ file_of_plan n t p (circuit_bodies p (circuit_of s))
    import_whole out new l e = e ∙ written-whole out (file_of_plan n t p (circuit_bodies p (circuit_of s))) (long ∙ sym l)
      where
        long : length (file_of_plan n t p (circuit_bodies p (circuit_of s))) ≡ file_size (version_for p) n gates (output_wires (circuit_of s))
        long =
            made_long n t p (circuit_bodies p (circuit_of s))
            ∙ (unfold circuit_bodies in ap₂ (file_size (version_for p) n) (sym k.count) (outs_long n p (circuit_of s) k.rules))

    pub import_wires : h.wires ≤ 1024
    import_wires = room_few s h n t p gates h.wires import_filing

-- As it is: answers name this set, since the check leaves their goals open by `using` alone.
pub ruleset importing = (rules, import_none, import_filing, import_wires, import_whole)
