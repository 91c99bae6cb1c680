-- What each way through the two passes says of the definitions.
--     surveying, listing, ending, compiling     what closes the needs of the functions
-- Assumes nothing.
use Rattle.std.proofs.Common.{Option, Some, None}
use Prim.Native.Nat.{ℕ, suc, ◌+◌, ◌-◌, ◌/◌, ◌<◌, ◌≤◌}
use mathlib.Core.Path.{◌≡◌, refl, sym, ap, ap₂, ◌∙◌}
use mathlib.Core.Bool.{Bool, true, false, cond}
use mathlib.Core.List.{List, [], ◌∷◌, ◌++◌, flat_map, append-nil}
use native.Mathlib.Omega.{arith}
use borrow.Author.Rules.{rules}
use borrow.Author.Tests.{eq-eqb, ne_eqb, leb-true, leb-false}
use lib.Dec.{leb}
use lib.ListN.{length, get_or, take, replicate}
use Rattle.std.proofs.lemmas.List.{length-take-le, get_or-take}
use Rattle.numbers.specs.Tables.{tab}
use Rattle.numbers.proofs.Tables.{tab-zero, tab-next, tab-ext, length-tab}
use Rattle.plan.specs.declared.Gate.{Gate}
use Rattle.plan.specs.declared.Gate.TheVariants.{Input}
use Rattle.plan.specs.declared.Output.{Output}
use Rattle.plan.specs.Plans.{party_count}
use Rattle.plan_file.specs.Bodies.{Bodies, plan_with, written, gate_bytes, gates_bytes, out_bytes, points_bytes, place_in, out_start, contents, file_size, file_as, version_for, file_of_plan, field_limit}
use Rattle.plan_file.proofs.Files as files
use Rattle.plan_file.proofs.Writing.{written-whole, length-written, fits_for, version_low}
use Rattle.plan_file.proofs.Rows.{gates_then, one_put, written_none, none_bytes, file_put}
use Rattle.sheet_text.specs.Trees.{Tree, names_from, names_of, Emitted, input_gates, gate_count}
use Rattle.sheet_text.specs.Sheets.{Parsed, sheet_at}
use Rattle.sheet_text.specs.Making.{tree_of, sheet_tree, sheet_ok, tree_made, bodies_with, tree_bodies}
use Rattle.sheet_text.proofs.Formula.{inputs_long}
use Rattle.sheet_text.proofs.Proper.{sheet_below, tree_proper}
use Rattle.sheet_text.proofs.Sound.{made_long}
use Rattle.sheet_read.specs.declared.Part.{Part}
use Rattle.sheet_read.specs.Working.{free_or, Work, work}
use Rattle.sheet_read.specs.Reading.{Left, Sheet}
use Rattle.sheet_read.proofs.Readers.{made_read, wrong_read}
use Rattle.sheet_write.specs.declared.Counts.{Counts}
use Rattle.sheet_write.specs.Passes.{table_of, inputs_in, up_to, SurveyIs, Surveyed, Compilable}
use Rattle.sheet_write.proofs.Tables.{fresh_table, long_table, table_count, table_inputs}
use Rattle.sheet_write.proofs.Works.{work_names, work_gates, filed, worked, work_emits}

-- ---- counts
pub up_few : (k : ℕ) → up_to k ≤ 1025
unfolding up_to
up_few k = by (leb k 1025) refl
  where
    by : (t : Bool) → leb k 1025 ≡ t → cond t k 1025 ≤ 1025
    by true e = leb-true k 1025 e
    by false e = omega arith

pub up_is : (k : ℕ) → up_to k ≤ 1024 → up_to k ≡ k
unfolding up_to
up_is k = by (leb k 1025) refl
  where
    by : (t : Bool) → leb k 1025 ≡ t → cond t k 1025 ≤ 1024 → cond t k 1025 ≡ k
    by true e l = refl
    by false e l = absurd (omega arith)

pub up_le : (k : ℕ) → up_to k ≤ k
unfolding up_to
up_le k = by (leb k 1025) refl
  where
    by : (t : Bool) → leb k 1025 ≡ t → cond t k 1025 ≤ k
    by true e = omega arith
    by false e = omega (arith, leb-false k 1025 e)

-- ---- a sheet that was read
-- what is left where a tree was read
record Read (p g : ℕ) (names out : List ℕ) (q : Parsed) (r : Part) (names' out' : List ℕ) : Type 0 where
  tree : Tree
  is : q ≡ Parsed.Read tree r.at
  wire : r.wire ≡ (work p tree names out g).wire
  gates : r.gates ≡ (work p tree names out g).gates
  table : names' ≡ (work p tree names out g).names
  file : out' ≡ (work p tree names out g).out

read : (p g : ℕ) (names out : List ℕ) (q : Parsed) (x : Option Part) (names' out' : List ℕ) (r : Part) → Sheet q p g names out x names' out' → x ≡ Some r → Read p g names out q r names' out'
unfolding Left
read p g names out q x names' out' r s i =
    let t = made_read p g names out q r (sym i ∙ s.eq) in
    let k : record { table : names' ≡ (work p t.0 names out g).names; file : out' ≡ (work p t.0 names out g).out } = rw t.1 at s.left in
    record { tree = t.0; is = t.1; wire = t.2; gates = t.3; table = k.table; file = k.file }

-- ---- the first pass
not_ok : (n p : ℕ) (s : List ℕ) → length (names_of (sheet_tree n p s)) ≡ 0 → sheet_ok n p s ≡ false
unfolding sheet_ok
not_ok n p s e = rw (eq-eqb (length (names_of (sheet_tree n p s))) 0 e)

is_ok : (n p : ℕ) (s : List ℕ) → (length (names_of (sheet_tree n p s)) ≡ 0 → ⊥) → sheet_ok n p s ≡ true
unfolding sheet_ok
is_ok n p s e = rw (ne_eqb (length (names_of (sheet_tree n p s))) 0 e)

wrong_tree : (n p : ℕ) (s : List ℕ) → sheet_at n p s ≡ Parsed.Wrong → length (names_of (sheet_tree n p s)) ≡ 0
unfolding sheet_tree tree_of names_of names_from
wrong_tree n p s e = rw e

read_tree : (n p : ℕ) (s : List ℕ) (x : Tree) (e : ℕ) → sheet_at n p s ≡ Parsed.Read x e → sheet_tree n p s ≡ x
unfolding sheet_tree tree_of
read_tree n p s x e i = rw i

pub fresh : (names : List ℕ) → names ≡ replicate 1025 0 → names ≡ table_of 1025 []
fresh names e = e ∙ fresh_table 1025

module _ (n p : ℕ) (s names none : List ℕ) (x : Option Part) (names' none' : List ℕ) (empty : names ≡ table_of 1025 []) (h : Sheet (sheet_at n p s) p 0 names none x names' none') where
  long : length names' ≡ 1025
  long = h.long_names ∙ ap length empty ∙ long_table 1025 []

  pub survey_broken : (y : Option Counts) → x ≡ None → y ≡ None → Surveyed n p s y names'
  unfolding SurveyIs
  survey_broken y e z = rw z (record { is = not_ok n p s (wrong_tree n p s (wrong_read p 0 names none (sheet_at n p s) (sym e ∙ h.eq))); long = long })

  module _ (r : Part) (q : x ≡ Some r) where
    from : Read p 0 names none (sheet_at n p s) r names' none'
    from = read p 0 names none (sheet_at n p s) x names' none' r h q

    tree_is : sheet_tree n p s ≡ from.tree
    tree_is = read_tree n p s from.tree r.at from.is

    table_is : names' ≡ table_of 1025 (names_of (sheet_tree n p s))
    unfolding names_of
    table_is = from.table ∙ ap (λ (l : List ℕ). (work p from.tree l none 0).names) empty ∙ work_names p 1025 from.tree [] none 0 ∙ ap (λ (x : Tree). table_of 1025 (names_from [] x)) (sym tree_is)

    gates_is : r.gates ≡ up_to (gate_count (sheet_tree n p s))
    gates_is =
        let z : up_to 0 ≡ 0 = unfold up_to in refl in
        let y : 0 + gate_count from.tree ≡ gate_count from.tree = omega arith in
        from.gates ∙ ap (λ (k : ℕ). (work p from.tree names none k).gates) (sym z) ∙ work_gates p from.tree names none 0 ∙ ap up_to y
        ∙ ap (λ (x : Tree). up_to (gate_count x)) (sym tree_is)

    module _ (k : ℕ) (ek : k ≡ free_or 0 names') where
      inputs_is : k ≡ up_to (length (names_of (sheet_tree n p s)))
      inputs_is = ek ∙ ap (free_or 0) table_is ∙ table_count (names_of (sheet_tree n p s))

      pub survey_nameless : k ≡ 0 → Surveyed n p s None names'
      unfolding SurveyIs
      survey_nameless z = record { is = not_ok n p s (sym (up_is (length (names_of (sheet_tree n p s))) (omega (arith, inputs_is))) ∙ sym inputs_is ∙ z); long = long }

      pub survey_fits : k + r.gates < 18446744073709551616
      survey_fits = omega (arith, inputs_is, gates_is, up_few (length (names_of (sheet_tree n p s))), up_few (gate_count (sheet_tree n p s)))

      pub survey_counts : (k ≡ 0 → ⊥) → Surveyed n p s (Some (record { inputs = k; gates = k + r.gates })) names'
      unfolding SurveyIs
      survey_counts z = record {
        is = record {
          ok = is_ok n p s (λ y. z (omega (arith, inputs_is, up_le (length (names_of (sheet_tree n p s))), y)));
          inputs_are = inputs_is;
          gates_are = ap (λ (m : ℕ). k + m) gates_is;
          table = table_is;
        };
        long = long;
      }

pub ruleset surveying = (rules, fresh, survey_broken, survey_nameless, survey_fits, survey_counts)

-- ---- the input gates
abbrev input_of : List ℕ → ℕ → Gate
input_of names i = Input ((get_or names i 0 - 1) / 256)

next_input : (names : List ℕ) (i : ℕ) → inputs_in (i + 1) names ≡ inputs_in i names ++ (input_of names i ∷ [])
unfolding inputs_in
next_input names i = tab-next (input_of names) i

so_many : (names : List ℕ) (i : ℕ) → length (inputs_in i names) ≡ i
unfolding inputs_in
so_many names i = length-tab (input_of names) i

pub record Listing (version : ℕ) (names out₀ : List ℕ) (i : ℕ) (out : List ℕ) : Type 0 where
  pub long : length out ≡ length out₀
  pub done : out ≡ written out₀ (place_in version 0) (gates_bytes version (inputs_in i names))

module _ (version : ℕ) (names out₀ : List ℕ) where
  pub list_begin : Listing version names out₀ 0 out₀
  unfolding inputs_in
  list_begin = record { long = refl; done = rw (tab-zero (input_of names), none_bytes version) (sym (written_none out₀ (place_in version 0))) }

  module _ (i : ℕ) (out : List ℕ) (h : Listing version names out₀ i out) where
    pub list_on : (name k : ℕ) (new : List ℕ) → name ≡ get_or names i 0 → k ≡ (name - 1) / 256 → new ≡ written out (place_in version i) (gate_bytes version (Input k)) → Listing version names out₀ (i + 1) new
    list_on name k new en ek e =
        let put : new ≡ written out (place_in version i) (gate_bytes version (input_of names i)) = e ∙ rw (ek, en) in
        record {
          long = ap length put ∙ length-written out (place_in version i) (gate_bytes version (input_of names i)) ∙ h.long;
          done = rw (next_input names i) (gates_then version out₀ out new 0 i (inputs_in i names) (input_of names i ∷ []) h.done (one_put version out new i (input_of names i) put) (omega (arith, so_many names i)));
        }

    pub list_long : length out ≡ length out₀
    list_long = h.long

    pub list_end : length names ≤ i → i ≤ length names → out ≡ written out₀ (place_in version 0) (gates_bytes version (inputs_in (length names) names))
    list_end l m = let e : i ≡ length names = omega arith in rw (← e) h.done

pub ruleset listing = (rules, list_begin, list_on, list_long, list_end)

-- ---- the end of the file
pub end_put : (s s1 s2 : List ℕ) (version gates points : ℕ) (x : Output) (ps : List ℕ) → s1 ≡ written s (out_start version gates 0) (out_bytes x)
    → record { eq : points ≡ out_start version gates 1; high : points ≤ 10464 } → s2 ≡ written s1 points ps
    → s2 ≡ written (written s (out_start version gates 0) (out_bytes x)) (out_start version gates 1) ps
end_put s s1 s2 version gates points x ps e ep f = f ∙ rw (e, ep.eq)

pub ruleset ending = (rules, end_put)

-- ---- the second pass
module _ (s : List ℕ) (n t p seat inputs gates : ℕ) (names : List ℕ) (h : Compilable s n t p seat inputs gates names) where
  pub inputs_few : inputs ≤ 1024
  inputs_few = omega (arith, h.inputs_are, h.gates_are, made_long p (sheet_tree n p s), h.few)

  pub inputs_inside : inputs ≤ length names
  inputs_inside = omega (arith, inputs_few, ap length h.table, long_table 1025 (names_of (sheet_tree n p s)))

  pub first_few : length (take inputs names) ≤ 1024
  first_few = omega (arith, inputs_few, length-take-le inputs names inputs_inside)

  pub low_version : (version : ℕ) → version ≡ version_for p → version < 256
  low_version version ev = rw ev (version_low p)

  pub prime_fits : (version : ℕ) → version ≡ version_for p → p < field_limit version
  prime_fits version ev = rw ev (fits_for p (omega (arith, h.small)))

  pub few_parties : n < 256
  few_parties = omega (arith, h.parties)

  no_name : sheet_ok n p s ≡ true → length (names_of (sheet_tree n p s)) ≡ 0 → ⊥
  no_name k e = absurd (let z : ◌≡◌ {A = Bool} true false = sym k ∙ not_ok n p s e in (let y : ◌≡◌ {A = ℕ} 0 1 = cc in omega arith))

  module _ (version : ℕ) (ev : version ≡ version_for p) (o o1 o2 : List ℕ) (answer : Option Part) (names' o3 : List ℕ)
      (put1 : o1 ≡ written o 0 (contents version n t p gates 1)) (put2 : o2 ≡ written o1 (place_in version 0) (gates_bytes version (inputs_in (length (take inputs names)) (take inputs names)))) (sheet : Sheet (sheet_at n p s) p inputs names o2 answer names' o3) where
    pub write_broken : (new : List ℕ) → answer ≡ None → new ≡ file_of_plan n t p (tree_bodies p seat (sheet_tree n p s))
    write_broken new e = absurd (no_name h.ok (wrong_tree n p s (wrong_read p inputs names o2 (sheet_at n p s) (sym e ∙ sheet.eq))))

    module _ (r : Part) (q : answer ≡ Some r) where
      abbrev x : Tree
      x = sheet_tree n p s

      abbrev ns : List ℕ
      ns = names_of x

      abbrev made : Emitted
      made = tree_made p x

      got : Read p inputs names o2 (sheet_at n p s) r names' o3
      got = read p inputs names o2 (sheet_at n p s) answer names' o3 r sheet q

      few : length ns + gate_count x ≤ 1024
      few = omega (arith, h.gates_are, made_long p x, h.few)

      first_inputs : inputs_in (length (take inputs names)) (take inputs names) ≡ inputs_in inputs names
      unfolding inputs_in
      first_inputs =
          rw (length-take-le inputs names inputs_inside)
          (tab-ext (input_of (take inputs names)) (input_of names) inputs (λ i l. ap (λ m. Input ((m - 1) / 256)) (get_or-take inputs names i 0 l)))

      inputs_filed : o2 ≡ filed p o1 (input_gates ns)
      unfolding filed
      inputs_filed =
          put2 ∙ ap (λ (gs : List Gate). written o1 (place_in version 0) (gates_bytes version gs)) first_inputs
          ∙ ap₂ (λ (v : ℕ) (gs : List Gate). written o1 (place_in v 0) (gates_bytes v gs)) ev (ap₂ inputs_in h.inputs_are h.table ∙ table_inputs 1025 ns (omega (arith, few)))

      work_is : work p got.tree names o2 inputs ≡ worked p 1025 ns o1 made
      unfolding tree_made
      work_is =
          ap (λ (y : Tree). work p y names o2 inputs) (sym (read_tree n p s got.tree r.at got.is))
          ∙ ap (λ (l : List ℕ). work p x l o2 inputs) h.table
          ∙ ap₂ (work p x (table_of 1025 ns)) inputs_filed (h.inputs_are ∙ sym (inputs_long ns))
          ∙ work_emits p 1025 ns o1 (omega (arith, few)) x (input_gates ns) (tree_proper n p x (sheet_below n p s (omega (arith, h.prime)))) (omega (arith, few, inputs_long ns))

      gates_put : o3 ≡ written o1 (place_in version 0) (gates_bytes version made.gates)
      gates_put =
          got.file ∙ ap (λ (w : Work). w.out) work_is
          ∙ (unfold worked in unfold filed in ap (λ (v : ℕ). written o1 (place_in v 0) (gates_bytes v made.gates)) (sym ev))

      wire_is : r.wire ≡ made.wire
      wire_is = got.wire ∙ ap (λ (w : Work). w.wire) work_is ∙ (unfold worked in refl)

      outs_bytes : flat_map out_bytes (record { party = seat; wire = made.wire } ∷ []) ≡ out_bytes (record { party = seat; wire = made.wire })
      unfolding flat_map
      outs_bytes = append-nil (out_bytes (record { party = seat; wire = made.wire }))

      pub write_whole : (new : List ℕ) → length o ≡ file_size (version_for p) n gates 1
          → new ≡ written (written o3 (out_start version gates 0) (out_bytes (record { party = seat; wire = r.wire }))) (out_start version gates 1) (points_bytes version (tab suc n))
          → new ≡ file_of_plan n t p (tree_bodies p seat (sheet_tree n p s))
      unfolding tree_bodies bodies_with file_of_plan plan_with party_count
      write_whole new room last =
          let o4 : List ℕ = written o3 (out_start version gates 0) (out_bytes (record { party = seat; wire = r.wire })) in
          let b : Bodies = record { gates = made.gates; outs = record { party = seat; wire = made.wire } ∷ [] } in
          let head : o1 ≡ written o 0 (contents version (length (tab suc n)) t p (length made.gates) 1) = put1 ∙ rw (length-tab suc n, ← h.gates_are) in
          let outs : o4 ≡ written o3 (out_start version (length made.gates) 0) (flat_map out_bytes b.outs) = rw (wire_is, outs_bytes, ← h.gates_are) in
          let ends : new ≡ written o4 (out_start version (length made.gates) 1) (points_bytes version (tab suc n)) = last ∙ rw (← h.gates_are) in
          let all : new ≡ written o 0 (file_as version (plan_with n t p b)) = file_put version (plan_with n t p b) o o1 o3 o4 new head gates_put outs ends in
          let file : new ≡ written o 0 (file_of_plan n t p b) = all ∙ ap (λ (v : ℕ). written o 0 (file_as v (plan_with n t p b))) ev in
          file ∙ written-whole o (file_of_plan n t p b) (files.made_long n t p b ∙ rw (← h.gates_are) (sym room))

-- As it is: answers name this set, since the check leaves their goals open by `using` alone.
pub ruleset compiling = (rules, inputs_inside, first_few, low_version, prime_fits, few_parties, write_broken, write_whole)
