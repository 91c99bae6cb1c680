-- What is claimed of a formula sheet: "The plan's value equals the formula's for all figures." And the worked examples, as
-- one table.
use Rattle.std.specs.Prelude.{Ok, ℕ, ◌*◌, ◌≡◌, true, cond, List, [], ◌∷◌, eqb, length, get_or, drop}
use Prim.Native.String.{String}
use Rattle.numbers.specs.Bytes.{width, bytes_of, all_below}
use Rattle.plan.specs.declared.Gate.{Gate}
use Rattle.plan.specs.declared.Gate.TheVariants.{Input, Add, Scale, Offset, Multiply}
use Rattle.plan.specs.Refusals.{code_of}
use Rattle.plan.specs.Plans.{last_call, own_inputs, written_count}
use Rattle.plan.specs.File.{plan_check, plan_of}
use Rattle.run_protocol.specs.Ideal.{granted}
use Rattle.run_protocol.specs.Settings.{Inputs, Coins}
use Rattle.sheet_text.specs.Trees.{Tree, party_of, names_of, formula_value}
use Rattle.sheet_text.specs.Making.{sheet_tree}
use Rattle.sheet_call.specs.Compiling.{sheet_bodies, sheet_file, sheet_answer, sheet_after}
use Rattle.pool_files.specs.FileSizes.{sheet_size}
use Rattle.demands.specs.Circuits.{ascii}
use Rattle.demands.specs.Apart as apart

-- of the figures, one for each name, those of party j's names
unfoldable pub named_figures : ℕ → List ℕ → List ℕ → List ℕ
named_figures j [] xs = []
named_figures j (x ∷ names) xs =
    cond (eqb j (party_of x)) (get_or xs 0 0 ∷ named_figures j names (drop 1 xs)) (named_figures j names (drop 1 xs))

-- ---- the plan that was written for a formula, whose result goes to party i, with a figure for each name
pub record SameValue (x : Tree) (p i : ℕ) (bytes xs : List ℕ) : Type 0 where
  pub passes : plan_check bytes ≡ Ok tt
  pub file : all_below 256 bytes ≡ true
  pub inputs : Inputs (plan_of bytes) xs
  -- a name's figure is what its party puts in
  pub own : (j : ℕ) → own_inputs (plan_of bytes) j xs ≡ named_figures j (names_of x) xs
  -- what the plan grants to party i is the formula's value, and to any other nothing
  pub granted_value : granted (plan_of bytes) xs i ≡ formula_value p (names_of x) xs x ∷ []
  pub granted-none : (j : ℕ) → (j ≡ i → ⊥) → granted (plan_of bytes) xs j ≡ []
  -- and in every run of parties apart, which spends no triple, this value is what party i's last call writes
  pub results :
      (coins : List ℕ) (lent : ℕ → ℕ → List ℕ) → Coins (plan_of bytes) coins
      → ((j k : ℕ) → length (lent j k) ≡ width * written_count (plan_of bytes) j k)
      → (apart.answer_of i (apart.run bytes xs coins [] lent (last_call (plan_of bytes)))).out ≡ bytes_of (formula_value p (names_of x) xs x ∷ [])

-- for every sheet that compiles, and all figures
abbrev pub Compiled : Type 0
Compiled =
    (n t p i : ℕ) (text out xs : List ℕ) → sheet_answer n t p i text (length out) ≡ Ok tt
    → length xs ≡ length (names_of (sheet_tree n p text)) → all_below p xs ≡ true
    → SameValue (sheet_tree n p text) p i (sheet_after n t p i text out) xs

-- ---- the worked examples
unfoldable pub formula : List ℕ
formula = ascii "2*a1 + a1*(b2 - 3)"

unfoldable pub formula_gates : List Gate
formula_gates =
    Input 1 ∷ Input 2
    ∷ Scale 0 0 ∷ Offset 2 2 ∷ Multiply 3 0
    ∷ Scale 0 0 ∷ Offset 5 3 ∷ Scale 6 10 ∷ Add 1 7
    ∷ Multiply 0 8 ∷ Add 4 9
    ∷ []

-- equal ones group to the left
unfoldable pub differences : List ℕ
differences = ascii "a1 - b1 - c1"

unfoldable pub difference_gates : List Gate
difference_gates = Input 1 ∷ Input 1 ∷ Input 1 ∷ Scale 1 10 ∷ Add 0 3 ∷ Scale 2 10 ∷ Add 4 5 ∷ []

-- the answer for a sheet of 3 parties, t = 1, p = 11 and the result's party 3, with a buffer of so many bytes
unfoldable pub sheet_for : String → ℕ → ℕ
sheet_for text room = code_of (sheet_answer 3 1 11 3 (ascii text) room)

pub record SheetSums : Type 0 where
  pub gates : (sheet_bodies 3 11 3 formula).gates ≡ formula_gates
  pub outs : (sheet_bodies 3 11 3 formula).outs ≡ record { party = 3; wire = 10 } ∷ []
  pub answer : code_of (sheet_answer 3 1 11 3 formula 87) ≡ 0
  pub room : code_of (sheet_answer 3 1 11 3 formula 86) ≡ 19
  pub size : sheet_size 3 1 11 3 formula ≡ 256 * 87
  pub value : formula_value 11 (names_of (sheet_tree 3 11 formula)) (4 ∷ 5 ∷ []) (sheet_tree 3 11 formula) ≡ 5
  pub granted_value : granted (plan_of (sheet_file 3 1 11 3 formula)) (4 ∷ 5 ∷ []) 3 ≡ 5 ∷ []
  pub to_the_left : (sheet_bodies 3 11 1 differences).gates ≡ difference_gates
  pub left_value : formula_value 11 (names_of (sheet_tree 3 11 differences)) (4 ∷ 5 ∷ 1 ∷ []) (sheet_tree 3 11 differences) ≡ 9
  pub sixteen_deep : sheet_for "((((((((((((((((a1))))))))))))))))" 27 ≡ 0
  pub seventeen_deep : sheet_for "(((((((((((((((((a1)))))))))))))))))" 27 ≡ 27
  pub blanks : sheet_for "  a1  " 27 ≡ 0
  pub largest_number : sheet_for "a1 + 10" 45 ≡ 0
  pub number_of_p : sheet_for "a1 + 11" 45 ≡ 27
  pub last_party : sheet_for "a3" 27 ≡ 0
  pub party_above : sheet_for "a4" 27 ≡ 27
  pub no_left_side : sheet_for "-a1" 27 ≡ 27
  pub number_with-zero : sheet_for "a1 + 01" 45 ≡ 27
  pub party_with-zero : sheet_for "a01" 27 ≡ 27
  pub party_0 : sheet_for "a0" 27 ≡ 27
  pub upper_case : sheet_for "A1" 27 ≡ 27
  pub name_then_letter : sheet_for "a1b" 27 ≡ 27
  pub blank_in_name : sheet_for "a 1" 27 ≡ 27
  pub two-numbers : sheet_for "a1*2 3" 27 ≡ 27
  pub empty_brackets : sheet_for "a1*()" 27 ≡ 27
  pub empty_sheet : sheet_for "" 0 ≡ 27
  pub nameless : sheet_for "1 + 2" 0 ≡ 27
  pub line_feed : sheet_for "a1\n" 27 ≡ 27
  pub result_party_0 : code_of (sheet_answer 3 1 11 0 formula 87) ≡ 8
  pub result_party_4 : code_of (sheet_answer 3 1 11 4 formula 87) ≡ 8
  pub result_party_257 : code_of (sheet_answer 3 1 11 257 formula 87) ≡ 8
  pub parties_of_257 : code_of (sheet_answer 257 0 11 3 formula 87) ≡ 3
  pub threshold : code_of (sheet_answer 3 3 11 3 formula 87) ≡ 4
  pub majority : code_of (sheet_answer 3 2 11 3 formula 87) ≡ 25
  pub no_majority : code_of (sheet_answer 2 1 11 1 (ascii "a1 + b2") 39) ≡ 0
  pub modulus : code_of (sheet_answer 3 1 65536 3 formula 87) ≡ 5
  -- above 65,535 the file has version 3
  pub third : code_of (sheet_answer 3 1 65537 3 (ascii "a1 + b2") 77) ≡ 0
  pub third_longer : code_of (sheet_answer 3 1 65537 3 (ascii "a1 + b2") 39) ≡ 19
