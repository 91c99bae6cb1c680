-- A formula sheet that compiles: its plan passes, and what it grants to the result's party is the formula's value.
--     compiled     the claim
-- Assumes nothing.
use Rattle.std.proofs.Common.{Ok}
use Prim.Native.Nat.{ℕ, ◌*◌, ◌≤◌}
use mathlib.Core.Path.{◌≡◌, refl, sym, ap, ◌∙◌}
use mathlib.Core.Bool.{true, ◌&&◌}
use mathlib.Core.List.{List, [], ◌∷◌, map}
use native.Mathlib.Omega.{arith}
use borrow.Author.Tests.{leb-true}
use lib.Dec.{ltb}
use lib.ListN.{length, drop}
use Rattle.numbers.specs.Bytes.{width, bytes_of, all_below}
use Rattle.numbers.proofs.Truth.{both_true}
use Rattle.plan.specs.declared.Refusal.TheVariants as refusal
use Rattle.plan.specs.Refusals.{first_of}
use Rattle.plan.specs.Plans.{Plan, last_call, own_of, own_inputs, written_count}
use Rattle.plan.specs.File.{between, out_ok, plan_check, plan_of}
use Rattle.plan.proofs.Refusals.{first_of-append, passed_both, passed-need}
use Rattle.plan.proofs.Planned.{between-true}
use Rattle.plan_file.specs.Bodies.{plan_with, file_of_plan}
use Rattle.plan_file.proofs.Files.{Wired}
use Rattle.run_protocol.specs.Ideal.{granted}
use Rattle.run_protocol.specs.Settings.{Inputs, Coins}
use Rattle.seat_messages.specs.Calls.{unless_refused}
use Rattle.sheet_text.specs.Trees.{party_of, names_of, formula_value}
use Rattle.sheet_text.specs.Making.{sheet_tree, sheet_ok, tree_made, bodies_with, tree_bodies}
use Rattle.sheet_text.proofs.Proper.{Below, sheet_below, tree-value, tree-others}
use Rattle.sheet_text.proofs.Sound.{made_count, made-own}
use Rattle.sheet_call.specs.Compiling.{sheet_bodies, sheet_file, text_checks, sheet_checks, sheet_answer, sheet_after}
use Rattle.sheet_call.proofs.Calls.{names-some, sheet-wired}
use Rattle.demands.specs.Sheets.{named_figures, SameValue, Compiled}
use Rattle.demands.specs.Apart as apart
use Rattle.demands.proofs.Written.{prime, sound, plan-is, is-bytes, results}

own_named : (j : ℕ) (names xs : List ℕ) → own_of j (map party_of names) xs ≡ named_figures j names xs
unfolding own_of named_figures
own_named j [] xs = refl
own_named j (x ∷ names) xs = rw (own_named j names (drop 1 xs))

module _ (n t p i : ℕ) (text : List ℕ) (room : ℕ) (answers : sheet_answer n t p i text room ≡ Ok tt) where
  record Checks : Type 0 where
    kept : sheet_ok n p text ≡ true
    few : length (sheet_bodies n p i text).gates ≤ 1024
    plan : plan_check (file_of_plan n t p (sheet_bodies n p i text)) ≡ Ok tt

  checks : Checks
  unfolding sheet_answer sheet_checks text_checks first_of plan_check sheet_file
  checks =
      let whole = passed_both (first_of (text_checks n t p i text)) _ (sym (first_of-append (text_checks n t p i text) _) ∙ answers) in
      let a = passed_both _ _ whole.0 in
      let b = passed_both _ _ a.1 in
      record {
        kept = passed-need refusal.SheetText _ a.0;
        few = leb-true (length (sheet_bodies n p i text).gates) 1024 (passed-need refusal.TooLarge _ b.0);
        plan = b.1;
      }

  one_out : length (sheet_bodies n p i text).outs ≤ 64
  unfolding sheet_bodies tree_bodies bodies_with
  one_out = omega arith

  wired : 1 ≤ n → 2 ≤ p → Wired n p (sheet_bodies n p i text)
  wired one two = sheet-wired n t p i text checks.kept two

  two : 2 ≤ p
  two = prime n t p (sheet_bodies n p i text) checks.few one_out wired checks.plan

  below : Below n p (sheet_tree n p text)
  below = sheet_below n p text (omega (arith, two))

  party : (1 ≤ i) × (i ≤ n)
  unfolding out_ok sheet_bodies tree_bodies bodies_with
  party =
      let s = sound n t p (sheet_bodies n p i text) checks.few one_out wired checks.plan in
      out-party (tree_made p (sheet_tree n p text)).wire (length (tree_made p (sheet_tree n p text)).gates) (s.outs 0 (omega arith))
    where
      out-party : (w g : ℕ) → (between 1 n i && ltb w g) ≡ true → (1 ≤ i) × (i ≤ n)
      out-party w g h = between-true 1 n i (both_true (between 1 n i) (ltb w g) h).0

  plan-was : plan_of (sheet_file n t p i text) ≡ plan_with n t p (tree_bodies p i (sheet_tree n p text))
  unfolding sheet_file
  plan-was = plan-is n t p (sheet_bodies n p i text) checks.few one_out wired checks.plan ∙ (unfold sheet_bodies in refl)

  module _ (xs : List ℕ) (long : length xs ≡ length (names_of (sheet_tree n p text))) (small : all_below p xs ≡ true) where
    figures : Inputs (plan_of (sheet_file n t p i text)) xs
    figures = rw plan-was (record {
      count = long ∙ sym (made_count n t p i (sheet_tree n p text));
      small = unfold plan_with in small;
    })

    value-granted : granted (plan_of (sheet_file n t p i text)) xs i ≡ formula_value p (names_of (sheet_tree n p text)) xs (sheet_tree n p text) ∷ []
    value-granted =
        ap (λ (plan : Plan). granted plan xs i) plan-was
        ∙ tree-value n t p i (sheet_tree n p text) xs (omega (arith, two)) below (names-some n t p i text checks.kept) long

    same-value : SameValue (sheet_tree n p text) p i (sheet_file n t p i text) xs
    same-value = record {
      passes = unfold sheet_file in checks.plan;
      file = unfold sheet_file in is-bytes n t p (sheet_bodies n p i text) checks.few one_out wired checks.plan;
      inputs = figures;
      own = λ j. ap (λ (plan : Plan). own_inputs plan j xs) plan-was ∙ made-own n t p i (sheet_tree n p text) j xs ∙ own_named j (names_of (sheet_tree n p text)) xs;
      granted_value = value-granted;
      granted-none = λ j other. ap (λ (plan : Plan). granted plan xs j) plan-was ∙ tree-others n t p i (sheet_tree n p text) xs j other;
      results = λ coins lent settings room. written coins lent settings room ∙ ap bytes_of value-granted;
    }
      where
        written : (coins : List ℕ) (lent : ℕ → ℕ → List ℕ) → Coins (plan_of (sheet_file n t p i text)) coins
            → ((j k : ℕ) → length (lent j k) ≡ width * written_count (plan_of (sheet_file n t p i text)) j k)
            → (apart.answer_of i (apart.run (sheet_file n t p i text) xs coins [] lent (last_call (plan_of (sheet_file n t p i text))))).out ≡ bytes_of (granted (plan_of (sheet_file n t p i text)) xs i)
        written coins lent settings room =
            unfold sheet_file in results n t p (sheet_bodies n p i text) checks.few one_out wired checks.plan i xs coins lent party.0 party.1 figures settings room

pub compiled : Compiled
unfolding sheet_after unless_refused
compiled n t p i text out xs answers long small = rw answers (same-value n t p i text (length out) answers xs long small)
