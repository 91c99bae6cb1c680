-- An imported circuit: its plan passes, and what it grants to party 1 is the circuit's bits.
--     imported     the claim
-- Assumes nothing.
use Rattle.std.proofs.Common.{Ok}
use Prim.Native.Nat.{ℕ, suc, ◌*◌, ◌≤◌}
use mathlib.Core.Path.{◌≡◌, refl, sym, ap, ◌∙◌}
use mathlib.Core.Bool.{true, ◌&&◌}
use mathlib.Core.List.{List, []}
use native.Mathlib.Omega.{arith}
use borrow.Author.Tests.{leb-true}
use lib.Dec.{leb}
use lib.ListN.{length}
use Rattle.numbers.specs.Bytes.{width, bytes_of, all_below}
use Rattle.numbers.proofs.Below.{all_below_more}
use Rattle.numbers.proofs.Truth.{both_true}
use Rattle.plan.specs.declared.Refusal.TheVariants as refusal
use Rattle.plan.specs.Refusals.{first_of}
use Rattle.plan.specs.Plans.{Plan, last_call, own_inputs, written_count}
use Rattle.plan.specs.File.{plan_check, plan_of}
use Rattle.plan.proofs.Refusals.{first_of-append, passed_both, passed-need}
use Rattle.plan_file.specs.Bodies.{plan_with, file_of_plan}
use Rattle.plan_file.proofs.Files.{Wired, sound_wired}
use Rattle.run_protocol.specs.Ideal.{granted}
use Rattle.run_protocol.specs.Settings.{Inputs, Coins}
use Rattle.import_text.specs.Circuits.{format_ok, circuit_of}
use Rattle.import_lines.specs.Lines.{lines_of}
use Rattle.import_circuit.specs.Wires.{input_wires, circuit_ok}
use Rattle.import_circuit.specs.Bits.{circuit_bits}
use Rattle.import_circuit.specs.Making.{circuit_bodies}
use Rattle.import_circuit.proofs.Sound.{made-sound}
use Rattle.import_circuit.proofs.Right.{made-right}
use Rattle.import_circuit.proofs.Figures.{made_count, made-own, made-others}
use Rattle.import_check.specs.Surveying.{text_ok}
use Rattle.import_call.specs.Importing.{import_bodies, import_file, text_checks, import_checks, import_answer, import_after}
use Rattle.seat_messages.specs.Calls.{unless_refused}
use Rattle.demands.specs.Circuits.{SameBits, Imported}
use Rattle.demands.specs.Apart as apart
use Rattle.demands.proofs.Written.{parties, prime, plan-is, is-bytes, results}

-- ---- what the checks of a text that imports say
module _ (n t p : ℕ) (text : List ℕ) (room : ℕ) (answers : import_answer n t p text room ≡ Ok tt) where
  record Checks : Type 0 where
    kept : text_ok n text ≡ true
    few : (leb (length (import_bodies p text).gates) 1024 && leb (length (import_bodies p text).outs) 64) ≡ true
    plan : plan_check (import_file n t p text) ≡ Ok tt

  checks : Checks
  unfolding import_answer import_checks text_checks first_of plan_check
  checks =
      let whole = passed_both (first_of (text_checks n t p text)) _ (sym (first_of-append (text_checks n t p text) _) ∙ answers) in
      let a = passed_both _ _ whole.0 in
      let b = passed_both _ _ a.1 in
      record { kept = passed-need refusal.CircuitText _ a.0; few = passed-need refusal.TooLarge _ b.0; plan = b.1 }

  rules : circuit_ok n (circuit_of text) ≡ true
  rules = (both_true (format_ok (lines_of text)) (circuit_ok n (circuit_of text)) (unfold text_ok in checks.kept)).1

  few-gates : length (import_bodies p text).gates ≤ 1024
  few-gates = leb-true (length (import_bodies p text).gates) 1024 (both_true (leb (length (import_bodies p text).gates) 1024) (leb (length (import_bodies p text).outs) 64) checks.few).0

  few_outs : length (import_bodies p text).outs ≤ 64
  few_outs = leb-true (length (import_bodies p text).outs) 64 (both_true (leb (length (import_bodies p text).gates) 1024) (leb (length (import_bodies p text).outs) 64) checks.few).1

  made-wired : 1 ≤ n → 2 ≤ p → Wired n p (import_bodies p text)
  unfolding import_bodies
  made-wired one two = sound_wired n p (circuit_bodies p (circuit_of text)) (made-sound n p (circuit_of text) rules one two)

  passes : plan_check (file_of_plan n t p (import_bodies p text)) ≡ Ok tt
  unfolding import_file
  passes = checks.plan

  two : 2 ≤ p
  two = prime n t p (import_bodies p text) few-gates few_outs made-wired passes

  plan-was : plan_of (import_file n t p text) ≡ plan_with n t p (circuit_bodies p (circuit_of text))
  unfolding import_file
  plan-was = plan-is n t p (import_bodies p text) few-gates few_outs made-wired passes ∙ (unfold import_bodies in refl)

  module _ (xs : List ℕ) (long : length xs ≡ input_wires (circuit_of text)) (bits : all_below 2 xs ≡ true) where
    figures : Inputs (plan_of (import_file n t p text)) xs
    figures = rw plan-was (record {
      count = long ∙ sym (made_count n t p (circuit_of text));
      small = unfold plan_with in all_below_more 2 p xs two bits;
    })

    bits-granted : granted (plan_of (import_file n t p text)) xs 1 ≡ circuit_bits (circuit_of text) xs
    bits-granted = ap (λ (plan : Plan). granted plan xs 1) plan-was ∙ made-right p two n (circuit_of text) rules xs long bits t

    same_bits : SameBits (circuit_of text) (import_file n t p text) xs
    same_bits = record {
      passes = checks.plan;
      file = unfold import_file in is-bytes n t p (import_bodies p text) few-gates few_outs made-wired passes;
      inputs = figures;
      own = λ k. ap (λ (plan : Plan). own_inputs plan (suc k) xs) plan-was ∙ made-own n t p (circuit_of text) k xs long;
      granted_bits = bits-granted;
      granted-none = λ i other. ap (λ (plan : Plan). granted plan xs i) plan-was ∙ made-others n t p (circuit_of text) i xs other;
      results = λ coins lent settings room. written coins lent settings room ∙ ap bytes_of bits-granted;
    }
      where
        written : (coins : List ℕ) (lent : ℕ → ℕ → List ℕ) → Coins (plan_of (import_file n t p text)) coins
            → ((i k : ℕ) → length (lent i k) ≡ width * written_count (plan_of (import_file n t p text)) i k)
            → (apart.answer_of 1 (apart.run (import_file n t p text) xs coins [] lent (last_call (plan_of (import_file n t p text))))).out ≡ bytes_of (granted (plan_of (import_file n t p text)) xs 1)
        written coins lent settings room =
            unfold import_file in results n t p (import_bodies p text) few-gates few_outs made-wired passes 1 xs coins lent (omega arith) (parties n t p (import_bodies p text) few-gates few_outs made-wired passes).0 figures settings room

pub imported : Imported
unfolding import_after unless_refused
imported n t p text out xs answers long bits = rw answers (same_bits n t p text (length out) answers xs long bits)
