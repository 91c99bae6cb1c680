-- The checks of two plans, number by number.
--     Numbered, plan-numbered      a plan's checks refuse with rising numbers
--     turned                       the first that does not hold is the earlier one of both plans' first, at equal numbers the first plan's
--     answer_earlier, answer_main, answer_joint     the answer by which of the two plans pass
--     taking_earlier               what closes the needs of the call that finds it
-- Assumes nothing.
use Rattle.std.proofs.Common.{Option, Some, None, Ok, Err}
use mathlib.Core.Path.{◌≡◌, refl, sym, ap, ◌∙◌}
use mathlib.Core.Bool.{Bool, true, false}
use mathlib.Core.List.{List, [], ◌∷◌}
use Prim.Native.Nat.{ℕ, ◌<◌, ◌≤◌}
use native.Mathlib.Omega.{arith}
use borrow.Author.Rules.{rules}
use borrow.Author.Tests.{le-leb, lt-leb, not-true, not-false}
use Rattle.plan.specs.declared.Refusal.{Refusal}
use Rattle.plan.specs.declared.Refusal.TheVariants as refusal
use Rattle.plan.specs.Refusals.{Checked, number_of, and_then, first_of, need, unless_found}
use Rattle.plan.specs.File.{majority_check, points_check, plan_checks, plan_check, plan_of}
use Rattle.plan.proofs.Refusals.{first_of-append, and_then_passed, and_then_refused}
use Rattle.match_prepared.specs.PreparedCalls.{in_turn, joint_checks, prepared_checks, prepared_answer}
use Rattle.match_prepared.specs.PreparedParts.{earlier}

-- ---- checks with rising numbers
-- the checks refuse with these numbers alone, each with its own
Numbered : List Checked → List ℕ → Type 0
Numbered [] [] = Unit
Numbered [] (n ∷ ns) = ⊥
Numbered (c ∷ cs) [] = ⊥
Numbered (c ∷ cs) (n ∷ ns) = ((r : Refusal) → c ≡ Err r → number_of r ≡ n) × Numbered cs ns

-- the numbers rise above m
Rising : ℕ → List ℕ → Type 0
Rising m [] = Unit
Rising m (n ∷ ns) = (m < n) × Rising n ns

passed≢ : (r : Refusal) → ◌≡◌ {A = Checked} (Ok tt) (Err r) → ⊥
passed≢ r h = let z : ◌≡◌ {A = ℕ} 0 1 = cc in omega arith

-- the number of what is refused
code : Checked → ℕ
code (Ok tt) = 0
code (Err r) = number_of r

same-number : (r q : Refusal) → ◌≡◌ {A = Checked} (Err r) (Err q) → number_of r ≡ number_of q
unfolding code
same-number r q e = ap code e

module _ (m : ℕ) where
  above_of : (cs : List Checked) (ns : List ℕ) → Numbered cs ns → Rising m ns → (r : Refusal) → first_of cs ≡ Err r → m < number_of r
  unfolding Numbered Rising first_of and_then
  above_of [] [] k up r e = absurd (passed≢ r e)
  above_of [] (n ∷ ns) k up r e = absurd k
  above_of (c ∷ cs) [] k up r e = absurd k
  above_of (Err q ∷ cs) (n ∷ ns) k up r e = omega (arith, k.0 q refl, same-number q r e, up.0)
  above_of (Ok tt ∷ cs) (n ∷ ns) k up r e = omega (arith, up.0, later n cs ns k.1 up.1 r e)
    where
      later : (n : ℕ) (cs : List Checked) (ns : List ℕ) → Numbered cs ns → Rising n ns → (r : Refusal) → first_of cs ≡ Err r → n < number_of r
      later n [] [] k up r e = absurd (passed≢ r e)
      later n [] (o ∷ ns) k up r e = absurd k
      later n (c ∷ cs) [] k up r e = absurd k
      later n (Err q ∷ cs) (o ∷ ns) k up r e = omega (arith, k.0 q refl, same-number q r e, up.0)
      later n (Ok tt ∷ cs) (o ∷ ns) k up r e = omega (arith, up.0, later o cs ns k.1 up.1 r e)

-- ---- the earlier of two answers
earlier-passed : (c : Checked) → earlier c (Ok tt) ≡ c
unfolding earlier
earlier-passed (Ok tt) = refl
earlier-passed (Err r) = refl

earlier-first : (r : Refusal) (d : Checked) → ((q : Refusal) → d ≡ Err q → number_of r ≤ number_of q) → earlier (Err r) d ≡ Err r
unfolding earlier
earlier-first r (Ok tt) h = refl
earlier-first r (Err q) h = rw (le-leb (number_of r) (number_of q) (h q refl))

earlier-second : (c : Checked) (q : Refusal) → ((r : Refusal) → c ≡ Err r → number_of q < number_of r) → earlier c (Err q) ≡ Err q
unfolding earlier
earlier-second (Ok tt) q h = refl
earlier-second (Err r) q h = rw (lt-leb (number_of r) (number_of q) (h r refl))

turned_from : (cs ds : List Checked) (ns : List ℕ) (m : ℕ) → Numbered cs ns → Numbered ds ns → Rising m ns → first_of (in_turn cs ds) ≡ earlier (first_of cs) (first_of ds)
unfolding Numbered Rising in_turn first_of and_then earlier
turned_from [] [] ns m k j up = refl
turned_from [] (d ∷ ds) [] m k j up = absurd j
turned_from [] (d ∷ ds) (n ∷ ns) m k j up = absurd k
turned_from (c ∷ cs) ds [] m k j up = absurd k
turned_from (c ∷ cs) [] (n ∷ ns) m k j up = absurd j
turned_from (Err r ∷ cs) (Err q ∷ ds) (n ∷ ns) m k j up = sym (earlier-first r (Err q) (λ s e. omega (arith, k.0 r refl, j.0 q refl, same-number q s e)))
turned_from (Err r ∷ cs) (Ok tt ∷ ds) (n ∷ ns) m k j up = sym (earlier-first r (first_of ds) (λ s e. omega (arith, k.0 r refl, above_of n ds ns j.1 up.1 s e)))
turned_from (Ok tt ∷ cs) (Err q ∷ ds) (n ∷ ns) m k j up = sym (earlier-second (first_of cs) q (λ s e. omega (arith, j.0 q refl, above_of n cs ns k.1 up.1 s e)))
turned_from (Ok u ∷ cs) (Ok v ∷ ds) (n ∷ ns) m k j up = turned_from cs ds ns n k.1 j.1 up.1

-- ---- a plan's checks
need-number : (q : Refusal) (ok : Bool) (r : Refusal) → need q ok ≡ Err r → number_of r ≡ number_of q
unfolding need
need-number q true r e = absurd (passed≢ r e)
need-number q false r e = sym (same-number q r e)

found-number : (f : ℕ → Refusal) (n : ℕ) → ((i : ℕ) → number_of (f i) ≡ n) → (o : Option ℕ) (r : Refusal) → unless_found f o ≡ Err r → number_of r ≡ n
unfolding unless_found
found-number f n h None r e = absurd (passed≢ r e)
found-number f n h (Some i) r e = sym (same-number (f i) r e) ∙ h i

abbrev plan_numbers : List ℕ
plan_numbers = 1 ∷ 2 ∷ 3 ∷ 4 ∷ 5 ∷ 6 ∷ 7 ∷ 8 ∷ 25 ∷ 26 ∷ []

plan-numbered : (bs : List ℕ) → Numbered (plan_checks bs) plan_numbers
unfolding Numbered plan_checks majority_check points_check number_of
plan-numbered bs = (need-number refusal.Magic _, (need-number refusal.Version _, (need-number refusal.Parties _, (need-number refusal.Threshold _, (need-number refusal.Modulus _, (need-number refusal.Layout _, (found-number refusal.GateRule 7 (λ i. refl) _, (found-number refusal.OutputRule 8 (λ i. refl) _, (found-number (λ g. refusal.Majority) 25 (λ i. refl) _, (found-number (λ i. refusal.Points) 26 (λ i. refl) _, tt))))))))))

plan-rising : Rising 0 plan_numbers
unfolding Rising
plan-rising = (omega arith, (omega arith, (omega arith, (omega arith, (omega arith, (omega arith, (omega arith, (omega arith, (omega arith, (omega arith, tt))))))))))

pub turned : (prep bs : List ℕ) → first_of (in_turn (plan_checks prep) (plan_checks bs)) ≡ earlier (plan_check prep) (plan_check bs)
unfolding plan_check
turned prep bs = turned_from (plan_checks prep) (plan_checks bs) plan_numbers 0 (plan-numbered prep) (plan-numbered bs) plan-rising

-- ---- the answer, by which of the two plans pass
module _ (prep bs : List ℕ) (set : ℕ) (xs ys coins : List ℕ) (room : ℕ) where
  answer_by :
      prepared_answer prep bs set xs ys coins room
      ≡ and_then (earlier (plan_check prep) (plan_check bs)) (first_of (joint_checks (plan_of prep) (plan_of bs) set xs ys coins room))
  unfolding prepared_answer prepared_checks
  answer_by =
      first_of-append (in_turn (plan_checks prep) (plan_checks bs)) (joint_checks (plan_of prep) (plan_of bs) set xs ys coins room)
      ∙ ap (λ (c : Checked). and_then c (first_of (joint_checks (plan_of prep) (plan_of bs) set xs ys coins room))) (turned prep bs)

  pub answer_earlier : (r q : Refusal) → plan_check prep ≡ Err r → Err q ≡ earlier (Err r) (plan_check bs) → Err q ≡ prepared_answer prep bs set xs ys coins room
  answer_earlier r q e eq = sym (answer_by ∙ and_then_refused _ _ q (ap (λ (c : Checked). earlier c (plan_check bs)) e ∙ sym eq))

  module _ (e : plan_check prep ≡ Ok tt) where
    both-plans : earlier (plan_check prep) (plan_check bs) ≡ plan_check bs
    unfolding earlier
    both-plans = ap (λ (c : Checked). earlier c (plan_check bs)) e

    pub answer_main : (q : Refusal) → plan_check bs ≡ Err q → Err q ≡ prepared_answer prep bs set xs ys coins room
    answer_main q f = sym (answer_by ∙ and_then_refused _ _ q (both-plans ∙ f))

    pub answer_joint : plan_check bs ≡ Ok tt → prepared_answer prep bs set xs ys coins room ≡ first_of (joint_checks (plan_of prep) (plan_of bs) set xs ys coins room)
    answer_joint f = answer_by ∙ and_then_passed _ _ (both-plans ∙ f)

-- ---- the code
module _ (r : Refusal) (d : Checked) where
  pub earlier_none : d ≡ Ok tt → Err r ≡ earlier (Err r) d
  earlier_none e = sym (ap (earlier (Err r)) e ∙ earlier-passed (Err r))

  module _ (q : Refusal) (e : d ≡ Err q) (a b : ℕ) (ea : a ≡ number_of q) (eb : b ≡ number_of r) where
    pub earlier_main : a < b → Err q ≡ earlier (Err r) d
    earlier_main l = sym (ap (earlier (Err r)) e ∙ earlier-second (Err r) q (λ s f. omega (arith, same-number r s f)))

    pub earlier_own : b ≤ a → Err r ≡ earlier (Err r) d
    earlier_own l = sym (ap (earlier (Err r)) e ∙ earlier-first r (Err q) (λ s f. omega (arith, same-number q s f)))

pub ruleset taking_earlier = (rules, not-true, not-false, earlier_none, earlier_main, earlier_own)
