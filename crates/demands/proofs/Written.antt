-- A plan file that was written from gates and outs, and passes.
--     sound, plan-is, is-bytes     it reads back as what was made
--     no_spend                     it spends no triple
--     results                      in a run apart a party's last call writes what the plan grants to it
-- Assumes nothing.
use Rattle.std.proofs.Common.{Option, Some, None, Ok}
use Prim.Native.Nat.{ℕ, suc, ◌*◌, ◌<◌, ◌≤◌}
use mathlib.Core.Path.{◌≡◌, refl, sym, ap, subst, ◌∙◌}
use mathlib.Core.Bool.{true}
use mathlib.Core.List.{List, [], ◌∷◌}
use native.Mathlib.Omega.{arith}
use borrow.Author.Tests.{ltb-true, ne_eqb}
use lib.Dec.{T}
use lib.ListN.{length, get_or}
use Rattle.numbers.specs.Tables.{first_failing, count_where}
use Rattle.numbers.specs.Bytes.{width, bytes_of, all_below}
use Rattle.numbers.proofs.Tables.{length-tab}
use Rattle.numbers.proofs.Searches.{nothing_passes}
use Rattle.field.proofs.Primes.{prime_sound}
use Rattle.plan.specs.declared.Gate.{Gate}
use Rattle.plan.specs.declared.Gate.TheVariants.{Input}
use Rattle.plan.specs.Refusals.{Checked}
use Rattle.plan.specs.declared.Refusal.TheVariants as refusal
use Rattle.plan.specs.Refusals.{and_then, first_of, unless_found}
use Rattle.plan.specs.Plans.{Plan, party_count, kind_of, is_kind, kind_count, last_call, written_count}
use Rattle.plan.specs.File.{modulus_ok, majority_check, plan_check, plan_of}
use Rattle.plan.proofs.Refusals.{passed_both}
use Rattle.plan.proofs.Planned.{between-true, modulus_prime, modulus_small, Passing, passing}
use Rattle.plan_file.specs.Bodies.{Bodies, plan_with, file_of_plan, content_checks, out_made}
use Rattle.plan_file.proofs.Files.{Wired, Sound, made_n, made_t, made_p, made-back, sound_room, file_check_outs, file_bytes}
use Rattle.run_protocol.specs.Ideal.{granted}
use Rattle.run_protocol.specs.Settings.{Inputs, Coins}
use Rattle.demands.specs.Apart as apart
use Rattle.demands.proofs.Apart.{demand2}
use Rattle.demands.proofs.Computed.{given_alone}

not_found : (f : Option ℕ) → unless_found refusal.OutputRule f ≡ Ok tt → f ≡ None
unfolding unless_found
not_found (Some i) e = absurd (let z : ◌≡◌ {A = ℕ} 0 1 = cc in omega arith)
not_found None e = refl

none_low : (gs : List Gate) → ((g : ℕ) → g < length gs → kind_of (get_or gs g (Input 0)) ≤ 5) → count_where (is_kind 7) gs ≡ 0
unfolding count_where is_kind
none_low [] h = refl
none_low (x ∷ gs) h = rw (ne_eqb (kind_of x) 7 (λ e. omega (arith, h 0 (omega arith), e))) (none_low gs (λ g l. h (suc g) (omega arith)))

module _ (n t p : ℕ) (b : Bodies) (few-gates : length b.gates ≤ 1024) (few_outs : length b.outs ≤ 64)
    (wired : 1 ≤ n → 2 ≤ p → Wired n p b) (passes : plan_check (file_of_plan n t p b) ≡ Ok tt) where
  checked : Passing (file_of_plan n t p b)
  checked = passing (file_of_plan n t p b) passes

  pub parties : (1 ≤ n) × (n ≤ 15)
  parties = between-true 1 15 n (rw (made_n n t p b) at checked.parties)

  threshold : t < n
  threshold = ltb-true t n (rw (made_n n t p b, made_t n t p b) at checked.threshold)

  modulus : modulus_ok n p ≡ true
  modulus = rw (made_n n t p b, made_p n t p b) at checked.modulus

  pub prime : 2 ≤ p
  prime = (prime_sound p (subst T (sym (modulus_prime n p modulus)) tt)).above

  kept : Wired n p b
  kept = wired parties.0 prime

  pub sound : Sound n p b
  unfolding out_made
  sound =
      let found : Checked = unless_found refusal.OutputRule (first_failing (out_made n b) (length b.outs)) in
      let both = passed_both (first_of (content_checks n t p (length b.gates) (length b.outs))) (and_then found (majority_check (file_of_plan n t p b)))
      (sym (file_check_outs n t p b few-gates few_outs (λ e f. kept)) ∙ passes) in
      let outs = passed_both found (majority_check (file_of_plan n t p b)) both.1 in
      let none = not_found (first_failing (out_made n b) (length b.outs)) outs.0 in
      record { low = kept.low; gates = kept.gates; outs = λ o l. nothing_passes (out_made n b) (length b.outs) none o l }

  pub plan-is : plan_of (file_of_plan n t p b) ≡ plan_with n t p b
  plan-is = made-back n t p b few-gates few_outs parties.1 (sound_room n p b parties.1 (omega (arith, modulus_small n p modulus)) few-gates sound)

  pub is-bytes : all_below 256 (file_of_plan n t p b) ≡ true
  is-bytes = file_bytes n t p b parties.1 (omega (arith, threshold, parties.1)) (omega (arith, modulus_small n p modulus)) sound

  parties_are : party_count (plan_of (file_of_plan n t p b)) ≡ n
  unfolding party_count
  parties_are = ap (λ (plan : Plan). length plan.points) plan-is ∙ (unfold plan_with in length-tab suc n)

  pub no_spend : kind_count (plan_of (file_of_plan n t p b)) 7 ≡ 0
  unfolding kind_count
  no_spend = ap (λ (plan : Plan). count_where (is_kind 7) plan.gates) plan-is ∙ (unfold plan_with in none_low b.gates kept.low)

  pub results : (i : ℕ) (xs coins : List ℕ) (lent : ℕ → ℕ → List ℕ) → 1 ≤ i → i ≤ n → Inputs (plan_of (file_of_plan n t p b)) xs → Coins (plan_of (file_of_plan n t p b)) coins
      → ((j k : ℕ) → length (lent j k) ≡ width * written_count (plan_of (file_of_plan n t p b)) j k)
      → (apart.answer_of i (apart.run (file_of_plan n t p b) xs coins [] lent (last_call (plan_of (file_of_plan n t p b))))).out ≡ bytes_of (granted (plan_of (file_of_plan n t p b)) xs i)
  results i xs coins lent l u inputs settings room =
      (demand2 (file_of_plan n t p b) xs coins [] lent is-bytes (given_alone (file_of_plan n t p b) xs coins passes no_spend inputs settings) room).results i l (omega (arith, parties_are))
