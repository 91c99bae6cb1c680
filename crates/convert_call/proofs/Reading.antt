-- A plan of version 1 or 2 is read as any other.
--     old-same      its checks are those of a plan, where the version is not 3 or 4
--     versions      what closes the needs of the reader
-- Assumes nothing.
use Rattle.std.proofs.Common.{Ok, Err}
use Prim.Native.Nat.{ℕ, ◌≤◌}
use mathlib.Core.Path.{◌≡◌, refl, sym, ap, ◌∙◌}
use mathlib.Core.Bool.{Bool, true, false, ◌&&◌}
use mathlib.Core.List.{List}
use native.Mathlib.Omega.{arith}
use borrow.Author.Rules.{rules}
use borrow.Author.Tests.{clash, le-leb, lt-leb, leb-true, leb-false}
use lib.Dec.{leb}
use lib.ListN.{length, take, drop}
use Rattle.numbers.proofs.Truth.{both_true}
use Rattle.plan.specs.declared.Header.{Header}
use Rattle.plan.specs.Refusals.{Checked}
use Rattle.plan.specs.declared.Refusal.{Refusal}
use Rattle.plan.specs.declared.Refusal.TheVariants as refusal
use Rattle.plan.specs.Refusals.{and_then, first_of, need}
use Rattle.plan.specs.File.{magic, same_bytes, between, version_at, plan_checks, plan_check}
use Rattle.plan.specs.Planned.{Planned}
use Rattle.plan.proofs.Refusals.{passed_both, passed-need}
use Rattle.plan.proofs.Planned.{between-true}
use Rattle.convert_call.specs.Converting.{old_checks}

-- the rest of a plan's checks
module _ (bs : List ℕ) where
  abbrev begun : Bool
  begun = leb 18 (length bs) && same_bytes (take 4 bs) magic

  rest : Checked
  rest = first_of (drop 2 (plan_checks bs))

  old-is : first_of (old_checks bs) ≡ and_then (need refusal.Magic begun) (and_then (need refusal.Version (between 1 2 (version_at bs))) rest)
  unfolding old_checks plan_checks first_of rest
  old-is = refl

  plan-is : plan_check bs ≡ and_then (need refusal.Magic begun) (and_then (need refusal.Version (between 1 4 (version_at bs))) rest)
  unfolding plan_check plan_checks first_of rest
  plan-is = refl

  same-range : (v : ℕ) → between 3 4 v ≡ false → between 1 2 v ≡ between 1 4 v
  unfolding between
  same-range v h = ap (λ (b : Bool). leb 1 v && b) (by (leb v 2) (leb 3 v) (leb v 4) refl refl refl h)
    where
      by : (a b c : Bool) → leb v 2 ≡ a → leb 3 v ≡ b → leb v 4 ≡ c → (b && c) ≡ false → a ≡ c
      by true b true e f g h = refl
      by true b false e f g h = absurd (omega (arith, leb-true v 2 e, leb-false v 4 g))
      by false true true e f g h = absurd (clash (sym h))
      by false true false e f g h = refl
      by false false c e f g h = absurd (omega (arith, leb-false v 2 e, leb-false 3 v f))

  old-same : between 3 4 (version_at bs) ≡ false → first_of (old_checks bs) ≡ plan_check bs
  old-same h = old-is ∙ ap (λ (b : Bool). and_then (need refusal.Magic begun) (and_then (need refusal.Version b) rest)) (same-range (version_at bs) h) ∙ sym plan-is

  -- a plan that passes has version 1 or 2
  pub old-version : first_of (old_checks bs) ≡ (Ok tt) → between 1 2 (version_at bs) ≡ true
  old-version e =
      let a = passed_both (need refusal.Magic begun) _ (sym old-is ∙ e) in
      passed-need refusal.Version _ (passed_both (need refusal.Version (between 1 2 (version_at bs))) rest a.1).0

  old-passed : first_of (old_checks bs) ≡ (Ok tt) → first_of (old_checks bs) ≡ plan_check bs
  unfolding between
  old-passed e = old-same (later (version_at bs) (between-true 1 2 (version_at bs) (old-version e)).1)
    where
      later : (v : ℕ) → v ≤ 2 → between 3 4 v ≡ false
      later v l = rw (lt-leb 3 v (omega arith)) refl

  pub old-plan : first_of (old_checks bs) ≡ (Ok tt) → plan_check bs ≡ (Ok tt)
  old-plan e = sym (old-passed e) ∙ e

  -- without the letters both refuse them
  old-without : begun ≡ false → first_of (old_checks bs) ≡ plan_check bs
  unfolding need and_then
  old-without e = rw (plan-is, old-is, e)

  module _ (t : Bool) (et : t ≡ (between 3 4 (version_at bs) && begun)) where
    pub old-later : t ≡ true → first_of (old_checks bs) ≡ Err refusal.Version
    unfolding need and_then between
    old-later h =
        let k = both_true (between 3 4 (version_at bs)) begun (sym et ∙ h) in
        rw (old-is, k.1, none (version_at bs) (between-true 3 4 (version_at bs) k.0).0) refl
      where
        none : (v : ℕ) → 3 ≤ v → between 1 2 v ≡ false
        none v l = rw (le-leb 1 v (omega arith), lt-leb v 2 (omega arith)) refl

    old-agrees : t ≡ false → first_of (old_checks bs) ≡ plan_check bs
    old-agrees h = by (between 3 4 (version_at bs)) begun refl refl (sym et ∙ h)
      where
        by : (v b : Bool) → between 3 4 (version_at bs) ≡ v → begun ≡ b → (v && b) ≡ false → first_of (old_checks bs) ≡ plan_check bs
        by false b p q e = old-same p
        by true false p q e = old-without q
        by true true p q e = absurd (clash (sym e))

    pub old-refused : (r : Refusal) → t ≡ false → plan_check bs ≡ Err r → first_of (old_checks bs) ≡ Err r
    old-refused r h e = old-agrees h ∙ e

    pub old-passes : (xs : List ℕ) (h : Header) → t ≡ false → Planned xs h → xs ≡ bs → first_of (old_checks bs) ≡ (Ok tt)
    old-passes xs h n p e = old-agrees n ∙ ap plan_check (sym e) ∙ p.passes

-- a test that fails makes the whole fail
pub not_begun : (t b x : Bool) → t ≡ b → t ≡ false → t ≡ (b && x)
not_begun t b x e f = f ∙ ap (λ (y : Bool). y && x) (sym (sym e ∙ f))

pub ruleset versions = (rules, old-later, old-refused, old-passes)
