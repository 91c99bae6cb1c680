-- The sizes of the plans that are made.
--     filing     what closes the needs of the functions that give them
-- Assumes nothing.
use Rattle.std.proofs.Common.{Result, Ok, Err}
use Rattle.std.specs.Result.{MatchResult, IsOkAnd}
use Prim.Native.Nat.{ℕ, ◌≤◌}
use mathlib.Core.Path.{◌≡◌, refl, sym, ap, ◌∙◌}
use mathlib.Core.List.{List}
use borrow.Author.Rules.{rules}
use lib.ListN.{length}
use Rattle.plan.specs.declared.Refusal.{Refusal}
use Rattle.plan.specs.Refusals.{Checked, first_of}
use Rattle.plan_codes.specs.Values.{answer_of, Answered}
use Rattle.plan_codes.proofs.Codes.{answered}
use Rattle.plan_file.specs.Bodies.{file_size, version_for}
use Rattle.import_check.specs.declared.Counts.{Counts}
use Rattle.import_call.specs.Importing.{import_file, text_checks}
use Rattle.import_call.specs.Measures.{MeasuredAs}
use Rattle.import_call.proofs.Calls.{told, refused, passed, counts-parties, gates_small, outs_small, file_size_lem}
use Rattle.convert_call.specs.Converting.{old_checks, converted_file}
use Rattle.sheet_write.specs.declared.Counts.{Counts as SheetCounts}
use Rattle.sheet_call.specs.Compiling as sheet
use Rattle.sheet_call.specs.Measures.{Sized, Measuring}
use Rattle.pool_files.specs.FileSizes.{import_size, sheet_size, convert_size}

-- ---- a size that is worked from what is read
module _ {A : Type 0} (m : Result A Refusal) (r : Result ℕ Refusal) (P : A → ℕ → Type 0) (checks : Checked) (size : ℕ) where
  pub mapped : MatchResult m (λ x. IsOkAnd r (P x)) (λ e. r ≡ Err e) → ((x : A) → m ≡ Ok x → (checks ≡ Ok tt) × ((s : ℕ) → P x s → s ≡ size)) → ((e : Refusal) → m ≡ Err e → checks ≡ Err e)
      → Answered r checks size
  mapped w f g = by_read m r refl w
    where
      by_read : (m' : Result A Refusal) (r' : Result ℕ Refusal) → m ≡ m' → MatchResult m' (λ x. IsOkAnd r' (P x)) (λ e. r' ≡ Err e) → Answered r' checks size
      by_read (Ok x) (Ok s) q v = let k = f x q in (k.0, k.1 s v)
      by_read (Ok x) (Err e) q v = absurd v
      by_read (Err e) r' q v = rw v (g e q)

-- ---- the size of an imported plan
module _ (text : List ℕ) (n t p : ℕ) (m : Result Counts Refusal) (h : MeasuredAs text n t p m) where
  pub import_refused : (r : Refusal) → m ≡ Err r → first_of (text_checks n t p text) ≡ Err r
  import_refused r q = sym (told text n t p m h) ∙ refused text n t p m h r q

  module _ (c : Counts) (q : m ≡ Ok c) where
    pub import_passed : first_of (text_checks n t p text) ≡ Ok tt
    import_passed = sym (told text n t p m h) ∙ passed text n t p m h c q

    pub import_long : (v size : ℕ) → v ≡ version_for p → size ≡ file_size v n c.gates c.outs → size ≡ length (import_file n t p text)
    import_long v size ev e = e ∙ ap (λ (x : ℕ). file_size x n c.gates c.outs) ev ∙ sym (file_size_lem text n t p m h c q)

-- ---- the size of a sheet's plan
module _ (text : List ℕ) (n t p i : ℕ) (m : Result SheetCounts Refusal) (h : Measuring text n t p i m) where
  pub sheet_refused : (r : Refusal) → m ≡ Err r → first_of (sheet.text_checks n t p i text) ≡ Err r
  unfolding sheet.refusal_of
  sheet_refused r q = sym h.told ∙ rw q

  module _ (c : SheetCounts) (q : m ≡ Ok c) where
    pub sheet_passed : first_of (sheet.text_checks n t p i text) ≡ Ok tt
    unfolding sheet.refusal_of
    sheet_passed = sym h.told ∙ rw q

    pub sheet_few : c.gates ≤ 1024
    unfolding Sized
    sheet_few = (rw q at h.sized).few

    pub sheet_parties : n ≤ 15
    unfolding Sized
    sheet_parties = (rw q at h.sized).parties

    pub sheet_long : (v size : ℕ) → v ≡ version_for p → size ≡ file_size v n c.gates 1 → size ≡ length (sheet.sheet_file n t p i text)
    unfolding Sized
    sheet_long v size ev e = e ∙ ap (λ (x : ℕ). file_size x n c.gates 1) ev ∙ sym (rw q at h.sized).size

-- ---- the answers
module _ (r : Result ℕ Refusal) (k : ℕ) (e : k ≡ answer_of r) where
  pub import_sized : (n t p : ℕ) (text : List ℕ) → Answered r (first_of (text_checks n t p text)) (length (import_file n t p text)) → k ≡ import_size n t p text
  unfolding import_size
  import_sized n t p text h = answered _ _ r k h e

  pub sheet_sized : (n t p i : ℕ) (text : List ℕ) → Answered r (first_of (sheet.text_checks n t p i text)) (length (sheet.sheet_file n t p i text)) → k ≡ sheet_size n t p i text
  unfolding sheet_size
  sheet_sized n t p i text h = answered _ _ r k h e

  pub convert_sized : (bs : List ℕ) → Answered r (first_of (old_checks bs)) (length (converted_file bs)) → k ≡ convert_size bs
  unfolding convert_size
  convert_sized bs h = answered _ _ r k h e

pub ruleset filing = (rules, counts-parties, gates_small, outs_small, sheet_few, sheet_parties)
