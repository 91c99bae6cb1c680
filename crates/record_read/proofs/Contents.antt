-- The contents of a record against the plan, party by party, and bytes that are copied.
--     contents, tiling     what closes the needs of the functions that check a record
--     Copied, copying      a loop that copies bytes
-- Assumes nothing.
use Rattle.std.proofs.Common.{Option, Some, None, Ok, Err}
use Prim.Native.Nat.{ℕ, suc, ◌+◌, ◌-◌, ◌*◌, ◌<◌, ◌≤◌}
use mathlib.Core.Path.{◌≡◌, refl, sym, ap, ◌∙◌}
use mathlib.Core.Bool.{Bool, true, false, not, ◌&&◌}
use mathlib.Core.List.{List}
use native.Mathlib.Numerals.{add-one}
use native.Mathlib.Omega.{arith}
use borrow.Author.Rules.{rules}
use borrow.Author.Tests.{not-true, not-false, eq-eqb, ne_eqb}
use lib.Dec.{eqb}
use lib.ListN.{length, get_or, take, drop, set, length-set, length-drop}
use lib.Seq.{take-suc, take-suc-set, take_all, get_or-drop}
use Rattle.numbers.specs.Tables.{first_failing}
use Rattle.numbers.specs.Bytes.{width, number_at, numbers}
use Rattle.numbers.proofs.Bytes.{get_or-numbers}
use Rattle.numbers.proofs.Searches.{Seeking, begin, found, passed, nothing}
use Rattle.plan.specs.declared.Header.{Header}
use Rattle.plan.specs.declared.Refusal.TheVariants as refusal
use Rattle.plan.specs.Refusals.{need}
use Rattle.plan.specs.Plans.{Plan, party_count}
use Rattle.plan.specs.File.{found_none, plan_of}
use Rattle.plan.specs.Planned.{Planned}
use Rattle.plan.proofs.Refusals.{need-true, need-false}
use Rattle.plan.proofs.Planned.{plan_n}
use Rattle.run_protocol.specs.Rounds.{view_count_of}
use Rattle.record_laws.specs.Records.{body_size, bodies_before, body_start, record_size, content_kept, record_ok}
use Rattle.record_laws.proofs.Sizes.{before-le}

-- ---- the two numbers of a party
module _ (s : List ℕ) (k x : ℕ) (l : 8 * k + 8 ≤ length s) where
  offset-is : x ≡ get_or (numbers s) (2 * k) 0 → x ≡ number_at 4 s (8 * k)
  offset-is e = let q : width * (2 * k) ≡ 8 * k = omega arith in e ∙ get_or-numbers s (2 * k) (omega arith) ∙ ap (number_at 4 s) q

  bytes_are : x ≡ get_or (numbers s) (2 * k + 1) 0 → x ≡ number_at 4 s (8 * k + 4)
  bytes_are e = let q : width * (2 * k + 1) ≡ 8 * k + 4 = omega arith in e ∙ get_or-numbers s (2 * k + 1) (omega arith) ∙ ap (number_at 4 s) q

module _ (s : List ℕ) (k x y at size : ℕ) (l : 8 * k + 8 ≤ length s) (ex : x ≡ get_or (numbers s) (2 * k) 0) (ey : y ≡ get_or (numbers s) (2 * k + 1) 0) where
  pub content_elsewhere : (x ≡ at → ⊥) → eqb x at ≡ (eqb (number_at 4 s (8 * k)) at && eqb (number_at 4 s (8 * k + 4)) size)
  content_elsewhere n = rw (← offset-is s k x l ex, ne_eqb x at n)

  pub content_long : x ≡ at → eqb y size ≡ (eqb (number_at 4 s (8 * k)) at && eqb (number_at 4 s (8 * k + 4)) size)
  content_long e = rw (← offset-is s k x l ex, eq-eqb x at e, ← bytes_are s k y l ey)

pub start_read : (s : List ℕ) (i x : ℕ) → 1 ≤ i → 8 * i ≤ length s → x ≡ get_or (numbers s) (2 * i - 2) 0 → x ≡ number_at 4 s (8 * (i - 1))
start_read s i x l m e = let q : 2 * i - 2 ≡ 2 * (i - 1) = omega arith in offset-is s (i - 1) x (omega arith) (rw q at e)

pub size_read : (plan : Plan) (i count : ℕ) → count ≡ view_count_of plan i → width * count ≡ body_size plan i
unfolding body_size
size_read plan i count e = ap (λ (k : ℕ). width * k) e

pub ruleset contents = (rules, content_elsewhere, content_long, start_read, size_read)

-- ---- where the bodies stand
pub start_next : (plan : Plan) (k : ℕ) → body_start plan (suc k) ≡ body_start plan k + body_size plan (suc k)
unfolding body_start bodies_before
start_next plan k = omega arith

pub start_first : (plan : Plan) → body_start plan 0 ≡ 8 * party_count plan
unfolding body_start bodies_before
start_first plan = omega arith

-- each begins within the record
pub start_within : (plan : Plan) (k : ℕ) → k ≤ party_count plan → body_start plan k ≤ record_size plan
unfolding record_size
start_within plan k l = before-le plan k (party_count plan) l

-- ---- the loop over the parties
not_found : (f : Option ℕ) (b : Bool) (i : ℕ) → Some i ≡ f → false ≡ (b && found_none f)
unfolding found_none
not_found f true i e = rw (← e)
not_found f false i e = refl

none_found : (f : Option ℕ) (b : Bool) → None ≡ f → b ≡ (b && found_none f)
unfolding found_none
none_found f true e = rw (← e)
none_found f false e = refl

-- k parties' contents are kept, and their bodies end at `at`
pub record Tiled (bs : List ℕ) (h : Header) (s : List ℕ) (k at : ℕ) : Type 0 where
  pub within : k ≤ h.n
  pub room : 8 * h.n ≤ length s
  pub few : at ≤ 120 + 274432 * k
  pub start : at ≡ body_start (plan_of bs) k
  pub kept : Seeking (content_kept (plan_of bs) s) h.n k

module _ (bs : List ℕ) (h : Header) (pl : Planned bs h) (s : List ℕ) where
  ok-is : record_ok (plan_of bs) s ≡ (eqb (length s) (record_size (plan_of bs)) && found_none (first_failing (content_kept (plan_of bs) s) h.n))
  unfolding record_ok
  ok-is = ap (λ (n : ℕ). eqb (length s) (record_size (plan_of bs)) && found_none (first_failing (content_kept (plan_of bs) s) n)) (plan_n pl)

  untiled : false ≡ record_ok (plan_of bs) s → Err refusal.Record ≡ need refusal.Record (record_ok (plan_of bs) s)
  untiled e = sym (need-false refusal.Record _ (sym e))

  pub tile_short : length s < 8 * h.n → Err refusal.Record ≡ need refusal.Record (record_ok (plan_of bs) s)
  tile_short l =
      let less : 8 * h.n ≤ record_size (plan_of bs) = omega (arith, start_within (plan_of bs) 0 (omega arith), start_first (plan_of bs), plan_n pl) in
      untiled (sym (ok-is ∙ rw (ne_eqb (length s) (record_size (plan_of bs)) (λ e. omega (arith, e, less)))))

  pub tile-none : 8 * h.n ≤ length s → Tiled bs h s 0 (8 * h.n)
  tile-none l = record {
    within = omega arith;
    room = l;
    few = omega (arith, pl.n-high);
    start = omega (arith, start_first (plan_of bs), plan_n pl);
    kept = begin (content_kept (plan_of bs) s) h.n;
  }

  module _ (k at : ℕ) (t : Tiled bs h s k at) where
    pub tile-room : k < h.n → 8 * k + 8 ≤ length s
    tile-room l = omega (arith, t.room)

    module _ (l : k < h.n) (size : ℕ) (es : size ≡ body_size (plan_of bs) (k + 1)) (b : Bool) (eb : b ≡ (eqb (number_at 4 s (8 * k)) at && eqb (number_at 4 s (8 * k + 4)) size)) where
      size_is : size ≡ body_size (plan_of bs) (suc k)
      size_is = es ∙ ap (body_size (plan_of bs)) (add-one k)

      kept-is : b ≡ content_kept (plan_of bs) s k
      unfolding content_kept
      kept-is = eb ∙ rw (t.start, size_is)

      pub tile-not : b ≡ false → Err refusal.Record ≡ need refusal.Record (record_ok (plan_of bs) s)
      tile-not e = untiled (not_found _ (eqb (length s) (record_size (plan_of bs))) k (found (content_kept (plan_of bs) s) h.n k t.kept l (sym kept-is ∙ e)) ∙ sym ok-is)

      pub tile-next : not b ≡ false → size ≤ 274432 → Tiled bs h s (k + 1) (at + size)
      tile-next e few = record {
        within = omega arith;
        room = t.room;
        few = omega (arith, t.few);
        start = rw add-one (omega (arith, t.start, size_is, start_next (plan_of bs) k));
        kept = passed (content_kept (plan_of bs) s) h.n k t.kept l (sym kept-is ∙ not-false b e);
      }

    tile-end : h.n ≤ k → eqb (length s) at ≡ record_ok (plan_of bs) s
    unfolding record_size
    tile-end l =
        let q : k ≡ party_count (plan_of bs) = omega (arith, t.within, plan_n pl) in
        ap (eqb (length s)) (t.start ∙ ap (body_start (plan_of bs)) q)
        ∙ none_found _ (eqb (length s) (record_size (plan_of bs))) (nothing (content_kept (plan_of bs) s) h.n k t.kept l) ∙ sym ok-is

    pub tile-over : h.n ≤ k → (length s ≡ at → ⊥) → Err refusal.Record ≡ need refusal.Record (record_ok (plan_of bs) s)
    tile-over l n = untiled (sym (ne_eqb (length s) at n) ∙ tile-end l)

    pub tile-passes : h.n ≤ k → length s ≡ at → (Ok tt) ≡ need refusal.Record (record_ok (plan_of bs) s)
    tile-passes l e = sym (need-true refusal.Record _ (sym (tile-end l) ∙ eq-eqb (length s) at e))

-- As it is: answers name this set, since the check leaves their goals open by `using` alone.
pub ruleset tiling = (rules, not-true, not-false, tile_short, tile-none, tile-room, tile-not, tile-next, tile-over, tile-passes)

-- ---- a copy
-- i bytes from `at` on stand in d, which was d₀
pub record Copied (s : List ℕ) (at : ℕ) (d₀ d : List ℕ) (i : ℕ) : Type 0 where
  pub within : i ≤ length d₀
  pub room : at + length d₀ ≤ length s
  pub long : length d ≡ length d₀
  pub front : take i d ≡ take i (drop at s)

pub copy-none : (s : List ℕ) (at : ℕ) (d : List ℕ) → at + length d ≤ length s → Copied s at d d 0
copy-none s at d l = record { within = omega arith; room = l; long = refl; front = refl }

module _ (s : List ℕ) (at : ℕ) (d₀ d : List ℕ) (i : ℕ) (t : Copied s at d₀ d i) where
  pub copy_room : i < length d → at + i < length s
  copy_room l = omega (arith, t.room, t.long)

  pub copy_next : (v : ℕ) → i < length d → v ≡ get_or s (at + i) 0 → Copied s at d₀ (set d i v) (i + 1)
  copy_next v l e =
      let m : i < length (drop at s) = omega (arith, length-drop at s, t.room, t.long) in
      record {
        within = omega (arith, t.long);
        room = t.room;
        long = length-set d i v ∙ t.long;
        front = rw (add-one, take-suc-set d i v l, take-suc (drop at s) i 0 m, get_or-drop at s i 0, t.front, e);
      }

  pub copy_long : length d ≡ length d₀
  copy_long = t.long

  pub copied : length d ≤ i → d ≡ take (length d₀) (drop at s)
  copied l = let q : i ≡ length d₀ = omega (arith, t.within, t.long) in sym (take_all i d l) ∙ t.front ∙ ap (λ (k : ℕ). take k (drop at s)) q

pub ruleset copying = (rules, copy-none, copy_room, copy_next, copy_long, copied)
