-- The sizes of a record, and its contents as they are written.
--     everyone            the members of the set of all parties
--     shifting, sizing    that set, the bytes of a body and of a record
--     Listed, listing     the loop over the parties: k of them stand in the contents
-- Assumes nothing.
use Prim.Native.Nat.{ℕ, suc, ◌+◌, ◌-◌, ◌*◌, ◌%◌, ◌^◌, ◌<◌, ◌≤◌}
use mathlib.Core.Path.{◌≡◌, refl, sym, ap, ap₂, ◌∙◌}
use mathlib.Core.List.{List, [], ◌∷◌, ◌++◌, flat_map, append_assoc, append-nil}
use native.Mathlib.Numerals.{add-one}
use native.Mathlib.Nat.{mod-eq_of_lt}
use native.Mathlib.Omega.{arith}
use borrow.Author.Rules.{rules}
use lib.Pow.{pow_pos, pow-lt, ones_lt}
use lib.ListN.{length, take}
use mir.Syntax.{w64}
use mir.Val.{Fits}
use Rattle.numbers.specs.Tables.{tab}
use Rattle.numbers.specs.Bytes.{width, bytes_from, bytes_of, stored}
use Rattle.numbers.proofs.Tables.{tab-snoc}
use Rattle.numbers.proofs.Rows.{flat-snoc}
use Rattle.numbers.proofs.Bytes.{length-stored, take-stored}
use Rattle.plan.specs.declared.Header.{Header}
use Rattle.plan.specs.Plans.{Plan, parties}
use Rattle.plan.specs.File.{plan_of}
use Rattle.plan.specs.Planned.{Planned}
use Rattle.plan.proofs.Planned.{plan_n}
use Rattle.plan_coalition.specs.Coalitions.{members}
use Rattle.run_protocol.specs.Rounds.{view_count_of, view_count}
use Rattle.record_laws.specs.Records.{body_size, bodies_before, body_start, record_size, content_of, contents_of}
use Rattle.record_laws.proofs.Sizes.{size_is}
use Rattle.record_write.proofs.Sets.{everyone-is}

-- ---- the set of all parties
shifted : (n : ℕ) → n ≤ 15 → 1 * 2 ^ n % 2 ^ 16 ≡ 2 ^ n
shifted n l =
    let e : 1 * 2 ^ n ≡ 2 ^ n = omega arith in
    ap (λ (x : ℕ). x % 2 ^ 16) e ∙ mod-eq_of_lt (pow-lt {i = n} {j = 16} (omega arith))

pub shift-some : (n : ℕ) → n ≤ 15 → 1 ≤ 1 * 2 ^ n % 2 ^ 16
shift-some n l = rw (shifted n l) (pow_pos n)

pub shift_is : (n : ℕ) → n ≤ 15 → 1 * 2 ^ n % 2 ^ 16 - 1 ≡ 2 ^ n - 1
shift_is n l = ap (λ (x : ℕ). x - 1) (shifted n l)

pub shift_in : (n : ℕ) → n ≤ 15 → n < 16
shift_in n l = omega arith

pub ruleset shifting = (rules, shift_in, shift-some, shift_is)

-- ---- sizes
module _ {bs : List ℕ} {h : Header} (pl : Planned bs h) where
  pub everyone : (set : ℕ) → set ≡ 2 ^ h.n - 1 → members set ≡ parties (plan_of bs)
  unfolding parties
  everyone set e = ap members e ∙ everyone-is h.n pl.n-high ∙ ap (tab suc) (sym (plan_n pl))

  pub everyone_within : (set : ℕ) → set ≡ 2 ^ h.n - 1 → set < 2 ^ h.n
  everyone_within set e = rw e (ones_lt h.n)

  pub few-parties : h.n ≤ 15
  few-parties = pl.n-high

  pub body_is : (i k : ℕ) → k ≡ view_count_of (plan_of bs) i → width * k ≡ body_size (plan_of bs) i
  unfolding body_size
  body_is i k e = ap (λ (x : ℕ). width * x) e

  pub size-is_all : (set k : ℕ) → set ≡ 2 ^ h.n - 1 → k ≡ view_count (plan_of bs) (members set) → 8 * h.n + width * k ≡ record_size (plan_of bs)
  size-is_all set k es e =
      ap₂ (λ (n x : ℕ). 8 * n + width * x) (sym (plan_n pl)) (e ∙ ap (view_count (plan_of bs)) (everyone set es))
      ∙ sym (size_is (plan_of bs))

  pub size_most : (k : ℕ) → k ≤ 1097728 → 8 * h.n + width * k ≤ 4391032
  size_most k l = omega (arith, pl.n-high)

  pub size_fits : (k : ℕ) → k ≤ 1097728 → Fits w64 (8 * h.n + width * k)
  size_fits k l = record { fits = omega (arith, pl.n-high) }

pub body_most : (k : ℕ) → k ≤ 68608 → width * k ≤ 274432
body_most k l = omega arith

pub body_fits : (k : ℕ) → k ≤ 68608 → Fits w64 (width * k)
body_fits k l = record { fits = omega arith }

pub bodies_fit : (k : ℕ) → k ≤ 1097728 → Fits w64 (width * k)
bodies_fit k l = record { fits = omega arith }

pub contents_fit : (n : ℕ) → n ≤ 15 → Fits w64 (8 * n)
contents_fit n l = record { fits = omega arith }

-- As it is: answers name this set, since the check leaves their goals open by `using` alone.
pub ruleset sizing = (rules, few-parties, body_is, body_most, body_fits, size-is_all, size_most, size_fits, bodies_fit, contents_fit)

-- ---- the contents
pub record Listed (plan : Plan) (n : ℕ) (d₀ d : List ℕ) (at k : ℕ) : Type 0 where
  pub within : k ≤ n
  pub room : 8 * n ≤ length d₀
  pub long : length d ≡ length d₀
  pub place : at ≡ body_start plan k
  pub few : at ≤ 120 + 274432 * k
  pub front : take (8 * k) d ≡ flat_map (content_of plan) (tab (λ i. i) k)

module _ {bs : List ℕ} {h : Header} (pl : Planned bs h) where
  pub listed-none : (d : List ℕ) → 8 * h.n ≤ length d → Listed (plan_of bs) h.n d d (8 * h.n) 0
  unfolding body_start bodies_before flat_map tab
  listed-none d l = record {
    within = omega arith;
    room = l;
    long = refl;
    place = omega (arith, plan_n pl);
    few = omega (arith, pl.n-high);
    front = refl;
  }

  module _ (d₀ d : List ℕ) (at k : ℕ) (f : Listed (plan_of bs) h.n d₀ d at k) where
    pub listed-few : k < h.n → k ≤ 15
    listed-few l = omega (arith, pl.n-high)

    pub listed-fits : (size : ℕ) → k < h.n → size ≤ 274432 → Fits w64 (at + size)
    listed-fits size l s = record { fits = omega (arith, f.few, pl.n-high) }

    pub listed_next :
        (size : ℕ) (new : List ℕ) → k < h.n → size ≡ body_size (plan_of bs) (k + 1) → size ≤ 274432 → new ≡ stored (stored d (2 * k) at) (2 * k + 1) size
        → Listed (plan_of bs) h.n d₀ new (at + size) (k + 1)
    unfolding body_start bodies_before content_of bytes_of
    listed_next size new l es s e =
        let is : size ≡ body_size (plan_of bs) (suc k) = rw add-one at es in
        let first : take (8 * k + 4) (stored d (2 * k) at) ≡ take (8 * k) d ++ bytes_of (at ∷ []) = one d (2 * k) at (8 * k) (omega arith) (omega (arith, f.room, f.long)) in
        let both : take (8 * k + 4 + 4) (stored (stored d (2 * k) at) (2 * k + 1) size) ≡ take (8 * k + 4) (stored d (2 * k) at) ++ bytes_of (size ∷ []) =
        one (stored d (2 * k) at) (2 * k + 1) size (8 * k + 4) (omega arith) (omega (arith, f.room, f.long, length-stored d (2 * k) at)) in
        let step : 8 * (k + 1) ≡ 8 * k + 4 + 4 = omega arith in
        record {
          within = omega arith;
          room = f.room;
          long = ap length e ∙ length-stored (stored d (2 * k) at) (2 * k + 1) size ∙ length-stored d (2 * k) at ∙ f.long;
          place = rw add-one (omega (arith, f.place, is));
          few = omega (arith, f.few);
          front =
              ap₂ take step e ∙ both ∙ ap (λ (xs : List ℕ). xs ++ bytes_of (size ∷ [])) first
              ∙ append_assoc (take (8 * k) d) (bytes_of (at ∷ [])) (bytes_of (size ∷ []))
              ∙ ap₂ ◌++◌ f.front
              (ap₂ (λ (x y : List ℕ). x ++ y) (append-nil (bytes_from 4 at) ∙ ap (bytes_from 4) f.place) (append-nil (bytes_from 4 size) ∙ ap (bytes_from 4) is))
              ∙ sym (ap (λ (j : ℕ). flat_map (content_of (plan_of bs)) (tab (λ i. i) j)) (add-one k) ∙ ap (flat_map (content_of (plan_of bs))) (tab-snoc (λ i. i) k) ∙ flat-snoc (content_of (plan_of bs)) (tab (λ i. i) k) k);
        }
      where
        one : (s : List ℕ) (i v a : ℕ) → a ≡ width * i → a + 4 ≤ length s → take (a + 4) (stored s i v) ≡ take a s ++ bytes_of (v ∷ [])
        one s i v a ea room =
            let q : a + 4 ≡ width * (i + 1) = omega arith in
            ap (λ (x : ℕ). take x (stored s i v)) q ∙ take-stored s i v (omega arith) ∙ ap (λ (x : ℕ). take x s ++ bytes_of (v ∷ [])) (sym ea)

    pub listed-done : h.n ≤ k → take (8 * h.n) d ≡ contents_of (plan_of bs)
    unfolding contents_of
    listed-done l =
        let q : k ≡ h.n = omega (arith, f.within) in
        ap (λ (x : ℕ). take (8 * x) d) (sym q) ∙ f.front ∙ ap (λ (x : ℕ). flat_map (content_of (plan_of bs)) (tab (λ i. i) x)) (q ∙ sym (plan_n pl))

    pub listed-long : length d ≡ length d₀
    listed-long = f.long

pub put_fits : (k : ℕ) → k ≤ 15 → Fits w64 (2 * k)
put_fits k l = record { fits = omega arith }

pub put_fits_next : (k : ℕ) → k ≤ 15 → Fits w64 (2 * k + 1)
put_fits_next k l = record { fits = omega arith }

pub content_put : (k at size : ℕ) (d e f : List ℕ) → e ≡ stored d (2 * k) at → f ≡ stored e (2 * k + 1) size → f ≡ stored (stored d (2 * k) at) (2 * k + 1) size
content_put k at size d e f a b = b ∙ ap (λ (s : List ℕ). stored s (2 * k + 1) size) a

pub content_long : (k at size : ℕ) (d e f : List ℕ) → e ≡ stored d (2 * k) at → f ≡ stored e (2 * k + 1) size → length f ≡ length d
content_long k at size d e f a b = ap length (content_put k at size d e f a b) ∙ length-stored (stored d (2 * k) at) (2 * k + 1) size ∙ length-stored d (2 * k) at

-- As it is: answers name this set, since the check leaves their goals open by `using` alone.
pub ruleset listing = (rules, few-parties, contents_fit, listed-none, listed-few, listed-fits, listed_next, listed-done, listed-long, put_fits, put_fits_next, content_put, content_long)
