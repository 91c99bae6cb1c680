-- Loops that fill a list by a rule: after i turns the first i entries stand.
--     Filled, filling        a slice of entries: entry i is set
--     Stored, storing        a list of numbers that is lent as bytes: number i is stored by `write`
--     Numbered, numbering    the same of the numbers
-- Assumes nothing.
use mathlib.Core.Path.{◌≡◌, refl, sym, ap, ◌∙◌}
use mathlib.Core.List.{List, ◌++◌}
use Prim.Native.Nat.{ℕ, ◌+◌, ◌*◌, ◌/◌, ◌<◌, ◌≤◌}
use native.Mathlib.Numerals.{add-one}
use native.Mathlib.Omega.{arith}
use borrow.Author.Rules.{rules}
use lib.ListN.{length, take, drop, set, take-append-drop}
use lib.Seq.{take-suc-set, take_all, drop-set-lt, drop-drop}
use Rattle.numbers.specs.Tables.{tab}
use Rattle.numbers.specs.Bytes.{width, limit, numbers, bytes_of, stored}
use Rattle.numbers.proofs.Tables.{tab-next}
use Rattle.numbers.proofs.Bytes.{numbers-length, length-stored, numbers-stored, take-stored, drop-stored, bytes_of-append}

-- the invariant of a loop over d, which was d₀
pub record Filled {A : Type 0} (f : ℕ → A) (d₀ d : List A) (i : ℕ) : Type 0 where
  pub within : i ≤ length d₀
  pub long : length d ≡ length d₀
  pub front : take i d ≡ tab f i

module _ {A : Type 0} (f : ℕ → A) where
  pub fill_none : (d : List A) → take 0 d ≡ tab f 0
  unfolding tab
  fill_none d = refl

  pub fill_next : (i : ℕ) (d : List A) (v : A) → i < length d → v ≡ f i → take i d ≡ tab f i → take (i + 1) (set d i v) ≡ tab f (i + 1)
  fill_next i d v l e h = rw (tab-next, add-one, take-suc-set d i v l, h, e)

  pub filled : (d₀ d : List A) (i : ℕ) → length d ≤ i → Filled f d₀ d i → d ≡ tab f (length d₀)
  filled d₀ d i l h =
      let q : i ≡ length d₀ = omega (arith, h.within, h.long) in
      sym (take_all i d l) ∙ h.front ∙ ap (tab f) q

-- what closes each need of such a loop
pub ruleset filling = (rules, fill_none, fill_next, filled)

-- ---- lists that are lent as bytes
later : (k : ℕ) (d d₀ : List ℕ) (i : ℕ) → drop (k * i) d ≡ drop (k * i) d₀ → drop (k * (i + 1)) d ≡ drop (k * (i + 1)) d₀
later k d d₀ i h =
    let e : k * (i + 1) ≡ k * i + k = omega arith in
    rw (e, ← drop-drop k (k * i) d, ← drop-drop k (k * i) d₀, h)

-- the invariant of a loop that stores n numbers, f 0, f 1, .., in d, which was d₀
pub record Stored (f : ℕ → ℕ) (n : ℕ) (d₀ d : List ℕ) (i : ℕ) : Type 0 where
  pub within : i ≤ n
  pub room : width * n ≤ length d₀
  pub long : length d ≡ length d₀
  pub front : take (width * i) d ≡ bytes_of (tab f i)
  pub rest : drop (width * i) d ≡ drop (width * i) d₀

module _ (f : ℕ → ℕ) where
  pub store-none : (n : ℕ) (d : List ℕ) → width * n ≤ length d → Stored f n d d 0
  unfolding tab bytes_of
  store-none n d l = record { within = omega arith; room = l; long = refl; front = refl; rest = refl }

  pub store-none-whole : (n : ℕ) (d : List ℕ) → length d ≡ width * n → Stored f n d d 0
  store-none-whole n d e = store-none n d (omega arith)

  module _ (n : ℕ) (d₀ d : List ℕ) (i : ℕ) (h : Stored f n d₀ d i) where
    pub store-next : (v : ℕ) (e : List ℕ) → i < n → v ≡ f i → e ≡ stored d i v → Stored f n d₀ e (i + 1)
    store-next v e l is to = record {
      within = omega arith;
      room = h.room;
      long = ap length to ∙ length-stored d i v ∙ h.long;
      front = rw (to, take-stored d i v (omega (arith, h.room, h.long)), h.front, is, tab-next, bytes_of-append);
      rest = rw (to, drop-stored) (later width d d₀ i h.rest);
    }

    stood : n ≤ i → i ≡ n
    stood l = omega (arith, h.within)

    -- the whole list, and a list of which a part is left as it was
    pub stored-all : n ≤ i → length d₀ ≡ width * n → d ≡ bytes_of (tab f n)
    stored-all l e = sym (take_all (width * i) d (omega (arith, h.long))) ∙ h.front ∙ ap (λ (k : ℕ). bytes_of (tab f k)) (stood l)

    pub stored-part : n ≤ i → d ≡ bytes_of (tab f n) ++ drop (width * n) d₀
    stored-part l = sym (take-append-drop (width * i) d) ∙ rw (h.front, h.rest, stood l)

-- what closes each need of such a loop
pub ruleset storing = (rules, store-none, store-none-whole, store-next, stored-all, stored-part)

-- the same of the numbers, where each is below limit
pub record Numbered (f : ℕ → ℕ) (n : ℕ) (d₀ d : List ℕ) (i : ℕ) : Type 0 where
  pub within : i ≤ n
  pub room : n ≤ length d₀ / width
  pub long : length d ≡ length d₀
  pub front : take i (numbers d) ≡ tab f i
  pub rest : drop i (numbers d) ≡ drop i (numbers d₀)

module _ (f : ℕ → ℕ) where
  pub number-none : (n : ℕ) (d : List ℕ) → n ≤ length d / width → Numbered f n d d 0
  unfolding tab
  number-none n d l = record { within = omega arith; room = l; long = refl; front = refl; rest = refl }

  pub number-none-whole : (n : ℕ) (d : List ℕ) → length d ≡ width * n → Numbered f n d d 0
  number-none-whole n d e = number-none n d (omega arith)

  module _ (n : ℕ) (d₀ d : List ℕ) (i : ℕ) (h : Numbered f n d₀ d i) where
    behind : drop (i + 1) (numbers d) ≡ drop (i + 1) (numbers d₀)
    behind = rw (← drop-drop 1 i (numbers d), ← drop-drop 1 i (numbers d₀), h.rest)

    pub number-next : (v : ℕ) (e : List ℕ) → i < n → v ≡ f i → v < limit → e ≡ stored d i v → Numbered f n d₀ e (i + 1)
    number-next v e l is m to =
        let w : i < length (numbers d) = omega (arith, h.room, h.long, numbers-length d) in
        record {
          within = omega arith;
          room = h.room;
          long = ap length to ∙ length-stored d i v ∙ h.long;
          front = rw (to, numbers-stored d i v m) (fill_next f i (numbers d) v w is h.front);
          rest = rw (to, numbers-stored d i v m, drop-set-lt (i + 1) (numbers d) i v (omega arith)) behind;
        }

    reached : n ≤ i → i ≡ n
    reached l = omega (arith, h.within)

    pub numbered-all : n ≤ i → length d₀ / width ≡ n → numbers d ≡ tab f n
    numbered-all l e = sym (take_all i (numbers d) (omega (arith, h.long, numbers-length d))) ∙ h.front ∙ ap (tab f) (reached l)

    pub numbered-whole : n ≤ i → length d₀ ≡ width * n → numbers d ≡ tab f n
    numbered-whole l e = numbered-all l (omega arith)

    -- the numbers in front of those that stand as they were
    pub numbered-part : n ≤ i → numbers d ≡ tab f n ++ drop n (numbers d₀)
    numbered-part l = sym (take-append-drop i (numbers d)) ∙ rw (h.front, h.rest, reached l)

-- what closes each need of such a loop
pub ruleset numbering = (rules, number-none, number-none-whole, number-next, numbered-all, numbered-whole, numbered-part)
