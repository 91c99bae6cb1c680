-- Laws of a dealing's polynomial, its coins and its shares.
--     Begun, beginning         the loop that writes the coefficients
--     dealing                  what a share takes
--     Handed, valuing          the loop that writes a polynomial's values
--     dealing_out              what the shares at the points take
-- Assumes nothing.
use mathlib.Core.Path.{◌≡◌, refl, sym, ap, ap₂, ◌∙◌}
use mathlib.Core.Bool.{true}
use mathlib.Core.List.{List, [], ◌∷◌, map}
use Prim.Native.Nat.{ℕ, zero, suc, ◌+◌, ◌*◌, ◌<◌, ◌≤◌}
use native.Mathlib.Numerals.{add-one}
use native.Mathlib.Omega.{arith}
use borrow.Author.Rules.{rules}
use borrow.Author.Tests.{lt-ltb}
use lib.ListN.{length, get_or, take, drop, set, length-set}
use lib.Seq.{take-suc-set, get_or-drop}
use Rattle.numbers.specs.Tables.{tab}
use Rattle.numbers.specs.Bytes.{width, numbers, all_below, stored}
use Rattle.numbers.proofs.Tables.{tab-next, length-tab, get_or-tab, tab-ext, tab-map, list-tab}
use Rattle.numbers.proofs.Below.{at-all_below, all_below_at}
use Rattle.numbers.proofs.Fills.{Numbered, number-none, number-next, numbered-all}
use Rattle.field.specs.Mod.{add, mul}
use Rattle.field.specs.Field.{Is, Ready}
use Rattle.field.proofs.Solve.{#, quote, solve}
use Rattle.sharing_laws.specs.Poly.{eval}
use Rattle.sharing_laws.specs.Sharing.{deal}
use Rattle.sharing.proofs.Coding.{entry_below}
use Rattle.seat_sending.specs.Sending.{Dealing, coins_from}

-- ---- the coefficients
-- the invariant: the dealt value and j coins stand
pub record Begun (s : ℕ) (cs : List ℕ) (at k : ℕ) (d : List ℕ) (j : ℕ) : Type 0 where
  pub within : j ≤ k
  pub long : length d ≡ 16
  pub front : take (j + 1) d ≡ s ∷ coins_from j at cs

pub begin_secret : (s : ℕ) (cs : List ℕ) (at k : ℕ) (d : List ℕ) → length d ≡ 16 → Begun s cs at k (set d 0 s) 0
unfolding coins_from tab
begin_secret s cs at k d e = record { within = omega arith; long = length-set d 0 s ∙ e; front = take-suc-set d 0 s (omega arith) }

module _ (s : ℕ) (cs : List ℕ) (at k : ℕ) (d : List ℕ) (j : ℕ) (h : Begun s cs at k d j) where
  pub begin_coin : (v : ℕ) → k ≤ 14 → j < k → v ≡ get_or cs (at + j) 0 → Begun s cs at k (set d (j + 1) v) (j + 1)
  unfolding coins_from
  begin_coin v few l e = record {
    within = omega arith;
    long = length-set d (j + 1) v ∙ h.long;
    front = rw (add-one (j + 1), take-suc-set d (j + 1) v (omega (arith, h.long)), h.front, tab-next, e);
  }

  pub begun : k ≤ j → take (k + 1) d ≡ s ∷ coins_from k at cs
  begun l = let e : j ≡ k = omega (arith, h.within) in ap (λ (n : ℕ). take (n + 1) d) (sym e) ∙ h.front ∙ ap (λ (n : ℕ). s ∷ coins_from n at cs) e

-- As it is: answers name this set, since the check leaves their goals open by `using` alone.
pub ruleset beginning = (rules, begin_secret, begin_coin, begun)

-- ---- a share
length-coins_from : (k at : ℕ) (cs : List ℕ) → length (coins_from k at cs) ≡ k
unfolding coins_from
length-coins_from k at cs = length-tab (λ j. get_or cs (at + j) 0) k

coins_from_below : (p k at : ℕ) (cs : List ℕ) → Ready p → all_below p cs ≡ true → all_below p (coins_from k at cs) ≡ true
unfolding coins_from
coins_from_below p k at cs r h =
    at-all_below p (coins_from k at cs) (λ i l.
    let m : i < k = omega (arith, length-coins_from k at cs) in
    rw (get_or-tab (λ j. get_or cs (at + j) 0) k i 0 m) (entry_below p cs (at + i) r h))

pub dealing_below : (p k s : ℕ) (cs : List ℕ) (at : ℕ) → Ready p → Dealing p k s cs at → (f : List ℕ) → f ≡ s ∷ coins_from k at cs → all_below p f ≡ true
unfolding all_below
dealing_below p k s cs at r d f e = rw (e, lt-ltb s p d.secret) (coins_from_below p k at cs r d.coins)

-- coins that are missing are 0 and change no share
eval_missing : (p k x : ℕ) → eval p (tab (λ j. 0) k) x ≡ 0
unfolding eval tab
eval_missing p zero x = refl
eval_missing p (suc k) x = rw (eval_missing p k x) (solve p (search (quote, # x)) (omega arith))

eval_part : (p k x : ℕ) (cs : List ℕ) → eval p (tab (λ j. get_or cs j 0) k) x ≡ eval p (take k cs) x
unfolding eval tab
eval_part p zero x cs = refl
eval_part p (suc k) x [] = eval_missing p (suc k) x
eval_part p (suc k) x (c ∷ cs) = ap (λ (v : ℕ). add p c (mul p x v)) (eval_part p k x cs)

eval_coins : (p s k at x : ℕ) (cs : List ℕ) → eval p (s ∷ coins_from k at cs) x ≡ eval p (s ∷ take k (drop at cs)) x
unfolding eval coins_from
eval_coins p s k at x cs =
    ap (λ (v : ℕ). add p s (mul p x v))
    (ap (λ (l : List ℕ). eval p l x) (tab-ext (λ j. get_or cs (at + j) 0) (λ j. get_or (drop at cs) j 0) k (λ j l. sym (get_or-drop at cs j 0)))
    ∙ eval_part p k x (drop at cs))

-- the coefficients as the code has them
module _ (k s : ℕ) (cs : List ℕ) (at : ℕ) (d : List ℕ) (e : take (k + 1) d ≡ s ∷ coins_from k at cs) where
  pub coefficients_long : length (take (k + 1) d) ≡ k + 1
  coefficients_long = ap length e ∙ omega (arith, length-coins_from k at cs)

  eval-dealt : (p x : ℕ) → eval p (take (k + 1) d) x ≡ eval p (s ∷ take k (drop at cs)) x
  eval-dealt p x = ap (λ (f : List ℕ). eval p f x) e ∙ eval_coins p s k at x cs

  pub share-is : (p x r : ℕ) → Is p (eval p (take (k + 1) d) x) r → Is p (eval p (s ∷ take k (drop at cs)) x) r
  share-is p x r h = record { eq = h.eq ∙ eval-dealt p x; lt = h.lt }

pub ruleset dealing = (rules, dealing_below, coefficients_long, share-is)

pub map-ext : {A B : Type 0} (f g : A → B) → ((x : A) → f x ≡ g x) → (xs : List A) → map f xs ≡ map g xs
map-ext f g h [] = refl
map-ext f g h (x ∷ xs) = ap₂ (λ y ys. y ∷ ys) (h x) (map-ext f g h xs)

-- ---- a value for each point
-- what is sent to each point
pub by_points : {B : Type 0} (row : ℕ → B) (xs : List ℕ) → map row xs ≡ tab (λ j. row (get_or xs j 0)) (length xs)
by_points row xs = ap (map row) (list-tab xs 0) ∙ tab-map row (λ j. get_or xs j 0) (length xs)

-- the invariant: the values at the first j points stand
pub record Handed (p : ℕ) (f pts d₀ d : List ℕ) (j : ℕ) : Type 0 where
  pub within : j ≤ length pts
  pub long : length d ≡ length d₀
  pub is : Numbered (λ i. eval p f (get_or pts i 0)) (length pts) d₀ d j

module _ (p : ℕ) (f pts : List ℕ) where
  pub value-none : (d : List ℕ) → length d ≡ width * length pts → Handed p f pts d d 0
  value-none d e = record { within = omega arith; long = refl; is = number-none (λ i. eval p f (get_or pts i 0)) (length pts) d (omega arith) }

  -- the value at the next point is written
  pub value_next : (d₀ d d' : List ℕ) (j x v : ℕ) → Ready p → Handed p f pts d₀ d j → j < length pts → x ≡ get_or pts j 0
      → Is p (eval p f x) v → d' ≡ stored d j v → Handed p f pts d₀ d' (j + 1)
  value_next d₀ d d' j x v r h l ex is st =
      let next : Numbered (λ i. eval p f (get_or pts i 0)) (length pts) d₀ d' (j + 1) =
      number-next (λ i. eval p f (get_or pts i 0)) (length pts) d₀ d j h.is v d' l (is.eq ∙ ap (eval p f) ex) (omega (arith, is.lt, r.small)) st in
      record { within = next.within; long = next.long; is = next }

  pub value_done : (d₀ d : List ℕ) (j : ℕ) → Handed p f pts d₀ d j → length pts ≤ j → length d₀ ≡ width * length pts → numbers d ≡ map (eval p f) pts
  value_done d₀ d j v l q = numbered-all (λ i. eval p f (get_or pts i 0)) (length pts) d₀ d j v.is l (omega arith) ∙ sym (by_points (eval p f) pts)

-- As it is: answers name this set, since the check leaves their goals open by `using` alone.
pub ruleset valuing = (rules, all_below_at, value-none, value_next, value_done)

-- ---- a dealing's shares
pub deal_done : (p k s at : ℕ) (cs c pts d : List ℕ) → take (k + 1) c ≡ s ∷ coins_from k at cs → numbers d ≡ map (eval p (take (k + 1) c)) pts → numbers d ≡ deal p s (take k (drop at cs)) pts
unfolding deal
deal_done p k s at cs c pts d e q = q ∙ map-ext (eval p (take (k + 1) c)) (eval p (s ∷ take k (drop at cs))) (λ x. eval-dealt k s cs at c e p x) pts

pub ruleset dealing_out = (rules, deal_done, coefficients_long, dealing_below)
