-- Counts by the kinds of gates, for every plan.
--     along                                         what gates bring in sum, when each brings so much by its kind
--     own-inputs-of, inputs-of, own-coins-of, coins-of, steps-of     of a list of gates
-- Assumes nothing.
use mathlib.Core.Path.{◌≡◌, refl, sym, ap, ap₂, ◌∙◌}
use mathlib.Core.Bool.{Bool, true, false, cond}
use mathlib.Core.List.{List, [], ◌∷◌, ◌++◌, flat_map, append-nil}
use Prim.Native.Nat.{ℕ, zero, suc, ◌+◌, ◌*◌, ◌<◌, ◌≤◌}
use native.Mathlib.Decide.{dec_le}
use native.Mathlib.Nat.{mul-zero, mul-suc, mul-one}
use native.Mathlib.Omega.{arith}
use borrow.Author.Tests.{le-leb, lt-leb, eq-eqb, ne_eqb}
use lib.Dec.{eqb}
use lib.ListN.{length, replicate, length-append, length-replicate}
use Rattle.numbers.specs.Tables.{tab, count_where}
use Rattle.numbers.proofs.Tables.{tab-snoc, length-tab}
use Rattle.numbers.proofs.Rows.{flat-snoc}
use Rattle.numbers.proofs.Counts.{count_where-append}
use Rattle.sharing_laws.proofs.Lists.{flat_map-append}
use Rattle.plan.specs.declared.Gate.{Gate}
use Rattle.plan.specs.declared.Gate.TheVariants.{Input, Add, Scale, Offset, Multiply, Random, Spend}
use Rattle.plan.specs.declared.Rule.{Rule}
use Rattle.plan.specs.declared.Rule.TheVariants.{Reduction, Truncation}
use Rattle.plan.specs.declared.Dealing.{Dealing}
use Rattle.plan.specs.Plans.{Plan, party_count, parties, dealer_count, kind_of, is_kind, operands_of, is_input_of, input_owners_at, first_dealings, multiply_dealings, dealings_at, coin_owners_at, multiply_steps, steps_at, steps_from}
use Rattle.plan.specs.File.{between}
use Rattle.plan.specs.Kinds.{multiply_coins, own_multiply_coins, multiply_rounds, own_draws, own_random_coins}
use Rattle.plan.proofs.Counts.{count-replicate}

-- ---- what gates bring in sum
abbrev one : Bool → ℕ
one b = cond b 1 0

once-more : (a : ℕ) (b : Bool) (m : ℕ) → a * one b + a * m ≡ a * cond b (suc m) m
once-more a true m = omega (arith, mul-suc a m, mul-one a)
once-more a false m = omega (arith, mul-zero a)

-- a for those that pass, b for a gate of kind 5, c of kind 6, d of kind 7
module _ (r : Gate → Bool) (a b c d : ℕ) where
  abbrev pub bringing : Gate → ℕ
  bringing x = a * one (r x) + b * one (is_kind 5 x) + c * one (is_kind 6 x) + d * one (is_kind 7 x)

  abbrev pub brought : List Gate → ℕ
  brought gs = a * count_where r gs + b * count_where (is_kind 5) gs + c * count_where (is_kind 6) gs + d * count_where (is_kind 7) gs

  next : (x : Gate) (gs : List Gate) → bringing x + brought gs ≡ brought (x ∷ gs)
  unfolding count_where
  next x gs =
      omega (
        arith,
        once-more a (r x) (count_where r gs),
        once-more b (is_kind 5 x) (count_where (is_kind 5) gs),
        once-more c (is_kind 6 x) (count_where (is_kind 6) gs),
        once-more d (is_kind 7 x) (count_where (is_kind 7) gs),
      )

  none : 0 ≡ brought []
  unfolding count_where
  none = omega (arith, mul-zero a, mul-zero b, mul-zero c, mul-zero d)

  -- F is the sum over gates in a row, the first with the number g
  pub along :
      (F : ℕ → List Gate → ℕ) → ((g : ℕ) → F g [] ≡ 0) → ((g : ℕ) (x : Gate) (gs : List Gate) → F g (x ∷ gs) ≡ bringing x + F (suc g) gs)
      → (g : ℕ) (gs : List Gate) → F g gs ≡ brought gs
  along F empty more g [] = empty g ∙ none
  along F empty more g (x ∷ gs) = more g x gs ∙ ap (λ (n : ℕ). bringing x + n) (along F empty more (suc g) gs) ∙ next x gs

-- ---- the numbers of the parties 1 to k
module _ (i : ℕ) where
  among-next : (k c : ℕ) → cond (between 1 k i) c 0 + cond (eqb i (suc k)) c 0 ≡ cond (between 1 (suc k) i) c 0
  unfolding between
  among-next k c = at (dec_le 1 i) (dec_le i k) (dec_le i (suc k))
    where
      at : Dec (1 ≤ i) → Dec (i ≤ k) → Dec (i ≤ suc k) → cond (between 1 k i) c 0 + cond (eqb i (suc k)) c 0 ≡ cond (between 1 (suc k) i) c 0
      at (no x) y z = let l : i < 1 = omega arith in rw (lt-leb 1 i l, ne_eqb i (suc k) (λ q. omega arith))
      at (yes x) (yes y) z = let m : i ≤ suc k = omega arith in rw (le-leb 1 i x, le-leb i k y, ne_eqb i (suc k) (λ q. omega arith), le-leb i (suc k) m) (omega arith)
      at (yes x) (no y) (yes z) =
          let l : k < i = omega arith in
          let q : i ≡ suc k = omega arith in
          rw (le-leb 1 i x, lt-leb i k l, eq-eqb i (suc k) q, le-leb i (suc k) z) (omega arith)
      at (yes x) (no y) (no z) =
          let l : k < i = omega arith in
          let m : suc k < i = omega arith in
          rw (le-leb 1 i x, lt-leb i k l, ne_eqb i (suc k) (λ q. omega arith), lt-leb i (suc k) m)

  among-none : (c : ℕ) → 0 ≡ cond (between 1 0 i) c 0
  unfolding between
  among-none c = at (dec_le 1 i)
    where
      at : Dec (1 ≤ i) → 0 ≡ cond (between 1 0 i) c 0
      at (no a) = let l : i < 1 = omega arith in rw (lt-leb 1 i l)
      at (yes a) = let l : 0 < i = omega arith in rw (le-leb 1 i a, lt-leb i 0 l)

  -- where party j + 1 has c of row j
  count-among :
      {A : Type 0} (c : ℕ) (row : A → List ℕ) (f : ℕ → A) → ((j : ℕ) → count_where (eqb i) (row (f j)) ≡ cond (eqb i (suc j)) c 0)
      → (k : ℕ) → count_where (eqb i) (flat_map row (tab f k)) ≡ cond (between 1 k i) c 0
  unfolding flat_map tab count_where
  count-among c row f h zero = among-none c
  count-among {A} c row f h (suc k) =
      ap (λ (l : List A). count_where (eqb i) (flat_map row l)) (tab-snoc f k) ∙ ap (count_where (eqb i)) (flat-snoc row (tab f k) (f k))
      ∙ count_where-append (eqb i) (flat_map row (tab f k)) (row (f k)) ∙ ap₂ (λ (x y : ℕ). x + y) (count-among c row f h k) (h k) ∙ among-next k c

length-among : {A : Type 0} (c : ℕ) (row : A → List ℕ) (f : ℕ → A) → ((j : ℕ) → length (row (f j)) ≡ c) → (k : ℕ) → length (flat_map row (tab f k)) ≡ c * k
unfolding flat_map tab
length-among c row f h zero = sym (mul-zero c)
length-among c row f h (suc k) =
    length-append (row (f 0)) (flat_map row (tab (λ j. f (suc j)) k)) ∙ ap₂ (λ (x y : ℕ). x + y) (h 0) (length-among c row (λ j. f (suc j)) (λ j. h (suc j)) k) ∙ omega (arith, mul-suc c k)

-- ---- what each gate brings
abbrev coins_of : Dealing → List ℕ
coins_of d = replicate d.coins d.dealer

module _ (plan : Plan) where
  -- the coins of a row of dealings by the parties 1 to k, t each
  first-own : (i k : ℕ) → count_where (eqb i) (flat_map coins_of (first_dealings plan k)) ≡ cond (between 1 k i) plan.t 0
  unfolding first_dealings
  first-own i k = count-among i plan.t coins_of (λ j. record { dealer = suc j; coins = plan.t }) (λ j. count-replicate i (suc j) plan.t) k

  first-all : (k : ℕ) → length (flat_map coins_of (first_dealings plan k)) ≡ plan.t * k
  unfolding first_dealings
  first-all k = length-among plan.t coins_of (λ j. record { dealer = suc j; coins = plan.t }) (λ j. length-replicate {A = ℕ} plan.t (suc j)) k

  -- of the dealings of zeros and masked shares
  abbrev pair_of : ℕ → List Dealing
  pair_of i = record { dealer = i; coins = plan.t + plan.t } ∷ record { dealer = i; coins = plan.t } ∷ []

  pair-flat : (l : List ℕ) → flat_map coins_of (flat_map pair_of l) ≡ flat_map (λ i. flat_map coins_of (pair_of i)) l
  unfolding flat_map
  pair-flat [] = refl
  pair-flat (i ∷ l) = flat_map-append coins_of (pair_of i) (flat_map pair_of l) ∙ ap (λ (m : List ℕ). flat_map coins_of (pair_of i) ++ m) (pair-flat l)

  pair-coins : (i : ℕ) → flat_map coins_of (pair_of i) ≡ replicate (plan.t + plan.t) i ++ replicate plan.t i
  unfolding flat_map
  pair-coins i = ap (λ (m : List ℕ). replicate (plan.t + plan.t) i ++ m) (append-nil (replicate plan.t i))

  pair-own : (i j : ℕ) → count_where (eqb i) (flat_map coins_of (pair_of (suc j))) ≡ cond (eqb i (suc j)) (3 * plan.t) 0
  pair-own i j =
      ap (count_where (eqb i)) (pair-coins (suc j)) ∙ count_where-append (eqb i) (replicate (plan.t + plan.t) (suc j)) (replicate plan.t (suc j))
      ∙ ap₂ (λ (x y : ℕ). x + y) (count-replicate i (suc j) (plan.t + plan.t)) (count-replicate i (suc j) plan.t) ∙ sum (eqb i (suc j))
    where
      sum : (b : Bool) → cond b (plan.t + plan.t) 0 + cond b plan.t 0 ≡ cond b (3 * plan.t) 0
      sum true = omega arith
      sum false = omega arith

  pair-all : (j : ℕ) → length (flat_map coins_of (pair_of (suc j))) ≡ 3 * plan.t
  pair-all j =
      ap length (pair-coins (suc j)) ∙ length-append (replicate (plan.t + plan.t) (suc j)) (replicate plan.t (suc j))
      ∙ ap₂ (λ (x y : ℕ). x + y) (length-replicate {A = ℕ} (plan.t + plan.t) (suc j)) (length-replicate {A = ℕ} plan.t (suc j)) ∙ omega arith

  multiply-own : (i : ℕ) (rule : Rule) → count_where (eqb i) (flat_map coins_of (multiply_dealings plan rule)) ≡ own_multiply_coins plan rule i
  unfolding multiply_dealings own_multiply_coins parties
  multiply-own i Reduction = first-own i (dealer_count plan)
  multiply-own i Truncation =
      ap (count_where (eqb i)) (pair-flat (tab suc (party_count plan))) ∙ count-among i (3 * plan.t) (λ j. flat_map coins_of (pair_of j)) suc (pair-own i) (party_count plan)

  multiply-all : (rule : Rule) → length (flat_map coins_of (multiply_dealings plan rule)) ≡ multiply_coins plan rule
  unfolding multiply_dealings multiply_coins parties
  multiply-all Reduction = first-all (dealer_count plan)
  multiply-all Truncation =
      ap length (pair-flat (tab suc (party_count plan))) ∙ length-among (3 * plan.t) (λ j. flat_map coins_of (pair_of j)) suc pair-all (party_count plan)

  pub parties-own : (i : ℕ) → count_where (eqb i) (parties plan) ≡ own_draws plan i
  unfolding parties own_draws flat_map tab count_where
  parties-own i = ap (count_where (eqb i)) (sym (singles suc (party_count plan))) ∙ count-among i 1 (λ j. j ∷ []) suc (alone i) (party_count plan)
    where
      singles : (f : ℕ → ℕ) (k : ℕ) → flat_map (λ j. j ∷ []) (tab f k) ≡ tab f k
      singles f zero = refl
      singles f (suc k) = ap (λ (l : List ℕ). f 0 ∷ l) (singles (λ j. f (suc j)) k)

      alone : (i j : ℕ) → count_where (eqb i) (suc j ∷ []) ≡ cond (eqb i (suc j)) 1 0
      alone i j = refl

  -- ---- a gate's coins
  pub coins-input : (i s : ℕ) → count_where (eqb i) (coin_owners_at plan (Input s)) ≡ cond (eqb i s) plan.t 0
  unfolding coin_owners_at dealings_at flat_map
  coins-input i s = ap (count_where (eqb i)) (append-nil (replicate plan.t s)) ∙ count-replicate i s plan.t

  pub coins-multiply : (i a b : ℕ) → count_where (eqb i) (coin_owners_at plan (Multiply a b)) ≡ own_multiply_coins plan plan.rule i
  unfolding coin_owners_at dealings_at
  coins-multiply i a b = multiply-own i plan.rule

  pub coins-random : (i : ℕ) → count_where (eqb i) (coin_owners_at plan Random) ≡ own_random_coins plan i
  unfolding coin_owners_at dealings_at own_random_coins
  coins-random i = first-own i (party_count plan)

  -- ---- a gate's numbers, by its kind
  own-inputs-at : (i : ℕ) (x : Gate) → count_where (eqb i) (input_owners_at plan x) ≡ bringing (is_input_of i) 1 0 (own_draws plan i) 0 x
  unfolding input_owners_at is_input_of operands_of is_kind kind_of count_where
  own-inputs-at i (Input s) = by (eqb i s)
    where
      by : (b : Bool) → cond b 1 0 ≡ 1 * cond b 1 0 + 0 * 0 + own_draws plan i * 0 + 0 * 0
      by b = omega (arith, mul-zero (own_draws plan i))
  own-inputs-at i (Add a b) = omega (arith, mul-zero (own_draws plan i))
  own-inputs-at i (Scale a c) = omega (arith, mul-zero (own_draws plan i))
  own-inputs-at i (Offset a c) = omega (arith, mul-zero (own_draws plan i))
  own-inputs-at i (Multiply a b) = omega (arith, mul-zero (own_draws plan i))
  own-inputs-at i Random = parties-own i ∙ omega (arith, mul-one (own_draws plan i))
  own-inputs-at i (Spend a b) = omega (arith, mul-zero (own_draws plan i))

  inputs-at : (x : Gate) → length (input_owners_at plan x) ≡ bringing (is_kind 1) 1 0 (party_count plan) 0 x
  unfolding input_owners_at parties is_kind kind_of
  inputs-at (Input s) = omega (arith, mul-zero (party_count plan))
  inputs-at (Add a b) = omega (arith, mul-zero (party_count plan))
  inputs-at (Scale a c) = omega (arith, mul-zero (party_count plan))
  inputs-at (Offset a c) = omega (arith, mul-zero (party_count plan))
  inputs-at (Multiply a b) = omega (arith, mul-zero (party_count plan))
  inputs-at Random = length-tab suc (party_count plan) ∙ omega (arith, mul-one (party_count plan))
  inputs-at (Spend a b) = omega (arith, mul-zero (party_count plan))

  idle : (i : ℕ) → 0 ≡ plan.t * 0 + own_multiply_coins plan plan.rule i * 0 + own_random_coins plan i * 0 + 0 * 0
  idle i = omega (arith, mul-zero plan.t, mul-zero (own_multiply_coins plan plan.rule i), mul-zero (own_random_coins plan i))

  idle-all : 0 ≡ plan.t * 0 + multiply_coins plan plan.rule * 0 + plan.t * party_count plan * 0 + 0 * 0
  idle-all = omega (arith, mul-zero plan.t, mul-zero (multiply_coins plan plan.rule), mul-zero (plan.t * party_count plan))

  own-coins-by : (i : ℕ) (x : Gate) → count_where (eqb i) (coin_owners_at plan x) ≡ bringing (is_input_of i) plan.t (own_multiply_coins plan plan.rule i) (own_random_coins plan i) 0 x
  unfolding coin_owners_at dealings_at is_input_of operands_of is_kind kind_of flat_map count_where
  own-coins-by i (Input s) = coins-input i s ∙ by (own_multiply_coins plan plan.rule i) (own_random_coins plan i) (eqb i s)
    where
      by : (m r : ℕ) (b : Bool) → cond b plan.t 0 ≡ plan.t * cond b 1 0 + m * 0 + r * 0 + 0 * 0
      by m r true = omega (arith, mul-one plan.t, mul-zero m, mul-zero r)
      by m r false = omega (arith, mul-zero plan.t, mul-zero m, mul-zero r)
  own-coins-by i (Add a b) = idle i
  own-coins-by i (Scale a c) = idle i
  own-coins-by i (Offset a c) = idle i
  own-coins-by i (Multiply a b) =
      let m : ℕ = own_multiply_coins plan plan.rule i in
      coins-multiply i a b ∙ omega (arith, mul-zero plan.t, mul-one m, mul-zero (own_random_coins plan i))
  own-coins-by i Random =
      let r : ℕ = own_random_coins plan i in
      coins-random i ∙ omega (arith, mul-zero plan.t, mul-zero (own_multiply_coins plan plan.rule i), mul-one r)
  own-coins-by i (Spend a b) = idle i

  coins-by : (x : Gate) → length (coin_owners_at plan x) ≡ bringing (is_kind 1) plan.t (multiply_coins plan plan.rule) (plan.t * party_count plan) 0 x
  unfolding coin_owners_at dealings_at is_kind kind_of flat_map
  coins-by (Input s) =
      ap length (append-nil (replicate plan.t s)) ∙ length-replicate {A = ℕ} plan.t s
      ∙ omega (arith, mul-one plan.t, mul-zero (multiply_coins plan plan.rule), mul-zero (plan.t * party_count plan))
  coins-by (Add a b) = idle-all
  coins-by (Scale a c) = idle-all
  coins-by (Offset a c) = idle-all
  coins-by (Multiply a b) =
      multiply-all plan.rule
      ∙ omega (arith, mul-zero plan.t, mul-one (multiply_coins plan plan.rule), mul-zero (plan.t * party_count plan))
  coins-by Random =
      first-all (party_count plan) ∙ omega (arith, mul-zero plan.t, mul-zero (multiply_coins plan plan.rule), mul-one (plan.t * party_count plan))
  coins-by (Spend a b) = idle-all

  steps-by : (g : ℕ) (x : Gate) → length (steps_at plan.rule g x) ≡ bringing (λ y. false) 0 (multiply_rounds plan.rule) 1 1 x
  unfolding steps_at is_kind kind_of
  steps-by g (Input s) = omega (arith, mul-zero (multiply_rounds plan.rule))
  steps-by g (Add a b) = omega (arith, mul-zero (multiply_rounds plan.rule))
  steps-by g (Scale a c) = omega (arith, mul-zero (multiply_rounds plan.rule))
  steps-by g (Offset a c) = omega (arith, mul-zero (multiply_rounds plan.rule))
  steps-by g (Multiply a b) = rounds plan.rule ∙ omega (arith, mul-one (multiply_rounds plan.rule))
    where
      rounds : (rule : Rule) → length (multiply_steps rule g a b) ≡ multiply_rounds rule
      rounds Reduction = unfold multiply_steps in unfold multiply_rounds in refl
      rounds Truncation = unfold multiply_steps in unfold multiply_rounds in refl
  steps-by g Random = omega (arith, mul-zero (multiply_rounds plan.rule))
  steps-by g (Spend a b) = omega (arith, mul-zero (multiply_rounds plan.rule))

  -- ---- of a list of gates
  pub own-inputs-of : (i : ℕ) (gs : List Gate) → count_where (eqb i) (flat_map (input_owners_at plan) gs) ≡ brought (is_input_of i) 1 0 (own_draws plan i) 0 gs
  unfolding flat_map
  own-inputs-of i gs =
      along (is_input_of i) 1 0 (own_draws plan i) 0 (λ g l. count_where (eqb i) (flat_map (input_owners_at plan) l)) (λ g. unfold count_where in refl)
      (λ g x l. count_where-append (eqb i) (input_owners_at plan x) (flat_map (input_owners_at plan) l) ∙ ap (λ (n : ℕ). n + count_where (eqb i) (flat_map (input_owners_at plan) l)) (own-inputs-at i x)) 0 gs

  pub inputs-of : (gs : List Gate) → length (flat_map (input_owners_at plan) gs) ≡ brought (is_kind 1) 1 0 (party_count plan) 0 gs
  unfolding flat_map
  inputs-of gs =
      along (is_kind 1) 1 0 (party_count plan) 0 (λ g l. length (flat_map (input_owners_at plan) l)) (λ g. refl)
      (λ g x l. length-append (input_owners_at plan x) (flat_map (input_owners_at plan) l) ∙ ap (λ (n : ℕ). n + length (flat_map (input_owners_at plan) l)) (inputs-at x)) 0 gs

  pub own-coins-of : (i : ℕ) (gs : List Gate) → count_where (eqb i) (flat_map (coin_owners_at plan) gs) ≡ brought (is_input_of i) plan.t (own_multiply_coins plan plan.rule i) (own_random_coins plan i) 0 gs
  unfolding flat_map
  own-coins-of i gs =
      along (is_input_of i) plan.t (own_multiply_coins plan plan.rule i) (own_random_coins plan i) 0 (λ g l. count_where (eqb i) (flat_map (coin_owners_at plan) l)) (λ g. unfold count_where in refl)
      (λ g x l. count_where-append (eqb i) (coin_owners_at plan x) (flat_map (coin_owners_at plan) l) ∙ ap (λ (n : ℕ). n + count_where (eqb i) (flat_map (coin_owners_at plan) l)) (own-coins-by i x)) 0 gs

  pub coins-of : (gs : List Gate) → length (flat_map (coin_owners_at plan) gs) ≡ brought (is_kind 1) plan.t (multiply_coins plan plan.rule) (plan.t * party_count plan) 0 gs
  unfolding flat_map
  coins-of gs =
      along (is_kind 1) plan.t (multiply_coins plan plan.rule) (plan.t * party_count plan) 0 (λ g l. length (flat_map (coin_owners_at plan) l)) (λ g. refl)
      (λ g x l. length-append (coin_owners_at plan x) (flat_map (coin_owners_at plan) l) ∙ ap (λ (n : ℕ). n + length (flat_map (coin_owners_at plan) l)) (coins-by x)) 0 gs

  pub steps-of : (g : ℕ) (gs : List Gate) → length (steps_from plan.rule g gs) ≡ brought (λ y. false) 0 (multiply_rounds plan.rule) 1 1 gs
  unfolding steps_from
  steps-of g gs =
      along (λ y. false) 0 (multiply_rounds plan.rule) 1 1 (λ k l. length (steps_from plan.rule k l)) (λ k. refl)
      (λ k x l. length-append (steps_at plan.rule k x) (steps_from plan.rule (suc k) l) ∙ ap (λ (n : ℕ). n + length (steps_from plan.rule (suc k) l)) (steps-by k x)) g gs
