-- What each way through the code that moves a gate's coins says of its definition.
--     moving_products      a multiply gate's
--     moving_draws         a random wire's
--     moving_gate          a gate's, by its kind
-- Assumes nothing.
use mathlib.Core.Path.{◌≡◌, refl, sym, ap, ap₂, ◌∙◌}
use mathlib.Core.Bool.{true, false}
use mathlib.Core.List.{List, [], ◌∷◌, ◌++◌, append-nil}
use Prim.Native.Nat.{ℕ, suc, ◌+◌, ◌*◌, ◌<◌}
use native.Mathlib.Nat.{add-zero, mul-zero, mul-one}
use native.Mathlib.Omega.{arith}
use borrow.Author.Rules.{rules}
use borrow.Author.Tests.{ltb-true}
use lib.Dec.{ltb}
use lib.ListN.{length, get_or, take, drop}
use lib.Seq.{get_or-take, get_or-drop}
use Rattle.numbers.specs.Tables.{tab}
use Rattle.numbers.specs.Bytes.{all_below}
use Rattle.numbers.proofs.Tables.{length-tab, get_or-tab}
use Rattle.numbers.proofs.Below.{all_below-tab}
use Rattle.numbers.proofs.Truth.{both_true}
use Rattle.field.specs.Mod.{mul}
use Rattle.field.proofs.Solve.{canon-lt, mul_canon}
use Rattle.field.proofs.Inverse.{pos}
use Rattle.field.specs.Field.{Ready}
use Rattle.plan.specs.declared.Gate.{Gate}
use Rattle.plan.specs.declared.Gate.TheVariants.{Input, Add, Scale, Offset, Multiply, Random, Spend}
use Rattle.plan.specs.declared.Header.{Header}
use Rattle.plan.specs.declared.Rule.{Rule}
use Rattle.plan.specs.declared.Rule.TheVariants.{Reduction, Truncation}
use Rattle.plan.specs.Plans.{kind_of, is_kind, operands_of, multiplying}
use Rattle.plan.specs.File.{gate_ok, majority_ok}
use Rattle.plan_coalition.specs.Coalitions.{in_set}
use Rattle.run_dealings.specs.Rows.{products_of, draws_of, Rowed, Standing}
use Rattle.sharing.proofs.Coding.{entry_below}
use Rattle.run_dealings.proofs.RowLaws.{standing-row}
use Rattle.match_moves.specs.Moves.{moved, change_of, moved_blocks, dealers_in, dealt_in, Lent, Written, Advanced}
use Rattle.match_moves.specs.Truncations.{changes_of, change_by, truncated_coins, truncates, coins_in, gate_block}

-- ---- a multiply gate
pub products_below : (p n m a b : ℕ) (table row : List ℕ) → Ready p → take m row ≡ products_of p n m a b table → all_below p (take m row) ≡ true
unfolding products_of
products_below p n m a b table row r e =
    rw e (all_below-tab p (λ j. mul p (get_or table (n * a + j) 0) (get_or table (n * b + j) 0)) m (λ j l. canon-lt (pos r.prime) (mul_canon _ _)))

pub products-moved :
    (p n t m coalition a b at : ℕ) (es before after first second cs old new : List ℕ) (r : ℕ)
    → take m first ≡ products_of p n m a b before → take m second ≡ products_of p n m a b after
    → Advanced at (t * m) (moved_blocks p t coalition es (tab suc m) (take m first) (take m second) cs) old new r
    → Advanced at (t * m) (moved_blocks p t coalition es (tab suc m) (products_of p n m a b before) (products_of p n m a b after) cs) old new r
products-moved p n t m coalition a b at es before after first second cs old new r ef es' w = rw (← ef, ← es') w

pub ruleset moving_products = (rules, products_below, products-moved)

-- ---- a random wire
module _ (p n next : ℕ) (xs ws row : List ℕ) (er : take n row ≡ draws_of n ws) (ew : ws ≡ drop next xs) where
  pub draws-are : take n row ≡ draws_of n (drop next xs)
  draws-are = er ∙ ap (draws_of n) ew

  pub draws_below : Ready p → all_below p xs ≡ true → all_below p (take n row) ≡ true
  unfolding draws_of
  draws_below r b = rw er (all_below-tab p (λ j. get_or ws j 0) n (λ j l. rw (ew, get_or-drop next xs j 0) (entry_below p xs (next + j) r b)))

pub draws-moved :
    (p n t next coalition at : ℕ) (es xs ys xs' ys' first second cs old new : List ℕ) (r : ℕ) → take n first ≡ draws_of n xs' → xs' ≡ drop next xs
    → take n second ≡ draws_of n ys' → ys' ≡ drop next ys
    → Advanced at (t * n) (moved_blocks p t coalition es (tab suc n) (take n first) (take n second) cs) old new r
    → Advanced at (t * n) (moved_blocks p t coalition es (tab suc n) (draws_of n (drop next xs)) (draws_of n (drop next ys)) cs) old new r
draws-moved p n t next coalition at es xs ys xs' ys' first second cs old new r ef ex es' ey w = rw (← ex, ← ey, ← ef, ← es') w

pub ruleset moving_draws = (rules, draws_below, draws-moved)

-- ---- a gate by its kind
pub multiply_majority : (n t : ℕ) (gate : Gate) (a b : ℕ) → majority_ok n t gate ≡ true → gate ≡ Multiply a b → 2 * t < n
unfolding majority_ok multiplying is_kind kind_of
multiply_majority n t gate a b ok e = let k : ltb (2 * t) n ≡ true = rw e at ok in ltb-true (2 * t) n k

module _ (n p g : ℕ) (gate : Gate) (table : List ℕ) (ok : gate_ok n p g gate ≡ true) (a b : ℕ) (e : gate ≡ Multiply a b) (s : Standing p n g table) where
  pub left-stands : Rowed p n a table
  unfolding gate_ok
  left-stands = standing-row p n g a table s (ltb-true a g (both_true (ltb a g) (ltb b g) (rw e at ok)).0)

  pub right-stands : Rowed p n b table
  unfolding gate_ok
  right-stands = standing-row p n g b table s (ltb-true b g (both_true (ltb a g) (ltb b g) (rw e at ok)).1)

-- a gate at which all deal t coins
even-kind : (r : Rule) (gate : Gate) → is_kind 5 gate ≡ false → truncates r gate ≡ false
unfolding truncates
even-kind Reduction gate k = refl
even-kind Truncation gate k = k

even-input : (r : Rule) (gate : Gate) (s : ℕ) → gate ≡ Input s → truncates r gate ≡ false
unfolding is_kind kind_of
even-input r gate s e = even-kind r gate (rw e)

even-random : (r : Rule) (gate : Gate) → gate ≡ Random → truncates r gate ≡ false
unfolding is_kind kind_of
even-random r gate e = even-kind r gate (rw e)

even-rule : (r : Rule) (gate : Gate) → r ≡ Reduction → truncates r gate ≡ false
unfolding truncates
even-rule r gate e = rw e

even-other : (r : Rule) (gate : Gate) → ((a b : ℕ) → gate ≡ Multiply a b → ⊥) → truncates r gate ≡ false
unfolding is_kind kind_of
even-other r (Input s) n = even-kind r (Input s) refl
even-other r (Add a b) n = even-kind r (Add a b) refl
even-other r (Scale a c) n = even-kind r (Scale a c) refl
even-other r (Offset a c) n = even-kind r (Offset a c) refl
even-other r (Multiply a b) n = absurd (n a b refl)
even-other r Random n = even-kind r Random refl
even-other r (Spend a b) n = even-kind r (Spend a b) refl

module _ (h : Header) (p at : ℕ) (gate : Gate) (es coins out : List ℕ) (long : length es ≡ h.t) (lent : Lent p at (coins_in h gate) coins out) where
  even-lent : truncates h.rule gate ≡ false → Lent p at (h.t * length (dealers_in h gate)) coins out
  unfolding coins_in
  even-lent e = rw e at lent

  pub input-lent : (s : ℕ) → gate ≡ Input s → Lent p at (length es) coins out
  unfolding dealers_in
  input-lent s e = rw (long) (rw (e, mul-one) at (even-lent (even-input h.rule gate s e)))

  pub random_lent : gate ≡ Random → Lent p at (length es * h.n) coins out
  unfolding dealers_in
  random_lent e = rw (long) (rw (e, length-tab suc h.n) at (even-lent (even-random h.rule gate e)))

  pub multiply-lent : (a b : ℕ) → gate ≡ Multiply a b → h.rule ≡ Reduction → Lent p at (length es * (h.t + h.t + 1)) coins out
  unfolding dealers_in
  multiply-lent a b e by = rw (long) (rw (e, length-tab suc (h.t + h.t + 1)) at (even-lent (even-rule h.rule gate by)))

  pub truncated-lent : (a b : ℕ) → gate ≡ Multiply a b → h.rule ≡ Truncation → Lent p at (3 * h.t * h.n) coins out
  unfolding coins_in truncates is_kind kind_of
  truncated-lent a b e by = rw (e, by) at lent

-- blocks moved by numbers that are the same for each dealer
blocks-ext :
    (p t coalition : ℕ) (es ds ss ss' zs zs' cs : List ℕ) → ((j : ℕ) → j < length ds → get_or ss j 0 ≡ get_or ss' j 0) → ((j : ℕ) → j < length ds → get_or zs j 0 ≡ get_or zs' j 0)
    → moved_blocks p t coalition es ds ss zs cs ≡ moved_blocks p t coalition es ds ss' zs' cs
unfolding moved_blocks
blocks-ext p t coalition es [] ss ss' zs zs' cs s z = refl
blocks-ext p t coalition es (d ∷ ds) ss ss' zs zs' cs s z =
    ap₂ (λ (b r : List ℕ). b ++ r)
    (ap₂ (λ (x y : ℕ). moved p (change_of p (in_set coalition d) x y) es (take t cs)) (s 0 (omega arith)) (z 0 (omega arith)))
    (blocks-ext p t coalition es ds (drop 1 ss) (drop 1 ss') (drop 1 zs) (drop 1 zs') (drop t cs)
    (λ j l. get_or-drop 1 ss j 0 ∙ s (1 + j) (omega arith) ∙ sym (get_or-drop 1 ss' j 0))
    (λ j l. get_or-drop 1 zs j 0 ∙ z (1 + j) (omega arith) ∙ sym (get_or-drop 1 zs' j 0)))

draw-taken : (n : ℕ) (xs : List ℕ) (j : ℕ) → j < length (tab suc n) → get_or (draws_of n xs) j 0 ≡ get_or (take n xs) j 0
unfolding draws_of
draw-taken n xs j l =
    let m : j < n = rw (length-tab suc n) at l in
    get_or-tab (λ j. get_or xs j 0) n j 0 m ∙ sym (get_or-take n xs j 0 m)

-- an input that a list has is below p
pub input_small : (p : ℕ) (xs : List ℕ) (i x : ℕ) → Ready p → all_below p xs ≡ true → x ≡ get_or xs i 0 → x < p
input_small p xs i x r b e = rw e (entry_below p xs i r b)

module _ (h : Header) (gate : Gate) (low : ℕ) (es spares dealers : List ℕ) (coalition next at : ℕ) (xs ys before after cs old new : List ℕ) where
  -- the gate's new coins
  abbrev Moved : ℕ → Type 0
  Moved r = Advanced at (coins_in h gate) (gate_block h coalition low es spares dealers gate before after (drop next xs) (drop next ys) cs) old new r

  even-moved :
      (r : ℕ) → truncates h.rule gate ≡ false
      → Advanced at (h.t * length (dealers_in h gate))
      (moved_blocks h.field.p h.t coalition es (dealers_in h gate) (dealt_in h gate before (drop next xs)) (dealt_in h gate after (drop next ys)) cs) old new r
      → Moved r
  unfolding coins_in gate_block
  even-moved r e w = rw e w

  pub moved-input :
      (s x y : ℕ) → length es ≡ h.t → gate ≡ Input s → x ≡ get_or xs next 0 → y ≡ get_or ys next 0
      → Written at (length es) (moved h.field.p (change_of h.field.p (in_set coalition s) x y) es (take (length es) cs)) old new
      → Moved (at + length es)
  unfolding dealers_in dealt_in moved_blocks
  moved-input s x y long e ex ey w =
      let fx : get_or (drop next xs) 0 0 ≡ x = get_or-drop next xs 0 0 ∙ ap (λ (i : ℕ). get_or xs i 0) (add-zero next) ∙ sym ex in
      let fy : get_or (drop next ys) 0 0 ≡ y = get_or-drop next ys 0 0 ∙ ap (λ (i : ℕ). get_or ys i 0) (add-zero next) ∙ sym ey in
      even-moved (at + length es) (even-input h.rule gate s e) (rw (e, mul-one, fx, fy, append-nil, ← long) (record { front = w.front; place = refl }))

  pub moved-multiply :
      (a b r : ℕ) → length es ≡ h.t → gate ≡ Multiply a b → h.rule ≡ Reduction
      → Advanced at (length es * (h.t + h.t + 1))
      (moved_blocks h.field.p (length es) coalition es (tab suc (h.t + h.t + 1)) (products_of h.field.p h.n (h.t + h.t + 1) a b before)
      (products_of h.field.p h.n (h.t + h.t + 1) a b after) cs) old new r
      → Moved r
  unfolding dealers_in dealt_in
  moved-multiply a b r long e by w = even-moved r (even-rule h.rule gate by) (rw (e, length-tab suc (h.t + h.t + 1)) (rw long at w))

  pub moved-truncated :
      (a b r : ℕ) → gate ≡ Multiply a b → h.rule ≡ Truncation
      → Advanced at (3 * h.t * h.n)
      (truncated_coins h.field.p h.n h.t coalition low es spares (change_by h.field.p (h.t + h.t + 1) dealers (changes_of h.field.p h.n (h.t + h.t + 1) a b before after)) cs) old new r
      → Moved r
  unfolding coins_in gate_block truncates is_kind kind_of operands_of
  moved-truncated a b r e by w = rw (e, by) w

  pub moved-random :
      (r : ℕ) → length es ≡ h.t → gate ≡ Random
      → Advanced at (length es * h.n) (moved_blocks h.field.p (length es) coalition es (tab suc h.n) (draws_of h.n (drop next xs)) (draws_of h.n (drop next ys)) cs) old new r
      → Moved r
  unfolding dealers_in dealt_in
  moved-random r long e w =
      even-moved r (even-random h.rule gate e)
      (rw (e, length-tab suc h.n)
      (rw (
        long,
        blocks-ext h.field.p h.t coalition es (tab suc h.n) (draws_of h.n (drop next xs)) (take h.n (drop next xs)) (draws_of h.n (drop next ys)) (take h.n (drop next ys)) cs
            (draw-taken h.n (drop next xs)) (draw-taken h.n (drop next ys)),
      ) at w))

-- nothing is dealt at the other gates
none_dealt :
    (h : Header) (gate : Gate) → ((s : ℕ) → gate ≡ Input s → ⊥) → ((a b : ℕ) → gate ≡ Multiply a b → ⊥) → (gate ≡ Random → ⊥) → dealers_in h gate ≡ []
unfolding dealers_in
none_dealt h (Input s) i m r = absurd (i s refl)
none_dealt h (Add a b) i m r = refl
none_dealt h (Scale a c) i m r = refl
none_dealt h (Offset a c) i m r = refl
none_dealt h (Multiply a b) i m r = absurd (m a b refl)
none_dealt h Random i m r = absurd (r refl)
none_dealt h (Spend a b) i m r = refl

module _ (h : Header) (gate : Gate) (low : ℕ) (es spares dealers : List ℕ) (coalition next at : ℕ) (xs ys before after cs old : List ℕ) where
  pub moved_none :
      ((s : ℕ) → gate ≡ Input s → ⊥) → ((a b : ℕ) → gate ≡ Multiply a b → ⊥) → (gate ≡ Random → ⊥)
      → Moved h gate low es spares dealers coalition next at xs ys before after cs old old at
  unfolding moved_blocks
  moved_none i m r =
      even-moved h gate low es spares dealers coalition next at xs ys before after cs old old at (even-other h.rule gate m)
      (rw (none_dealt h gate i m r) (record { front = rw (mul-zero, add-zero, append-nil); place = omega (arith, mul-zero h.t) }))

-- As it is: answers name this set, since the check leaves their goals open by `using` alone.
pub ruleset moving_gate = (rules, multiply_majority, left-stands, right-stands, input-lent, random_lent, multiply-lent, truncated-lent, input_small, moved-input, moved-multiply, moved-truncated, moved-random, moved_none)
