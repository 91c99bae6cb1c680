-- A gate's row, by its kind.
--     entry-of-wire              an entry of the table is a share
--     working                    what closes the needs of the function that works one gate
-- Assumes nothing.
use Rattle.std.proofs.Common.{Option, Some, None}
use mathlib.Core.Path.{◌≡◌, sym, ap, ap₂, ◌∙◌, fun_ext}
use mathlib.Core.Bool.{true}
use mathlib.Core.List.{List, ◌∷◌, map}
use Prim.Native.Nat.{ℕ, ◌+◌, ◌*◌, ◌/◌, ◌<◌, ◌≤◌}
use native.Mathlib.Nat.{add-zero, mul-one, mul-div_cancel_left}
use native.Mathlib.Omega.{arith}
use borrow.Author.Rules.{rules}
use borrow.Author.Tests.{ltb-true}
use lib.Dec.{ltb}
use lib.ListN.{length, take, drop, get_or, replicate, length-map, length-replicate, get_or-replicate}
use lib.Seq.{take_all, get_or-take, get_or-drop, length-take-le}
use Rattle.numbers.specs.Tables.{tab}
use Rattle.numbers.specs.Bytes.{all_below}
use Rattle.numbers.proofs.Tables.{length-tab, get_or-tab, tab-ext, tab-map, row_room}
use Rattle.numbers.proofs.Truth.{both_true}
use Rattle.field.specs.Mod.{add, mul, sub}
use Rattle.sharing_laws.specs.Poly.{eval}
use Rattle.sharing_laws.specs.Interp.{weights, dot}
use Rattle.sharing_laws.specs.Basis.{sum_all}
use Rattle.sharing_laws.specs.Sharing.{opened}
use Rattle.sharing_laws.specs.Basis as basis
use Rattle.sharing_matrix.specs.declared.Matrix.{Matrix}
use Rattle.sharing_laws.proofs.Alls.{map-tab}
use Rattle.sharing_laws.proofs.Interpolation.{length-weights}
use Rattle.plan.specs.declared.Gate.{Gate}
use Rattle.plan.specs.declared.Gate.TheVariants.{Input, Add, Scale, Offset, Multiply, Random, Spend}
use Rattle.plan.specs.declared.Rule.{Rule}
use Rattle.plan.specs.declared.Rule.TheVariants.{Reduction, Truncation}
use Rattle.plan.specs.declared.Header.{Header}
use Rattle.plan.specs.Plans.{Plan, party_count, dealer_count, dealer_points, kind_of, is_kind, multiplying, coin_owners_at}
use Rattle.plan.specs.File.{plan_of, gate_at, gate_ok}
use Rattle.plan.specs.Planned.{Planned}
use Rattle.plan.proofs.Planned.{plan_t, plan_p, plan_n, plan_rule, plan_gates, plan_gate}
use Rattle.plan.proofs.Valid.{Valid, valid, planned-ready, gate_majority}
use Rattle.seat_messages.specs.Messages.{spent_share}
use Rattle.seat_messages.proofs.PointLaws.{plan_points_long, plan_points_below}
use Rattle.run_protocol.specs.Shares.{Before, wire_at, product_of, multiply_dealt, multiply_share, difference_at, difference_of, gate_share, triples_taken}
use Rattle.run_protocol.proofs.Dealt.{pieces-reduction, pieces-random}
use Rattle.run_protocol.proofs.Truncated.{truncated_share}
use Rattle.run_ideal.proofs.IdealLaws.{wire_below, rest-below}
use Rattle.run_dealings.specs.Rows.{rows_of, products_of, shared_by, draws_of, mixed_at, summed_at, truncated_at, triple_in, differences_of, spent_of, Fitted, Cutting, Ruling, Coined, Rowed, Standing, Taking, Spending, Holds, Worked}
use Rattle.run_dealings.proofs.CoinLaws.{coins_input, coins_reduction, coins_truncation, coins_random}
use Rattle.numbers.proofs.Rows.{flat-length, flat-part}
use Rattle.run_dealings.proofs.RowLaws.{get_or-values, standing-row, row_reading}

-- ---- the rows of a table
cancel : (n a b : ℕ) → 1 ≤ n → n * a ≡ n * b → a ≡ b
cancel n a b l e = sym (mul-div_cancel_left a (omega arith)) ∙ ap (λ (k : ℕ). k / n) e ∙ mul-div_cancel_left b (omega arith)

module _ (points : List ℕ) (n : ℕ) (en : length points ≡ n) where
  each : (h : ℕ → ℕ) → length (map h points) ≡ n
  each h = length-map points h ∙ en

  pub rows-length : (env : List (ℕ → ℕ)) → length (rows_of points env) ≡ n * length env
  unfolding rows_of
  rows-length env = flat-length (λ (h : ℕ → ℕ). map h points) n each env

  pub rows_row : (env : List (ℕ → ℕ)) (w : ℕ) → w < length env → take n (drop (n * w) (rows_of points env)) ≡ map (wire_at env w) points
  unfolding rows_of wire_at
  rows_row env w l = flat-part (λ (h : ℕ → ℕ). map h points) n each env w (λ x. 0) l

  pub rows-entry : (env : List (ℕ → ℕ)) (w j : ℕ) → w < length env → j < n → get_or (rows_of points env) (n * w + j) 0 ≡ wire_at env w (get_or points j 0)
  rows-entry env w j l m =
      sym (get_or-drop (n * w) (rows_of points env) j 0)
      ∙ sym (get_or-take n (drop (n * w) (rows_of points env)) j 0 m)
      ∙ ap (λ (r : List ℕ). get_or r j 0) (rows_row env w l)
      ∙ get_or-values (wire_at env w) points j (rw en m)

  module _ (low : 1 ≤ n) (table : List ℕ) (g : ℕ) (room : n * g ≤ length table) (env : List (ℕ → ℕ)) (front : take (n * g) table ≡ rows_of points env) where
    pub wires-count : length env ≡ g
    wires-count = cancel n (length env) g low (sym (rows-length env) ∙ ap length (sym front) ∙ length-take-le (n * g) table room)

    pub entry-of-wire : (w j : ℕ) → w < g → j < n → get_or table (n * w + j) 0 ≡ wire_at env w (get_or points j 0)
    entry-of-wire w j l m =
        sym (get_or-take (n * g) table (n * w + j) 0 (omega (arith, row_room n w g l)))
        ∙ ap (λ (r : List ℕ). get_or r (n * w + j) 0) front
        ∙ rows-entry env w j (rw wires-count l) m

  row-by-rule : (rule F : ℕ → ℕ) (row : List ℕ) → take n row ≡ tab rule n → ((j : ℕ) → j < n → rule j ≡ F (get_or points j 0)) → take n row ≡ map F points
  row-by-rule rule F row is same =
      is ∙ tab-ext rule (λ j. F (get_or points j 0)) n same ∙ sym (map-tab F points ∙ ap (tab (λ j. F (get_or points j 0))) en)

-- ---- what each kind of gate makes of them
module _ (plan : Plan) (n g : ℕ) (en : length plan.points ≡ n) (low : 1 ≤ n) (xs cs ts : List ℕ) (spent : ℕ) (table : List ℕ) (room : n * g ≤ length table) (s : Before)
    (holds : Holds plan n g xs cs ts spent table s) (row : List ℕ) where
  at : (w j : ℕ) → w < g → j < n → get_or table (n * w + j) 0 ≡ wire_at s.env w (get_or plan.points j 0)
  at = entry-of-wire plan.points n en low table g room s.env holds.rows

  add-share : (a b : ℕ) → a < g → b < g → take n row ≡ tab (λ j. add plan.p (get_or table (n * a + j) 0) (get_or table (n * b + j) 0)) n → take n row ≡ map (gate_share plan (Add a b) s) plan.points
  unfolding gate_share
  add-share a b la lb is = row-by-rule plan.points n en _ (gate_share plan (Add a b) s) row is (λ j l. ap₂ (add plan.p) (at a j la l) (at b j lb l))

  scale-share : (a c : ℕ) → a < g → take n row ≡ tab (λ j. mul plan.p (get_or table (n * a + j) 0) c) n → take n row ≡ map (gate_share plan (Scale a c) s) plan.points
  unfolding gate_share
  scale-share a c la is = row-by-rule plan.points n en _ (gate_share plan (Scale a c) s) row is (λ j l. ap (λ (v : ℕ). mul plan.p v c) (at a j la l))

  offset-share : (a c : ℕ) → a < g → take n row ≡ tab (λ j. add plan.p (get_or table (n * a + j) 0) c) n → take n row ≡ map (gate_share plan (Offset a c) s) plan.points
  unfolding gate_share
  offset-share a c la is = row-by-rule plan.points n en _ (gate_share plan (Offset a c) s) row is (λ j l. ap (λ (v : ℕ). add plan.p v c) (at a j la l))

  input-share : (i : ℕ) → take n row ≡ map (eval plan.p (get_or xs 0 0 ∷ take plan.t cs)) plan.points → take n row ≡ map (gate_share plan (Input i) s) plan.points
  unfolding gate_share
  input-share i is = is ∙ ap₂ (λ (l m : List ℕ). map (eval plan.p (get_or l 0 0 ∷ take plan.t m)) plan.points) (sym holds.inputs) (sym holds.coins)

  -- the products of the first m parties
  products-at : (m a b : ℕ) → a < g → b < g → m ≤ n → products_of plan.p n m a b table ≡ map (product_of plan s.env a b) (take m plan.points)
  unfolding products_of product_of
  products-at m a b la lb le =
      let F : ℕ → ℕ = λ y. mul plan.p (wire_at s.env a y) (wire_at s.env b y) in
      let long : length (take m plan.points) ≡ m = length-take-le m plan.points (rw en le) in
      tab-ext _ (λ j. F (get_or (take m plan.points) j 0)) m
      (λ j l. rw (get_or-take m plan.points j 0 l) (ap₂ (mul plan.p) (at a j la (omega arith)) (at b j lb (omega arith))))
      ∙ sym (map-tab F (take m plan.points) ∙ ap (tab (λ j. F (get_or (take m plan.points) j 0))) long)

  products-dealt : (a b : ℕ) → a < g → b < g → dealer_count plan ≤ n → products_of plan.p n (dealer_count plan) a b table ≡ multiply_dealt plan Reduction s a b
  unfolding multiply_dealt dealer_points
  products-dealt a b = products-at (dealer_count plan) a b

  products-count : (a b : ℕ) → length (products_of plan.p n (dealer_count plan) a b table) ≡ dealer_count plan
  unfolding products_of
  products-count a b = length-tab _ (dealer_count plan)

  mixed-share : (a b x : ℕ) → plan.rule ≡ Reduction → a < g → b < g → dealer_count plan ≤ n
      → mixed_at plan.p (weights plan.p 0 (dealer_points plan)) (shared_by plan.t plan.t (products_of plan.p n (dealer_count plan) a b table) s.coins) x ≡ gate_share plan (Multiply a b) s x
  unfolding gate_share multiply_share mixed_at shared_by
  mixed-share a b x red la lb le =
      let ws : List ℕ = weights plan.p 0 (dealer_points plan) in
      let vs : List ℕ = products_of plan.p n (dealer_count plan) a b table in
      let piece : List ℕ → ℕ → ℕ = λ us r. eval plan.p (get_or us r 0 ∷ take plan.t (drop (plan.t * r) s.coins)) x in
      ap (dot plan.p ws)
      (tab-map (λ f. eval plan.p f x) (λ r. get_or vs r 0 ∷ take plan.t (drop (plan.t * r) s.coins)) (length vs)
      ∙ ap (tab (piece vs)) (products-count a b)
      ∙ ap (λ (us : List ℕ). tab (piece us) (dealer_count plan)) (products-dealt a b la lb le)
      ∙ sym (pieces-reduction plan a b x s red))
      ∙ sym (ap (λ (r : Rule). multiply_share plan r (Multiply a b) s x) red)

  multiply-share : (a b : ℕ) (ws : List ℕ) → plan.rule ≡ Reduction → a < g → b < g → dealer_count plan ≤ n → ws ≡ weights plan.p 0 (dealer_points plan)
      → take n row ≡ map (mixed_at plan.p ws (shared_by plan.t plan.t (products_of plan.p n (dealer_count plan) a b table) cs)) plan.points
      → take n row ≡ map (gate_share plan (Multiply a b) s) plan.points
  multiply-share a b ws red la lb le ew is =
      is
      ∙ ap₂ (λ (vs ds : List ℕ). map (mixed_at plan.p vs (shared_by plan.t plan.t (products_of plan.p n (dealer_count plan) a b table) ds)) plan.points) ew (sym holds.coins)
      ∙ ap (λ (F : ℕ → ℕ). map F plan.points) (fun_ext (λ x. mixed-share a b x red la lb le))

  truncated-share : (a b : ℕ) → Valid plan → plan.rule ≡ Truncation → plan.t + plan.t < n → a < g → b < g
      → take n row ≡ map (truncated_at plan.p plan.t plan.points (products_of plan.p n n a b table) (shared_by plan.t (3 * plan.t) (replicate n 0) cs)) plan.points
      → take n row ≡ map (gate_share plan (Multiply a b) s) plan.points
  unfolding truncated_at summed_at shared_by party_count
  truncated-share a b v by majority la lb is =
      let zero : ℕ → List ℕ → ℕ → ℕ → ℕ = λ x ds v d. eval plan.p (v ∷ take plan.t (drop (3 * plan.t * d) ds)) x in
      is
      ∙ ap (λ (F : ℕ → ℕ). map F plan.points)
      (fun_ext (λ x.
      ap₂ (λ (vs zs : List ℕ). add plan.p (dot plan.p (basis.row plan.p plan.t plan.points x) vs) (sum_all plan.p zs))
      (products-at n a b la lb (omega arith) ∙ ap (map (product_of plan s.env a b)) (take_all n plan.points (omega (arith, en))))
      (tab-map (λ f. eval plan.p f x) (λ d. get_or (replicate n 0) d 0 ∷ take plan.t (drop (3 * plan.t * d) cs)) (length (replicate {A = ℕ} n 0))
      ∙ ap (tab (λ d. zero x cs (get_or (replicate n 0) d 0) d)) (length-replicate {A = ℕ} n 0)
      ∙ tab-ext _ _ n (λ d l. ap (λ (v : ℕ). zero x cs v d) (get_or-replicate n d 0 0 l))
      ∙ ap₂ (λ (ds : List ℕ) (m : ℕ). tab (zero x ds 0) m) (sym holds.coins) (sym en))
      ∙ sym (truncated_share plan v by (rw en majority) s a b x)))

  random-share : take n row ≡ map (summed_at plan.p (shared_by plan.t plan.t (draws_of n xs) cs)) plan.points → take n row ≡ map (gate_share plan Random s) plan.points
  unfolding gate_share summed_at shared_by draws_of party_count
  random-share is =
      let piece : ℕ → ℕ → ℕ → ℕ = λ x v d. eval plan.p (v ∷ take plan.t (drop (plan.t * d) cs)) x in
      is
      ∙ ap (λ (F : ℕ → ℕ). map F plan.points)
      (fun_ext (λ x.
      ap (sum_all plan.p)
      (tab-map (λ f. eval plan.p f x) (λ d. get_or (draws_of n xs) d 0 ∷ take plan.t (drop (plan.t * d) cs)) (length (draws_of n xs))
      ∙ ap (tab (λ d. piece x (get_or (draws_of n xs) d 0) d)) (length-tab (λ d. get_or xs d 0) n)
      ∙ tab-ext _ _ n (λ d l. ap (λ (v : ℕ). piece x v d) (get_or-tab (λ d. get_or xs d 0) n d 0 l))
      ∙ ap (λ (ys : List ℕ). tab (λ d. piece x (get_or ys d 0) d) n) (sym holds.inputs)
      ∙ ap₂ (λ (m : ℕ) (ds : List ℕ). tab (λ d. eval plan.p (get_or s.inputs d 0 ∷ take plan.t (drop (plan.t * d) ds)) x) m) (sym en) (sym holds.coins)
      ∙ sym (pieces-random plan x s))))

  -- the differences of all parties, and the product that spends their triples
  differences-are : (w j : ℕ) → w < g → j < 3 → spent + 3 ≤ length ts / n → differences_of plan.p n w j ts spent table ≡ map (difference_at plan s w j) plan.points
  unfolding differences_of difference_at
  differences-are w j l m r =
      let F : ℕ → ℕ = difference_at plan s w j in
      tab-ext _ (λ d. F (get_or plan.points d 0)) n (λ d q. ap₂ (sub plan.p) (at w d l q) (holds.triples d j q (omega (arith, r))))
      ∙ sym (map-tab F plan.points ∙ ap (tab (λ d. F (get_or plan.points d 0))) en)

  spend-share : (a b : ℕ) → a < g → b < g → spent + 3 ≤ length ts / n → take n row ≡ spent_of plan.p plan.t plan.points a b ts spent table → take n row ≡ map (gate_share plan (Spend a b) s) plan.points
  unfolding gate_share spent_of difference_of
  spend-share a b la lb r is =
      let opens : ℕ → ℕ → ℕ → ℕ = λ m w j. opened plan.p plan.t plan.points (differences_of plan.p m w j ts spent table) in
      let share : ℕ → ℕ → ℕ = λ m d. spent_share plan.p (triple_in m ts spent d 2) (get_or table (m * a + d) 0) (get_or table (m * b + d) 0) (opens m a 0) (opens m b 1) in
      row-by-rule plan.points n en (share n) (gate_share plan (Spend a b) s) row (is ∙ ap (λ (m : ℕ). tab (share m) m) en)
      (λ d l.
      ap (λ (c : ℕ). spent_share plan.p c (get_or table (n * a + d) 0) (get_or table (n * b + d) 0) (opens n a 0) (opens n b 1)) (holds.triples d 2 l (omega (arith, r)))
      ∙ ap₂ (λ (x y : ℕ). spent_share plan.p (wire_at s.triples 2 (get_or plan.points d 0)) x y (opens n a 0) (opens n b 1)) (at a d la l) (at b d lb l)
      ∙ ap₂
      (λ (us vs : List ℕ).
      spent_share plan.p (wire_at s.triples 2 (get_or plan.points d 0)) (wire_at s.env a (get_or plan.points d 0)) (wire_at s.env b (get_or plan.points d 0)) (opened plan.p plan.t plan.points us)
      (opened plan.p plan.t plan.points vs))
      (differences-are a 0 la (omega arith) r) (differences-are b 1 lb (omega arith) r))

-- ---- the dealings of a plan
module _ (bs : List ℕ) (h : Header) (p t : ℕ) (points ws : List ℕ) (fitted : Fitted bs h p t points ws) where
  module _ (k : Planned bs h) where
    parties : length points ≡ h.n
    parties = ap length fitted.are ∙ plan_points_long bs h k

    pub fitted_over : t < length points
    fitted_over = omega (arith, parties, fitted.threshold, k.threshold)

    pub fitted_elements : all_below p points ≡ true
    fitted_elements = rw (fitted.field, fitted.are) (plan_points_below bs h k)

    module _ (row : List ℕ) (long : length row ≡ h.n) where
      pub row_of_points : length row ≡ length points
      row_of_points = long ∙ sym parties

      pub row_for_points : length points ≤ length row
      row_for_points = omega (arith, row_of_points)

    -- the dealers are parties
    module _ (two : 2 * h.t < h.n) where
      weights-long : length ws ≡ h.t + h.t + 1
      weights-long =
          ap length fitted.weighs ∙ length-weights p 0 (take (t + t + 1) points)
          ∙ length-take-le (t + t + 1) points (omega (arith, parties, fitted.threshold))
          ∙ omega (arith, fitted.threshold)

      weighs : ws ≡ weights h.field.p 0 (take (h.t + h.t + 1) points)
      weighs = rw (← fitted.field, ← fitted.threshold) fitted.weighs

-- ---- gate g of a plan that passes, as it was read
module _ (bs : List ℕ) (h : Header) (k : Planned bs h) (g : ℕ) (l : g < h.gates) where
  kept : gate_ok h.n h.field.p g (gate_at bs g) ≡ true
  kept = rw (plan_n k, plan_p k, plan_gate k g l) at ((valid bs k.passes).gates g (rw (plan_gates k) l))

  module _ (read : Gate) (e : read ≡ gate_at bs g) (table : List ℕ) (s : Standing h.field.p h.n g table) where
    rule : (gate : Gate) → read ≡ gate → gate_ok h.n h.field.p g gate ≡ true
    rule gate is = rw (← is, e) kept

    module _ (a b : ℕ) where
      adds : read ≡ Add a b → (ltb a g ≡ true) × (ltb b g ≡ true)
      unfolding gate_ok
      adds is = both_true (ltb a g) (ltb b g) (rule (Add a b) is)

      scales : read ≡ Scale a b → (ltb a g ≡ true) × (ltb b h.field.p ≡ true)
      unfolding gate_ok
      scales is = both_true (ltb a g) (ltb b h.field.p) (rule (Scale a b) is)

      offsets : read ≡ Offset a b → (ltb a g ≡ true) × (ltb b h.field.p ≡ true)
      unfolding gate_ok
      offsets is = both_true (ltb a g) (ltb b h.field.p) (rule (Offset a b) is)

      multiplies : read ≡ Multiply a b → (ltb a g ≡ true) × (ltb b g ≡ true)
      unfolding gate_ok
      multiplies is = both_true (ltb a g) (ltb b g) (rule (Multiply a b) is)

      spends : read ≡ Spend a b → (ltb a g ≡ true) × (ltb b g ≡ true)
      unfolding gate_ok
      spends is = both_true (ltb a g) (ltb b g) (rule (Spend a b) is)

      spending_room : read ≡ Spend a b → (spent : ℕ) (ts : List ℕ) → Spending h.field.p h.n (triples_taken (gate_at bs g)) spent ts → spent + 3 ≤ length ts / h.n
      unfolding triples_taken is_kind kind_of
      spending_room is spent ts left =
          let three : triples_taken (gate_at bs g) ≡ 3 = ap triples_taken (sym e ∙ is) in
          omega (arith, left.room)

      pub add-left-stands : read ≡ Add a b → Rowed h.field.p h.n a table
      add-left-stands is = standing-row h.field.p h.n g a table s (ltb-true a g (adds is).0)

      pub add-right-stands : read ≡ Add a b → Rowed h.field.p h.n b table
      add-right-stands is = standing-row h.field.p h.n g b table s (ltb-true b g (adds is).1)

      pub scale-stands : read ≡ Scale a b → Rowed h.field.p h.n a table
      scale-stands is = standing-row h.field.p h.n g a table s (ltb-true a g (scales is).0)

      pub scale_constant : read ≡ Scale a b → b < h.field.p
      scale_constant is = ltb-true b h.field.p (scales is).1

      pub offset-stands : read ≡ Offset a b → Rowed h.field.p h.n a table
      offset-stands is = standing-row h.field.p h.n g a table s (ltb-true a g (offsets is).0)

      pub offset_constant : read ≡ Offset a b → b < h.field.p
      offset_constant is = ltb-true b h.field.p (offsets is).1

      two : read ≡ Multiply a b → 2 * h.t < h.n
      unfolding multiplying is_kind kind_of
      two is = gate_majority bs h k g read l e (ap multiplying is)

      module _ (p t : ℕ) (points ws : List ℕ) (fitted : Fitted bs h p t points ws) where
        pub multiply_few : read ≡ Multiply a b → t < 8
        multiply_few is = omega (arith, two is, k.n-high, fitted.threshold)

        pub multiply-left-stands : read ≡ Multiply a b → Rowed p (length points) a table
        multiply-left-stands is = rw (fitted.field, parties bs h p t points ws fitted k) (standing-row h.field.p h.n g a table s (ltb-true a g (multiplies is).0))

        pub multiply-right-stands : read ≡ Multiply a b → Rowed p (length points) b table
        multiply-right-stands is = rw (fitted.field, parties bs h p t points ws fitted k) (standing-row h.field.p h.n g b table s (ltb-true b g (multiplies is).1))

      module _ (p t : ℕ) (points ws : List ℕ) (fitted : Fitted bs h p t points ws) where
        pub spend-left-stands : read ≡ Spend a b → Rowed p (length points) a table
        spend-left-stands is = rw (fitted.field, parties bs h p t points ws fitted k) (standing-row h.field.p h.n g a table s (ltb-true a g (spends is).0))

        pub spend-right-stands : read ≡ Spend a b → Rowed p (length points) b table
        spend-right-stands is = rw (fitted.field, parties bs h p t points ws fitted k) (standing-row h.field.p h.n g b table s (ltb-true b g (spends is).1))

        pub spend-triples : read ≡ Spend a b → (spent : ℕ) (ts : List ℕ) → Spending h.field.p h.n (triples_taken (gate_at bs g)) spent ts → Spending p (length points) 3 spent ts
        spend-triples is spent ts left =
            record { room = rw (parties bs h p t points ws fitted k) (spending_room is spent ts left); below = rw fitted.field left.below }

    -- coins
    module _ (at : ℕ) (cs : List ℕ) (taking : Taking (plan_of bs) (gate_at bs g) at cs) where
      coined_by : (c m : ℕ) → c * m ≡ length (coin_owners_at (plan_of bs) read) → Coined h.field.p c m at cs
      coined_by c m q =
          let r : c * m ≡ length (coin_owners_at (plan_of bs) (gate_at bs g)) = q ∙ ap (λ (x : Gate). length (coin_owners_at (plan_of bs) x)) e in
          record { room = rw (← r) at taking.room; below = rw (← r, plan_p k) at taking.below }

      module _ (p t : ℕ) (points ws : List ℕ) (fitted : Fitted bs h p t points ws) where
        pub input_coins : (i : ℕ) → read ≡ Input i → Coined p t 1 at cs
        input_coins i is = rw (fitted.field, fitted.threshold) (coined_by h.t 1 (mul-one h.t ∙ coins_input bs h k read i is))

        pub random_coins : read ≡ Random → Coined p t (length points) at cs
        random_coins is = rw (fitted.field, fitted.threshold, parties bs h p t points ws fitted k) (coined_by h.t h.n (coins_random bs h k read is))

        module _ (a b : ℕ) (is : read ≡ Multiply a b) (kept : Option Matrix) (ruling : Ruling h.rule p t points kept) where
          pub reduction_coins : kept ≡ None → Coined p t (length ws) at cs
          reduction_coins none =
              rw (fitted.field, fitted.threshold, weights-long bs h p t points ws fitted k (two a b is))
              (coined_by h.t (h.t + h.t + 1) (coins_reduction bs h k read a b is (ruling.none none)))

          pub truncation_coins : (m : Matrix) → kept ≡ Some m → Coined p (3 * t) (length points) at cs
          truncation_coins m some =
              rw (fitted.field, fitted.threshold, parties bs h p t points ws fitted k) (coined_by (3 * h.t) h.n (coins_truncation bs h k read a b is (ruling.some m some)))

    -- rows
    module _ (xs cs ts : List ℕ) (spent : ℕ) (row : List ℕ) where
      module _ (gate : Gate) (is : read ≡ gate) (works : (s : Before) → Holds (plan_of bs) h.n g xs cs ts spent table s → take h.n row ≡ map (gate_share (plan_of bs) gate s) (plan_of bs).points) where
        by_kind : Worked (plan_of bs) h.n (gate_at bs g) g xs cs ts spent table row
        by_kind = record { is = λ s holds. rw (← e, is) (works s holds) }

      pub worked-add : (a b : ℕ) → read ≡ Add a b → take h.n row ≡ tab (λ j. add h.field.p (get_or table (h.n * a + j) 0) (get_or table (h.n * b + j) 0)) h.n → Worked (plan_of bs) h.n (gate_at bs g) g xs cs ts spent table row
      worked-add a b is made =
          by_kind (Add a b) is
          (λ before holds.
          add-share (plan_of bs) h.n g (plan_points_long bs h k) k.n_low xs cs ts spent table s.room before holds row a b (ltb-true a g (adds a b is).0) (ltb-true b g (adds a b is).1)
          (made ∙ ap (λ (p : ℕ). tab (λ j. add p (get_or table (h.n * a + j) 0) (get_or table (h.n * b + j) 0)) h.n) (sym (plan_p k))))

      pub worked-scale : (a c : ℕ) → read ≡ Scale a c → take h.n row ≡ tab (λ j. mul h.field.p (get_or table (h.n * a + j) 0) c) h.n → Worked (plan_of bs) h.n (gate_at bs g) g xs cs ts spent table row
      worked-scale a c is made =
          by_kind (Scale a c) is
          (λ before holds.
          scale-share (plan_of bs) h.n g (plan_points_long bs h k) k.n_low xs cs ts spent table s.room before holds row a c (ltb-true a g (scales a c is).0)
          (made ∙ ap (λ (p : ℕ). tab (λ j. mul p (get_or table (h.n * a + j) 0) c) h.n) (sym (plan_p k))))

      pub worked-offset : (a c : ℕ) → read ≡ Offset a c → take h.n row ≡ tab (λ j. add h.field.p (get_or table (h.n * a + j) 0) c) h.n → Worked (plan_of bs) h.n (gate_at bs g) g xs cs ts spent table row
      worked-offset a c is made =
          by_kind (Offset a c) is
          (λ before holds.
          offset-share (plan_of bs) h.n g (plan_points_long bs h k) k.n_low xs cs ts spent table s.room before holds row a c (ltb-true a g (offsets a c is).0)
          (made ∙ ap (λ (p : ℕ). tab (λ j. add p (get_or table (h.n * a + j) 0) c) h.n) (sym (plan_p k))))

      module _ (p t : ℕ) (points ws : List ℕ) (fitted : Fitted bs h p t points ws) (a b : ℕ) (is : read ≡ Multiply a b) (kept : Option Matrix) (ruling : Ruling h.rule p t points kept) where
        pub worked-reduction : kept ≡ None → take (length points) row ≡ map (mixed_at p ws (shared_by t t (products_of p (length points) (length ws) a b table) cs)) points
            → Worked (plan_of bs) h.n (gate_at bs g) g xs cs ts spent table row
        unfolding dealer_count dealer_points
        worked-reduction none made =
            by_kind (Multiply a b) is
            (λ before holds.
            multiply-share (plan_of bs) h.n g (plan_points_long bs h k) k.n_low xs cs ts spent table s.room before holds row a b ws (plan_rule k ∙ ruling.none none)
            (ltb-true a g (multiplies a b is).0) (ltb-true b g (multiplies a b is).1)
            (rw (plan_t k) (omega (arith, two a b is)))
            (rw (plan_p k, plan_t k, ← fitted.are) (weighs bs h p t points ws fitted k (two a b is)))
            (rw (plan_p k, plan_t k, ← fitted.are, ← parties bs h p t points ws fitted k)
            (rw (fitted.field, fitted.threshold, weights-long bs h p t points ws fitted k (two a b is)) at made)))

        pub worked-truncation : (m : Matrix) → kept ≡ Some m
            → take (length points) row ≡ map (truncated_at p t points (products_of p (length points) (length points) a b table) (shared_by t (3 * t) (replicate (length points) 0) cs)) points
            → Worked (plan_of bs) h.n (gate_at bs g) g xs cs ts spent table row
        worked-truncation m some made =
            by_kind (Multiply a b) is
            (λ before holds.
            truncated-share (plan_of bs) h.n g (plan_points_long bs h k) k.n_low xs cs ts spent table s.room before holds row a b (valid bs k.passes) (plan_rule k ∙ ruling.some m some)
            (rw (plan_t k) (omega (arith, two a b is))) (ltb-true a g (multiplies a b is).0) (ltb-true b g (multiplies a b is).1)
            (rw (plan_p k, plan_t k, ← fitted.are, ← parties bs h p t points ws fitted k) (rw (fitted.field, fitted.threshold) at made)))

    -- all parties' next triples are spent
    pub worked-spend : (xs cs ts row points ws : List ℕ) (p t a b spent : ℕ) → Fitted bs h p t points ws → read ≡ Spend a b
        → Spending h.field.p h.n (triples_taken (gate_at bs g)) spent ts → take (length points) row ≡ spent_of p t points a b ts spent table
        → Worked (plan_of bs) h.n (gate_at bs g) g xs cs ts spent table row
    worked-spend xs cs ts row points ws p t a b spent fitted is left made =
        by_kind xs cs ts spent row (Spend a b) is
        (λ before holds.
        spend-share (plan_of bs) h.n g (plan_points_long bs h k) k.n_low xs cs ts spent table s.room before holds row a b (ltb-true a g (spends a b is).0) (ltb-true b g (spends a b is).1)
        (spending_room a b is spent ts left)
        (rw (plan_p k, plan_t k, ← fitted.are, ← parties bs h p t points ws fitted k) (rw (fitted.field, fitted.threshold) at made)))

    -- the draws begin the rest of the list
    pub worked-random : (xs ys cs ts row points ws : List ℕ) (p t from spent : ℕ) → Fitted bs h p t points ws → read ≡ Random → ys ≡ drop from xs
        → take (length points) row ≡ map (summed_at p (shared_by t t (draws_of (length points) ys) cs)) points → Worked (plan_of bs) h.n (gate_at bs g) g (drop from xs) cs ts spent table row
    worked-random xs ys cs ts row points ws p t from spent fitted is ey made =
        by_kind (drop from xs) cs ts spent row Random is
        (λ before holds.
        random-share (plan_of bs) h.n g (plan_points_long bs h k) k.n_low (drop from xs) cs ts spent table s.room before holds row
        (rw (plan_p k, plan_t k, ← fitted.are, ← parties bs h p t points ws fitted k, ← ey) (rw (fitted.field, fitted.threshold) at made)))

    -- an input is the next of the list
    pub worked-input : (xs cs ts row points ws : List ℕ) (p t i x from spent : ℕ) → Fitted bs h p t points ws → read ≡ Input i → x ≡ get_or xs from 0
        → take (length points) row ≡ map (eval p (x ∷ take t cs)) points → Worked (plan_of bs) h.n (gate_at bs g) g (drop from xs) cs ts spent table row
    worked-input xs cs ts row points ws p t i x from spent fitted is ex made =
        let first : x ≡ get_or (drop from xs) 0 0 = ex ∙ ap (λ (m : ℕ). get_or xs m 0) (sym (add-zero from)) ∙ sym (get_or-drop from xs 0 0) in
        by_kind (drop from xs) cs ts spent row (Input i) is
        (λ before holds.
        input-share (plan_of bs) h.n g (plan_points_long bs h k) k.n_low (drop from xs) cs ts spent table s.room before holds row i
        (rw (plan_p k, plan_t k, ← fitted.are, ← parties bs h p t points ws fitted k, ← first) (rw (fitted.field, fitted.threshold) at made)))

-- an element of the plan's field is one of the dealings'
pub fitted_below : (bs : List ℕ) (h : Header) (p t : ℕ) (points ws : List ℕ) (x : ℕ) → Fitted bs h p t points ws → x < h.field.p → x < p
fitted_below bs h p t points ws x fitted l = rw fitted.field l

pub fitted_rest : (bs : List ℕ) (h : Header) (p t : ℕ) (points ws xs ys : List ℕ) (from : ℕ) → Fitted bs h p t points ws → all_below h.field.p xs ≡ true → ys ≡ drop from xs → all_below p ys ≡ true
fitted_rest bs h p t points ws xs ys from fitted b e = rw fitted.field (rest-below h.field.p xs ys from b e)

pub kept_cutting : (rule : Rule) (p t : ℕ) (points : List ℕ) (kept : Option Matrix) (m : Matrix) → Ruling rule p t points kept → kept ≡ Some m → Cutting p t points m
kept_cutting rule p t points x m ruling some = ruling.cuts m some

-- ---- the rules of rows
abbrev pub sum_at : ℕ → ℕ → ℕ → ℕ → List ℕ → ℕ → ℕ
sum_at p n a b table j = add p (get_or table (n * a + j) 0) (get_or table (n * b + j) 0)

abbrev pub multiple_at : ℕ → ℕ → ℕ → ℕ → List ℕ → ℕ → ℕ
multiple_at p n a c table j = mul p (get_or table (n * a + j) 0) c

abbrev pub shifted_at : ℕ → ℕ → ℕ → ℕ → List ℕ → ℕ → ℕ
shifted_at p n a c table j = add p (get_or table (n * a + j) 0) c

-- a row by a rule
pub filled_row : (f : ℕ → ℕ) (n m : ℕ) (ys : List ℕ) → m ≡ n → ys ≡ tab f m → take n ys ≡ tab f n
filled_row f n m ys em e = let is : ys ≡ tab f n = e ∙ ap (tab f) em in take_all n ys (omega (arith, ap length is, length-tab f n)) ∙ is

pub ruleset reading = (row_reading, add-left-stands, add-right-stands, scale-stands, scale_constant, offset-stands, offset_constant)

-- As it is: answers name this set, since the check leaves their goals open by `using` alone.
pub ruleset working = (rules, planned-ready, wire_below, fitted_below, fitted_rest, multiply_few, add-left-stands, add-right-stands, scale-stands, scale_constant, offset-stands, offset_constant, multiply-left-stands, multiply-right-stands, fitted_over, fitted_elements, spend-left-stands, spend-right-stands, spend-triples, input_coins, random_coins, reduction_coins, truncation_coins, kept_cutting, worked-add, worked-scale, worked-offset, worked-random, worked-spend, worked-input, worked-reduction, worked-truncation)
