-- A party's own coins and inputs at a gate, beside the coins and inputs that the table has there; and the table's pieces of a gate's dealings.
--     coins_at_lem, input_at_lem                        of a party's own, those at a gate
--     input_coins, first_coins, zero-coins, masked-coins      where it deals: an input, one of the first dealings, a multiply's two
--     input-figure, input-draw                  its input at a gate
--     pieces-reduction, pieces-random, pieces-masked          the pieces at a point
-- Assumes nothing.
use mathlib.Core.Path.{◌≡◌, refl, sym, ap, ap₂, ◌∙◌}
use mathlib.Core.List.{List, [], ◌∷◌, ◌++◌, map, flat_map, append-nil}
use Prim.Native.Nat.{ℕ, zero, suc, ◌+◌, ◌-◌, ◌*◌, ◌<◌, ◌≤◌}
use native.Mathlib.Nat.{mul-zero, mul-suc, mul-add}
use native.Mathlib.Omega.{arith}
use borrow.Author.Tests.{eq-eqb}
use lib.Dec.{eqb}
use lib.ListN.{length, get_or, take, drop, replicate, length-append, length-drop, length-replicate, replicate-append-replicate}
use lib.Seq.{drop-drop, split_at, get_or-drop, get_or-take, length-take-le, take-take, drop-append-le, take-append-le}
use Rattle.numbers.specs.Tables.{tab, count_where}
use Rattle.numbers.proofs.Tables.{length-tab, get_or-tab, tab-ext, tab-map}
use Rattle.sharing_laws.specs.Poly.{eval}
use Rattle.seat_messages.specs.Messages.{from_each}
use Rattle.sharing_laws.proofs.Lists.{flat_map-append, flat_map-tabs, map-flat_map, length-map, get_d_rows, all-every}
use Rattle.plan.specs.declared.Gate.{Gate}
use Rattle.plan.specs.declared.Gate.TheVariants.{Input, Multiply, Random}
use Rattle.plan.specs.declared.Rule.{Rule}
use Rattle.plan.specs.declared.Rule.TheVariants.{Reduction, Truncation}
use Rattle.plan.specs.declared.Dealing.{Dealing}
use Rattle.plan.specs.Plans.{Plan, party_count, parties, point_of, dealer_count, input_owners_at, first_dealings, multiply_dealings, dealings_at, coin_owners_at, input_owners, coin_owners, coin_count, own_of, own_inputs, own_coins, input_at, coins_at}
use Rattle.run_protocol.specs.Shares.{Before, masked_at, multiply_dealt, dealt_at, sharings, pieces_at}
use Rattle.run_protocol.specs.Tables.{before_gate}
use Rattle.run_protocol.proofs.Following.{Is}
use Rattle.run_protocol.proofs.Owners.{own_at, own_same, blocks, length_blocks, blocks_of, own_block, own_each}
use Rattle.run_protocol.proofs.Table.{before-inputs, before-coins}

own-one : (i : ℕ) (l : List ℕ) → own_of i (i ∷ []) l ≡ get_or l 0 0 ∷ []
unfolding own_of
own-one i l = rw (eq-eqb i i refl) refl

take_inner : (a b : ℕ) (l : List ℕ) → take b (drop a (take (a + b) l)) ≡ take b (drop a l)
take_inner zero b l = let e : 0 + b ≡ b = omega arith in ap (λ (k : ℕ). take b (take k l)) e ∙ take-take b b l (omega arith)
take_inner (suc a) b [] = let e : suc a + b ≡ suc (a + b) = omega arith in ap (λ (k : ℕ). take b (drop (suc a) (take k []))) e
take_inner (suc a) b (y ∷ l) = let e : suc a + b ≡ suc (a + b) = omega arith in ap (λ (k : ℕ). take b (drop (suc a) (take k (y ∷ l)))) e ∙ take_inner a b l

-- ---- owners
owners_of : Dealing → List ℕ
owners_of d = replicate d.coins d.dealer

flat_map_twice : {A B C : Type 0} (f : B → List C) (g : A → List B) (xs : List A) → flat_map f (flat_map g xs) ≡ flat_map (λ x. flat_map f (g x)) xs
unfolding flat_map
flat_map_twice f g [] = refl
flat_map_twice f g (x ∷ xs) = flat_map-append f (g x) (flat_map g xs) ∙ ap (λ (l : List _). flat_map f (g x) ++ l) (flat_map_twice f g xs)

module _ (plan : Plan) where
  pub input-owners : (s : ℕ) → coin_owners_at plan (Input s) ≡ replicate plan.t s
  unfolding coin_owners_at dealings_at flat_map
  input-owners s = append-nil (replicate plan.t s)

  first-owners : (k : ℕ) → flat_map owners_of (first_dealings plan k) ≡ blocks plan.t 0 k
  unfolding first_dealings owners_of
  first-owners k =
      blocks_of plan.t 0 k owners_of (λ i. record { dealer = suc i; coins = plan.t }) (λ r l. let e : r ≡ 0 + r = omega arith in ap (λ (m : ℕ). replicate plan.t (suc m)) e)

  pub reduction-owners : (a b : ℕ) → plan.rule ≡ Reduction → coin_owners_at plan (Multiply a b) ≡ blocks plan.t 0 (dealer_count plan)
  unfolding coin_owners_at dealings_at multiply_dealings owners_of
  reduction-owners a b e = ap (λ (r : Rule). flat_map owners_of (multiply_dealings plan r)) e ∙ first-owners (dealer_count plan)

  pub random-owners : coin_owners_at plan Random ≡ blocks plan.t 0 (party_count plan)
  unfolding coin_owners_at dealings_at owners_of
  random-owners = first-owners (party_count plan)

  pair : ℕ → List Dealing
  pair i = record { dealer = i; coins = plan.t + plan.t } ∷ record { dealer = i; coins = plan.t } ∷ []

  pair-owners : (i : ℕ) → flat_map owners_of (pair i) ≡ replicate (3 * plan.t) i
  unfolding pair owners_of flat_map
  pair-owners i =
      let e : plan.t + plan.t + plan.t ≡ 3 * plan.t = omega arith in
      ap (λ (l : List ℕ). replicate (plan.t + plan.t) i ++ l) (append-nil (replicate plan.t i))
      ∙ replicate-append-replicate (plan.t + plan.t) plan.t i ∙ ap (λ (k : ℕ). replicate k i) e

  pub truncation-owners : (a b : ℕ) → plan.rule ≡ Truncation → coin_owners_at plan (Multiply a b) ≡ blocks (3 * plan.t) 0 (party_count plan)
  unfolding coin_owners_at dealings_at multiply_dealings owners_of pair parties
  truncation-owners a b e =
      ap (λ (r : Rule). flat_map owners_of (multiply_dealings plan r)) e
      ∙ flat_map_twice owners_of pair (tab suc (party_count plan))
      ∙ blocks_of (3 * plan.t) 0 (party_count plan) (λ i. flat_map owners_of (pair i)) suc
      (λ k l. let q : k ≡ 0 + k = omega arith in pair-owners (suc k) ∙ ap (λ (m : ℕ). replicate (3 * plan.t) (suc m)) q)

  -- ---- at a gate
  module _ (xs cs : List ℕ) (tf : List (ℕ → ℕ)) (g : ℕ) (x : Gate) (is : Is plan g x) where
    here : Before
    here = before_gate plan xs cs tf g

    gates-split : plan.gates ≡ take g plan.gates ++ (x ∷ drop (suc g) plan.gates)
    gates-split = split_at plan.gates g (Input 0) is.0 ∙ ap (λ (y : Gate). take g plan.gates ++ (y ∷ drop (suc g) plan.gates)) is.1

    lists-split : (f : Gate → List ℕ) → flat_map f plan.gates ≡ flat_map f (take g plan.gates) ++ (f x ++ flat_map f (drop (suc g) plan.gates))
    unfolding flat_map
    lists-split f = ap (flat_map f) gates-split ∙ flat_map-append f (take g plan.gates) (x ∷ drop (suc g) plan.gates)

    coins-left : (i : ℕ) → drop (count_where (eqb i) (flat_map (coin_owners_at plan) (take g plan.gates))) (own_coins plan i cs)
        ≡ own_of i (coin_owners_at plan x) here.coins ++ own_of i (flat_map (coin_owners_at plan) (drop (suc g) plan.gates)) (drop (length (coin_owners_at plan x)) here.coins)
    unfolding own_coins coin_owners here
    coins-left i =
        let os : List ℕ = flat_map (coin_owners_at plan) (take g plan.gates) in
        let qs : List ℕ = flat_map (coin_owners_at plan) (drop (suc g) plan.gates) in
        ap (λ (l : List ℕ). drop (count_where (eqb i) os) (own_of i l cs)) (lists-split (coin_owners_at plan))
        ∙ own_at i os (coin_owners_at plan x) qs cs
        ∙ ap (λ (l : List ℕ). own_of i (coin_owners_at plan x) l ++ own_of i qs (drop (length (coin_owners_at plan x)) l)) (sym (before-coins plan xs cs tf g))

    -- of a party's own coins, k of those at gate g, after `skip` of them
    pub coins_at_lem : (i skip k : ℕ) (block : List ℕ) → own_of i (coin_owners_at plan x) (before_gate plan xs cs tf g).coins ≡ block → skip + k ≤ length block
        → coins_at plan i g skip k (own_coins plan i cs) ≡ take k (drop skip block)
    unfolding coins_at here
    coins_at_lem i skip k block e l =
        let c : ℕ = count_where (eqb i) (flat_map (coin_owners_at plan) (take g plan.gates)) in
        let rest : List ℕ = own_of i (flat_map (coin_owners_at plan) (drop (suc g) plan.gates)) (drop (length (coin_owners_at plan x)) here.coins) in
        ap (take k)
        (sym (drop-drop skip c (own_coins plan i cs))
        ∙ ap (drop skip) (coins-left i ∙ ap (λ (b : List ℕ). b ++ rest) e)
        ∙ drop-append-le skip block rest (omega arith))
        ∙ take-append-le k (drop skip block) rest (omega (arith, length-drop skip block))

    -- of a party's own inputs, the first at gate g
    pub input_at_lem : (i v : ℕ) → own_of i (input_owners_at plan x) (before_gate plan xs cs tf g).inputs ≡ v ∷ [] → input_at plan i g (own_inputs plan i xs) ≡ v
    unfolding input_at own_inputs input_owners
    input_at_lem i v e =
        let os : List ℕ = flat_map (input_owners_at plan) (take g plan.gates) in
        let qs : List ℕ = flat_map (input_owners_at plan) (drop (suc g) plan.gates) in
        let z : count_where (eqb i) os + 0 ≡ count_where (eqb i) os = omega arith in
        ap (λ (k : ℕ). get_or (own_of i (flat_map (input_owners_at plan) plan.gates) xs) k 0) (sym z)
        ∙ sym (get_or-drop (count_where (eqb i) os) (own_of i (flat_map (input_owners_at plan) plan.gates) xs) 0 0)
        ∙ ap (λ (l : List ℕ). get_or (drop (count_where (eqb i) os) (own_of i l xs)) 0 0) (lists-split (input_owners_at plan))
        ∙ ap (λ (l : List ℕ). get_or l 0 0) (own_at i os (input_owners_at plan x) qs xs)
        ∙ ap (λ (l : List ℕ). get_or (l ++ own_of i qs (drop (length (input_owners_at plan x)) (drop (length os) xs))) 0 0)
        (ap (own_of i (input_owners_at plan x)) (sym (before-inputs plan xs cs tf g)) ∙ e)

    module _ (full : length cs ≡ coin_count plan) where
      pub coins-enough : length (coin_owners_at plan x) ≤ length (before_gate plan xs cs tf g).coins
      unfolding coin_count coin_owners
      coins-enough =
          let os : List ℕ = flat_map (coin_owners_at plan) (take g plan.gates) in
          let qs : List ℕ = flat_map (coin_owners_at plan) (drop (suc g) plan.gates) in
          let e : length cs ≡ length os + (length (coin_owners_at plan x) + length qs) =
          full ∙ ap length (lists-split (coin_owners_at plan)) ∙ length-append os (coin_owners_at plan x ++ qs) ∙ ap (λ (k : ℕ). length os + k) (length-append (coin_owners_at plan x) qs) in
          omega (arith, ap length (before-coins plan xs cs tf g), length-drop (length os) cs)

      -- party suc j's block among blocks of c coins
      block_at : (c n j skip k : ℕ) → coin_owners_at plan x ≡ blocks c 0 n → j < n → skip + k ≤ c
          → coins_at plan (suc j) g skip k (own_coins plan (suc j) cs) ≡ take k (drop skip (take c (drop (c * j) (before_gate plan xs cs tf g).coins)))
      block_at c n j skip k e l h =
          let left : List ℕ = (before_gate plan xs cs tf g).coins in
          let many : c * n ≤ length left = omega (arith, coins-enough, ap length e, length_blocks c 0 n) in
          let q : n ≡ j + suc (n - suc j) = omega arith in
          let m : c * n ≡ c * j + (c + c * (n - suc j)) = ap (λ (r : ℕ). c * r) q ∙ mul-add c j (suc (n - suc j)) ∙ ap (λ (r : ℕ). c * j + r) (mul-suc c (n - suc j) ∙ omega arith) in
          coins_at_lem (suc j) skip k (take c (drop (c * j) left))
          (ap (λ (o : List ℕ). own_of (suc j) o left) e ∙ own_block c n j left l many)
          (omega (arith, length-take-le c (drop (c * j) left) (omega (arith, length-drop (c * j) left))))

      pub first_coins : (n j : ℕ) → coin_owners_at plan x ≡ blocks plan.t 0 n → j < n
          → coins_at plan (suc j) g 0 plan.t (own_coins plan (suc j) cs) ≡ take plan.t (drop (plan.t * j) (before_gate plan xs cs tf g).coins)
      first_coins n j e l =
          block_at plan.t n j 0 plan.t e l (omega arith) ∙ take-take plan.t plan.t (drop (plan.t * j) (before_gate plan xs cs tf g).coins) (omega arith)

      pub zero-coins : (n j : ℕ) → coin_owners_at plan x ≡ blocks (3 * plan.t) 0 n → j < n
          → coins_at plan (suc j) g 0 (plan.t + plan.t) (own_coins plan (suc j) cs) ≡ take (plan.t + plan.t) (drop (3 * plan.t * j) (before_gate plan xs cs tf g).coins)
      zero-coins n j e l =
          block_at (3 * plan.t) n j 0 (plan.t + plan.t) e l (omega arith)
          ∙ take-take (plan.t + plan.t) (3 * plan.t) (drop (3 * plan.t * j) (before_gate plan xs cs tf g).coins) (omega arith)

      pub masked-coins : (n j : ℕ) → coin_owners_at plan x ≡ blocks (3 * plan.t) 0 n → j < n
          → coins_at plan (suc j) g (plan.t + plan.t) plan.t (own_coins plan (suc j) cs) ≡ take plan.t (drop (3 * plan.t * j + (plan.t + plan.t)) (before_gate plan xs cs tf g).coins)
      masked-coins n j e l =
          let left : List ℕ = (before_gate plan xs cs tf g).coins in
          let q : 3 * plan.t ≡ plan.t + plan.t + plan.t = omega arith in
          block_at (3 * plan.t) n j (plan.t + plan.t) plan.t e l (omega arith)
          ∙ ap (λ (k : ℕ). take plan.t (drop (plan.t + plan.t) (take k (drop (3 * plan.t * j) left)))) q
          ∙ take_inner (plan.t + plan.t) plan.t (drop (3 * plan.t * j) left)
          ∙ ap (take plan.t) (drop-drop (plan.t + plan.t) (3 * plan.t * j) left)

  -- at a party's own input
  module _ (xs cs : List ℕ) (tf : List (ℕ → ℕ)) (g i : ℕ) (is : Is plan g (Input i)) where
    pub input_coins : length cs ≡ coin_count plan → coins_at plan i g 0 plan.t (own_coins plan i cs) ≡ take plan.t (before_gate plan xs cs tf g).coins
    input_coins full =
        let left : List ℕ = (before_gate plan xs cs tf g).coins in
        let many : plan.t ≤ length left = omega (arith, coins-enough xs cs tf g (Input i) is full, ap length (input-owners i), length-replicate {A = ℕ} plan.t i) in
        coins_at_lem xs cs tf g (Input i) is i 0 plan.t (take plan.t left)
        (ap (λ (o : List ℕ). own_of i o left) (input-owners i) ∙ own_same i plan.t left many)
        (omega (arith, length-take-le plan.t left many))
        ∙ take-take plan.t plan.t left (omega arith)

    pub input-figure : input_at plan i g (own_inputs plan i xs) ≡ get_or (before_gate plan xs cs tf g).inputs 0 0
    unfolding input_owners_at
    input-figure = input_at_lem xs cs tf g (Input i) is i (get_or (before_gate plan xs cs tf g).inputs 0 0) (own-one i (before_gate plan xs cs tf g).inputs)

  pub input-draw : (xs cs : List ℕ) (tf : List (ℕ → ℕ)) (g j : ℕ) → Is plan g Random → j < party_count plan
      → input_at plan (suc j) g (own_inputs plan (suc j) xs) ≡ get_or (before_gate plan xs cs tf g).inputs j 0
  unfolding input_owners_at parties
  input-draw xs cs tf g j is l =
      input_at_lem xs cs tf g Random is (suc j) (get_or (before_gate plan xs cs tf g).inputs j 0) (own_each (party_count plan) j (before_gate plan xs cs tf g).inputs l)

-- ---- the pieces of a gate's dealings
sharings-tab : (c n : ℕ) (f : ℕ → Dealing) → ((r : ℕ) → (f r).coins ≡ c) → (ss cs : List ℕ) → sharings (tab f n) ss cs ≡ tab (λ r. get_or ss r 0 ∷ take c (drop (c * r) cs)) n
unfolding sharings tab
sharings-tab c zero f h ss cs = refl
sharings-tab c (suc n) f h ss cs =
    ap₂ (λ (l : List ℕ) (m : List (List ℕ)). (get_or ss 0 0 ∷ l) ∷ m)
    (ap₂ (λ (k m : ℕ). take k (drop m cs)) (h 0) (sym (mul-zero c)))
    (ap (λ (k : ℕ). sharings (tab (λ r. f (suc r)) n) (drop 1 ss) (drop k cs)) (h 0)
    ∙ sharings-tab c n (λ r. f (suc r)) (λ r. h (suc r)) (drop 1 ss) (drop c cs)
    ∙ tab-ext (λ r. get_or (drop 1 ss) r 0 ∷ take c (drop (c * r) (drop c cs))) (λ r. get_or ss (suc r) 0 ∷ take c (drop (c * suc r) cs)) n
    (λ r l.
    let e : 1 + r ≡ suc r = omega arith in
    let q : c + c * r ≡ c * suc r = omega (arith, mul-suc c r) in
    ap₂ (λ (v : ℕ) (m : List ℕ). v ∷ take c m) (get_or-drop 1 ss r 0 ∙ ap (λ (k : ℕ). get_or ss k 0) e) (drop-drop (c * r) c cs ∙ ap (λ (k : ℕ). drop k cs) q)))

-- of rows of two, the second of row r
entry_by : (rows : ℕ → List (List ℕ)) (f : List ℕ → ℕ) (r n : ℕ) → ((q : ℕ) → length (rows q) ≡ 2) → r < n
    → get_or (flat_map (λ q. map f (rows q)) (tab (λ q. q) n)) (2 * r + 1) 0 ≡ get_or (map f (rows r)) 1 0
entry_by rows f r n h l =
    get_d_rows (λ q. map f (rows q)) 2 (tab (λ q. q) n) (all-every (λ q. length (map f (rows q)) ≡ 2) (tab (λ q. q) n) (λ q. length-map f (rows q) ∙ h q)) r 1 0
    (omega (arith, length-tab (λ q. q) n)) (omega arith)
    ∙ ap (λ (q : ℕ). get_or (map f (rows q)) 1 0) (get_or-tab (λ q. q) n r 0 l)

module _ (plan : Plan) where
  first_pieces : (n : ℕ) (ss cs : List ℕ) (z : ℕ)
      → map (λ f. eval plan.p f z) (sharings (first_dealings plan n) ss cs) ≡ tab (λ r. eval plan.p (get_or ss r 0 ∷ take plan.t (drop (plan.t * r) cs)) z) n
  unfolding first_dealings
  first_pieces n ss cs z =
      ap (map (λ f. eval plan.p f z)) (sharings-tab plan.t n (λ i. record { dealer = suc i; coins = plan.t }) (λ r. refl) ss cs)
      ∙ tab-map (λ f. eval plan.p f z) (λ r. get_or ss r 0 ∷ take plan.t (drop (plan.t * r) cs)) n

  pub pieces-reduction : (a b z : ℕ) (s : Before) → plan.rule ≡ Reduction
      → pieces_at plan (Multiply a b) s z
      ≡ tab (λ r. eval plan.p (get_or (multiply_dealt plan Reduction s a b) r 0 ∷ take plan.t (drop (plan.t * r) s.coins)) z) (dealer_count plan)
  unfolding pieces_at dealings_at dealt_at multiply_dealings
  pieces-reduction a b z s e =
      ap (λ (r : Rule). map (λ f. eval plan.p f z) (sharings (multiply_dealings plan r) (multiply_dealt plan r s a b) s.coins)) e
      ∙ first_pieces (dealer_count plan) (multiply_dealt plan Reduction s a b) s.coins z

  pub pieces-random : (z : ℕ) (s : Before)
      → pieces_at plan Random s z ≡ tab (λ r. eval plan.p (get_or s.inputs r 0 ∷ take plan.t (drop (plan.t * r) s.coins)) z) (party_count plan)
  unfolding pieces_at dealings_at dealt_at
  pieces-random z s =
      first_pieces (party_count plan) (take (party_count plan) s.inputs) s.coins z
      ∙ tab-ext (λ r. eval plan.p (get_or (take (party_count plan) s.inputs) r 0 ∷ take plan.t (drop (plan.t * r) s.coins)) z)
      (λ r. eval plan.p (get_or s.inputs r 0 ∷ take plan.t (drop (plan.t * r) s.coins)) z) (party_count plan)
      (λ r l. ap (λ (v : ℕ). eval plan.p (v ∷ take plan.t (drop (plan.t * r) s.coins)) z) (get_or-take (party_count plan) s.inputs r 0 l))

  -- two polynomials for each party
  two : List ℕ → List ℕ → ℕ → List (List ℕ)
  two ss cs r = (get_or ss (2 * r) 0 ∷ take (plan.t + plan.t) (drop (3 * plan.t * r) cs)) ∷ (get_or ss (2 * r + 1) 0 ∷ take plan.t (drop (3 * plan.t * r + (plan.t + plan.t)) cs)) ∷ []

  two-next : (ss cs : List ℕ) (r : ℕ) → two (drop 1 (drop 1 ss)) (drop plan.t (drop (plan.t + plan.t) cs)) r ≡ two ss cs (suc r)
  unfolding two
  two-next ss cs r =
      let t2 : ℕ = plan.t + plan.t in
      let a : 1 + (1 + 2 * r) ≡ 2 * suc r = omega (arith, mul-suc 2 r) in
      let b : 1 + (1 + (2 * r + 1)) ≡ 2 * suc r + 1 = omega (arith, mul-suc 2 r) in
      let c : t2 + (plan.t + 3 * plan.t * r) ≡ 3 * plan.t * suc r = omega (arith, mul-suc (3 * plan.t) r) in
      let d : t2 + (plan.t + (3 * plan.t * r + t2)) ≡ 3 * plan.t * suc r + t2 = omega (arith, mul-suc (3 * plan.t) r) in
      ap₂ (λ (u v : List ℕ). u ∷ v ∷ [])
      (ap₂ (λ (v : ℕ) (l : List ℕ). v ∷ take t2 l) (at 1 1 ss (2 * r) ∙ ap (λ (k : ℕ). get_or ss k 0) a) (thrice plan.t t2 (3 * plan.t * r) ∙ ap (λ (k : ℕ). drop k cs) c))
      (ap₂ (λ (v : ℕ) (l : List ℕ). v ∷ take plan.t l) (at 1 1 ss (2 * r + 1) ∙ ap (λ (k : ℕ). get_or ss k 0) b) (thrice plan.t t2 (3 * plan.t * r + t2) ∙ ap (λ (k : ℕ). drop k cs) d))
    where
      at : (m n : ℕ) (l : List ℕ) (k : ℕ) → get_or (drop m (drop n l)) k 0 ≡ get_or l (n + (m + k)) 0
      at m n l k = get_or-drop m (drop n l) k 0 ∙ get_or-drop n l (m + k) 0

      thrice : (m n k : ℕ) → drop k (drop m (drop n cs)) ≡ drop (n + (m + k)) cs
      thrice m n k = drop-drop k m (drop n cs) ∙ drop-drop (m + k) n cs

  two-first : (ss cs : List ℕ) → two ss cs 0 ≡ (get_or ss 0 0 ∷ take (plan.t + plan.t) cs) ∷ (get_or (drop 1 ss) 0 0 ∷ take plan.t (drop (plan.t + plan.t) cs)) ∷ []
  unfolding two
  two-first ss cs =
      let z : 3 * plan.t * 0 ≡ 0 = mul-zero (3 * plan.t) in
      let y : 3 * plan.t * 0 + (plan.t + plan.t) ≡ plan.t + plan.t = omega (arith, mul-zero (3 * plan.t)) in
      ap₂ (λ (k : ℕ) (m : ℕ × ℕ). (get_or ss 0 0 ∷ take (plan.t + plan.t) (drop k cs)) ∷ (m.0 ∷ take plan.t (drop m.1 cs)) ∷ []) z
      (ap₂ (λ (u v : ℕ). (u, v)) (sym (get_or-drop 1 ss 0 0)) y)

  sharings-pairs : (n : ℕ) (f : ℕ → ℕ) (ss cs : List ℕ) → sharings (flat_map (pair plan) (tab f n)) ss cs ≡ flat_map (two ss cs) (tab (λ r. r) n)
  unfolding sharings tab flat_map pair
  sharings-pairs zero f ss cs = refl
  sharings-pairs (suc n) f ss cs =
      ap (λ (l : List (List ℕ)). (get_or ss 0 0 ∷ take (plan.t + plan.t) cs) ∷ (get_or (drop 1 ss) 0 0 ∷ take plan.t (drop (plan.t + plan.t) cs)) ∷ l)
      (sharings-pairs n (λ k. f (suc k)) (drop 1 (drop 1 ss)) (drop plan.t (drop (plan.t + plan.t) cs))
      ∙ flat_map-tabs (two (drop 1 (drop 1 ss)) (drop plan.t (drop (plan.t + plan.t) cs))) (two ss cs) (λ r. r) (λ r. suc r) n (λ k l. two-next ss cs k))
      ∙ ap (λ (l : List (List ℕ)). l ++ flat_map (two ss cs) (tab (λ r. suc r) n)) (sym (two-first ss cs))

  dealt-masked : (a b : ℕ) (s : Before) (r : ℕ) → r < party_count plan → get_or (multiply_dealt plan Truncation s a b) (2 * r + 1) 0 ≡ masked_at plan s a b (point_of plan (suc r))
  unfolding multiply_dealt point_of party_count
  dealt-masked a b s r l =
      let e : suc r - 1 ≡ r = omega arith in
      get_d_rows (λ x. 0 ∷ masked_at plan s a b x ∷ []) 2 plan.points (all-every (λ x. length (0 ∷ masked_at plan s a b x ∷ []) ≡ 2) plan.points (λ x. refl)) r 1 0 l (omega arith)
      ∙ ap (λ (k : ℕ). masked_at plan s a b (get_or plan.points k 0)) (sym e)

  two-length : (ss cs : List ℕ) (r : ℕ) → length (two ss cs r) ≡ 2
  unfolding two
  two-length ss cs r = refl

  -- the pieces of the dealings of masked shares
  pub pieces-masked : (a b z : ℕ) (s : Before) → plan.rule ≡ Truncation
      → from_each (party_count plan) 2 1 (pieces_at plan (Multiply a b) s z)
      ≡ tab (λ r. eval plan.p (masked_at plan s a b (point_of plan (suc r)) ∷ take plan.t (drop (3 * plan.t * r + (plan.t + plan.t)) s.coins)) z) (party_count plan)
  unfolding from_each pieces_at dealings_at dealt_at multiply_dealings parties pair two
  pieces-masked a b z s e =
      let n : ℕ = party_count plan in
      let ss : List ℕ = multiply_dealt plan Truncation s a b in
      let row : ℕ → List ℕ = λ r. map (λ f. eval plan.p f z) (two ss s.coins r) in
      let all : map (λ f. eval plan.p f z) (sharings (multiply_dealings plan plan.rule) (multiply_dealt plan plan.rule s a b) s.coins) ≡ flat_map row (tab (λ r. r) n) =
      ap (λ (r : Rule). map (λ f. eval plan.p f z) (sharings (multiply_dealings plan r) (multiply_dealt plan r s a b) s.coins)) e
      ∙ ap (map (λ f. eval plan.p f z)) (sharings-pairs n suc ss s.coins)
      ∙ map-flat_map (λ f. eval plan.p f z) (two ss s.coins) (tab (λ r. r) n) in
      ap (λ (l : List ℕ). tab (λ r. get_or l (2 * r + 1) 0) n) all
      ∙ tab-ext (λ r. get_or (flat_map row (tab (λ r. r) n)) (2 * r + 1) 0)
      (λ r. eval plan.p (masked_at plan s a b (point_of plan (suc r)) ∷ take plan.t (drop (3 * plan.t * r + (plan.t + plan.t)) s.coins)) z) n
      (λ r l.
      entry_by (λ q. two ss s.coins q) (λ f. eval plan.p f z) r n (λ q. two-length ss s.coins q) l
      ∙ ap (λ (v : ℕ). eval plan.p (v ∷ take plan.t (drop (3 * plan.t * r + (plan.t + plan.t)) s.coins)) z) (dealt-masked a b s r l))
