-- For exactly t members, the pieces of dealings at the members' points determine the coins.
--     coins-determined      one dealing of one value
--     blocks-determined     dealings one after the other
--     coins-same            all gates of a plan of the rule of versions 1 to 3
-- Assumes nothing.
use mathlib.Core.Path.{◌≡◌, refl, sym, ap, ap₂, subst, fun_ext, ◌∙◌}
use mathlib.Core.Logic.{◌≢◌}
use mathlib.Core.List.{List, [], ◌∷◌, ◌++◌, map, flat_map, head-eq_of_cons-eq, tail-eq_of_cons-eq, Memᴰ}
use Prim.Native.Nat.{ℕ, zero, suc, ◌%◌, ◌≤◌, ◌<◌}
use native.Mathlib.Nat.{zero-mod}
use native.Mathlib.Omega.{arith}
use lib.ListN.{length, take, drop, get_or, length-map, length-append, length-drop, take-append-drop, drop_of_length-le}
use lib.Seq.{length-take-le, take-add}
use Rattle.numbers.specs.Tables.{tab}
use Rattle.field.specs.Mod.{add, mul, sub}
use Rattle.field.specs.Prime.{Prime}
use Rattle.field.proofs.Solve.{Canon, #, quote, solve}
use Rattle.field.proofs.Inverse.{pos}
use Rattle.sharing_laws.specs.Poly.{eval, sum_of, scale}
use Rattle.sharing_laws.specs.Interp.{All, Distinct, weights, dot}
use Rattle.sharing_laws.specs.Sharing.{opened}
use Rattle.sharing_laws.specs.Basis.{sum_all}
use Rattle.sharing_laws.proofs.Alls.{all_take, all_drop}
use Rattle.sharing_laws.proofs.Cuts.{less, less-nothing, zero-less}
use Rattle.plan.specs.declared.Gate.{Gate}
use Rattle.plan.specs.declared.Gate.TheVariants.{Input, Add, Scale, Offset, Multiply, Random, Spend}
use Rattle.plan.specs.declared.Rule.{Rule}
use Rattle.plan.specs.declared.Rule.TheVariants.{Reduction}
use Rattle.plan.specs.declared.Dealing.{Dealing}
use Rattle.plan.specs.Plans.{Plan, party_count, dealer_count, dealer_points, point_of, first_dealings, multiply_dealings, dealings_at, coin_owners_at}
use Rattle.seat_messages.specs.Messages.{spent_share}
use Rattle.run_protocol.specs.Ideal.{inputs_taken}
use Rattle.run_protocol.specs.Shares.{Before, wire_at, product_of, multiply_dealt, dealt_at, sharings, pieces_at, multiply_share, difference_at, difference_of, gate_share, triples_taken, past, past_all}
use Rattle.match_privacy.proofs.Blocks.{total, owners_of, length_owners, sharings_prefix}

-- ---- one dealing
away : (p : ℕ) (cs : List ℕ) → All (λ c. c % p ≢ 0) cs → All (λ c. c % p ≢ 0 % p) cs
away p [] nz = tt
away p (c ∷ cs) nz = (λ e. nz.0 (e ∙ zero-mod p), away p cs nz.1)

eval_first : (p a : ℕ) → 0 < p → (f : List ℕ) → eval p (a ∷ f) 0 ≡ a % p
unfolding eval
eval_first p a above f = solve p (search (quote, # a, # (eval p f 0))) (omega arith)

module _ {p : ℕ} (prime : Prime p) (xs : List ℕ) (distinct : Distinct p xs) (nonzero : All (λ x. x % p ≢ 0) xs) where
  pub coins-determined :
      (s : ℕ) (c d : List ℕ) → length c ≡ length xs → length d ≡ length xs → All (Canon p) c → All (Canon p) d
      → map (eval p (s ∷ c)) xs ≡ map (eval p (s ∷ d)) xs → c ≡ d
  unfolding less sum_of scale
  coins-determined s c d lc ld cc cd e =
      zero-less prime c d (lc ∙ sym ld) cc cd
      (less-nothing prime (0 ∷ xs) (s ∷ c) (s ∷ d) (away p xs nonzero, distinct) (omega arith) (omega arith)
      (ap₂ ◌∷◌ (eval_first p s (pos prime) c ∙ sym (eval_first p s (pos prime) d)) e)).1

-- ---- lists
map_along : (ms : List ℕ) (f g : ℕ → ℕ) (h : ℕ → ℕ) → ((i : ℕ) → Memᴰ i ms → f (h i) ≡ g (h i)) → map f (map h ms) ≡ map g (map h ms)
map_along [] f g h e = refl
map_along (j ∷ ms) f g h e = ap₂ ◌∷◌ (e j (Memᴰ.head refl)) (map_along ms f g h (λ i m. e i (Memᴰ.tail m)))

-- each dealing has t coins
unfoldable pub EachOf : ℕ → List Dealing → Type 0
EachOf t [] = Unit {0}
EachOf t (d ∷ ds) = (d.coins ≡ t) × EachOf t ds

-- the dealings of a gate under the rule of versions 1 to 3
module _ (plan : Plan) (rule : plan.rule ≡ Reduction) where
  each_first : (u : ℕ → Dealing) (k : ℕ) → ((i : ℕ) → (u i).coins ≡ plan.t) → EachOf plan.t (tab u k)
  unfolding EachOf tab
  each_first u zero h = tt
  each_first u (suc k) h = (h 0, each_first (λ i. u (suc i)) k (λ i. h (suc i)))

  pub each-dealing : (x : Gate) → EachOf plan.t (dealings_at plan x)
  unfolding EachOf dealings_at multiply_dealings first_dealings
  each-dealing (Input s) = (refl, tt)
  each-dealing (Add a b) = tt
  each-dealing (Scale a c) = tt
  each-dealing (Offset a c) = tt
  each-dealing (Multiply a b) =
      subst (λ (r : Rule). EachOf plan.t (multiply_dealings plan r)) (sym rule) (each_first (λ i. record { dealer = suc i; coins = plan.t }) (dealer_count plan) (λ i. refl))
  each-dealing Random = each_first (λ i. record { dealer = suc i; coins = plan.t }) (party_count plan) (λ i. refl)
  each-dealing (Spend a b) = tt

-- ---- a coalition of t members
module _ (plan : Plan) (prime : Prime plan.p) (ms : List ℕ) (exact : length ms ≡ plan.t) (apart : Distinct plan.p (map (point_of plan) ms))
    (nonzero : All (λ x. x % plan.p ≢ 0) (map (point_of plan) ms)) where
  abbrev p : ℕ
  p = plan.p

  abbrev values : List (List ℕ) → ℕ → List ℕ
  values fs i = map (λ f. eval p f (point_of plan i)) fs

  blocks-determined :
      (ds : List Dealing) (ss c d : List ℕ) → EachOf plan.t ds → total ds ≤ length c → total ds ≤ length d → All (Canon p) c → All (Canon p) d
      → ((i : ℕ) → Memᴰ i ms → values (sharings ds ss c) i ≡ values (sharings ds ss d) i) → take (total ds) c ≡ take (total ds) d
  unfolding EachOf total sharings
  blocks-determined [] ss c d each lc ld cc cd e = refl
  blocks-determined (b ∷ ds) ss c d each lc ld cc cd e =
      let k : ℕ = b.coins in
      let first : take b.coins c ≡ take b.coins d =
      coins-determined prime (map (point_of plan) ms) apart nonzero (get_or ss 0 0) (take b.coins c) (take b.coins d)
      (omega (arith, length-take-le b.coins c (omega arith), length-map ms (point_of plan), each.0))
      (omega (arith, length-take-le b.coins d (omega arith), length-map ms (point_of plan), each.0))
      (all_take (Canon p) k c cc) (all_take (Canon p) k d cd)
      (map_along ms (eval p (get_or ss 0 0 ∷ take k c)) (eval p (get_or ss 0 0 ∷ take k d)) (point_of plan) (λ i m. head-eq_of_cons-eq (e i m))) in
      take-add k (total ds) c
      ∙ ap₂ ◌++◌ first
      (blocks-determined ds (drop 1 ss) (drop k c) (drop k d) each.1 (omega (arith, length-drop b.coins c)) (omega (arith, length-drop b.coins d))
      (all_drop (Canon p) k c cc) (all_drop (Canon p) k d cd) (λ i m. tail-eq_of_cons-eq (e i m)))
      ∙ sym (take-add k (total ds) d)

  -- ---- a gate
  module _ (rule : plan.rule ≡ Reduction) where
    taken : (x : Gate) → length (coin_owners_at plan x) ≡ total (dealings_at plan x)
    unfolding coin_owners_at owners_of
    taken x = length_owners (dealings_at plan x)

    -- two runs with the same wires, inputs and triples before a gate
    module _ (s u : Before) (env : s.env ≡ u.env) (inputs : s.inputs ≡ u.inputs) (triples : s.triples ≡ u.triples) where
      dealt-same : (x : Gate) → dealt_at plan x s ≡ dealt_at plan x u
      unfolding dealt_at multiply_dealt
      dealt-same (Input i) = ap (λ (l : List ℕ). get_or l 0 0 ∷ []) inputs
      dealt-same (Add a b) = refl
      dealt-same (Scale a c) = refl
      dealt-same (Offset a c) = refl
      dealt-same (Multiply a b) =
          ap (λ (r : Rule). multiply_dealt plan r s a b) rule ∙ ap (λ (e : List (ℕ → ℕ)). map (product_of plan e a b) (dealer_points plan)) env
          ∙ sym (ap (λ (r : Rule). multiply_dealt plan r u a b) rule)
      dealt-same Random = ap (take (party_count plan)) inputs
      dealt-same (Spend a b) = refl

      module _ (x : Gate) (ls : length (coin_owners_at plan x) ≤ length s.coins) (lu : length (coin_owners_at plan x) ≤ length u.coins) where
        gate-determined :
            All (Canon p) s.coins → All (Canon p) u.coins → ((i : ℕ) → Memᴰ i ms → pieces_at plan x s (point_of plan i) ≡ pieces_at plan x u (point_of plan i))
            → take (length (coin_owners_at plan x)) s.coins ≡ take (length (coin_owners_at plan x)) u.coins
        unfolding pieces_at
        gate-determined cs cu e =
            rw (taken x)
            (blocks-determined (dealings_at plan x) (dealt_at plan x s) s.coins u.coins (each-dealing plan rule x) (omega (arith, taken x)) (omega (arith, taken x)) cs cu
            (λ i m. e i m ∙ ap (λ (ss : List ℕ). values (sharings (dealings_at plan x) ss u.coins) i) (sym (dealt-same x))))

        -- the same coins taken: the same pieces, and the same share everywhere
        module _ (same : take (length (coin_owners_at plan x)) s.coins ≡ take (length (coin_owners_at plan x)) u.coins) where
          own-coins : (c ss : List ℕ) → length (coin_owners_at plan x) ≤ length c → sharings (dealings_at plan x) ss c ≡ sharings (dealings_at plan x) ss (take (length (coin_owners_at plan x)) c)
          own-coins c ss l =
              ap (sharings (dealings_at plan x) ss) (sym (take-append-drop (length (coin_owners_at plan x)) c))
              ∙ sharings_prefix (dealings_at plan x) ss (take (length (coin_owners_at plan x)) c) (drop (length (coin_owners_at plan x)) c)
              (omega (arith, taken x, length-take-le (length (coin_owners_at plan x)) c l))

          pieces-same : (z : ℕ) → pieces_at plan x s z ≡ pieces_at plan x u z
          unfolding pieces_at
          pieces-same z =
              ap (map (λ f. eval p f z))
              (own-coins s.coins (dealt_at plan x s) ls
              ∙ ap₂ (λ (ss c : List ℕ). sharings (dealings_at plan x) ss c) (dealt-same x) same
              ∙ sym (own-coins u.coins (dealt_at plan x u) lu))

      share-same : (x : Gate) → ((z : ℕ) → pieces_at plan x s z ≡ pieces_at plan x u z) → gate_share plan x s ≡ gate_share plan x u
      unfolding gate_share multiply_share pieces_at dealings_at sharings dealt_at difference_of difference_at
      share-same (Input i) e = fun_ext (λ z. head-eq_of_cons-eq (e z))
      share-same (Add a b) e = ap (λ (w : List (ℕ → ℕ)). λ z. add p (wire_at w a z) (wire_at w b z)) env
      share-same (Scale a c) e = ap (λ (w : List (ℕ → ℕ)). λ z. mul p (wire_at w a z) c) env
      share-same (Offset a c) e = ap (λ (w : List (ℕ → ℕ)). λ z. add p (wire_at w a z) c) env
      share-same (Multiply a b) e =
          fun_ext (λ z.
          ap (λ (r : Rule). multiply_share plan r (Multiply a b) s z) rule ∙ ap (dot p (weights p 0 (dealer_points plan))) (e z)
          ∙ sym (ap (λ (r : Rule). multiply_share plan r (Multiply a b) u z) rule))
      share-same Random e = fun_ext (λ z. ap (sum_all p) (e z))
      share-same (Spend a b) e =
          ap₂
          (λ (w t : List (ℕ → ℕ)). λ z.
          spent_share p (wire_at t 2 z) (wire_at w a z) (wire_at w b z) (opened p plan.t plan.points (map (λ x. sub p (wire_at w a x) (wire_at t 0 x)) plan.points))
          (opened p plan.t plan.points (map (λ x. sub p (wire_at w b x) (wire_at t 1 x)) plan.points)))
          env triples

    empty : (l : List ℕ) → length l ≡ 0 → l ≡ []
    empty l e = drop_of_length-le l {i = 0} (omega arith)

    -- ---- all gates
    pub coins-same :
        (gs : List Gate) (s u : Before) → s.env ≡ u.env → s.inputs ≡ u.inputs → s.triples ≡ u.triples
        → length s.coins ≡ length (flat_map (coin_owners_at plan) gs) → length u.coins ≡ length (flat_map (coin_owners_at plan) gs)
        → All (Canon p) s.coins → All (Canon p) u.coins
        → ((k : ℕ) → k < length gs → (i : ℕ) → Memᴰ i ms
        → pieces_at plan (get_or gs k (Input 0)) (past_all plan (take k gs) s) (point_of plan i) ≡ pieces_at plan (get_or gs k (Input 0)) (past_all plan (take k gs) u) (point_of plan i))
        → s.coins ≡ u.coins
    unfolding flat_map past_all past
    coins-same [] s u env inputs triples ls lu cs cu seen = empty s.coins ls ∙ sym (empty u.coins lu)
    coins-same (x ∷ gs) s u env inputs triples ls lu cs cu seen =
        let n : ℕ = length (coin_owners_at plan x) in
        let long = length-append (coin_owners_at plan x) (flat_map (coin_owners_at plan) gs) in
        let room : length (coin_owners_at plan x) ≤ length s.coins = omega (arith, ls, long) in
        let room' : length (coin_owners_at plan x) ≤ length u.coins = omega (arith, lu, long) in
        let first : take (length (coin_owners_at plan x)) s.coins ≡ take (length (coin_owners_at plan x)) u.coins =
        gate-determined s u env inputs triples x room room' cs cu (seen 0 (omega arith)) in
        let share : gate_share plan x s ≡ gate_share plan x u = share-same s u env inputs triples x (pieces-same s u env inputs triples x room room' first) in
        sym (take-append-drop n s.coins)
        ∙ ap₂ ◌++◌ first
        (coins-same gs (past plan x s) (past plan x u) (ap₂ (λ (e : List (ℕ → ℕ)) (h : ℕ → ℕ). e ++ (h ∷ [])) env share) (ap (drop (inputs_taken plan x)) inputs) (ap (drop (triples_taken x)) triples)
        (omega (arith, ls, long, length-drop (length (coin_owners_at plan x)) s.coins)) (omega (arith, lu, long, length-drop (length (coin_owners_at plan x)) u.coins))
        (all_drop (Canon p) n s.coins cs) (all_drop (Canon p) n u.coins cu) (λ k l. seen (suc k) (omega arith)))
        ∙ take-append-drop n u.coins
