-- The table's gates of kinds 5 (by truncation), 6 and 7 as the laws of the steps have them, party by party.
--     zeros_of, masks_of, draw_of, draw_coins     a party's coins and draw at a gate
--     masked-as, pieces-as, masks-as, truncated-as, reduced-as
--     drawn-as, spent-as
-- Assumes nothing.
use mathlib.Core.Path.{◌≡◌, refl, sym, ap, ap₂, ◌∙◌, fun_ext}
use mathlib.Core.List.{List, [], ◌∷◌, map, flat_map}
use Prim.Native.Nat.{ℕ, suc, ◌+◌, ◌-◌, ◌*◌}
use native.Mathlib.Omega.{arith}
use lib.ListN.{length, take, drop, get_or}
use Rattle.numbers.specs.Tables.{tab}
use Rattle.numbers.proofs.Tables.{tab-ext, tab-map, is-tab, list-tab}
use Rattle.field.specs.Mod.{add, mul, sub}
use Rattle.field.proofs.Solve.{#, quote, solve}
use Rattle.sharing_laws.specs.Poly.{eval}
use Rattle.sharing_laws.specs.Interp.{dot}
use Rattle.sharing_laws.specs.Sharing.{opened}
use Rattle.seat_messages.specs.Messages.{from_each, spent_share}
use Rattle.sharing_laws.proofs.Lists.{flat_map-tabs, map-flat_map}
use Rattle.sharing_laws.proofs.Steps.{sent_at, masked_by, piece_by, reduced_at, reduced_by, drawn_at, opened_less, spent_by, spent_at}
use Rattle.sharing_laws.proofs.Steps as steps
use Rattle.plan.specs.declared.Gate.TheVariants.{Multiply, Random, Spend}
use Rattle.plan.specs.declared.Rule.{Rule}
use Rattle.plan.specs.declared.Rule.TheVariants.{Truncation}
use Rattle.sharing_laws.specs.Basis.{sum_all}
use Rattle.plan.specs.Plans.{Plan, party_count, parties, point_of, first_dealings, multiply_dealings, dealings_at}
use Rattle.run_protocol.specs.Shares.{Before, wire_at, product_of, zero_pieces, masked_at, multiply_dealt, dealt_at, sharings, pieces_at, truncated_at, multiply_share, difference_at, difference_of, gate_share}
use Rattle.run_protocol.proofs.Dealings.{sum-tab, shared_first, shared_pairs, seconds}
use Rattle.sharing_laws.specs.Basis.{row}

-- ---- party i's coins at a multiply by truncation, cs being the coins from that gate on
unfoldable pub zeros_of : ℕ → List ℕ → ℕ → List ℕ
zeros_of t cs i = take (t + t) (drop (3 * t * (i - 1)) cs)

unfoldable pub masks_of : ℕ → List ℕ → ℕ → List ℕ
masks_of t cs i = take t (drop (3 * t * (i - 1) + (t + t)) cs)

-- its draw and its coins at a random wire
unfoldable pub draw_of : List ℕ → ℕ → ℕ
draw_of xs i = get_or xs (i - 1) 0

unfoldable pub draw_coins : ℕ → List ℕ → ℕ → List ℕ
draw_coins t cs i = take t (drop (t * (i - 1)) cs)

pub before-suc : (j : ℕ) → j ≡ suc j - 1
before-suc j = omega arith

module _ (plan : Plan) where
  abbrev p : ℕ
  p = plan.p

  abbrev t : ℕ
  t = plan.t

  abbrev n : ℕ
  n = party_count plan

  pub parties_points : plan.points ≡ map (point_of plan) (parties plan)
  unfolding parties party_count point_of
  parties_points =
      is-tab (λ i. get_or plan.points (suc i - 1) 0) (length plan.points) plan.points 0 refl (λ i l. ap (λ (k : ℕ). get_or plan.points k 0) (before-suc i))
      ∙ sym (tab-map (point_of plan) suc (length plan.points))

  points-tab : plan.points ≡ tab (λ j. get_or plan.points j 0) n
  unfolding party_count
  points-tab = list-tab plan.points 0

  -- ---- kind 5 by truncation
  module _ (s : Before) (a b : ℕ) where
    abbrev A : ℕ → ℕ
    A = wire_at s.env a

    abbrev B : ℕ → ℕ
    B = wire_at s.env b

    pub masked-as : (x : ℕ) → masked_at plan s a b x ≡ masked_by p (parties plan) A B (zeros_of t s.coins) x
    unfolding masked_at masked_by steps.masked_at product_of zero_pieces parties zeros_of
    masked-as x =
        ap (add p (mul p (A x) (B x)))
        (sum-tab p (λ i. eval p (0 ∷ take (t + t) (drop (3 * t * i) s.coins)) x) suc (λ i. eval p (0 ∷ take (t + t) (drop (3 * t * (i - 1)) s.coins)) x) n
        (λ j. ap (λ (k : ℕ). eval p (0 ∷ take (t + t) (drop (3 * t * k) s.coins)) x) (before-suc j)))

    -- the pieces of the dealings, party by party
    module _ (by : plan.rule ≡ Truncation) where
      abbrev piece : ℕ → ℕ → ℕ
      piece = piece_by p (parties plan) (point_of plan) A B (zeros_of t s.coins) (masks_of t s.coins)

      pub pieces-as : (y : ℕ) → pieces_at plan (Multiply a b) s y ≡ flat_map (λ j. eval p (0 ∷ zeros_of t s.coins (suc j)) y ∷ piece (suc j) y ∷ []) (tab (λ j. j) n)
      unfolding pieces_at dealings_at dealt_at multiply_dealings multiply_dealt parties piece_by point_of zeros_of masks_of
      pieces-as y =
          ap (λ (r : Rule). map (λ f. eval p f y) (sharings (multiply_dealings plan r) (multiply_dealt plan r s a b) s.coins)) by
          ∙ ap (λ (xs : List ℕ). map (λ f. eval p f y) (sharings (multiply_dealings plan Truncation) (flat_map (λ x. 0 ∷ masked_at plan s a b x ∷ []) xs) s.coins)) points-tab
          ∙ ap (map (λ f. eval p f y)) (shared_pairs t suc (masked_at plan s a b) (λ j. get_or plan.points j 0) n s.coins)
          ∙ map-flat_map (λ f. eval p f y)
          (λ j. (0 ∷ take (t + t) (drop (3 * t * j) s.coins)) ∷ (masked_at plan s a b (get_or plan.points j 0) ∷ take t (drop (3 * t * j + (t + t)) s.coins)) ∷ [])
          (tab (λ j. j) n)
          ∙ flat_map-tabs
          (λ j. eval p (0 ∷ take (t + t) (drop (3 * t * j) s.coins)) y ∷ eval p (masked_at plan s a b (get_or plan.points j 0) ∷ take t (drop (3 * t * j + (t + t)) s.coins)) y ∷ [])
          (λ j. eval p (0 ∷ zeros_of t s.coins (suc j)) y ∷ piece (suc j) y ∷ []) (λ j. j) (λ j. j) n
          (λ j l.
          ap₂ (λ (u v : ℕ). u ∷ v ∷ []) (ap (λ (k : ℕ). eval p (0 ∷ take (t + t) (drop (3 * t * k) s.coins)) y) (before-suc j))
          (ap (λ (k : ℕ). eval p (masked_at plan s a b (get_or plan.points k 0) ∷ take t (drop (3 * t * k + (t + t)) s.coins)) y) (before-suc j)
          ∙ ap (λ (v : ℕ). eval p (v ∷ take t (drop (3 * t * (suc j - 1) + (t + t)) s.coins)) y) (masked-as (get_or plan.points (suc j - 1) 0))))

      pub masks-as : (y : ℕ) → from_each n 2 1 (pieces_at plan (Multiply a b) s y) ≡ map (λ i. piece i y) (parties plan)
      unfolding parties
      masks-as y =
          ap (from_each n 2 1) (pieces-as y) ∙ seconds (λ j. eval p (0 ∷ zeros_of t s.coins (suc j)) y) (λ j. piece (suc j) y) n
          ∙ sym (tab-map (λ i. piece i y) suc n)

      pub truncated-as : (z y : ℕ) → truncated_at plan (Multiply a b) s z y ≡ sent_at p t plan.points (parties plan) piece z y
      unfolding truncated_at sent_at
      truncated-as z y = ap (dot p (row p t plan.points z)) (masks-as y)

      pub reduced-as :
          (x : ℕ) → gate_share plan (Multiply a b) s x
          ≡ reduced_by p t plan.points (parties plan) (point_of plan) A B (zeros_of t s.coins) (masks_of t s.coins) x
      unfolding gate_share multiply_share reduced_by reduced_at
      reduced-as x =
          ap (λ (r : Rule). multiply_share plan r (Multiply a b) s x) by
          ∙ ap (λ (h : ℕ → ℕ). opened p t plan.points (map h plan.points)) (fun_ext (truncated-as x))

  -- ---- kind 6
  -- the pieces, party by party
  pub draws-as :
      (s : Before) (x : ℕ)
      → pieces_at plan Random s x ≡ tab (λ j. eval p (draw_of (take n s.inputs) (suc j) ∷ draw_coins t s.coins (suc j)) x) n
  unfolding pieces_at dealings_at dealt_at first_dealings draw_of draw_coins
  draws-as s x =
      ap (map (λ f. eval p f x)) (shared_first t suc n (take n s.inputs) s.coins)
      ∙ tab-map (λ f. eval p f x) (λ j. get_or (take n s.inputs) j 0 ∷ take t (drop (t * j) s.coins)) n
      ∙ tab-ext (λ j. eval p (get_or (take n s.inputs) j 0 ∷ take t (drop (t * j) s.coins)) x)
      (λ j. eval p (get_or (take n s.inputs) (suc j - 1) 0 ∷ take t (drop (t * (suc j - 1)) s.coins)) x) n
      (λ j l. ap (λ (k : ℕ). eval p (get_or (take n s.inputs) k 0 ∷ take t (drop (t * k) s.coins)) x) (before-suc j))

  pub drawn-as : (s : Before) (x : ℕ) → gate_share plan Random s x ≡ drawn_at p (parties plan) (draw_of (take n s.inputs)) (draw_coins t s.coins) x
  unfolding gate_share drawn_at parties
  drawn-as s x =
      ap (sum_all p) (draws-as s x)
      ∙ sum-tab p (λ j. eval p (draw_of (take n s.inputs) (suc j) ∷ draw_coins t s.coins (suc j)) x) suc
      (λ i. eval p (draw_of (take n s.inputs) i ∷ draw_coins t s.coins i) x) n (λ j. refl)

  -- ---- kind 7
  pub spent-as :
      (s : Before) (a b x : ℕ)
      → gate_share plan (Spend a b) s x
      ≡ spent_at p t plan.points (wire_at s.env a) (wire_at s.env b) (wire_at s.triples 0) (wire_at s.triples 1) (wire_at s.triples 2) x
  unfolding gate_share spent_share spent_at spent_by opened_less difference_of difference_at
  spent-as s a b x =
      let d : ℕ = difference_of plan s a 0 in
      let e : ℕ = difference_of plan s b 1 in
      ap (λ (m : ℕ). sub p m (mul p d e))
      (solve p
      (search (quote, # (wire_at s.triples 2 x), # (wire_at s.env a x), # (wire_at s.env b x), # (difference_of plan s a 0), # (difference_of plan s b 1)) depth 9)
      (omega arith))
