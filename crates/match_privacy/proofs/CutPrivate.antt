-- A multiply by truncation with matched coins: the members see no change, and its wire changes by the change of its value times delta.
--     masked_moves          its masked products
--     CutSame, cut_same     what the members see, and the wire
-- Assumes nothing.
use mathlib.Core.Path.{◌≡◌, refl, sym, ap, ap₂, ◌∙◌, subst, fun_ext}
use mathlib.Core.Bool.{Bool, true, false}
use mathlib.Core.List.{List, ◌∷◌, ◌++◌, map, Memᴰ}
use Prim.Native.Nat.{ℕ, zero, suc, ◌+◌, ◌-◌, ◌*◌, ◌≤◌, ◌<◌}
use native.Mathlib.Omega.{arith}
use lib.ListN.{length, take, drop, get_or, length-map}
use Rattle.numbers.specs.Tables.{tab}
use Rattle.numbers.proofs.Tables.{tab-ext, tab-map}
use Rattle.field.specs.Mod.{add, mul, sub}
use Rattle.field.proofs.Solve.{Canon}
use Rattle.sharing_laws.specs.Poly.{eval}
use Rattle.sharing_laws.specs.Interp.{All, dot, delta}
use Rattle.sharing_laws.specs.Sharing.{opened}
use Rattle.sharing_laws.specs.Basis.{row}
use Rattle.seat_messages.specs.Messages.{from_each}
use Rattle.match_privacy.specs.Matching.{is_member, lowest, change_of, with_coins, matched_at}
use Rattle.sharing_laws.proofs.Lists.{in-tab}
use Rattle.sharing_laws.proofs.Openings.{Shared}
use Rattle.sharing_laws.proofs.Steps.{sum_over, sent_at, masked_by, piece_by, reduced_at, reduced_by, new_zeros, new_masks, Differ}
use Rattle.sharing_laws.proofs.Steps as steps
use Rattle.sharing_laws.proofs.ReducedStep.{Private, step-private, kept-mask}
use Rattle.sharing_laws.proofs.ReducedPrivate.{change-value}
use Rattle.plan.specs.declared.Gate.TheVariants.{Multiply}
use Rattle.plan.specs.declared.Rule.TheVariants.{Truncation}
use Rattle.plan.specs.Plans.{Plan, party_count, parties, point_of}
use Rattle.run_protocol.specs.Shares.{Before, wire_at, zero_pieces, masked_at, pieces_at, truncated_at, gate_share}
use Rattle.plan.proofs.Valid.{Valid}
use Rattle.run_protocol.proofs.Gates.{zeros_of, masks_of, before-suc, masked-as, masks-as, truncated-as, reduced-as}
use Rattle.plan.proofs.Parties.{parties_points}
use Rattle.match_privacy.proofs.Blocks.{matched_block, block_member, block_other}
use Rattle.match_privacy.proofs.Cuts.{z_at, k_at}
use Rattle.match_privacy.proofs.Matches.{Other, lowest_other, k-length, k_canon, up, old, new, change_as, zeros_law, zeros-new, masks-new}
use Rattle.match_privacy.proofs.Deals.{spare-member}

-- ---- sums and lists over the parties
sum_ext : (p : ℕ) (d : ℕ → ℕ) (n : ℕ) (f g : ℕ → ℕ) → ((j : ℕ) → j < n → f (d j) ≡ g (d j)) → sum_over p (tab d n) f ≡ sum_over p (tab d n) g
unfolding tab sum_over
sum_ext p d zero f g h = refl
sum_ext p d (suc n) f g h = ap₂ (add p) (h 0 (omega arith)) (sum_ext p (λ j. d (suc j)) n f g (λ j l. h (suc j) (omega arith)))

map_ext : (n : ℕ) (f g : ℕ → ℕ) → ((j : ℕ) → j < n → f (suc j) ≡ g (suc j)) → map f (tab suc n) ≡ map g (tab suc n)
map_ext n f g h = tab-map f suc n ∙ tab-ext (λ j. f (suc j)) (λ j. g (suc j)) n h ∙ sym (tab-map g suc n)

-- coins that are the same for each party
module _ (plan : Plan) (A B : ℕ → ℕ) (zs ws ks qs : ℕ → List ℕ) (same-z : (j : ℕ) → j < party_count plan → zs (suc j) ≡ ws (suc j))
    (same-k : (j : ℕ) → j < party_count plan → ks (suc j) ≡ qs (suc j)) where
  abbrev is : List ℕ
  is = parties plan

  by_ext : (x : ℕ) → masked_by plan.p is A B zs x ≡ masked_by plan.p is A B ws x
  unfolding masked_by steps.masked_at parties
  by_ext x =
      ap (add plan.p (mul plan.p (A x) (B x)))
      (sum_ext plan.p suc (party_count plan) (λ i. eval plan.p (0 ∷ zs i) x) (λ i. eval plan.p (0 ∷ ws i) x) (λ j l. ap (λ (f : List ℕ). eval plan.p (0 ∷ f) x) (same-z j l)))

  pieces_ext :
      (y j : ℕ) → j < party_count plan → piece_by plan.p is (point_of plan) A B zs ks (suc j) y ≡ piece_by plan.p is (point_of plan) A B ws qs (suc j) y
  unfolding piece_by
  pieces_ext y j l = ap₂ (λ (v : ℕ) (f : List ℕ). eval plan.p (v ∷ f) y) (by_ext (point_of plan (suc j))) (same-k j l)

  map_pieces :
      (y : ℕ) → map (λ i. piece_by plan.p is (point_of plan) A B zs ks i y) is ≡ map (λ i. piece_by plan.p is (point_of plan) A B ws qs i y) is
  unfolding parties
  map_pieces y = map_ext (party_count plan) _ _ (pieces_ext y)

  sent_ext :
      (x y : ℕ) → sent_at plan.p plan.t plan.points is (piece_by plan.p is (point_of plan) A B zs ks) x y
      ≡ sent_at plan.p plan.t plan.points is (piece_by plan.p is (point_of plan) A B ws qs) x y
  unfolding sent_at
  sent_ext x y = ap (dot plan.p (row plan.p plan.t plan.points x)) (map_pieces y)

  reduced_ext :
      (x : ℕ) → reduced_by plan.p plan.t plan.points is (point_of plan) A B zs ks x ≡ reduced_by plan.p plan.t plan.points is (point_of plan) A B ws qs x
  unfolding reduced_by reduced_at
  reduced_ext x = ap (λ (f : ℕ → ℕ). opened plan.p plan.t plan.points (map f plan.points)) (fun_ext (sent_ext x))

-- the first run's state s before the gate, the second's s', and any coins after the gate's
pub record CutSame (plan : Plan) (ms : List ℕ) (a b : ℕ) (s s' : Before) (c : List ℕ) (v v' : ℕ) : Type 0 where
  pub wire : Differ plan.p (map (point_of plan) ms) (gate_share plan (Multiply a b) s) (gate_share plan (Multiply a b) (with_coins c s')) v v'
  pub zeros : (i : ℕ) → is_member i ms ≡ true → zero_pieces plan c (point_of plan i) ≡ zero_pieces plan s.coins (point_of plan i)
  pub masks :
      (i : ℕ) → is_member i ms ≡ true
      → from_each (party_count plan) 2 1 (pieces_at plan (Multiply a b) (with_coins c s') (point_of plan i))
      ≡ from_each (party_count plan) 2 1 (pieces_at plan (Multiply a b) s (point_of plan i))
  pub sent :
      (i : ℕ) → is_member i ms ≡ true → (y : ℕ)
      → truncated_at plan (Multiply a b) (with_coins c s') (point_of plan i) y ≡ truncated_at plan (Multiply a b) s (point_of plan i) y

module _ (plan : Plan) (by : plan.rule ≡ Truncation) (a b : ℕ) (valid : Valid plan) (ms : List ℕ) (few : length ms ≤ plan.t)
    (parties_only : (i : ℕ) → is_member i ms ≡ true → i ≤ party_count plan) (majority : plan.t + plan.t < party_count plan) (s s' : Before)
    (enough : 3 * plan.t * party_count plan ≤ length s.coins) (can : All (Canon plan.p) s.coins) (u v u' v' : ℕ)
    (sa : Shared plan.p plan.t (wire_at s.env a) u) (sb : Shared plan.p plan.t (wire_at s.env b) v)
    (sa' : Shared plan.p plan.t (wire_at s'.env a) u') (sb' : Shared plan.p plan.t (wire_at s'.env b) v')
    (da : Differ plan.p (map (point_of plan) ms) (wire_at s.env a) (wire_at s'.env a) u u')
    (db : Differ plan.p (map (point_of plan) ms) (wire_at s.env b) (wire_at s'.env b) v v') (rest : List ℕ) where
  abbrev p : ℕ
  p = plan.p

  abbrev t : ℕ
  t = plan.t

  abbrev n : ℕ
  n = party_count plan

  abbrev pts : List ℕ
  pts = map (point_of plan) ms

  abbrev A : ℕ → ℕ
  A = wire_at s.env a

  abbrev B : ℕ → ℕ
  B = wire_at s.env b

  abbrev A' : ℕ → ℕ
  A' = wire_at s'.env a

  abbrev B' : ℕ → ℕ
  B' = wire_at s'.env b

  abbrev l : ℕ
  l = lowest plan ms

  abbrev zs : ℕ → List ℕ
  zs = zeros_of t s.coins

  abbrev ks : ℕ → List ℕ
  ks = masks_of t s.coins

  abbrev zs' : ℕ → List ℕ
  zs' = new_zeros p pts l (steps.change_of p t plan.points A B A' B') zs

  abbrev ks' : ℕ → List ℕ
  ks' = new_masks p pts (point_of plan) (masked_by p (parties plan) A B zs) (masked_by p (parties plan) A' B' zs') ks

  abbrev c : List ℕ
  c = matched_at plan ms (Multiply a b) s s' ++ rest

  few_points : length pts ≤ t
  few_points = omega (arith, length-map ms (point_of plan))

  wider : t + t < length plan.points
  unfolding party_count
  wider = majority

  among : Memᴰ l (parties plan)
  unfolding parties
  among =
      let o : Other plan ms = lowest_other plan valid ms few in
      in-tab l suc n (l - 1) (omega (arith, o.from1, o.upto)) (omega (arith, o.from1))

  private :
      Private valid.prime t plan.points (parties plan) (point_of plan) (parties_points plan) valid.distinct wider pts few_points l among A B A' B' u v u' v' sa sb sa' sb' da db zs ks
  private =
      step-private valid.prime t plan.points (parties plan) (point_of plan) (parties_points plan) valid.distinct wider pts few_points l among A B A' B' u v u' v' sa sb sa' sb' da db zs ks

  -- the new coins are those of the law
  up_are : (j : ℕ) → zeros_of t (up plan by a b valid ms few s s' enough can) (suc j) ≡ zs' (suc j)
  unfolding zeros_of z_at
  up_are j = ap (z_at t (up plan by a b valid ms few s s' enough can)) (sym (before-suc j)) ∙ zeros_law plan by a b valid ms few s s' enough can j

  zeros_are : (j : ℕ) → j < n → zeros_of t c (suc j) ≡ zs' (suc j)
  zeros_are j lt = as-z c j ∙ zeros-new plan by a b valid ms few s s' enough can rest j lt ∙ sym (as-z (up plan by a b valid ms few s s' enough can) j) ∙ up_are j
    where
      as-z : (x : List ℕ) (j : ℕ) → zeros_of t x (suc j) ≡ z_at t x j
      as-z x j = unfold zeros_of z_at in ap (λ (k : ℕ). take (t + t) (drop (3 * t * k) x)) (sym (before-suc j))

  x-is : (j : ℕ) → get_or plan.points j 0 ≡ point_of plan (suc j)
  unfolding point_of
  x-is j = ap (λ (k : ℕ). get_or plan.points k 0) (before-suc j)

  old-is : (j : ℕ) → old plan by a b valid ms few s s' enough can (get_or plan.points j 0) ≡ masked_by p (parties plan) A B zs (point_of plan (suc j))
  old-is j = ap (masked_at plan s a b) (x-is j) ∙ masked-as plan s a b (point_of plan (suc j))

  new_is : (j : ℕ) → new plan by a b valid ms few s s' enough can (get_or plan.points j 0) ≡ masked_by p (parties plan) A' B' zs' (point_of plan (suc j))
  unfolding with_coins
  new_is j =
      ap (masked_at plan (with_coins (up plan by a b valid ms few s s' enough can) s') a b) (x-is j)
      ∙ masked-as plan (with_coins (up plan by a b valid ms few s s' enough can) s') a b (point_of plan (suc j))
      ∙ by_ext plan A' B' (zeros_of t (up plan by a b valid ms few s s' enough can)) zs' ks ks (λ i lt. up_are i) (λ i lt. refl) (point_of plan (suc j))

  -- each masked product changes by the constant of the product's change times delta
  pub masked_moves :
      (j : ℕ) → new plan by a b valid ms few s s' enough can (get_or plan.points j 0)
      ≡ add p (old plan by a b valid ms few s s' enough can (get_or plan.points j 0))
      (mul p (get_or (change_of plan s s' a b) 0 0) (eval p (delta p pts) (get_or plan.points j 0)))
  masked_moves j =
      new_is j ∙ private.masked (point_of plan (suc j))
      ∙ ap₂ (λ (h x : ℕ). add p h (mul p (sub p (mul p u' v') (mul p u v)) (eval p (delta p pts) x))) (sym (old-is j)) (sym (x-is j))
      ∙ ap (λ (e : ℕ). add p (old plan by a b valid ms few s s' enough can (get_or plan.points j 0)) (mul p e (eval p (delta p pts) (get_or plan.points j 0)))) (sym value)
    where
      value : get_or (change_of plan s s' a b) 0 0 ≡ sub p (mul p u' v') (mul p u v)
      value =
          ap (λ (f : List ℕ). get_or f 0 0) (change_as plan by a b s s')
          ∙ change-value valid.prime t plan.points A B A' B' valid.distinct wider u v u' v' sa sb sa' sb'

  masks_are : (j : ℕ) → j < n → masks_of t c (suc j) ≡ ks' (suc j)
  masks_are j lt =
      as-k c j ∙ masks-new plan by a b valid ms few s s' enough can rest j lt
      ∙ ap₂ (λ (x y : ℕ). matched_block plan ms (suc j) x y (k_at t s.coins j)) (old-is j) (new_is j)
      ∙ ap (matched_block plan ms (suc j) (masked_by p (parties plan) A B zs (point_of plan (suc j))) (masked_by p (parties plan) A' B' zs' (point_of plan (suc j)))) (sym (as-k s.coins j))
      ∙ pick (is_member (suc j) ms) refl
    where
      as-k : (x : List ℕ) (j : ℕ) → masks_of t x (suc j) ≡ k_at t x j
      as-k x j = unfold masks_of k_at in ap (λ (k : ℕ). take t (drop (3 * t * k + (t + t)) x)) (sym (before-suc j))

      pick :
          (q : Bool) → is_member (suc j) ms ≡ q
          → matched_block plan ms (suc j) (masked_by p (parties plan) A B zs (point_of plan (suc j))) (masked_by p (parties plan) A' B' zs' (point_of plan (suc j))) (ks (suc j)) ≡ ks' (suc j)
      pick true m =
          block_member plan ms (suc j) _ _ (ks (suc j)) m
          ∙ sym (kept-mask valid.prime t plan.points (parties plan) (point_of plan) (parties_points plan) valid.distinct wider pts few_points l
          among A B A' B' u v u' v' sa sb sa' sb' da db zs ks (suc j)
          (spare-member plan valid ms parties_only (suc j) m)
          (subst (λ (x : List ℕ). length pts ≤ length x) (sym (as-k s.coins j)) (omega (arith, few_points, k-length t n s.coins enough j lt)))
          (subst (All (Canon p)) (sym (as-k s.coins j)) (k_canon p t s.coins j can)))
      pick false m = block_other plan ms (suc j) _ _ (ks (suc j)) m ∙ (unfold new_masks in refl)

  -- at a member's point
  members_zeros : (i : ℕ) → is_member i ms ≡ true → zero_pieces plan c (point_of plan i) ≡ zero_pieces plan s.coins (point_of plan i)
  unfolding zero_pieces
  members_zeros i m =
      tab-ext (λ j. eval p (0 ∷ take (t + t) (drop (3 * t * j) c)) (point_of plan i)) (λ j. eval p (0 ∷ take (t + t) (drop (3 * t * j) s.coins)) (point_of plan i)) n
      (λ j lt. ap (λ (f : List ℕ). eval p (0 ∷ f) (point_of plan i)) (sym (as-z c j) ∙ zeros_are j lt) ∙ private.zeros (suc j) (point_of plan i) (spare-member plan valid ms parties_only i m)
      ∙ ap (λ (f : List ℕ). eval p (0 ∷ f) (point_of plan i)) (as-z s.coins j))
    where
      as-z : (x : List ℕ) (j : ℕ) → zeros_of t x (suc j) ≡ take (t + t) (drop (3 * t * j) x)
      as-z x j = unfold zeros_of in ap (λ (k : ℕ). take (t + t) (drop (3 * t * k) x)) (sym (before-suc j))

  pub cut_same : CutSame plan ms a b s s' c (mul p u v) (mul p u' v')
  unfolding with_coins
  cut_same = record {
    wire =
        λ x. reduced-as plan (with_coins c s') a b by x
        ∙ reduced_ext plan A' B' (zeros_of t c) zs' (masks_of t c) ks' zeros_are masks_are x
        ∙ private.wire x
        ∙ ap (λ (h : ℕ). add p h (mul p (sub p (mul p u' v') (mul p u v)) (eval p (delta p pts) x))) (sym (reduced-as plan s a b by x));
    zeros = members_zeros;
    masks =
        λ i m. masks-as plan (with_coins c s') a b by (point_of plan i)
        ∙ map_pieces plan A' B' (zeros_of t c) zs' (masks_of t c) ks' zeros_are masks_are (point_of plan i)
        ∙ ap (λ (h : ℕ → ℕ). map h (parties plan)) (fun_ext (λ k. private.pieces k (point_of plan i) (spare-member plan valid ms parties_only i m)))
        ∙ sym (masks-as plan s a b by (point_of plan i));
    sent =
        λ i m y. truncated-as plan (with_coins c s') a b by (point_of plan i) y
        ∙ sent_ext plan A' B' (zeros_of t c) zs' (masks_of t c) ks' zeros_are masks_are (point_of plan i) y
        ∙ private.sent (point_of plan i) y (spare-member plan valid ms parties_only i m)
        ∙ sym (truncated-as plan s a b by (point_of plan i) y);
  }
