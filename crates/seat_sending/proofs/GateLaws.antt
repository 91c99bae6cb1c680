-- Laws of the dealings at a gate: of the product of two shares, of 0, of a masked product, and of a draw.
--     dealing_there                                      a dealing at a gate
--     multiplying_shares                                 the product of two shares
--     product_sending, zero_sending, masked_sending, draw_sending     the dealing of each step
-- Assumes nothing.
use mathlib.Core.Path.{◌≡◌, refl, sym, ap, ap₂, ◌∙◌}
use mathlib.Core.Bool.{true, false}
use mathlib.Core.List.{List, [], ◌∷◌, map, flat_map}
use Prim.Native.Nat.{ℕ, ◌+◌, ◌*◌, ◌<◌, ◌≤◌}
use native.Mathlib.Omega.{arith}
use borrow.Author.Rules.{rules}
use borrow.Author.Tests.{le-leb, lt-leb}
use lib.Dec.{eqb, leb}
use lib.ListN.{length, get_or, take, drop}
use Rattle.numbers.specs.Tables.{count_where}
use Rattle.numbers.specs.Bytes.{width, numbers, all_below}
use Rattle.numbers.proofs.Bytes.{numbers-length}
use Rattle.field.specs.Mod.{add, mul}
use Rattle.field.specs.Field.{Is, Below2}
use Rattle.sharing_laws.specs.Poly.{eval}
use Rattle.sharing_laws.specs.Basis.{sum_all}
use Rattle.sharing_laws.specs.Sharing.{deal}
use Rattle.sharing.proofs.Coding.{entry_below}
use Rattle.plan.specs.declared.Step.TheVariants.{DealProduct, DealZero, DealMasked, DealDraws}
use Rattle.plan.specs.declared.Header.{Header}
use Rattle.plan.specs.Plans.{Plan, party_count, dealer_count, kind_of, is_kind, multiplying, input_at, input_owners_at, coin_owners_at, coins_at, sent_by}
use Rattle.plan.specs.File.{plan_of}
use Rattle.plan.specs.Planned.{Planned}
use Rattle.plan.proofs.Planned.{plan_t, plan_p, plan_n, plan_gates, plan_dealers}
use Rattle.plan.proofs.Valid.{valid, planned-ready}
use Rattle.plan_counts.specs.Counts.{HasKind, Stepped}
use Rattle.seat_messages.specs.Messages.{product_at, deal_to, nothing, send_at}
use Rattle.seat_messages.proofs.PointLaws.{plan_points_below, points-within, points-count}
use Rattle.seat_sending.specs.Sending.{Dealing, Elements, outgoing}
use Rattle.seat_sending.proofs.SendLaws.{flat, flat_ones}

-- ---- a dealing at a gate
module _ (bs : List ℕ) (h : Header) (w : Planned bs h) where
  pub there-points : (xs : List ℕ) → xs ≡ (plan_of bs).points → all_below h.field.p xs ≡ true
  there-points xs e = rw e (plan_points_below bs h w)

  pub there-room : (xs out : List ℕ) → xs ≡ (plan_of bs).points → length out ≡ width * party_count (plan_of bs) → length out ≡ width * length xs
  unfolding party_count
  there-room xs out q e = rw q e

  pub there-dealing : (k s at skip : ℕ) (inputs coins triples shares mail : List ℕ) → Elements (plan_of bs) inputs coins triples shares mail → k ≤ 14 → s < h.field.p → at ≤ 65000 → skip ≤ 14
      → Dealing h.field.p k s (numbers coins) (at + skip)
  there-dealing k s at skip inputs coins triples shares mail e few l near m =
      record { few = few; near = omega arith; secret = l; coins = rw (← plan_p w) e.coins_below }

  pub there-done : (i g s at skip k : ℕ) (coins xs out : List ℕ) → xs ≡ (plan_of bs).points → at ≡ count_where (eqb i) (flat_map (coin_owners_at (plan_of bs)) (take g (plan_of bs).gates))
      → numbers out ≡ deal h.field.p s (take k (drop (at + skip) (numbers coins))) xs
      → numbers out ≡ deal (plan_of bs).p s (coins_at (plan_of bs) i g skip k (numbers coins)) (plan_of bs).points
  unfolding coins_at
  there-done i g s at skip k coins xs out q e is =
      is
      ∙ ap₂ (λ (p : ℕ) (pts : List ℕ). deal p s (take k (drop (at + skip) (numbers coins))) pts) (sym (plan_p w)) q
      ∙ ap (λ (n : ℕ). deal (plan_of bs).p s (take k (drop (n + skip) (numbers coins))) (plan_of bs).points) e

-- As it is: answers name this set, since the check leaves their goals open by `using` alone.
pub ruleset dealing_there = (rules, points-within, points-count, there-points, there-room, there-dealing, there-done)

-- ---- the product
module _ (bs : List ℕ) (h : Header) (w : Planned bs h) (inputs coins triples shares mail : List ℕ) (e : Elements (plan_of bs) inputs coins triples shares mail) where
  shares-here : all_below h.field.p (numbers shares) ≡ true
  shares-here = rw (← plan_p w) e.shares_below

  pub product_below : (a b x y : ℕ) → x ≡ get_or (numbers shares) a 0 → y ≡ get_or (numbers shares) b 0 → Below2 h.field.p x y
  product_below a b x y ex ey = record {
    left = rw ex (entry_below h.field.p (numbers shares) a (planned-ready bs h w) shares-here);
    right = rw ey (entry_below h.field.p (numbers shares) b (planned-ready bs h w) shares-here);
  }

  pub product_is : (a b x y v : ℕ) → x ≡ get_or (numbers shares) a 0 → y ≡ get_or (numbers shares) b 0 → Is h.field.p (mul h.field.p x y) v → Is h.field.p (product_at (plan_of bs) a b (numbers shares)) v
  unfolding product_at
  product_is a b x y v ex ey is = record { eq = is.eq ∙ rw (plan_p w, ex, ey); lt = is.lt }

pub ruleset multiplying_shares = (rules, product_is, product_below)

-- ---- what a step sends, in one list
flat-dealt : (plan : Plan) (s : ℕ) (cs : List ℕ) → flat (deal_to plan ((s ∷ cs) ∷ [])) ≡ deal plan.p s cs plan.points
unfolding deal_to deal
flat-dealt plan s cs = flat_ones (eval plan.p (s ∷ cs)) plan.points

flat-nothing : (xs : List ℕ) → flat (map (λ x. []) xs) ≡ []
unfolding flat_map
flat-nothing [] = refl
flat-nothing (x ∷ xs) = flat-nothing xs

no-numbers : (xs : List ℕ) → length xs ≡ 0 → xs ≡ []
no-numbers [] e = refl
no-numbers (x ∷ xs) e = absurd (omega arith)

-- the dealt value and its coins as the step has them
dealt-as : (plan : Plan) (s v : ℕ) (cs ds xs : List ℕ) → s ≡ v → cs ≡ ds → xs ≡ deal plan.p s cs plan.points → xs ≡ flat (deal_to plan ((v ∷ ds) ∷ []))
dealt-as plan s v cs ds xs e c q = q ∙ ap₂ (λ (z : ℕ) (l : List ℕ). deal plan.p z l plan.points) e c ∙ sym (flat-dealt plan v ds)

module _ (bs : List ℕ) (h : Header) (w : Planned bs h) where
  -- what the coins of a dealing are counted in
  pub t-few : h.t ≤ 14
  t-few = omega (arith, w.threshold, w.n-high)

  multiply-few : (g : ℕ) → HasKind (plan_of bs) g 5 → h.t + h.t ≤ 14
  unfolding multiplying is_kind
  multiply-few g k = omega (arith, (valid bs w.passes).majority g k.within (rw k.is), plan_t w, plan_n w, w.n-high)

  inside : (g : ℕ) → g < length (plan_of bs).gates → g ≤ h.gates
  inside g l = omega (arith, plan_gates w)

  module _ (i : ℕ) (inputs coins triples shares mail : List ℕ) where
    -- ---- of a product, by the parties 1 to 2t + 1
    module _ (g a b : ℕ) (step : Stepped (plan_of bs) (DealProduct g a b)) where
      pub product_inside : g ≤ h.gates
      unfolding Stepped
      product_inside = inside g step.0.within

      module _ (out : List ℕ) (room : length out ≡ width * sent_by (plan_of bs) i (DealProduct g a b)) where
        pub product-none : h.t + h.t + 1 < i → numbers out ≡ outgoing (plan_of bs) i (DealProduct g a b) inputs coins triples shares mail
        unfolding send_at nothing sent_by
        product-none l =
            let f : leb i (dealer_count (plan_of bs)) ≡ false = lt-leb i (dealer_count (plan_of bs)) (rw (plan_dealers w) l) in
            let z : length out ≡ 0 = room ∙ rw f in
            no-numbers (numbers out) (omega (arith, numbers-length out)) ∙ rw f (sym (flat-nothing (plan_of bs).points))

        module _ (l : i ≤ h.t + h.t + 1) where
          dealer : leb i (dealer_count (plan_of bs)) ≡ true
          dealer = le-leb i (dealer_count (plan_of bs)) (rw (plan_dealers w) l)

          pub product_room : length out ≡ width * party_count (plan_of bs)
          unfolding sent_by
          product_room = room ∙ rw dealer

          pub product_done : (s : ℕ) (xs : List ℕ) → Is h.field.p (product_at (plan_of bs) a b shares) s
              → xs ≡ deal (plan_of bs).p s (coins_at (plan_of bs) i g 0 h.t coins) (plan_of bs).points → xs ≡ outgoing (plan_of bs) i (DealProduct g a b) inputs coins triples shares mail
          unfolding send_at
          product_done s xs is q = rw dealer (dealt-as (plan_of bs) s _ _ _ xs is.eq (ap (λ (t : ℕ). coins_at (plan_of bs) i g 0 t coins) (sym (plan_t w))) q)

    -- ---- of 0
    module _ (g : ℕ) (step : Stepped (plan_of bs) (DealZero g)) where
      pub zero_inside : g ≤ h.gates
      unfolding Stepped
      zero_inside = inside g step.0.within

      pub zero-few : h.t + h.t ≤ 14
      unfolding Stepped
      zero-few = multiply-few g step.0

      pub zero_room : (out : List ℕ) → length out ≡ width * sent_by (plan_of bs) i (DealZero g) → length out ≡ width * party_count (plan_of bs)
      unfolding sent_by
      zero_room out e = e

      pub zero_done : (xs : List ℕ) → xs ≡ deal (plan_of bs).p 0 (coins_at (plan_of bs) i g 0 (h.t + h.t) coins) (plan_of bs).points → xs ≡ outgoing (plan_of bs) i (DealZero g) inputs coins triples shares mail
      unfolding send_at
      zero_done xs q = dealt-as (plan_of bs) 0 0 _ _ xs refl (ap (λ (t : ℕ). coins_at (plan_of bs) i g 0 (t + t) coins) (sym (plan_t w))) q

    -- ---- of a product with the sum of the zeros' pieces
    module _ (g a b : ℕ) (step : Stepped (plan_of bs) (DealMasked g a b)) where
      pub masked_inside : g ≤ h.gates
      unfolding Stepped
      masked_inside = inside g step.0.within

      pub masked-few : h.t + h.t ≤ 14
      unfolding Stepped kind_of
      masked-few = multiply-few g (record { within = step.0.within; is = ap kind_of step.0.is })

      pub masked_room : (out : List ℕ) → length out ≡ width * sent_by (plan_of bs) i (DealMasked g a b) → length out ≡ width * party_count (plan_of bs)
      unfolding sent_by
      masked_room out e = e

      pub masked_done : (x m s : ℕ) (xs : List ℕ) → Is h.field.p (product_at (plan_of bs) a b shares) x → Is h.field.p (sum_all h.field.p mail) m → Is h.field.p (add h.field.p x m) s
          → xs ≡ deal (plan_of bs).p s (coins_at (plan_of bs) i g (h.t + h.t) h.t coins) (plan_of bs).points → xs ≡ outgoing (plan_of bs) i (DealMasked g a b) inputs coins triples shares mail
      unfolding send_at
      masked_done x m s xs ix im is q =
          dealt-as (plan_of bs) s _ _ _ xs
          (is.eq ∙ ap₂ (add h.field.p) ix.eq im.eq ∙ ap (λ (p : ℕ). add p (product_at (plan_of bs) a b shares) (sum_all p mail)) (sym (plan_p w)))
          (ap (λ (t : ℕ). coins_at (plan_of bs) i g (t + t) t coins) (sym (plan_t w))) q

    -- ---- of a draw
    module _ (g : ℕ) (step : Stepped (plan_of bs) (DealDraws g)) where
      pub draw_inside : g ≤ h.gates
      unfolding Stepped
      draw_inside = inside g step.within

      pub draw_room : (out : List ℕ) → length out ≡ width * sent_by (plan_of bs) i (DealDraws g) → length out ≡ width * party_count (plan_of bs)
      unfolding sent_by
      draw_room out e = e

      pub draw_done : (at s : ℕ) (xs : List ℕ) → at ≡ count_where (eqb i) (flat_map (input_owners_at (plan_of bs)) (take g (plan_of bs).gates)) → s ≡ get_or inputs at 0
          → xs ≡ deal (plan_of bs).p s (coins_at (plan_of bs) i g 0 h.t coins) (plan_of bs).points → xs ≡ outgoing (plan_of bs) i (DealDraws g) inputs coins triples shares mail
      unfolding send_at input_at
      draw_done at s xs ea es q =
          dealt-as (plan_of bs) s _ _ _ xs (es ∙ ap (λ (n : ℕ). get_or inputs n 0) ea) (ap (λ (t : ℕ). coins_at (plan_of bs) i g 0 t coins) (sym (plan_t w))) q

  -- ---- the dealt values are elements
  pub element-zero : 0 < h.field.p
  element-zero = omega (arith, w.p_low)

  pub mail_here : (inputs coins triples shares mail : List ℕ) → Elements (plan_of bs) inputs coins triples shares mail → all_below h.field.p (numbers mail) ≡ true
  mail_here inputs coins triples shares mail e = rw (← plan_p w) e.mail_below

  pub draw_below : (inputs coins triples shares mail : List ℕ) (at s : ℕ) → Elements (plan_of bs) inputs coins triples shares mail → s ≡ get_or (numbers inputs) at 0 → s < h.field.p
  draw_below inputs coins triples shares mail at s e q = rw q (entry_below h.field.p (numbers inputs) at (planned-ready bs h w) (rw (← plan_p w) e.inputs_below))

pub masked_pair : (p x m u v : ℕ) → Is p u x → Is p v m → Below2 p x m
masked_pair p x m u v ix im = record { left = ix.lt; right = im.lt }

-- As it is: answers name these sets, since the check leaves their goals open by `using` alone.
pub ruleset product_sending = (rules, t-few, product_inside, product-none, product_room, product_done)

pub ruleset zero_sending = (rules, zero_inside, zero-few, zero_room, zero_done, element-zero)

pub ruleset masked_sending = (rules, t-few, masked_inside, masked-few, masked_room, masked_done, mail_here, masked_pair)

pub ruleset draw_sending = (rules, t-few, draw_inside, draw_room, draw_done, draw_below)
