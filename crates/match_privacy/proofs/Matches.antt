-- The matched coins of one gate.
--     lowest_other                             the lowest party that is no member
--     zeros-new, masks-new, cut-back, cut-own  a multiply by truncation
--     Step, gate_step                          any gate: how many, elements, undone, and a member's stay
--     pieces_prefix, share_prefix              a gate takes no coins but its own
-- Assumes nothing.
use mathlib.Core.Path.{◌≡◌, refl, sym, ap, ap₂, ◌∙◌, fun_ext}
use mathlib.Core.Bool.{Bool, true, false, cond}
use mathlib.Core.List.{List, [], ◌∷◌, ◌++◌, map, flat_map, append_assoc}
use Prim.Native.Nat.{ℕ, zero, suc, ◌+◌, ◌-◌, ◌*◌, ◌≤◌, ◌<◌}
use native.Mathlib.Nat.{mul-zero, mul-suc}
use native.Mathlib.Omega.{arith}
use borrow.Author.Tests.{eqb-true, ne_eqb}
use lib.Dec.{eqb}
use lib.ListN.{length, take, drop, get_or, replicate, length-map, length-append, length-drop, take-append-drop}
use lib.Seq.{length-take-le, take-append-le, drop-append-le, take_at, drop_at, drop-drop}
use Rattle.numbers.specs.Tables.{tab}
use Rattle.numbers.proofs.Tables.{tab-ext, list-tab}
use Rattle.field.specs.Mod.{add}
use Rattle.field.proofs.Solve.{Canon}
use Rattle.sharing_laws.specs.Poly.{eval}
use Rattle.sharing_laws.specs.Interp.{All, weights, dot}
use Rattle.sharing_laws.specs.Sharing.{opened}
use Rattle.sharing_laws.proofs.Alls.{all_append, all_take, all_drop}
use Rattle.sharing_laws.specs.Basis.{matched_zero, sum_all, row}
use Rattle.seat_messages.specs.Messages.{from_each}
use Rattle.match_privacy.specs.Matching.{is_member, matched_blocks, lowest_of, lowest, change_of, zero_matched, absorbed_by, absorbed, with_coins, matched_at}
use Rattle.sharing_laws.proofs.Lists.{flat_map-tabs}
use Rattle.sharing_laws.proofs.Steps.{new_zeros}
use Rattle.sharing_laws.proofs.Steps as steps
use Rattle.sharing_laws.proofs.ReducedStep.{zeros-undone}
use Rattle.sharing_laws.proofs.ReducedPrivate.{length-change}
use Rattle.match_privacy.proofs.Others.{other_exists}
use Rattle.plan.specs.declared.Gate.{Gate}
use Rattle.plan.specs.declared.Gate.TheVariants.{Input, Add, Scale, Offset, Multiply, Random, Spend}
use Rattle.plan.specs.declared.Rule.{Rule}
use Rattle.plan.specs.declared.Rule.TheVariants.{Reduction, Truncation}
use Rattle.plan.specs.declared.Dealing.{Dealing}
use Rattle.plan.specs.Plans.{Plan, party_count, parties, point_of, dealer_count, dealer_points, kind_of, is_kind, operands_of, first_dealings, multiply_dealings, dealings_at, coin_owners_at, own_of}
use Rattle.run_protocol.specs.Shares.{Before, wire_at, product_of, zero_pieces, masked_at, multiply_dealt, dealt_at, sharings, pieces_at, truncated_at, multiply_share, difference_at, difference_of, gate_share}
use Rattle.plan.proofs.Valid.{Valid}
use Rattle.run_protocol.proofs.Gates.{before-suc}
use Rattle.plan.proofs.Parties.{parties_points}
use Rattle.match_privacy.proofs.Blocks.{total, owners_of, length_owners, Ample, matched_block, block_member, length_block, block_back, length_blocks, blocks-canon, blocks-back, own_part, own_blocks, sharings_prefix}
use Rattle.match_privacy.proofs.Splices.{step-le, row_at}
use Rattle.match_privacy.proofs.Cuts.{z_at, k_at, z_first, k_first, z_next, k_next, pairs, total_pairs, ample_pairs, cut-whole, length-absorbed, absorbed-canon, absorbed-zeros, absorbed-masks, block_none, blocks_pairs}

-- ---- the lowest party that is no member
lowest_from :
    (ms : List ℕ) (f : ℕ → ℕ) (n j : ℕ) → j < n → is_member (f j) ms ≡ false
    → (k : ℕ) × (k < n) × (lowest_of ms (tab f n) ≡ f k) × (is_member (f k) ms ≡ false)
unfolding lowest_of tab
lowest_from ms f zero j lt out = absurd (omega arith)
lowest_from ms f (suc n) zero lt out = (0, omega arith, rw out, out)
lowest_from ms f (suc n) (suc j) lt out = pick (is_member (f 0) ms) refl (lowest_from ms (λ k. f (suc k)) n j (omega arith) out)
  where
    pick :
        (b : Bool) → is_member (f 0) ms ≡ b
        → (k : ℕ) × (k < n) × (lowest_of ms (tab (λ k. f (suc k)) n) ≡ f (suc k)) × (is_member (f (suc k)) ms ≡ false)
        → (k : ℕ) × (k < suc n) × (cond (is_member (f 0) ms) (lowest_of ms (tab (λ k. f (suc k)) n)) (f 0) ≡ f k) × (is_member (f k) ms ≡ false)
    pick true e h = (suc h.0, omega (arith, h.1), rw e h.2, h.3)
    pick false e h = (0, omega arith, rw e, e)

pub record Other (plan : Plan) (ms : List ℕ) : Type 0 where
  pub from1 : 1 ≤ lowest plan ms
  pub upto : lowest plan ms ≤ party_count plan
  pub none : is_member (lowest plan ms) ms ≡ false

pub lowest_other : (plan : Plan) → Valid plan → (ms : List ℕ) → length ms ≤ plan.t → Other plan ms
unfolding lowest parties
lowest_other plan valid ms few =
    let o = other_exists ms (party_count plan) (omega (arith, valid.threshold)) in
    let h = lowest_from ms suc (party_count plan) o.0 o.2.within o.2.fails in
    record { from1 = rw h.2 (omega arith); upto = rw h.2 h.1; none = rw h.2 h.3 }

-- ---- parts of the coins at a multiply by truncation
module _ (t n : ℕ) (cs : List ℕ) (enough : 3 * t * n ≤ length cs) (j : ℕ) (lt : j < n) where
  pub z-length : length (z_at t cs j) ≡ t + t
  unfolding z_at
  z-length = length-take-le (t + t) (drop (3 * t * j) cs) (omega (arith, length-drop (3 * t * j) cs, step-le (3 * t) j n lt))

  pub k-length : length (k_at t cs j) ≡ t
  unfolding k_at
  k-length = length-take-le t (drop (3 * t * j + (t + t)) cs) (omega (arith, length-drop (3 * t * j + (t + t)) cs, step-le (3 * t) j n lt))

  z_prefix : (rest : List ℕ) → z_at t (cs ++ rest) j ≡ z_at t cs j
  unfolding z_at
  z_prefix rest =
      ap (take (t + t)) (drop-append-le (3 * t * j) cs rest (omega (arith, step-le (3 * t) j n lt)))
      ∙ take-append-le (t + t) (drop (3 * t * j) cs) rest (omega (arith, length-drop (3 * t * j) cs, step-le (3 * t) j n lt))

pub z_canon : (p t : ℕ) (cs : List ℕ) (j : ℕ) → All (Canon p) cs → All (Canon p) (z_at t cs j)
unfolding z_at
z_canon p t cs j can = all_take (Canon p) (t + t) _ (all_drop (Canon p) (3 * t * j) cs can)

pub k_canon : (p t : ℕ) (cs : List ℕ) (j : ℕ) → All (Canon p) cs → All (Canon p) (k_at t cs j)
unfolding k_at
k_canon p t cs j can = all_take (Canon p) t _ (all_drop (Canon p) (3 * t * j + (t + t)) cs can)

-- a party's own of them
pub own_pairs :
    (t i : ℕ) (d : ℕ → ℕ) (n : ℕ) (os l k : List ℕ) → 3 * t * n ≤ length l → 3 * t * n ≤ length k
    → ((j : ℕ) → j < n → eqb i (d j) ≡ true → (z_at t l j ≡ z_at t k j) × (k_at t l j ≡ k_at t k j))
    → own_of i os (drop (3 * t * n) l) ≡ own_of i os (drop (3 * t * n) k)
    → own_of i (owners_of (pairs t d n) ++ os) l ≡ own_of i (owners_of (pairs t d n) ++ os) k
unfolding owners_of tab flat_map
own_pairs t i d zero os l k le le' h e = ap (λ (m : ℕ). own_of i os (drop m l)) (sym (mul-zero (3 * t))) ∙ e ∙ ap (λ (m : ℕ). own_of i os (drop m k)) (mul-zero (3 * t))
own_pairs t i d (suc n) os l k le le' h e =
    open' l le
    ∙ ap₂ ◌++◌ (part (eqb i (d 0)) refl (take (t + t) l) (take (t + t) k) (λ o. z_first t l ∙ (h 0 (omega arith) o).0 ∙ sym (z_first t k)))
    (ap₂ ◌++◌ (part (eqb i (d 0)) refl (take t (drop (t + t) l)) (take t (drop (t + t) k)) (λ o. k_first t l ∙ (h 0 (omega arith) o).1 ∙ sym (k_first t k)))
    (own_pairs t i (λ j. d (suc j)) n os (drop t (drop (t + t) l)) (drop t (drop (t + t) k)) (room l le) (room k le')
    (λ j lt o. (z_next t l j ∙ (h (suc j) (omega arith) o).0 ∙ sym (z_next t k j), k_next t l j ∙ (h (suc j) (omega arith) o).1 ∙ sym (k_next t k j)))
    (ap (own_of i os) (rest l) ∙ e ∙ sym (ap (own_of i os) (rest k)))))
    ∙ sym (open' k le')
  where
    size : 3 * t * suc n ≡ (t + t) + (t + 3 * t * n)
    size = omega (arith, mul-suc (3 * t) n)

    room : (l : List ℕ) → 3 * t * suc n ≤ length l → 3 * t * n ≤ length (drop t (drop (t + t) l))
    room l le = omega (arith, size, length-drop t (drop (t + t) l), length-drop (t + t) l)

    rest : (l : List ℕ) → drop (3 * t * n) (drop t (drop (t + t) l)) ≡ drop (3 * t * suc n) l
    rest l = drop-drop (3 * t * n) t (drop (t + t) l) ∙ drop-drop (t + 3 * t * n) (t + t) l ∙ ap (λ (m : ℕ). drop m l) (sym size)

    part : (b : Bool) → eqb i (d 0) ≡ b → (x y : List ℕ) → (eqb i (d 0) ≡ true → x ≡ y) → cond b x [] ≡ cond b y []
    part true o x y s = s o
    part false o x y s = refl

    later : List ℕ
    later = flat_map (λ (c : Dealing). replicate c.coins c.dealer) (pairs t (λ j. d (suc j)) n)

    open' :
        (l : List ℕ) → 3 * t * suc n ≤ length l
        → own_of i ((replicate (t + t) (d 0) ++ (replicate t (d 0) ++ later)) ++ os) l
        ≡ cond (eqb i (d 0)) (take (t + t) l) [] ++ (cond (eqb i (d 0)) (take t (drop (t + t) l)) [] ++ own_of i (later ++ os) (drop t (drop (t + t) l)))
    open' l le =
        ap₂ (own_of i)
        (append_assoc (replicate (t + t) (d 0)) (replicate t (d 0) ++ later) os ∙ ap (λ (m : List ℕ). replicate (t + t) (d 0) ++ m) (append_assoc (replicate t (d 0)) later os))
        (sym (take-append-drop (t + t) l))
        ∙ own_part i (t + t) (d 0) (replicate t (d 0) ++ (later ++ os)) (take (t + t) l) (drop (t + t) l) (length-take-le (t + t) l (omega (arith, size)))
        ∙ ap (λ (m : List ℕ). cond (eqb i (d 0)) (take (t + t) l) [] ++ m)
        (ap (own_of i (replicate t (d 0) ++ (later ++ os))) (sym (take-append-drop t (drop (t + t) l)))
        ∙ own_part i t (d 0) (later ++ os) (take t (drop (t + t) l)) (drop t (drop (t + t) l))
        (length-take-le t (drop (t + t) l) (omega (arith, size, length-drop (t + t) l))))

-- a party's new coins go by its own
new_at :
    (p : ℕ) (cs : List ℕ) (l : ℕ) (f : List ℕ) (zs ws : ℕ → List ℕ) (i : ℕ) → zs i ≡ ws i → new_zeros p cs l f zs i ≡ new_zeros p cs l f ws i
unfolding new_zeros
new_at p cs l f zs ws i e = ap (λ (x : List ℕ). cond (eqb i l) (matched_zero p cs f x) x) e

-- ---- a multiply by truncation
module _ (plan : Plan) (by : plan.rule ≡ Truncation) (a b : ℕ) where
  pub dealings_cut : dealings_at plan (Multiply a b) ≡ pairs plan.t suc (party_count plan)
  unfolding dealings_at multiply_dealings parties
  dealings_cut = ap (multiply_dealings plan) by

  -- what is dealt: 0 and the masked product, party by party
  dealt_cut :
      (s : Before) → dealt_at plan (Multiply a b) s
      ≡ flat_map (λ x. 0 ∷ masked_at plan s a b x ∷ []) (tab (λ j. get_or plan.points j 0) (party_count plan))
  unfolding dealt_at multiply_dealt party_count
  dealt_cut s = ap (λ (r : Rule). multiply_dealt plan r s a b) by ∙ ap (flat_map (λ x. 0 ∷ masked_at plan s a b x ∷ [])) (list-tab plan.points 0)

  pub masked_ext :
      (s : Before) (cs cs' : List ℕ) → ((j : ℕ) → j < party_count plan → z_at plan.t cs j ≡ z_at plan.t cs' j)
      → (x : ℕ) → masked_at plan (with_coins cs s) a b x ≡ masked_at plan (with_coins cs' s) a b x
  unfolding masked_at zero_pieces with_coins z_at
  masked_ext s cs cs' h x =
      ap (λ (l : List ℕ). add plan.p (product_of plan s.env a b x) (sum_all plan.p l))
      (tab-ext (λ j. eval plan.p (0 ∷ take (plan.t + plan.t) (drop (3 * plan.t * j) cs)) x) (λ j. eval plan.p (0 ∷ take (plan.t + plan.t) (drop (3 * plan.t * j) cs')) x)
      (party_count plan) (λ j l. ap (λ (f : List ℕ). eval plan.p (0 ∷ f) x) (h j l)))

  absorbed_cut :
      (ms : List ℕ) (s s' : Before) → absorbed plan ms (Multiply a b) s s' ≡ zero_matched plan ms (lowest plan ms) (change_of plan s s' a b) s.coins
  unfolding absorbed absorbed_by is_kind kind_of operands_of
  absorbed_cut ms s s' = ap (λ (r : Rule). absorbed_by plan r ms s s' a b) by

  pub change_as :
      (s s' : Before) → change_of plan s s' a b
      ≡ steps.change_of plan.p plan.t plan.points (wire_at s.env a) (wire_at s.env b) (wire_at s'.env a) (wire_at s'.env b)
  unfolding change_of steps.change_of steps.change_at product_of dealer_points dealer_count
  change_as s s' = refl

  module _ (valid : Valid plan) (ms : List ℕ) (few : length ms ≤ plan.t) where
    abbrev p : ℕ
    p = plan.p

    abbrev t : ℕ
    t = plan.t

    abbrev n : ℕ
    n = party_count plan

    abbrev pub x_at : ℕ → ℕ
    x_at j = get_or plan.points j 0

    abbrev pub points : List ℕ
    points = map (point_of plan) ms

    abbrev other : Other plan ms
    other = lowest_other plan valid ms few

    -- with the first run's state s before the gate, and the second's s'
    module _ (s s' : Before) (enough : 3 * plan.t * party_count plan ≤ length s.coins) (can : All (Canon plan.p) s.coins) where
      abbrev pub cs : List ℕ
      cs = s.coins

      abbrev pub change : List ℕ
      change = change_of plan s s' a b

      abbrev pub up : List ℕ
      up = zero_matched plan ms (lowest plan ms) (change_of plan s s' a b) s.coins

      short : length change ≤ suc (t + t)
      short = rw (change_as s s') (length-change valid.prime t plan.points (wire_at s.env a) (wire_at s.env b) (wire_at s'.env a) (wire_at s'.env b))

      length_up : length up ≡ length cs
      length_up = length-absorbed plan valid.prime ms change cs (lowest plan ms) other.from1 other.upto (omega arith) short enough

      up-canon : All (Canon p) up
      up-canon = absorbed-canon plan valid.prime ms change cs (lowest plan ms) other.from1 other.upto (omega arith) short enough can

      -- the dealings of 0
      pub zeros-up :
          (j : ℕ) → z_at t up j ≡ cond (eqb (suc j) (lowest plan ms)) (matched_zero p points change (z_at t cs j)) (z_at t cs j)
      zeros-up j =
          ap (z_at t up) (before-suc j)
          ∙ absorbed-zeros plan valid.prime ms change cs (lowest plan ms) other.from1 other.upto (omega arith) short enough (suc j) (omega arith)
          ∙ ap (λ (k : ℕ). cond (eqb (suc j) (lowest plan ms)) (matched_zero p points change (z_at t cs k)) (z_at t cs k)) (sym (before-suc j))

      -- as the laws have them
      pub zeros_law :
          (j : ℕ) → z_at t up j
          ≡ new_zeros p points (lowest plan ms)
          (steps.change_of p t plan.points (wire_at s.env a) (wire_at s.env b) (wire_at s'.env a) (wire_at s'.env b)) (λ i. z_at t s.coins (i - 1)) (suc j)
      unfolding new_zeros
      zeros_law j =
          zeros-up j
          ∙ ap₂ (λ (x : List ℕ) (k : ℕ). cond (eqb (suc j) (lowest plan ms)) (matched_zero p points x (z_at t cs k)) (z_at t cs k)) (change_as s s') (before-suc j)

      masks-up : (j : ℕ) → k_at t up j ≡ k_at t cs j
      masks-up j =
          ap (k_at t up) (before-suc j)
          ∙ absorbed-masks plan valid.prime ms change cs (lowest plan ms) other.from1 other.upto (omega arith) short enough (suc j) (omega arith)
          ∙ ap (k_at t cs) (sym (before-suc j))

      -- the masked products
      abbrev pub old : ℕ → ℕ
      old = masked_at plan s a b

      abbrev pub new : ℕ → ℕ
      new = masked_at plan (with_coins up s') a b

      abbrev pub mask_new : ℕ → List ℕ
      mask_new j = matched_block plan ms (suc j) (old (x_at j)) (new (x_at j)) (k_at t cs j)

      pub rows_new : matched_at plan ms (Multiply a b) s s' ≡ flat_map (λ j. z_at t up j ++ mask_new j) (tab (λ j. j) n)
      unfolding matched_at
      rows_new =
          ap (λ (l : List ℕ). matched_blocks plan ms (dealings_at plan (Multiply a b)) (dealt_at plan (Multiply a b) s) (dealt_at plan (Multiply a b) (with_coins l s')) l) (absorbed_cut ms s s')
          ∙ ap (λ (ds : List Dealing). matched_blocks plan ms ds (dealt_at plan (Multiply a b) s) (dealt_at plan (Multiply a b) (with_coins up s')) up) dealings_cut
          ∙ ap₂ (λ (x y : List ℕ). matched_blocks plan ms (pairs t suc n) x y up) (dealt_cut s) (dealt_cut (with_coins up s'))
          ∙ blocks_pairs plan ms suc old new x_at n up
          ∙ flat_map-tabs (λ j. matched_block plan ms (suc j) 0 0 (z_at t up j) ++ matched_block plan ms (suc j) (old (x_at j)) (new (x_at j)) (k_at t up j))
          (λ j. z_at t up j ++ mask_new j) (λ j. j) (λ j. j) n
          (λ j l. ap₂ (λ (x y : List ℕ). x ++ y)
          (block_none plan ms valid.prime (suc j) 0 (z_at t up j) (omega (arith, z-length t n up (rw length_up enough) j l)) (z_canon p t up j up-canon))
          (ap (matched_block plan ms (suc j) (old (x_at j)) (new (x_at j))) (masks-up j)))

      mask-length : (j : ℕ) → j < n → length (mask_new j) ≡ t
      mask-length j l =
          length_block plan ms valid.prime (suc j) (old (x_at j)) (new (x_at j)) (k_at t cs j) (omega (arith, k-length t n cs enough j l)) ∙ k-length t n cs enough j l

      row-length : (j : ℕ) → j < n → length (z_at t up j ++ mask_new j) ≡ 3 * t
      row-length j l = omega (arith, length-append (z_at t up j) (mask_new j), z-length t n up (rw length_up enough) j l, mask-length j l)

      row_new :
          (rest : List ℕ) (j : ℕ) → j < n
          → (more : List ℕ) × (drop (3 * t * j) (matched_at plan ms (Multiply a b) s s' ++ rest) ≡ (z_at t up j ++ mask_new j) ++ more)
      row_new rest j l = rw rows_new (row_at (λ k. z_at t up k ++ mask_new k) (3 * t) (λ k. k) n rest row-length j l)

      -- the new coins, party by party
      pub zeros-new : (rest : List ℕ) (j : ℕ) → j < n → z_at t (matched_at plan ms (Multiply a b) s s' ++ rest) j ≡ z_at t up j
      zeros-new rest j l = go (row_new rest j l)
        where
          go :
              (more : List ℕ) × (drop (3 * t * j) (matched_at plan ms (Multiply a b) s s' ++ rest) ≡ (z_at t up j ++ mask_new j) ++ more)
              → z_at t (matched_at plan ms (Multiply a b) s s' ++ rest) j ≡ z_at t up j
          go h =
              z-open ∙ ap (take (t + t)) (h.1 ∙ append_assoc (z_at t up j) (mask_new j) h.0)
              ∙ take_at (z_at t up j) (mask_new j ++ h.0) (t + t) (z-length t n up (rw length_up enough) j l)
            where
              z-open : z_at t (matched_at plan ms (Multiply a b) s s' ++ rest) j ≡ take (t + t) (drop (3 * t * j) (matched_at plan ms (Multiply a b) s s' ++ rest))
              z-open = unfold z_at in refl

      pub masks-new : (rest : List ℕ) (j : ℕ) → j < n → k_at t (matched_at plan ms (Multiply a b) s s' ++ rest) j ≡ mask_new j
      masks-new rest j l = go (row_new rest j l)
        where
          go :
              (more : List ℕ) × (drop (3 * t * j) (matched_at plan ms (Multiply a b) s s' ++ rest) ≡ (z_at t up j ++ mask_new j) ++ more)
              → k_at t (matched_at plan ms (Multiply a b) s s' ++ rest) j ≡ mask_new j
          go h =
              k-open ∙ ap (take t) (sym (drop-drop (t + t) (3 * t * j) (matched_at plan ms (Multiply a b) s s' ++ rest)))
              ∙ ap (λ (x : List ℕ). take t (drop (t + t) x)) (h.1 ∙ append_assoc (z_at t up j) (mask_new j) h.0)
              ∙ ap (take t) (drop_at (z_at t up j) (mask_new j ++ h.0) (t + t) (z-length t n up (rw length_up enough) j l))
              ∙ take_at (mask_new j) h.0 t (mask-length j l)
            where
              k-open : k_at t (matched_at plan ms (Multiply a b) s s' ++ rest) j ≡ take t (drop (3 * t * j + (t + t)) (matched_at plan ms (Multiply a b) s s' ++ rest))
              k-open = unfold k_at in refl

      pub absorbed-length : length (absorbed plan ms (Multiply a b) s s') ≡ length cs
      absorbed-length = rw (absorbed_cut ms s s') length_up

      pub absorbed-all : All (Canon p) (absorbed plan ms (Multiply a b) s s')
      absorbed-all = rw (absorbed_cut ms s s') up-canon

      -- a member's coins stay
      pub cut-own :
          (i : ℕ) → is_member i ms ≡ true → (os rest : List ℕ) → length (matched_at plan ms (Multiply a b) s s') ≡ 3 * t * n
          → own_of i os rest ≡ own_of i os (drop (3 * t * n) cs)
          → own_of i (owners_of (pairs t suc n) ++ os) (matched_at plan ms (Multiply a b) s s' ++ rest) ≡ own_of i (owners_of (pairs t suc n) ++ os) cs
      cut-own i m os rest size e =
          own_pairs t i suc n os (matched_at plan ms (Multiply a b) s s' ++ rest) cs (omega (arith, length-append (matched_at plan ms (Multiply a b) s s') rest)) enough
          (λ j l o. (
            zeros-new rest j l ∙ zeros-up j ∙ ap (λ (q : Bool). cond q (matched_zero p points change (z_at t cs j)) (z_at t cs j)) (apart j o),
            masks-new rest j l ∙ block_member plan ms (suc j) (old (x_at j)) (new (x_at j)) (k_at t cs j) (ap (λ (k : ℕ). is_member k ms) (sym (eqb-true i (suc j) o)) ∙ m),
          ))
          (ap (own_of i os) (drop_at (matched_at plan ms (Multiply a b) s s') rest (3 * t * n) size) ∙ e)
        where
          apart : (j : ℕ) → eqb i (suc j) ≡ true → eqb (suc j) (lowest plan ms) ≡ false
          apart j o =
              ne_eqb (suc j) (lowest plan ms)
              (λ same. differ (is_member i ms) m (ap (λ (k : ℕ). is_member k ms) (eqb-true i (suc j) o ∙ same) ∙ other.none))
            where
              differ : (q : Bool) → q ≡ true → q ≡ false → ⊥
              differ q x y = let z : ◌≡◌ {A = ℕ} 0 1 = cc in omega arith

    -- the matching back undoes it
    pub cut-back :
        (s s' : Before) → 3 * plan.t * party_count plan ≤ length s.coins → All (Canon plan.p) s.coins → plan.t + plan.t < party_count plan
        → (rest : List ℕ) → All (Canon plan.p) rest → length (matched_at plan ms (Multiply a b) s s') ≡ 3 * plan.t * party_count plan
        → All (Canon plan.p) (matched_at plan ms (Multiply a b) s s')
        → matched_at plan ms (Multiply a b) (with_coins (matched_at plan ms (Multiply a b) s s' ++ rest) s') s ≡ take (3 * plan.t * party_count plan) s.coins
    unfolding with_coins party_count
    cut-back s s' enough can majority rest rest_can size new_can =
        let c : List ℕ = matched_at plan ms (Multiply a b) s s' ++ rest in
        let s₂ : Before = with_coins c s' in
        let enough₂ : 3 * t * n ≤ length c = omega (arith, length-append (matched_at plan ms (Multiply a b) s s') rest) in
        let can₂ : All (Canon p) c = all_append (Canon p) (matched_at plan ms (Multiply a b) s s') rest new_can rest_can in
        let up₂ : List ℕ = up s₂ s enough₂ can₂ in
        let l : ℕ = lowest plan ms in
        let f : List ℕ = steps.change_of p t plan.points (wire_at s.env a) (wire_at s.env b) (wire_at s'.env a) (wire_at s'.env b) in
        let f₂ : List ℕ = steps.change_of p t plan.points (wire_at s'.env a) (wire_at s'.env b) (wire_at s.env a) (wire_at s.env b) in
        let zeros : (j : ℕ) → j < n → z_at t up₂ j ≡ z_at t s.coins j =
        λ j lt.
        zeros_law s₂ s enough₂ can₂ j
        ∙ new_at p points l f₂ (λ i. z_at t c (i - 1)) (new_zeros p points l f (λ i. z_at t s.coins (i - 1))) (suc j)
        (ap (z_at t c) (sym (before-suc j)) ∙ zeros-new s s' enough can rest j lt ∙ zeros_law s s' enough can j)
        ∙ zeros-undone valid.prime t plan.points (parties plan) (point_of plan) (parties_points plan) valid.distinct majority points
        (omega (arith, length-map ms (point_of plan))) l (wire_at s.env a) (wire_at s.env b) (wire_at s'.env a) (wire_at s'.env b) (λ i. z_at t s.coins (i - 1))
        (z-length t n s.coins enough (l - 1) (omega (arith, other.from1, other.upto))) (z_canon p t s.coins (l - 1) can) (suc j)
        ∙ ap (z_at t s.coins) (sym (before-suc j)) in
        let fresh : (x : ℕ) → old s₂ s enough₂ can₂ x ≡ new s s' enough can x = masked_ext s' c (up s s' enough can) (zeros-new s s' enough can rest) in
        let again : (x : ℕ) → new s₂ s enough₂ can₂ x ≡ old s s' enough can x = masked_ext s up₂ s.coins zeros in
        rows_new s₂ s enough₂ can₂
        ∙ flat_map-tabs (λ j. z_at t up₂ j ++ mask_new s₂ s enough₂ can₂ j) (λ j. z_at t s.coins j ++ k_at t s.coins j) (λ j. j) (λ j. j) n
        (λ j lt. ap₂ (λ (x y : List ℕ). x ++ y) (zeros j lt)
        (ap₂ (λ (x y : ℕ). matched_block plan ms (suc j) x y (k_at t c j)) (fresh (x_at j)) (again (x_at j))
        ∙ ap (matched_block plan ms (suc j) (new s s' enough can (x_at j)) (old s s' enough can (x_at j))) (masks-new s s' enough can rest j lt)
        ∙ block_back plan ms valid.prime (suc j) (old s s' enough can (x_at j)) (new s s' enough can (x_at j)) (k_at t s.coins j)
        (omega (arith, k-length t n s.coins enough j lt)) (k_canon p t s.coins j can)))
        ∙ sym (cut-whole t n s.coins)

-- ---- any gate
-- a multiply by truncation, or a gate whose dealt values go by no coins
data Sort (plan : Plan) (g : Gate) : Type 0 where
  plain :
      ((ms : List ℕ) (s s' : Before) → absorbed plan ms g s s' ≡ s.coins) → ((s : Before) (cs : List ℕ) → dealt_at plan g (with_coins cs s) ≡ dealt_at plan g s)
      → Ample plan.t (dealings_at plan g) → Sort plan g
  cut : (a b : ℕ) → g ≡ Multiply a b → plan.rule ≡ Truncation → is_kind 5 g ≡ true → Sort plan g

pub ample_first : (t : ℕ) (d : ℕ → ℕ) (n : ℕ) → Ample t (tab (λ i. record { dealer = d i; coins = t }) n)
unfolding tab
ample_first t d zero = tt
ample_first t d (suc n) = (omega arith, ample_first t (λ i. d (suc i)) n)

sort_multiply : (plan : Plan) (a b : ℕ) (r : Rule) → plan.rule ≡ r → Sort plan (Multiply a b)
unfolding absorbed absorbed_by dealt_at multiply_dealt dealings_at multiply_dealings first_dealings with_coins is_kind kind_of operands_of dealer_count
sort_multiply plan a b Reduction by =
    plain (λ ms s s'. ap (λ (r : Rule). absorbed_by plan r ms s s' a b) by)
    (λ s cs. ap (λ (r : Rule). multiply_dealt plan r (with_coins cs s) a b) by ∙ sym (ap (λ (r : Rule). multiply_dealt plan r s a b) by))
    (rw by (ample_first plan.t suc (dealer_count plan)))
sort_multiply plan a b Truncation by = cut a b refl by refl

sort : (plan : Plan) (g : Gate) → Sort plan g
unfolding absorbed is_kind kind_of operands_of dealt_at dealings_at first_dealings with_coins
sort plan (Input i) = plain (λ ms s s'. refl) (λ s cs. refl) (omega arith, tt)
sort plan (Add a b) = plain (λ ms s s'. refl) (λ s cs. refl) tt
sort plan (Scale a c) = plain (λ ms s s'. refl) (λ s cs. refl) tt
sort plan (Offset a c) = plain (λ ms s s'. refl) (λ s cs. refl) tt
sort plan (Multiply a b) = sort_multiply plan a b plan.rule refl
sort plan Random = plain (λ ms s s'. refl) (λ s cs. refl) (ample_first plan.t suc (party_count plan))
sort plan (Spend a b) = plain (λ ms s s'. refl) (λ s cs. refl) tt

pub ample_less : (k m : ℕ) (ds : List Dealing) → k ≤ m → Ample m ds → Ample k ds
ample_less k m [] le am = tt
ample_less k m (d ∷ ds) le am = (omega (arith, am.0), ample_less k m ds le am.1)

-- the coins that a gate takes
abbrev pub taken : Plan → Gate → ℕ
taken plan g = length (coin_owners_at plan g)

pub taken_is : (plan : Plan) (g : Gate) → taken plan g ≡ total (dealings_at plan g)
unfolding coin_owners_at owners_of
taken_is plan g = length_owners (dealings_at plan g)

owners-is : (plan : Plan) (g : Gate) → coin_owners_at plan g ≡ owners_of (dealings_at plan g)
unfolding coin_owners_at owners_of
owners-is plan g = refl

pub record Step (plan : Plan) (ms : List ℕ) (g : Gate) (s s' : Before) : Type 0 where
  pub size : length (matched_at plan ms g s s') ≡ taken plan g
  pub canon : All (Canon plan.p) (matched_at plan ms g s s')
  pub back :
      (rest : List ℕ) → All (Canon plan.p) rest
      → matched_at plan ms g (with_coins (matched_at plan ms g s s' ++ rest) s') s ≡ take (taken plan g) s.coins
  pub own :
      (i : ℕ) → is_member i ms ≡ true → (os rest : List ℕ) → own_of i os rest ≡ own_of i os (drop (taken plan g) s.coins)
      → own_of i (coin_owners_at plan g ++ os) (matched_at plan ms g s s' ++ rest) ≡ own_of i (coin_owners_at plan g ++ os) s.coins

module _ (plan : Plan) (valid : Valid plan) (ms : List ℕ) (few : length ms ≤ plan.t) where
  pub gate_step :
      (g : Gate) (s s' : Before) → (is_kind 5 g ≡ true → plan.t + plan.t < party_count plan) → taken plan g ≤ length s.coins → All (Canon plan.p) s.coins
      → Step plan ms g s s'
  unfolding matched_at with_coins
  gate_step g s s' wide le can = go (sort plan g)
    where
      coins-enough : total (dealings_at plan g) ≤ length s.coins
      coins-enough = rw (← taken_is plan g) le

      go : Sort plan g → Step plan ms g s s'
      go (plain same dealt ample) =
          let am : Ample (length ms) (dealings_at plan g) = ample_less (length ms) plan.t (dealings_at plan g) few ample in
          let ss : List ℕ = dealt_at plan g s in
          let zs : List ℕ = dealt_at plan g s' in
          let ds : List Dealing = dealings_at plan g in
          let plainly : (r r' : Before) → matched_at plan ms g r r' ≡ matched_blocks plan ms ds (dealt_at plan g r) (dealt_at plan g r') r.coins =
          λ r r'.
          ap₂ (λ (x y : List ℕ). matched_blocks plan ms ds (dealt_at plan g r) x y) (dealt r' (absorbed plan ms g r r')) (same ms r r') in
          record {
            size = ap length (plainly s s') ∙ length_blocks plan ms valid.prime ds ss zs s.coins am coins-enough ∙ sym (taken_is plan g);
            canon = rw (plainly s s') (blocks-canon plan ms valid.prime ds ss zs s.coins am coins-enough can);
            back =
                λ rest rest_can.
                plainly (with_coins (matched_at plan ms g s s' ++ rest) s') s
                ∙ ap (λ (x : List ℕ). matched_blocks plan ms ds x ss (with_coins (matched_at plan ms g s s' ++ rest) s').coins) (dealt s' (matched_at plan ms g s s' ++ rest))
                ∙ ap (λ (x : List ℕ). matched_blocks plan ms ds zs ss (x ++ rest)) (plainly s s')
                ∙ blocks-back plan ms valid.prime ds ss zs s.coins rest am coins-enough can
                ∙ ap (λ (k : ℕ). take k s.coins) (sym (taken_is plan g));
            own =
                λ i m os rest e.
                ap₂ (λ (o x : List ℕ). own_of i (o ++ os) (x ++ rest)) (owners-is plan g) (plainly s s')
                ∙ own_blocks plan ms valid.prime i m ds os ss zs s.coins rest am coins-enough (e ∙ ap (λ (k : ℕ). own_of i os (drop k s.coins)) (taken_is plan g))
                ∙ ap (λ (o : List ℕ). own_of i (o ++ os) s.coins) (sym (owners-is plan g));
          }
      go (cut a b is by five) =
          let full : taken plan g ≡ 3 * plan.t * party_count plan =
          taken_is plan g ∙ ap (λ (x : Gate). total (dealings_at plan x)) is ∙ ap total (dealings_cut plan by a b) ∙ total_pairs plan.t suc (party_count plan) in
          let enough : 3 * plan.t * party_count plan ≤ length s.coins = rw (← full) le in
          let owners : coin_owners_at plan g ≡ owners_of (pairs plan.t suc (party_count plan)) =
          owners-is plan g ∙ ap owners_of (ap (dealings_at plan) is ∙ dealings_cut plan by a b) in
          let length-all : length (absorbed plan ms g s s') ≡ length s.coins = rw is (absorbed-length plan by a b valid ms few s s' enough can) in
          let canon-all : All (Canon plan.p) (absorbed plan ms g s s') = rw is (absorbed-all plan by a b valid ms few s s' enough can) in
          let am : Ample (length ms) (dealings_at plan g) = rw (is, dealings_cut plan by a b) (ample_pairs (length ms) plan.t suc (party_count plan) few) in
          let size : length (matched_at plan ms g s s') ≡ taken plan g =
          length_blocks plan ms valid.prime (dealings_at plan g) (dealt_at plan g s) (dealt_at plan g (with_coins (absorbed plan ms g s s') s'))
          (absorbed plan ms g s s') am (rw length-all coins-enough)
          ∙ sym (taken_is plan g) in
          let canon : All (Canon plan.p) (matched_at plan ms g s s') =
          blocks-canon plan ms valid.prime (dealings_at plan g) (dealt_at plan g s) (dealt_at plan g (with_coins (absorbed plan ms g s s') s'))
          (absorbed plan ms g s s') am (rw length-all coins-enough) canon-all in
          record {
            size = size;
            canon = canon;
            back = λ rest rest_can. rw (full, is) (cut-back plan by a b valid ms few s s' enough can (wide five) rest rest_can (rw (← is, ← full) size) (rw (← is) canon));
            own =
                λ i m os rest e.
                ap₂ (λ (o x : List ℕ). own_of i (o ++ os) (x ++ rest)) owners (ap (λ (x : Gate). matched_at plan ms x s s') is)
                ∙ cut-own plan by a b valid ms few s s' enough can i m os rest (rw (← is, ← full) size) (rw (← full) e)
                ∙ ap (λ (o : List ℕ). own_of i (o ++ os) s.coins) (sym owners);
          }

-- ---- a gate takes no coins but its own
dealt_prefix :
    (plan : Plan) (g : Gate) (s : Before) (cs rest : List ℕ) → taken plan g ≤ length cs → dealt_at plan g (with_coins (cs ++ rest) s) ≡ dealt_at plan g (with_coins cs s)
dealt_prefix plan g s cs rest le = go (sort plan g)
  where
    go : Sort plan g → dealt_at plan g (with_coins (cs ++ rest) s) ≡ dealt_at plan g (with_coins cs s)
    go (plain same dealt ample) = dealt s (cs ++ rest) ∙ sym (dealt s cs)
    go (cut a b is by five) =
        let full : taken plan g ≡ 3 * plan.t * party_count plan =
        taken_is plan g ∙ ap (λ (x : Gate). total (dealings_at plan x)) is ∙ ap total (dealings_cut plan by a b) ∙ total_pairs plan.t suc (party_count plan) in
        let enough : 3 * plan.t * party_count plan ≤ length cs = rw (← full) le in
        ap (λ (x : Gate). dealt_at plan x (with_coins (cs ++ rest) s)) is
        ∙ dealt_cut plan by a b (with_coins (cs ++ rest) s)
        ∙ ap (λ (f : ℕ → ℕ). flat_map (λ x. 0 ∷ f x ∷ []) (tab (λ j. get_or plan.points j 0) (party_count plan)))
        (fun_ext (masked_ext plan by a b s (cs ++ rest) cs (λ j l. z_prefix plan.t (party_count plan) cs enough j l rest)))
        ∙ sym (dealt_cut plan by a b (with_coins cs s))
        ∙ ap (λ (x : Gate). dealt_at plan x (with_coins cs s)) (sym is)

pub pieces_prefix :
    (plan : Plan) (g : Gate) (s : Before) (cs rest : List ℕ) → taken plan g ≤ length cs → (x : ℕ)
    → pieces_at plan g (with_coins (cs ++ rest) s) x ≡ pieces_at plan g (with_coins cs s) x
unfolding pieces_at with_coins
pieces_prefix plan g s cs rest le x =
    ap (λ (l : List ℕ). map (λ f. eval plan.p f x) (sharings (dealings_at plan g) l (cs ++ rest))) (dealt_prefix plan g s cs rest le)
    ∙ ap (map (λ f. eval plan.p f x)) (sharings_prefix (dealings_at plan g) (dealt_at plan g (with_coins cs s)) cs rest (rw (← taken_is plan g) le))

multiply_prefix :
    (plan : Plan) (a b : ℕ) (s s' : Before) → ((x : ℕ) → pieces_at plan (Multiply a b) s x ≡ pieces_at plan (Multiply a b) s' x)
    → (r : Rule) (x : ℕ) → multiply_share plan r (Multiply a b) s x ≡ multiply_share plan r (Multiply a b) s' x
unfolding multiply_share truncated_at
multiply_prefix plan a b s s' h Reduction x = ap (dot plan.p (weights plan.p 0 (dealer_points plan))) (h x)
multiply_prefix plan a b s s' h Truncation x =
    ap (λ (f : ℕ → ℕ). opened plan.p plan.t plan.points (map f plan.points))
    (fun_ext (λ y. ap (λ (l : List ℕ). dot plan.p (row plan.p plan.t plan.points x) (from_each (party_count plan) 2 1 l)) (h y)))

input_taken : (plan : Plan) (i : ℕ) → total (dealings_at plan (Input i)) ≡ plan.t
unfolding dealings_at total
input_taken plan i = omega arith

pub share_prefix :
    (plan : Plan) (g : Gate) (s : Before) (cs rest : List ℕ) → taken plan g ≤ length cs
    → gate_share plan g (with_coins (cs ++ rest) s) ≡ gate_share plan g (with_coins cs s)
unfolding gate_share with_coins difference_of difference_at
share_prefix plan (Input i) s cs rest le =
    fun_ext (λ x. ap (λ l. eval plan.p (get_or s.inputs 0 0 ∷ l) x) (take-append-le plan.t cs rest (omega (arith, taken_is plan (Input i), input_taken plan i))))
share_prefix plan (Add a b) s cs rest le = refl
share_prefix plan (Scale a c) s cs rest le = refl
share_prefix plan (Offset a c) s cs rest le = refl
share_prefix plan (Multiply a b) s cs rest le =
    fun_ext (multiply_prefix plan a b (with_coins (cs ++ rest) s) (with_coins cs s) (pieces_prefix plan (Multiply a b) s cs rest le) plan.rule)
share_prefix plan Random s cs rest le = fun_ext (λ x. ap (sum_all plan.p) (pieces_prefix plan Random s cs rest le x))
share_prefix plan (Spend a b) s cs rest le = refl
