-- The coins of a multiply by truncation, moved as the code has them, are the matched coins.
--     gained           the dealing of 0 that takes up the change
--     masked-block     a dealing of a masked product
--     truncated-are    all of them
-- Assumes nothing.
use mathlib.Core.Path.{◌≡◌, refl, sym, ap, ap₂, ◌∙◌}
use mathlib.Core.Bool.{Bool, true, false, cond}
use mathlib.Core.List.{List, [], ◌∷◌, ◌++◌, map, tail}
use Prim.Native.Nat.{ℕ, zero, suc, ◌+◌, ◌*◌, ◌<◌, ◌≤◌}
use native.Mathlib.Omega.{arith}
use lib.Dec.{eqb}
use lib.ListN.{length, get_or, take, drop, length-map}
use lib.Seq.{ext_get_or, drop-drop}
use Rattle.numbers.specs.Tables.{tab}
use Rattle.numbers.proofs.Tables.{length-tab, get_or-tab}
use Rattle.field.specs.Mod.{add, mul, sub}
use Rattle.field.proofs.Solve.{Canon, zero_canon, #, quote, solve}
use Rattle.field.proofs.Inverse.{pos}
use Rattle.sharing_laws.specs.Poly.{eval, sum_of, scale}
use Rattle.sharing_laws.specs.Interp.{All, delta}
use Rattle.sharing_laws.specs.Sharing.{matched}
use Rattle.sharing_laws.specs.Basis.{matched_zero}
use Rattle.sharing_laws.proofs.Polys.{length_sum, length-scale}
use Rattle.sharing_laws.proofs.Zeros.{sum_canons, scale_canons, length-zero}
use Rattle.sharing_laws.proofs.Lists.{all_get_d, get_or-map-in, flat_map-tabs}
use Rattle.plan.specs.declared.Rule.TheVariants.{Truncation}
use Rattle.plan.specs.declared.Gate.TheVariants.{Multiply}
use Rattle.plan.specs.Plans.{Plan, party_count, point_of}
use Rattle.plan.proofs.Valid.{Valid}
use Rattle.plan_coalition.specs.Coalitions.{in_set, members, set_ok}
use Rattle.run_protocol.specs.Shares.{Before}
use Rattle.match_privacy.specs.Matching.{lowest, change_of, matched_at}
use Rattle.match_privacy.proofs.Blocks.{matched_block}
use Rattle.match_privacy.proofs.Cuts.{z_at, k_at}
use Rattle.match_privacy.proofs.SetMembers.{set_few}
use Rattle.match_privacy.proofs.Matches.{z-length, z_canon, k-length, k_canon, up, old, new, mask_new, zeros-up, rows_new}
use Rattle.match_moves.specs.Moves.{moved, change_of as coin_change}
use Rattle.match_moves.specs.Truncations.{gain_of, gains_of, zero_row, mask_change_of, party_row, party_at, party_rows, truncated_coins}
use Rattle.match_call.specs.MatchSteps.{delta_tail, spares_of, Follows}
use Rattle.match_call.proofs.MemberLaws.{tail-entry, block-is}

-- ---- entries
get_or-sum : (p : ℕ) → 0 < p → (f g : List ℕ) (i : ℕ) → All (Canon p) f → All (Canon p) g → get_or (sum_of p f g) i 0 ≡ add p (get_or f i 0) (get_or g i 0)
unfolding sum_of
get_or-sum p above [] g i cf cg =
    let is : Canon p (get_or g i 0) = all_get_d (Canon p) g i 0 zero_canon cg in solve p (search (quote, is, # (get_or g i 0))) (omega arith)
get_or-sum p above (a ∷ f) [] zero cf cg = solve p (search (quote, cf.0, # a)) (omega arith)
get_or-sum p above (a ∷ f) [] (suc i) cf cg =
    let is : Canon p (get_or f i 0) = all_get_d (Canon p) f i 0 zero_canon cf.1 in solve p (search (quote, is, # (get_or f i 0))) (omega arith)
get_or-sum p above (a ∷ f) (b ∷ g) zero cf cg = refl
get_or-sum p above (a ∷ f) (b ∷ g) (suc i) cf cg = get_or-sum p above f g i cf.1 cg.1

get_or-scale : (p : ℕ) → 0 < p → (c : ℕ) (f : List ℕ) (i : ℕ) → get_or (scale p c f) i 0 ≡ mul p c (get_or f i 0)
unfolding scale
get_or-scale p above c [] i = solve p (search (quote, # c)) (omega arith)
get_or-scale p above c (a ∷ f) zero = refl
get_or-scale p above c (a ∷ f) (suc i) = get_or-scale p above c f i

get_or-tail : (f : List ℕ) (i : ℕ) → get_or (tail f) i 0 ≡ get_or f (i + 1) 0
get_or-tail [] i = refl
get_or-tail (a ∷ f) i = let e : suc i ≡ i + 1 = omega arith in ap (λ (k : ℕ). get_or (a ∷ f) k 0) e

module _ (plan : Plan) (valid : Valid plan) (set : ℕ) (ok : set_ok plan set ≡ true) where
  abbrev p : ℕ
  p = plan.p

  abbrev t : ℕ
  t = plan.t

  abbrev ms : List ℕ
  ms = members set

  abbrev pts : List ℕ
  pts = map (point_of plan) (members set)

  abbrev es : List ℕ
  es = delta_tail plan set

  above : 0 < plan.p
  above = pos valid.prime

  few : length (members set) ≤ plan.t
  few = set_few plan set ok

  -- ---- the dealing of 0 that takes up the change
  one-coin :
      (z f d e : ℕ) → add p z (mul p 1 (sub p (mul p d e) f)) ≡ add p (add p z (mul p (sub p 0 1) f)) (mul p d e)
  one-coin z f d e = let up : 0 < p = above in solve p (search (quote, # z, # f, # d, # e) depth 9) (omega arith)

  gained : (f z : List ℕ) → length z ≡ t + t → length f ≤ suc (t + t) → All (Canon p) z → moved p 1 (gains_of p (t + t) es f) z ≡ matched_zero p pts f z
  unfolding moved matched_zero matched gains_of gain_of
  gained f z long short can =
      let c : ℕ = get_or f 0 0 in
      let gains : List ℕ = tab (λ j. sub p (mul p (get_or f 0 0) (get_or es j 0)) (get_or f (j + 1) 0)) (t + t) in
      let taken : List ℕ = sum_of p z (scale p (sub p 0 1) (tail f)) in
      let more : List ℕ = scale p c (tail (delta p pts)) in
      let some : length pts ≤ length z = omega (arith, length-map (members set) (point_of plan), few) in
      let whole : length (matched_zero p pts f z) ≡ length z = length-zero valid.prime pts f z some (omega arith) in
      let left : length (sum_of p z (scale p 1 gains)) ≡ t + t
      = omega (arith, length_sum p z (scale p 1 gains), length-scale p 1 gains, length-tab (λ j. sub p (mul p (get_or f 0 0) (get_or es j 0)) (get_or f (j + 1) 0)) (t + t)) in
      let right : length (sum_of p taken more) ≡ t + t = whole ∙ long in
      ext_get_or 0 (sum_of p z (scale p 1 gains)) (sum_of p taken more) (left ∙ sym right)
      (λ j l.
      let lt : j < t + t = omega (arith, left) in
      get_or-sum p above z (scale p 1 gains) j can (scale_canons p 1 gains)
      ∙ ap (add p (get_or z j 0))
      (get_or-scale p above 1 gains j ∙ ap (mul p 1) (get_or-tab (λ j. sub p (mul p (get_or f 0 0) (get_or es j 0)) (get_or f (j + 1) 0)) (t + t) j 0 lt))
      ∙ one-coin (get_or z j 0) (get_or f (j + 1) 0) c (get_or es j 0)
      ∙ sym (get_or-sum p above taken more j (sum_canons p z (scale p (sub p 0 1) (tail f)) can (scale_canons p (sub p 0 1) (tail f))) (scale_canons p c (tail (delta p pts)))
      ∙ ap₂ (add p)
      (get_or-sum p above z (scale p (sub p 0 1) (tail f)) j can (scale_canons p (sub p 0 1) (tail f))
      ∙ ap (add p (get_or z j 0)) (get_or-scale p above (sub p 0 1) (tail f) j ∙ ap (mul p (sub p 0 1)) (get_or-tail f j)))
      (get_or-scale p above c (tail (delta p pts)) j ∙ ap (mul p c) (sym (tail-entry plan valid set ok j)))))

  -- ---- a dealing of a masked product
  change-is : (member : Bool) (e d s z : ℕ) → z ≡ add p s (mul p e d) → cond member 0 (mul p e d) ≡ coin_change p member s z
  unfolding coin_change
  change-is true e d s z h = refl
  change-is false e d s z h = let up : 0 < p = above in rw h (solve p (search (quote, # s, # e, # d)) (omega arith))

  module _ (a b : ℕ) (by : plan.rule ≡ Truncation) (s s' : Before) (enough : 3 * plan.t * party_count plan ≤ length s.coins) (can : All (Canon plan.p) s.coins)
      (follows : Follows plan (members set) (Multiply a b) s s') (small : party_count plan ≤ 15) (short : length (change_of plan s s' a b) ≤ suc (plan.t + plan.t)) where
    abbrev n : ℕ
    n = party_count plan

    abbrev cs : List ℕ
    cs = s.coins

    abbrev change : List ℕ
    change = change_of plan s s' a b

    masked-block :
        (j : ℕ) → j < n → (k : List ℕ) → length k ≡ t → All (Canon p) k
        → moved p (mask_change_of p set (spares_of plan set) (get_or change 0 0) j) es k
        ≡ matched_block plan ms (suc j) (old plan by a b valid ms few s s' enough can (get_or plan.points j 0)) (new plan by a b valid ms few s s' enough can (get_or plan.points j 0)) k
    unfolding mask_change_of spares_of party_count
    masked-block j l k long kc =
        let o : ℕ = old plan by a b valid ms few s s' enough can (get_or plan.points j 0) in
        let w : ℕ = new plan by a b valid ms few s s' enough can (get_or plan.points j 0) in
        let e : ℕ = get_or change 0 0 in
        let d : ℕ = eval p (delta p pts) (get_or plan.points j 0) in
        ap (λ (x : ℕ). moved p x es k)
        (ap (λ (x : ℕ). cond (in_set set (suc j)) 0 (mul p e x)) (get_or-map-in (eval p (delta p pts)) plan.points j 0 0 l)
        ∙ change-is (in_set set (suc j)) e d o w (follows.masked a b j refl by))
        ∙ block-is plan valid set ok (suc j) o w k (omega arith) (omega (arith, small)) long kc

    zero-block :
        (j : ℕ) → j < n
        → zero_row p t (lowest plan ms) (gains_of p (t + t) es change) (drop (3 * t * j) cs) j ≡ z_at t (up plan by a b valid ms few s s' enough can) j
    unfolding zero_row z_at
    zero-block j l =
        let z : List ℕ = take (t + t) (drop (3 * t * j) cs) in
        ap (λ (g : List ℕ). cond (eqb (suc j) (lowest plan ms)) g z)
        (gained change z (unfold z_at in z-length t n cs enough j l) short (unfold z_at in z_canon p t cs j can))
        ∙ sym (unfold z_at in zeros-up plan by a b valid ms few s s' enough can j)

    pub truncated-are :
        truncated_coins p n t set (lowest plan ms) es (spares_of plan set) change cs ≡ matched_at plan ms (Multiply a b) s s'
    unfolding truncated_coins party_rows party_at party_row k_at
    truncated-are =
        flat_map-tabs (λ j. party_row p t set (lowest plan ms) es (spares_of plan set) (get_or change 0 0) (gains_of p (t + t) es change) (drop (3 * t * j) cs) j)
        (λ j. z_at t (up plan by a b valid ms few s s' enough can) j ++ mask_new plan by a b valid ms few s s' enough can j) (λ j. j) (λ j. j) n
        (λ j l. ap₂ (λ (x y : List ℕ). x ++ y) (zero-block j l)
        (ap (λ (k : List ℕ). moved p (mask_change_of p set (spares_of plan set) (get_or change 0 0) j) es (take t k)) (drop-drop (t + t) (3 * t * j) cs)
        ∙ masked-block j l (k_at t cs j) (k-length t n cs enough j l) (k_canon p t cs j can)))
        ∙ sym (rows_new plan by a b valid ms few s s' enough can)
