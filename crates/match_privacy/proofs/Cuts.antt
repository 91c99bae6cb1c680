-- The coins of a multiply by truncation, party by party, before and after the matching.
--     z_at, k_at                       party j + 1's 2t coins and its t coins
--     cut-whole                      all of them
--     absorbed-zeros, absorbed-masks, length-absorbed, absorbed-canon
--     blocks_pairs                   the blocks, party by party
-- Assumes nothing.
use mathlib.Core.Path.{◌≡◌, refl, sym, ap, ap₂, ◌∙◌}
use mathlib.Core.Logic.{◌≢◌}
use mathlib.Core.Bool.{Bool, true, false, cond}
use mathlib.Core.List.{List, [], ◌∷◌, ◌++◌, map, flat_map, append_assoc}
use Prim.Native.Nat.{ℕ, zero, suc, ◌+◌, ◌-◌, ◌*◌, ◌≤◌, ◌<◌}
use native.Mathlib.Decide.{dec_le}
use native.Mathlib.Nat.{mul-zero, mul-suc}
use native.Mathlib.Omega.{arith}
use borrow.Author.Tests.{eqb-true, eqb-false}
use lib.Dec.{eqb}
use lib.ListN.{length, take, drop, length-map, length-drop}
use lib.Seq.{drop-drop, take-add, length-take-le}
use Rattle.numbers.specs.Tables.{tab}
use Rattle.field.specs.Mod.{sub}
use Rattle.field.specs.Prime.{Prime}
use Rattle.field.proofs.Solve.{Canon, #, quote, solve}
use Rattle.field.proofs.Inverse.{pos}
use Rattle.sharing_laws.specs.Interp.{All}
use Rattle.sharing_laws.specs.Sharing.{matched}
use Rattle.sharing_laws.proofs.Alls.{all_append, all_take, all_drop}
use Rattle.sharing_laws.specs.Basis.{matched_zero}
use Rattle.sharing_laws.proofs.Zeros.{length-zero, zero-canon-all, matched-none}
use Rattle.match_privacy.specs.Matching.{is_member, matched_blocks, zero_matched}
use Rattle.sharing_laws.proofs.Lists.{flat_map-tabs}
use Rattle.plan.specs.declared.Dealing.{Dealing}
use Rattle.plan.specs.Plans.{Plan, party_count, point_of}
use Rattle.match_privacy.proofs.Blocks.{total, matched_block, blocks-cons, Ample}
use Rattle.match_privacy.proofs.Splices.{step-le, splice-low, splice_at, splice-high, length-splice}

unfoldable pub z_at : ℕ → List ℕ → ℕ → List ℕ
z_at t cs j = take (t + t) (drop (3 * t * j) cs)

unfoldable pub k_at : ℕ → List ℕ → ℕ → List ℕ
k_at t cs j = take t (drop (3 * t * j + (t + t)) cs)

past_one : (t : ℕ) (cs : List ℕ) (k k' : ℕ) → (t + t) + (t + k) ≡ k' → drop k (drop t (drop (t + t) cs)) ≡ drop k' cs
past_one t cs k k' e = drop-drop k t (drop (t + t) cs) ∙ drop-drop (t + k) (t + t) cs ∙ ap (λ (i : ℕ). drop i cs) e

pub z_next : (t : ℕ) (cs : List ℕ) (j : ℕ) → z_at t (drop t (drop (t + t) cs)) j ≡ z_at t cs (suc j)
unfolding z_at
z_next t cs j = ap (take (t + t)) (past_one t cs (3 * t * j) (3 * t * suc j) (omega (arith, mul-suc (3 * t) j)))

pub k_next : (t : ℕ) (cs : List ℕ) (j : ℕ) → k_at t (drop t (drop (t + t) cs)) j ≡ k_at t cs (suc j)
unfolding k_at
k_next t cs j = ap (take t) (past_one t cs (3 * t * j + (t + t)) (3 * t * suc j + (t + t)) (omega (arith, mul-suc (3 * t) j)))

pub z_first : (t : ℕ) (cs : List ℕ) → take (t + t) cs ≡ z_at t cs 0
unfolding z_at
z_first t cs = ap (λ (k : ℕ). take (t + t) (drop k cs)) (sym (mul-zero (3 * t)))

pub k_first : (t : ℕ) (cs : List ℕ) → take t (drop (t + t) cs) ≡ k_at t cs 0
unfolding k_at
k_first t cs = let e : t + t ≡ 3 * t * 0 + (t + t) = omega (arith, mul-zero (3 * t)) in ap (λ (k : ℕ). take t (drop k cs)) e

-- the pairs of dealings, by the parties d 0, d 1, ..
abbrev pub pairs : ℕ → (ℕ → ℕ) → ℕ → List Dealing
pairs t d n = flat_map (λ i. record { dealer = i; coins = t + t } ∷ record { dealer = i; coins = t } ∷ []) (tab d n)

pub total_pairs : (t : ℕ) (d : ℕ → ℕ) (n : ℕ) → total (pairs t d n) ≡ 3 * t * n
unfolding total tab flat_map
total_pairs t d zero = sym (mul-zero (3 * t))
total_pairs t d (suc n) = omega (arith, total_pairs t (λ i. d (suc i)) n, mul-suc (3 * t) n)

pub ample_pairs : (k t : ℕ) (d : ℕ → ℕ) (n : ℕ) → k ≤ t → Ample k (pairs t d n)
unfolding tab flat_map
ample_pairs k t d zero le = tt
ample_pairs k t d (suc n) le = (omega arith, (le, ample_pairs k t (λ i. d (suc i)) n le))

pub cut-whole : (t n : ℕ) (cs : List ℕ) → take (3 * t * n) cs ≡ flat_map (λ j. z_at t cs j ++ k_at t cs j) (tab (λ j. j) n)
unfolding tab flat_map
cut-whole t zero cs = ap (λ (k : ℕ). take k cs) (mul-zero (3 * t))
cut-whole t (suc n) cs =
    let e : 3 * t * suc n ≡ (t + t) + (t + 3 * t * n) = omega (arith, mul-suc (3 * t) n) in
    let later : List ℕ = take (3 * t * n) (drop t (drop (t + t) cs)) in
    ap (λ (k : ℕ). take k cs) e ∙ take-add (t + t) (t + 3 * t * n) cs ∙ ap (λ (l : List ℕ). take (t + t) cs ++ l) (take-add t (3 * t * n) (drop (t + t) cs))
    ∙ sym (append_assoc (take (t + t) cs) (take t (drop (t + t) cs)) later)
    ∙ ap₂ (λ (x y : List ℕ). (x ++ y) ++ later) (z_first t cs) (k_first t cs)
    ∙ ap (λ (l : List ℕ). (z_at t cs 0 ++ k_at t cs 0) ++ l)
    (cut-whole t n (drop t (drop (t + t) cs))
    ∙ flat_map-tabs (λ j. z_at t (drop t (drop (t + t) cs)) j ++ k_at t (drop t (drop (t + t) cs)) j) (λ j. z_at t cs j ++ k_at t cs j) (λ j. j) (λ j. suc j) n
    (λ j l. ap₂ (λ (x y : List ℕ). x ++ y) (z_next t cs j) (k_next t cs j)))

-- ---- the coins with the change taken up by party l
module _ (plan : Plan) (prime : Prime plan.p) (ms f cs : List ℕ) (l : ℕ) (from1 : 1 ≤ l) (upto : l ≤ party_count plan) (few : length ms ≤ plan.t + plan.t)
    (short : length f ≤ suc (plan.t + plan.t)) (enough : 3 * plan.t * party_count plan ≤ length cs) where
  abbrev p : ℕ
  p = plan.p

  abbrev t : ℕ
  t = plan.t

  abbrev new : List ℕ
  new = matched_zero plan.p (map (point_of plan) ms) f (take (plan.t + plan.t) (drop (3 * plan.t * (l - 1)) cs))

  room : 3 * t * (l - 1) + 3 * t ≤ length cs
  room = omega (arith, step-le (3 * t) (l - 1) (party_count plan) (omega arith))

  had : length (take (t + t) (drop (3 * t * (l - 1)) cs)) ≡ t + t
  had = length-take-le (t + t) (drop (3 * t * (l - 1)) cs) (omega (arith, length-drop (3 * t * (l - 1)) cs, room))

  few_points : length (map (point_of plan) ms) ≤ length (take (t + t) (drop (3 * t * (l - 1)) cs))
  few_points = omega (arith, had, length-map ms (point_of plan))

  short-enough : length f ≤ suc (length (take (t + t) (drop (3 * t * (l - 1)) cs)))
  short-enough = omega (arith, had)

  size : length new ≡ t + t
  size = length-zero prime (map (point_of plan) ms) f (take (t + t) (drop (3 * t * (l - 1)) cs)) few_points short-enough ∙ had

  fits : 3 * t * (l - 1) + (t + t) ≤ length cs
  fits = omega (arith, room)

  pub length-absorbed : length (zero_matched plan ms l f cs) ≡ length cs
  unfolding zero_matched
  length-absorbed = length-splice cs new (3 * t * (l - 1)) (t + t) size fits

  pub absorbed-canon : All (Canon p) cs → All (Canon p) (zero_matched plan ms l f cs)
  unfolding zero_matched
  absorbed-canon can =
      all_append (Canon p) (take (3 * t * (l - 1)) cs) _ (all_take (Canon p) (3 * t * (l - 1)) cs can)
      (all_append (Canon p) new (drop (3 * t * (l - 1) + (t + t)) cs)
      (zero-canon-all prime (map (point_of plan) ms) f (take (t + t) (drop (3 * t * (l - 1)) cs)) few_points short-enough
      (all_take (Canon p) (t + t) _ (all_drop (Canon p) (3 * t * (l - 1)) cs can)))
      (all_drop (Canon p) (3 * t * (l - 1) + (t + t)) cs can))

  pub absorbed-zeros :
      (i : ℕ) → 1 ≤ i → z_at t (zero_matched plan ms l f cs) (i - 1)
      ≡ cond (eqb i l) (matched_zero p (map (point_of plan) ms) f (z_at t cs (i - 1))) (z_at t cs (i - 1))
  unfolding z_at zero_matched
  absorbed-zeros i one = pick (eqb i l) refl (dec_le (suc i) l)
    where
      pick :
          (b : Bool) → eqb i l ≡ b → Dec (suc i ≤ l)
          → take (t + t) (drop (3 * t * (i - 1)) (take (3 * t * (l - 1)) cs ++ (new ++ drop (3 * t * (l - 1) + (t + t)) cs)))
          ≡ cond b (matched_zero p (map (point_of plan) ms) f (take (t + t) (drop (3 * t * (i - 1)) cs))) (take (t + t) (drop (3 * t * (i - 1)) cs))
      pick true e d =
          rw (eqb-true i l e)
          (splice_at cs new (3 * t * (l - 1)) (t + t) size fits)
      pick false e (yes less) =
          splice-low cs new (3 * t * (l - 1)) (t + t) size fits (3 * t * (i - 1)) (t + t) (omega (arith, step-le (3 * t) (i - 1) (l - 1) (omega arith)))
      pick false e (no more) =
          let ne : i ≢ l = eqb-false i l e in
          ap (take (t + t)) (splice-high cs new (3 * t * (l - 1)) (t + t) size fits (3 * t * (i - 1)) (omega (arith, step-le (3 * t) (l - 1) (i - 1) (omega arith))))

  pub absorbed-masks : (i : ℕ) → 1 ≤ i → k_at t (zero_matched plan ms l f cs) (i - 1) ≡ k_at t cs (i - 1)
  unfolding k_at zero_matched
  absorbed-masks i one = pick (eqb i l) refl (dec_le (suc i) l)
    where
      pick :
          (b : Bool) → eqb i l ≡ b → Dec (suc i ≤ l)
          → take t (drop (3 * t * (i - 1) + (t + t)) (take (3 * t * (l - 1)) cs ++ (new ++ drop (3 * t * (l - 1) + (t + t)) cs)))
          ≡ take t (drop (3 * t * (i - 1) + (t + t)) cs)
      pick true e d =
          rw (eqb-true i l e) (ap (take t) (splice-high cs new (3 * t * (l - 1)) (t + t) size fits (3 * t * (l - 1) + (t + t)) (omega arith)))
      pick false e (yes less) =
          splice-low cs new (3 * t * (l - 1)) (t + t) size fits (3 * t * (i - 1) + (t + t)) t (omega (arith, step-le (3 * t) (i - 1) (l - 1) (omega arith)))
      pick false e (no more) =
          let ne : i ≢ l = eqb-false i l e in
          ap (take t) (splice-high cs new (3 * t * (l - 1)) (t + t) size fits (3 * t * (i - 1) + (t + t)) (omega (arith, step-le (3 * t) (l - 1) (i - 1) (omega arith))))

-- ---- the blocks, party by party
-- a dealing whose value stays keeps its coins
pub block_none :
    (plan : Plan) (ms : List ℕ) → Prime plan.p → (d s : ℕ) (cs : List ℕ) → length ms ≤ length cs → All (Canon plan.p) cs → matched_block plan ms d s s cs ≡ cs
unfolding matched_block
block_none plan ms prime d s cs le can = pick (is_member d ms)
  where
    zero_is : sub plan.p s s ≡ 0
    zero_is = let pos : 0 < plan.p = pos prime in solve plan.p (search (quote, # s)) (omega arith)

    pick : (b : Bool) → cond b cs (matched plan.p (map (point_of plan) ms) (sub plan.p s s) cs) ≡ cs
    pick true = refl
    pick false =
        ap (λ (e : ℕ). matched plan.p (map (point_of plan) ms) e cs) zero_is
        ∙ matched-none prime (map (point_of plan) ms) cs (omega (arith, length-map ms (point_of plan))) can

pub blocks_pairs :
    (plan : Plan) (ms : List ℕ) (d m m' x : ℕ → ℕ) (n : ℕ) (cs : List ℕ)
    → matched_blocks plan ms (pairs plan.t d n) (flat_map (λ z. 0 ∷ m z ∷ []) (tab x n)) (flat_map (λ z. 0 ∷ m' z ∷ []) (tab x n)) cs
    ≡ flat_map (λ j. matched_block plan ms (d j) 0 0 (z_at plan.t cs j) ++ matched_block plan ms (d j) (m (x j)) (m' (x j)) (k_at plan.t cs j)) (tab (λ j. j) n)
unfolding tab flat_map matched_blocks
blocks_pairs plan ms d m m' x zero cs = refl
blocks_pairs plan ms d m m' x (suc n) cs =
    let t : ℕ = plan.t in
    let rest : List ℕ = drop t (drop (t + t) cs) in
    let ds : List Dealing = pairs t (λ i. d (suc i)) n in
    let ss : List ℕ = flat_map (λ z. 0 ∷ m z ∷ []) (tab (λ i. x (suc i)) n) in
    let zs : List ℕ = flat_map (λ z. 0 ∷ m' z ∷ []) (tab (λ i. x (suc i)) n) in
    let first : List ℕ = matched_block plan ms (d 0) 0 0 (take (t + t) cs) in
    let second : List ℕ = matched_block plan ms (d 0) (m (x 0)) (m' (x 0)) (take t (drop (t + t) cs)) in
    blocks-cons plan ms (record { dealer = d 0; coins = t + t }) (record { dealer = d 0; coins = t } ∷ ds) (0 ∷ m (x 0) ∷ ss) (0 ∷ m' (x 0) ∷ zs) cs
    ∙ ap (λ (l : List ℕ). first ++ l) (blocks-cons plan ms (record { dealer = d 0; coins = t }) ds (m (x 0) ∷ ss) (m' (x 0) ∷ zs) (drop (t + t) cs))
    ∙ sym (append_assoc first second (matched_blocks plan ms ds ss zs rest))
    ∙ ap₂ (λ (u v : List ℕ). (matched_block plan ms (d 0) 0 0 u ++ matched_block plan ms (d 0) (m (x 0)) (m' (x 0)) v) ++ matched_blocks plan ms ds ss zs rest) (z_first t cs) (k_first t cs)
    ∙ ap (λ (l : List ℕ). (matched_block plan ms (d 0) 0 0 (z_at t cs 0) ++ matched_block plan ms (d 0) (m (x 0)) (m' (x 0)) (k_at t cs 0)) ++ l)
    (blocks_pairs plan ms (λ i. d (suc i)) m m' (λ i. x (suc i)) n rest
    ∙ flat_map-tabs
    (λ j. matched_block plan ms (d (suc j)) 0 0 (z_at t rest j) ++ matched_block plan ms (d (suc j)) (m (x (suc j))) (m' (x (suc j))) (k_at t rest j))
    (λ j. matched_block plan ms (d j) 0 0 (z_at t cs j) ++ matched_block plan ms (d j) (m (x j)) (m' (x j)) (k_at t cs j)) (λ j. j) (λ j. suc j) n
    (λ j l. ap₂ (λ (u v : List ℕ). matched_block plan ms (d (suc j)) 0 0 u ++ matched_block plan ms (d (suc j)) (m (x (suc j))) (m' (x (suc j))) v) (z_next t cs j) (k_next t cs j)))
