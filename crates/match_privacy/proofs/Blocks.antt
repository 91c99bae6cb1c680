-- The matched coins in blocks, one for each dealing.
--     total, length_owners, total-append            the coins of dealings
--     length_block, block-canon, block_back         one dealing's
--     length_blocks, blocks-canon, blocks-back      those of a gate
--     own_part, own_blocks                          a member's coins stay
--     sharings_prefix                               dealings take no coins but their own
-- Assumes nothing.
use mathlib.Core.Path.{◌≡◌, refl, sym, ap, ap₂, ◌∙◌}
use mathlib.Core.Bool.{Bool, true, false, cond}
use mathlib.Core.List.{List, [], ◌∷◌, ◌++◌, map, flat_map, append_assoc}
use Prim.Native.Nat.{ℕ, zero, suc, ◌+◌, ◌≤◌, ◌<◌}
use native.Mathlib.Omega.{arith}
use borrow.Author.Tests.{eqb-true}
use lib.Dec.{eqb}
use lib.ListN.{length, take, drop, get_or, replicate, length-map, length-append, length-drop, length-replicate, take-append-drop}
use lib.Seq.{length-take-le, take-append-le, drop-append-le, take_at, drop_at, take-add, drop-drop}
use Rattle.field.specs.Mod.{sub}
use Rattle.field.specs.Prime.{Prime}
use Rattle.field.proofs.Solve.{Canon, #, quote, solve}
use Rattle.field.proofs.Inverse.{pos}
use Rattle.sharing_laws.specs.Interp.{All}
use Rattle.sharing_laws.specs.Sharing.{matched}
use Rattle.sharing_laws.proofs.Shares.{length-matched, matched-canon, matched-back}
use Rattle.sharing_laws.proofs.Alls.{all_append, all_take, all_drop}
use Rattle.match_privacy.specs.Matching.{is_member, matched_blocks}
use Rattle.plan.specs.declared.Dealing.{Dealing}
use Rattle.plan.specs.Plans.{Plan, point_of, own_of}
use Rattle.run_protocol.specs.Shares.{sharings}

-- ---- the coins of dealings
unfoldable pub total : List Dealing → ℕ
total [] = 0
total (d ∷ ds) = d.coins + total ds

unfoldable pub owners_of : List Dealing → List ℕ
owners_of ds = flat_map (λ d. replicate d.coins d.dealer) ds

pub length_owners : (ds : List Dealing) → length (owners_of ds) ≡ total ds
unfolding owners_of total flat_map
length_owners [] = refl
length_owners (d ∷ ds) =
    length-append (replicate d.coins d.dealer) (owners_of ds) ∙ ap₂ ◌+◌ (length-replicate d.coins d.dealer) (length_owners ds)

pub total-append : (ds es : List Dealing) → total (ds ++ es) ≡ total ds + total es
unfolding total
total-append [] es = omega arith
total-append (d ∷ ds) es = omega (arith, total-append ds es)

-- each takes k coins or more
abbrev pub Ample : ℕ → List Dealing → Type 0
Ample k [] = Unit
Ample k (d ∷ ds) = (k ≤ d.coins) × Ample k ds

-- ---- one dealing by d, of s in the first run and of z in the matched run
unfoldable pub matched_block : Plan → List ℕ → ℕ → ℕ → ℕ → List ℕ → List ℕ
matched_block plan ms d s z cs = cond (is_member d ms) cs (matched plan.p (map (point_of plan) ms) (sub plan.p z s) cs)

pub blocks-cons :
    (plan : Plan) (ms : List ℕ) (d : Dealing) (ds : List Dealing) (ss zs cs : List ℕ)
    → matched_blocks plan ms (d ∷ ds) ss zs cs
    ≡ matched_block plan ms d.dealer (get_or ss 0 0) (get_or zs 0 0) (take d.coins cs) ++ matched_blocks plan ms ds (drop 1 ss) (drop 1 zs) (drop d.coins cs)
unfolding matched_blocks matched_block
blocks-cons plan ms d ds ss zs cs = refl

pub block_member : (plan : Plan) (ms : List ℕ) (d s z : ℕ) (cs : List ℕ) → is_member d ms ≡ true → matched_block plan ms d s z cs ≡ cs
unfolding matched_block
block_member plan ms d s z cs m = rw m

pub block_other :
    (plan : Plan) (ms : List ℕ) (d s z : ℕ) (cs : List ℕ) → is_member d ms ≡ false
    → matched_block plan ms d s z cs ≡ matched plan.p (map (point_of plan) ms) (sub plan.p z s) cs
unfolding matched_block
block_other plan ms d s z cs m = rw m

cond_cases : {A : Type 0} (P : A → Type 0) (b : Bool) (x y : A) → P x → P y → P (cond b x y)
cond_cases P true x y h k = h
cond_cases P false x y h k = k

module _ (plan : Plan) (ms : List ℕ) (prime : Prime plan.p) where
  few_points : (cs : List ℕ) → length ms ≤ length cs → length (map (point_of plan) ms) ≤ length cs
  few_points cs e = omega (arith, length-map ms (point_of plan))

  pub length_block : (d s z : ℕ) (cs : List ℕ) → length ms ≤ length cs → length (matched_block plan ms d s z cs) ≡ length cs
  unfolding matched_block
  length_block d s z cs e =
      cond_cases (λ l. length l ≡ length cs) (is_member d ms) cs (matched plan.p (map (point_of plan) ms) (sub plan.p z s) cs) refl
      (length-matched prime (map (point_of plan) ms) cs (sub plan.p z s) (few_points cs e))

  pub block-canon : (d s z : ℕ) (cs : List ℕ) → length ms ≤ length cs → All (Canon plan.p) cs → All (Canon plan.p) (matched_block plan ms d s z cs)
  unfolding matched_block
  block-canon d s z cs e can =
      cond_cases (All (Canon plan.p)) (is_member d ms) cs (matched plan.p (map (point_of plan) ms) (sub plan.p z s) cs) can
      (matched-canon prime (map (point_of plan) ms) cs (sub plan.p z s) (few_points cs e) can)

  negative : (s z : ℕ) → sub plan.p s z ≡ sub plan.p 0 (sub plan.p z s)
  negative s z = let pos : 0 < plan.p = pos prime in solve plan.p (search (quote, # s, # z)) (omega arith)

  -- the matching back undoes it
  pub block_back :
      (d s z : ℕ) (cs : List ℕ) → length ms ≤ length cs → All (Canon plan.p) cs → matched_block plan ms d z s (matched_block plan ms d s z cs) ≡ cs
  unfolding matched_block
  block_back d s z cs e can = step (is_member d ms)
    where
      step :
          (b : Bool) → cond b (cond b cs (matched plan.p (map (point_of plan) ms) (sub plan.p z s) cs))
          (matched plan.p (map (point_of plan) ms) (sub plan.p s z)
          (cond b cs (matched plan.p (map (point_of plan) ms) (sub plan.p z s) cs))) ≡ cs
      step true = refl
      step false = rw (negative s z) (matched-back prime (map (point_of plan) ms) cs (sub plan.p z s) (few_points cs e) can)

  -- ---- a gate's dealings
  pub length_blocks : (ds : List Dealing) (ss zs cs : List ℕ) → Ample (length ms) ds → total ds ≤ length cs → length (matched_blocks plan ms ds ss zs cs) ≡ total ds
  unfolding matched_blocks total
  length_blocks [] ss zs cs am le = refl
  length_blocks (d ∷ ds) ss zs cs am le =
      let size : length (take d.coins cs) ≡ d.coins = length-take-le d.coins cs (omega arith) in
      rw (blocks-cons plan ms d ds ss zs cs, length-append)
      (omega (
        arith,
        length_block d.dealer (get_or ss 0 0) (get_or zs 0 0) (take d.coins cs) (omega (arith, am.0)),
        length_blocks ds (drop 1 ss) (drop 1 zs) (drop d.coins cs) am.1 (omega (arith, length-drop d.coins cs)),
      ))

  pub blocks-canon :
      (ds : List Dealing) (ss zs cs : List ℕ) → Ample (length ms) ds → total ds ≤ length cs → All (Canon plan.p) cs
      → All (Canon plan.p) (matched_blocks plan ms ds ss zs cs)
  unfolding matched_blocks total
  blocks-canon [] ss zs cs am le can = tt
  blocks-canon (d ∷ ds) ss zs cs am le can =
      let size : length (take d.coins cs) ≡ d.coins = length-take-le d.coins cs (omega arith) in
      let new : List ℕ = matched_block plan ms d.dealer (get_or ss 0 0) (get_or zs 0 0) (take d.coins cs) in
      let more : List ℕ = matched_blocks plan ms ds (drop 1 ss) (drop 1 zs) (drop d.coins cs) in
      rw (blocks-cons plan ms d ds ss zs cs)
      (all_append (Canon plan.p) new more
      (block-canon d.dealer (get_or ss 0 0) (get_or zs 0 0) (take d.coins cs) (omega (arith, am.0)) (all_take (Canon plan.p) d.coins cs can))
      (blocks-canon ds (drop 1 ss) (drop 1 zs) (drop d.coins cs) am.1 (omega (arith, length-drop d.coins cs))
      (all_drop (Canon plan.p) d.coins cs can)))

  pub blocks-back :
      (ds : List Dealing) (ss zs cs rest : List ℕ) → Ample (length ms) ds → total ds ≤ length cs → All (Canon plan.p) cs
      → matched_blocks plan ms ds zs ss (matched_blocks plan ms ds ss zs cs ++ rest) ≡ take (total ds) cs
  unfolding matched_blocks total
  blocks-back [] ss zs cs rest am le can = refl
  blocks-back (d ∷ ds) ss zs cs rest am le can =
      let s : ℕ = get_or ss 0 0 in
      let z : ℕ = get_or zs 0 0 in
      let k : ℕ = d.coins in
      let old : List ℕ = take k cs in
      let new : List ℕ = matched_block plan ms d.dealer s z old in
      let more : List ℕ = matched_blocks plan ms ds (drop 1 ss) (drop 1 zs) (drop k cs) in
      let length-old : length old ≡ k = length-take-le k cs (omega arith) in
      let length-new : length new ≡ k = length_block d.dealer s z old (omega (arith, am.0)) ∙ length-old in
      let here : take k ((new ++ more) ++ rest) ≡ new =
      ap (take k) (append_assoc new more rest) ∙ take_at new (more ++ rest) k length-new in
      let there : drop k ((new ++ more) ++ rest) ≡ more ++ rest =
      ap (drop k) (append_assoc new more rest) ∙ drop_at new (more ++ rest) k length-new in
      ap (λ l. matched_blocks plan ms (d ∷ ds) zs ss (l ++ rest)) (blocks-cons plan ms d ds ss zs cs)
      ∙ blocks-cons plan ms d ds zs ss ((new ++ more) ++ rest)
      ∙ ap₂ (λ l m. matched_block plan ms d.dealer z s l ++ matched_blocks plan ms ds (drop 1 zs) (drop 1 ss) m) here there
      ∙ ap₂ ◌++◌ (block_back d.dealer s z old (omega (arith, am.0)) (all_take (Canon plan.p) k cs can))
      (blocks-back ds (drop 1 ss) (drop 1 zs) (drop k cs) rest am.1 (omega (arith, length-drop k cs)) (all_drop (Canon plan.p) k cs can))
      ∙ sym (take-add k (total ds) cs)

-- ---- a member's coins
-- a dealing's coins, at the front of a list with its owners
pub own_part :
    (i k d : ℕ) (os l rest : List ℕ) → length l ≡ k → own_of i (replicate k d ++ os) (l ++ rest) ≡ cond (eqb i d) l [] ++ own_of i os rest
unfolding own_of
own_part i zero d os [] rest e = pick (eqb i d)
  where
    pick : (b : Bool) → own_of i os rest ≡ cond b [] [] ++ own_of i os rest
    pick true = refl
    pick false = refl
own_part i zero d os (x ∷ l) rest e = absurd (omega arith)
own_part i (suc k) d os [] rest e = absurd (omega arith)
own_part i (suc k) d os (x ∷ l) rest e = pick (eqb i d) (own_part i k d os l rest (omega arith))
  where
    pick :
        (b : Bool) → own_of i (replicate k d ++ os) (l ++ rest) ≡ cond b l [] ++ own_of i os rest
        → cond b (x ∷ own_of i (replicate k d ++ os) (l ++ rest)) (own_of i (replicate k d ++ os) (l ++ rest)) ≡ cond b (x ∷ l) [] ++ own_of i os rest
    pick true q = ap (λ (m : List ℕ). x ∷ m) q
    pick false q = q

pub own_blocks :
    (plan : Plan) (ms : List ℕ) → Prime plan.p → (i : ℕ) → is_member i ms ≡ true
    → (ds : List Dealing) (os ss zs cs rest : List ℕ) → Ample (length ms) ds → total ds ≤ length cs
    → own_of i os rest ≡ own_of i os (drop (total ds) cs)
    → own_of i (owners_of ds ++ os) (matched_blocks plan ms ds ss zs cs ++ rest) ≡ own_of i (owners_of ds ++ os) cs
unfolding matched_blocks owners_of total flat_map
own_blocks plan ms prime i m [] os ss zs cs rest am le e = e
own_blocks plan ms prime i m (d ∷ ds) os ss zs cs rest am le e =
    let k : ℕ = d.coins in
    let old : List ℕ = take k cs in
    let new : List ℕ = matched_block plan ms d.dealer (get_or ss 0 0) (get_or zs 0 0) old in
    let more : List ℕ = matched_blocks plan ms ds (drop 1 ss) (drop 1 zs) (drop k cs) in
    let owners : List ℕ = owners_of ds ++ os in
    let length-old : length old ≡ k = length-take-le k cs (omega arith) in
    let length-new : length new ≡ k = length_block plan ms prime d.dealer (get_or ss 0 0) (get_or zs 0 0) old (omega (arith, am.0)) ∙ length-old in
    let whole : matched_blocks plan ms (d ∷ ds) ss zs cs ++ rest ≡ new ++ (more ++ rest) =
    ap (λ l. l ++ rest) (blocks-cons plan ms d ds ss zs cs) ∙ append_assoc new more rest in
    let those : (replicate k d.dealer ++ owners_of ds) ++ os ≡ replicate k d.dealer ++ owners = append_assoc (replicate k d.dealer) (owners_of ds) os in
    ap₂ (own_of i) those whole
    ∙ own_part i k d.dealer owners new (more ++ rest) length-new
    ∙ ap₂ ◌++◌ (same (eqb i d.dealer) refl new old
    (λ q. block_member plan ms d.dealer (get_or ss 0 0) (get_or zs 0 0) old (ap (λ n. is_member n ms) (sym (eqb-true i d.dealer q)) ∙ m)))
    (own_blocks plan ms prime i m ds os (drop 1 ss) (drop 1 zs) (drop k cs) rest am.1 (omega (arith, length-drop k cs))
    (e ∙ ap (own_of i os) (sym (drop-drop (total ds) k cs))))
    ∙ sym (own_part i k d.dealer owners old (drop k cs) length-old)
    ∙ ap₂ (own_of i) (sym those) (take-append-drop k cs)
  where
    same : (b : Bool) → eqb i d.dealer ≡ b → (l k : List ℕ) → (eqb i d.dealer ≡ true → l ≡ k) → cond b l [] ≡ cond b k []
    same true q l k h = h q
    same false q l k h = refl

-- ---- dealings take no coins but their own
pub sharings_prefix : (ds : List Dealing) (ss cs rest : List ℕ) → total ds ≤ length cs → sharings ds ss (cs ++ rest) ≡ sharings ds ss cs
unfolding sharings total
sharings_prefix [] ss cs rest le = refl
sharings_prefix (d ∷ ds) ss cs rest le =
    ap₂ (λ l k. (get_or ss 0 0 ∷ l) ∷ sharings ds (drop 1 ss) k) (take-append-le d.coins cs rest (omega arith)) (drop-append-le d.coins cs rest (omega arith))
    ∙ ap (λ l. (get_or ss 0 0 ∷ take d.coins cs) ∷ l) (sharings_prefix ds (drop 1 ss) (drop d.coins cs) rest (omega (arith, length-drop d.coins cs)))
