-- Matched dealings: their pieces at the members' points stay, and their sums change as what is dealt does.
--     spare-member                        delta is 0 at a member's point
--     deal-differ, deal-same              one dealing
--     Agree, agree-tab                    the members deal the same in both runs
--     pieces-same, dot_differ, sum-differ     a gate's dealings
--     InputsAgree, inputs_here, inputs_rest   the members' inputs
-- Assumes nothing.
use mathlib.Core.Path.{◌≡◌, refl, sym, ap, ap₂, ◌∙◌}
use mathlib.Core.Logic.{◌≢◌}
use mathlib.Core.Bool.{Bool, true, false, cond}
use mathlib.Core.List.{List, [], ◌∷◌, ◌++◌, map, flat_map, append_assoc, head-eq_of_cons-eq, tail-eq_of_cons-eq, Memᴰ}
use Prim.Native.Nat.{ℕ, zero, suc, ◌-◌, ◌%◌, ◌≤◌, ◌<◌}
use native.Mathlib.Omega.{arith}
use borrow.Author.Tests.{eqb-true, eq-eqb}
use lib.Dec.{eqb}
use lib.ListN.{length, take, drop, get_or, length-drop}
use lib.Seq.{length-take-le, take_at, drop_at}
use Rattle.numbers.specs.Tables.{tab}
use Rattle.numbers.proofs.Tables.{tab-ext}
use Rattle.field.specs.Mod.{add, mul, sub}
use Rattle.field.proofs.Solve.{#, quote, solve}
use Rattle.field.proofs.Inverse.{pos}
use Rattle.sharing_laws.specs.Poly.{eval}
use Rattle.sharing_laws.specs.Interp.{dot, delta}
use Rattle.sharing_laws.proofs.Polys.{eval_canon}
use Rattle.sharing_laws.proofs.Deltas.{delta-at}
use Rattle.sharing_laws.proofs.Shares.{matched-all}
use Rattle.sharing_laws.proofs.Alls.{all_at}
use Rattle.match_privacy.specs.Matching.{is_member, matched_blocks}
use Rattle.plan.specs.declared.Gate.{Gate}
use Rattle.plan.specs.declared.Dealing.{Dealing}
use Rattle.sharing_laws.specs.Basis.{sum_all}
use Rattle.plan.specs.Plans.{Plan, party_count, point_of, input_owners_at, own_of}
use Rattle.run_protocol.specs.Ideal.{inputs_taken}
use Rattle.run_protocol.specs.Shares.{sharings}
use Rattle.plan.proofs.Valid.{Valid}
use Rattle.match_privacy.proofs.Blocks.{total, Ample, matched_block, blocks-cons, block_member, block_other, length_block}

pub member_point : (at : ℕ → ℕ) (ms : List ℕ) (i : ℕ) → is_member i ms ≡ true → Memᴰ (at i) (map at ms)
unfolding is_member
member_point at [] i m = let z : ◌≡◌ {A = ℕ} 0 1 = cc in absurd (omega arith)
member_point at (j ∷ ms) i m = pick (eqb i j) refl m (member_point at ms i)
  where
    pick :
        (b : Bool) → eqb i j ≡ b → cond b true (is_member i ms) ≡ true → (is_member i ms ≡ true → Memᴰ (at i) (map at ms))
        → Memᴰ (at i) (map at (j ∷ ms))
    pick true e k later = Memᴰ.head (ap at (eqb-true i j e))
    pick false e k later = Memᴰ.tail (later k)

party_point : (plan : Plan) → Valid plan → (i : ℕ) → i ≤ party_count plan → point_of plan i % plan.p ≢ 0
unfolding point_of party_count
party_point plan valid i le = all_at (λ x. x % plan.p ≢ 0) plan.points (i - 1) valid.nonzero (omega (arith, valid.threshold))

-- ---- the members deal the same
abbrev pub Agree : List ℕ → List Dealing → List ℕ → List ℕ → Type 0
Agree ms [] ss zs = Unit
Agree ms (d ∷ ds) ss zs = (is_member d.dealer ms ≡ true → get_or zs 0 0 ≡ get_or ss 0 0) × Agree ms ds (drop 1 ss) (drop 1 zs)

next_at : (l : List ℕ) (j : ℕ) → get_or (drop 1 l) j 0 ≡ get_or l (suc j) 0
next_at [] j = refl
next_at (x ∷ l) j = refl

pub agree-tab :
    (ms : List ℕ) (t : ℕ) (d : ℕ → ℕ) (n : ℕ) (ss zs : List ℕ) → ((j : ℕ) → j < n → is_member (d j) ms ≡ true → get_or zs j 0 ≡ get_or ss j 0)
    → Agree ms (tab (λ i. record { dealer = d i; coins = t }) n) ss zs
unfolding tab
agree-tab ms t d zero ss zs h = tt
agree-tab ms t d (suc n) ss zs h = (
  h 0 (omega arith),
  agree-tab ms t (λ i. d (suc i)) n (drop 1 ss) (drop 1 zs) (λ j l m. next_at zs j ∙ h (suc j) (omega arith) m ∙ sym (next_at ss j)),
)

-- what is dealt, a value for each dealing
unfoldable pub firsts : List Dealing → List ℕ → List ℕ
firsts [] ss = []
firsts (d ∷ ds) ss = get_or ss 0 0 ∷ firsts ds (drop 1 ss)

pub firsts-tab : (D : ℕ → Dealing) (n : ℕ) (ss : List ℕ) → firsts (tab D n) ss ≡ tab (λ j. get_or ss j 0) n
unfolding tab firsts
firsts-tab D zero ss = refl
firsts-tab D (suc n) ss =
    ap (λ (l : List ℕ). get_or ss 0 0 ∷ l)
    (firsts-tab (λ i. D (suc i)) n (drop 1 ss) ∙ tab-ext (λ j. get_or (drop 1 ss) j 0) (λ j. get_or ss (suc j) 0) n (λ j l. next_at ss j))

module _ (plan : Plan) (valid : Valid plan) (ms : List ℕ) (parties_only : (i : ℕ) → is_member i ms ≡ true → i ≤ party_count plan) where
  abbrev p : ℕ
  p = plan.p

  -- delta at x
  abbrev pub spare : ℕ → ℕ
  spare x = eval p (delta p (map (point_of plan) ms)) x

  -- it is 0 at a member's point
  pub spare-member : (i : ℕ) → is_member i ms ≡ true → spare (point_of plan i) ≡ 0
  spare-member i m =
      delta-at valid.prime (map (point_of plan) ms) (point_of plan i) (party_point plan valid i (parties_only i m)) (member_point (point_of plan) ms i m)

  -- one dealing
  pub deal-differ :
      (d s z : ℕ) (cs : List ℕ) (x : ℕ) → (is_member d ms ≡ true → z ≡ s)
      → eval p (z ∷ matched_block plan ms d s z cs) x ≡ add p (eval p (s ∷ cs) x) (mul p (sub p z s) (spare x))
  deal-differ d s z cs x same = pick (is_member d ms) refl
    where
      pick : (b : Bool) → is_member d ms ≡ b → eval p (z ∷ matched_block plan ms d s z cs) x ≡ add p (eval p (s ∷ cs) x) (mul p (sub p z s) (spare x))
      pick true m =
          let pos : 0 < p = pos valid.prime in
          rw (block_member plan ms d s z cs m, same m) (solve p (search (quote, eval_canon, # (eval p (s ∷ cs) x), # s, # (spare x))) (omega arith))
      pick false m = ap (λ l. eval p (z ∷ l) x) (block_other plan ms d s z cs m) ∙ matched-all valid.prime (map (point_of plan) ms) cs s z x

  pub deal-same :
      (d s z : ℕ) (cs : List ℕ) (x : ℕ) → (is_member d ms ≡ true → z ≡ s) → spare x ≡ 0
      → eval p (z ∷ matched_block plan ms d s z cs) x ≡ eval p (s ∷ cs) x
  deal-same d s z cs x same e =
      deal-differ d s z cs x same ∙ ap (λ n. add p (eval p (s ∷ cs) x) (mul p (sub p z s) n)) e
      ∙ solve p (search (quote, eval_canon, # (eval p (s ∷ cs) x), # (sub p z s))) (omega arith)

  -- ---- a gate's dealings
  -- of the matched dealings the first, and those after it
  first_of :
      (d : Dealing) (ds : List Dealing) (ss zs cs rest : List ℕ) → length ms ≤ d.coins → total (d ∷ ds) ≤ length cs
      → sharings (d ∷ ds) zs (matched_blocks plan ms (d ∷ ds) ss zs cs ++ rest)
      ≡ (get_or zs 0 0 ∷ matched_block plan ms d.dealer (get_or ss 0 0) (get_or zs 0 0) (take d.coins cs))
      ∷ sharings ds (drop 1 zs) (matched_blocks plan ms ds (drop 1 ss) (drop 1 zs) (drop d.coins cs) ++ rest)
  unfolding sharings total
  first_of d ds ss zs cs rest am le =
      let k : ℕ = d.coins in
      let new : List ℕ = matched_block plan ms d.dealer (get_or ss 0 0) (get_or zs 0 0) (take k cs) in
      let more : List ℕ = matched_blocks plan ms ds (drop 1 ss) (drop 1 zs) (drop k cs) in
      let size : length (take k cs) ≡ k = length-take-le k cs (omega arith) in
      let length-new : length new ≡ k = length_block plan ms valid.prime d.dealer (get_or ss 0 0) (get_or zs 0 0) (take k cs) (omega arith) ∙ size in
      let whole : matched_blocks plan ms (d ∷ ds) ss zs cs ++ rest ≡ new ++ (more ++ rest) =
      ap (λ l. l ++ rest) (blocks-cons plan ms d ds ss zs cs) ∙ append_assoc new more rest in
      ap₂ (λ (x y : List ℕ). (get_or zs 0 0 ∷ x) ∷ sharings ds (drop 1 zs) y) (ap (take k) whole ∙ take_at new (more ++ rest) k length-new)
      (ap (drop k) whole ∙ drop_at new (more ++ rest) k length-new)

  -- where delta is 0, the pieces stay
  pub pieces-same :
      (ds : List Dealing) (ss zs cs rest : List ℕ) (x : ℕ) → Ample (length ms) ds → total ds ≤ length cs → Agree ms ds ss zs → spare x ≡ 0
      → map (λ f. eval p f x) (sharings ds zs (matched_blocks plan ms ds ss zs cs ++ rest)) ≡ map (λ f. eval p f x) (sharings ds ss cs)
  unfolding sharings total
  pieces-same [] ss zs cs rest x am le agree e = refl
  pieces-same (d ∷ ds) ss zs cs rest x am le agree e =
      ap (map (λ f. eval p f x)) (first_of d ds ss zs cs rest am.0 le)
      ∙ ap₂ ◌∷◌ (deal-same d.dealer (get_or ss 0 0) (get_or zs 0 0) (take d.coins cs) x agree.0 e)
      (pieces-same ds (drop 1 ss) (drop 1 zs) (drop d.coins cs) rest x am.1 (omega (arith, length-drop d.coins cs)) agree.1 e)

  weighted :
      (w f z s e : ℕ) (F S Z : ℕ)
      → add p (mul p w (add p f (mul p (sub p z s) e))) (add p F (mul p (sub p Z S) e))
      ≡ add p (add p (mul p w f) F) (mul p (sub p (add p (mul p w z) Z) (add p (mul p w s) S)) e)
  weighted w f z s e F S Z =
      let pos : 0 < p = pos valid.prime in solve p (search (quote, # w, # f, # z, # s, # e, # F, # S, # Z) depth 9) (omega arith)

  added :
      (f z s e : ℕ) (F S Z : ℕ)
      → add p (add p f (mul p (sub p z s) e)) (add p F (mul p (sub p Z S) e)) ≡ add p (add p f F) (mul p (sub p (add p z Z) (add p s S)) e)
  added f z s e F S Z =
      let pos : 0 < p = pos valid.prime in solve p (search (quote, # f, # z, # s, # e, # F, # S, # Z) depth 9) (omega arith)

  -- everywhere their weighted sums, and their sum, change as what is dealt does
  pub dot_differ :
      (ws : List ℕ) (ds : List Dealing) (ss zs cs rest : List ℕ) (x : ℕ) → Ample (length ms) ds → total ds ≤ length cs → Agree ms ds ss zs
      → dot p ws (map (λ f. eval p f x) (sharings ds zs (matched_blocks plan ms ds ss zs cs ++ rest)))
      ≡ add p (dot p ws (map (λ f. eval p f x) (sharings ds ss cs))) (mul p (sub p (dot p ws (firsts ds zs)) (dot p ws (firsts ds ss))) (spare x))
  unfolding sharings total firsts dot
  dot_differ [] ds ss zs cs rest x am le agree = let pos : 0 < p = pos valid.prime in solve p (search (quote, # (spare x))) (omega arith)
  dot_differ (w ∷ ws) [] ss zs cs rest x am le agree = let pos : 0 < p = pos valid.prime in solve p (search (quote, # (spare x))) (omega arith)
  dot_differ (w ∷ ws) (d ∷ ds) ss zs cs rest x am le agree =
      ap (λ (l : List (List ℕ)). dot p (w ∷ ws) (map (λ f. eval p f x) l)) (first_of d ds ss zs cs rest am.0 le)
      ∙ ap₂ (λ a b. add p (mul p w a) b) (deal-differ d.dealer (get_or ss 0 0) (get_or zs 0 0) (take d.coins cs) x agree.0)
      (dot_differ ws ds (drop 1 ss) (drop 1 zs) (drop d.coins cs) rest x am.1 (omega (arith, length-drop d.coins cs)) agree.1)
      ∙ weighted w (eval p (get_or ss 0 0 ∷ take d.coins cs) x) (get_or zs 0 0) (get_or ss 0 0) (spare x)
      (dot p ws (map (λ f. eval p f x) (sharings ds (drop 1 ss) (drop d.coins cs)))) (dot p ws (firsts ds (drop 1 ss))) (dot p ws (firsts ds (drop 1 zs)))

  pub sum-differ :
      (ds : List Dealing) (ss zs cs rest : List ℕ) (x : ℕ) → Ample (length ms) ds → total ds ≤ length cs → Agree ms ds ss zs
      → sum_all p (map (λ f. eval p f x) (sharings ds zs (matched_blocks plan ms ds ss zs cs ++ rest)))
      ≡ add p (sum_all p (map (λ f. eval p f x) (sharings ds ss cs))) (mul p (sub p (sum_all p (firsts ds zs)) (sum_all p (firsts ds ss))) (spare x))
  unfolding sharings total firsts sum_all
  sum-differ [] ss zs cs rest x am le agree = let pos : 0 < p = pos valid.prime in solve p (search (quote, # (spare x))) (omega arith)
  sum-differ (d ∷ ds) ss zs cs rest x am le agree =
      ap (λ (l : List (List ℕ)). sum_all p (map (λ f. eval p f x) l)) (first_of d ds ss zs cs rest am.0 le)
      ∙ ap₂ (add p) (deal-differ d.dealer (get_or ss 0 0) (get_or zs 0 0) (take d.coins cs) x agree.0)
      (sum-differ ds (drop 1 ss) (drop 1 zs) (drop d.coins cs) rest x am.1 (omega (arith, length-drop d.coins cs)) agree.1)
      ∙ added (eval p (get_or ss 0 0 ∷ take d.coins cs) x) (get_or zs 0 0) (get_or ss 0 0) (spare x)
      (sum_all p (map (λ f. eval p f x) (sharings ds (drop 1 ss) (drop d.coins cs)))) (sum_all p (firsts ds (drop 1 ss))) (sum_all p (firsts ds (drop 1 zs)))

-- ---- the members' inputs are the same in both runs
abbrev pub InputsAgree : Plan → List ℕ → List Gate → List ℕ → List ℕ → Type 0
InputsAgree plan ms gs xs ys = (i : ℕ) → is_member i ms ≡ true → own_of i (flat_map (input_owners_at plan) gs) xs ≡ own_of i (flat_map (input_owners_at plan) gs) ys

cond-tail : (b : Bool) (x y : ℕ) (xs ys : List ℕ) → cond b (x ∷ xs) xs ≡ cond b (y ∷ ys) ys → xs ≡ ys
cond-tail true x y xs ys e = tail-eq_of_cons-eq e
cond-tail false x y xs ys e = e

own-tail : (i o : ℕ) (os xs ys : List ℕ) → own_of i (o ∷ os) xs ≡ own_of i (o ∷ os) ys → own_of i os (drop 1 xs) ≡ own_of i os (drop 1 ys)
unfolding own_of
own-tail i o os xs ys e = cond-tail (eqb i o) (get_or xs 0 0) (get_or ys 0 0) (own_of i os (drop 1 xs)) (own_of i os (drop 1 ys)) e

own_head : (o : ℕ) (os xs ys : List ℕ) → own_of o (o ∷ os) xs ≡ own_of o (o ∷ os) ys → get_or xs 0 0 ≡ get_or ys 0 0
unfolding own_of
own_head o os xs ys e = head-eq_of_cons-eq (rw (eq-eqb o o refl) at e)

own_at :
    (ms os more xs ys : List ℕ) → ((i : ℕ) → is_member i ms ≡ true → own_of i (os ++ more) xs ≡ own_of i (os ++ more) ys)
    → (j : ℕ) → j < length os → is_member (get_or os j 0) ms ≡ true → get_or ys j 0 ≡ get_or xs j 0
own_at ms [] more xs ys h j lt m = absurd (omega arith)
own_at ms (o ∷ os) more xs ys h zero lt m = sym (own_head o (os ++ more) xs ys (h o m))
own_at ms (o ∷ os) more xs ys h (suc j) lt m =
    sym (next_at ys j) ∙ own_at ms os more (drop 1 xs) (drop 1 ys) (λ i k. own-tail i o (os ++ more) xs ys (h i k)) j (omega arith) m ∙ next_at xs j

drop-one : (k : ℕ) (xs : List ℕ) → drop k (drop 1 xs) ≡ drop (suc k) xs
drop-one zero [] = refl
drop-one (suc k) [] = refl
drop-one k (x ∷ xs) = refl

own_rest : (i : ℕ) (os more xs ys : List ℕ) → own_of i (os ++ more) xs ≡ own_of i (os ++ more) ys → own_of i more (drop (length os) xs) ≡ own_of i more (drop (length os) ys)
own_rest i [] more xs ys h = h
own_rest i (o ∷ os) more xs ys h =
    ap (own_of i more) (sym (drop-one (length os) xs)) ∙ own_rest i os more (drop 1 xs) (drop 1 ys) (own-tail i o (os ++ more) xs ys h)
    ∙ ap (own_of i more) (drop-one (length os) ys)

pub inputs_here :
    (plan : Plan) (ms : List ℕ) (g : Gate) (gs : List Gate) (xs ys : List ℕ) → InputsAgree plan ms (g ∷ gs) xs ys
    → (j : ℕ) → j < inputs_taken plan g → is_member (get_or (input_owners_at plan g) j 0) ms ≡ true → get_or ys j 0 ≡ get_or xs j 0
unfolding flat_map inputs_taken
inputs_here plan ms g gs xs ys h = own_at ms (input_owners_at plan g) (flat_map (input_owners_at plan) gs) xs ys h

pub inputs_rest :
    (plan : Plan) (ms : List ℕ) (g : Gate) (gs : List Gate) (xs ys : List ℕ) → InputsAgree plan ms (g ∷ gs) xs ys
    → InputsAgree plan ms gs (drop (inputs_taken plan g) xs) (drop (inputs_taken plan g) ys)
unfolding flat_map inputs_taken
inputs_rest plan ms g gs xs ys h = λ i m. own_rest i (input_owners_at plan g) (flat_map (input_owners_at plan) gs) xs ys (h i m)
