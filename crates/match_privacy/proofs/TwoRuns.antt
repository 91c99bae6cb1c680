-- Two runs with matched coins, gate by gate: every wire's share changes by the change of its value times delta, and the members see no change.
--     Spent                        the triples' values change as the wires that are spent on them
--     gate_mail                     the mail of a gate's steps
--     masked-moves                  the masked products at a truncated multiply
--     Runs, gate_differ, mail_same, runs_after     two runs before some gates; the first of them; past it
--     runs_past                    past several
-- Assumes nothing.
use mathlib.Core.Path.{◌≡◌, refl, sym, ap, ap₂, ◌∙◌, subst, fun_ext}
use mathlib.Core.Bool.{Bool, true, false, cond}
use mathlib.Core.List.{List, [], ◌∷◌, ◌++◌, map, flat_map, append-nil}
use Prim.Native.Nat.{ℕ, zero, suc, ◌+◌, ◌*◌, ◌≤◌, ◌<◌}
use native.Mathlib.Omega.{arith}
use lib.Dec.{eqb, eqb-zero-suc, eqb-suc-zero, eqb-suc-suc}
use lib.ListN.{length, take, drop, get_or, length-map, length-append, length-drop, length-take}
use lib.Seq.{length-take-le, take_at, get_or-drop, get_or-take}
use Rattle.numbers.specs.Tables.{tab}
use Rattle.numbers.proofs.Tables.{list-tab, length-tab, get_or-tab}
use Rattle.field.specs.Mod.{add, mul, sub}
use Rattle.field.proofs.Solve.{Canon, #, quote, solve}
use Rattle.field.proofs.Inverse.{pos}
use Rattle.sharing_laws.specs.Poly.{eval}
use Rattle.sharing_laws.specs.Interp.{All, weights, dot, interpolate, delta}
use Rattle.sharing_laws.proofs.Polys.{eval_canon}
use Rattle.sharing_laws.proofs.Shares.{product-interpolation}
use Rattle.sharing_laws.proofs.Alls.{all_drop}
use Rattle.seat_messages.specs.Messages.{from_each}
use Rattle.match_privacy.specs.Matching.{is_member, matched_blocks, change_of, absorbed_by, absorbed, with_coins, matched_at}
use Rattle.sharing_laws.proofs.Openings.{Shared}
use Rattle.sharing_laws.proofs.Lists.{get_or-map-in}
use Rattle.sharing_laws.proofs.Steps.{Differ}
use Rattle.sharing_laws.proofs.Triples.{less-same, spent-differ}
use Rattle.plan.specs.declared.Gate.{Gate}
use Rattle.plan.specs.declared.Gate.TheVariants.{Input, Add, Scale, Offset, Multiply, Random, Spend}
use Rattle.plan.specs.declared.Rule.{Rule}
use Rattle.plan.specs.declared.Rule.TheVariants.{Reduction, Truncation}
use Rattle.plan.specs.declared.Dealing.{Dealing}
use Rattle.sharing_laws.specs.Basis.{sum_all}
use Rattle.plan.specs.Plans.{Plan, party_count, parties, point_of, dealer_count, dealer_points, kind_of, is_kind, operands_of, first_dealings, multiply_dealings, dealings_at, input_owners_at}
use Rattle.run_protocol.specs.Ideal.{inputs_taken, gate_value, values_from}
use Rattle.run_protocol.specs.Shares.{Before, wire_at, product_of, zero_pieces, multiply_dealt, dealt_at, sharings, pieces_at, truncated_at, multiply_share, difference_at, gate_share, triples_taken, past, past_all}
use Rattle.run_protocol.proofs.Dealings.{sum-padded}
use Rattle.plan.proofs.Valid.{Valid}
use Rattle.run_protocol.proofs.Gates.{before-suc, spent-as}
use Rattle.run_protocol.proofs.Sound.{Wide, RightTriples, triples-past, dealers_distinct, dealers-length, openers, after_shared}
use Rattle.match_privacy.proofs.Blocks.{total, Ample, matched_block, blocks-cons, length_block}
use Rattle.match_privacy.proofs.Cuts.{total_pairs}
use Rattle.match_privacy.proofs.Matches.{dealings_cut, old, new, ample_first, ample_less, taken, taken_is}
use Rattle.match_privacy.proofs.Bijections.{coins_of, coins-cons, past_matched}
use Rattle.match_privacy.proofs.Deals.{spare, spare-member, deal-differ, Agree, agree-tab, firsts, firsts-tab, pieces-same, dot_differ, sum-differ, InputsAgree, inputs_here, inputs_rest}
use Rattle.match_privacy.proofs.CutPrivate.{masked_moves, CutSame, cut_same}

-- ---- triples: of the two runs' values us and us', those of a and b change as the wires that are spent on them
abbrev pub SpentAt : Plan → Gate → List ℕ → List ℕ → List ℕ → List ℕ → Type 0
SpentAt plan (Input i) vals vals' us us' = Unit
SpentAt plan (Add a b) vals vals' us us' = Unit
SpentAt plan (Scale a c) vals vals' us us' = Unit
SpentAt plan (Offset a c) vals vals' us us' = Unit
SpentAt plan (Multiply a b) vals vals' us us' = Unit
SpentAt plan Random vals vals' us us' = Unit
SpentAt plan (Spend a b) vals vals' us us' =
    (sub plan.p (get_or us' 0 0) (get_or us 0 0) ≡ sub plan.p (get_or vals' a 0) (get_or vals a 0))
    × (sub plan.p (get_or us' 1 0) (get_or us 1 0) ≡ sub plan.p (get_or vals' b 0) (get_or vals b 0))

abbrev pub Spent : Plan → List Gate → List ℕ → List ℕ → List ℕ → List ℕ → List ℕ → List ℕ → Type 0
Spent plan [] vals vals' xs ys us us' = Unit
Spent plan (g ∷ gs) vals vals' xs ys us us' =
    SpentAt plan g vals vals' us us'
    × Spent plan gs (vals ++ (gate_value plan g vals xs ∷ [])) (vals' ++ (gate_value plan g vals' ys ∷ [])) (drop (inputs_taken plan g) xs) (drop (inputs_taken plan g) ys)
    (drop (triples_taken g) us) (drop (triples_taken g) us')

-- ---- the mail of a gate's steps to the point x
unfoldable pub multiply_mail : Plan → Rule → ℕ → ℕ → Before → ℕ → List ℕ
multiply_mail plan Reduction a b s x = pieces_at plan (Multiply a b) s x ++ []
multiply_mail plan Truncation a b s x =
    zero_pieces plan s.coins x
    ++ (from_each (party_count plan) 2 1 (pieces_at plan (Multiply a b) s x) ++ (map (truncated_at plan (Multiply a b) s x) plan.points ++ []))

unfoldable pub gate_mail : Plan → Gate → Before → ℕ → List ℕ
gate_mail plan (Input i) s x = []
gate_mail plan (Add a b) s x = []
gate_mail plan (Scale a c) s x = []
gate_mail plan (Offset a c) s x = []
gate_mail plan (Multiply a b) s x = multiply_mail plan plan.rule a b s x
gate_mail plan Random s x = pieces_at plan Random s x ++ []
gate_mail plan (Spend a b) s x = flat_map (λ y. difference_at plan s a 0 y ∷ difference_at plan s b 1 y ∷ []) plan.points ++ []

-- ---- one element more
get_or_snoc : {A : Type 0} (xs : List A) (a d : A) (w : ℕ) → get_or (xs ++ (a ∷ [])) w d ≡ cond (eqb w (length xs)) a (get_or xs w d)
get_or_snoc [] a d zero = refl
get_or_snoc [] a d (suc w) = rw (eqb-suc-zero w)
get_or_snoc (x ∷ xs) a d zero = rw (eqb-zero-suc (length xs))
get_or_snoc (x ∷ xs) a d (suc w) = rw (eqb-suc-suc w (length xs)) (get_or_snoc xs a d w)

put_four :
    {A B : Type 0} (Q : A → A → B → B → Type 0) (t : Bool) (a a' c c' : A) (b b' e e' : B) → Q a a' b b' → Q c c' e e'
    → Q (cond t a c) (cond t a' c') (cond t b e) (cond t b' e')
put_four Q true a a' c c' b b' e e' q r = q
put_four Q false a a' c c' b b' e e' q r = r

snoc_four :
    {A B : Type 0} (Q : A → A → B → B → Type 0) (d : A) (e : B) (xs xs' : List A) (ys ys' : List B) (a a' : A) (b b' : B)
    → length xs ≡ length ys → length xs' ≡ length ys → length ys' ≡ length ys
    → ((w : ℕ) → Q (get_or xs w d) (get_or xs' w d) (get_or ys w e) (get_or ys' w e)) → Q a a' b b'
    → (w : ℕ) → Q (get_or (xs ++ (a ∷ [])) w d) (get_or (xs' ++ (a' ∷ [])) w d) (get_or (ys ++ (b ∷ [])) w e) (get_or (ys' ++ (b' ∷ [])) w e)
snoc_four Q d e xs xs' ys ys' a a' b b' l l' m' h q w =
    rw (get_or_snoc xs a d w, get_or_snoc xs' a' d w, get_or_snoc ys b e w, get_or_snoc ys' b' e w, l, l', m')
    (put_four Q (eqb w (length ys)) a a' (get_or xs w d) (get_or xs' w d) b b' (get_or ys w e) (get_or ys' w e) q (h w))

length_snoc : {A : Type 0} (xs : List A) (a : A) → length (xs ++ (a ∷ [])) ≡ suc (length xs)
length_snoc xs a = omega (arith, length-append xs (a ∷ []))

module _ (plan : Plan) (valid : Valid plan) (ms : List ℕ) (few : length ms ≤ plan.t)
    (parties_only : (i : ℕ) → is_member i ms ≡ true → i ≤ party_count plan) where
  abbrev p : ℕ
  p = plan.p

  abbrev t : ℕ
  t = plan.t

  abbrev pts : List ℕ
  pts = map (point_of plan) ms

  shared_canon : (h : ℕ → ℕ) (v x : ℕ) → Shared p t h v → Canon p (h x)
  shared_canon h v x s = rw (s.value x) (eval_canon s.poly x)

  -- a member's share is the same in both runs
  pub member_same :
      (h h' : ℕ → ℕ) (v v' : ℕ) → Shared p t h v → Differ p (map (point_of plan) ms) h h' v v' → (i : ℕ) → is_member i ms ≡ true → h' (point_of plan i) ≡ h (point_of plan i)
  member_same h h' v v' s d i m =
      let x : ℕ = point_of plan i in
      d x ∙ ap (λ n. add p (h x) (mul p (sub p v' v) n)) (spare-member plan valid ms parties_only i m)
      ∙ solve p (search (quote, shared_canon h v x s, # (h x), # (sub p v' v))) (omega arith)

  -- and where the value stays, every share is
  pub value_same : (h h' : ℕ → ℕ) (v v' : ℕ) → Shared p t h v → Differ p (map (point_of plan) ms) h h' v v' → v' ≡ v → (x : ℕ) → h' x ≡ h x
  value_same h h' v v' s d e x =
      let pos : 0 < p = pos valid.prime in
      d x ∙ ap (λ n. add p (h x) (mul p (sub p n v) (spare plan valid ms parties_only x))) e
      ∙ solve p (search (quote, shared_canon h v x s, # (h x), # v, # (spare plan valid ms parties_only x))) (omega arith)

  pub none_differ : Differ p (map (point_of plan) ms) (λ x. 0) (λ x. 0) 0 0
  none_differ x = let pos : 0 < p = pos valid.prime in solve p (search (quote, # (spare plan valid ms parties_only x))) (omega arith)

  -- ---- linear gates
  add_differ :
      (a b u v u' v' e : ℕ)
      → add p (add p a (mul p (sub p u' u) e)) (add p b (mul p (sub p v' v) e)) ≡ add p (add p a b) (mul p (sub p (add p u' v') (add p u v)) e)
  add_differ a b u v u' v' e =
      let pos : 0 < p = pos valid.prime in solve p (search (quote, # a, # b, # u, # v, # u', # v', # e) depth 7) (omega arith)

  scale_differ : (a c u u' e : ℕ) → mul p (add p a (mul p (sub p u' u) e)) c ≡ add p (mul p a c) (mul p (sub p (mul p u' c) (mul p u c)) e)
  scale_differ a c u u' e = let pos : 0 < p = pos valid.prime in solve p (search (quote, # a, # c, # u, # u', # e) depth 7) (omega arith)

  offset_differ : (a c u u' e : ℕ) → add p (add p a (mul p (sub p u' u) e)) c ≡ add p (add p a c) (mul p (sub p (add p u' c) (add p u c)) e)
  offset_differ a c u u' e = let pos : 0 < p = pos valid.prime in solve p (search (quote, # a, # c, # u, # u', # e) depth 7) (omega arith)

  -- ---- the two runs before the gates gs: s and s' their states, vals and vals' their values, us and us' their triples' values
  pub record Runs (gs : List Gate) (s s' : Before) (vals vals' us us' : List ℕ) : Type 0 where
    pub wires : length s.env ≡ length vals
    pub wires' : length s'.env ≡ length vals
    pub values' : length vals' ≡ length vals
    pub first : (w : ℕ) → Shared p t (wire_at s.env w) (get_or vals w 0)
    pub second : (w : ℕ) → Shared p t (wire_at s'.env w) (get_or vals' w 0)
    pub differ : (w : ℕ) → Differ p (map (point_of plan) ms) (wire_at s.env w) (wire_at s'.env w) (get_or vals w 0) (get_or vals' w 0)
    pub small : (k : ℕ) → get_or s.inputs k 0 < p
    pub small' : (k : ℕ) → get_or s'.inputs k 0 < p
    pub agree : InputsAgree plan ms gs s.inputs s'.inputs
    pub enough : coins_of plan gs ≤ length s.coins
    pub canon : All (Canon p) s.coins
    pub wide : Wide plan gs
    pub triples : RightTriples plan s.triples us
    pub triples' : RightTriples plan s'.triples us'
    pub moved : (w : ℕ) → Differ p (map (point_of plan) ms) (wire_at s.triples w) (wire_at s'.triples w) (get_or us w 0) (get_or us' w 0)
    pub spent : Spent plan gs vals vals' s.inputs s'.inputs us us'

  module _ (g : Gate) (gs : List Gate) (s s' : Before) (vals vals' us us' : List ℕ) (r : Runs (g ∷ gs) s s' vals vals' us us') where
    pub here-enough : taken plan g ≤ length s.coins
    here-enough = omega (arith, coins-cons plan g gs, r.enough)

  -- ---- dealings of t coins by the parties from 1 on
  abbrev D : ℕ → List Dealing
  D k = tab (λ i. record { dealer = suc i; coins = t }) k

  ample-D : (k : ℕ) → Ample (length ms) (D k)
  ample-D k = ample_less (length ms) t (D k) few (ample_first t suc k)

  -- ---- kind 6
  module _ (gs : List Gate) (s s' : Before) (vals vals' us us' : List ℕ) (r : Runs (Random ∷ gs) s s' vals vals' us us') (rest : List ℕ) where
    abbrev n : ℕ
    n = party_count plan

    random-agree : Agree ms (D n) (take n s.inputs) (take n s'.inputs)
    unfolding inputs_taken input_owners_at parties
    random-agree =
        agree-tab ms t suc n (take n s.inputs) (take n s'.inputs)
        (λ j l m. get_or-take n s'.inputs j 0 l
        ∙ inputs_here plan ms Random gs s.inputs s'.inputs r.agree j (rw (length-tab suc n) l) (rw (get_or-tab suc n j 0 l) m)
        ∙ sym (get_or-take n s.inputs j 0 l))

    random-enough : total (D n) ≤ length s.coins
    unfolding dealings_at first_dealings
    random-enough = omega (arith, here-enough Random gs s s' vals vals' us us' r, taken_is plan Random)

    random-pieces :
        (x : ℕ) → pieces_at plan Random (with_coins (matched_at plan ms Random s s' ++ rest) s') x
        ≡ map (λ f. eval p f x) (sharings (D n) (take n s'.inputs) (matched_blocks plan ms (D n) (take n s.inputs) (take n s'.inputs) s.coins ++ rest))
    unfolding pieces_at dealings_at dealt_at first_dealings with_coins matched_at absorbed is_kind kind_of
    random-pieces x = refl

    random-differ :
        Differ p (map (point_of plan) ms) (gate_share plan Random s) (gate_share plan Random (with_coins (matched_at plan ms Random s s' ++ rest) s'))
        (sum_all p (take n s.inputs)) (sum_all p (take n s'.inputs))
    unfolding gate_share pieces_at dealings_at dealt_at first_dealings
    random-differ x =
        ap (sum_all p) (random-pieces x)
        ∙ sum-differ plan valid ms parties_only (D n) (take n s.inputs) (take n s'.inputs) s.coins rest x (ample-D n) random-enough random-agree
        ∙ ap₂ (λ (u v : ℕ). add p (gate_share plan Random s x) (mul p (sub p u v) (spare plan valid ms parties_only x))) (whole s'.inputs) (whole s.inputs)
      where
        whole : (xs : List ℕ) → sum_all p (firsts (D n) (take n xs)) ≡ sum_all p (take n xs)
        whole xs =
            ap (sum_all p) (firsts-tab (λ i. record { dealer = suc i; coins = t }) n (take n xs)) ∙ sym (sum-padded p (take n xs) n (omega (arith, length-take n xs)))

    random-same : (x : ℕ) → spare plan valid ms parties_only x ≡ 0 → pieces_at plan Random (with_coins (matched_at plan ms Random s s' ++ rest) s') x ≡ pieces_at plan Random s x
    unfolding pieces_at dealings_at dealt_at first_dealings
    random-same x e =
        random-pieces x ∙ pieces-same plan valid ms parties_only (D n) (take n s.inputs) (take n s'.inputs) s.coins rest x (ample-D n) random-enough random-agree e

  -- ---- kind 5 by reduction
  module _ (a b : ℕ) (by : plan.rule ≡ Reduction) (gs : List Gate) (s s' : Before) (vals vals' us us' : List ℕ)
      (r : Runs (Multiply a b ∷ gs) s s' vals vals' us us') (rest : List ℕ) where
    abbrev k : ℕ
    k = dealer_count plan

    abbrev ss : List ℕ
    ss = map (product_of plan s.env a b) (dealer_points plan)

    abbrev zs : List ℕ
    zs = map (product_of plan s'.env a b) (dealer_points plan)

    majority : t + t < party_count plan
    unfolding is_kind kind_of
    majority = r.wide.0 refl

    k-points : length (dealer_points plan) ≡ k
    k-points = dealers-length plan valid majority

    wire-same : (w i : ℕ) → is_member i ms ≡ true → wire_at s'.env w (point_of plan i) ≡ wire_at s.env w (point_of plan i)
    wire-same w i m = member_same (wire_at s.env w) (wire_at s'.env w) (get_or vals w 0) (get_or vals' w 0) (r.first w) (r.differ w) i m

    dealer-at : (j : ℕ) → j < k → get_or (dealer_points plan) j 0 ≡ point_of plan (suc j)
    unfolding dealer_points point_of
    dealer-at j l = get_or-take k plan.points j 0 l ∙ ap (λ (i : ℕ). get_or plan.points i 0) (before-suc j)

    product_at : (env : List (ℕ → ℕ)) (j : ℕ) → j < k → get_or (map (product_of plan env a b) (dealer_points plan)) j 0 ≡ product_of plan env a b (point_of plan (suc j))
    product_at env j l = get_or-map-in (product_of plan env a b) (dealer_points plan) j 0 0 (omega (arith, k-points)) ∙ ap (product_of plan env a b) (dealer-at j l)

    product-agree : Agree ms (D k) ss zs
    unfolding product_of
    product-agree =
        agree-tab ms t suc k ss zs
        (λ j l m. product_at s'.env j l ∙ ap₂ (mul p) (wire-same a (suc j) m) (wire-same b (suc j) m) ∙ sym (product_at s.env j l))

    product-enough : total (D k) ≤ length s.coins
    unfolding dealings_at multiply_dealings first_dealings
    product-enough =
        omega (
          arith,
          here-enough (Multiply a b) gs s s' vals vals' us us' r,
          taken_is plan (Multiply a b) ∙ ap (λ (q : Rule). total (multiply_dealings plan q)) by,
        )

    product-first : (x : ℕ) → pieces_at plan (Multiply a b) s x ≡ map (λ f. eval p f x) (sharings (D k) ss s.coins)
    unfolding pieces_at dealings_at dealt_at multiply_dealings multiply_dealt first_dealings
    product-first x = ap (λ (q : Rule). map (λ f. eval p f x) (sharings (multiply_dealings plan q) (multiply_dealt plan q s a b) s.coins)) by

    product-pieces :
        (x : ℕ) → pieces_at plan (Multiply a b) (with_coins (matched_at plan ms (Multiply a b) s s' ++ rest) s') x
        ≡ map (λ f. eval p f x) (sharings (D k) zs (matched_blocks plan ms (D k) ss zs s.coins ++ rest))
    unfolding pieces_at dealings_at dealt_at multiply_dealings multiply_dealt first_dealings with_coins matched_at absorbed absorbed_by is_kind kind_of operands_of
    product-pieces x =
        let M : Rule → List ℕ =
        λ q. matched_blocks plan ms (multiply_dealings plan q) (multiply_dealt plan q s a b) (multiply_dealt plan q (with_coins (absorbed_by plan q ms s s' a b) s') a b) (absorbed_by plan q ms s s' a b) ++ rest in
        ap (λ (q : Rule). map (λ f. eval p f x) (sharings (multiply_dealings plan q) (multiply_dealt plan q (with_coins (M q) s') a b) (M q))) by

    value_of :
        (env : List (ℕ → ℕ)) (u v : ℕ) → Shared p t (wire_at env a) u → Shared p t (wire_at env b) v
        → dot p (weights p 0 (dealer_points plan)) (firsts (D k) (map (product_of plan env a b) (dealer_points plan))) ≡ mul p u v
    unfolding interpolate product_of dealer_count
    value_of env u v sa sb =
        ap (dot p (weights p 0 (dealer_points plan)))
        (firsts-tab (λ i. record { dealer = suc i; coins = t }) k (map (product_of plan env a b) (dealer_points plan))
        ∙ ap (tab (λ j. get_or (map (product_of plan env a b) (dealer_points plan)) j 0)) (sym (length-map (dealer_points plan) (product_of plan env a b) ∙ k-points))
        ∙ sym (list-tab (map (product_of plan env a b) (dealer_points plan)) 0)
        ∙ ap (λ (h : ℕ → ℕ). map h (dealer_points plan)) (fun_ext (λ x. ap₂ (mul p) (sa.value x) (sb.value x))))
        ∙ product-interpolation valid.prime 0 (dealer_points plan) sa.poly sb.poly (dealers_distinct plan valid) (omega (arith, sa.small, sb.small, k-points))
        ∙ ap₂ (mul p) sa.secret sb.secret

    product-differ :
        Differ p (map (point_of plan) ms) (gate_share plan (Multiply a b) s) (gate_share plan (Multiply a b) (with_coins (matched_at plan ms (Multiply a b) s s' ++ rest) s'))
        (mul p (get_or vals a 0) (get_or vals b 0)) (mul p (get_or vals' a 0) (get_or vals' b 0))
    product-differ x =
        share-by (with_coins (matched_at plan ms (Multiply a b) s s' ++ rest) s')
        ∙ ap (dot p (weights p 0 (dealer_points plan))) (product-pieces x)
        ∙ dot_differ plan valid ms parties_only (weights p 0 (dealer_points plan)) (D k) ss zs s.coins rest x (ample-D k) product-enough product-agree
        ∙ ap₂ (λ (u v : ℕ). add p (dot p (weights p 0 (dealer_points plan)) (map (λ f. eval p f x) (sharings (D k) ss s.coins))) (mul p (sub p u v) (spare plan valid ms parties_only x)))
        (value_of s'.env (get_or vals' a 0) (get_or vals' b 0) (r.second a) (r.second b)) (value_of s.env (get_or vals a 0) (get_or vals b 0) (r.first a) (r.first b))
        ∙ ap (λ (h : ℕ). add p h (mul p (sub p (mul p (get_or vals' a 0) (get_or vals' b 0)) (mul p (get_or vals a 0) (get_or vals b 0))) (spare plan valid ms parties_only x)))
        (ap (dot p (weights p 0 (dealer_points plan))) (sym (product-first x)) ∙ sym (share-by s))
      where
        share-by : (q : Before) → gate_share plan (Multiply a b) q x ≡ dot p (weights p 0 (dealer_points plan)) (pieces_at plan (Multiply a b) q x)
        share-by q = unfold gate_share multiply_share in ap (λ (r : Rule). multiply_share plan r (Multiply a b) q x) by

    product-same :
        (x : ℕ) → spare plan valid ms parties_only x ≡ 0
        → pieces_at plan (Multiply a b) (with_coins (matched_at plan ms (Multiply a b) s s' ++ rest) s') x ≡ pieces_at plan (Multiply a b) s x
    product-same x e =
        product-pieces x ∙ pieces-same plan valid ms parties_only (D k) ss zs s.coins rest x (ample-D k) product-enough product-agree e ∙ sym (product-first x)

  -- ---- kind 5 by either rule
  module _ (a b : ℕ) (gs : List Gate) (s s' : Before) (vals vals' us us' : List ℕ) (r : Runs (Multiply a b ∷ gs) s s' vals vals' us us') (rest : List ℕ) where
    cut-wide : t + t < party_count plan
    unfolding is_kind kind_of
    cut-wide = r.wide.0 refl

    pub cut-enough : plan.rule ≡ Truncation → 3 * plan.t * party_count plan ≤ length s.coins
    cut-enough by =
        omega (
          arith,
          here-enough (Multiply a b) gs s s' vals vals' us us' r,
          taken_is plan (Multiply a b) ∙ ap total (dealings_cut plan by a b) ∙ total_pairs t suc (party_count plan),
        )

    -- each masked product changes by the constant of the product's change times delta
    pub masked-moves :
        (by : plan.rule ≡ Truncation) (j : ℕ)
        → new plan by a b valid ms few s s' (cut-enough by) r.canon (get_or plan.points j 0)
        ≡ add p (old plan by a b valid ms few s s' (cut-enough by) r.canon (get_or plan.points j 0))
        (mul p (get_or (change_of plan s s' a b) 0 0) (eval p (delta p (map (point_of plan) ms)) (get_or plan.points j 0)))
    masked-moves by j =
        masked_moves plan by a b valid ms few parties_only cut-wide s s' (cut-enough by) r.canon (get_or vals a 0) (get_or vals b 0) (get_or vals' a 0) (get_or vals' b 0)
        (r.first a) (r.first b) (r.second a) (r.second b) (r.differ a) (r.differ b) rest j

    cut_all :
        plan.rule ≡ Truncation
        → CutSame plan ms a b s s' (matched_at plan ms (Multiply a b) s s' ++ rest) (mul p (get_or vals a 0) (get_or vals b 0)) (mul p (get_or vals' a 0) (get_or vals' b 0))
    cut_all by =
        cut_same plan by a b valid ms few parties_only cut-wide s s' (cut-enough by)
        r.canon (get_or vals a 0) (get_or vals b 0) (get_or vals' a 0) (get_or vals' b 0) (r.first a) (r.first b) (r.second a) (r.second b) (r.differ a) (r.differ b) rest

    multiply-differ :
        (q : Rule) → plan.rule ≡ q
        → Differ p (map (point_of plan) ms) (gate_share plan (Multiply a b) s) (gate_share plan (Multiply a b) (with_coins (matched_at plan ms (Multiply a b) s s' ++ rest) s'))
        (mul p (get_or vals a 0) (get_or vals b 0)) (mul p (get_or vals' a 0) (get_or vals' b 0))
    multiply-differ Reduction by = product-differ a b by gs s s' vals vals' us us' r rest
    multiply-differ Truncation by = (cut_all by).wire

    multiply-mail :
        (q : Rule) → plan.rule ≡ q → (i : ℕ) → is_member i ms ≡ true
        → multiply_mail plan q a b (with_coins (matched_at plan ms (Multiply a b) s s' ++ rest) s') (point_of plan i) ≡ multiply_mail plan q a b s (point_of plan i)
    unfolding multiply_mail with_coins
    multiply-mail Reduction by i m =
        ap (λ (l : List ℕ). l ++ []) (product-same a b by gs s s' vals vals' us us' r rest (point_of plan i) (spare-member plan valid ms parties_only i m))
    multiply-mail Truncation by i m =
        ap₂ ◌++◌ ((cut_all by).zeros i m)
        (ap₂ ◌++◌ ((cut_all by).masks i m) (ap (λ (h : ℕ → ℕ). map h plan.points ++ []) (fun_ext ((cut_all by).sent i m))))

  -- ---- kind 1
  input_differ :
      (i : ℕ) (gs : List Gate) (s s' : Before) (vals vals' us us' : List ℕ) → Runs (Input i ∷ gs) s s' vals vals' us us' → (rest : List ℕ)
      → Differ p (map (point_of plan) ms) (gate_share plan (Input i) s) (gate_share plan (Input i) (with_coins (matched_at plan ms (Input i) s s' ++ rest) s'))
      (get_or s.inputs 0 0) (get_or s'.inputs 0 0)
  unfolding gate_share with_coins matched_at absorbed is_kind kind_of operands_of dealings_at dealt_at inputs_taken input_owners_at matched_blocks
  input_differ i gs s s' vals vals' us us' r rest x =
      let d : Dealing = record { dealer = i; coins = t } in
      let x₀ : ℕ = get_or s.inputs 0 0 in
      let y₀ : ℕ = get_or s'.inputs 0 0 in
      let size : length (take t s.coins) ≡ t = length-take-le t s.coins (coins-for-input i gs s s' vals vals' us us' r) in
      let new : List ℕ = matched_block plan ms i x₀ y₀ (take t s.coins) in
      ap (λ (l : List ℕ). eval p (y₀ ∷ l) x)
      (ap (λ (l : List ℕ). take t (l ++ rest)) (blocks-cons plan ms d [] (x₀ ∷ []) (y₀ ∷ []) s.coins ∙ append-nil new)
      ∙ take_at new rest t (length_block plan ms valid.prime i x₀ y₀ (take t s.coins) (omega arith) ∙ size))
      ∙ deal-differ plan valid ms parties_only i x₀ y₀ (take t s.coins) x (inputs_here plan ms (Input i) gs s.inputs s'.inputs r.agree 0 (omega arith))
    where
      one_input : (i : ℕ) → total (dealings_at plan (Input i)) ≡ t
      one_input i = unfold dealings_at total in omega arith

      coins-for-input :
          (i : ℕ) (gs : List Gate) (s s' : Before) (vals vals' us us' : List ℕ) → Runs (Input i ∷ gs) s s' vals vals' us us' → t ≤ length s.coins
      coins-for-input i gs s s' vals vals' us us' r = omega (arith, here-enough (Input i) gs s s' vals vals' us us' r, taken_is plan (Input i), one_input i)

  -- ---- kind 7
  module _ (a b : ℕ) (gs : List Gate) (s s' : Before) (vals vals' us us' : List ℕ) (r : Runs (Spend a b ∷ gs) s s' vals vals' us us') (c : List ℕ) where
    spend-differ :
        Differ p (map (point_of plan) ms) (gate_share plan (Spend a b) s) (gate_share plan (Spend a b) (with_coins c s'))
        (mul p (get_or vals a 0) (get_or vals b 0)) (mul p (get_or vals' a 0) (get_or vals' b 0))
    unfolding with_coins
    spend-differ x =
        let triple : Differ p pts (wire_at s.triples 2) (wire_at s'.triples 2) (mul p (get_or us 0 0) (get_or us 1 0)) (mul p (get_or us' 0 0) (get_or us' 1 0)) =
        λ z. r.moved 2 z ∙ ap₂ (λ (u v : ℕ). add p (wire_at s.triples 2 z) (mul p (sub p u v) (eval p (delta p pts) z))) (r.triples'.product 0) (r.triples.product 0) in
        spent-as plan (with_coins c s') a b x
        ∙ spent-differ valid.prime t plan.points valid.distinct (openers plan valid) pts (get_or vals a 0) (get_or vals' a 0) (get_or vals b 0) (get_or vals' b 0)
        (get_or us 0 0) (get_or us' 0 0) (get_or us 1 0) (get_or us' 1 0) (wire_at s.env a) (wire_at s'.env a) (wire_at s.env b) (wire_at s'.env b)
        (wire_at s.triples 0) (wire_at s'.triples 0) (wire_at s.triples 1) (wire_at s'.triples 1) (wire_at s.triples 2) (wire_at s'.triples 2)
        (r.first a) (r.first b) (r.triples.shared 0) (r.triples.shared 1) (r.differ a) (r.differ b) (r.moved 0) (r.moved 1) triple r.spent.0.0 r.spent.0.1 x
        ∙ ap (λ (h : ℕ). add p h (mul p (sub p (mul p (get_or vals' a 0) (get_or vals' b 0)) (mul p (get_or vals a 0) (get_or vals b 0))) (eval p (delta p pts) x))) (sym (spent-as plan s a b x))

    spend-same : (x : ℕ) → gate_mail plan (Spend a b) (with_coins c s') x ≡ gate_mail plan (Spend a b) s x
    unfolding gate_mail difference_at with_coins
    spend-same x =
        ap₂ (λ (f h : ℕ → ℕ). flat_map (λ y. f y ∷ h y ∷ []) plan.points ++ [])
        (fun_ext (less-same valid.prime t plan.points valid.distinct (openers plan valid) pts (get_or vals a 0) (get_or vals' a 0) (get_or us 0 0) (get_or us' 0 0)
        (wire_at s.env a) (wire_at s'.env a) (wire_at s.triples 0) (wire_at s'.triples 0) (r.differ a) (r.moved 0) r.spent.0.0))
        (fun_ext (less-same valid.prime t plan.points valid.distinct (openers plan valid) pts (get_or vals b 0) (get_or vals' b 0) (get_or us 1 0) (get_or us' 1 0)
        (wire_at s.env b) (wire_at s'.env b) (wire_at s.triples 1) (wire_at s'.triples 1) (r.differ b) (r.moved 1) r.spent.0.1))

  -- ---- any gate, whatever coins come after its own
  pub gate_differ :
      (g : Gate) (gs : List Gate) (s s' : Before) (vals vals' us us' : List ℕ) → Runs (g ∷ gs) s s' vals vals' us us' → (rest : List ℕ)
      → Differ p (map (point_of plan) ms) (gate_share plan g s) (gate_share plan g (with_coins (matched_at plan ms g s s' ++ rest) s'))
      (gate_value plan g vals s.inputs) (gate_value plan g vals' s'.inputs)
  unfolding gate_value gate_share with_coins
  gate_differ (Input i) gs s s' vals vals' us us' r rest = input_differ i gs s s' vals vals' us us' r rest
  gate_differ (Add a b) gs s s' vals vals' us us' r rest = λ z.
      ap₂ (add p) (r.differ a z) (r.differ b z)
      ∙ add_differ (wire_at s.env a z) (wire_at s.env b z) (get_or vals a 0) (get_or vals b 0) (get_or vals' a 0) (get_or vals' b 0) (spare plan valid ms parties_only z)
  gate_differ (Scale a c) gs s s' vals vals' us us' r rest = λ z.
      ap (λ n. mul p n c) (r.differ a z) ∙ scale_differ (wire_at s.env a z) c (get_or vals a 0) (get_or vals' a 0) (spare plan valid ms parties_only z)
  gate_differ (Offset a c) gs s s' vals vals' us us' r rest = λ z.
      ap (λ n. add p n c) (r.differ a z) ∙ offset_differ (wire_at s.env a z) c (get_or vals a 0) (get_or vals' a 0) (spare plan valid ms parties_only z)
  gate_differ (Multiply a b) gs s s' vals vals' us us' r rest = multiply-differ a b gs s s' vals vals' us us' r rest plan.rule refl
  gate_differ Random gs s s' vals vals' us us' r rest = random-differ gs s s' vals vals' us us' r rest
  gate_differ (Spend a b) gs s s' vals vals' us us' r rest = spend-differ a b gs s s' vals vals' us us' r (matched_at plan ms (Spend a b) s s' ++ rest)

  -- a member gets the same mail in a gate's steps
  pub mail_same :
      (g : Gate) (gs : List Gate) (s s' : Before) (vals vals' us us' : List ℕ) → Runs (g ∷ gs) s s' vals vals' us us' → (rest : List ℕ) → (i : ℕ) → is_member i ms ≡ true
      → gate_mail plan g (with_coins (matched_at plan ms g s s' ++ rest) s') (point_of plan i) ≡ gate_mail plan g s (point_of plan i)
  unfolding gate_mail
  mail_same (Input j) gs s s' vals vals' us us' r rest i m = refl
  mail_same (Add a b) gs s s' vals vals' us us' r rest i m = refl
  mail_same (Scale a c) gs s s' vals vals' us us' r rest i m = refl
  mail_same (Offset a c) gs s s' vals vals' us us' r rest i m = refl
  mail_same (Multiply a b) gs s s' vals vals' us us' r rest i m = multiply-mail a b gs s s' vals vals' us us' r rest plan.rule refl i m
  mail_same Random gs s s' vals vals' us us' r rest i m =
      ap (λ (l : List ℕ). l ++ []) (random-same gs s s' vals vals' us us' r rest (point_of plan i) (spare-member plan valid ms parties_only i m))
  mail_same (Spend a b) gs s s' vals vals' us us' r rest i m = spend-same a b gs s s' vals vals' us us' r (matched_at plan ms (Spend a b) s s' ++ rest) (point_of plan i)

  moved-past :
      (k : ℕ) (ts ts' : List (ℕ → ℕ)) (us us' : List ℕ) → ((w : ℕ) → Differ p (map (point_of plan) ms) (wire_at ts w) (wire_at ts' w) (get_or us w 0) (get_or us' w 0))
      → (w : ℕ) → Differ p (map (point_of plan) ms) (wire_at (drop k ts) w) (wire_at (drop k ts') w) (get_or (drop k us) w 0) (get_or (drop k us') w 0)
  unfolding wire_at
  moved-past k ts ts' us us' h w = rw (get_or-drop k ts w (λ x. 0), get_or-drop k ts' w (λ x. 0), get_or-drop k us w 0, get_or-drop k us' w 0) (h (k + w))

  -- past one gate
  pub runs_after :
      (g : Gate) (gs : List Gate) (s s' : Before) (vals vals' us us' : List ℕ) → Runs (g ∷ gs) s s' vals vals' us us'
      → Runs gs (past plan g s) (past plan g (with_coins (matched_at plan ms g s s') s')) (vals ++ (gate_value plan g vals s.inputs ∷ []))
      (vals' ++ (gate_value plan g vals' s'.inputs ∷ [])) (drop (triples_taken g) us) (drop (triples_taken g) us')
  unfolding past wire_at with_coins
  runs_after g gs s s' vals vals' us us' r =
      let new : List ℕ = matched_at plan ms g s s' in
      let q : Before = with_coins new s' in
      let one : Differ p (map (point_of plan) ms) (gate_share plan g s) (gate_share plan g q) (gate_value plan g vals s.inputs) (gate_value plan g vals' s'.inputs) =
      subst (λ (l : List ℕ). Differ p (map (point_of plan) ms) (gate_share plan g s) (gate_share plan g (with_coins l s')) (gate_value plan g vals s.inputs) (gate_value plan g vals' s'.inputs))
      (append-nil new) (gate_differ g gs s s' vals vals' us us' r []) in
      record {
        wires = length_snoc s.env (gate_share plan g s) ∙ ap suc r.wires ∙ sym (length_snoc vals (gate_value plan g vals s.inputs));
        wires' = length_snoc s'.env (gate_share plan g q) ∙ ap suc r.wires' ∙ sym (length_snoc vals (gate_value plan g vals s.inputs));
        values' = length_snoc vals' (gate_value plan g vals' s'.inputs) ∙ ap suc r.values' ∙ sym (length_snoc vals (gate_value plan g vals s.inputs));
        first = after_shared plan valid s vals us r.wires r.first r.triples r.small g r.wide.0;
        second = after_shared plan valid q vals' us' (r.wires' ∙ sym r.values') r.second r.triples' r.small' g r.wide.0;
        differ =
            snoc_four (Differ p (map (point_of plan) ms)) (λ z. 0) 0 s.env s'.env vals vals' (gate_share plan g s) (gate_share plan g q) (gate_value plan g vals s.inputs)
            (gate_value plan g vals' s'.inputs) r.wires r.wires' r.values' r.differ one;
        small = λ k. rw (get_or-drop (inputs_taken plan g) s.inputs k 0) (r.small (inputs_taken plan g + k));
        small' = λ k. rw (get_or-drop (inputs_taken plan g) s'.inputs k 0) (r.small' (inputs_taken plan g + k));
        agree = inputs_rest plan ms g gs s.inputs s'.inputs r.agree;
        enough = omega (arith, coins-cons plan g gs, r.enough, length-drop (taken plan g) s.coins);
        canon = all_drop (Canon p) (taken plan g) s.coins r.canon;
        wide = r.wide.1;
        triples = triples-past plan g s.triples us r.triples;
        triples' = triples-past plan g s'.triples us' r.triples';
        moved = moved-past (triples_taken g) s.triples s'.triples us us' r.moved;
        spent = r.spent.1;
      }

  -- past several
  pub runs_past :
      (gs hs : List Gate) (s s' : Before) (vals vals' us us' : List ℕ) → Runs (gs ++ hs) s s' vals vals' us us'
      → (ws : List ℕ) × (ws' : List ℕ)
      × Runs hs (past_all plan gs s) (past_matched plan ms gs s s') (values_from plan gs vals s.inputs) (values_from plan gs vals' s'.inputs) ws ws'
  unfolding past_all past_matched values_from past with_coins
  runs_past [] hs s s' vals vals' us us' r = (us, us', r)
  runs_past (g ∷ gs) hs s s' vals vals' us us' r =
      runs_past gs hs (past plan g s) (past plan g (with_coins (matched_at plan ms g s s') s')) (vals ++ (gate_value plan g vals s.inputs ∷ []))
      (vals' ++ (gate_value plan g vals' s'.inputs ∷ [])) (drop (triples_taken g) us) (drop (triples_taken g) us') (runs_after g (gs ++ hs) s s' vals vals' us us' r)
