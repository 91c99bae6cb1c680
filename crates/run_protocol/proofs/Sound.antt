-- The table of shares is right: at every wire the shares lie on a polynomial of degree t or less, whose value at 0 is the wire's value.
--     Wide, wide                    2t < n at the gates of kind 5
--     RightTriples                  triples that stand for a, b and a·b
--     gate_shared, after_shared     one gate, and the wires with its own
--     shared_from, shared           these gates, and every wire of the table
--     opened-value, none-off        the opening of a wire, and that none of its shares is off
--     results-right                 a party's results
-- Assumes nothing.
use Rattle.std.proofs.Common.{None}
use mathlib.Core.Path.{◌≡◌, refl, sym, ap, ap₂, ◌∙◌, fun_ext}
use mathlib.Core.Bool.{true}
use mathlib.Core.List.{List, [], ◌∷◌, ◌++◌, map}
use Prim.Native.Nat.{ℕ, zero, suc, ◌+◌, ◌-◌, ◌*◌, ◌%◌, ◌≤◌, ◌<◌}
use native.Mathlib.Nat.{mod-eq_of_lt}
use native.Mathlib.Omega.{arith}
use lib.ListN.{length, take, drop, get_or, length-append, length-take, length-map}
use lib.Seq.{get_or-drop, length-take-le}
use Rattle.numbers.specs.Bytes.{all_below}
use Rattle.numbers.specs.Tables.{tab}
use Rattle.numbers.proofs.Tables.{tab-map, tab-ext, list-tab}
use Rattle.field.specs.Mod.{add, mul}
use Rattle.field.proofs.Solve.{Canon, below, mul_canon, #, quote, solve}
use Rattle.field.proofs.Inverse.{pos}
use Rattle.sharing_laws.specs.Poly.{eval, sum_of, scale}
use Rattle.sharing_laws.specs.Interp.{Distinct, weights, dot}
use Rattle.sharing_laws.specs.Sharing.{opened, first_off, mixture}
use Rattle.sharing_laws.proofs.Polys.{eval_sum, eval-scale, length_sum, length-scale}
use Rattle.sharing_laws.proofs.Shares.{eval-mixture, Every, length-mixture, reduction}
use Rattle.sharing_laws.proofs.Alls.{distinct-take}
use Rattle.sharing_laws.proofs.Openings.{Shared, none_shared, shared-opened, shared_on}
use Rattle.numbers.proofs.Below.{input_below}
use Rattle.sharing_laws.proofs.Lists.{all_get_d, all_mapped}
use Rattle.sharing_laws.proofs.Steps.{sum_over}
use Rattle.sharing_laws.proofs.ReducedStep.{step_right}
use Rattle.sharing_laws.proofs.Draws.{drawn_shared}
use Rattle.sharing_laws.proofs.Triples.{same-shared, spent-shared}
use Rattle.plan.specs.declared.Gate.{Gate}
use Rattle.plan.specs.declared.Gate.TheVariants.{Input, Add, Scale, Offset, Multiply, Random, Spend}
use Rattle.plan.specs.declared.Rule.{Rule}
use Rattle.plan.specs.declared.Rule.TheVariants.{Reduction, Truncation}
use Rattle.sharing_laws.specs.Basis.{sum_all}
use Rattle.plan.specs.Plans.{Plan, party_count, parties, point_of, dealer_count, dealer_points, kind_of, is_kind, out_wires, first_dealings, multiply_dealings, dealings_at, multiplying}
use Rattle.run_protocol.specs.Ideal.{inputs_taken, gate_value, values_from, values, granted}
use Rattle.run_protocol.specs.Shares.{Before, wire_at, product_of, multiply_dealt, dealt_at, sharings, pieces_at, multiply_share, gate_share, triples_taken, past, past_all, start_of, share_table}
use Rattle.run_protocol.specs.Tables.{table_results}
use Rattle.run_protocol.proofs.Dealings.{sum-tab, sum-padded, shared_first}
use Rattle.plan.proofs.Valid.{Valid}
use Rattle.run_protocol.proofs.Gates.{zeros_of, masks_of, draw_of, draw_coins, before-suc, parties_points, reduced-as, drawn-as, spent-as}

-- ---- 2t < n where there is a gate of kind 5
abbrev pub Wide : Plan → List Gate → Type 0
Wide plan [] = Unit
Wide plan (g ∷ gs) = (is_kind 5 g ≡ true → plan.t + plan.t < party_count plan) × Wide plan gs

wide_from : (plan : Plan) (gs : List Gate) → ((g : ℕ) → g < length gs → multiplying (get_or gs g (Input 0)) ≡ true → plan.t + plan.t < party_count plan) → Wide plan gs
unfolding multiplying
wide_from plan [] h = tt
wide_from plan (g ∷ gs) h = (λ e. h 0 (omega arith) (rw e), wide_from plan gs (λ k l. h (suc k) (omega arith)))

pub wide : (plan : Plan) → Valid plan → Wide plan plan.gates
wide plan valid = wide_from plan plan.gates valid.majority

-- ---- triples: wires 3k, 3k + 1 and 3k + 2 stand for a, b and a·b
pub record RightTriples (plan : Plan) (ts : List (ℕ → ℕ)) (us : List ℕ) : Type 0 where
  pub shared : (w : ℕ) → Shared plan.p plan.t (wire_at ts w) (get_or us w 0)
  pub product : (k : ℕ) → get_or us (3 * k + 2) 0 ≡ mul plan.p (get_or us (3 * k) 0) (get_or us (3 * k + 1) 0)

pub no_triples : (plan : Plan) → RightTriples plan [] []
unfolding wire_at
no_triples plan = record {
  shared = λ w. none_shared plan.p plan.t;
  product = λ k. solve plan.p (search quote) (omega arith);
}

triples_next : (plan : Plan) (ts : List (ℕ → ℕ)) (us : List ℕ) → RightTriples plan ts us → RightTriples plan (drop 3 ts) (drop 3 us)
unfolding wire_at
triples_next plan ts us r = record {
  shared = λ w. rw (get_or-drop 3 ts w (λ x. 0), get_or-drop 3 us w 0) (r.shared (3 + w));
  product =
      λ k. at (3 * k + 2) (3 * suc k + 2) (omega arith) ∙ r.product (suc k)
      ∙ sym (ap₂ (mul plan.p) (at (3 * k) (3 * suc k) (omega arith)) (at (3 * k + 1) (3 * suc k + 1) (omega arith)));
}
  where
    at : (i j : ℕ) → 3 + i ≡ j → get_or (drop 3 us) i 0 ≡ get_or us j 0
    at i j e = get_or-drop 3 us i 0 ∙ ap (λ (m : ℕ). get_or us m 0) e

-- past a gate
pub triples-past : (plan : Plan) (g : Gate) (ts : List (ℕ → ℕ)) (us : List ℕ) → RightTriples plan ts us → RightTriples plan (drop (triples_taken g) ts) (drop (triples_taken g) us)
unfolding triples_taken is_kind kind_of
triples-past plan (Input s) ts us r = r
triples-past plan (Add a b) ts us r = r
triples-past plan (Scale a c) ts us r = r
triples-past plan (Offset a c) ts us r = r
triples-past plan (Multiply a b) ts us r = r
triples-past plan Random ts us r = r
triples-past plan (Spend a b) ts us r = triples_next plan ts us r

-- ---- small laws
constant : (p v : ℕ) (coins : List ℕ) → eval p (v ∷ coins) 0 ≡ v % p
unfolding eval
constant p v coins = solve p (search (quote, # v, # (eval p coins 0))) (omega arith)

offset_at : (p c x : ℕ) (f : List ℕ) → eval p (sum_of p f (c ∷ [])) x ≡ add p (eval p f x) c
unfolding eval
offset_at p c x f = rw (eval_sum p f (c ∷ []) x) (solve p (search (quote, # c, # x, # (eval p f x))) (omega arith))

scale_at : (p c x : ℕ) (f : List ℕ) → eval p (scale p c f) x ≡ mul p (eval p f x) c
scale_at p c x f = rw (eval-scale p c f x) (solve p (search (quote, # c, # (eval p f x))) (omega arith))

every-tab : (P : List ℕ → Type 0) (F : ℕ → List ℕ) (n : ℕ) → ((j : ℕ) → P (F j)) → Every P (tab F n)
unfolding tab
every-tab P F zero h = tt
every-tab P F (suc n) h = (h 0, every-tab P (λ j. F (suc j)) n (λ j. h (suc j)))

snoc_both :
    {A B : Type 0} (Q : A → B → Type 0) (d : A) (e : B) (xs : List A) (ys : List B) (a : A) (b : B)
    → length xs ≡ length ys → Q d e → ((w : ℕ) → Q (get_or xs w d) (get_or ys w e)) → Q a b
    → (w : ℕ) → Q (get_or (xs ++ (a ∷ [])) w d) (get_or (ys ++ (b ∷ [])) w e)
snoc_both Q d e [] [] a b len z h q zero = q
snoc_both Q d e [] [] a b len z h q (suc w) = z
snoc_both Q d e [] (y ∷ ys) a b len z h q w = absurd (omega arith)
snoc_both Q d e (x ∷ xs) [] a b len z h q w = absurd (omega arith)
snoc_both Q d e (x ∷ xs) (y ∷ ys) a b len z h q zero = h 0
snoc_both Q d e (x ∷ xs) (y ∷ ys) a b len z h q (suc w) = snoc_both Q d e xs ys a b (omega arith) z (λ u. h (suc u)) q w

pub small-take : (p : ℕ) (n : ℕ) (xs : List ℕ) → 0 < p → ((k : ℕ) → get_or xs k 0 < p) → (k : ℕ) → get_or (take n xs) k 0 < p
small-take p zero xs above h k = above
small-take p (suc n) [] above h k = above
small-take p (suc n) (x ∷ xs) above h zero = h 0
small-take p (suc n) (x ∷ xs) above h (suc k) = small-take p n xs above (λ j. h (suc j)) k

-- the polynomial of dealing j of a multiply by reduction
unfoldable pub dealt : Plan → Before → ℕ → ℕ → ℕ → List ℕ
dealt plan s a b j = get_or (map (product_of plan s.env a b) (dealer_points plan)) j 0 ∷ take plan.t (drop (plan.t * j) s.coins)

module _ (plan : Plan) (valid : Valid plan) where
  abbrev p : ℕ
  p = plan.p

  abbrev t : ℕ
  t = plan.t

  -- ---- kind 5 by reduction
  pub dealers_distinct : Distinct p (dealer_points plan)
  unfolding dealer_points
  dealers_distinct = distinct-take p (dealer_count plan) plan.points valid.distinct

  pub dealers-length : t + t < party_count plan → length (dealer_points plan) ≡ dealer_count plan
  unfolding dealer_points dealer_count party_count
  dealers-length majority = length-take-le (t + t + 1) plan.points (omega arith)

  pub products_as :
      (s : Before) (a b : ℕ) → plan.rule ≡ Reduction → (x : ℕ)
      → pieces_at plan (Multiply a b) s x ≡ map (λ f. eval p f x) (tab (dealt plan s a b) (dealer_count plan))
  unfolding pieces_at dealings_at dealt_at multiply_dealings multiply_dealt first_dealings dealt
  products_as s a b by x =
      ap (λ (r : Rule). map (λ f. eval p f x) (sharings (multiply_dealings plan r) (multiply_dealt plan r s a b) s.coins)) by
      ∙ ap (map (λ f. eval p f x)) (shared_first t suc (dealer_count plan) (map (product_of plan s.env a b) (dealer_points plan)) s.coins)

  product_shared :
      (s : Before) (a b u v : ℕ) → plan.rule ≡ Reduction → t + t < party_count plan → Shared p t (wire_at s.env a) u → Shared p t (wire_at s.env b) v
      → Shared p t (gate_share plan (Multiply a b) s) (mul p u v)
  unfolding gate_share multiply_share product_of dealt dealer_count
  product_shared s a b u v by majority sa sb =
      let ws : List ℕ = weights p 0 (dealer_points plan) in
      let fs : List (List ℕ) = tab (dealt plan s a b) (dealer_count plan) in
      let ss : List ℕ = map (product_of plan s.env a b) (dealer_points plan) in
      let size : length ss ≡ dealer_count plan = length-map (dealer_points plan) (product_of plan s.env a b) ∙ dealers-length majority in
      record {
        poly = mixture p ws fs;
        small = length-mixture p (suc t) ws fs (every-tab (λ f. length f ≤ suc t) (dealt plan s a b) (dealer_count plan) (λ j. omega (arith, length-take t (drop (t * j) s.coins))));
        value =
            λ x. ap (λ (r : Rule). multiply_share plan r (Multiply a b) s x) by ∙ ap (dot p ws) (products_as s a b by x)
            ∙ sym (eval-mixture p ws fs x);
        secret =
            reduction valid.prime (dealer_points plan) sa.poly sb.poly fs dealers_distinct
            (omega (arith, dealers-length majority, sa.small, sb.small))
            (tab-map (λ h. eval p h 0) (dealt plan s a b) (dealer_count plan)
            ∙ tab-ext (λ j. eval p (dealt plan s a b j) 0) (λ j. get_or ss j 0) (dealer_count plan)
            (λ j l. constant p (get_or ss j 0) (take t (drop (t * j) s.coins))
            ∙ (all_get_d (Canon p) ss j 0 (below (pos valid.prime)) (all_mapped (Canon p) (product_of plan s.env a b) (dealer_points plan) (λ x. mul_canon _ _))).canon)
            ∙ ap (tab (λ j. get_or ss j 0)) (sym size) ∙ sym (list-tab ss 0)
            ∙ ap (λ (h : ℕ → ℕ). map h (dealer_points plan)) (fun_ext (λ x. ap₂ (mul p) (sa.value x) (sb.value x))))
            ∙ ap₂ (mul p) sa.secret sb.secret;
      }

  -- ---- kind 5 by either rule
  multiply_shared :
      (r : Rule) → plan.rule ≡ r → (s : Before) (a b u v : ℕ) → t + t < party_count plan → Shared p t (wire_at s.env a) u → Shared p t (wire_at s.env b) v
      → Shared p t (gate_share plan (Multiply a b) s) (mul p u v)
  unfolding party_count zeros_of masks_of
  multiply_shared Reduction by s a b u v majority sa sb = product_shared s a b u v by majority sa sb
  multiply_shared Truncation by s a b u v majority sa sb =
      same-shared valid.prime (reduced-as plan s a b by) refl
      (step_right valid.prime t plan.points (parties plan) (point_of plan) (parties_points plan) valid.distinct majority (wire_at s.env a) (wire_at s.env b) u v
      (zeros_of t s.coins) (masks_of t s.coins) sa sb
      (λ i. omega (arith, length-take (t + t) (drop (3 * t * (i - 1)) s.coins)))
      (λ i. omega (arith, length-take t (drop (3 * t * (i - 1) + (t + t)) s.coins))))

  -- ---- kind 6
  draw_value : (xs : List ℕ) → sum_all p (take (party_count plan) xs) ≡ sum_over p (parties plan) (draw_of (take (party_count plan) xs))
  unfolding parties draw_of
  draw_value xs =
      sum-padded p (take (party_count plan) xs) (party_count plan) (omega (arith, length-take (party_count plan) xs))
      ∙ sum-tab p (λ j. get_or (take (party_count plan) xs) j 0) suc (λ i. get_or (take (party_count plan) xs) (i - 1) 0) (party_count plan)
      (λ j. ap (λ (k : ℕ). get_or (take (party_count plan) xs) k 0) (before-suc j))

  random_shared : (s : Before) → ((k : ℕ) → get_or s.inputs k 0 < p) → Shared p t (gate_share plan Random s) (sum_all p (take (party_count plan) s.inputs))
  unfolding draw_of draw_coins
  random_shared s small =
      same-shared valid.prime (drawn-as plan s) (sym (draw_value s.inputs))
      (drawn_shared p t (parties plan) (draw_of (take (party_count plan) s.inputs)) (draw_coins t s.coins)
      (λ i. below (small-take p (party_count plan) s.inputs (pos valid.prime) small (i - 1)))
      (λ i. omega (arith, length-take t (drop (t * (i - 1)) s.coins))))

  pub openers : plan.t + 1 ≤ length plan.points
  unfolding party_count
  openers = omega (arith, valid.threshold)

  -- one gate: if the wires before it stand for values then so does its own
  pub gate_shared :
      (s : Before) (vals us : List ℕ) → ((w : ℕ) → Shared p t (wire_at s.env w) (get_or vals w 0)) → RightTriples plan s.triples us
      → ((k : ℕ) → get_or s.inputs k 0 < p) → (g : Gate) → (is_kind 5 g ≡ true → t + t < party_count plan)
      → Shared p t (gate_share plan g s) (gate_value plan g vals s.inputs)
  unfolding gate_share gate_value is_kind kind_of
  gate_shared s vals us h r small (Input i) m = record {
    poly = get_or s.inputs 0 0 ∷ take t s.coins;
    small = omega (arith, length-take t s.coins);
    value = λ x. refl;
    secret = constant p (get_or s.inputs 0 0) (take t s.coins) ∙ mod-eq_of_lt (small 0);
  }
  gate_shared s vals us h r small (Add a b) m = record {
    poly = sum_of p (h a).poly (h b).poly;
    small = omega (arith, (h a).small, (h b).small, length_sum p (h a).poly (h b).poly);
    value = λ x. rw (eval_sum p (h a).poly (h b).poly x) (ap₂ (add p) ((h a).value x) ((h b).value x));
    secret = rw (eval_sum p (h a).poly (h b).poly 0) (ap₂ (add p) (h a).secret (h b).secret);
  }
  gate_shared s vals us h r small (Scale a c) m = record {
    poly = scale p c (h a).poly;
    small = omega (arith, (h a).small, length-scale p c (h a).poly);
    value = λ x. ap (λ n. mul p n c) ((h a).value x) ∙ sym (scale_at p c x (h a).poly);
    secret = scale_at p c 0 (h a).poly ∙ ap (λ n. mul p n c) (h a).secret;
  }
  gate_shared s vals us h r small (Offset a c) m = record {
    poly = sum_of p (h a).poly (c ∷ []);
    small = omega (arith, (h a).small, length_sum p (h a).poly (c ∷ []));
    value = λ x. ap (λ n. add p n c) ((h a).value x) ∙ sym (offset_at p c x (h a).poly);
    secret = offset_at p c 0 (h a).poly ∙ ap (λ n. add p n c) (h a).secret;
  }
  gate_shared s vals us h r small (Multiply a b) m = multiply_shared plan.rule refl s a b (get_or vals a 0) (get_or vals b 0) (m refl) (h a) (h b)
  gate_shared s vals us h r small Random m = random_shared s small
  gate_shared s vals us h r small (Spend a b) m =
      same-shared valid.prime (spent-as plan s a b) refl
      (spent-shared valid.prime t plan.points valid.distinct openers (get_or vals a 0) (get_or vals b 0) (get_or us 0 0) (get_or us 1 0)
      (wire_at s.env a) (wire_at s.env b) (wire_at s.triples 0) (wire_at s.triples 1) (wire_at s.triples 2) (h a) (h b) (r.shared 0) (r.shared 1)
      (same-shared valid.prime (λ z. refl) (r.product 0) (r.shared 2)))

  -- the wires with one gate's more
  pub after_shared :
      (s : Before) (vals us : List ℕ) → length s.env ≡ length vals → ((w : ℕ) → Shared p t (wire_at s.env w) (get_or vals w 0)) → RightTriples plan s.triples us
      → ((k : ℕ) → get_or s.inputs k 0 < p) → (g : Gate) → (is_kind 5 g ≡ true → t + t < party_count plan)
      → (w : ℕ) → Shared p t (wire_at (past plan g s).env w) (get_or (vals ++ (gate_value plan g vals s.inputs ∷ [])) w 0)
  unfolding wire_at past
  after_shared s vals us len h r small g m =
      snoc_both (Shared p t) (λ x. 0) 0 s.env vals (gate_share plan g s) (gate_value plan g vals s.inputs) len (none_shared p t) h (gate_shared s vals us h r small g m)

  pub shared_from :
      (gs : List Gate) (s : Before) (vals us : List ℕ) → length s.env ≡ length vals → ((w : ℕ) → Shared p t (wire_at s.env w) (get_or vals w 0))
      → RightTriples plan s.triples us → ((k : ℕ) → get_or s.inputs k 0 < p) → Wide plan gs
      → (w : ℕ) → Shared p t (wire_at (past_all plan gs s).env w) (get_or (values_from plan gs vals s.inputs) w 0)
  unfolding past_all values_from past
  shared_from [] s vals us len h r small m w = h w
  shared_from (g ∷ gs) s vals us len h r small m w =
      shared_from gs (past plan g s) (vals ++ (gate_value plan g vals s.inputs ∷ [])) (drop (triples_taken g) us)
      (omega (arith, length-append s.env (gate_share plan g s ∷ []), length-append vals (gate_value plan g vals s.inputs ∷ [])))
      (after_shared s vals us len h r small g m.0) (triples-past plan g s.triples us r)
      (λ k. rw (get_or-drop (inputs_taken plan g) s.inputs k 0) (small (inputs_taken plan g + k))) m.1 w

  -- every wire of a run
  pub shared :
      (xs cs : List ℕ) (ts : List (ℕ → ℕ)) (us : List ℕ) → RightTriples plan ts us → all_below p xs ≡ true
      → (w : ℕ) → Shared p t (wire_at (share_table plan xs cs ts) w) (get_or (values plan xs) w 0)
  unfolding share_table values start_of wire_at
  shared xs cs ts us r small w =
      shared_from plan.gates (start_of xs cs ts) [] us refl (λ v. none_shared p t) r (input_below p xs (pos valid.prime) small) (wide plan valid) w

  -- ---- openings
  module _ (xs cs : List ℕ) (ts : List (ℕ → ℕ)) (us : List ℕ) (r : RightTriples plan ts us) (small : all_below p xs ≡ true) where
    pub opened-value :
        (w : ℕ) → opened p t plan.points (map (wire_at (share_table plan xs cs ts) w) plan.points) ≡ get_or (values plan xs) w 0
    opened-value w = shared-opened valid.prime t plan.points valid.distinct openers _ _ (shared xs cs ts us r small w)

    -- none of its shares is off its polynomial
    pub none-off : (w : ℕ) → first_off p t plan.points (map (wire_at (share_table plan xs cs ts) w) plan.points) ≡ None
    none-off w = shared_on valid.prime t plan.points valid.distinct openers _ _ (shared xs cs ts us r small w)

    pub results-right : (i : ℕ) → table_results plan xs cs ts i ≡ granted plan xs i
    unfolding table_results granted
    results-right i = ap (λ (f : ℕ → ℕ). map f (out_wires plan i)) (fun_ext opened-value)
