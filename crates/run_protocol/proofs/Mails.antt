-- The counts of a run's mail.
--     cat, sum                  contributions laid end to end, and sums over the parties
--     entry, part, mail-run     what a call of the run leaves, what it sent to a party, and a party's mail by its parts
--     counted                   each call's mail has its count, where each input is one party's and the dealers of products are parties
-- Assumes nothing.
use mathlib.Core.Path.{◌≡◌, refl, sym, ap, ap₂, subst, ◌∙◌}
use mathlib.Core.Bool.{Bool, true, false, cond}
use mathlib.Core.List.{List, [], ◌∷◌, ◌++◌, map, flat_map}
use Prim.Native.Nat.{ℕ, zero, suc, ◌+◌, ◌-◌, ◌*◌, ◌<◌, ◌≤◌}
use native.Mathlib.Nat.{suc-mul}
use native.Mathlib.Omega.{arith}
use borrow.Author.Tests.{lt-ltb, leb-true, leb-false, lt-leb}
use lib.Dec.{leb}
use lib.ListN.{length, get_or, length-append}
use Rattle.numbers.specs.Tables.{tab}
use Rattle.numbers.proofs.Tables.{length-tab, list-tab}
use Rattle.sharing_laws.proofs.Lists.{length-map, get_or-map-in}
use Rattle.field.specs.Mod.{add, sub}
use Rattle.sharing_laws.specs.Poly.{eval}
use Rattle.sharing_laws.specs.Interp.{dot}
use Rattle.plan.specs.declared.Step.{Step}
use Rattle.plan.specs.declared.Step.TheVariants.{DealInputs, DealProduct, DealZero, DealMasked, SendTruncated, DealDraws, OpenSpent, SendOuts}
use Rattle.sharing_laws.specs.Basis.{sum_all, row}
use Rattle.plan.proofs.Parties.{at-party}
use Rattle.plan.specs.Plans.{Plan, party_count, parties, dealer_count, input_wires, out_wires, own_out_count, input_at, coins_at, triple_at, kind_count, received, step_at, last_call, mail_count}
use Rattle.seat_messages.specs.Messages.{Called, wires_by_party, deal_to, nothing, product_at, send_at, call_with, call}
use Rattle.run_protocol.specs.Rounds.{fresh, no_call, call_of, mail_to, next_call, next_round, after}
use Rattle.run_protocol.proofs.Induction.{nothing_to}

-- ---- contributions laid end to end
unfoldable pub cat : (ℕ → List ℕ) → ℕ → List ℕ
cat a zero = []
cat a (suc n) = a 0 ++ cat (λ i. a (suc i)) n

pub cat-flat_map : {A : Type 0} (f : A → List ℕ) (u : ℕ → A) (n : ℕ) → flat_map f (tab u n) ≡ cat (λ i. f (u i)) n
unfolding cat flat_map tab
cat-flat_map f u zero = refl
cat-flat_map f u (suc n) = ap (λ (l : List ℕ). f (u 0) ++ l) (cat-flat_map f (λ i. u (suc i)) n)

-- ---- a run
module _ (plan : Plan) (xs cs ts : List ℕ) where
  pub length-after : (k : ℕ) → length (after plan xs cs ts k) ≡ party_count plan
  unfolding after next_round parties
  length-after zero = length-map (fresh plan ts) (tab suc (party_count plan)) ∙ length-tab suc (party_count plan)
  length-after (suc k) =
      length-map (λ i. next_call plan xs cs i (call_of i (after plan xs cs ts k)) (mail_to i (after plan xs cs ts k))) (tab suc (party_count plan)) ∙ length-tab suc (party_count plan)

  -- what party i's call k - 1 leaves, i counted from 0
  unfoldable pub entry : ℕ → ℕ → Called
  entry k i = get_or (after plan xs cs ts k) i no_call

  unfoldable pub part : ℕ → Called → List ℕ
  part j c = get_or c.sent (j - 1) []

  pub mail-run : (j k : ℕ) → mail_to j (after plan xs cs ts k) ≡ cat (λ i. part j (entry k i)) (party_count plan)
  unfolding mail_to part entry
  mail-run j k =
      ap (flat_map (λ c. get_or c.sent (j - 1) [])) (list-tab (after plan xs cs ts k) no_call ∙ ap (tab (λ i. get_or (after plan xs cs ts k) i no_call)) (length-after k))
      ∙ cat-flat_map (λ c. get_or c.sent (j - 1) []) (λ i. get_or (after plan xs cs ts k) i no_call) (party_count plan)

  pub entry_next : (k j : ℕ) → 1 ≤ j → j ≤ party_count plan → entry (suc k) (j - 1) ≡ next_call plan xs cs j (entry k (j - 1)) (mail_to j (after plan xs cs ts k))
  unfolding entry after next_round call_of
  entry_next k j l h = at-party plan j l h (λ i. next_call plan xs cs i (call_of i (after plan xs cs ts k)) (mail_to i (after plan xs cs ts k))) no_call

  pub party-from0 : (i : ℕ) → i < party_count plan → {B : Type 0} (f : ℕ → B) (d : B) → get_or (map f (parties plan)) i d ≡ f (suc i)
  party-from0 i l {B} f d =
      let q : suc i - 1 ≡ i = omega arith in
      subst (λ (r : ℕ). get_or (map f (parties plan)) r d ≡ f (suc i)) q (at-party plan (suc i) (omega arith) (omega arith) f d)

-- ---- the counts of mail
unfoldable pub sum : (ℕ → ℕ) → ℕ → ℕ
sum f zero = 0
sum f (suc n) = f 0 + sum (λ i. f (suc i)) n

pub sum_ext : (f g : ℕ → ℕ) (n : ℕ) → ((i : ℕ) → i < n → f i ≡ g i) → sum f n ≡ sum g n
unfolding sum
sum_ext f g zero h = refl
sum_ext f g (suc n) h = ap₂ (λ (a b : ℕ). a + b) (h 0 (omega arith)) (sum_ext (λ i. f (suc i)) (λ i. g (suc i)) n (λ i l. h (suc i) (omega arith)))

pub sum_const : (c n : ℕ) → sum (λ i. c) n ≡ n * c
unfolding sum
sum_const c zero = omega arith
sum_const c (suc n) = omega (arith, sum_const c n, suc-mul n c)

pub length_cat : (a : ℕ → List ℕ) (n : ℕ) → length (cat a n) ≡ sum (λ i. length (a i)) n
unfolding cat sum
length_cat a zero = refl
length_cat a (suc n) = omega (arith, length-append (a 0) (cat (λ i. a (suc i)) n), length_cat (λ i. a (suc i)) n)

-- the parties from r + 1 on that are at most d
one_by : (r d n : ℕ) → r ≤ d → d ≤ r + suc n → (b : Bool) → leb (suc (r + 0)) d ≡ b
    → ((s : ℕ) → s ≤ d → d ≤ s + n → sum (λ i. cond (leb (suc (s + i)) d) 1 0) n ≡ d - s)
    → cond b 1 0 + sum (λ i. cond (leb (suc (r + suc i)) d) 1 0) n ≡ d - r
one_by r d n l h true e rest =
    let q : suc (r + 0) ≤ d = leb-true (suc (r + 0)) d e in
    let s : sum (λ i. cond (leb (suc (r + suc i)) d) 1 0) n ≡ d - suc r =
    sum_ext (λ i. cond (leb (suc (r + suc i)) d) 1 0) (λ i. cond (leb (suc (suc r + i)) d) 1 0) n
    (λ i m. let z : r + suc i ≡ suc r + i = omega arith in ap (λ (v : ℕ). cond (leb (suc v) d) 1 0) z) ∙ rest (suc r) (omega arith) (omega arith) in
    omega (arith, s)
one_by r d n l h false e rest =
    let q : d < suc (r + 0) = leb-false (suc (r + 0)) d e in
    let s : sum (λ i. cond (leb (suc (r + suc i)) d) 1 0) n ≡ n * 0 =
    sum_ext (λ i. cond (leb (suc (r + suc i)) d) 1 0) (λ i. 0) n (λ i m. rw (lt-leb (suc (r + suc i)) d (omega arith))) ∙ sum_const 0 n in
    omega (arith, s)

sum_first : (n r d : ℕ) → r ≤ d → d ≤ r + n → sum (λ i. cond (leb (suc (r + i)) d) 1 0) n ≡ d - r
unfolding sum
sum_first zero r d l h = omega arith
sum_first (suc n) r d l h = one_by r d n l h (leb (suc (r + 0)) d) refl (λ s p q. sum_first n s d p q)

module _ (plan : Plan) where
  -- the numbers that party j sends party i in a step
  to_each : Step → ℕ → ℕ → ℕ
  to_each DealInputs j i = length (input_wires plan j)
  to_each (DealProduct g a b) j i = cond (leb j (dealer_count plan)) 1 0
  to_each (DealZero g) j i = 1
  to_each (DealMasked g a b) j i = 1
  to_each (SendTruncated g) j i = 1
  to_each (DealDraws g) j i = 1
  to_each (OpenSpent g a b) j i = 2
  to_each SendOuts j i = own_out_count plan i

  module _ (i : ℕ) (from1 : 1 ≤ i) (upto : i ≤ party_count plan) where
    at_point : {B : Type 0} (f : ℕ → List B) → get_or (map f plan.points) (i - 1) [] ≡ f (get_or plan.points (i - 1) 0)
    unfolding party_count
    at_point f = get_or-map-in f plan.points (i - 1) 0 [] (omega arith)

    dealt-count : (fs : List (List ℕ)) → length (get_or (deal_to plan fs) (i - 1) []) ≡ length fs
    unfolding deal_to
    dealt-count fs =
        ap length (at_point (λ x. map (λ f. eval plan.p f x) fs))
        ∙ length-map (λ f. eval plan.p f (get_or plan.points (i - 1) 0)) fs

    product-count : (fs : List (List ℕ)) (b : Bool) → length fs ≡ 1 → length (get_or (cond b (deal_to plan fs) (nothing plan)) (i - 1) []) ≡ cond b 1 0
    product-count fs true e = dealt-count fs ∙ e
    product-count fs false e = ap length (nothing_to plan (i - 1))

    sent-count : (s : Step) (j : ℕ) (inputs coins triples shares mail : List ℕ) → length (get_or (send_at plan j s inputs coins triples shares mail) (i - 1) []) ≡ to_each s j i
    unfolding send_at to_each own_out_count
    sent-count DealInputs j inputs coins triples shares mail =
        dealt-count (map (λ g. input_at plan j g inputs ∷ coins_at plan j g 0 plan.t coins) (input_wires plan j))
        ∙ length-map (λ g. input_at plan j g inputs ∷ coins_at plan j g 0 plan.t coins) (input_wires plan j)
    sent-count (DealProduct g a b) j inputs coins triples shares mail =
        product-count ((product_at plan a b shares ∷ coins_at plan j g 0 plan.t coins) ∷ []) (leb j (dealer_count plan)) refl
    sent-count (DealZero g) j inputs coins triples shares mail = dealt-count ((0 ∷ coins_at plan j g 0 (plan.t + plan.t) coins) ∷ [])
    sent-count (DealMasked g a b) j inputs coins triples shares mail =
        dealt-count ((add plan.p (product_at plan a b shares) (sum_all plan.p mail) ∷ coins_at plan j g (plan.t + plan.t) plan.t coins) ∷ [])
    sent-count (SendTruncated g) j inputs coins triples shares mail = ap length (at_point (λ x. dot plan.p (row plan.p plan.t plan.points x) mail ∷ []))
    sent-count (DealDraws g) j inputs coins triples shares mail = dealt-count ((input_at plan j g inputs ∷ coins_at plan j g 0 plan.t coins) ∷ [])
    sent-count (OpenSpent g a b) j inputs coins triples shares mail =
        ap length (at_point (λ x. sub plan.p (get_or shares a 0) (get_or triples (triple_at plan g) 0) ∷ sub plan.p (get_or shares b 0) (get_or triples (triple_at plan g + 1) 0) ∷ []))
    sent-count SendOuts j inputs coins triples shares mail =
        ap length (at-party plan i from1 upto (λ r. map (λ w. get_or shares w 0) (out_wires plan r)) []) ∙ length-map (λ w. get_or shares w 0) (out_wires plan i)

  -- what holds of a plan that passes: each input is one party's, and the dealers of products are parties
  module _ (placed : length (wires_by_party plan) ≡ kind_count plan 1)
      (dealers : (k g a b : ℕ) → step_at plan k ≡ DealProduct g a b → dealer_count plan ≤ party_count plan) where
    received-sum : (k : ℕ) (s : Step) → step_at plan k ≡ s → (i : ℕ) → sum (λ j. to_each s (suc j) i) (party_count plan) ≡ received plan i s
    unfolding to_each received wires_by_party parties
    received-sum k DealInputs e i =
        sym (length_cat (λ j. input_wires plan (suc j)) (party_count plan)) ∙ ap length (sym (cat-flat_map (input_wires plan) suc (party_count plan))) ∙ placed
    received-sum k (DealProduct g a b) e i =
        let q : dealer_count plan - 0 ≡ dealer_count plan = omega arith in
        sum_ext (λ j. cond (leb (suc j) (dealer_count plan)) 1 0) (λ j. cond (leb (suc (0 + j)) (dealer_count plan)) 1 0) (party_count plan)
        (λ j l. let z : j ≡ 0 + j = omega arith in ap (λ (v : ℕ). cond (leb (suc v) (dealer_count plan)) 1 0) z)
        ∙ sum_first (party_count plan) 0 (dealer_count plan) (omega arith) (omega (arith, dealers k g a b e)) ∙ q
    received-sum k (DealZero g) e i = sum_const 1 (party_count plan) ∙ omega arith
    received-sum k (DealMasked g a b) e i = sum_const 1 (party_count plan) ∙ omega arith
    received-sum k (SendTruncated g) e i = sum_const 1 (party_count plan) ∙ omega arith
    received-sum k (DealDraws g) e i = sum_const 1 (party_count plan) ∙ omega arith
    received-sum k (OpenSpent g a b) e i = sum_const 2 (party_count plan) ∙ omega arith
    received-sum k SendOuts e i = sum_const (own_out_count plan i) (party_count plan)

    module _ (xs cs ts : List ℕ) where
      first_entry : (j : ℕ) → j < party_count plan → entry plan xs cs ts 0 j ≡ fresh plan ts (suc j)
      unfolding entry after
      first_entry j l = party-from0 plan xs cs ts j l (fresh plan ts) no_call

      next-entry : (k j : ℕ) → j < party_count plan
          → entry plan xs cs ts (suc k) j ≡ next_call plan xs cs (suc j) (entry plan xs cs ts k j) (mail_to (suc j) (after plan xs cs ts k))
      next-entry k j l =
          let q : suc j - 1 ≡ j = omega arith in
          subst (λ (r : ℕ). entry plan xs cs ts (suc k) r ≡ next_call plan xs cs (suc j) (entry plan xs cs ts k r) (mail_to (suc j) (after plan xs cs ts k))) q
          (entry_next plan xs cs ts k (suc j) (omega arith) (omega arith))

      -- a state's first number is the next call's
      number_is : (k j : ℕ) → j < party_count plan → get_or (entry plan xs cs ts k j).state 0 0 ≡ k
      unfolding fresh next_call call call_with
      number_is zero j l = ap (λ (c : Called). get_or c.state 0 0) (first_entry j l)
      number_is (suc k) j l = ap (λ (c : Called). get_or c.state 0 0) (next-entry k j l) ∙ ap suc (number_is k j l)

      module _ (i : ℕ) (from1 : 1 ≤ i) (upto : i ≤ party_count plan) where
        part_count : (k j : ℕ) (c : Called) (m : List ℕ) → k < last_call plan → get_or c.state 0 0 ≡ k
            → length (part plan xs cs ts i (next_call plan xs cs j c m)) ≡ to_each (step_at plan k) j i
        unfolding part next_call call call_with
        part_count k j c m l e = rw (e, lt-ltb k (last_call plan) l) (sent-count i from1 upto (step_at plan k) j _ _ _ _ _)

        pub counted : (k : ℕ) → k ≤ last_call plan → length (mail_to i (after plan xs cs ts k)) ≡ mail_count plan i k
        unfolding mail_count part fresh
        counted zero l =
            ap length (mail-run plan xs cs ts i 0) ∙ length_cat (λ j. part plan xs cs ts i (entry plan xs cs ts 0 j)) (party_count plan)
            ∙ sum_ext (λ j. length (part plan xs cs ts i (entry plan xs cs ts 0 j))) (λ j. 0) (party_count plan)
            (λ j h. ap (λ (c : Called). length (part plan xs cs ts i c)) (first_entry j h) ∙ ap length (nothing_to plan (i - 1)))
            ∙ sum_const 0 (party_count plan) ∙ omega arith
        counted (suc k) l =
            ap length (mail-run plan xs cs ts i (suc k)) ∙ length_cat (λ j. part plan xs cs ts i (entry plan xs cs ts (suc k) j)) (party_count plan)
            ∙ sum_ext (λ j. length (part plan xs cs ts i (entry plan xs cs ts (suc k) j))) (λ j. to_each (step_at plan k) (suc j) i) (party_count plan)
            (λ j h. ap (λ (c : Called). length (part plan xs cs ts i c)) (next-entry k j h)
            ∙ part_count k (suc j) (entry plan xs cs ts k j) (mail_to (suc j) (after plan xs cs ts k)) (omega arith) (number_is k j h))
            ∙ received-sum k (step_at plan k) refl i
