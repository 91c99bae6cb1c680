-- In every order that is ready throughout, each call leaves what the run's call leaves.
--     cat_same                contributions that are whole or not there: where all of the length is there, all of them are
--     parts_each              and each has its length
--     by-counts               the statement, given that the run's mail has its count
--     any_order               the statement, for every valid plan, whatever its lists
-- Assumes nothing.
use mathlib.Core.Path.{◌≡◌, refl, sym, ap, ap₂, subst, ◌∙◌}
use mathlib.Core.Logic.{◌⊎◌, inl, inr, ◌≢◌}
use mathlib.Core.Bool.{Bool, true, false, ◌&&◌}
use mathlib.Core.List.{List, [], ◌∷◌, ◌++◌, map, flat_map}
use Prim.Native.Nat.{ℕ, zero, suc, ◌+◌, ◌-◌, ◌*◌, ◌<◌, ◌≤◌}
use native.Mathlib.Nat.{suc-mul, mul-suc}
use native.Mathlib.Omega.{arith}
use borrow.Author.Tests.{ltb-true, ltb-false, leb-true, leb-false, le-leb, eqb-true, eqb-false, eq-eqb}
use lib.Dec.{eqb, leb, ltb}
use lib.ListN.{length, get_or, set, length-append, length-set, get_or-append, get_or-eq_default}
use lib.Seq.{get_or-append_seam, get_or-set_same, get_or-set_other}
use Rattle.numbers.specs.Tables.{tab}
use Rattle.numbers.proofs.Tables.{list-tab}
use Rattle.numbers.proofs.Truth.{both_true}
use Rattle.sharing_laws.proofs.Lists.{length-map}
use Rattle.plan.specs.File.{between}
use Rattle.plan.proofs.Parties.{length-parties}
use Rattle.plan.specs.Plans.{Plan, party_count, parties, last_call, mail_count}
use Rattle.seat_messages.specs.Messages.{Called}
use Rattle.run_protocol.specs.Rounds.{fresh, no_call, call_of, mail_to, next_call, after}
use Rattle.run_orders.specs.Orders.{Progress, nobody_called, made_by, latest, mail_so_far, ready, called, called_in, all_ready, reached, AnyOrder}
use Rattle.plan.proofs.Valid.{Valid}
use Rattle.run_protocol.proofs.Counts.{mail_count_lem}
use Rattle.run_protocol.proofs.Mails.{cat, cat-flat_map}
use Rattle.run_protocol.proofs.Mails as run

-- ---- contributions: each is whole or not there
Parts : (ℕ → List ℕ) → (ℕ → List ℕ) → ℕ → Type 0
Parts a b n = (i : ℕ) → i < n → (a i ≡ b i) ⊎ (a i ≡ [])

parts_of : (a b : ℕ → List ℕ) (n : ℕ) → ((i : ℕ) → i < n → (a i ≡ b i) ⊎ (a i ≡ [])) → Parts a b n
unfolding Parts
parts_of a b n h = h

head-le : (x y u v : List ℕ) → (x ≡ y) ⊎ (x ≡ []) → length u ≤ length v → length (x ++ u) ≤ length (y ++ v)
head-le x y u v (inl e) h = omega (arith, length-append x u, length-append y v, ap length e)
head-le x y u v (inr e) h = omega (arith, length-append x u, length-append y v, ap length e)

parts-le : (a b : ℕ → List ℕ) (n : ℕ) → Parts a b n → length (cat a n) ≤ length (cat b n)
unfolding cat Parts
parts-le a b zero h = omega arith
parts-le a b (suc n) h =
    head-le (a 0) (b 0) (cat (λ i. a (suc i)) n) (cat (λ i. b (suc i)) n) (h 0 (omega arith))
    (parts-le (λ i. a (suc i)) (λ i. b (suc i)) n (λ i l. h (suc i) (omega arith)))

empty : (y : List ℕ) → length y ≡ 0 → y ≡ []
empty [] h = refl
empty (x ∷ y) h = absurd (omega arith)

head_same : (x y u v : List ℕ) → (x ≡ y) ⊎ (x ≡ []) → length u ≤ length v → length (x ++ u) ≡ length (y ++ v) → (length u ≡ length v → u ≡ v) → x ++ u ≡ y ++ v
head_same x y u v (inl e) h q r = ap₂ (λ (l m : List ℕ). l ++ m) e (r (omega (arith, length-append x u, length-append y v, ap length e)))
head_same x y u v (inr e) h q r =
    let z : y ≡ [] = empty y (omega (arith, length-append x u, length-append y v, ap length e)) in
    ap₂ (λ (l m : List ℕ). l ++ m) (e ∙ sym z) (r (omega (arith, length-append x u, length-append y v, ap length e)))

part-le : (x y : List ℕ) → (x ≡ y) ⊎ (x ≡ []) → length x ≤ length y
part-le x y (inl e) = omega (arith, ap length e)
part-le x y (inr e) = omega (arith, ap length e)

each_by : (a b : ℕ → List ℕ) (n i : ℕ) → i < suc n → length (a 0) ≡ length (b 0) → ((r : ℕ) → r < n → length (a (suc r)) ≡ length (b (suc r))) → length (a i) ≡ length (b i)
each_by a b n zero l e h = e
each_by a b n (suc i) l e h = h i (omega arith)

-- where all of the length is there, all is
cat_same : (a b : ℕ → List ℕ) (n : ℕ) → Parts a b n → length (cat a n) ≡ length (cat b n) → cat a n ≡ cat b n
unfolding cat Parts
cat_same a b zero h e = refl
cat_same a b (suc n) h e =
    head_same (a 0) (b 0) (cat (λ i. a (suc i)) n) (cat (λ i. b (suc i)) n) (h 0 (omega arith))
    (parts-le (λ i. a (suc i)) (λ i. b (suc i)) n (λ i l. h (suc i) (omega arith))) e
    (cat_same (λ i. a (suc i)) (λ i. b (suc i)) n (λ i l. h (suc i) (omega arith)))

-- and each has its length
parts_each : (a b : ℕ → List ℕ) (n : ℕ) → Parts a b n → length (cat a n) ≡ length (cat b n) → (i : ℕ) → i < n → length (a i) ≡ length (b i)
unfolding cat Parts
parts_each a b zero h e i l = absurd (omega arith)
parts_each a b (suc n) h e i l =
    let rest : length (cat (λ r. a (suc r)) n) ≤ length (cat (λ r. b (suc r)) n) = parts-le (λ r. a (suc r)) (λ r. b (suc r)) n (λ r m. h (suc r) (omega arith)) in
    let one : length (a 0) ≤ length (b 0) = part-le (a 0) (b 0) (h 0 (omega arith)) in
    let joined : (length (a 0) ≡ length (b 0)) × (length (cat (λ r. a (suc r)) n) ≡ length (cat (λ r. b (suc r)) n)) = (
      omega (arith, length-append (a 0) (cat (λ r. a (suc r)) n), length-append (b 0) (cat (λ r. b (suc r)) n)),
      omega (arith, length-append (a 0) (cat (λ r. a (suc r)) n), length-append (b 0) (cat (λ r. b (suc r)) n)),
    ) in
    each_by a b n i l joined.0 (λ r m. parts_each (λ r. a (suc r)) (λ r. b (suc r)) n (λ r m. h (suc r) (omega arith)) joined.1 r m)

cat_ext : (a b : ℕ → List ℕ) (n : ℕ) → ((i : ℕ) → i < n → a i ≡ b i) → cat a n ≡ cat b n
unfolding cat
cat_ext a b zero h = refl
cat_ext a b (suc n) h = ap₂ (λ (l m : List ℕ). l ++ m) (h 0 (omega arith)) (cat_ext (λ i. a (suc i)) (λ i. b (suc i)) n (λ i l. h (suc i) (omega arith)))

both : {a b : Bool} → a ≡ true → b ≡ true → (a && b) ≡ true
both {a} {b} e h = rw (e, h) refl

last_le_by : (f : ℕ → ℕ) (n i v : ℕ) → i < suc (suc n) → ((r : ℕ) → r < suc n → v ≤ f r) → v ≤ f (suc n) → (b : Bool) → eqb i (suc n) ≡ b → v ≤ f i
last_le_by f n i v l h k true e = let q : i ≡ suc n = eqb-true i (suc n) e in rw q k
last_le_by f n i v l h k false e = let q : i ≢ suc n = eqb-false i (suc n) e in h i (omega arith)

last-le : (f : ℕ → ℕ) (n i v : ℕ) → i < suc (suc n) → ((r : ℕ) → r < suc n → v ≤ f r) → v ≤ f (suc n) → v ≤ f i
last-le f n i v l h k = last_le_by f n i v l h k (eqb i (suc n)) refl

-- of n numbers the least
least_by : (f : ℕ → ℕ) (n m : ℕ) → m < suc n → ((i : ℕ) → i < suc n → f m ≤ f i) → (b : Bool) → leb (f m) (f (suc n)) ≡ b → (m : ℕ) × (m < suc (suc n)) × ((i : ℕ) → i < suc (suc n) → f m ≤ f i)
least_by f n m l h true e = (m, omega arith, λ i q. last-le f n i (f m) q h (leb-true (f m) (f (suc n)) e))
least_by f n m l h false e =
    let o : f (suc n) < f m = leb-false (f m) (f (suc n)) e in
    (suc n, omega arith, λ i q. last-le f n i (f (suc n)) q (λ r s. omega (arith, h r s)) (omega arith))

least : (f : ℕ → ℕ) (n : ℕ) → 0 < n → (m : ℕ) × (m < n) × ((i : ℕ) → i < n → f m ≤ f i)
least f zero l = absurd (omega arith)
least f (suc zero) l = (0, omega arith, λ i q. let z : i ≡ 0 = omega arith in rw z (omega arith))
least f (suc (suc n)) l =
    let r : (m : ℕ) × (m < suc n) × ((i : ℕ) → i < suc n → f m ≤ f i) = least f (suc n) (omega arith) in
    least_by f n r.0 r.1 r.2 (leb (f r.0) (f (suc n))) refl

-- what being ready says
pub record Ready (plan : Plan) (j : ℕ) (P : Progress) : Type 0 where
  pub from1 : 1 ≤ j
  pub upto : j ≤ party_count plan
  pub unfinished : made_by j P ≤ last_call plan
  pub there : length (mail_so_far j (made_by j P) P) ≡ mail_count plan j (made_by j P)

pub is-ready : (plan : Plan) (j : ℕ) (P : Progress) → ready plan j P ≡ true → Ready plan j P
unfolding ready between
is-ready plan j P e =
    let a : (_ ≡ true) × (_ ≡ true) = both_true (leb 1 j && leb j (party_count plan)) (leb (made_by j P) (last_call plan) && eqb (length (mail_so_far j (made_by j P) P)) (mail_count plan j (made_by j P))) e in
    let b : (_ ≡ true) × (_ ≡ true) = both_true (leb 1 j) (leb j (party_count plan)) a.0 in
    let c : (_ ≡ true) × (_ ≡ true) = both_true (leb (made_by j P) (last_call plan)) (eqb (length (mail_so_far j (made_by j P) P)) (mail_count plan j (made_by j P))) a.1 in
    record {
      from1 = leb-true 1 j b.0;
      upto = leb-true j (party_count plan) b.1;
      unfinished = leb-true (made_by j P) (last_call plan) c.0;
      there = eqb-true (length (mail_so_far j (made_by j P) P)) (mail_count plan j (made_by j P)) c.1;
    }

-- ---- a run, and the progress made in another order
module _ (plan : Plan) (xs cs ts : List ℕ) where
  abbrev entry : ℕ → ℕ → Called
  entry = run.entry plan xs cs ts

  abbrev part : ℕ → Called → List ℕ
  part = run.part plan xs cs ts

  -- what is reached is the run's, as far as it goes
  record Good (P : Progress) : Type 0 where
    pub size : length P ≡ party_count plan
    pub some : (i : ℕ) → i < party_count plan → 1 ≤ length (get_or P i [])
    pub few : (i : ℕ) → i < party_count plan → length (get_or P i []) ≤ suc (suc (last_call plan))
    pub right : (i k : ℕ) → i < party_count plan → k < length (get_or P i []) → get_or (get_or P i []) k no_call ≡ entry k i
    -- a party that has made call k has had the mail of all that send it something in the call before
    pub waits : (i j k : ℕ) → i < party_count plan → j < party_count plan → suc k < length (get_or P i []) → 1 ≤ length (part (suc i) (entry k j)) → k < length (get_or P j [])

  mail_now : (j k : ℕ) (P : Progress) → length P ≡ party_count plan → mail_so_far j k P ≡ cat (λ i. part j (get_or (get_or P i []) k no_call)) (party_count plan)
  unfolding mail_so_far run.part
  mail_now j k P e =
      ap (flat_map (λ l. get_or (get_or l k no_call).sent (j - 1) [])) (list-tab P [] ∙ ap (tab (λ i. get_or P i [])) e)
      ∙ cat-flat_map (λ l. get_or (get_or l k no_call).sent (j - 1) []) (λ i. get_or P i []) (party_count plan)

  part_by : (j k i : ℕ) (P : Progress) → Good P → i < party_count plan → (b : Bool) → ltb k (length (get_or P i [])) ≡ b
      → (part j (get_or (get_or P i []) k no_call) ≡ part j (entry k i)) ⊎ (part j (get_or (get_or P i []) k no_call) ≡ [])
  unfolding run.part no_call
  part_by j k i P good l true e = inl (ap (part j) (good.right i k l (ltb-true k (length (get_or P i [])) e)))
  part_by j k i P good l false e = inr (ap (part j) (get_or-eq_default (get_or P i []) no_call (ltb-false k (length (get_or P i [])) e)))

  sent_by_lem : (j k : ℕ) (L : List Called) (sent : List ℕ) (b : Bool) → ltb k (length L) ≡ b → length (part j (get_or L k no_call)) ≡ length sent → 1 ≤ length sent → k < length L
  unfolding run.part no_call
  sent_by_lem j k L sent true e h some = ltb-true k (length L) e
  sent_by_lem j k L sent false e h some = absurd (omega (arith, h, ap (λ (c : Called). length (part j c)) (get_or-eq_default L no_call (ltb-false k (length L) e))))

  -- ---- one call more
  entry_by : (C : List Called → Type 0) (P : Progress) (m i : ℕ) (X : List Called) → m < length P → (b : Bool) → eqb i m ≡ b → (i ≡ m → C X) → C (get_or P i []) → C (get_or (set P m X) i [])
  entry_by C P m i X l true e x p =
      let q : i ≡ m = eqb-true i m e in
      subst C (sym (ap (λ (r : ℕ). get_or (set P m X) r []) q ∙ get_or-set_same P m X [] l)) (x q)
  entry_by C P m i X l false e x p = subst C (sym (get_or-set_other P m i X [] (eqb-false i m e))) p

  last_by : (Q : List Called) (c : Called) (k : ℕ) (e : ℕ → Called) → k < length (Q ++ (c ∷ [])) → ((r : ℕ) → r < length Q → get_or Q r no_call ≡ e r) → c ≡ e (length Q) → (b : Bool) → ltb k (length Q) ≡ b
      → get_or (Q ++ (c ∷ [])) k no_call ≡ e k
  last_by Q c k e l h n true t = get_or-append Q (c ∷ []) no_call k (ltb-true k (length Q) t) ∙ h k (ltb-true k (length Q) t)
  last_by Q c k e l h n false t =
      let o : length Q ≤ k = ltb-false k (length Q) t in
      let q : k ≡ length Q = omega (arith, length-append Q (c ∷ [])) in
      ap (λ (r : ℕ). get_or (Q ++ (c ∷ [])) r no_call) q ∙ get_or-append_seam Q c [] no_call ∙ n ∙ ap e (sym q)

  module _ (counted : (k i : ℕ) → k ≤ last_call plan → 1 ≤ i → i ≤ party_count plan → length (mail_to i (after plan xs cs ts k)) ≡ mail_count plan i k) where
    -- a ready party's mail has the run's length, and so is the run's, and each part of it is there
    module _ (j k : ℕ) (P : Progress) (good : Good P) (from1 : 1 ≤ j) (upto : j ≤ party_count plan) (unfinished : k ≤ last_call plan) (there : length (mail_so_far j k P) ≡ mail_count plan j k) where
      parts : Parts (λ i. part j (get_or (get_or P i []) k no_call)) (λ i. part j (entry k i)) (party_count plan)
      parts = parts_of (λ i. part j (get_or (get_or P i []) k no_call)) (λ i. part j (entry k i)) (party_count plan) (λ i q. part_by j k i P good q (ltb k (length (get_or P i []))) refl)

      lengths : length (cat (λ i. part j (get_or (get_or P i []) k no_call)) (party_count plan)) ≡ length (cat (λ i. part j (entry k i)) (party_count plan))
      lengths = ap length (sym (mail_now j k P good.size)) ∙ there ∙ sym (counted k j unfinished from1 upto) ∙ ap length (run.mail-run plan xs cs ts j k)

      ready-mail : mail_so_far j k P ≡ mail_to j (after plan xs cs ts k)
      ready-mail =
          mail_now j k P good.size
          ∙ cat_same (λ i. part j (get_or (get_or P i []) k no_call)) (λ i. part j (entry k i)) (party_count plan) parts lengths
          ∙ sym (run.mail-run plan xs cs ts j k)

      ready-part : (i : ℕ) → i < party_count plan → 1 ≤ length (part j (entry k i)) → k < length (get_or P i [])
      ready-part i l some =
          sent_by_lem j k (get_or P i []) (part j (entry k i)) (ltb k (length (get_or P i []))) refl
          (parts_each (λ r. part j (get_or (get_or P r []) k no_call)) (λ r. part j (entry k r)) (party_count plan) parts lengths i l) some

    waited-by : (s u n : ℕ) (b : Bool) → ltb (suc u) n ≡ b → suc u ≤ n → {A : Type 0} → (suc u < n → A) → (suc u ≡ n → A) → A
    waited-by s u n true e l less last = less (ltb-true (suc u) n e)
    waited-by s u n false e l less last = let o : n ≤ suc u = ltb-false (suc u) n e in last (omega arith)

    called-good : (j : ℕ) (P : Progress) → Good P → Ready plan j P → Good (called plan xs cs j P)
    unfolding called made_by latest
    called-good j P good r =
        let m : ℕ = j - 1 in
        let Q : List Called = get_or P (j - 1) [] in
        let k : ℕ = length Q - 1 in
        let from1 : 1 ≤ j = r.from1 in
        let upto : j ≤ party_count plan = r.upto in
        let unfinished : length Q - 1 ≤ last_call plan = r.unfinished in
        let in-plan : m < party_count plan = omega arith in
        let in_list : m < length P = omega (arith, good.size) in
        let some : 1 ≤ length Q = good.some m in-plan in
        let new : Called = next_call plan xs cs j (get_or Q k no_call) (mail_so_far j k P) in
        let here : get_or Q k no_call ≡ entry k m = good.right m k in-plan (omega arith) in
        let e : suc k ≡ length Q = omega arith in
        let is : new ≡ entry (length Q) m =
        ap₂ (λ (c : Called) (l : List ℕ). next_call plan xs cs j c l) here (ready-mail j k P good from1 upto unfinished r.there)
        ∙ sym (run.entry_next plan xs cs ts k j from1 upto) ∙ ap (λ (s : ℕ). entry s m) e in
        record {
          size = length-set P m (Q ++ (new ∷ [])) ∙ good.size;
          some = λ i l. entry_by (λ L. 1 ≤ length L) P m i (Q ++ (new ∷ [])) in_list (eqb i m) refl (λ q. omega (arith, length-append Q (new ∷ []))) (good.some i l);
          few = λ i l. entry_by (λ L. length L ≤ suc (suc (last_call plan))) P m i (Q ++ (new ∷ [])) in_list (eqb i m) refl (λ q. omega (arith, length-append Q (new ∷ []))) (good.few i l);
          right =
              λ i s l.
              entry_by (λ L. s < length L → get_or L s no_call ≡ entry s i) P m i (Q ++ (new ∷ [])) in_list (eqb i m) refl
              (λ q h. rw q (last_by Q new s (λ u. entry u m) h (λ u v. good.right m u in-plan v) is (ltb s (length Q)) refl))
              (λ h. good.right i s l h);
          waits =
              λ i s u l h made some.
              let before : u < length (get_or P s []) =
              entry_by (λ L. suc u < length L → u < length (get_or P s [])) P m i (Q ++ (new ∷ [])) in_list (eqb i m) refl
              (λ q longer.
              waited-by s u (length Q) (ltb (suc u) (length Q)) refl (omega (arith, length-append Q (new ∷ [])))
              (λ less. good.waits m s u in-plan h less (subst (λ (r : ℕ). 1 ≤ length (part (suc r) (entry u s))) q some))
              (λ last.
              let here : u ≡ k = omega arith in
              let self : suc i ≡ j = omega arith in
              subst (λ (v : ℕ). v < length (get_or P s [])) (sym here)
              (ready-part j k P good from1 upto unfinished r.there s h
              (subst (λ (v : ℕ). 1 ≤ length (part j (entry v s))) here (subst (λ (v : ℕ). 1 ≤ length (part v (entry u s))) self some)))))
              (λ longer. good.waits i s u l h longer some) made in
              entry_by (λ L. u < length L) P m s (Q ++ (new ∷ [])) in_list (eqb s m) refl
              (λ q. omega (arith, length-append Q (new ∷ []), subst (λ (v : ℕ). u < length (get_or P v [])) q before)) before;
        }

    all-good : (order : List ℕ) (P : Progress) → Good P → all_ready plan xs cs order P ≡ true → Good (called_in plan xs cs order P)
    unfolding all_ready called_in
    all-good [] P good e = good
    all-good (j ∷ order) P good e =
        let a : (_ ≡ true) × (_ ≡ true) = both_true (ready plan j P) (all_ready plan xs cs order (called plan xs cs j P)) e in
        all-good order (called plan xs cs j P) (called-good j P good (is-ready plan j P a.0)) a.1

  -- ---- the start
  only : (c : Called) (k : ℕ) → k < length (c ∷ []) → (get_or (c ∷ []) k no_call ≡ c) × (k ≡ 0)
  only c zero l = (refl, refl)
  only c (suc k) l = absurd (omega arith)

  start_good : Good (nobody_called plan ts)
  unfolding nobody_called run.entry after
  start_good =
      record {
        size = length-map (λ i. fresh plan ts i ∷ []) (parties plan) ∙ length-parties plan;
        some = λ i l. subst (λ (L : List Called). 1 ≤ length L) (sym (run.party-from0 plan xs cs ts i l (λ j. fresh plan ts j ∷ []) [])) (omega arith);
        few = λ i l. subst (λ (L : List Called). length L ≤ suc (suc (last_call plan))) (sym (run.party-from0 plan xs cs ts i l (λ j. fresh plan ts j ∷ []) [])) (omega arith);
        right =
            λ i k l.
            subst (λ (L : List Called). k < length L → get_or L k no_call ≡ entry k i) (sym (run.party-from0 plan xs cs ts i l (λ j. fresh plan ts j ∷ []) []))
            (λ h. (only (fresh plan ts (suc i)) k h).0 ∙ sym (run.party-from0 plan xs cs ts i l (fresh plan ts) no_call) ∙ ap (λ (s : ℕ). entry s i) (sym (only (fresh plan ts (suc i)) k h).1));
        waits =
            λ i j k l h made some.
            absurd (omega (arith, subst (λ (L : List Called). suc k < length L) (run.party-from0 plan xs cs ts i l (λ j. fresh plan ts j ∷ []) []) made));
      }

  -- ---- how many calls are made
  whole : Progress → ℕ
  whole P = length (flat_map (λ l. l) P)

  grow : (P : Progress) (m : ℕ) (c : Called) → m < length P → whole (set P m (get_or P m [] ++ (c ∷ []))) ≡ suc (whole P)
  unfolding whole flat_map
  grow [] m c l = absurd (omega arith)
  grow (Q ∷ P) zero c l =
      omega (arith, length-append (Q ++ (c ∷ [])) (flat_map (λ l. l) P), length-append Q (c ∷ []), length-append Q (flat_map (λ l. l) P))
  grow (Q ∷ P) (suc m) c l =
      omega (arith, length-append Q (flat_map (λ l. l) (set P m (get_or P m [] ++ (c ∷ [])))), length-append Q (flat_map (λ l. l) P), grow P m c (omega arith))

  at_most : (P : Progress) (c : ℕ) → ((i : ℕ) → i < length P → length (get_or P i []) ≤ c) → whole P ≤ length P * c
  unfolding whole flat_map
  at_most [] c h = omega arith
  at_most (Q ∷ P) c h =
      let r : whole P ≤ length P * c = at_most P c (λ i l. h (suc i) (omega arith)) in
      let q : length Q ≤ c = h 0 (omega arith) in
      omega (arith, length-append Q (flat_map (λ l. l) P), suc-mul (length P) c)

  singles : (f : ℕ → Called) (is : List ℕ) → whole (map (λ i. f i ∷ []) is) ≡ length is
  unfolding whole flat_map
  singles f [] = refl
  singles f (i ∷ is) = ap suc (singles f is)

  whole_start : whole (nobody_called plan ts) ≡ party_count plan
  unfolding nobody_called
  whole_start = singles (fresh plan ts) (parties plan) ∙ length-parties plan

  module _ (counted : (k i : ℕ) → k ≤ last_call plan → 1 ≤ i → i ≤ party_count plan → length (mail_to i (after plan xs cs ts k)) ≡ mail_count plan i k) where
    whole_in : (order : List ℕ) (P : Progress) → Good P → all_ready plan xs cs order P ≡ true → whole (called_in plan xs cs order P) ≡ whole P + length order
    unfolding all_ready called_in called latest
    whole_in [] P good e = omega arith
    whole_in (j ∷ order) P good e =
        let a : (_ ≡ true) × (_ ≡ true) = both_true (ready plan j P) (all_ready plan xs cs order (called plan xs cs j P)) e in
        let r : Ready plan j P = is-ready plan j P a.0 in
        let from1 : 1 ≤ j = r.from1 in
        let upto : j ≤ party_count plan = r.upto in
        let s : whole (called plan xs cs j P) ≡ suc (whole P) = grow P (j - 1) (next_call plan xs cs j (get_or (get_or P (j - 1) []) (made_by j P) no_call) (mail_so_far j (made_by j P) P)) (omega (arith, good.size)) in
        omega (arith, s, whole_in order (called plan xs cs j P) (called-good counted j P good r) a.1)

    ends_by : (order : List ℕ) → all_ready plan xs cs order (nobody_called plan ts) ≡ true → length order ≤ party_count plan * suc (last_call plan)
    ends_by order e =
        let P : Progress = called_in plan xs cs order (nobody_called plan ts) in
        let good : Good P = all-good counted order (nobody_called plan ts) start_good e in
        let size : length P ≡ party_count plan = good.size in
        let most : whole P ≤ length P * suc (suc (last_call plan)) = at_most P (suc (suc (last_call plan))) (λ i l. good.few i (omega arith)) in
        let least : whole P ≤ party_count plan * suc (suc (last_call plan)) = subst (λ (n : ℕ). whole P ≤ n * suc (suc (last_call plan))) size most in
        omega (arith, whole_in order (nobody_called plan ts) start_good e, whole_start, mul-suc (party_count plan) (suc (last_call plan)))

    -- ---- while a party is unfinished, the one with the fewest calls can be called
    all_there : (j k : ℕ) (P : Progress) → Good P → ((i : ℕ) → i < party_count plan → k < length (get_or P i [])) → mail_so_far j k P ≡ mail_to j (after plan xs cs ts k)
    all_there j k P good h =
        mail_now j k P good.size
        ∙ cat_ext (λ i. part j (get_or (get_or P i []) k no_call)) (λ i. part j (entry k i)) (party_count plan) (λ i l. ap (part j) (good.right i k l (h i l)))
        ∙ sym (run.mail-run plan xs cs ts j k)

    can-call : (j : ℕ) (P : Progress) → Good P → 1 ≤ j → j ≤ party_count plan → made_by j P ≤ last_call plan
        → ((i : ℕ) → i < party_count plan → length (get_or P (j - 1) []) ≤ length (get_or P i [])) → ready plan j P ≡ true
    unfolding ready between made_by
    can-call j P good from1 upto unfinished fewest =
        let some : 1 ≤ length (get_or P (j - 1) []) = good.some (j - 1) (omega arith) in
        let k : ℕ = length (get_or P (j - 1) []) - 1 in
        let there : mail_so_far j k P ≡ mail_to j (after plan xs cs ts k) = all_there j k P good (λ i l. omega (arith, fewest i l)) in
        both (both (le-leb 1 j from1) (le-leb j (party_count plan) upto))
        (both (le-leb k (last_call plan) unfinished) (eq-eqb (length (mail_so_far j k P)) (mail_count plan j k) (ap length there ∙ counted k j unfinished from1 upto)))

    goes-on-by : (P : Progress) → Good P → (i : ℕ) → 1 ≤ i → i ≤ party_count plan → made_by i P ≤ last_call plan → (j : ℕ) × (ready plan j P ≡ true)
    unfolding made_by
    goes-on-by P good i from1 upto unfinished =
        let f : ℕ → ℕ = λ r. length (get_or P r []) in
        let m : (m : ℕ) × (m < party_count plan) × ((r : ℕ) → r < party_count plan → f m ≤ f r) = least f (party_count plan) (omega arith) in
        let l : m.0 < party_count plan = m.1 in
        let q : suc m.0 - 1 ≡ m.0 = omega arith in
        let here : length (get_or P m.0 []) ≤ length (get_or P (i - 1) []) = m.2 (i - 1) (omega arith) in
        let same : length (get_or P (suc m.0 - 1) []) ≡ length (get_or P m.0 []) = ap (λ (r : ℕ). length (get_or P r [])) q in
        (suc m.0, can-call (suc m.0) P good (omega arith) (omega arith) (omega (arith, same, here)) (λ r h. omega (arith, same, m.2 r h)))

    -- ---- how far apart two parties can be
    near_by : (P : Progress) → Good P → (i j : ℕ) → 1 ≤ i → i ≤ party_count plan → 1 ≤ j → j ≤ party_count plan
        → 1 ≤ length (get_or (call_of j (after plan xs cs ts (suc (made_by j P)))).sent (i - 1) []) → (b : Bool) → leb (made_by i P) (suc (made_by j P)) ≡ b → made_by i P ≤ suc (made_by j P)
    unfolding made_by call_of run.entry run.part
    near_by P good i j from1 upto from1' upto' some true e = leb-true (made_by i P) (suc (made_by j P)) e
    near_by P good i j from1 upto from1' upto' some false e =
        let far : suc (made_by j P) < made_by i P = leb-false (made_by i P) (suc (made_by j P)) e in
        let self : suc (i - 1) ≡ i = omega arith in
        absurd (omega (
          arith,
          good.some (j - 1) (omega arith),
          good.waits (i - 1) (j - 1) (suc (made_by j P)) (omega arith) (omega arith) (omega arith)
              (subst (λ (r : ℕ). 1 ≤ length (part r (entry (suc (made_by j P)) (j - 1)))) (sym self) some),
        ))

    -- the statement
    by-counts : (order : List ℕ) → all_ready plan xs cs order (nobody_called plan ts) ≡ true → AnyOrder plan xs cs ts order
    unfolding reached made_by call_of run.entry
    by-counts order e =
        let P : Progress = called_in plan xs cs order (nobody_called plan ts) in
        let good : Good P = all-good counted order (nobody_called plan ts) start_good e in
        record {
          same = λ i k from1 upto h. good.right (i - 1) k (omega arith) (omega (arith, good.some (i - 1) (omega arith)));
          takes = λ i h. let r : Ready plan i P = is-ready plan i P h in ready-mail counted i (made_by i P) P good r.from1 r.upto r.unfinished r.there;
          ends = ends_by order e;
          goes_on = λ i from1 upto h. goes-on-by P good i from1 upto h;
          near = λ i j from1 upto from1' upto' some. near_by P good i j from1 upto from1' upto' some (leb (made_by i P) (suc (made_by j P))) refl;
        }

-- whatever the lists
pub any_order : (plan : Plan) → Valid plan → (xs cs ts order : List ℕ) → all_ready plan xs cs order (nobody_called plan ts) ≡ true → AnyOrder plan xs cs ts order
any_order plan valid xs cs ts order e = by-counts plan xs cs ts (λ k i l from1 upto. mail_count_lem plan valid xs cs ts i from1 upto k l) order e
