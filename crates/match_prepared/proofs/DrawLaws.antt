-- What each way through the code of the matched draws says of its definition.
--     changing                      by how much one wire changes
--     putting                       the changes of the wires that one gate spends a triple on
--     Putting, putting_all          those of all gates
--     moving                        the draws, moved
--     values_small, changes_small   the values and the changes are elements
--     changes_count, changes_long   two changes for each gate that spends a triple
--     draws_count, draws_room       the draws are the preparing run's inputs, and stand in front of the joint list
--     draws_written                 what is written are the matched draws
-- Assumes nothing.
use mathlib.Core.Path.{◌≡◌, refl, sym, ap, ap₂, ◌∙◌}
use mathlib.Core.Bool.{true, cond}
use mathlib.Core.List.{List, [], ◌∷◌, ◌++◌, map, flat_map, append_assoc, append-nil, map-append}
use Prim.Native.Nat.{ℕ, suc, ◌+◌, ◌*◌, ◌/◌, ◌%◌, ◌^◌, ◌<◌, ◌≤◌}
use native.Mathlib.Numerals.{add-one}
use native.Mathlib.Nat.{add-zero, mul-zero, mul-suc, mul_comm, mod-eq_of_lt, div-eq_of_lt, add-mod_left, add-div_left, div-lt_iff_lt-mul}
use native.Mathlib.Omega.{arith}
use borrow.Author.Rules.{rules}
use lib.Dec.{eqb}
use lib.ListN.{length, get_or, take, drop, set, length-set, length-append, length-map}
use lib.Seq.{take-suc, take-suc-set, take_all, get_or-take, get_or-drop}
use Rattle.numbers.specs.Tables.{tab}
use Rattle.numbers.specs.Bytes.{width, limit, numbers, all_below, stored}
use Rattle.numbers.proofs.Tables.{tab-ext, tab-append, tab-zero}
use Rattle.numbers.proofs.Below.{input_below, map_below, at-all_below}
use Rattle.numbers.proofs.Fills.{Numbered, number-none, number-next}
use Rattle.field.specs.Mod.{add, sub}
use Rattle.field.specs.Field.{Below2, Is, Ready}
use Rattle.field.proofs.Solve.{sub_canon, canon-lt}
use Rattle.sharing_laws.proofs.Lists.{flat_map-append}
use Rattle.plan.specs.declared.Gate.{Gate}
use Rattle.plan.specs.declared.Gate.TheVariants.{Input, Add, Scale, Offset, Multiply, Random, Spend}
use Rattle.plan.specs.declared.Header.{Header}
use Rattle.plan.specs.Plans.{party_count, kind_of, is_kind, operands_of, kind_count, input_count}
use Rattle.plan.specs.File.{gate_at, plan_of}
use Rattle.plan.specs.Planned.{Planned}
use Rattle.plan.proofs.Planned.{plan_p, plan_n, plan_gates, plan_gate}
use Rattle.plan.proofs.Valid.{planned-ready}
use Rattle.plan_coalition.specs.Coalitions.{members}
use Rattle.run_protocol.specs.Ideal.{values}
use Rattle.run_protocol.specs.Preparing.{prepares}
use Rattle.run_protocol.proofs.Values.{value-below}
use Rattle.run_protocol.proofs.Prepared.{is-preparing}
use Rattle.match_privacy.specs.Matching.{lowest}
use Rattle.match_joint.specs.JointLists.{draws_of}
use Rattle.match_joint.specs.Joint.{wire_change, spent_wires, spent_changes, moved_draws, matched_draws}
use Rattle.match_joint.proofs.Moved.{spent_count, input_count_lem}
use Rattle.run_ideal.proofs.IdealLaws.{wire_below}
use Rattle.match_prepared.specs.PreparedCalls.{preparing_count, joint_count}
use Rattle.match_prepared.specs.PreparedParts.{Put, moved_at}

-- ---- one wire
pub changed :
    (bs : List ℕ) (h : Header) → Planned bs h → (us vs : List ℕ) (w u v r : ℕ) → u ≡ get_or us w 0 → v ≡ get_or vs w 0 → Is h.field.p (sub h.field.p v u) r
    → Is h.field.p (wire_change (plan_of bs) us vs w) r
unfolding wire_change
changed bs h k us vs w u v r eu ev is = rw (plan_p k, ← eu, ← ev) is

pub ruleset changing = (rules, planned-ready, wire_below, changed)

-- ---- one gate
none_spent : (gate : Gate) → ((a b : ℕ) → gate ≡ Spend a b → ⊥) → spent_wires gate ≡ []
unfolding spent_wires is_kind kind_of
none_spent (Input s) n = refl
none_spent (Add a b) n = refl
none_spent (Scale a c) n = refl
none_spent (Offset a c) n = refl
none_spent (Multiply a b) n = refl
none_spent Random n = refl
none_spent (Spend a b) n = absurd (n a b refl)

two_spent : (a b : ℕ) → spent_wires (Spend a b) ≡ a ∷ b ∷ []
unfolding spent_wires is_kind kind_of operands_of
two_spent a b = refl

few_spent : (gate : Gate) → length (spent_wires gate) ≤ 2
unfolding spent_wires is_kind kind_of operands_of
few_spent (Input s) = omega arith
few_spent (Add a b) = omega arith
few_spent (Scale a c) = omega arith
few_spent (Offset a c) = omega arith
few_spent (Multiply a b) = omega arith
few_spent Random = omega arith
few_spent (Spend a b) = omega arith

-- two entries in a row
two_set : (old : List ℕ) (k x y : ℕ) → k + 2 ≤ length old → take (k + 2) (set (set old k x) (k + 1) y) ≡ take k old ++ (x ∷ y ∷ [])
two_set old k x y l =
    let e : k + 2 ≡ suc (k + 1) = omega arith in
    ap (λ (i : ℕ). take i (set (set old k x) (k + 1) y)) e
    ∙ take-suc-set (set old k x) (k + 1) y (omega (arith, length-set old k x))
    ∙ ap (λ (i : ℕ). take i (set old k x) ++ (y ∷ [])) (add-one k)
    ∙ ap (λ (l : List ℕ). l ++ (y ∷ [])) (take-suc-set old k x (omega arith))
    ∙ append_assoc (take k old) (x ∷ []) (y ∷ [])

module _ (f : ℕ → ℕ) (k : ℕ) (old : List ℕ) (gate : Gate) where
  pub put_spend :
      (p a b x y : ℕ) → gate ≡ Spend a b → k + 2 ≤ length old → Is p (f a) x → Is p (f b) y
      → Put k (map f (spent_wires gate)) old (set (set old k x) (k + 1) y) (k + 2)
  put_spend p a b x y e l ex ey =
      let w : map f (spent_wires gate) ≡ f a ∷ f b ∷ [] = ap (λ (g : Gate). map f (spent_wires g)) e ∙ ap (map f) (two_spent a b) in
      record {
        place = sym (ap (λ (l : List ℕ). k + length l) w);
        long = length-set (set old k x) (k + 1) y ∙ length-set old k x;
        front =
            two_set old k x y l
            ∙ ap₂ (λ (u v : ℕ). take k old ++ (u ∷ v ∷ [])) ex.eq ey.eq
            ∙ sym (ap (λ (l : List ℕ). take k old ++ l) w);
      }

  pub put_none : ((a b : ℕ) → gate ≡ Spend a b → ⊥) → Put k (map f (spent_wires gate)) old old k
  put_none n =
      let w : map f (spent_wires gate) ≡ [] = ap (map f) (none_spent gate n) in
      record {
        place = sym (add-zero k) ∙ sym (ap (λ (l : List ℕ). k + length l) w);
        long = refl;
        front = sym (append-nil (take k old)) ∙ sym (ap (λ (l : List ℕ). take k old ++ l) w);
      }

pub ruleset putting = (rules, put_spend, put_none)

-- ---- all gates
-- the invariant at gate g
pub record Putting (f : ℕ → ℕ) (gs : List Gate) (old new : List ℕ) (k g : ℕ) : Type 0 where
  pub within : g ≤ length gs
  pub few : k ≤ 2 * g
  pub put : Put 0 (map f (flat_map spent_wires (take g gs))) old new k

put_on : (a b old new next : List ℕ) (k m : ℕ) → Put 0 a old new k → Put k b new next m → Put 0 (a ++ b) old next m
put_on a b old new next k m p q = record {
  place = omega (arith, p.place, q.place, length-append a b);
  long = q.long ∙ p.long;
  front = q.front ∙ ap (λ (l : List ℕ). l ++ b) p.front ∙ append_assoc (take 0 old) a b;
}

pub put_start : (f : ℕ → ℕ) (gs : List Gate) (old : List ℕ) → Putting f gs old old 0 0
unfolding flat_map
put_start f gs old = record { within = omega arith; few = omega arith; put = record { place = refl; long = refl; front = refl } }

module _ (f : ℕ → ℕ) (bs : List ℕ) (h : Header) (old : List ℕ) where
  abbrev gates_of : List Gate
  gates_of = (plan_of bs).gates

  module _ (p : Planned bs h) (new : List ℕ) (k g : ℕ) (w : Putting f gates_of old new k g) where
    pub put_room : g < h.gates → length old ≡ 2048 → k + 2 ≤ length new
    put_room l e = omega (arith, w.few, w.put.long, p.gates-high)

    pub put_next :
        (x : Gate) (next : List ℕ) (m : ℕ) → g < h.gates → x ≡ gate_at bs g → Put k (map f (spent_wires x)) new next m
        → Putting f gates_of old next m (g + 1)
    unfolding flat_map
    put_next x next m l ex q =
        let lt : g < length gates_of = omega (arith, plan_gates p) in
        let one : take (g + 1) gates_of ≡ take g gates_of ++ (x ∷ []) =
        ap (λ (i : ℕ). take i gates_of) (add-one g) ∙ take-suc gates_of g (Input 0) lt ∙ ap (λ (y : Gate). take g gates_of ++ (y ∷ [])) (plan_gate p g l ∙ sym ex) in
        let all : map f (flat_map spent_wires (take (g + 1) gates_of)) ≡ map f (flat_map spent_wires (take g gates_of)) ++ map f (spent_wires x) =
        ap (λ (ys : List Gate). map f (flat_map spent_wires ys)) one
        ∙ ap (map f) (flat_map-append spent_wires (take g gates_of) (x ∷ []) ∙ ap (λ (ys : List ℕ). flat_map spent_wires (take g gates_of) ++ ys) (append-nil (spent_wires x)))
        ∙ map-append f (flat_map spent_wires (take g gates_of)) (spent_wires x) in
        record {
          within = omega arith;
          few = omega (arith, w.few, q.place, length-map (spent_wires x) f, few_spent x);
          put = rw all (put_on (map f (flat_map spent_wires (take g gates_of))) (map f (spent_wires x)) old new next k m w.put q);
        }

    pub put_end : h.gates ≤ g → Put 0 (map f (flat_map spent_wires gates_of)) old new k
    put_end l =
        let e : take g gates_of ≡ gates_of = take_all g gates_of (omega (arith, plan_gates p)) in
        rw e at w.put

pub ruleset putting_all = (rules, put_start, put_room, put_next, put_end)

-- ---- the draws
module _ (p n low : ℕ) (one : 1 ≤ n) where
  moved-row : (c : ℕ) (cs ds : List ℕ) (j : ℕ) → j < n → cond (eqb (suc j) low) (add p (get_or ds j 0) c) (get_or ds j 0) ≡ moved_at p n low (c ∷ cs) ds j
  unfolding moved_at
  moved-row c cs ds j l = rw (mod-eq_of_lt l, div-eq_of_lt l, add-one j)

  moved-later : (c : ℕ) (cs ds : List ℕ) (i : ℕ) → moved_at p n low cs (drop n ds) i ≡ moved_at p n low (c ∷ cs) ds (n + i)
  unfolding moved_at
  moved-later c cs ds i =
      let q : (n + i) / n ≡ suc (i / n) = add-div_left i (omega arith) ∙ add-one (i / n) in
      rw (add-mod_left n i, q, get_or-drop n ds i 0)

  moved_tab : (cs ds : List ℕ) → moved_draws p n low cs ds ≡ tab (moved_at p n low cs ds) (n * length cs)
  unfolding moved_draws
  moved_tab [] ds = sym (ap (tab (moved_at p n low [] ds)) (mul-zero n) ∙ tab-zero (moved_at p n low [] ds))
  moved_tab (c ∷ cs) ds =
      let e : n * suc (length cs) ≡ n + n * length cs = omega (arith, mul-suc n (length cs)) in
      ap₂ ◌++◌
      (tab-ext (λ j. cond (eqb (suc j) low) (add p (get_or ds j 0) c) (get_or ds j 0)) (moved_at p n low (c ∷ cs) ds) n (λ j l. moved-row c cs ds j l))
      (moved_tab cs (drop n ds) ∙ tab-ext (moved_at p n low cs (drop n ds)) (λ i. moved_at p n low (c ∷ cs) ds (n + i)) (n * length cs) (λ i l. moved-later c cs ds i))
      ∙ sym (ap (tab (moved_at p n low (c ∷ cs) ds)) e ∙ tab-append (moved_at p n low (c ∷ cs) ds) n (n * length cs))

pub draws_fit : (n m : ℕ) (out : List ℕ) → n * m ≤ length out / width → length out * 1 < 2 ^ 63 → n * m < 2 ^ 64
draws_fit n m out l f = omega arith

pub draw_below2 :
    (p n i d : ℕ) (cs draws : List ℕ) → Ready p → all_below p cs ≡ true → all_below p (numbers draws) ≡ true → d ≡ get_or (numbers draws) i 0
    → Below2 p d (get_or cs (i / n) 0)
draw_below2 p n i d cs draws r small known ed =
    let above : 0 < p = omega (arith, r.prime.above) in
    record { left = rw ed (input_below p (numbers draws) above known i); right = input_below p cs above small (i / n) }

module _ (p n low : ℕ) (cs draws old new : List ℕ) (i : ℕ) (w : Numbered (moved_at p n low cs (numbers draws)) (n * length cs) old new i) where
  pub change_place : 1 ≤ n → i < n * length cs → i / n < length cs
  change_place one l = (div-lt_iff_lt-mul {k = n} {x = i} {y = length cs} (omega arith)).1 (omega (arith, mul_comm n (length cs)))

  pub move_next :
      (d v : ℕ) (next : List ℕ) → Ready p → i < n * length cs → d ≡ get_or (numbers draws) i 0 → Is p (cond (eqb (i % n + 1) low) (add p d (get_or cs (i / n) 0)) d) v
      → next ≡ stored new i v → Numbered (moved_at p n low cs (numbers draws)) (n * length cs) old next (i + 1)
  unfolding moved_at
  move_next d v next r l ed is en =
      let m : v < limit = omega (arith, is.lt, r.small) in
      let at : v ≡ moved_at p n low cs (numbers draws) i = is.eq ∙ ap (λ (x : ℕ). cond (eqb (i % n + 1) low) (add p x (get_or cs (i / n) 0)) x) ed in
      number-next (moved_at p n low cs (numbers draws)) (n * length cs) old new i w v next l at m en

  pub moved_all : 1 ≤ n → n * length cs ≤ i → take (n * length cs) (numbers new) ≡ moved_draws p n low cs (numbers draws)
  moved_all one l =
      let e : i ≡ n * length cs = omega (arith, w.within) in
      ap (λ (j : ℕ). take j (numbers new)) (sym e) ∙ w.front ∙ ap (tab (moved_at p n low cs (numbers draws))) e ∙ sym (moved_tab p n low one cs (numbers draws))

pub ruleset moving = (rules, number-none, draws_fit, change_place, move_next, moved_all)

-- ---- what the matching takes of them
-- only as many draws are read as are moved
moved_front : (p n low : ℕ) → 1 ≤ n → (cs ds : List ℕ) → moved_draws p n low cs (take (n * length cs) ds) ≡ moved_draws p n low cs ds
unfolding moved_at
moved_front p n low one cs ds =
    moved_tab p n low one cs (take (n * length cs) ds)
    ∙ tab-ext (moved_at p n low cs (take (n * length cs) ds)) (moved_at p n low cs ds) (n * length cs)
    (λ i l. ap (λ (d : ℕ). cond (eqb (i % n + 1) low) (add p d (get_or cs (i / n) 0)) d) (get_or-take (n * length cs) ds i 0 l))
    ∙ sym (moved_tab p n low one cs ds)

module _ (bs : List ℕ) (h : Header) (p : Planned bs h) where
  above : 0 < (plan_of bs).p
  above = omega (arith, plan_p p, p.p_low)

  pub values_small : (xs d : List ℕ) → all_below h.field.p xs ≡ true → take h.gates d ≡ values (plan_of bs) xs → all_below h.field.p (take h.gates d) ≡ true
  values_small xs d small e =
      ap (all_below h.field.p) e
      ∙ ap (λ (q : ℕ). all_below q (values (plan_of bs) xs)) (sym (plan_p p))
      ∙ at-all_below (plan_of bs).p (values (plan_of bs) xs) (λ i l. value-below (plan_of bs) above xs (rw (plan_p p) small) i)

  pub changes_small :
      (us vs ws old new : List ℕ) (k : ℕ) → Put 0 (map (wire_change (plan_of bs) us vs) ws) old new k → all_below h.field.p (take k new) ≡ true
  unfolding wire_change
  changes_small us vs ws old new k w =
      ap (all_below h.field.p) w.front
      ∙ ap (λ (q : ℕ). all_below q (map (wire_change (plan_of bs) us vs) ws)) (sym (plan_p p))
      ∙ map_below (plan_of bs).p (wire_change (plan_of bs) us vs) ws (λ i. canon-lt above (sub_canon _ _))

  module _ (us vs old new : List ℕ) (k : ℕ) (w : Put 0 (map (wire_change (plan_of bs) us vs) (flat_map spent_wires (plan_of bs).gates)) old new k) where
    pub changes_count : k ≡ 2 * kind_count (plan_of bs) 7
    unfolding kind_count
    changes_count = omega (arith, w.place, length-map (flat_map spent_wires (plan_of bs).gates) (wire_change (plan_of bs) us vs), spent_count (plan_of bs).gates)

    pub changes_long : length (take k new) ≡ k
    changes_long = omega (arith, ap length w.front, w.place)

    module _ (prep : List ℕ) (e : prepares (plan_of prep) (plan_of bs) ≡ true) where
      pub draws_count : h.n * length (take k new) ≡ input_count (plan_of prep)
      draws_count =
          ap₂ ◌*◌ (sym (plan_n p)) (changes_long ∙ changes_count)
          ∙ sym (ap input_count (is-preparing (plan_of prep) (plan_of bs) e) ∙ input_count_lem (plan_of bs) (plan_of prep).rule)

      pub draws_room : (room : ℕ) → room ≡ width * joint_count (plan_of prep) (plan_of bs) → h.n * length (take k new) ≤ room / width
      unfolding joint_count preparing_count
      draws_room room er = omega (arith, draws_count)

      pub draws_written :
          (set low : ℕ) (xs ys coins out : List ℕ) → us ≡ values (plan_of bs) xs → vs ≡ values (plan_of bs) ys → low ≡ lowest (plan_of bs) (members set)
          → take (h.n * length (take k new)) out ≡ moved_draws h.field.p h.n low (take k new) coins
          → take (input_count (plan_of prep)) out ≡ matched_draws (plan_of prep) (plan_of bs) (members set) xs ys coins
      unfolding matched_draws spent_changes draws_of
      draws_written set low xs ys coins out eu ev el eo =
          let changes : take k new ≡ map (wire_change (plan_of bs) (values (plan_of bs) xs) (values (plan_of bs) ys)) (flat_map spent_wires (plan_of bs).gates) =
          w.front ∙ ap₂ (λ (a b : List ℕ). map (wire_change (plan_of bs) a b) (flat_map spent_wires (plan_of bs).gates)) eu ev in
          let draws : List ℕ = take (input_count (plan_of prep)) coins in
          ap (λ (m : ℕ). take m out) (sym draws_count)
          ∙ eo
          ∙ sym (moved_front h.field.p h.n low p.n_low (take k new) coins)
          ∙ ap (λ (m : ℕ). moved_draws h.field.p h.n low (take k new) (take m coins)) draws_count
          ∙ ap₂ (λ (q m : ℕ). moved_draws q m low (take k new) draws) (sym (plan_p p)) (sym (plan_n p))
          ∙ ap₂ (λ (l : ℕ) (c : List ℕ). moved_draws (plan_of bs).p (party_count (plan_of bs)) l c draws) el changes
