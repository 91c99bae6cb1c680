-- A party's state beside the table: which of its wires hold the right shares, and which of its triples are spent.
--     Known, learn_known, start_known, work_from_known     what it knows, after its mail and its work
--     Left, none_spent, spend-one, work_triples            which triples are left
-- Assumes nothing.
use mathlib.Core.Path.{◌≡◌, refl, sym, ap, ap₂, subst, ◌∙◌}
use mathlib.Core.Logic.{◌≢◌, ◌⊎◌, inl, inr}
use mathlib.Core.Bool.{Bool, true, false, cond}
use mathlib.Core.List.{List, [], ◌∷◌, map, Memᴰ}
use Prim.Native.Nat.{ℕ, zero, suc, ◌+◌, ◌*◌, ◌<◌, ◌≤◌}
use native.Mathlib.Numerals.{add-one}
use native.Mathlib.Omega.{arith}
use borrow.Author.Tests.{ltb-true, ltb-false, eqb-true, eqb-false}
use lib.Dec.{eqb, leb, ltb}
use lib.ListN.{length, get_or, take, drop, set, replicate, length-set, length-drop, length-replicate}
use lib.Seq.{drop-cons, get_or-set_same, get_or-set_other, set_out}
use Rattle.numbers.specs.Tables.{count_where}
use Rattle.numbers.proofs.Counts.{count_where-take-suc, count_where-take_all}
use Rattle.numbers.proofs.Truth.{both_true}
use Rattle.field.specs.Mod.{add, mul}
use Rattle.seat_messages.specs.Messages.{set_all, work_gate, work_from}
use Rattle.plan.specs.declared.Gate.{Gate}
use Rattle.plan.specs.declared.Gate.TheVariants.{Input, Add, Scale, Offset, Multiply, Random, Spend}
use Rattle.plan.specs.Plans.{Plan, party_count, kind_of, is_kind, triple_at}
use Rattle.plan.specs.File.{gate_ok}
use Rattle.run_protocol.specs.Shares.{wire_at, gate_share, share_table}
use Rattle.run_protocol.specs.Tables.{before_gate}
use Rattle.run_protocol.proofs.Following.{next_from, Is}
use Rattle.plan.proofs.Valid.{Valid}
use Rattle.run_protocol.proofs.Table.{before-wire, table_at}

-- ---- what a gate reads
abbrev pub Reads : ℕ → Gate → Type 0
Reads g (Input s) = Unit
Reads g (Add a b) = (a < g) × (b < g)
Reads g (Scale a c) = a < g
Reads g (Offset a c) = a < g
Reads g (Multiply a b) = (a < g) × (b < g)
Reads g Random = Unit
Reads g (Spend a b) = (a < g) × (b < g)

pub reads_below : (n p g : ℕ) (x : Gate) → gate_ok n p g x ≡ true → Reads g x
unfolding gate_ok
reads_below n p g (Input s) h = tt
reads_below n p g (Add a b) h = (ltb-true a g (both_true (ltb a g) (ltb b g) h).0, ltb-true b g (both_true (ltb a g) (ltb b g) h).1)
reads_below n p g (Scale a c) h = ltb-true a g (both_true (ltb a g) (ltb c p) h).0
reads_below n p g (Offset a c) h = ltb-true a g (both_true (ltb a g) (ltb c p) h).0
reads_below n p g (Multiply a b) h = (ltb-true a g (both_true (ltb a g) (ltb b g) h).0, ltb-true b g (both_true (ltb a g) (ltb b g) h).1)
reads_below n p g Random h = tt
reads_below n p g (Spend a b) h = (ltb-true a g (both_true (ltb a g) (ltb b g) h).0, ltb-true b g (both_true (ltb a g) (ltb b g) h).1)

-- ---- a list of shares, and what is right for each wire
module _ (right : ℕ → ℕ) where
  pick : (shares : List ℕ) (g v w : ℕ) (b : Bool) → eqb w g ≡ b → v ≡ right g → (c : Bool) → ltb g (length shares) ≡ c → get_or shares w 0 ≡ right w → get_or (set shares g v) w 0 ≡ right w
  pick shares g v w false e h c m k = get_or-set_other shares g w v 0 (eqb-false w g e) ∙ k
  pick shares g v w true e h true m k =
      let q : w ≡ g = eqb-true w g e in
      rw q (get_or-set_same shares g v 0 (ltb-true g (length shares) m) ∙ h)
  pick shares g v w true e h false m k = ap (λ (l : List ℕ). get_or l w 0) (set_out shares g v (ltb-false g (length shares) m)) ∙ k

  -- setting a wire to its right share spoils no other
  set_holds : (shares : List ℕ) (g v w : ℕ) → v ≡ right g → get_or shares w 0 ≡ right w → get_or (set shares g v) w 0 ≡ right w
  set_holds shares g v w h k = pick shares g v w (eqb w g) refl h (ltb g (length shares)) refl k

  pick_or_none : (shares : List ℕ) (g v w : ℕ) (b : Bool) → eqb w g ≡ b → v ≡ right g → (c : Bool) → ltb g (length shares) ≡ c
      → (get_or shares w 0 ≡ right w) ⊎ (get_or shares w 0 ≡ 0) → (get_or (set shares g v) w 0 ≡ right w) ⊎ (get_or (set shares g v) w 0 ≡ 0)
  pick_or_none shares g v w false e h c m k = rw (get_or-set_other shares g w v 0 (eqb-false w g e)) k
  pick_or_none shares g v w true e h true m k =
      let q : w ≡ g = eqb-true w g e in
      inl (rw q (get_or-set_same shares g v 0 (ltb-true g (length shares) m) ∙ h))
  pick_or_none shares g v w true e h false m k = rw (set_out shares g v (ltb-false g (length shares) m)) k

  set_or_none : (shares : List ℕ) (g v w : ℕ) → v ≡ right g
      → (get_or shares w 0 ≡ right w) ⊎ (get_or shares w 0 ≡ 0) → (get_or (set shares g v) w 0 ≡ right w) ⊎ (get_or (set shares g v) w 0 ≡ 0)
  set_or_none shares g v w h k = pick_or_none shares g v w (eqb w g) refl h (ltb g (length shares)) refl k

  -- all of these wires set to their right shares
  set_all_keeps : (ws shares : List ℕ) (w : ℕ) → get_or shares w 0 ≡ right w → get_or (set_all shares ws (map right ws)) w 0 ≡ right w
  unfolding set_all
  set_all_keeps [] shares w k = k
  set_all_keeps (u ∷ ws) shares w k = set_all_keeps ws (set shares u (right u)) w (set_holds shares u (right u) w refl k)

  set_all_or_none : (ws shares : List ℕ) (w : ℕ) → (get_or shares w 0 ≡ right w) ⊎ (get_or shares w 0 ≡ 0)
      → (get_or (set_all shares ws (map right ws)) w 0 ≡ right w) ⊎ (get_or (set_all shares ws (map right ws)) w 0 ≡ 0)
  unfolding set_all
  set_all_or_none [] shares w k = k
  set_all_or_none (u ∷ ws) shares w k = set_all_or_none ws (set shares u (right u)) w (set_or_none shares u (right u) w refl k)

  set_all_holds : {w : ℕ} {ws : List ℕ} → Memᴰ w ws → (shares : List ℕ) → w < length shares → get_or (set_all shares ws (map right ws)) w 0 ≡ right w
  unfolding set_all
  set_all_holds {w} (Memᴰ.head {x = u} {xs = ws} e) shares l =
      set_all_keeps ws (set shares u (right u)) w
      (subst (λ (v : ℕ). get_or (set shares u (right u)) v 0 ≡ right v) (sym e) (get_or-set_same shares u (right u) 0 (omega (arith, e))))
  set_all_holds {w} (Memᴰ.tail {x = u} {xs = ws} m) shares l =
      set_all_holds m (set shares u (right u)) (omega (arith, length-set shares u (right u)))

pub length-set_all : (ws shares vs : List ℕ) → length (set_all shares ws vs) ≡ length shares
unfolding set_all
length-set_all [] shares vs = refl
length-set_all (w ∷ ws) shares vs = length-set_all ws (set shares w (get_or vs 0 0)) (drop 1 vs) ∙ length-set shares w (get_or vs 0 0)

-- a party's shares: right below b, right on input wires once `Begun`, and everywhere right or 0
pub record Known (gates : List Gate) (right : ℕ → ℕ) (Begun : Type 0) (b : ℕ) (shares : List ℕ) : Type 0 where
  pub size : length shares ≡ length gates
  pub inputs : Begun → (w : ℕ) → w < length gates → is_kind 1 (get_or gates w (Input 0)) ≡ true → get_or shares w 0 ≡ right w
  pub below : (w : ℕ) → w < b → w < length gates → get_or shares w 0 ≡ right w
  pub others : (w : ℕ) → (get_or shares w 0 ≡ right w) ⊎ (get_or shares w 0 ≡ 0)

module _ {gates : List Gate} {right : ℕ → ℕ} {Begun : Type 0} {g : ℕ} {shares : List ℕ} (known : Known gates right Begun g shares) where
  below_next : (b : Bool) (w v : ℕ) → eqb w g ≡ b → v ≡ right g → w < suc g → w < length gates → get_or (set shares g v) w 0 ≡ right w
  below_next true w v e h l m = let q : w ≡ g = eqb-true w g e in rw q (get_or-set_same shares g v 0 (omega (arith, known.size)) ∙ h)
  below_next false w v e h l m = let q : w ≢ g = eqb-false w g e in set_holds right shares g v w h (known.below w (omega arith) m)

  -- the next wire learnt
  pub learn_known : (v : ℕ) → v ≡ right g → Known gates right Begun (suc g) (set shares g v)
  learn_known v h = record {
    size = length-set shares g v ∙ known.size;
    inputs = λ i w l e. set_holds right shares g v w h (known.inputs i w l e);
    below = λ w l m. below_next (eqb w g) w v refl h l m;
    others = λ w. set_or_none right shares g v w h (known.others w);
  }

  skip_below : Begun → is_kind 1 (get_or gates g (Input 0)) ≡ true → (b : Bool) (w : ℕ) → eqb w g ≡ b → w < suc g → w < length gates → get_or shares w 0 ≡ right w
  skip_below i h true w e l m = let q : w ≡ g = eqb-true w g e in known.inputs i w m (rw q h)
  skip_below i h false w e l m = let q : w ≢ g = eqb-false w g e in known.below w (omega arith) m

  -- the next wire an input
  pub input_known : Begun → is_kind 1 (get_or gates g (Input 0)) ≡ true → Known gates right Begun (suc g) shares
  input_known i h = record { size = known.size; inputs = known.inputs; below = λ w l m. skip_below i h (eqb w g) w refl l m; others = known.others }

  pub end_known : (b : ℕ) → length gates ≤ g → Known gates right Begun b shares
  end_known b l = record { size = known.size; inputs = known.inputs; below = λ w h m. known.below w (omega arith) m; others = known.others }

-- inputs known are known whether asked or not
pub known_anyway : {gates : List Gate} {right : ℕ → ℕ} {b : ℕ} {shares : List ℕ} (Begun : Type 0) → Known gates right Unit b shares → Known gates right Begun b shares
known_anyway Begun k = record { size = k.size; inputs = λ i. k.inputs tt; below = k.below; others = k.others }

pub get_or_zeros : (n i : ℕ) → ◌≡◌ {A = ℕ} (get_or (replicate n 0) i 0) 0
get_or_zeros zero i = refl
get_or_zeros (suc n) zero = refl
get_or_zeros (suc n) (suc i) = get_or_zeros n i

-- a fresh state
pub fresh_known : (gates : List Gate) (right : ℕ → ℕ) → Known gates right ⊥ 0 (replicate (length gates) 0)
fresh_known gates right = record {
  size = length-replicate {A = ℕ} (length gates) 0;
  inputs = λ i. absurd i;
  below = λ w l m. absurd (omega arith);
  others = λ w. inr (get_or_zeros (length gates) w);
}

-- once all input wires are learnt
pub start_known : {gates : List Gate} {right : ℕ → ℕ} {Begun : Type 0} {b : ℕ} {shares : List ℕ} → Known gates right Begun b shares → (ws : List ℕ)
    → ((w : ℕ) → w < length gates → is_kind 1 (get_or gates w (Input 0)) ≡ true → Memᴰ w ws)
    → Known gates right Unit 0 (set_all shares ws (map right ws))
start_known {gates} {right} {Begun} {b} {shares} k ws every = record {
  size = length-set_all ws shares (map right ws) ∙ k.size;
  inputs = λ i w l e. set_all_holds right (every w l e) shares (omega (arith, k.size));
  below = λ w l m. absurd (omega arith);
  others = λ w. set_all_or_none right ws shares w (k.others w);
}

-- ---- a party's work on its own shares
drop_first : (l : List Gate) (g : ℕ) (x : Gate) (r : List Gate) → drop g l ≡ x ∷ r → (g < length l) × (get_or l g (Input 0) ≡ x) × (drop (suc g) l ≡ r)
drop_first l g x r e =
    let m : g < length l = omega (arith, length-drop g l, ap length e) in
    let q : drop g l ≡ get_or l g (Input 0) ∷ drop (suc g) l = drop-cons l g (Input 0) m in
    (m, cc, cc)

-- the table's shares at a point
unfoldable pub right_at : Plan → List ℕ → List ℕ → List (ℕ → ℕ) → ℕ → ℕ → ℕ
right_at plan xs cs tf z w = wire_at (share_table plan xs cs tf) w z

module _ (plan : Plan) (valid : Valid plan) (xs cs : List ℕ) (tf : List (ℕ → ℕ)) (z : ℕ) where
  pub gate_reads : (g : ℕ) (x : Gate) → Is plan g x → Reads g x
  gate_reads g x i = subst (Reads g) i.1 (reads_below (party_count plan) plan.p g (get_or plan.gates g (Input 0)) (valid.gates g i.0))

  -- the table's entry at a gate
  pub table_gate : (g : ℕ) (x : Gate) → Is plan g x → wire_at (share_table plan xs cs tf) g z ≡ gate_share plan x (before_gate plan xs cs tf g) z
  table_gate g x i = ap (λ (f : ℕ → ℕ). f z) (table_at plan xs cs tf g (Input 0) i.0) ∙ ap (λ (y : Gate). gate_share plan y (before_gate plan xs cs tf g) z) i.1

  -- a wire that a gate reads, among those before it
  pub read_wire : (g w : ℕ) → g < length plan.gates → w < g → wire_at (share_table plan xs cs tf) w z ≡ wire_at (before_gate plan xs cs tf g).env w z
  read_wire g w l h = ap (λ (f : ℕ → ℕ). f z) (sym (before-wire plan xs cs tf g w (omega arith) h))

  abbrev K : ℕ → List ℕ → Type 0
  K g shares = Known plan.gates (right_at plan xs cs tf z) Unit g shares

  -- one gate that takes no rounds
  work_known : (g : ℕ) (x : Gate) (shares : List ℕ) → Is plan g x → leb 5 (kind_of x) ≡ false → K g shares → K (suc g) (work_gate plan.p g x shares)
  unfolding work_gate gate_share kind_of is_kind right_at
  work_known g (Input s) shares i f k = input_known k tt (ap (is_kind 1) i.1)
  work_known g (Add a b) shares i f k =
      let r : (a < g) × (b < g) = gate_reads g (Add a b) i in
      learn_known k (add plan.p (get_or shares a 0) (get_or shares b 0))
      (ap₂ (add plan.p) (k.below a r.0 (omega (arith, i.0)) ∙ read_wire g a i.0 r.0) (k.below b r.1 (omega (arith, i.0)) ∙ read_wire g b i.0 r.1) ∙ sym (table_gate g (Add a b) i))
  work_known g (Scale a c) shares i f k =
      let r : a < g = gate_reads g (Scale a c) i in
      learn_known k (mul plan.p (get_or shares a 0) c) (ap (λ (m : ℕ). mul plan.p m c) (k.below a r (omega (arith, i.0)) ∙ read_wire g a i.0 r) ∙ sym (table_gate g (Scale a c) i))
  work_known g (Offset a c) shares i f k =
      let r : a < g = gate_reads g (Offset a c) i in
      learn_known k (add plan.p (get_or shares a 0) c) (ap (λ (m : ℕ). add plan.p m c) (k.below a r (omega (arith, i.0)) ∙ read_wire g a i.0 r) ∙ sym (table_gate g (Offset a c) i))
  work_known g (Multiply a b) shares i f k = let q : ◌≡◌ {A = ℕ} 0 1 = cc in absurd (omega arith)
  work_known g Random shares i f k = let q : ◌≡◌ {A = ℕ} 0 1 = cc in absurd (omega arith)
  work_known g (Spend a b) shares i f k = let q : ◌≡◌ {A = ℕ} 0 1 = cc in absurd (omega arith)

  work_by : (b : Bool) (next g : ℕ) (shares later : List ℕ) → K g shares → (b ≡ false → K next later) → K (cond b g next) (cond b shares later)
  work_by true next g shares later k h = k
  work_by false next g shares later k h = h refl

  -- all gates up to the next that takes rounds, or to the end
  pub work_from_known : (gs : List Gate) (g : ℕ) (shares : List ℕ) → drop g plan.gates ≡ gs → K g shares → K (next_from plan g gs) (work_from plan.p g gs shares)
  unfolding next_from work_from
  work_from_known [] g shares e k = end_known k (length plan.gates) (omega (arith, length-drop g plan.gates, ap length e))
  work_from_known (x ∷ gs) g shares e k =
      let d : (g < length plan.gates) × (get_or plan.gates g (Input 0) ≡ x) × (drop (suc g) plan.gates ≡ gs) = drop_first plan.gates g x gs e in
      work_by (leb 5 (kind_of x)) (next_from plan (suc g) gs) g shares (work_from plan.p (suc g) gs (work_gate plan.p g x shares)) k
      (λ f. work_from_known gs (suc g) (work_gate plan.p g x shares) d.2 (work_known g x shares (d.0, d.1) f k))

-- ---- triples
-- of a party's own triples, the first k numbers are spent and the others are left
pub record Left (own : List ℕ) (k : ℕ) (triples : List ℕ) : Type 0 where
  pub size : length triples ≡ length own
  pub spent : (j : ℕ) → j < k → get_or triples j 0 ≡ 0
  pub left : (j : ℕ) → k ≤ j → get_or triples j 0 ≡ get_or own j 0

pub none_spent : (own : List ℕ) → Left own 0 own
none_spent own = record { size = refl; spent = λ j l. absurd (omega arith); left = λ j l. refl }

spend_by : (own : List ℕ) (k : ℕ) (triples : List ℕ) (j : ℕ) → Left own k triples → j < suc k → (b : Bool) → eqb j k ≡ b → (c : Bool) → ltb k (length triples) ≡ c → get_or (set triples k 0) j 0 ≡ 0
spend_by own k triples j h l false e c m = let q : j ≢ k = eqb-false j k e in get_or-set_other triples k j 0 0 q ∙ h.spent j (omega arith)
spend_by own k triples j h l true e true m = let q : j ≡ k = eqb-true j k e in rw q (get_or-set_same triples k 0 0 (ltb-true k (length triples) m))
spend_by own k triples j h l true e false m =
    let q : j ≡ k = eqb-true j k e in
    let o : length triples ≤ j = omega (arith, ltb-false k (length triples) m) in
    ap (λ (r : List ℕ). get_or r j 0) (set_out triples k 0 (ltb-false k (length triples) m)) ∙ past triples j o
  where
    past : (l : List ℕ) (j : ℕ) → length l ≤ j → get_or l j 0 ≡ 0
    past [] j h = refl
    past (x ∷ l) zero h = absurd (omega arith)
    past (x ∷ l) (suc j) h = past l j (omega arith)

pub spend-one : {own : List ℕ} {k : ℕ} {triples : List ℕ} → Left own k triples → Left own (suc k) (set triples k 0)
spend-one {own} {k} {triples} h = record {
  size = length-set triples k 0 ∙ h.size;
  spent = λ j l. spend_by own k triples j h l (eqb j k) refl (ltb k (length triples)) refl;
  left = λ j l. let q : j ≢ k = λ e. omega arith in get_or-set_other triples k j 0 0 q ∙ h.left j (omega arith);
}

module _ (plan : Plan) where
  no_triple : (x : Gate) → leb 5 (kind_of x) ≡ false → is_kind 7 x ≡ false
  unfolding kind_of is_kind
  no_triple (Input s) f = refl
  no_triple (Add a b) f = refl
  no_triple (Scale a c) f = refl
  no_triple (Offset a c) f = refl
  no_triple (Multiply a b) f = refl
  no_triple Random f = refl
  no_triple (Spend a b) f = let q : ◌≡◌ {A = ℕ} 0 1 = cc in absurd (omega arith)

  pub triple_next : (g : ℕ) (x : Gate) → Is plan g x → (b : Bool) → is_kind 7 x ≡ b → triple_at plan (suc g) ≡ triple_at plan g + 3 * cond b 1 0
  unfolding triple_at
  triple_next g x i b e =
      let q : count_where (is_kind 7) (take (suc g) plan.gates) ≡ count_where (is_kind 7) (take g plan.gates) + cond b 1 0 =
      ap (λ (k : ℕ). count_where (is_kind 7) (take k plan.gates)) (sym (add-one g)) ∙ count_where-take-suc (is_kind 7) plan.gates g (Input 0) i.0
      ∙ ap (λ (c : Bool). count_where (is_kind 7) (take g plan.gates) + cond c 1 0) (ap (is_kind 7) i.1 ∙ e) in
      omega arith

  cond_by : (b : Bool) (g next : ℕ) → (b ≡ false → triple_at plan next ≡ triple_at plan g) → triple_at plan (cond b g next) ≡ triple_at plan g
  cond_by true g next h = refl
  cond_by false g next h = h refl

  -- no triple is spent by a party's own work
  pub work_triples : (gs : List Gate) (g : ℕ) → drop g plan.gates ≡ gs → triple_at plan (next_from plan g gs) ≡ triple_at plan g
  unfolding next_from triple_at
  work_triples [] g e =
      ap (λ (c : ℕ). 3 * c)
      (count_where-take_all (is_kind 7) plan.gates (length plan.gates) (omega arith)
      ∙ sym (count_where-take_all (is_kind 7) plan.gates g (omega (arith, length-drop g plan.gates, ap length e))))
  work_triples (x ∷ gs) g e =
      let d : (g < length plan.gates) × (get_or plan.gates g (Input 0) ≡ x) × (drop (suc g) plan.gates ≡ gs) = drop_first plan.gates g x gs e in
      cond_by (leb 5 (kind_of x)) g (next_from plan (suc g) gs)
      (λ f. work_triples gs (suc g) d.2 ∙ triple_next g x (d.0, d.1) false (no_triple x f) ∙ omega arith)
