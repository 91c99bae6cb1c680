-- The table gate by gate.
--     stepping                          a step over one gate
--     before_next, before_all           what stands before a gate, one gate on, and after all gates
--     triples_past, triples_left        how many triple numbers are spent past a gate, and that those it takes are left
--     triple_is                         which number comes next
--     taken_within                      what the gates below gate g own is a part of all
--     stands                            the rows of a run's wires are below p
--     Filling, filling_table            the loop over the gates
-- Assumes nothing.
use mathlib.Core.Path.{◌≡◌, refl, sym, ap, ap₂, ◌∙◌}
use mathlib.Core.Bool.{Bool, true, false, cond}
use mathlib.Core.List.{List, [], ◌∷◌, ◌++◌, append_assoc, map, flat_map}
use Prim.Native.Nat.{ℕ, suc, ◌+◌, ◌-◌, ◌*◌, ◌/◌, ◌^◌, ◌<◌, ◌≤◌}
use native.Mathlib.Numerals.{add-one}
use native.Mathlib.Nat.{mul-suc, mul-zero, mul-div_cancel_left}
use native.Mathlib.Omega.{arith}
use borrow.Author.Rules.{rules}
use lib.ListN.{length, take, drop, get_or, length-append, length-drop, take-append-drop}
use lib.Seq.{take_at, drop_at, take-suc, take_all, take-take, drop-drop, length-take-le, get_or-take, get_or-drop}
use mir.Syntax.{w64}
use mir.Val.{Fits}
use Rattle.numbers.specs.Tables.{count_where}
use Rattle.numbers.specs.Bytes.{numbers, all_below}
use Rattle.numbers.proofs.Tables.{row_room}
use Rattle.numbers.proofs.Below.{all_below-take, all_below-drop, append_below, map_below}
use Rattle.numbers.proofs.Bytes.{numbers-length}
use Rattle.numbers.proofs.Rows.{flat-snoc}
use Rattle.numbers.proofs.Counts.{count_where-append, count_where-take-suc}
use Rattle.field.proofs.Inverse.{pos}
use Rattle.sharing_laws.proofs.Lists.{flat_map-append}
use Rattle.plan.specs.declared.Gate.{Gate}
use Rattle.plan.specs.declared.Gate.TheVariants.{Input}
use Rattle.plan.specs.declared.Header.{Header}
use Rattle.plan.specs.Plans.{Plan, party_count, point_of, is_kind, kind_count, input_owners_at, coin_owners_at, coin_owners, coin_count, own_triples, triple_numbers, triple_at}
use Rattle.plan.specs.File.{plan_of, gate_at}
use Rattle.plan.specs.Planned.{Planned}
use Rattle.plan.proofs.Planned.{plan_n, plan_p, plan_gates, plan_gate}
use Rattle.plan.proofs.Valid.{valid}
use Rattle.seat_messages.proofs.PointLaws.{plan_points_long}
use Rattle.run_protocol.specs.Ideal.{inputs_taken}
use Rattle.run_protocol.specs.Shares.{Before, wire_at, gate_share, triples_taken, past, past_all, start_of, share_table}
use Rattle.run_protocol.specs.Tables.{before_gate, Tabled, triples_of}
use Rattle.run_protocol.proofs.Below.{share-below}
use Rattle.run_protocol.proofs.Table.{past-append, before-inputs, before-coins, before-triples, before-wire}
use Rattle.run_protocol.proofs.Given.{tabled_list}
use Rattle.run_ideal.proofs.IdealLaws.{taken_next}
use Rattle.run_dealings.specs.Rows.{rows_of, triple_in, Standing, Taking, Spending, Holds, Worked, Stepped, Given}
use Rattle.run_tables.proofs.GateLaws.{wires-count}

-- ---- a step over one gate
next_row : (n g : ℕ) → n * (g + 1) ≡ n * g + n
next_row n g = rw (add-one g, mul-suc)

pub rows_snoc : (points : List ℕ) (env : List (ℕ → ℕ)) (f : ℕ → ℕ) → rows_of points (env ++ (f ∷ [])) ≡ rows_of points env ++ map f points
unfolding rows_of
rows_snoc points env f = flat-snoc (λ (h : ℕ → ℕ). map h points) env f

module _ (n g gates : ℕ) (table : List ℕ) (l : g < gates) (room : n * gates ≤ length table) where
  row_end : n * g + n ≤ length table
  row_end = omega (arith, row_room n g gates l)

  pub front_fits : length table * 8 < 2 ^ 63 → Fits w64 (n * g)
  front_fits f = record { fits = omega (arith, row_end) }

  pub front_within : n * g ≤ length table
  front_within = omega (arith, row_end)

  pub row_within : n ≤ length (drop (n * g) table)
  row_within = omega (arith, row_end, length-drop (n * g) table)

  pub row_counted : length (take n (drop (n * g) table)) ≡ n
  row_counted = length-take-le n (drop (n * g) table) row_within

-- the rows below a gate, by themselves
pub standing_front : (p n g : ℕ) (table : List ℕ) → Standing p n g table → Standing p n g (take (n * g) table)
standing_front p n g table s = record {
  room = omega (arith, length-take-le (n * g) table s.room);
  below = rw (take-take (n * g) (n * g) table (omega arith)) s.below;
}

pub stepped : (plan : Plan) (n : ℕ) (gate : Gate) (g gates : ℕ) (xs cs ts : List ℕ) (spent : ℕ) (old ys : List ℕ) → g < gates → n * gates ≤ length old
    → length ys ≡ length (take n (drop (n * g) old)) → Worked plan n gate g xs cs ts spent (take (n * g) old) ys
    → Stepped plan n gate g xs cs ts spent old (take (n * g) old ++ (ys ++ drop n (drop (n * g) old)))
unfolding past
stepped plan n gate g gates xs cs ts spent old ys l room kept w =
    let within : n * g ≤ length old = front_within n g gates old l room in
    let long : length ys ≡ n = kept ∙ row_counted n g gates old l room in
    let both : length (take (n * g) old ++ ys) ≡ n * g + n = length-append (take (n * g) old) ys ∙ omega (arith, long, length-take-le (n * g) old within) in
    let same : take (n * g) (take (n * g) old) ≡ take (n * g) old = take-take (n * g) (n * g) old (omega arith) in
    let parts : take (n * g) old ++ (ys ++ drop n (drop (n * g) old)) ≡ (take (n * g) old ++ ys) ++ drop n (drop (n * g) old) = sym (append_assoc (take (n * g) old) ys _) in
    record {
      next =
          λ s holds.
          ap₂ (λ (k : ℕ) (d : List ℕ). take k d) (next_row n g) parts
          ∙ take_at (take (n * g) old ++ ys) (drop n (drop (n * g) old)) (n * g + n) both
          ∙ ap₂ (λ (a b : List ℕ). a ++ b) holds.rows
          (sym (take_all n ys (omega (arith, long))) ∙ w.is s (record { rows = same ∙ holds.rows; inputs = holds.inputs; coins = holds.coins; triples = holds.triples }))
          ∙ sym (rows_snoc plan.points s.env (gate_share plan gate s));
      rest =
          ap₂ (λ (k : ℕ) (d : List ℕ). drop k d) (next_row n g) parts
          ∙ drop_at (take (n * g) old ++ ys) (drop n (drop (n * g) old)) (n * g + n) both
          ∙ drop-drop n (n * g) old
          ∙ ap (λ (k : ℕ). drop k old) (sym (next_row n g));
    }

pub ruleset stepping = (rules, front_fits, front_within, row_within, row_counted, standing_front, stepped)

-- ---- what stands before a gate
module _ (plan : Plan) (xs cs : List ℕ) (tf : List (ℕ → ℕ)) where
  pub before_next : (g : ℕ) → g < length plan.gates → before_gate plan xs cs tf (g + 1) ≡ past plan (get_or plan.gates g (Input 0)) (before_gate plan xs cs tf g)
  unfolding before_gate past_all
  before_next g l =
      ap (λ (gs : List Gate). past_all plan gs (start_of xs cs tf)) (ap (λ (k : ℕ). take k plan.gates) (add-one g) ∙ take-suc plan.gates g (Input 0) l)
      ∙ past-append plan (take g plan.gates) (get_or plan.gates g (Input 0) ∷ []) (start_of xs cs tf)

  pub before_all : (g : ℕ) → length plan.gates ≤ g → (before_gate plan xs cs tf g).env ≡ share_table plan xs cs tf
  unfolding before_gate share_table
  before_all g l = ap (λ (gs : List Gate). (past_all plan gs (start_of xs cs tf)).env) (take_all g plan.gates l)

-- what the gates below a gate own is a part of all
pub taken_within : (f : Gate → List ℕ) (gs : List Gate) (k : ℕ) → length (flat_map f (take k gs)) ≤ length (flat_map f gs)
taken_within f gs k =
    omega (
      arith,
      ap (λ (l : List Gate). length (flat_map f l)) (take-append-drop k gs),
      ap length (flat_map-append f (take k gs) (drop k gs)),
      length-append (flat_map f (take k gs)) (flat_map f (drop k gs)),
    )

-- ---- the rows of a run's wires
rows_below : (p : ℕ) (points : List ℕ) (env : List (ℕ → ℕ)) → ((w x : ℕ) → w < length env → wire_at env w x < p) → all_below p (rows_of points env) ≡ true
unfolding rows_of flat_map wire_at all_below
rows_below p points [] h = refl
rows_below p points (f ∷ env) h =
    append_below p (map f points) (rows_of points env) (map_below p f points (λ x. h 0 x (omega arith))) (rows_below p points env (λ w x l. h (suc w) x (omega arith)))

module _ (plan : Plan) (above : 0 < plan.p) (xs cs : List ℕ) (tf : List (ℕ → ℕ)) where
  pub stands : (n g : ℕ) (table : List ℕ) → length plan.points ≡ n → 1 ≤ n → g ≤ length plan.gates → n * g ≤ length table
      → take (n * g) table ≡ rows_of plan.points (before_gate plan xs cs tf g).env → Standing plan.p n g table
  stands n g table en low within room front = record {
    room = room;
    below =
        rw front
        (rows_below plan.p plan.points (before_gate plan xs cs tf g).env
        (λ w x l.
        let m : w < g = omega (arith, wires-count plan.points n en low table g room (before_gate plan xs cs tf g).env front) in
        rw (ap (λ (f : ℕ → ℕ). f x) (before-wire plan xs cs tf g w within m)) (share-below plan above xs cs tf w x)));
  }

-- ---- the triples
three : (b : Bool) (m : ℕ) → 3 * (m + cond b 1 0) ≡ 3 * m + cond b 3 0
three true m = omega arith
three false m = omega arith

pub triples_next : (plan : Plan) (g : ℕ) → g < length plan.gates → triple_at plan (g + 1) ≡ triple_at plan g + triples_taken (get_or plan.gates g (Input 0))
unfolding triple_at triples_taken
triples_next plan g l =
    ap (λ (k : ℕ). 3 * k) (count_where-take-suc (is_kind 7) plan.gates g (Input 0) l)
    ∙ three (is_kind 7 (get_or plan.gates g (Input 0))) (count_where (is_kind 7) (take g plan.gates))

pub triples_within : (plan : Plan) (g : ℕ) → triple_at plan g ≤ triple_numbers plan
unfolding triple_at triple_numbers kind_count
triples_within plan g =
    omega (arith, ap (count_where (is_kind 7)) (take-append-drop g plan.gates), count_where-append (is_kind 7) (take g plan.gates) (drop g plan.gates))

-- of a full list, each party has its triples' count
pub each-count : (m k : ℕ) (ts : List ℕ) → 1 ≤ m → length ts ≡ m * k → length ts / m ≡ k
each-count m k ts low e = ap (λ (l : ℕ). l / m) e ∙ mul-div_cancel_left k (omega arith)

module _ (bs : List ℕ) (h : Header) (k : Planned bs h) where
  -- past gate x, which is gate g
  pub triples_past :
      (g spent : ℕ) (x : Gate) → g < h.gates → spent ≡ triple_at (plan_of bs) g → x ≡ gate_at bs g → spent + triples_taken x ≡ triple_at (plan_of bs) (g + 1)
  triples_past g spent x l at is =
      let inside : g < length (plan_of bs).gates = rw (plan_gates k) l in
      ap₂ (λ (m : ℕ) (y : Gate). m + triples_taken y) at (is ∙ sym (plan_gate k g l)) ∙ sym (triples_next (plan_of bs) g inside)

  module _ (ts : List ℕ) (full : length ts ≡ party_count (plan_of bs) * triple_numbers (plan_of bs)) where
    pub triples_each : length ts / h.n ≡ triple_numbers (plan_of bs)
    triples_each = each-count h.n (triple_numbers (plan_of bs)) ts k.n_low (full ∙ ap (λ (m : ℕ). m * triple_numbers (plan_of bs)) (plan_n k))

    -- what gate x takes is left
    pub triples_left :
        (g spent : ℕ) (x : Gate) → g < h.gates → spent ≡ triple_at (plan_of bs) g → x ≡ gate_at bs g → all_below h.field.p ts ≡ true
        → Spending h.field.p h.n (triples_taken x) spent ts
    triples_left g spent x l at is below =
        record { room = omega (arith, triples_past g spent x l at is, triples_within (plan_of bs) (g + 1), triples_each); below = below }

-- a number of a party's next triple, by functions that have the list's
pub triple_is : (plan : Plan) (n : ℕ) (ts : List ℕ) (tf : List (ℕ → ℕ)) (d k : ℕ) → Tabled plan ts tf → party_count plan ≡ n → length ts / n ≡ triple_numbers plan → d < n → k < triple_numbers plan
    → get_or ts (length ts / n * d + k) 0 ≡ wire_at tf k (get_or plan.points d 0)
unfolding own_triples point_of
triple_is plan n ts tf d k tabled en each l m =
    let m0 : ℕ = triple_numbers plan in
    let q : suc d - 1 ≡ d = omega arith in
    ap (λ (c : ℕ). get_or ts (c * d + k) 0) each
    ∙ sym (get_or-take m0 (drop (m0 * d) ts) k 0 m ∙ get_or-drop (m0 * d) ts k 0)
    ∙ ap (λ (i : ℕ). get_or (take m0 (drop (m0 * i) ts)) k 0) (sym q)
    ∙ tabled.same (suc d) (omega arith) (omega (arith, en)) k m
    ∙ ap (λ (i : ℕ). wire_at tf k (get_or plan.points i 0)) q

-- ---- the loop over the gates: the rows of g wires stand, i inputs and c coins are taken, and s numbers of each party's triples
pub record Filling (bs : List ℕ) (h : Header) (xs cs ts d₀ d : List ℕ) (i c s g : ℕ) : Type 0 where
  pub within : g ≤ h.gates
  pub long : length d ≡ length d₀
  pub inputs : i ≡ length (flat_map (input_owners_at (plan_of bs)) (take g (plan_of bs).gates))
  pub coins : c ≡ length (flat_map (coin_owners_at (plan_of bs)) (take g (plan_of bs).gates))
  pub triples : s ≡ triple_at (plan_of bs) g
  pub few_inputs : i ≤ 15 * g
  pub few_coins : c ≤ 630 * g
  pub few_triples : s ≤ 3 * g
  pub front : (tf : List (ℕ → ℕ)) → Tabled (plan_of bs) ts tf → take (h.n * g) d ≡ rows_of (plan_of bs).points (before_gate (plan_of bs) xs cs tf g).env
  pub rest : drop (h.n * g) d ≡ drop (h.n * g) d₀

module _ (bs : List ℕ) (h : Header) (k : Planned bs h) (inputs coins triples : List ℕ) (given : Given (plan_of bs) inputs coins triples) where
  abbrev plan : Plan
  plan = plan_of bs

  abbrev xs : List ℕ
  xs = numbers inputs

  abbrev cs : List ℕ
  cs = numbers coins

  abbrev ts : List ℕ
  ts = numbers triples

  pub coins_given : length cs ≡ coin_count plan
  coins_given = numbers-length coins ∙ omega (arith, given.coins_count)

  pub triples_given : length ts ≡ party_count plan * triple_numbers plan
  triples_given = numbers-length triples ∙ omega (arith, given.triples_count)

  -- the list has such functions
  pub triples_tabled : Tabled plan ts (triples_of plan ts)
  triples_tabled = tabled_list plan (valid bs k.passes) ts triples_given

  pub fill_none : (d : List ℕ) → Filling bs h xs cs ts d d 0 0 0 0
  unfolding rows_of flat_map before_gate past_all start_of triple_at count_where
  fill_none d =
      let z : h.n * 0 ≡ 0 = mul-zero h.n in
      record { within = omega arith; long = refl; inputs = refl; coins = refl; triples = refl; few_inputs = omega arith; few_coins = omega arith; few_triples = omega arith; front = λ tf tabled. rw z refl; rest = refl }

  pub inputs_below : all_below h.field.p xs ≡ true
  inputs_below = rw (← plan_p k) given.inputs_below

  module _ (d₀ d : List ℕ) (i c s g : ℕ) (f : Filling bs h xs cs ts d₀ d i c s g) (room : h.n * h.gates ≤ length d₀) where
    module _ (l : g < h.gates) where
      inside : g < length plan.gates
      inside = rw (plan_gates k) l

      taken : c + length (coin_owners_at plan (gate_at bs g)) ≡ length (flat_map (coin_owners_at plan) (take (g + 1) plan.gates))
      taken = taken_next (coin_owners_at plan) bs h c g (length (coin_owners_at plan (gate_at bs g))) k f.coins l refl

      pub gate-taking : Taking plan (gate_at bs g) c cs
      unfolding coin_count coin_owners
      gate-taking = record {
        room = omega (arith, taken, coins_given, taken_within (coin_owners_at plan) plan.gates (g + 1));
        below = all_below-take plan.p (length (coin_owners_at plan (gate_at bs g))) (drop c cs) (all_below-drop plan.p c cs given.coins_below);
      }

      pub gate-standing : Standing h.field.p h.n g d
      gate-standing =
          rw (plan_p k) at
          (stands plan (pos (valid bs k.passes).prime) xs cs (triples_of plan ts) h.n g d (plan_points_long bs h k) k.n_low (omega (arith, inside))
          (omega (arith, f.long, row_room h.n g h.gates l)) (f.front (triples_of plan ts) triples_tabled))

      pub gate-spending : Spending h.field.p h.n (triples_taken (gate_at bs g)) s ts
      gate-spending = triples_left bs h k ts triples_given g s (gate_at bs g) l f.triples refl (rw (← plan_p k) given.triples_below)

      pub gate-room : h.n * h.gates ≤ length d
      gate-room = omega (arith, f.long)

      pub fill_next : (a b u : ℕ) (x : Gate) (e : List ℕ) → Stepped plan h.n (gate_at bs g) g (drop i xs) (drop c cs) ts s d e → length e ≡ length d
          → x ≡ gate_at bs g → a ≡ inputs_taken plan x → a ≤ 15 → b ≡ length (coin_owners_at plan x) → b ≤ 630 → u ≡ triples_taken x → u ≤ 3
          → Filling bs h xs cs ts d₀ e (i + a) (c + b) (s + u) (g + 1)
      unfolding inputs_taken triple_in
      fill_next a b u x e step kept ex ea la eb lb eu lu = record {
        within = omega arith;
        long = kept ∙ f.long;
        inputs = taken_next (input_owners_at plan) bs h i g a k f.inputs l (ea ∙ ap (λ (y : Gate). length (input_owners_at plan y)) ex);
        coins = taken_next (coin_owners_at plan) bs h c g b k f.coins l (eb ∙ ap (λ (y : Gate). length (coin_owners_at plan y)) ex);
        triples = ap (λ (m : ℕ). s + m) eu ∙ triples_past bs h k g s x l f.triples ex;
        few_inputs = omega (arith, f.few_inputs);
        few_coins = omega (arith, f.few_coins);
        few_triples = omega (arith, f.few_triples);
        front = λ tf tabled. step.next (before_gate plan xs cs tf g) (holds tf tabled) ∙ ap (λ (q : Before). rows_of plan.points q.env) (grows tf);
        rest = step.rest ∙ later;
      }
        where
          next_triple : (tf : List (ℕ → ℕ)) → Tabled plan ts tf → (n j : ℕ) → n < h.n → s + j < length ts / h.n
              → triple_in h.n ts s n j ≡ wire_at (before_gate plan xs cs tf g).triples j (get_or plan.points n 0)
          next_triple tf tabled n j m r =
              let each : length ts / h.n ≡ triple_numbers plan = triples_each bs h k ts triples_given in
              triple_is plan h.n ts tf n (s + j) tabled (plan_n k) each m (omega arith)
              ∙ ap (λ (q : ℕ). wire_at tf (q + j) (get_or plan.points n 0)) f.triples
              ∙ sym (ap (λ (y : ℕ → ℕ). y (get_or plan.points n 0)) (before-triples plan xs cs tf g j))

          holds : (tf : List (ℕ → ℕ)) → Tabled plan ts tf → Holds plan h.n g (drop i xs) (drop c cs) ts s d (before_gate plan xs cs tf g)
          holds tf tabled = record {
            rows = f.front tf tabled;
            inputs = before-inputs plan xs cs tf g ∙ ap (λ (m : ℕ). drop m xs) (sym f.inputs);
            coins = before-coins plan xs cs tf g ∙ ap (λ (m : ℕ). drop m cs) (sym f.coins);
            triples = next_triple tf tabled;
          }

          grows : (tf : List (ℕ → ℕ)) → past plan (gate_at bs g) (before_gate plan xs cs tf g) ≡ before_gate plan xs cs tf (g + 1)
          grows tf = ap (λ (y : Gate). past plan y (before_gate plan xs cs tf g)) (sym (plan_gate k g l)) ∙ sym (before_next plan xs cs tf g inside)

          later : drop (h.n * (g + 1)) d ≡ drop (h.n * (g + 1)) d₀
          later =
              ap (λ (m : ℕ). drop m d) (next_row h.n g) ∙ sym (drop-drop h.n (h.n * g) d) ∙ ap (drop h.n) f.rest
              ∙ drop-drop h.n (h.n * g) d₀ ∙ ap (λ (m : ℕ). drop m d₀) (sym (next_row h.n g))

    module _ (end : h.gates ≤ g) where
      all : g ≡ h.gates
      all = omega (arith, f.within)

      pub table_filled : (tf : List (ℕ → ℕ)) → Tabled plan ts tf → take (h.n * h.gates) d ≡ rows_of plan.points (share_table plan xs cs tf)
      table_filled tf tabled =
          ap (λ (m : ℕ). take (h.n * m) d) (sym all) ∙ f.front tf tabled ∙ ap (rows_of plan.points) (before_all plan xs cs tf g (omega (arith, plan_gates k)))

      pub table_kept : drop (h.n * h.gates) d ≡ drop (h.n * h.gates) d₀
      table_kept = ap (λ (m : ℕ). drop (h.n * m) d) (sym all) ∙ f.rest ∙ ap (λ (m : ℕ). drop (h.n * m) d₀) all

-- As it is: answers name this set, since the check leaves their goals open by `using` alone.
pub ruleset filling_table = (rules, fill_none, inputs_below, gate-taking, gate-standing, gate-spending, gate-room, fill_next, table_filled, table_kept)
