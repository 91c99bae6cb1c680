-- The loop over the gates of both runs, and what is worked out once.
--     row_small                   a gate's shares are below p
--     triples-on                  past some of each party's triples
--     Matching, matching_runs     the loop
--     finding_delta, sparing      delta's coefficients and values
--     working                     the whole matching
-- Assumes nothing.
use mathlib.Core.Path.{◌≡◌, refl, sym, ap, ap₂, ◌∙◌, subst}
use mathlib.Core.Bool.{true}
use mathlib.Core.List.{List, [], ◌∷◌, ◌++◌, map, flat_map, tail, append_assoc, append-nil}
use Prim.Native.Nat.{ℕ, suc, ◌+◌, ◌-◌, ◌*◌, ◌/◌, ◌<◌, ◌≤◌}
use native.Mathlib.Numerals.{add-one}
use native.Mathlib.Nat.{mul-zero, mul-le-mul}
use native.Mathlib.Omega.{arith}
use borrow.Author.Rules.{rules}
use lib.ListN.{length, get_or, take, drop, replicate, length-append, length-replicate, drop_of_length-le, length-map}
use lib.Seq.{length-take-le, take_all, take_at, drop-cons, drop-drop, get_or-drop}
use mir.Syntax.{w8, w64}
use mir.Val.{Fits}
use Rattle.numbers.specs.Tables.{tab, count_where}
use Rattle.numbers.proofs.Tables.{row_room}
use Rattle.numbers.specs.Bytes.{width, numbers, bytes_of, all_below}
use Rattle.numbers.proofs.Bytes.{numbers-length, fits_below, bytes_of-numbers}
use Rattle.numbers.proofs.Below.{append_below, map_below}
use Rattle.field.proofs.Solve.{canon-lt}
use Rattle.field.proofs.Inverse.{pos}
use Rattle.sharing_laws.specs.Poly.{eval, padded}
use Rattle.sharing_laws.specs.Interp.{delta}
use Rattle.sharing_laws.proofs.Deltas.{length-delta}
use Rattle.sharing_laws.proofs.Polys.{values-padded}
use Rattle.sharing_laws.proofs.Elements.{padded-below, delta-below}
use Rattle.plan.specs.declared.Gate.{Gate}
use Rattle.plan.specs.declared.Gate.TheVariants.{Input}
use Rattle.plan.specs.declared.Header.{Header}
use Rattle.plan.specs.Plans.{Plan, party_count, parties, coin_owners_at, coin_owners, coin_count, point_of, triple_numbers, triple_at}
use Rattle.plan.specs.File.{plan_of, gate_at}
use Rattle.plan.specs.Planned.{Planned}
use Rattle.plan_coalition.specs.Coalitions.{members, set_ok}
use Rattle.plan.proofs.Planned.{plan_t, plan_p, plan_n, plan_gates, plan_gate}
use Rattle.plan.proofs.Valid.{Valid, valid, planned-ready}
use Rattle.run_protocol.specs.Ideal.{inputs_taken}
use Rattle.run_protocol.specs.Shares.{Before, wire_at, gate_share, triples_taken, past, start_of}
use Rattle.run_protocol.specs.Tables.{Tabled, triples_of}
use Rattle.run_protocol.proofs.Given.{tabled_list}
use Rattle.run_protocol.proofs.Below.{gate-canon}
use Rattle.run_dealings.specs.Rows.{rows_of, triple_in, Standing, Holds}
use Rattle.run_tables.proofs.FillLaws.{rows_snoc, taken_within, triples_past, triples_each, triples_left, triple_is}
use Rattle.run_tables.proofs.StepLaws.{placing, points-counted, points_elements}
use Rattle.seat_messages.proofs.PointLaws.{plan_points_long}
use Rattle.match_privacy.specs.Matching.{lowest_of, lowest, with_coins, matched_at, match_from, matched_with}
use Rattle.match_moves.specs.Moves.{member_points}
use Rattle.match_moves.specs.Truncations.{Fitted}
use Rattle.match_call.specs.MatchSteps.{delta_whole, delta_tail, spares_of, Equipped, Absorbing, Follows, Following, Runnable, MatchedBy, Turn, Matched}
use Rattle.match_privacy.proofs.SetMembers.{set_few}
use Rattle.run_ideal.proofs.IdealLaws.{taken_next}
use Rattle.match_call.proofs.MemberLaws.{points-of-members, members-below, length-tail}

-- ---- a gate's shares are below p
row_small :
    (plan : Plan) → 0 < plan.p → (gate : Gate) (s : Before) → all_below plan.p (rows_of plan.points s.env) ≡ true
    → all_below plan.p (rows_of plan.points (past plan gate s).env) ≡ true
unfolding past
row_small plan above gate s b =
    ap (all_below plan.p) (rows_snoc plan.points s.env (gate_share plan gate s))
    ∙ append_below plan.p _ _ b (map_below plan.p (gate_share plan gate s) plan.points (λ x. canon-lt above (gate-canon plan gate s x)))

-- ---- the triples
-- past t numbers of each party's triples
triples-on :
    (points : List ℕ) (n t spent : ℕ) (ts : List ℕ) (fs : List (ℕ → ℕ))
    → ((d j : ℕ) → d < n → spent + j < length ts / n → triple_in n ts spent d j ≡ wire_at fs j (get_or points d 0))
    → (d j : ℕ) → d < n → spent + t + j < length ts / n → triple_in n ts (spent + t) d j ≡ wire_at (drop t fs) j (get_or points d 0)
unfolding triple_in wire_at
triples-on points n t spent ts fs h d j l m =
    let e : spent + t + j ≡ spent + (t + j) = omega arith in
    ap (λ (k : ℕ). get_or ts (length ts / n * d + k) 0) e
    ∙ h d (t + j) l (omega arith)
    ∙ ap (λ (f : ℕ → ℕ). f (get_or points d 0)) (sym (get_or-drop t fs j (λ x. 0)))

-- ---- the loop
-- what stands before gate g for these functions of both runs' triples: s in the first run and s' in the matched one, and what is left to match
pub record Stand (bs : List ℕ) (h : Header) (set : ℕ) (xs ys coins ts ts' before after out : List ℕ) (at next spent g : ℕ) (tf tf' : List (ℕ → ℕ)) : Type 0 where
  pub s : Before
  pub s' : Before
  pub first : Holds (plan_of bs) h.n g (drop next (numbers xs)) (drop at (numbers coins)) (numbers ts) spent before s
  pub second : Holds (plan_of bs) h.n g (drop next (numbers ys)) s'.coins (numbers ts') spent after s'
  pub follow : Following (plan_of bs) (members set) (drop g (plan_of bs).gates) s s'
  pub rest :
      take at (numbers out) ++ match_from (plan_of bs) (members set) (drop g (plan_of bs).gates) s s'
      ≡ matched_with (plan_of bs) (members set) tf tf' (numbers xs) (numbers ys) (numbers coins)

-- the invariant at gate g: its coins stand from place `at` on, its inputs from place `next` on, and `spent` numbers of each party's triples are spent;
-- both tables stand, q and q' before the gate
pub record Matching (bs : List ℕ) (h : Header) (set : ℕ) (xs ys coins ts ts' out₀ before after out : List ℕ) (at next spent g : ℕ) : Type 0 where
  pub given : Runnable bs h set xs ys coins ts ts' (length out)
  pub within : g ≤ h.gates
  pub few : next ≤ 15 * g
  pub placed : at ≡ length (flat_map (coin_owners_at (plan_of bs)) (take g (plan_of bs).gates))
  pub triples : spent ≡ triple_at (plan_of bs) g
  pub few_spent : spent ≤ 3 * g
  pub first_long : length before ≡ 15360
  pub second_long : length after ≡ 15360
  pub out_long : length out ≡ length out₀
  pub q : Before
  pub q' : Before
  pub first : Holds (plan_of bs) h.n g (drop next (numbers xs)) (drop at (numbers coins)) (numbers ts) spent before q
  pub second : Holds (plan_of bs) h.n g (drop next (numbers ys)) q'.coins (numbers ts') spent after q'
  pub first_below : all_below (plan_of bs).p (rows_of (plan_of bs).points q.env) ≡ true
  pub second_below : all_below (plan_of bs).p (rows_of (plan_of bs).points q'.env) ≡ true
  pub stand :
      (tf tf' : List (ℕ → ℕ)) → Tabled (plan_of bs) (numbers ts) tf → Tabled (plan_of bs) (numbers ts') tf'
      → Following (plan_of bs) (members set) (plan_of bs).gates (start_of (numbers xs) (numbers coins) tf) (start_of (numbers ys) [] tf')
      → Stand bs h set xs ys coins ts ts' before after out at next spent g tf tf'

module _ (bs : List ℕ) (h : Header) (set : ℕ) (xs ys coins ts ts' : List ℕ) where
  abbrev plan : Plan
  plan = plan_of bs

  -- a list of all triples
  module _ (k : Planned bs h) (us : List ℕ) (long : length us ≡ width * (party_count plan * triple_numbers plan)) where
    full : length (numbers us) ≡ party_count plan * triple_numbers plan
    full = numbers-length us ∙ omega (arith, long)

    triples-start :
        (tf : List (ℕ → ℕ)) → Tabled plan (numbers us) tf → (d j : ℕ) → d < h.n → 0 + j < length (numbers us) / h.n
        → triple_in h.n (numbers us) 0 d j ≡ wire_at tf j (get_or plan.points d 0)
    unfolding triple_in
    triples-start tf tabled d j l m =
        let e : 0 + j ≡ j = omega arith in
        let each : length (numbers us) / h.n ≡ triple_numbers plan = triples_each bs h k (numbers us) full in
        ap (λ (i : ℕ). get_or (numbers us) (length (numbers us) / h.n * d + i) 0) e ∙ triple_is plan h.n (numbers us) tf d j tabled (plan_n k) each l (omega arith)

    start_holds : (zs cs table : List ℕ) (tf : List (ℕ → ℕ)) → Tabled plan (numbers us) tf → Holds plan h.n 0 zs cs (numbers us) 0 table (start_of zs cs tf)
    unfolding rows_of start_of flat_map
    start_holds zs cs table tf tabled =
        let z : h.n * 0 ≡ 0 = mul-zero h.n in record { rows = rw z refl; inputs = refl; coins = refl; triples = triples-start tf tabled }

    -- such functions
    some : Tabled plan (numbers us) (triples_of plan (numbers us))
    some = tabled_list plan (valid bs k.passes) (numbers us) full

  module _ (k : Planned bs h) (before after out : List ℕ) (gi : Runnable bs h set xs ys coins ts ts' (length out)) where
    pub match_none : length before ≡ 15360 → length after ≡ 15360 → Matching bs h set xs ys coins ts ts' out before after out 0 0 0 0
    unfolding rows_of matched_with start_of all_below flat_map triple_at count_where
    match_none fl sl =
        record {
          given = gi;
          within = omega arith;
          few = omega arith;
          placed = refl;
          triples = refl;
          few_spent = omega arith;
          first_long = fl;
          second_long = sl;
          out_long = refl;
          q = start_of (numbers xs) (numbers coins) (triples_of plan (numbers ts));
          q' = start_of (numbers ys) [] (triples_of plan (numbers ts'));
          first = start_holds k ts gi.first_triples (numbers xs) (numbers coins) before (triples_of plan (numbers ts)) (some k ts gi.first_triples);
          second = start_holds k ts' gi.second_triples (numbers ys) [] after (triples_of plan (numbers ts')) (some k ts' gi.second_triples);
          first_below = refl;
          second_below = refl;
          stand =
              λ tf tf' t t' f.
              record {
                s = start_of (numbers xs) (numbers coins) tf;
                s' = start_of (numbers ys) [] tf';
                first = start_holds k ts gi.first_triples (numbers xs) (numbers coins) before tf t;
                second = start_holds k ts' gi.second_triples (numbers ys) [] after tf' t';
                follow = f;
                rest = refl;
              };
        }

  module _ (k : Planned bs h) (out₀ before after out : List ℕ) (at next spent g : ℕ) (m : Matching bs h set xs ys coins ts ts' out₀ before after out at next spent g) where
    above : 0 < plan.p
    above = pos (valid bs k.passes).prime

    pub match-fits : (t : ℕ) → g < h.gates → t ≤ 15 → Fits w64 (next + t)
    match-fits t l le = record { fits = omega (arith, m.few, k.gates-high) }

    pub spent-fits : (t : ℕ) → g < h.gates → t ≤ 3 → Fits w64 (spent + t)
    spent-fits t l le = record { fits = omega (arith, m.few_spent, k.gates-high) }

    module _ (l : g < h.gates) where
      inside : g < length plan.gates
      inside = rw (plan_gates k) l

      abbrev taken : ℕ
      taken = length (coin_owners_at plan (gate_at bs g))

      coins_end : at + taken ≡ length (flat_map (coin_owners_at plan) (take (g + 1) plan.gates))
      coins_end = taken_next (coin_owners_at plan) bs h at g taken k m.placed l refl

      coins_room : at + taken ≤ coin_count plan
      unfolding coin_count coin_owners
      coins_room = omega (arith, coins_end, taken_within (coin_owners_at plan) plan.gates (g + 1))

      many : h.n * h.gates ≤ 15360
      many = mul-le-mul {n₁ = h.n} {m₁ = h.gates} {n₂ = 15} {m₂ = 1024} k.n-high k.gates-high

      stands : (table : List ℕ) (s : Before) → length table ≡ 15360 → take (h.n * g) table ≡ rows_of plan.points s.env
          → all_below plan.p (rows_of plan.points s.env) ≡ true → Standing h.field.p h.n g table
      stands table s long front below = record {
        room = omega (arith, many, row_room h.n g h.gates l);
        below = rw (front, ← plan_p k) below;
      }

      pub match-turn : Turn bs h g xs ys before after at coins out ts ts' spent
      match-turn = record {
        gate = l;
        xs_below = m.given.first_below;
        ys_below = m.given.second_below;
        first = stands before m.q m.first_long m.first.rows m.first_below;
        second = stands after m.q' m.second_long m.second.rows m.second_below;
        first_room = omega (arith, many, m.first_long);
        second_room = omega (arith, many, m.second_long);
        first_spending = triples_left bs h k (numbers ts) (full k ts m.given.first_triples) g spent (gate_at bs g) l m.triples refl m.given.first_small;
        second_spending = triples_left bs h k (numbers ts') (full k ts' m.given.second_triples) g spent (gate_at bs g) l m.triples refl m.given.second_small;
        lent = record {
          below = m.given.coins_below;
          here = omega (arith, coins_room, m.given.coins_long);
          there = omega (arith, coins_room, m.given.room_long);
        };
      }

      gates_from : drop g plan.gates ≡ gate_at bs g ∷ drop (g + 1) plan.gates
      gates_from = drop-cons plan.gates g (Input 0) inside ∙ rw (plan_gate k g l, add-one)

      past-list : (xs : List ℕ) (a b c : ℕ) (ys : List ℕ) → ys ≡ drop a xs → c ≡ a + b → drop b ys ≡ drop c xs
      past-list xs a b c ys e f = ap (drop b) e ∙ drop-drop b a xs ∙ ap (λ (n : ℕ). drop n xs) (sym f)

      module _ (before' after' out' : List ℕ) (r t u : ℕ) (x : Gate)
          (w : Matched plan (members set) h.n (gate_at bs g) g (drop next (numbers xs)) (drop next (numbers ys)) (drop at (numbers coins)) (numbers ts) (numbers ts') spent at before after out before' after' out' r)
          (ex : x ≡ gate_at bs g) (ex_t : t ≡ inputs_taken plan x) (ex_u : u ≡ triples_taken x) where
        et : t ≡ inputs_taken plan (gate_at bs g)
        et = ex_t ∙ ap (inputs_taken plan) ex

        eu : u ≡ triples_taken (gate_at bs g)
        eu = ex_u ∙ ap triples_taken ex

        -- past the gate in both runs
        first-past : (s : Before) → Holds plan h.n g (drop next (numbers xs)) (drop at (numbers coins)) (numbers ts) spent before s
            → Holds plan h.n (g + 1) (drop (next + t) (numbers xs)) (drop r (numbers coins)) (numbers ts) (spent + u) before' (past plan (gate_at bs g) s)
        unfolding past
        first-past s hs = record {
          rows = w.first s hs;
          inputs = past-list (numbers xs) next (inputs_taken plan (gate_at bs g)) (next + t) s.inputs hs.inputs (ap (λ (n : ℕ). next + n) et);
          coins = past-list (numbers coins) at taken r s.coins hs.coins w.place;
          triples = rw eu (triples-on plan.points h.n (triples_taken (gate_at bs g)) spent (numbers ts) s.triples hs.triples);
        }

        second-past : (cs : List ℕ) (s' : Before) → Holds plan h.n g (drop next (numbers ys)) s'.coins (numbers ts') spent after s'
            → take (h.n * (g + 1)) after' ≡ rows_of plan.points (past plan (gate_at bs g) (with_coins cs s')).env
            → Holds plan h.n (g + 1) (drop (next + t) (numbers ys)) (past plan (gate_at bs g) (with_coins cs s')).coins (numbers ts') (spent + u) after' (past plan (gate_at bs g) (with_coins cs s'))
        unfolding past with_coins
        second-past cs s' hs rows = record {
          rows = rows;
          inputs = past-list (numbers ys) next (inputs_taken plan (gate_at bs g)) (next + t) s'.inputs hs.inputs (ap (λ (n : ℕ). next + n) et);
          coins = refl;
          triples = rw eu (triples-on plan.points h.n (triples_taken (gate_at bs g)) spent (numbers ts') s'.triples hs.triples);
        }

        stand_next :
            (tf tf' : List (ℕ → ℕ)) → Stand bs h set xs ys coins ts ts' before after out at next spent g tf tf'
            → Stand bs h set xs ys coins ts ts' before' after' out' r (next + t) (spent + u) (g + 1) tf tf'
        unfolding Following match_from
        stand_next tf tf' o =
            let new : List ℕ = matched_at plan (members set) (gate_at bs g) o.s o.s' in
            let first_next : Before = past plan (gate_at bs g) o.s in
            let second-next : Before = past plan (gate_at bs g) (with_coins new o.s') in
            let here : Follows plan (members set) (gate_at bs g) o.s o.s' × Following plan (members set) (drop (g + 1) plan.gates) first_next second-next
            = subst (λ (gs : List Gate). Following plan (members set) gs o.s o.s') gates_from o.follow in
            let one_more : match_from plan (members set) (drop g plan.gates) o.s o.s' ≡ new ++ match_from plan (members set) (drop (g + 1) plan.gates) first_next second-next
            = ap (λ (gs : List Gate). match_from plan (members set) gs o.s o.s') gates_from in
            record {
              s = first_next;
              s' = second-next;
              first = first-past o.s o.first;
              second = second-past new o.s' o.second (w.second o.s o.s' o.first o.second here.0);
              follow = here.1;
              rest =
                  ap (λ (f : List ℕ). f ++ match_from plan (members set) (drop (g + 1) plan.gates) first_next second-next) (w.coins o.s o.s' o.first o.second here.0)
                  ∙ append_assoc (take at (numbers out)) new (match_from plan (members set) (drop (g + 1) plan.gates) first_next second-next)
                  ∙ ap (λ (f : List ℕ). take at (numbers out) ++ f) (sym one_more)
                  ∙ o.rest;
            }

        pub match-next :
            length before' ≡ length before → length after' ≡ length after → length out' ≡ length out → t ≤ 15 → u ≤ 3
            → Matching bs h set xs ys coins ts ts' out₀ before' after' out' r (next + t) (spent + u) (g + 1)
        match-next lb la lo le ule = record {
          given = rw lo m.given;
          within = omega arith;
          few = omega (arith, m.few);
          placed = w.place ∙ coins_end;
          triples = ap (λ (n : ℕ). spent + n) ex_u ∙ triples_past bs h k g spent x l m.triples ex;
          few_spent = omega (arith, m.few_spent);
          first_long = lb ∙ m.first_long;
          second_long = la ∙ m.second_long;
          out_long = lo ∙ m.out_long;
          q = past plan (gate_at bs g) m.q;
          q' = past plan (gate_at bs g) (with_coins (drop at (numbers out')) m.q');
          first = first-past m.q m.first;
          second = second-past (drop at (numbers out')) m.q' m.second (w.other m.q' m.second);
          first_below = row_small plan above (gate_at bs g) m.q m.first_below;
          second_below = unfold with_coins in row_small plan above (gate_at bs g) (with_coins (drop at (numbers out')) m.q') m.second_below;
          stand = λ tf tf' y y' f. stand_next tf tf' (m.stand tf tf' y y' f);
        }

    pub match-done : h.gates ≤ g → MatchedBy bs set xs ys coins ts ts' (numbers out)
    unfolding match_from coin_count coin_owners
    match-done l =
        let none : drop g plan.gates ≡ [] = drop_of_length-le plan.gates {i = g} (rw (plan_gates k) l) in
        let all : take g plan.gates ≡ plan.gates = take_all g plan.gates (rw (plan_gates k) l) in
        let end : at ≡ coin_count plan = m.placed ∙ ap (λ (gs : List Gate). length (flat_map (coin_owners_at plan) gs)) all in
        record {
          are =
              λ tf tf' y y' f.
              let o = m.stand tf tf' y y' f in
              sym (take_all at (numbers out) (omega (arith, numbers-length out, m.given.room_long, end)))
              ∙ sym (append-nil (take at (numbers out))) ∙ (rw none at o.rest);
        }

    pub match-same : length out ≡ length out₀
    match-same = m.out_long

-- As it is: answers name this set, since the check leaves their goals open by `using` alone.
pub ruleset matching_runs = (rules, match_none, match-fits, spent-fits, match-turn, match-next, match-done, match-same)

-- ---- delta's coefficients
drop-tail : (f r : List ℕ) → 0 < length f → drop 1 (f ++ r) ≡ tail f ++ r
drop-tail [] r l = absurd (omega arith)
drop-tail (x ∷ f) r l = refl

length-tail-of : (f : List ℕ) → length (tail f) ≡ length f - 1
length-tail-of [] = refl
length-tail-of (x ∷ f) = omega arith

module _ (bs : List ℕ) (h : Header) (p : Planned bs h) (d : List ℕ) (size : length d ≡ 15) where
  pub delta_count : h.t + 1 ≡ length (take (h.t + 1) d)
  delta_count = sym (length-take-le (h.t + 1) d (omega (arith, p.threshold, p.n-high)))

  module _ (set : ℕ) (ok : set_ok (plan_of bs) set ≡ true) (points : List ℕ) (is : points ≡ (plan_of bs).points) (ms : List ℕ) (e : ms ≡ member_points points set) where
    pub members-room : length ms + 1 ≤ length (take (h.t + 1) d)
    unfolding member_points
    members-room = rw (e, length-map, ← delta_count) (omega (arith, set_few (plan_of bs) set ok, plan_t p))

    module _ (ys : List ℕ) (ey : ys ≡ padded (length (take (h.t + 1) d)) (delta h.field.p ms)) where
      all-is : ys ≡ delta_whole (plan_of bs) set
      unfolding delta_whole
      all-is =
          let ep : (plan_of bs).p ≡ h.field.p = plan_p p in
          let et : (plan_of bs).t ≡ h.t = plan_t p in
          let em : member_points points set ≡ map (point_of (plan_of bs)) (members set) = points-of-members bs h p set points is in
          let en : h.t + 1 ≡ length (take (h.t + 1) d) = delta_count in
          cc

      all-count : length ys ≡ h.t + 1
      unfolding padded
      all-count =
          ap length ey ∙ length-append (delta h.field.p ms) (replicate (length (take (h.t + 1) d) - length (delta h.field.p ms)) 0)
          ∙ omega (
            arith,
            delta_count,
            length-replicate {A = ℕ} (length (take (h.t + 1) d) - length (delta h.field.p ms)) 0,
            length-delta h.field.p ms,
            members-room,
          )

      pub delta-whole : take (h.t + 1) (ys ++ drop (h.t + 1) d) ≡ delta_whole (plan_of bs) set
      delta-whole = take_at ys (drop (h.t + 1) d) (h.t + 1) all-count ∙ all-is

      pub delta-tail : take (h.t + 1 - 1) (drop 1 (ys ++ drop (h.t + 1) d)) ≡ delta_tail (plan_of bs) set
      unfolding delta_tail
      delta-tail =
          let n : h.t + 1 - 1 ≡ h.t = omega arith in
          ap (λ (m : ℕ). take m (drop 1 (ys ++ drop (h.t + 1) d))) n
          ∙ ap (take h.t) (drop-tail ys (drop (h.t + 1) d) (omega (arith, all-count)))
          ∙ take_at (tail ys) (drop (h.t + 1) d) h.t (omega (arith, length-tail-of ys, all-count))
          ∙ ap tail all-is

pub points_small : (bs : List ℕ) (h : Header) (set : ℕ) (points ms : List ℕ) → Planned bs h → points ≡ (plan_of bs).points → ms ≡ member_points points set
    → all_below h.field.p ms ≡ true
points_small bs h set points ms p is e = rw e (members-below bs h p set points is)

pub ruleset finding_delta = (rules, planned-ready, points-counted, delta_count, members-room, points_small, delta-whole, delta-tail)

-- ---- delta's values
module _ (bs : List ℕ) (h : Header) (p : Planned bs h) (set : ℕ) (es : List ℕ) (ee : es ≡ delta_whole (plan_of bs) set) where
  pub whole-below : all_below h.field.p es ≡ true
  unfolding delta_whole
  whole-below =
      let v : Valid (plan_of bs) = valid bs p.passes in
      rw (ee, ← plan_p p)
      (padded-below (plan_of bs).p (pos v.prime) ((plan_of bs).t + 1) _ (delta-below (plan_of bs).p v.prime.above (map (point_of (plan_of bs)) (members set))))

  pub spares-count : (points row : List ℕ) → points ≡ (plan_of bs).points → length row ≡ 15 → length (take h.n row) ≡ length points
  spares-count points row is long = length-take-le h.n row (omega (arith, p.n-high)) ∙ sym (plan_points_long bs h p) ∙ sym (ap length is)

  pub spares-are :
      (points out row : List ℕ) → points ≡ (plan_of bs).points → length out ≡ length (take h.n row) → length row ≡ 15 → out ≡ map (eval h.field.p es) points
      → take h.n (out ++ drop h.n row) ≡ spares_of (plan_of bs) set
  unfolding spares_of delta_whole
  spares-are points out row is same long eo =
      take_at out (drop h.n row) h.n (same ∙ length-take-le h.n row (omega (arith, p.n-high)))
      ∙ eo ∙ ap₂ (λ (q : ℕ) (ps : List ℕ). map (eval q es) ps) (sym (plan_p p)) is
      ∙ ap (λ (f : List ℕ). map (eval (plan_of bs).p f) (plan_of bs).points) ee
      ∙ values-padded (plan_of bs).p ((plan_of bs).t + 1) (delta (plan_of bs).p (map (point_of (plan_of bs)) (members set))) (plan_of bs).points

pub ruleset sparing = (rules, planned-ready, points-counted, points_elements, whole-below, spares-count, spares-are)

-- ---- the whole
pub equip :
    (bs : List ℕ) (h : Header) (set : ℕ) (xs ys coins ts ts' : List ℕ) (room : ℕ) (es : List ℕ) → Planned bs h → Runnable bs h set xs ys coins ts ts' room
    → es ≡ delta_tail (plan_of bs) set → Equipped bs h set es
equip bs h set xs ys coins ts ts' room es p g e = record { planned = p; set_ok_lem = g.set_ok_lem; coefficients = e }

pub equip_planned : (bs : List ℕ) (h : Header) (set : ℕ) (es : List ℕ) → Equipped bs h set es → Planned bs h
equip_planned bs h set es e = e.planned

pub tail_count : (bs : List ℕ) (h : Header) (set : ℕ) (r : List ℕ) → Planned bs h → set_ok (plan_of bs) set ≡ true → take (h.t + 1 - 1) (drop 1 r) ≡ delta_tail (plan_of bs) set → h.t + 1 - 1 ≡ length (take (h.t + 1 - 1) (drop 1 r))
tail_count bs h set r p ok e = let n : h.t + 1 - 1 ≡ h.t = omega arith in n ∙ sym (ap length e ∙ length-tail (plan_of bs) (valid bs p.passes) set ok ∙ plan_t p)

-- what the coins of a multiply by truncation move by
pub absorb :
    (bs : List ℕ) (h : Header) (set low : ℕ) (spares row : List ℕ) (p t : ℕ) (points dealers : List ℕ) → Planned bs h → points ≡ (plan_of bs).points
    → low ≡ lowest_of (members set) (tab suc h.n) → take h.n row ≡ spares_of (plan_of bs) set → spares ≡ take h.n row → Fitted h points p t dealers
    → Absorbing bs h set low spares p t dealers
unfolding lowest parties
absorb bs h set low spares row p t points dealers k is el er es f = record {
  lowest_is = el ∙ ap (λ (n : ℕ). lowest_of (members set) (tab suc n)) (sym (plan_n k));
  spares_are = es ∙ er;
  fitted = rw is at f;
}

-- the numbers written, as bytes
pub bytes-matched :
    (bs : List ℕ) (h : Header) (set : ℕ) (xs ys coins ts ts' before out : List ℕ) → Runnable bs h set xs ys coins ts ts' (length before) → length out ≡ length before
    → ((j : ℕ) → Fits w8 (get_or out j 0)) → out ≡ bytes_of (numbers out)
bytes-matched bs h set xs ys coins ts ts' before out g l b = sym (bytes_of-numbers (coin_count (plan_of bs)) out (l ∙ g.room_long) (fits_below out b))

pub ruleset working = (placing, equip, equip_planned, tail_count, absorb, bytes-matched)
