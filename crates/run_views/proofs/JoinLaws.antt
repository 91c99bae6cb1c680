-- The parts of a view joined, and the views of a coalition's members.
--     joining               all mail to a party, and its view
--     member_within         in a set that names no party above n, each member is a party
--     membering             the view of a party that is a member
--     Viewed, viewing       the views of all members
-- Assumes nothing.
use mathlib.Core.Path.{◌≡◌, refl, sym, ap, ◌∙◌}
use mathlib.Core.Bool.{Bool, true, false, cond}
use mathlib.Core.List.{List, [], ◌∷◌, ◌++◌, map, flat_map, Memᴰ}
use Prim.Native.Nat.{ℕ, suc, ◌+◌, ◌-◌, ◌*◌, ◌/◌, ◌^◌, ◌<◌, ◌≤◌}
use native.Mathlib.Numerals.{add-one}
use native.Mathlib.Omega.{arith}
use borrow.Author.Rules.{rules}
use borrow.Author.Tests.{not-true, not-false, lt-ltb, le-leb}
use lib.ListN.{length}
use Rattle.numbers.specs.Bytes.{width, numbers, bytes_of}
use Rattle.numbers.proofs.Bytes.{numbers-length}
use Rattle.sharing_laws.specs.Interp.{All}
use Rattle.plan.specs.declared.Header.{Header}
use Rattle.plan.specs.Plans.{Plan, party_count, point_of, out_wires, coin_count, triple_numbers, own_inputs, own_coins}
use Rattle.plan.specs.File.{plan_of}
use Rattle.plan.specs.Planned.{Planned}
use Rattle.plan_coalition.specs.Coalitions.{in_set, members_from, members, set_fits}
use Rattle.plan.proofs.Planned.{plan_p, plan_n, plan_gates}
use Rattle.plan.proofs.Valid.{Valid, valid}
use Rattle.plan_coalition.proofs.Coalitions.{member_in, in_member, all-members, member_party}
use Rattle.run_protocol.specs.Rounds.{view_count}
use Rattle.run_protocol.specs.Shares.{share_table}
use Rattle.run_protocol.specs.Tables.{table_view_of, Tabled, triples_of}
use Rattle.run_protocol.proofs.Runs.{views-table}
use Rattle.run_protocol.proofs.ViewCounts.{view-count}
use Rattle.run_dealings.specs.Rows.{rows_of, Given}
use Rattle.run_tables.proofs.FillLaws.{triples_each, coins_given, triples_given, triples_tabled}
use Rattle.run_views.specs.Flat.{first_in, outs_in, opened_in, pieces_in, gathered, mail_in, view_in, Ran}
use Rattle.run_views.specs.Writing.{Wrote}
use Rattle.sharing_laws.proofs.Lists.{flat_map-all, all_map}
use Rattle.run_views.proofs.WriteLaws.{wrote_none, wrote_then, wrote_as, wrote_whole, Left, left_all, left_then, left_end}
use Rattle.run_views.proofs.FlatLaws.{table_long, table_below, view_flat}

-- ---- parts
module _ (plan : Plan) (h : Header) (table xs cs ts : List ℕ) (i at : ℕ) (old : List ℕ) where
  pub mail_done :
      (a b next : ℕ) (da db new : List ℕ) → Wrote (first_in plan h.n table i) at old da a
      → Wrote (gathered (pieces_in h plan.points table xs cs ts (point_of plan i)) plan 0 0 0 plan.gates) a da db b → Wrote (outs_in plan h.n table i) b db new next
      → Wrote (mail_in plan h table xs cs ts i) at old new next
  unfolding mail_in
  mail_done a b next da db new u v w = wrote_then _ _ at a next old da new u (wrote_then _ _ a b next da db new v w)

  pub view_done :
      (a b c next : ℕ) (da db dc new : List ℕ) → Wrote (own_inputs plan i xs) at old da a → Wrote (own_coins plan i cs) a da db b
      → Wrote (mail_in plan h table xs cs ts i) b db dc c → Wrote (map (opened_in plan h table) (out_wires plan i)) c dc new next
      → Wrote (view_in plan h table xs cs ts i) at old new next
  unfolding view_in
  view_done a b c next da db dc new s u v w = wrote_then _ _ at a next old da new s (wrote_then _ _ a b next da db new u (wrote_then _ _ b c next db dc new v w))

-- As it is: answers name this set, since the check leaves their goals open by `using` alone.
pub ruleset joining = (rules, mail_done, view_done)

-- ---- a member
-- a set that names no party above n admits its own count of members
own_count : (n set : ℕ) → set < 2 ^ n → set_fits n (length (members set)) set ≡ true
own_count n set l = rw (lt-ltb set (2 ^ n) l, le-leb (length (members set)) (length (members set)) (omega arith))

pub member_within : (n set : ℕ) → set < 2 ^ n → (m : ℕ) → Memᴰ m (members set) → m ≤ n
member_within n set l = member_party n (length (members set)) set (own_count n set l)

pub member_most : (n set i : ℕ) (b : Bool) → set < 2 ^ n → b ≡ in_set set i → b ≡ true → 1 ≤ i → i ≤ 16 → i ≤ n
member_most n set i b w e y l m = member_within n set w i (in_member set i l m (sym e ∙ y))

module _ (vs : List ℕ) (set i at : ℕ) (old : List ℕ) (b : Bool) (e : b ≡ in_set set i) where
  pub member_not : b ≡ false → at ≤ length old / width → Wrote (cond (in_set set i) vs []) at old old at
  member_not y l = rw (← e, y) (wrote_none at old l)

  pub member_view : (new : List ℕ) (next : ℕ) → b ≡ true → Wrote vs at old new next → Wrote (cond (in_set set i) vs []) at old new next
  member_view new next y w = rw (← e, y) w

-- As it is: answers name this set, since the check leaves their goals open by `using` alone.
pub ruleset membering = (rules, not-true, not-false, member_most, member_not, member_view)

-- ---- all members
-- the invariant before party i
pub record Viewed (vs : ℕ → List ℕ) (set : ℕ) (old new : List ℕ) (at i : ℕ) : Type 0 where
  pub left : Left (flat_map vs (members set)) 0 old new at (flat_map vs (members_from set i (17 - i)))
  pub high : i ≤ 17

pub views_all : (vs : ℕ → List ℕ) (set : ℕ) (old : List ℕ) → Viewed vs set old old 0 1
unfolding members
views_all vs set old = record { left = left_all _ 0 old _ refl (omega arith); high = omega arith }

views_step : (vs : ℕ → List ℕ) (b : Bool) (i : ℕ) (is : List ℕ) → flat_map vs (cond b (i ∷ is) is) ≡ cond b (vs i) [] ++ flat_map vs is
unfolding flat_map
views_step vs true i is = refl
views_step vs false i is = refl

module _ (vs : ℕ → List ℕ) (set : ℕ) (old new : List ℕ) (at i : ℕ) (s : Viewed vs set old new at i) where
  pub views_next : (new' : List ℕ) (at' : ℕ) → i ≤ 16 → Wrote (cond (in_set set i) (vs i) []) at new new' at' → Viewed vs set old new' at' (i + 1)
  unfolding members_from
  views_next new' at' l w =
      let e : 17 - i ≡ suc (17 - (i + 1)) = omega arith in
      record {
        left = left_then _ 0 old new at _ s.left (cond (in_set set i) (vs i) []) _ new' at' (rw (e, ← add-one i) (views_step vs (in_set set i) i (members_from set (i + 1) (17 - (i + 1))))) w;
        high = omega arith;
      }

  views_end : 16 < i → Wrote (flat_map vs (members set)) 0 old new at
  unfolding members_from flat_map
  views_end l =
      let e : 17 - i ≡ 0 = omega (arith, s.high) in
      left_end _ 0 old new at _ s.left (rw e)

-- ---- the run's coins and table
module _ {bs : List ℕ} {h : Header} (pl : Planned bs h) (inputs coins triples table : List ℕ) (given : Given (plan_of bs) inputs coins triples)
    (is : table ≡ rows_of (plan_of bs).points (share_table (plan_of bs) (numbers inputs) (numbers coins) (triples_of (plan_of bs) (numbers triples)))) where
  full : length (numbers coins) ≡ coin_count (plan_of bs)
  full = coins_given bs h pl inputs coins triples given

  triples_count : length (numbers triples) ≡ party_count (plan_of bs) * triple_numbers (plan_of bs)
  triples_count = triples_given bs h pl inputs coins triples given

  tabled : Tabled (plan_of bs) (numbers triples) (triples_of (plan_of bs) (numbers triples))
  tabled = triples_tabled bs h pl inputs coins triples given

  pub ran : Ran (plan_of bs) h (numbers inputs) (numbers coins) (numbers triples) table
  ran =
      record {
        inputs_full = omega (arith, numbers-length inputs, given.inputs_count);
        inputs_below = rw (← plan_p pl) given.inputs_below;
        full = full;
        below = rw (← plan_p pl) given.coins_below;
        triples_full = triples_count;
        triples_below = rw (← plan_p pl) given.triples_below;
        running =
            record {
              ready = record { prime = rw (← plan_p pl) (valid bs pl.passes).prime; small = omega (arith, pl.p-high) };
              some = pl.n_low;
              few = pl.n-high;
              threshold = pl.threshold;
              gates = pl.gates-high;
              flat =
                  record {
                    long = rw (← plan_n pl, ← plan_gates pl) (table_long (plan_of bs) (numbers inputs) (numbers coins) (triples_of (plan_of bs) (numbers triples)) table is);
                    below = rw (← plan_p pl) (table_below (plan_of bs) (numbers inputs) (numbers coins) (triples_of (plan_of bs) (numbers triples)) table is (valid bs pl.passes) (rw (plan_n pl) pl.n_low));
                  };
            };
      }

  module _ (set : ℕ) (w : set < 2 ^ h.n) where
    parties_only : All (λ i. (1 ≤ i) × (i ≤ party_count (plan_of bs))) (members set)
    parties_only =
        all-members (λ i. (1 ≤ i) × (i ≤ party_count (plan_of bs))) (members set)
        (λ m q. ((member_in set m q).from, rw (plan_n pl) (member_within h.n set w m q)))

    views_flat : flat_map (view_in (plan_of bs) h table (numbers inputs) (numbers coins) (numbers triples)) (members set) ≡ flat_map (table_view_of (plan_of bs) (numbers inputs) (numbers coins) (triples_of (plan_of bs) (numbers triples))) (members set)
    views_flat =
        flat_map-all (view_in (plan_of bs) h table (numbers inputs) (numbers coins) (numbers triples)) (table_view_of (plan_of bs) (numbers inputs) (numbers coins) (triples_of (plan_of bs) (numbers triples))) (members set)
        (all_map (λ i. (1 ≤ i) × (i ≤ party_count (plan_of bs))) (λ i. view_in (plan_of bs) h table (numbers inputs) (numbers coins) (numbers triples) i ≡ table_view_of (plan_of bs) (numbers inputs) (numbers coins) (triples_of (plan_of bs) (numbers triples)) i) (members set)
        (λ i q. view_flat pl (numbers inputs) (numbers coins) (numbers triples) (triples_of (plan_of bs) (numbers triples)) tabled (triples_each bs h pl (numbers triples) triples_count) table is i q.0 q.1) parties_only)

    views_long : length (flat_map (table_view_of (plan_of bs) (numbers inputs) (numbers coins) (triples_of (plan_of bs) (numbers triples))) (members set)) ≡ view_count (plan_of bs) (members set)
    views_long =
        let ok : Valid (plan_of bs) = valid bs pl.passes in
        ap length (sym (views-table (plan_of bs) ok (numbers inputs) (numbers coins) (numbers triples) (triples_of (plan_of bs) (numbers triples)) full tabled (members set) parties_only))
        ∙ view-count (plan_of bs) ok (numbers inputs) (numbers coins) (numbers triples) (triples_of (plan_of bs) (numbers triples)) full tabled (members set) parties_only

    pub views_done :
        (old new : List ℕ) (at i : ℕ) → length old ≡ width * view_count (plan_of bs) (members set) → Viewed (view_in (plan_of bs) h table (numbers inputs) (numbers coins) (numbers triples)) set old new at i → 16 < i
        → new ≡ bytes_of (flat_map (table_view_of (plan_of bs) (numbers inputs) (numbers coins) (triples_of (plan_of bs) (numbers triples))) (members set))
    views_done old new at i room s l =
        wrote_whole _ old new at (wrote_as _ _ 0 at old new views_flat (views_end _ set old new at i s l)) (omega (arith, views_long))

-- As it is: answers name this set, since the check leaves their goals open by `using` alone.
pub ruleset viewing = (rules, ran, views_all, views_next, views_done)
