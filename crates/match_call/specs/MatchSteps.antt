-- The matching as the code works it: delta's coefficients once, then the coins of every dealing moved by them.
use Rattle.std.specs.Prelude.{ℕ, ◌+◌, ◌*◌, ◌<◌, ◌≤◌, ◌≡◌, true, length, take, drop, get_or}
use mathlib.Core.List.{List, [], ◌∷◌, ◌++◌, map, tail}
use Rattle.numbers.specs.Bytes.{width, numbers, all_below}
use Rattle.field.specs.Mod.{add, mul}
use Rattle.sharing_laws.specs.Poly.{eval, padded}
use Rattle.sharing_laws.specs.Interp.{delta}
use Rattle.plan.specs.declared.Gate.{Gate}
use Rattle.plan.specs.declared.Gate.TheVariants.{Multiply}
use Rattle.plan.specs.declared.Rule.TheVariants.{Truncation}
use Rattle.plan.specs.declared.Header.{Header}
use Rattle.plan.specs.Plans.{Plan, party_count, point_of, coin_owners_at, coin_count, triple_numbers}
use Rattle.plan.specs.File.{plan_of, gate_at}
use Rattle.plan.specs.Planned.{Planned}
use Rattle.plan_coalition.specs.Coalitions.{members, set_ok}
use Rattle.run_protocol.specs.Shares.{Before, masked_at, gate_share, triples_taken, past, start_of}
use Rattle.run_protocol.specs.Tables.{Tabled}
use Rattle.run_dealings.specs.Rows.{rows_of, Standing, Taking, Spending, Holds}
use Rattle.match_privacy.specs.Matching.{lowest, change_of, zero_matched, with_coins, matched_at, matched_with}
use Rattle.match_moves.specs.Moves.{Lent}
use Rattle.match_moves.specs.Truncations.{Fitted}

-- the t + 1 coefficients of the members' delta, those of X to X^t, and its values at the parties' points
unfoldable pub delta_whole : Plan → ℕ → List ℕ
delta_whole plan set = padded (plan.t + 1) (delta plan.p (map (point_of plan) (members set)))

unfoldable pub delta_tail : Plan → ℕ → List ℕ
delta_tail plan set = tail (delta_whole plan set)

unfoldable pub spares_of : Plan → ℕ → List ℕ
spares_of plan set = map (eval plan.p (delta plan.p (map (point_of plan) (members set)))) plan.points

-- what is worked out once for a matching: delta's coefficients of X to X^t
pub record Equipped (bs : List ℕ) (h : Header) (set : ℕ) (es : List ℕ) : Type 0 where
  pub planned : Planned bs h
  pub set_ok_lem : set_ok (plan_of bs) set ≡ true
  pub coefficients : es ≡ delta_tail (plan_of bs) set

-- and for the multiplies by truncation: the lowest party that is no member, delta's values, and the points that a change is fitted to
pub record Absorbing (bs : List ℕ) (h : Header) (set low : ℕ) (spares : List ℕ) (p t : ℕ) (dealers : List ℕ) : Type 0 where
  pub lowest_is : low ≡ lowest (plan_of bs) (members set)
  pub spares_are : spares ≡ spares_of (plan_of bs) set
  pub fitted : Fitted h (plan_of bs).points p t dealers

-- where gate `gate` multiplies wires a and b by truncation, each masked product changes by the constant of the product's change times delta
pub record Follows (plan : Plan) (ms : List ℕ) (gate : Gate) (s s' : Before) : Type 0 where
  pub masked :
      (a b j : ℕ) → gate ≡ Multiply a b → plan.rule ≡ Truncation
      → masked_at plan (with_coins (zero_matched plan ms (lowest plan ms) (change_of plan s s' a b) s.coins) s') a b (get_or plan.points j 0)
      ≡ add plan.p (masked_at plan s a b (get_or plan.points j 0))
      (mul plan.p (get_or (change_of plan s s' a b) 0 0) (eval plan.p (delta plan.p (map (point_of plan) ms)) (get_or plan.points j 0)))

-- and so at each of these gates, where s and s' stand before them in both runs
unfoldable pub Following : Plan → List ℕ → List Gate → Before → Before → Type 0
Following plan ms [] s s' = Unit
Following plan ms (g ∷ gs) s s' =
    Follows plan ms g s s' × Following plan ms gs (past plan g s) (past plan g (with_coins (matched_at plan ms g s s') s'))

-- what both runs are given: two lists of inputs, the first run's coins, and each run's triples, party by party
pub record Runnable (bs : List ℕ) (h : Header) (set : ℕ) (xs ys coins ts ts' : List ℕ) (room : ℕ) : Type 0 where
  pub set_ok_lem : set_ok (plan_of bs) set ≡ true
  pub first_below : all_below h.field.p (numbers xs) ≡ true
  pub second_below : all_below h.field.p (numbers ys) ≡ true
  pub coins_below : all_below h.field.p (numbers coins) ≡ true
  pub coins_long : length coins ≡ width * coin_count (plan_of bs)
  pub room_long : room ≡ width * coin_count (plan_of bs)
  pub first_triples : length ts ≡ width * (party_count (plan_of bs) * triple_numbers (plan_of bs))
  pub second_triples : length ts' ≡ width * (party_count (plan_of bs) * triple_numbers (plan_of bs))
  pub first_small : all_below h.field.p (numbers ts) ≡ true
  pub second_small : all_below h.field.p (numbers ts') ≡ true

-- the coins `cs` are those of the matched run: for all functions that have both runs' triples at the points, where the runs follow at every gate
pub record MatchedBy (bs : List ℕ) (set : ℕ) (xs ys coins ts ts' cs : List ℕ) : Type 0 where
  pub are :
      (tf tf' : List (ℕ → ℕ)) → Tabled (plan_of bs) (numbers ts) tf → Tabled (plan_of bs) (numbers ts') tf'
      → Following (plan_of bs) (members set) (plan_of bs).gates (start_of (numbers xs) (numbers coins) tf) (start_of (numbers ys) [] tf')
      → cs ≡ matched_with (plan_of bs) (members set) tf tf' (numbers xs) (numbers ys) (numbers coins)

-- the turn of gate g: both lists of inputs, the tables of both runs up to its wire, its coins and the room for the new ones,
-- and both runs' triples, of which `spent` numbers of each party are spent
pub record Turn (bs : List ℕ) (h : Header) (g : ℕ) (xs ys before after : List ℕ) (at : ℕ) (coins out ts ts' : List ℕ) (spent : ℕ) : Type 0 where
  pub gate : g < h.gates
  pub xs_below : all_below h.field.p (numbers xs) ≡ true
  pub ys_below : all_below h.field.p (numbers ys) ≡ true
  pub first : Standing h.field.p h.n g before
  pub second : Standing h.field.p h.n g after
  pub first_room : h.n * h.gates ≤ length before
  pub second_room : h.n * h.gates ≤ length after
  pub first_spending : Spending h.field.p h.n (triples_taken (gate_at bs g)) spent (numbers ts)
  pub second_spending : Spending h.field.p h.n (triples_taken (gate_at bs g)) spent (numbers ts')
  pub lent : Lent h.field.p at (length (coin_owners_at (plan_of bs) (gate_at bs g))) coins out

-- a gate's new coins are written: where s stands before the gate in the first run, and s' in the matched one, they are the matching's.
-- xs and ys are the inputs from this gate on, cs the coins; ts and ts' are both runs' triples
pub record NewCoins (plan : Plan) (ms : List ℕ) (n : ℕ) (gate : Gate) (g : ℕ) (xs ys cs ts ts' : List ℕ) (spent at : ℕ) (before after out out' : List ℕ) (next : ℕ) : Type 0 where
  pub place : next ≡ at + length (coin_owners_at plan gate)
  pub taking : Taking plan gate at (numbers out')
  pub coins :
      (s s' : Before) → Holds plan n g xs cs ts spent before s → Holds plan n g ys s'.coins ts' spent after s' → Follows plan ms gate s s'
      → take next (numbers out') ≡ take at (numbers out) ++ matched_at plan ms gate s s'
  pub shares :
      (s s' : Before) → Holds plan n g xs cs ts spent before s → Holds plan n g ys s'.coins ts' spent after s' → Follows plan ms gate s s'
      → gate_share plan gate (with_coins (drop at (numbers out')) s') ≡ gate_share plan gate (with_coins (matched_at plan ms gate s s') s')

-- what the steps of both tables over gate g take
pub record Both (bs : List ℕ) (h : Header) (g : ℕ) (xs ys before after : List ℕ) (at : ℕ) (coins new ts ts' : List ℕ) (spent : ℕ) : Type 0 where
  pub planned : Planned bs h
  pub gate : g < h.gates
  pub xs_below : all_below h.field.p (numbers xs) ≡ true
  pub ys_below : all_below h.field.p (numbers ys) ≡ true
  pub first : Standing h.field.p h.n g before
  pub second : Standing h.field.p h.n g after
  pub first_room : h.n * h.gates ≤ length before
  pub second_room : h.n * h.gates ≤ length after
  pub first_spending : Spending h.field.p h.n (triples_taken (gate_at bs g)) spent (numbers ts)
  pub second_spending : Spending h.field.p h.n (triples_taken (gate_at bs g)) spent (numbers ts')
  pub first_coins : Taking (plan_of bs) (gate_at bs g) at (numbers coins)
  pub second_coins : Taking (plan_of bs) (gate_at bs g) at (numbers new)

-- one gate of both runs: wire g's rows stand afterwards too, and the gate's new coins
pub record Matched (plan : Plan) (ms : List ℕ) (n : ℕ) (gate : Gate) (g : ℕ) (xs ys cs ts ts' : List ℕ) (spent at : ℕ) (before after out before' after' out' : List ℕ) (next : ℕ) : Type 0 where
  pub place : next ≡ at + length (coin_owners_at plan gate)
  pub taking : Taking plan gate at (numbers out')
  pub first : (s : Before) → Holds plan n g xs cs ts spent before s → take (n * (g + 1)) before' ≡ rows_of plan.points (past plan gate s).env
  pub other : (s' : Before) → Holds plan n g ys s'.coins ts' spent after s' → take (n * (g + 1)) after' ≡ rows_of plan.points (past plan gate (with_coins (drop at (numbers out')) s')).env
  pub second :
      (s s' : Before) → Holds plan n g xs cs ts spent before s → Holds plan n g ys s'.coins ts' spent after s' → Follows plan ms gate s s'
      → take (n * (g + 1)) after' ≡ rows_of plan.points (past plan gate (with_coins (matched_at plan ms gate s s') s')).env
  pub coins :
      (s s' : Before) → Holds plan n g xs cs ts spent before s → Holds plan n g ys s'.coins ts' spent after s' → Follows plan ms gate s s'
      → take next (numbers out') ≡ take at (numbers out) ++ matched_at plan ms gate s s'
