-- The row of a gate that spends a triple.
--     reading          a number of a party's triple
--     differing        all parties' differences
--     opening          what they open to
--     multiplying      the row
--     taking_triples   how many numbers a gate takes
-- Assumes nothing.
use mathlib.Core.Path.{◌≡◌, refl, sym, ap, ◌∙◌}
use mathlib.Core.Bool.{true}
use mathlib.Core.List.{List}
use Prim.Native.Nat.{ℕ, ◌+◌, ◌*◌, ◌/◌, ◌^◌, ◌<◌, ◌≤◌}
use native.Mathlib.Nat.{mul-div-le}
use native.Mathlib.Omega.{arith}
use borrow.Author.Rules.{rules}
use lib.ListN.{length, take, set, get_or}
use mir.Syntax.{w64}
use mir.Val.{Fits}
use Rattle.numbers.specs.Bytes.{width, numbers, all_below}
use Rattle.numbers.proofs.Tables.{row_room}
use Rattle.numbers.proofs.Bytes.{numbers-length}
use Rattle.numbers.proofs.Below.{all_below_at, all_below-tab}
use Rattle.field.specs.Mod.{sub}
use Rattle.field.specs.Field.{Is, Ready}
use Rattle.field.proofs.Inverse.{pos}
use Rattle.field.proofs.Solve.{canon-lt, sub_canon}
use Rattle.sharing_laws.specs.Sharing.{opened}
use Rattle.sharing_openings.specs.Openable.{Openable}
use Rattle.plan.specs.declared.Gate.{Gate}
use Rattle.plan.specs.declared.Gate.TheVariants.{Input, Add, Scale, Offset, Multiply, Random, Spend}
use Rattle.plan.specs.Plans.{kind_of, is_kind}
use Rattle.seat_messages.specs.Messages.{spent_share}
use Rattle.seat_messages.proofs.SpentLaws.{value_below}
use Rattle.run_protocol.specs.Shares.{triples_taken}
use Rattle.run_dealings.specs.Rows.{triple_in, differences_of, spent_of, Spending}
use Rattle.run_dealings.proofs.RowLaws.{Making, make-none, make-next, made, row_reading}
use Rattle.run_dealings.proofs.TruncationLaws.{part-long}

-- ---- a number of a party's triple
module _ (n at d j : ℕ) (ts : List ℕ) (inside : at + j < length (numbers ts) / n) (l : d < n) where
  counted : length ts / width / n ≡ length (numbers ts) / n
  counted = ap (λ (m : ℕ). m / n) (sym (numbers-length ts))

  within : length ts / width / n * d + (at + j) < length ts / width
  within =
      let each : ℕ = length ts / width / n in
      omega (arith, counted, row_room each d n l, mul-div-le (length ts / width) n)

  pub part-fits : length ts < 2 ^ 63 → Fits w64 (length ts / width / n * d)
  part-fits f = record { fits = omega (arith, within) }

  pub number-fits : length ts < 2 ^ 63 → Fits w64 (at + j)
  number-fits f = record { fits = omega (arith, within) }

  pub triple-fits : length ts < 2 ^ 63 → Fits w64 (length ts / width / n * d + (at + j))
  triple-fits f = record { fits = omega (arith, within) }

  pub triple-read : (r : ℕ) → r ≡ get_or (numbers ts) (length ts / width / n * d + (at + j)) 0 → r ≡ triple_in n (numbers ts) at d j
  unfolding triple_in
  triple-read r e = e ∙ ap (λ (m : ℕ). get_or (numbers ts) (m * d + (at + j)) 0) counted

pub ruleset reading = (rules, part-fits, number-fits, triple-fits, triple-read)

-- ---- all parties' differences
module _ (p n at : ℕ) (ts : List ℕ) (s : Spending p n 3 at ts) where
  pub number_inside : (j : ℕ) → j < 3 → at + j < length ts / n
  number_inside j l = omega (arith, s.room)

  pub triple_below : (d j r : ℕ) → d < n → j < 3 → r ≡ triple_in n ts at d j → r < p
  unfolding triple_in
  triple_below d j r l m e =
      let each : ℕ = length ts / n in
      rw e (all_below_at p ts (each * d + (at + j)) s.below (omega (arith, s.room, row_room each d n l, mul-div-le (length ts) n)))

-- the loop over the parties: d differences stand
pub record Differing (p n w j at : ℕ) (ts table row : List ℕ) (d : ℕ) : Type 0 where
  pub fills : Making (λ i. sub p (get_or table (n * w + i) 0) (triple_in n ts at i j)) n row d

module _ (p n w j at : ℕ) (ts table : List ℕ) where
  pub differ-none : (row : List ℕ) → n ≤ length row → Differing p n w j at ts table row 0
  differ-none row l = record { fills = make-none _ n row l }

  module _ (row : List ℕ) (d : ℕ) (h : Differing p n w j at ts table row d) where
    pub differ-next : (v c : ℕ) → d < n → c ≡ triple_in n ts at d j → Is p (sub p (get_or table (n * w + d) 0) c) v → Differing p n w j at ts table (set row d v) (d + 1)
    differ-next v c l e is = record { fills = make-next _ n row d h.fills v l (is.eq ∙ ap (sub p (get_or table (n * w + d) 0)) e) }

    pub differ-done : n ≤ d → take n row ≡ differences_of p n w j ts at table
    unfolding differences_of
    differ-done l = made _ n row d h.fills l

-- As it is: answers name this set, since the check leaves their goals open by `using` alone.
pub ruleset differing = (row_reading, number_inside, triple_below, differ-none, differ-next, differ-done)

-- ---- what they open to
module _ (p t : ℕ) (points : List ℕ) (w j at : ℕ) (ts table : List ℕ) (few : length points ≤ 15) where
  pub differences-open : (d : List ℕ) → Ready p → t < length points → all_below p points ≡ true → length d ≡ 15
      → take (length points) d ≡ differences_of p (length points) w j ts at table → Openable p t points (take (length points) d)
  unfolding differences_of
  differences-open d r over elements long is = record {
    elements = elements;
    known = rw is (all_below-tab p _ (length points) (λ i l. canon-lt (pos r.prime) (sub_canon _ _)));
    threshold = over;
    few = few;
    each = part-long (length points) d long few;
  }

  pub opening-is : (d : List ℕ) (r : ℕ) → take (length points) d ≡ differences_of p (length points) w j ts at table → Is p (opened p t points (take (length points) d)) r
      → Is p (opened p t points (differences_of p (length points) w j ts at table)) r
  opening-is d r e is = rw e at is

pub ruleset opening = (rules, part-long, differences-open, opening-is)

-- ---- the row
-- the loop over the parties, where the differences open to u and v: i shares stand
pub record Parting (p n a b at : ℕ) (ts table : List ℕ) (u v : ℕ) (row : List ℕ) (i : ℕ) : Type 0 where
  pub fills : Making (λ i. spent_share p (triple_in n ts at i 2) (get_or table (n * a + i) 0) (get_or table (n * b + i) 0) u v) n row i

module _ (p n a b at : ℕ) (ts table : List ℕ) (u v : ℕ) where
  pub part-none : (row : List ℕ) → n ≤ length row → Parting p n a b at ts table u v row 0
  part-none row l = record { fills = make-none _ n row l }

  module _ (row : List ℕ) (i : ℕ) (h : Parting p n a b at ts table u v row i) where
    pub part-next : (c r : ℕ) → i < n → c ≡ triple_in n ts at i 2 → Is p (spent_share p c (get_or table (n * a + i) 0) (get_or table (n * b + i) 0) u v) r
        → Parting p n a b at ts table u v (set row i r) (i + 1)
    part-next c r l e is =
        record { fills = make-next _ n row i h.fills r l (is.eq ∙ ap (λ (k : ℕ). spent_share p k (get_or table (n * a + i) 0) (get_or table (n * b + i) 0) u v) e) }

pub part-done : (p t : ℕ) (points : List ℕ) (a b at : ℕ) (ts table : List ℕ) (u v : ℕ) (row : List ℕ) (i : ℕ) → Parting p (length points) a b at ts table u v row i → length points ≤ i
    → Is p (opened p t points (differences_of p (length points) a 0 ts at table)) u → Is p (opened p t points (differences_of p (length points) b 1 ts at table)) v
    → take (length points) row ≡ spent_of p t points a b ts at table
unfolding spent_of
part-done p t points a b at ts table u v row i h l du dv = rw (← du.eq, ← dv.eq) (made _ (length points) row i h.fills l)

-- As it is: answers name this set, since the check leaves their goals open by `using` alone.
pub ruleset multiplying = (row_reading, number_inside, triple_below, value_below, part-none, part-next, part-done)

-- ---- the numbers that a gate takes
pub takes_three : (gate : Gate) (a b : ℕ) → gate ≡ Spend a b → 3 ≡ triples_taken gate
unfolding triples_taken is_kind kind_of
takes_three gate a b e = rw e refl

pub takes_no : (gate : Gate) → ((a b : ℕ) → gate ≡ Spend a b → ⊥) → 0 ≡ triples_taken gate
unfolding triples_taken is_kind kind_of
takes_no (Input s) n = refl
takes_no (Add a b) n = refl
takes_no (Scale a c) n = refl
takes_no (Offset a c) n = refl
takes_no (Multiply a b) n = refl
takes_no Random n = refl
takes_no (Spend a b) n = absurd (n a b refl)

pub ruleset taking_triples = (rules, takes_three, takes_no)
