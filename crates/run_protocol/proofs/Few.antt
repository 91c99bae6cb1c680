-- How many of everything a plan has that a file may have: at most 15 parties, 1,024 gates and 64 outs.
--     Few, few-plan                        what the bounds ask, and that a plan that passes has it
--     inputs-few .. sent-most              inputs, coins, mail, a party's view, elements
--     sent-some                            something is sent
--     views-most                           the view of at most t parties
-- Assumes nothing.
use Rattle.std.proofs.Common.{Ok}
use Prim.Native.Nat.{ℕ, zero, suc, ◌+◌, ◌*◌, ◌<◌, ◌≤◌}
use mathlib.Core.Path.{◌≡◌, refl}
use mathlib.Core.Logic.{⊎_elim}
use mathlib.Core.Bool.{Bool, true, false, cond}
use mathlib.Core.List.{List, [], ◌∷◌, map}
use native.Mathlib.Nat.{mul-le-mul, mul-add, mul_comm, zero-mul, mul-suc}
use native.Mathlib.Omega.{arith}
use borrow.Author.Tests.{leb-true}
use lib.Dec.{eqb}
use lib.ListN.{length}
use Rattle.numbers.specs.Tables.{count_where, total}
use Rattle.numbers.proofs.Tables.{length-tab}
use Rattle.numbers.proofs.Counts.{count_where-le-length}
use Rattle.plan.specs.declared.Gate.{Gate}
use Rattle.plan.specs.declared.Gate.TheVariants.{Input, Add, Scale, Offset, Multiply, Random, Spend}
use Rattle.plan.specs.declared.Rule.{Rule}
use Rattle.plan.specs.declared.Rule.TheVariants.{Reduction, Truncation}
use Rattle.plan.specs.declared.Step.{Step}
use Rattle.plan.specs.declared.Step.TheVariants.{DealInputs, DealProduct, DealZero, DealMasked, SendTruncated, DealDraws, OpenSpent, SendOuts}
use Rattle.plan.specs.Plans.{Plan, party_count, dealer_count, kind_of, is_kind, operands_of, is_input_of, kind_count, input_owners, coin_owners, input_count, own_input_count, coin_count, own_coin_count, out_wires, own_out_count, step_at, received, mail_count, per_multiply, sent_count}
use Rattle.plan.specs.Kinds.{own_multiply_coins, own_draws, own_random_coins}
use Rattle.plan.specs.File.{between, point_at, n_at, gate_count_at, out_count_at, plan_check, plan_of}
use Rattle.plan.proofs.Planned.{passing, between-true, laid, length_gates, length_outs}
use Rattle.plan.proofs.Valid.{Valid, valid, some-dealt, none_or_majority}
use Rattle.plan.proofs.KindCounts.{own-inputs-of, inputs-of, own-coins-of}
use Rattle.plan.proofs.Wires.{out_wires_few}
use Rattle.run_protocol.specs.Rounds.{view_count_of, view_count}
use Rattle.run_protocol.proofs.ViewCounts.{gate_mail, view-count-by, coins-by-mail}

pub record Few (plan : Plan) : Type 0 where
  pub valid : Valid plan
  pub parties : party_count plan ≤ 15
  pub gates : length plan.gates ≤ 1024
  pub outs : length plan.outs ≤ 64
  -- something is dealt
  pub dealt : 1 ≤ kind_count plan 1 + kind_count plan 6

pub few-plan : (bs : List ℕ) → plan_check bs ≡ Ok tt → Few (plan_of bs)
few-plan bs passes =
    let c = passing bs passes in
    let l = laid bs c.layout in
    record {
      valid = valid bs passes;
      parties = unfold plan_of in unfold party_count in omega (arith, length-tab (point_at bs) (n_at bs), (between-true 1 15 (n_at bs) c.parties).1);
      gates = omega (arith, length_gates bs, (between-true 1 1024 (gate_count_at bs) l.gates).1);
      outs = omega (arith, length_outs bs, leb-true (out_count_at bs) 64 l.outs);
      dealt = some-dealt bs passes;
    }

-- ---- a gate has one kind
kinds-apart : (gs : List Gate) → count_where (is_kind 1) gs + count_where (is_kind 5) gs + count_where (is_kind 6) gs + count_where (is_kind 7) gs ≤ length gs
unfolding count_where is_kind kind_of
kinds-apart [] = omega arith
kinds-apart (Input s ∷ gs) = omega (arith, kinds-apart gs)
kinds-apart (Add a b ∷ gs) = omega (arith, kinds-apart gs)
kinds-apart (Scale a c ∷ gs) = omega (arith, kinds-apart gs)
kinds-apart (Offset a c ∷ gs) = omega (arith, kinds-apart gs)
kinds-apart (Multiply a b ∷ gs) = omega (arith, kinds-apart gs)
kinds-apart (Random ∷ gs) = omega (arith, kinds-apart gs)
kinds-apart (Spend a b ∷ gs) = omega (arith, kinds-apart gs)

-- party i's inputs are of kind 1
own-few : (i : ℕ) (gs : List Gate) → count_where (is_input_of i) gs ≤ count_where (is_kind 1) gs
unfolding count_where is_input_of operands_of is_kind kind_of
own-few i [] = omega arith
own-few i (Input s ∷ gs) = by (eqb i s) (own-few i gs)
  where
    by : (b : Bool) → count_where (is_input_of i) gs ≤ count_where (is_kind 1) gs → cond b (suc (count_where (is_input_of i) gs)) (count_where (is_input_of i) gs) ≤ suc (count_where (is_kind 1) gs)
    by true h = omega arith
    by false h = omega arith
own-few i (Add a b ∷ gs) = own-few i gs
own-few i (Scale a c ∷ gs) = own-few i gs
own-few i (Offset a c ∷ gs) = own-few i gs
own-few i (Multiply a b ∷ gs) = own-few i gs
own-few i (Random ∷ gs) = own-few i gs
own-few i (Spend a b ∷ gs) = own-few i gs

if-most : (b : Bool) (c : ℕ) → cond b c 0 ≤ c
if-most true c = omega arith
if-most false c = omega arith

times : (a b k : ℕ) → a ≤ b → a * k ≤ b * k
times a b k l = mul-le-mul {n₁ = a} {m₁ = k} {n₂ = b} {m₂ = k} l (omega arith)

total-most : (f : ℕ → ℕ) (b : ℕ) (is : List ℕ) → ((i : ℕ) → f i ≤ b) → total (map f is) ≤ b * length is
unfolding total
total-most f b [] h = omega arith
total-most f b (i ∷ is) h = omega (arith, h i, total-most f b is h, mul-suc b (length is))

module _ (plan : Plan) (few : Few plan) where
  pub threshold-few : plan.t ≤ 14
  threshold-few = omega (arith, few.valid.threshold, few.parties)

  kinds-few : kind_count plan 1 + kind_count plan 5 + kind_count plan 6 + kind_count plan 7 ≤ 1024
  unfolding kind_count
  kinds-few = omega (arith, few.gates, kinds-apart plan.gates)

  pub kind-few : (k : ℕ) → kind_count plan k ≤ 1024
  unfolding kind_count
  kind-few k = omega (arith, few.gates, count_where-le-length (is_kind k) plan.gates)

  -- ---- inputs: a gate takes one of a party
  pub inputs-few : input_count plan ≤ 15360
  unfolding input_count input_owners kind_count
  inputs-few =
      omega (arith, inputs-of plan plan.gates, kinds-apart plan.gates, few.gates, times (party_count plan) 15 (count_where (is_kind 6) plan.gates) few.parties)

  pub own-inputs-few : (i : ℕ) → own_input_count plan i ≤ 1024
  unfolding own_input_count input_owners own_draws
  own-inputs-few i =
      let d : ℕ = cond (between 1 (party_count plan) i) 1 0 in
      omega (
        arith,
        own-inputs-of plan i plan.gates,
        own-few i plan.gates,
        kinds-apart plan.gates,
        few.gates,
        times d 1 (count_where (is_kind 6) plan.gates) (if-most (between 1 (party_count plan) i) 1),
      )

  -- ---- of gates that bring a party m numbers and take c of its coins at most
  module _ (c m : ℕ) (low : plan.t ≤ c) (coins : (i : ℕ) → own_multiply_coins plan plan.rule i * kind_count plan 5 ≤ c * kind_count plan 5)
      (brought : kind_count plan 5 * per_multiply plan plan.rule ≤ m * kind_count plan 5) (opened : kind_count plan 7 * (2 * party_count plan) ≤ m * kind_count plan 7) (some : 15 ≤ m) where
    own-coins-by : (i : ℕ) → own_coin_count plan i ≤ c * 1024
    unfolding own_coin_count coin_owners kind_count own_random_coins
    own-coins-by i =
        let a : ℕ = count_where (is_input_of i) plan.gates in
        let b : ℕ = count_where (is_kind 5) plan.gates in
        let d : ℕ = count_where (is_kind 6) plan.gates in
        let r : ℕ = cond (between 1 (party_count plan) i) plan.t 0 in
        let all : c * (a + b + d) ≤ c * 1024 = mul-le-mul {n₁ = c} {m₁ = a + b + d} {n₂ = c} {m₂ = 1024} (omega arith) (omega (arith, own-few i plan.gates, kinds-apart plan.gates, few.gates)) in
        omega (
          arith,
          own-coins-of plan i plan.gates,
          times plan.t c a low,
          coins i,
          times r c d (omega (arith, if-most (between 1 (party_count plan) i) plan.t, low)),
          all,
          mul-add c (a + b) d,
          mul-add c a b,
        )

    mail-by : gate_mail plan ≤ m * 1024
    mail-by =
        let a : ℕ = kind_count plan 1 in
        let b : ℕ = kind_count plan 5 in
        let d : ℕ = kind_count plan 6 in
        let e : ℕ = kind_count plan 7 in
        let all : m * (a + b + d + e) ≤ m * 1024 = mul-le-mul {n₁ = m} {m₁ = a + b + d + e} {n₂ = m} {m₂ = 1024} (omega arith) kinds-few in
        omega (
          arith,
          brought,
          opened,
          times 1 m a (omega (arith, some)),
          times (party_count plan) m d (omega (arith, few.parties, some)),
          mul_comm d (party_count plan),
          all,
          mul-add m (a + b + d) e,
          mul-add m (a + b) d,
          mul-add m a b,
        )

  -- ---- without a gate that multiplies, or with t below 8
  multiply-coins-most : (rule : Rule) (i : ℕ) → own_multiply_coins plan rule i ≤ 3 * plan.t
  unfolding own_multiply_coins
  multiply-coins-most Reduction i = omega (arith, if-most (between 1 (dealer_count plan) i) plan.t)
  multiply-coins-most Truncation i = if-most (between 1 (party_count plan) i) (3 * plan.t)

  multiply-most : (rule : Rule) → plan.t + plan.t < party_count plan → per_multiply plan rule ≤ 45
  unfolding per_multiply dealer_count
  multiply-most Reduction two = omega (arith, few.parties)
  multiply-most Truncation two = omega (arith, few.parties)

  module _ (none : (kind_count plan 5 ≡ 0) × (kind_count plan 7 ≡ 0)) where
    unmultiplied : (x : ℕ) → x * kind_count plan 5 ≡ 0
    unmultiplied x = rw none.0 (omega (arith, mul_comm x 0, zero-mul x))

    unspent : kind_count plan 7 * (2 * party_count plan) ≤ 15 * kind_count plan 7
    unspent = rw none.1 (omega (arith, zero-mul (2 * party_count plan)))

    coins-without : (i : ℕ) → own_coin_count plan i ≤ 14336
    coins-without i =
        omega (arith, own-coins-by 14 15 threshold-few (λ i. omega (arith, unmultiplied (own_multiply_coins plan plan.rule i))) (omega (arith, unmultiplied (per_multiply plan plan.rule), mul_comm (kind_count plan 5) (per_multiply plan plan.rule))) unspent (omega arith) i)

    mail-without : gate_mail plan ≤ 15360
    mail-without =
        omega (arith, mail-by 14 15 threshold-few (λ i. omega (arith, unmultiplied (own_multiply_coins plan plan.rule i))) (omega (arith, unmultiplied (per_multiply plan plan.rule), mul_comm (kind_count plan 5) (per_multiply plan plan.rule))) unspent (omega arith))

  module _ (two : plan.t + plan.t < party_count plan) where
    coins-held : (i : ℕ) → own_multiply_coins plan plan.rule i * kind_count plan 5 ≤ 21 * kind_count plan 5
    coins-held i = times (own_multiply_coins plan plan.rule i) 21 (kind_count plan 5) (omega (arith, multiply-coins-most plan.rule i, few.parties, two))

    pieces-brought : kind_count plan 5 * per_multiply plan plan.rule ≤ 45 * kind_count plan 5
    pieces-brought = omega (arith, times (per_multiply plan plan.rule) 45 (kind_count plan 5) (multiply-most plan.rule two), mul_comm (kind_count plan 5) (per_multiply plan plan.rule))

    openings-brought : kind_count plan 7 * (2 * party_count plan) ≤ 45 * kind_count plan 7
    openings-brought = omega (arith, times (2 * party_count plan) 45 (kind_count plan 7) (omega (arith, few.parties)), mul_comm (kind_count plan 7) (2 * party_count plan))

    coins-with : (i : ℕ) → own_coin_count plan i ≤ 21504
    coins-with i = omega (arith, own-coins-by 21 45 (omega (arith, few.parties, two)) coins-held pieces-brought openings-brought (omega arith) i)

    mail-with : gate_mail plan ≤ 46080
    mail-with = omega (arith, mail-by 21 45 (omega (arith, few.parties, two)) coins-held pieces-brought openings-brought (omega arith))

  pub mail-most : gate_mail plan ≤ 46080
  mail-most = ⊎_elim (λ z. omega (arith, mail-without z)) mail-with (none_or_majority plan few.valid)

  pub own-coins-few : (i : ℕ) → own_coin_count plan i ≤ 21504
  own-coins-few i = ⊎_elim (λ z. omega (arith, coins-without z i)) (λ two. coins-with two i) (none_or_majority plan few.valid)

  pub coins-few : coin_count plan ≤ 645120
  coins-few =
      omega (arith, coins-by-mail plan, mul-le-mul {n₁ = plan.t} {m₁ = gate_mail plan} {n₂ = 14} {m₂ = 46080} threshold-few mail-most)

  -- ---- outs and mail
  pub own-outs-few : (i : ℕ) → own_out_count plan i ≤ 64
  unfolding own_out_count out_wires
  own-outs-few i = omega (arith, few.outs, out_wires_few i plan.outs)

  pub shares-few : (i : ℕ) → party_count plan * own_out_count plan i ≤ 960
  shares-few i = mul-le-mul {n₁ = party_count plan} {m₁ = own_out_count plan i} {n₂ = 15} {m₂ = 64} few.parties (own-outs-few i)

  dealers-few : dealer_count plan ≤ 29
  unfolding dealer_count
  dealers-few = omega (arith, threshold-few)

  received-few : (i : ℕ) (s : Step) → received plan i s ≤ 1024
  unfolding received
  received-few i DealInputs = kind-few 1
  received-few i (DealProduct g a b) = omega (arith, dealers-few)
  received-few i (DealZero g) = omega (arith, few.parties)
  received-few i (DealMasked g a b) = omega (arith, few.parties)
  received-few i (SendTruncated g) = omega (arith, few.parties)
  received-few i (DealDraws g) = omega (arith, few.parties)
  received-few i (OpenSpent g a b) = omega (arith, few.parties)
  received-few i SendOuts = omega (arith, shares-few i)

  pub mail-few : (i k : ℕ) → mail_count plan i k ≤ 1024
  unfolding mail_count
  mail-few i zero = omega arith
  mail-few i (suc k) = received-few i (step_at plan k)

  -- ---- views
  view-by : (i c m : ℕ) → own_coin_count plan i ≤ c → gate_mail plan ≤ m → view_count_of plan i ≤ 2048 + c + m
  view-by i c m l h = omega (arith, view-count-by plan i, own-inputs-few i, shares-few i, own-outs-few i)

  pub view-few : (i : ℕ) → view_count_of plan i ≤ 69632
  view-few i = omega (arith, view-by i 21504 46080 (own-coins-few i) mail-most)

  pub views-most : (is : List ℕ) → length is ≤ plan.t → view_count plan is ≤ 524288
  unfolding view_count
  views-most is l =
      ⊎_elim
      (λ (z : (kind_count plan 5 ≡ 0) × (kind_count plan 7 ≡ 0)).
      omega (arith, total-most (view_count_of plan) 31744 is (λ i. omega (arith, view-by i 14336 15360 (coins-without z i) (mail-without z))), l, threshold-few))
      (λ (two : plan.t + plan.t < party_count plan). omega (arith, total-most (view_count_of plan) 69632 is view-few, l, two, few.parties))
      (none_or_majority plan few.valid)

  -- ---- elements
  pub sent-by-mail : sent_count plan ≡ party_count plan * (gate_mail plan + length plan.outs)
  unfolding sent_count
  sent-by-mail = refl

  pub sent-most : sent_count plan ≤ 692160
  sent-most =
      omega (
        arith,
        sent-by-mail,
        mul-le-mul {n₁ = party_count plan} {m₁ = gate_mail plan + length plan.outs} {n₂ = 15} {m₂ = 46144} few.parties (omega (arith, mail-most, few.outs)),
      )

  pub sent-some : 1 ≤ sent_count plan
  sent-some =
      let n : ℕ = party_count plan in
      let drawn : kind_count plan 6 * 1 ≤ kind_count plan 6 * n = mul-le-mul {n₁ = kind_count plan 6} {m₁ = 1} {n₂ = kind_count plan 6} {m₂ = n} (omega arith) (omega (arith, few.valid.threshold)) in
      let mail : 1 ≤ gate_mail plan + length plan.outs = omega (arith, few.dealt, drawn) in
      omega (arith, sent-by-mail, mul-le-mul {n₁ = 1} {m₁ = 1} {n₂ = n} {m₂ = gate_mail plan + length plan.outs} (omega (arith, few.valid.threshold)) mail)
