-- Sums worked by hand, as far as they concern a plan: P6, P7, and the plans of P8 to P10.
-- Each table is computed. Of two faults at once the earlier refusal wins.
-- Assumes nothing.
use Rattle.std.proofs.Common.{Ok, Err}
use Prim.Native.Nat.{ℕ, ◌/◌, ◌%◌}
use mathlib.Core.Path.{◌≡◌, refl}
use mathlib.Core.Bool.{true, false}
use mathlib.Core.List.{List, [], ◌∷◌, ◌++◌, map, flat_map}
use lib.ListN.{take, drop}
use Rattle.numbers.specs.Tables.{tab, first_from, first_failing, count_where}
use Rattle.numbers.specs.Bytes.{number_at, word_at}
use Rattle.field.specs.Prime.{divisor_from, divisor_of, is_prime}
use Rattle.plan.specs.Refusals.{Checked}
use Rattle.plan.specs.declared.Refusal.TheVariants as refusal
use Rattle.plan.specs.Refusals.{first_of, and_then, need, unless_found}
use Rattle.plan.specs.declared.Step.TheVariants.{DealInputs, DealProduct, SendOuts}
use Rattle.plan.specs.Plans.{party_count, parties, dealer_count, kind_of, is_kind, kind_count, multiplying, operands_of, is_input_of, wires_from, input_wires, out_wires_of, out_wires, input_owners_at, input_owners, first_dealings, multiply_dealings, dealings_at, coin_owners_at, coin_owners, multiply_steps, steps_at, steps_from, steps, step_at, last_call, input_count, coin_count, own_out_count, received, sent_by, mail_count, written_count, per_multiply, sent_count}
use Rattle.plan.specs.File.{magic, same_bytes, between, layout_for, field_at, gate_start, gate_place, out_place, point_place, gate_of, gate_from, gate_at, out_at, point_at, gate_ok, out_ok, majority_ok, spends_kept, gate_kept, out_kept, majority_kept, found_none, point_apart, point_kept, points_placed, layout_ok, majority_check, points_check, plan_checks, plan_check, plan_of}

-- the contents of a plan of four gates and one out, with its version, n, t, byte 7 and p
contents : ℕ → ℕ → ℕ → ℕ → ℕ → List ℕ
contents version n t seven p =
    80 ∷ 79 ∷ 79 ∷ 76 ∷ version ∷ n ∷ t ∷ seven ∷ p % 256 ∷ p / 256 ∷ 18 ∷ 0 ∷ 4 ∷ 0 ∷ 42 ∷ 0 ∷ 1 ∷ 0 ∷ []

input1 : List ℕ
input1 = 1 ∷ 0 ∷ 1 ∷ 0 ∷ 0 ∷ 0 ∷ []

input2 : List ℕ
input2 = 1 ∷ 0 ∷ 2 ∷ 0 ∷ 0 ∷ 0 ∷ []

multiply : List ℕ
multiply = 5 ∷ 0 ∷ 0 ∷ 0 ∷ 1 ∷ 0 ∷ []

add : List ℕ
add = 2 ∷ 0 ∷ 2 ∷ 0 ∷ 0 ∷ 0 ∷ []

out : List ℕ
out = 3 ∷ 3 ∷ 0 ∷ []

-- K's gates and out
body : List ℕ
body = input1 ++ (input2 ++ (multiply ++ (add ++ out)))

-- plan K with another version, n, t, byte 7 or p
plan : ℕ → ℕ → ℕ → ℕ → ℕ → List ℕ
plan version n t seven p = contents version n t seven p ++ body

pub k : List ℕ
k = plan 1 3 1 0 11

-- P9: n=1, t=0, p=2, one input and its out
single : List ℕ
single = 80 ∷ 79 ∷ 79 ∷ 76 ∷ 1 ∷ 1 ∷ 0 ∷ 0 ∷ 2 ∷ 0 ∷ 18 ∷ 0 ∷ 1 ∷ 0 ∷ 24 ∷ 0 ∷ 1 ∷ 0 ∷ 1 ∷ 0 ∷ 1 ∷ 0 ∷ 0 ∷ 0 ∷ 1 ∷ 0 ∷ 0 ∷ []

pub record Row : Type 0 where
  pub bytes : List ℕ
  pub answer : Checked

row : List ℕ → Checked → Row
row bytes answer = record { bytes = bytes; answer = answer }

-- P6 to P10
pub worked : List Row
worked =
    row k (Ok tt)
    ∷ row single (Ok tt)
    ∷ row (plan 1 2 1 0 11) (Err (refusal.OutputRule 0))
    ∷ row (plan 1 15 7 0 17) (Ok tt)
    ∷ row (plan 1 3 3 0 11) (Err refusal.Threshold)
    ∷ row (contents 1 2 1 0 11 ++ (input1 ++ (input2 ++ (multiply ++ (add ++ (2 ∷ 3 ∷ 0 ∷ [])))))) (Err refusal.Majority)
    ∷ row (plan 1 4 2 0 11) (Err refusal.Majority)
    ∷ row (plan 1 3 1 0 3) (Err refusal.Modulus)
    ∷ row (plan 1 3 1 0 9) (Err refusal.Modulus)
    ∷ row (plan 1 3 1 0 65521) (Ok tt)
    ∷ row (plan 1 3 1 0 65535) (Err refusal.Modulus)
    ∷ []

-- two faults at once
pub faults : List Row
faults =
    row (1 ∷ 1 ∷ []) (Err refusal.Magic)
    ∷ row (80 ∷ plan 5 3 1 0 11) (Err refusal.Magic)
    ∷ row (plan 5 16 1 0 11) (Err refusal.Version)
    ∷ row (plan 0 16 1 0 11) (Err refusal.Version)
    ∷ row (plan 1 0 1 0 11) (Err refusal.Parties)
    ∷ row (plan 1 2 2 0 9) (Err refusal.Threshold)
    ∷ row (plan 1 3 1 1 9) (Err refusal.Modulus)
    ∷ row (contents 1 3 1 1 11 ++ (add ++ (input2 ++ (multiply ++ (add ++ out))))) (Err refusal.Layout)
    ∷ row (contents 1 3 1 0 11 ++ (add ++ (add ++ (multiply ++ (add ++ out))))) (Err (refusal.GateRule 0))
    ∷ row (contents 1 3 1 0 11 ++ (input1 ++ (multiply ++ (multiply ++ (add ++ (0 ∷ 3 ∷ 0 ∷ [])))))) (Err (refusal.GateRule 1))
    ∷ row (contents 1 3 2 0 11 ++ (input1 ++ (input2 ++ (multiply ++ (add ++ (4 ∷ 4 ∷ 0 ∷ [])))))) (Err (refusal.OutputRule 0))
    ∷ row (contents 1 3 2 0 11 ++ (input1 ++ (input2 ++ (input1 ++ (add ++ out))))) (Ok tt)
    ∷ row (contents 1 3 1 0 11 ++ (input1 ++ (input2 ++ (multiply ++ (add ++ (4 ∷ 4 ∷ 0 ∷ [])))))) (Err (refusal.OutputRule 0))
    ∷ []

-- K of version 2: its contents, with where the points stand, gates and out, and points
kept : ℕ → ℕ → List ℕ → List ℕ
kept version place points =
    80 ∷ 79 ∷ 79 ∷ 76 ∷ version ∷ 3 ∷ 1 ∷ 0 ∷ 101 ∷ 0 ∷ 20 ∷ 0 ∷ 4 ∷ 0 ∷ 44 ∷ 0 ∷ 1 ∷ 0 ∷ place ∷ 0 ∷ (body ++ points)

-- site codes as points; 26 for 0, for p, for a point that stands twice, next to each other or not; 25 before 26; 6 for
-- the offset, the length and a file that ends in its contents
pub pointed : List Row
pointed =
    row (kept 2 47 (7 ∷ 0 ∷ 40 ∷ 0 ∷ 3 ∷ 0 ∷ [])) (Ok tt)
    ∷ row (kept 2 47 (7 ∷ 0 ∷ 100 ∷ 0 ∷ 1 ∷ 0 ∷ [])) (Ok tt)
    ∷ row (kept 2 47 (7 ∷ 0 ∷ 0 ∷ 0 ∷ 3 ∷ 0 ∷ [])) (Err refusal.Points)
    ∷ row (kept 2 47 (7 ∷ 0 ∷ 40 ∷ 0 ∷ 101 ∷ 0 ∷ [])) (Err refusal.Points)
    ∷ row (kept 2 47 (7 ∷ 0 ∷ 40 ∷ 1 ∷ 3 ∷ 0 ∷ [])) (Err refusal.Points)
    ∷ row (kept 2 47 (7 ∷ 0 ∷ 7 ∷ 0 ∷ 3 ∷ 0 ∷ [])) (Err refusal.Points)
    ∷ row (kept 2 47 (7 ∷ 0 ∷ 40 ∷ 0 ∷ 7 ∷ 0 ∷ [])) (Err refusal.Points)
    ∷ row (kept 2 45 (7 ∷ 0 ∷ 40 ∷ 0 ∷ 3 ∷ 0 ∷ [])) (Err refusal.Layout)
    ∷ row (kept 2 47 (7 ∷ 0 ∷ 40 ∷ 0 ∷ [])) (Err refusal.Layout)
    ∷ row (kept 1 47 (7 ∷ 0 ∷ 40 ∷ 0 ∷ 3 ∷ 0 ∷ [])) (Err refusal.Layout)
    ∷ row (80 ∷ 79 ∷ 79 ∷ 76 ∷ 2 ∷ 3 ∷ 2 ∷ 0 ∷ 101 ∷ 0 ∷ 20 ∷ 0 ∷ 4 ∷ 0 ∷ 44 ∷ 0 ∷ 1 ∷ 0 ∷ 47 ∷ 0 ∷ (body ++ (7 ∷ 0 ∷ 7 ∷ 0 ∷ 3 ∷ 0 ∷ []))) (Err refusal.Majority)
    ∷ row (plan 2 3 1 0 11) (Err refusal.Layout)
    ∷ row (contents 2 3 1 0 11) (Err refusal.Layout)
    ∷ row (contents 2 3 1 0 11 ++ (0 ∷ [])) (Err refusal.Layout)
    ∷ row (contents 2 3 1 0 9) (Err refusal.Modulus)
    ∷ []

-- K of version 3: four bytes a number; its version, n, t, the four bytes of p, where the outs stand and what follows the contents
wide : ℕ → ℕ → ℕ → List ℕ → ℕ → List ℕ → List ℕ
wide version n t p place rest =
    80 ∷ 79 ∷ 79 ∷ 76 ∷ version ∷ n ∷ t ∷ 0
    ∷ (p ++ (32 ∷ 0 ∷ 0 ∷ 0 ∷ 4 ∷ 0 ∷ 0 ∷ 0 ∷ place ∷ 0 ∷ 0 ∷ 0 ∷ 1 ∷ 0 ∷ 0 ∷ 0 ∷ 75 ∷ 0 ∷ 0 ∷ 0 ∷ rest))

wide_body : List ℕ
wide_body =
    1 ∷ 0 ∷ 1 ∷ 0 ∷ 0 ∷ 0 ∷ 0 ∷ 0 ∷ 0 ∷ 0
    ∷ 1 ∷ 0 ∷ 2 ∷ 0 ∷ 0 ∷ 0 ∷ 0 ∷ 0 ∷ 0 ∷ 0
    ∷ 5 ∷ 0 ∷ 0 ∷ 0 ∷ 0 ∷ 0 ∷ 1 ∷ 0 ∷ 0 ∷ 0
    ∷ 2 ∷ 0 ∷ 2 ∷ 0 ∷ 0 ∷ 0 ∷ 0 ∷ 0 ∷ 0 ∷ 0
    ∷ out

point4 : ℕ → ℕ → List ℕ
point4 low high = low ∷ 0 ∷ high ∷ 0 ∷ []

-- 101 and 65,537 as primes of four bytes, a point above 65,535, versions 4 and 5, and the file that ends in its contents: 6 after 3, 4 and 5
pub third : List Row
third =
    row (wide 3 3 1 (point4 101 0) 72 (wide_body ++ (point4 7 0 ++ (point4 40 0 ++ point4 3 0)))) (Ok tt)
    ∷ row (wide 3 3 1 (point4 1 1) 72 (wide_body ++ (point4 7 0 ++ (point4 0 1 ++ point4 3 0)))) (Ok tt)
    ∷ row (wide 3 3 1 (point4 1 1) 72 (wide_body ++ (point4 7 0 ++ (point4 1 1 ++ point4 3 0)))) (Err refusal.Points)
    ∷ row (wide 3 3 1 (point4 2 1) 72 (wide_body ++ (point4 7 0 ++ (point4 40 0 ++ point4 3 0)))) (Err refusal.Modulus)
    ∷ row (wide 3 3 1 (point4 101 0) 73 (wide_body ++ (point4 7 0 ++ (point4 40 0 ++ point4 3 0)))) (Err refusal.Layout)
    ∷ row (wide 3 3 1 (point4 101 0) 72 (wide_body ++ (point4 7 0 ++ point4 40 0))) (Err refusal.Layout)
    ∷ row (wide 4 3 1 (point4 101 0) 72 (wide_body ++ (point4 7 0 ++ (point4 40 0 ++ point4 3 0)))) (Ok tt)
    ∷ row (wide 5 3 1 (point4 101 0) 72 (wide_body ++ (point4 7 0 ++ (point4 40 0 ++ point4 3 0)))) (Err refusal.Version)
    ∷ row (wide 2 3 1 (point4 101 0) 72 (wide_body ++ (point4 7 0 ++ (point4 40 0 ++ point4 3 0)))) (Err refusal.Layout)
    ∷ row (contents 3 16 1 0 11) (Err refusal.Parties)
    ∷ row (contents 3 3 3 0 11) (Err refusal.Threshold)
    ∷ row (take 18 (wide 3 3 1 (point4 9 0) 72 [])) (Err refusal.Modulus)
    ∷ row (take 18 (wide 3 3 1 (point4 11 0) 72 [])) (Err refusal.Layout)
    ∷ row (take 31 (wide 3 3 1 (point4 11 0) 72 [])) (Err refusal.Layout)
    ∷ []

-- a gate of kind 7: plan K with one in the place of its multiply; wires of its own and later ones, its second byte, and kind 8; 25 as for a multiply, and
-- in a version 3 plan
spend : ℕ → ℕ → ℕ → ℕ → List ℕ
spend kind second a b = kind ∷ second ∷ a ∷ 0 ∷ b ∷ 0 ∷ []

spent_body : List ℕ → List ℕ → List ℕ
spent_body gate o = input1 ++ (input2 ++ (gate ++ (add ++ o)))

wide_spent : List ℕ
wide_spent = take 20 wide_body ++ (7 ∷ 0 ∷ 0 ∷ 0 ∷ 0 ∷ 0 ∷ 1 ∷ 0 ∷ 0 ∷ 0 ∷ drop 30 wide_body)

pub spending : List Row
spending =
    row (contents 1 3 1 0 11 ++ spent_body (spend 7 0 0 1) out) (Ok tt)
    ∷ row (contents 1 3 1 0 11 ++ spent_body (spend 7 0 1 1) out) (Ok tt)
    ∷ row (contents 1 3 1 0 11 ++ spent_body (spend 7 0 0 2) out) (Err (refusal.GateRule 2))
    ∷ row (contents 1 3 1 0 11 ++ spent_body (spend 7 0 3 1) out) (Err (refusal.GateRule 2))
    ∷ row (contents 1 3 1 0 11 ++ spent_body (spend 7 1 0 1) out) (Err (refusal.GateRule 2))
    ∷ row (contents 1 3 1 0 11 ++ spent_body (spend 8 0 0 1) out) (Err (refusal.GateRule 2))
    ∷ row (contents 1 4 2 0 11 ++ spent_body (spend 7 0 0 1) out) (Err refusal.Majority)
    ∷ row (contents 1 2 1 0 11 ++ spent_body (spend 7 0 0 1) (2 ∷ 3 ∷ 0 ∷ [])) (Err refusal.Majority)
    ∷ row (wide 3 3 1 (point4 101 0) 72 (wide_spent ++ (point4 7 0 ++ (point4 40 0 ++ point4 3 0)))) (Ok tt)
    ∷ row (wide 4 3 1 (point4 101 0) 72 (wide_spent ++ (point4 7 0 ++ (point4 40 0 ++ point4 3 0)))) (Ok tt)
    ∷ []

-- so many outs of plan K as its contents say; none is a plan
counted_outs : ℕ → List ℕ → List ℕ
counted_outs o rest = take 16 k ++ (o ∷ 0 ∷ (input1 ++ (input2 ++ (multiply ++ (add ++ rest)))))

pub outless : List Row
outless =
    row (counted_outs 0 []) (Ok tt)
    ∷ row (counted_outs 1 []) (Err refusal.Layout)
    ∷ row (counted_outs 0 out) (Err refusal.Layout)
    ∷ row (counted_outs 2 (out ++ out)) (Ok tt)
    ∷ row (counted_outs 64 (flat_map (λ i. out) (tab (λ i. i) 64))) (Ok tt)
    ∷ row (counted_outs 65 (flat_map (λ i. out) (tab (λ i. i) 65))) (Err refusal.Layout)
    ∷ []

pub rows : List Row
rows = worked ++ (faults ++ (pointed ++ (third ++ (spending ++ outless))))

pub plans_worked : map (λ r. plan_check r.bytes) rows ≡ map (λ r. r.answer) rows
unfolding contents input1 input2 multiply add out body plan k single row worked faults kept pointed wide wide_body point4 third spend spent_body wide_spent spending counted_outs outless rows tab count_where flat_map plan_check first_of and_then plan_checks need unless_found first_failing first_from magic same_bytes between gate_of gate_from gate_at out_at gate_ok out_ok is_kind kind_of multiplying majority_ok spends_kept gate_kept out_kept majority_kept found_none point_apart point_kept points_placed layout_ok majority_check points_check layout_for field_at gate_start gate_place out_place point_place point_at number_at word_at is_prime divisor_of divisor_from
plans_worked = refl

-- one input, then gates of kind 7 alone: gate 341 is the 341st of them, and the next is one too many
pub many_spent : List ℕ
many_spent = contents 1 3 1 0 11 ++ (input1 ++ flat_map (λ i. spend 7 0 0 0) (tab (λ i. i) 342))

pub limit_worked : map (gate_kept many_spent) (1 ∷ 341 ∷ 342 ∷ []) ≡ true ∷ true ∷ false ∷ []
unfolding contents input1 spend many_spent flat_map tab count_where gate_of gate_from gate_at gate_ok is_kind kind_of spends_kept gate_kept layout_for field_at gate_start gate_place number_at word_at between
limit_worked = refl

-- K's steps
pub steps_worked : steps (plan_of k) ≡ DealInputs ∷ DealProduct 2 0 1 ∷ SendOuts ∷ []
unfolding contents input1 input2 multiply add out body plan k plan_of tab layout_for field_at gate_start gate_place out_place point_place gate_of gate_from gate_at out_at point_at number_at word_at multiply_steps steps_at steps_from steps
steps_worked = refl

-- K's inputs, coins and elements sent, and the owners of its coins
pub counts_worked : input_count (plan_of k) ∷ coin_count (plan_of k) ∷ sent_count (plan_of k) ∷ coin_owners (plan_of k) ≡ 2 ∷ 5 ∷ 18 ∷ 1 ∷ 2 ∷ 1 ∷ 2 ∷ 3 ∷ []
unfolding contents input1 input2 multiply add out body plan k plan_of tab count_where party_count parties layout_for field_at gate_start gate_place out_place point_place gate_of gate_from gate_at out_at point_at number_at word_at dealer_count kind_of is_kind kind_count input_owners_at input_owners first_dealings multiply_dealings dealings_at coin_owners_at coin_owners flat_map input_count coin_count per_multiply sent_count
counts_worked = refl

-- what party 3 of K takes and writes in its calls 0 to 3
pub rounds_worked : (map (mail_count (plan_of k) 3) (0 ∷ 1 ∷ 2 ∷ 3 ∷ []) ≡ 0 ∷ 2 ∷ 3 ∷ 3 ∷ []) × (map (written_count (plan_of k) 3) (0 ∷ 1 ∷ 2 ∷ 3 ∷ []) ≡ 0 ∷ 3 ∷ 1 ∷ 1 ∷ [])
unfolding contents input1 input2 multiply add out body plan k plan_of tab count_where party_count layout_for field_at gate_start gate_place out_place point_place gate_of gate_from gate_at out_at point_at number_at word_at dealer_count kind_of is_kind kind_count operands_of is_input_of wires_from input_wires out_wires_of out_wires own_out_count multiply_steps steps_at steps_from steps step_at last_call received sent_by mail_count written_count
rounds_worked = (refl, refl)
