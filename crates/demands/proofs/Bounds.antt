-- How many of everything a plan that passes has.
-- Assumes nothing.
use Rattle.std.proofs.Common.{Ok}
use Prim.Native.Nat.{ℕ, ◌≤◌, ◌<◌}
use mathlib.Core.Path.{◌≡◌}
use mathlib.Core.List.{List}
use native.Mathlib.Omega.{arith}
use lib.ListN.{length}
use Rattle.plan.specs.Plans.{Plan, party_count, input_count, own_input_count, coin_count, own_coin_count, mail_count, sent_count}
use Rattle.plan.specs.File.{plan_check, plan_of}
use Rattle.run_protocol.specs.Rounds.{view_count_of}
use Rattle.run_protocol.proofs.Few as few
use Rattle.run_protocol.proofs.Few.{Few, few-plan}
use Rattle.charge_laws.specs.Charges.{bill_of}
use Rattle.charge_laws.proofs.Parts.{bill_fits}

module _ (bs : List ℕ) (passes : plan_check bs ≡ Ok tt) where
  abbrev plan : Plan
  plan = plan_of bs

  bounds : Few (plan_of bs)
  bounds = few-plan bs passes

  pub outs_few : length plan.outs ≤ 64
  outs_few = bounds.outs

  pub parties-few : party_count plan ≤ 15
  parties-few = bounds.parties

  pub inputs_few : input_count plan ≤ 15360
  inputs_few = few.inputs-few plan bounds

  pub own_few : (i : ℕ) → own_input_count plan i ≤ 1024
  own_few = few.own-inputs-few plan bounds

  pub coins_few : coin_count plan ≤ 645120
  coins_few = few.coins-few plan bounds

  pub own-coins-few : (i : ℕ) → own_coin_count plan i ≤ 43008
  own-coins-few i = omega (arith, few.own-coins-few plan bounds i)

  pub views-few : (i : ℕ) → view_count_of plan i ≤ 131072
  views-few i = omega (arith, few.view-few plan bounds i)

  pub mail-few : (i k : ℕ) → mail_count plan i k ≤ 1024
  mail-few = few.mail-few plan bounds

  pub sent-few : sent_count plan ≤ 4294967295
  sent-few = omega (arith, few.sent-most plan bounds)

  pub bill-few : (price : ℕ) → price ≤ 1000000 → bill_of plan price < 4294967296
  unfolding bill_of
  bill-few price l = bill_fits (sent_count plan) price (few.sent-most plan bounds) l

  pub sent-some : 1 ≤ sent_count plan
  sent-some = few.sent-some plan bounds
