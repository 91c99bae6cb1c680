use native.Mathlib.Omega.{arith}
use Rattle.run_dealings.proofs.CoinLaws.{taking_coins, coins_else}
use Rattle.run_dealings.proofs.coins_taken.Goals as goal

pub returns-in-Input : goal.returns-in-Input
returns-in-Input c = search taking_coins

pub returns-in_default : goal.returns-in_default
returns-in_default c = record { eq = coins_else _ _ c.args.plan.now.planned c.args.gate c.in_default.not-Input c.in_default.not-Multiply c.in_default.not-Random; most = omega arith }

pub returns-in-Random : goal.returns-in-Random
returns-in-Random c = search taking_coins

pub returns-in-Reduction : goal.returns-in-Reduction
returns-in-Reduction c = search taking_coins

pub returns-in-Truncation : goal.returns-in-Truncation
returns-in-Truncation c = search taking_coins
