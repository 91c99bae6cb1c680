use mathlib.Core.List.{flat_map}
use Rattle.plan.specs.Plans.{coin_owners_at, dealings_at}
use Rattle.count_fill.proofs.OwnerLaws.{gating}
use Rattle.count_fill.proofs.put_owners.Goals as goal

pub put_owner-requires-clause-i_bound : goal.put_owner-requires-clause-i_bound
put_owner-requires-clause-i_bound c = search gating

pub put_owner-requires-clause-k_in_bounds : goal.put_owner-requires-clause-k_in_bounds
put_owner-requires-clause-k_in_bounds c = search gating

pub put_dealers-requires-clause-m_bound : goal.put_dealers-requires-clause-m_bound
put_dealers-requires-clause-m_bound c = search gating

pub put_dealers-requires-clause-m_in_bounds : goal.put_dealers-requires-clause-m_in_bounds
put_dealers-requires-clause-m_in_bounds c = search gating

pub put_dealers-requires-in-Truncation-clause-m_in_bounds : goal.put_dealers-requires-in-Truncation-clause-m_in_bounds
put_dealers-requires-in-Truncation-clause-m_in_bounds c = search gating

pub put_dealers-requires-in-Random-clause-m_in_bounds : goal.put_dealers-requires-in-Random-clause-m_in_bounds
put_dealers-requires-in-Random-clause-m_in_bounds c = search gating

pub returns-in-Input : goal.returns-in-Input
returns-in-Input c = search gating

pub returns-in-Reduction : goal.returns-in-Reduction
returns-in-Reduction c = search gating

pub returns-in-Truncation : goal.returns-in-Truncation
returns-in-Truncation c = search gating

pub returns-in-Random : goal.returns-in-Random
returns-in-Random c = search gating

pub returns-in_default : goal.returns-in_default
unfolding coin_owners_at dealings_at flat_map
returns-in_default c = search gating
