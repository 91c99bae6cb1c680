-- A plan that passes, with its contents: what the functions over a plan ask of their caller.
use Rattle.std.specs.Prelude.{Ok, ℕ, ◌≤◌, ◌<◌, ◌≡◌, List, length}
use Rattle.plan.specs.declared.Header.{Header}
use Rattle.plan.specs.declared.Layout.{Layout}
use Rattle.plan.specs.File.{version_at, rule_for, layout_of, gate_place, plan_check, n_at, t_at, p_at, gate_count_at, out_count_at}

-- the contents that a file's bytes say
pub record HeaderOf (bs : List ℕ) (h : Header) : Type 0 where
  pub n : h.n ≡ n_at bs
  pub t : h.t ≡ t_at bs
  pub p : h.field.p ≡ p_at bs
  pub gates : h.gates ≡ gate_count_at bs
  pub outs : h.outs ≡ out_count_at bs
  pub rule : h.rule ≡ rule_for (version_at bs)

-- the bounds follow from the first two fields; they stand here for arithmetic to find
pub record Planned (bs : List ℕ) (h : Header) : Type 0 where
  pub passes : plan_check bs ≡ (Ok tt)
  pub is : HeaderOf bs h
  pub n_low : 1 ≤ h.n
  pub n-high : h.n ≤ 15
  pub threshold : h.t < h.n
  pub p_low : h.n < h.field.p
  pub p-high : h.field.p < 2147483648
  pub gates_low : 1 ≤ h.gates
  pub gates-high : h.gates ≤ 1024
  pub outs-high : h.outs ≤ 64

-- the file has all bytes of its first so many gates, and this layout
pub record Gated (bs : List ℕ) (l : Layout) (count : ℕ) : Type 0 where
  pub is : l ≡ layout_of bs
  pub high : l.head ≤ 32
  pub narrow : l.field ≤ 4
  pub few : count ≤ 4294967296
  pub long : gate_place bs count ≤ length bs
