-- The table of shares gate by gate: what stands before a gate, and a wire's entry.
--     before-inputs, before-coins, before-triples    what is left of the run's lists at a gate
--     before-wire                                    the wires before a gate are the table's
--     table_at                                       the table's entry at a gate is the gate's share
-- Assumes nothing.
use mathlib.Core.Path.{◌≡◌, refl, sym, ap, ap₂, ◌∙◌}
use mathlib.Core.Bool.{Bool, true, false, cond}
use mathlib.Core.List.{List, [], ◌∷◌, ◌++◌, flat_map}
use Prim.Native.Nat.{ℕ, suc, ◌+◌, ◌*◌, ◌<◌, ◌≤◌}
use native.Mathlib.Nat.{mul-suc}
use native.Mathlib.Omega.{arith}
use lib.ListN.{length, get_or, take, drop, length-append, take-append-drop, get_or-append}
use lib.Seq.{drop-drop, drop-cons, length-take-le, get_or-append_seam, get_or-drop}
use Rattle.numbers.specs.Tables.{count_where}
use Rattle.plan.specs.declared.Gate.{Gate}
use Rattle.plan.specs.Plans.{Plan, is_kind, input_owners_at, coin_owners_at, triple_at}
use Rattle.run_protocol.specs.Ideal.{inputs_taken}
use Rattle.run_protocol.specs.Shares.{Before, wire_at, gate_share, triples_taken, past, past_all, start_of, share_table}
use Rattle.run_protocol.specs.Tables.{before_gate}

module _ (plan : Plan) where
  pub past-append : (gs hs : List Gate) (s : Before) → past_all plan (gs ++ hs) s ≡ past_all plan hs (past_all plan gs s)
  unfolding past_all
  past-append [] hs s = refl
  past-append (g ∷ gs) hs s = past-append gs hs (past plan g s)

  past-inputs : (gs : List Gate) (s : Before) → (past_all plan gs s).inputs ≡ drop (length (flat_map (input_owners_at plan) gs)) s.inputs
  unfolding past_all past inputs_taken flat_map
  past-inputs [] s = refl
  past-inputs (g ∷ gs) s =
      past-inputs gs (past plan g s)
      ∙ drop-drop (length (flat_map (input_owners_at plan) gs)) (length (input_owners_at plan g)) s.inputs
      ∙ ap (λ (k : ℕ). drop k s.inputs) (sym (length-append (input_owners_at plan g) (flat_map (input_owners_at plan) gs)))

  past-coins : (gs : List Gate) (s : Before) → (past_all plan gs s).coins ≡ drop (length (flat_map (coin_owners_at plan) gs)) s.coins
  unfolding past_all past flat_map
  past-coins [] s = refl
  past-coins (g ∷ gs) s =
      past-coins gs (past plan g s)
      ∙ drop-drop (length (flat_map (coin_owners_at plan) gs)) (length (coin_owners_at plan g)) s.coins
      ∙ ap (λ (k : ℕ). drop k s.coins) (sym (length-append (coin_owners_at plan g) (flat_map (coin_owners_at plan) gs)))

  triples-by : (b : Bool) (n : ℕ) → cond b 3 0 + 3 * n ≡ 3 * cond b (suc n) n
  triples-by true n = omega (arith, mul-suc 3 n)
  triples-by false n = omega arith

  past-triples : (gs : List Gate) (s : Before) → (past_all plan gs s).triples ≡ drop (3 * count_where (is_kind 7) gs) s.triples
  unfolding past_all past triples_taken count_where
  past-triples [] s = refl
  past-triples (g ∷ gs) s =
      past-triples gs (past plan g s)
      ∙ drop-drop (3 * count_where (is_kind 7) gs) (cond (is_kind 7 g) 3 0) s.triples
      ∙ ap (λ (k : ℕ). drop k s.triples) (triples-by (is_kind 7 g) (count_where (is_kind 7) gs))

  past-length : (gs : List Gate) (s : Before) → length (past_all plan gs s).env ≡ length s.env + length gs
  unfolding past_all past
  past-length [] s = omega arith
  past-length (g ∷ gs) s = omega (arith, past-length gs (past plan g s), length-append s.env (gate_share plan g s ∷ []))

  -- the wires before stay
  past-wire : (gs : List Gate) (s : Before) (w : ℕ) → w < length s.env → wire_at (past_all plan gs s).env w ≡ wire_at s.env w
  unfolding past_all past wire_at
  past-wire [] s w l = refl
  past-wire (g ∷ gs) s w l =
      past-wire gs (past plan g s) w (omega (arith, length-append s.env (gate_share plan g s ∷ [])))
      ∙ get_or-append s.env (gate_share plan g s ∷ []) (λ x. 0) w l

  -- the next wire
  past_first : (g : Gate) (gs : List Gate) (s : Before) → wire_at (past_all plan (g ∷ gs) s).env (length s.env) ≡ gate_share plan g s
  unfolding past_all past wire_at
  past_first g gs s =
      past-wire gs (past plan g s) (length s.env) (omega (arith, length-append s.env (gate_share plan g s ∷ [])))
      ∙ get_or-append_seam s.env (gate_share plan g s) [] (λ x. 0)

  module _ (xs cs : List ℕ) (tf : List (ℕ → ℕ)) where
    pub before-inputs : (g : ℕ) → (before_gate plan xs cs tf g).inputs ≡ drop (length (flat_map (input_owners_at plan) (take g plan.gates))) xs
    unfolding before_gate start_of
    before-inputs g = past-inputs (take g plan.gates) (start_of xs cs tf)

    pub before-coins : (g : ℕ) → (before_gate plan xs cs tf g).coins ≡ drop (length (flat_map (coin_owners_at plan) (take g plan.gates))) cs
    unfolding before_gate start_of
    before-coins g = past-coins (take g plan.gates) (start_of xs cs tf)

    -- number j of the triple at a gate
    pub before-triples : (g j : ℕ) → wire_at (before_gate plan xs cs tf g).triples j ≡ wire_at tf (triple_at plan g + j)
    unfolding before_gate start_of triple_at wire_at
    before-triples g j =
        ap (λ (l : List (ℕ → ℕ)). get_or l j (λ x. 0)) (past-triples (take g plan.gates) (start_of xs cs tf))
        ∙ get_or-drop (3 * count_where (is_kind 7) (take g plan.gates)) tf j (λ x. 0)

    table-split : (g : ℕ) → share_table plan xs cs tf ≡ (past_all plan (drop g plan.gates) (before_gate plan xs cs tf g)).env
    unfolding share_table before_gate
    table-split g =
        ap (λ (gs : List Gate). (past_all plan gs (start_of xs cs tf)).env) (sym (take-append-drop g plan.gates))
        ∙ ap (λ (s : Before). s.env) (past-append (take g plan.gates) (drop g plan.gates) (start_of xs cs tf))

    before-length : (g : ℕ) → g ≤ length plan.gates → length (before_gate plan xs cs tf g).env ≡ g
    unfolding before_gate start_of
    before-length g l = past-length (take g plan.gates) (start_of xs cs tf) ∙ omega (arith, length-take-le g plan.gates l)

    pub length-table : length (share_table plan xs cs tf) ≡ length plan.gates
    unfolding share_table start_of
    length-table = past-length plan.gates (start_of xs cs tf) ∙ omega arith

    pub before-wire : (g w : ℕ) → g ≤ length plan.gates → w < g → wire_at (before_gate plan xs cs tf g).env w ≡ wire_at (share_table plan xs cs tf) w
    before-wire g w l h =
        sym (ap (λ (e : List (ℕ → ℕ)). wire_at e w) (table-split g) ∙ past-wire (drop g plan.gates) (before_gate plan xs cs tf g) w (omega (arith, before-length g l)))

    pub table_at : (g : ℕ) (d : Gate) → g < length plan.gates → wire_at (share_table plan xs cs tf) g ≡ gate_share plan (get_or plan.gates g d) (before_gate plan xs cs tf g)
    table_at g d l =
        ap₂ (λ (e : List (ℕ → ℕ)) (w : ℕ). wire_at e w) (table-split g ∙ ap (λ (gs : List Gate). (past_all plan gs (before_gate plan xs cs tf g)).env) (drop-cons plan.gates g d l)) (sym (before-length g (omega arith)))
        ∙ past_first (get_or plan.gates g d) (drop (suc g) plan.gates) (before_gate plan xs cs tf g)
