-- What each way through the readers says of their definitions.
--     scanning     what closes the needs of the functions
-- Assumes nothing.
use Rattle.std.proofs.Common.{Option, Some, None}
use Prim.Native.Nat.{ℕ, ◌*◌, ◌<◌, ◌≤◌}
use mathlib.Core.Path.{◌≡◌, ◌∙◌}
use mathlib.Core.Bool.{Bool, true, false}
use mathlib.Core.List.{List, [], ◌∷◌}
use borrow.Author.Rules.{rules}
use borrow.Author.Tests.{not-true, not-false, eq-eqb, ne_eqb}
use Rattle.import_text.specs.declared.Head.{Head}
use Rattle.import_lines.specs.declared.Values.{Values}
use Rattle.import_lines.specs.Places.{line_start, line_over, number_at, word_past, with_number, values_at, NumberRead, SmallValues, ValuesRead}
use Rattle.import_lines.proofs.Reading.{number_below}
use Rattle.import_text.specs.declared.LogicGate.{LogicGate}
use Rattle.import_text.specs.declared.LogicGate.TheVariants.{Xor, And, Inv}
use Rattle.import_text.specs.Scanning.{ended, first_ended, two_named, one_named, two_wires, one_wire, wires_at, gate_at, with_values, values_head, head_at, SmallHead, HeadIs}

-- ---- operations
module _ (a b c : ℕ) (s : List ℕ) (at : ℕ) (p : Option ℕ) (ep : p ≡ word_past (88 ∷ 79 ∷ 82 ∷ []) s at) where
  pub named-xor : (e : ℕ) → p ≡ Some e → Some (Xor a b c, e) ≡ two_named a b c s at
  unfolding two_named first_ended
  named-xor e q = rw (← ep, q)

  module _ (np : p ≡ None) (o : Option ℕ) (eo : o ≡ word_past (65 ∷ 78 ∷ 68 ∷ []) s at) where
    pub named-and : (e : ℕ) → o ≡ Some e → Some (And a b c, e) ≡ two_named a b c s at
    unfolding two_named first_ended ended
    named-and e q = rw (← ep, np, ← eo, q)

    pub named-none : (r : Option (LogicGate × ℕ)) → o ≡ None → r ≡ None → r ≡ two_named a b c s at
    unfolding two_named first_ended ended
    named-none r q n = rw (← ep, np, ← eo, q) n

module _ (a c : ℕ) (s : List ℕ) (at : ℕ) (o : Option ℕ) (eo : o ≡ word_past (73 ∷ 78 ∷ 86 ∷ []) s at) where
  pub named-inv : (e : ℕ) → o ≡ Some e → Some (Inv a c, e) ≡ one_named a c s at
  unfolding one_named ended
  named-inv e q = rw (← eo, q)

  pub named-no : (r : Option (LogicGate × ℕ)) → o ≡ None → r ≡ None → r ≡ one_named a c s at
  unfolding one_named ended
  named-no r q n = rw (← eo, q) n

-- ---- wires
module _ (s : List ℕ) (at : ℕ) (d : Option (ℕ × ℕ)) (hd : NumberRead (number_at s at) d) where
  pub two_none : (r : Option (LogicGate × ℕ)) → d ≡ None → r ≡ None → r ≡ two_wires s at
  unfolding two_wires with_number
  two_none r q n = rw (← hd.eq, q) n

  pub one_none : (r : Option (LogicGate × ℕ)) → d ≡ None → r ≡ None → r ≡ one_wire s at
  unfolding one_wire with_number
  one_none r q n = rw (← hd.eq, q) n

  pub gate-none : (r : Option (LogicGate × ℕ)) → d ≡ None → r ≡ None → r ≡ gate_at s at
  unfolding gate_at with_number
  gate-none r q n = rw (← hd.eq, q) n

  module _ (a e : ℕ) (qd : d ≡ Some (a, e)) (d2 : Option (ℕ × ℕ)) (h2 : NumberRead (number_at s e) d2) where
    pub two-second : (r : Option (LogicGate × ℕ)) → d2 ≡ None → r ≡ None → r ≡ two_wires s at
    unfolding two_wires with_number
    two-second r q n = rw (← hd.eq, qd, ← h2.eq, q) n

    pub one-second : (r : Option (LogicGate × ℕ)) → d2 ≡ None → r ≡ None → r ≡ one_wire s at
    unfolding one_wire with_number
    one-second r q n = rw (← hd.eq, qd, ← h2.eq, q) n

    pub gate_second : (r : Option (LogicGate × ℕ)) → d2 ≡ None → r ≡ None → r ≡ gate_at s at
    unfolding gate_at with_number
    gate_second r q n = rw (← hd.eq, qd, ← h2.eq, q) n

    module _ (b f : ℕ) (q2 : d2 ≡ Some (b, f)) where
      pub one-is : (r : Option (LogicGate × ℕ)) → r ≡ one_named a b s f → r ≡ one_wire s at
      unfolding one_wire with_number
      one-is r er = rw (← hd.eq, qd, ← h2.eq, q2) er

      pub gate-is : (r : Option (LogicGate × ℕ)) → r ≡ wires_at a b s f → r ≡ gate_at s at
      unfolding gate_at with_number
      gate-is r er = rw (← hd.eq, qd, ← h2.eq, q2) er

      module _ (d3 : Option (ℕ × ℕ)) (h3 : NumberRead (number_at s f) d3) where
        pub two-third : (r : Option (LogicGate × ℕ)) → d3 ≡ None → r ≡ None → r ≡ two_wires s at
        unfolding two_wires with_number
        two-third r q n = rw (← hd.eq, qd, ← h2.eq, q2, ← h3.eq, q) n

        pub two_is : (c i : ℕ) (r : Option (LogicGate × ℕ)) → d3 ≡ Some (c, i) → r ≡ two_named a b c s i → r ≡ two_wires s at
        unfolding two_wires with_number
        two_is c i r q er = rw (← hd.eq, qd, ← h2.eq, q2, ← h3.eq, q) er

module _ (r w : ℕ) (s : List ℕ) (at : ℕ) where
  pub wires-set : (w ≡ 1 → ⊥) → None ≡ wires_at r w s at
  unfolding wires_at
  wires-set n = rw (ne_eqb w 1 n)

  pub wires-two : (x : Option (LogicGate × ℕ)) → w ≡ 1 → r ≡ 2 → x ≡ two_wires s at → x ≡ wires_at r w s at
  unfolding wires_at
  wires-two x e f q = rw (eq-eqb w 1 e, eq-eqb r 2 f) q

  pub wires-one : (x : Option (LogicGate × ℕ)) → w ≡ 1 → r ≡ 1 → x ≡ one_wire s at → x ≡ wires_at r w s at
  unfolding wires_at
  wires-one x e f q = rw (e, f) q

  pub wires-other : w ≡ 1 → (r ≡ 2 → ⊥) → (r ≡ 1 → ⊥) → None ≡ wires_at r w s at
  unfolding wires_at
  wires-other e f g = rw (eq-eqb w 1 e, ne_eqb r 2 f, ne_eqb r 1 g)

pub ruleset scanning = (rules, not-true, not-false, named-xor, named-and, named-none, named-inv, named-no, two_none, one_none, gate-none, two-second, one-second, gate_second, one-is, gate-is, two-third, two_is, wires-set, wires-two, wires-one, wires-other)

-- ---- the lines before the gates
values_few : (v : Values) (d r : Option Values) → ValuesRead d r → r ≡ Some v → (v.count < 65536) × (v.total ≤ 65535 * 65535)
unfolding SmallValues
values_few v d r h q = let b = rw q at h.small in (b.few, b.small)

module _ (gates wires : ℕ) (s : List ℕ) (at from : ℕ) (ef : from ≡ line_start s at) (o : Option Values) (ho : ValuesRead (values_at s from) o) where
  pub heads-none : (r : Option Head) → o ≡ None → r ≡ None → HeadIs (values_head gates wires s at) r
  unfolding values_head with_values SmallHead
  heads-none r q n = rw n (record { eq = rw (← ef, ← ho.eq, q); small = tt })

  module _ (v : Values) (qv : o ≡ Some v) (next : ℕ) (en : next ≡ line_start s v.past) (p : Option Values) (hp : ValuesRead (values_at s next) p) where
    pub heads-second : (r : Option Head) → p ≡ None → r ≡ None → HeadIs (values_head gates wires s at) r
    unfolding values_head with_values SmallHead
    heads-second r q n = rw n (record { eq = rw (← ef, ← ho.eq, qv, ← en, ← hp.eq, q); small = tt })

    pub heads-are : (w : Values) → gates < 65536 → wires < 65536 → p ≡ Some w
        → HeadIs (values_head gates wires s at) (Some (record { gates = gates; wires = wires; values = v.count; first = v.first; inputs = v.total; outputs = w.total; at = w.past }))
    unfolding values_head with_values SmallHead
    heads-are w g l q =
        let a = values_few v (values_at s from) o ho qv in
        let b = values_few w (values_at s next) p hp q in
        record {
          eq = rw (← ef, ← ho.eq, qv, ← en, ← hp.eq, q);
          small = record { gates = g; wires = l; values = a.0; inputs = a.1; outputs = b.1 };
        }

module _ (s : List ℕ) (from : ℕ) (ef : from ≡ line_start s 0) (d : Option (ℕ × ℕ)) (hd : NumberRead (number_at s from) d) where
  pub head-none : (r : Option Head) → d ≡ None → r ≡ None → HeadIs (head_at s) r
  unfolding head_at with_number SmallHead
  head-none r q n = rw n (record { eq = rw (← ef, ← hd.eq, q); small = tt })

  module _ (gates e : ℕ) (qd : d ≡ Some (gates, e)) (d2 : Option (ℕ × ℕ)) (h2 : NumberRead (number_at s e) d2) where
    pub head-second : (r : Option Head) → d2 ≡ None → r ≡ None → HeadIs (head_at s) r
    unfolding head_at with_number SmallHead
    head-second r q n = rw n (record { eq = rw (← ef, ← hd.eq, qd, ← h2.eq, q); small = tt })

    module _ (wires f : ℕ) (q2 : d2 ≡ Some (wires, f)) (o : Bool) (eo : o ≡ line_over s f) where
      pub head_more : o ≡ false → HeadIs (head_at s) None
      unfolding head_at with_number SmallHead
      head_more q = record { eq = rw (← ef, ← hd.eq, qd, ← h2.eq, q2, ← eo, q); small = tt }

      pub head-is : (r : Option Head) → o ≡ true → HeadIs (values_head gates wires s f) r → HeadIs (head_at s) r
      unfolding head_at with_number
      head-is r q h = record { eq = h.eq ∙ rw (← ef, ← hd.eq, qd, ← h2.eq, q2, ← eo, q); small = h.small }

pub ruleset heading = (rules, not-true, not-false, number_below, heads-none, heads-second, heads-are, head-none, head-second, head_more, head-is)
