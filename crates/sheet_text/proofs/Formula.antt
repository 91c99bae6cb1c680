-- The value of the wire that a formula's gates make is the formula's value.
-- Assumes nothing.
use Prim.Native.Nat.{ℕ, suc, ◌+◌, ◌-◌, ◌*◌, ◌<◌, ◌≤◌}
use mathlib.Core.Path.{◌≡◌, refl, sym, ap, ◌∙◌}
use mathlib.Core.List.{List, [], ◌∷◌, ◌++◌, append_assoc, append-nil}
use native.Mathlib.Omega.{arith}
use native.Mathlib.Nat.{mod-eq_of_lt, zero-mod, mul-zero, mul-suc}
use Rattle.field.proofs.Solve.{Same, same, same_by, plus, cancel, turn, ◌⨾◌, add_same, mul_same, sub_same, add_canon, sub_canon, canon_same}
use lib.ListN.{length, get_or, drop, length-append, get_or-append}
use lib.Seq.{get_or-append_seam}
use Rattle.field.specs.Mod.{add, mul, sub}
use Rattle.plan.specs.declared.Gate.{Gate}
use Rattle.plan.specs.declared.Gate.TheVariants.{Add, Scale, Offset, Multiply}
use Rattle.plan.specs.Plans.{Plan, input_owners_at}
use Rattle.run_protocol.specs.Ideal.{inputs_taken, gate_value, values_from}
use Rattle.sheet_text.specs.Trees.{Tree, name_index, formula_value, Emitted, ending, emit_number, emit_plus, emit_times, emit_minus, right_after, emit, input_gates}

-- the inputs that gates take
taken : Plan → List Gate → List ℕ → List ℕ
taken plan [] xs = xs
taken plan (g ∷ gs) xs = taken plan gs (drop (inputs_taken plan g) xs)

-- gates after gates
after : (plan : Plan) (gs hs : List Gate) (env xs : List ℕ) → values_from plan (gs ++ hs) env xs ≡ values_from plan hs (values_from plan gs env xs) (taken plan gs xs)
unfolding values_from taken
after plan [] hs env xs = refl
after plan (g ∷ gs) hs env xs = after plan gs hs (env ++ (gate_value plan g env xs ∷ [])) (drop (inputs_taken plan g) xs)

long : (plan : Plan) (gs : List Gate) (env xs : List ℕ) → length (values_from plan gs env xs) ≡ length env + length gs
unfolding values_from
long plan [] env xs = omega arith
long plan (g ∷ gs) env xs =
    omega (arith, long plan gs (env ++ (gate_value plan g env xs ∷ [])) (drop (inputs_taken plan g) xs), length-append env (gate_value plan g env xs ∷ []))

-- all wires of these gates
values : Plan → List ℕ → List Gate → List ℕ
values plan xs gs = values_from plan gs [] xs

values_long : (plan : Plan) (xs : List ℕ) (gs : List Gate) → length (values plan xs gs) ≡ length gs
unfolding values
values_long plan xs gs = omega (arith, long plan gs [] xs)

-- one gate more
one_more : (plan : Plan) (xs : List ℕ) (gs : List Gate) (g : Gate) → values plan xs (gs ++ (g ∷ [])) ≡ values plan xs gs ++ (gate_value plan g (values plan xs gs) (taken plan gs xs) ∷ [])
unfolding values values_from
one_more plan xs gs g = after plan gs (g ∷ []) [] xs

-- wires stay as they are
record Grown (plan : Plan) (xs : List ℕ) (gs hs : List Gate) : Type 0 where
  pub longer : length gs ≤ length hs
  pub kept : (w : ℕ) → w < length gs → get_or (values plan xs hs) w 0 ≡ get_or (values plan xs gs) w 0

same_grown : (plan : Plan) (xs : List ℕ) (gs : List Gate) → Grown plan xs gs gs
same_grown plan xs gs = record { longer = omega arith; kept = λ w l. refl }

then : {plan : Plan} {xs : List ℕ} {fs gs hs : List Gate} → Grown plan xs fs gs → Grown plan xs gs hs → Grown plan xs fs hs
then a b = record { longer = omega (arith, a.longer, b.longer); kept = λ w l. b.kept w (omega (arith, a.longer)) ∙ a.kept w l }

module _ (plan : Plan) (xs : List ℕ) (gs : List Gate) (g : Gate) where
  grown : Grown plan xs gs (ending gs g).gates
  unfolding ending
  grown = record {
    longer = omega (arith, length-append gs (g ∷ []));
    kept = λ w l. ap (λ (v : List ℕ). get_or v w 0) (one_more plan xs gs g) ∙ get_or-append (values plan xs gs) _ 0 w (omega (arith, values_long plan xs gs));
  }

  last-in : (ending gs g).wire < length (ending gs g).gates
  unfolding ending
  last-in = omega (arith, length-append gs (g ∷ []))

  last-value : get_or (values plan xs (ending gs g).gates) (ending gs g).wire 0 ≡ gate_value plan g (values plan xs gs) (taken plan gs xs)
  unfolding ending
  last-value =
      ap (λ (v : List ℕ). get_or v (length gs) 0) (one_more plan xs gs g)
      ∙ ap (λ (k : ℕ). get_or (values plan xs gs ++ (gate_value plan g (values plan xs gs) (taken plan gs xs) ∷ [])) k 0) (sym (values_long plan xs gs))
      ∙ get_or-append_seam (values plan xs gs) _ [] 0

-- what is to be shown of emitted gates: the wires before stay, and the wire holds v
record Makes (plan : Plan) (xs : List ℕ) (gs : List Gate) (e : Emitted) (v : ℕ) : Type 0 where
  pub grows : Grown plan xs gs e.gates
  pub within : e.wire < length e.gates
  pub value : get_or (values plan xs e.gates) e.wire 0 ≡ v

-- the first wires are the figures
record Based (plan : Plan) (xs : List ℕ) (names : List ℕ) (gs : List Gate) : Type 0 where
  pub some : 1 ≤ length names
  pub there : length names ≤ length gs
  pub figures : (i : ℕ) → i < length names → get_or (values plan xs gs) i 0 ≡ get_or xs i 0

based : {plan : Plan} {xs : List ℕ} {names : List ℕ} {gs hs : List Gate} → Grown plan xs gs hs → Based plan xs names gs → Based plan xs names hs
based g b = record { some = b.some; there = omega (arith, g.longer, b.there); figures = λ i l. g.kept i (omega (arith, b.there)) ∙ b.figures i l }

-- numbers are below p, and names are known
unfoldable pub Proper : ℕ → List ℕ → Tree → Type 0
Proper p names (Tree.Number v) = v < p
Proper p names (Tree.Name c) = name_index c names < length names
Proper p names (Tree.Plus l r) = Proper p names l × Proper p names r
Proper p names (Tree.Minus l r) = Proper p names l × Proper p names r
Proper p names (Tree.Times l r) = Proper p names l × Proper p names r

-- a minus is a scale by p - 1, then an add
minus_is : (p u v : ℕ) → 1 ≤ p → add p u (mul p v (p - 1)) ≡ sub p u v
minus_is p u v o = canon_same (add_canon u (mul p v (p - 1))) (sub_canon u v) (cancel v v (same refl) (lhs ⨾ turn (sub_same p u v o)))
  where
    whole : v * (p - 1) + v ≡ v * p
    whole = let e : p ≡ suc (p - 1) = omega arith in sym (ap (λ (k : ℕ). v * k) e ∙ mul-suc v (p - 1))

    lhs : Same p (add p u (mul p v (p - 1)) + v) u
    lhs = plus (add_same p u (mul p v (p - 1)) ⨾ plus (same refl) (mul_same p v (p - 1))) (same refl) ⨾ same_by 0 v (omega (arith, whole))

-- two sides and the gate that joins them
module _ (plan : Plan) (xs : List ℕ) (gs : List Gate) (l r : Emitted) (u v : ℕ) (a : Makes plan xs gs l u) (b : Makes plan xs l.gates r v) where
  left-kept : get_or (values plan xs r.gates) l.wire 0 ≡ u
  left-kept = b.grows.kept l.wire a.within ∙ a.value

  plus-makes : Makes plan xs gs (emit_plus l r) (add plan.p u v)
  unfolding emit_plus gate_value
  plus-makes = record {
    grows = then a.grows (then b.grows (grown plan xs r.gates (Add l.wire r.wire)));
    within = last-in plan xs r.gates (Add l.wire r.wire);
    value = last-value plan xs r.gates (Add l.wire r.wire) ∙ rw (left-kept, b.value);
  }

  times-makes : Makes plan xs gs (emit_times l r) (mul plan.p u v)
  unfolding emit_times gate_value
  times-makes = record {
    grows = then a.grows (then b.grows (grown plan xs r.gates (Multiply l.wire r.wire)));
    within = last-in plan xs r.gates (Multiply l.wire r.wire);
    value = last-value plan xs r.gates (Multiply l.wire r.wire) ∙ rw (left-kept, b.value);
  }

  minus-makes : 1 ≤ plan.p → Makes plan xs gs (emit_minus plan.p l r) (sub plan.p u v)
  unfolding emit_minus gate_value ending
  minus-makes o = record {
    grows = then a.grows (then b.grows (then (grown plan xs r.gates neg) (grown plan xs hs join)));
    within = last-in plan xs hs join;
    value = last-value plan xs hs join ∙ rw (left-stays, negated) (minus_is plan.p u v o);
  }
    where
      neg : Gate
      neg = Scale r.wire (plan.p - 1)

      hs : List Gate
      hs = r.gates ++ (neg ∷ [])

      join : Gate
      join = Add l.wire (length r.gates)

      left-stays : get_or (values plan xs hs) l.wire 0 ≡ u
      left-stays = (grown plan xs r.gates neg).kept l.wire (omega (arith, a.within, b.grows.longer)) ∙ left-kept

      negated : get_or (values plan xs hs) (length r.gates) 0 ≡ mul plan.p v (plan.p - 1)
      negated = last-value plan xs r.gates neg ∙ rw b.value

-- a number is the first input scaled by 0, then offset
number_is : (p a v : ℕ) → v < p → add p (mul p a 0) v ≡ v
unfolding add mul
number_is p a v l = let e : 0 + v ≡ v = omega arith in rw (mul-zero a, zero-mod p, e) (mod-eq_of_lt l)

number_makes : (plan : Plan) (xs : List ℕ) (gs : List Gate) (v : ℕ) → v < plan.p → Makes plan xs gs (emit_number gs v) v
unfolding emit_number gate_value ending
number_makes plan xs gs v l = record {
  grows = then (grown plan xs gs nought) (grown plan xs hs (Offset (length gs) v));
  within = last-in plan xs hs (Offset (length gs) v);
  value = last-value plan xs hs (Offset (length gs) v) ∙ rw scaled (number_is plan.p (get_or (values plan xs gs) 0 0) v l);
}
  where
    nought : Gate
    nought = Scale 0 0

    hs : List Gate
    hs = gs ++ (nought ∷ [])

    scaled : get_or (values plan xs hs) (length gs) 0 ≡ mul plan.p (get_or (values plan xs gs) 0 0) 0
    scaled = last-value plan xs gs nought

-- ---- every formula
module _ (plan : Plan) (xs : List ℕ) (names : List ℕ) (o : 1 ≤ plan.p) where
  makes : (x : Tree) (gs : List Gate) → Proper plan.p names x → Based plan xs names gs → Makes plan xs gs (emit plan.p names x gs) (formula_value plan.p names xs x)
  unfolding emit formula_value Proper right_after
  makes (Tree.Number v) gs h b = number_makes plan xs gs v h
  makes (Tree.Name c) gs h b = record { grows = same_grown plan xs gs; within = omega (arith, h, b.there); value = b.figures (name_index c names) h }
  makes (Tree.Plus l r) gs h b =
      let a = makes l gs h.0 b in
      plus-makes plan xs gs _ _ _ _ a (makes r (emit plan.p names l gs).gates h.1 (based a.grows b))
  makes (Tree.Minus l r) gs h b =
      let a = makes l gs h.0 b in
      minus-makes plan xs gs _ _ _ _ a (makes r (emit plan.p names l gs).gates h.1 (based a.grows b)) o
  makes (Tree.Times l r) gs h b =
      let a = makes l gs h.0 b in
      times-makes plan xs gs _ _ _ _ a (makes r (emit plan.p names l gs).gates h.1 (based a.grows b))

-- ---- the input gates
inputs-values : (plan : Plan) (names : List ℕ) (env xs : List ℕ) → length xs ≡ length names → values_from plan (input_gates names) env xs ≡ env ++ xs
unfolding input_gates values_from gate_value inputs_taken input_owners_at
inputs-values plan [] env [] e = sym (append-nil env)
inputs-values plan [] env (x ∷ xs) e = absurd (omega arith)
inputs-values plan (n ∷ ns) env [] e = absurd (omega arith)
inputs-values plan (n ∷ ns) env (x ∷ xs) e = inputs-values plan ns (env ++ (x ∷ [])) xs (omega arith) ∙ append_assoc env (x ∷ []) xs

pub inputs_long : (names : List ℕ) → length (input_gates names) ≡ length names
unfolding input_gates
inputs_long [] = refl
inputs_long (n ∷ ns) = ap suc (inputs_long ns)

-- the wire of a proper formula's result holds its value
pub formula_wire : (plan : Plan) (xs : List ℕ) (names : List ℕ) (x : Tree) → 1 ≤ plan.p → 1 ≤ length names → length xs ≡ length names → Proper plan.p names x
    → get_or (values_from plan (emit plan.p names x (input_gates names)).gates [] xs) (emit plan.p names x (input_gates names)).wire 0 ≡ formula_value plan.p names xs x
unfolding values
formula_wire plan xs names x o some e h =
    (makes plan xs names o x (input_gates names) h (record {
      some = some;
      there = omega (arith, inputs_long names);
      figures = λ i l. ap (λ (v : List ℕ). get_or v i 0) (inputs-values plan names [] xs e);
    })).value
