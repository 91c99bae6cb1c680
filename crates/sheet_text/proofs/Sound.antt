-- The gates that a formula makes: each keeps its rule, and only the input gates take figures.
--     emit_long, made_long                      how many
--     made-gates, made-wire                     rules
--     made_kinds                                kinds that a file may have
--     made_count, made-own                      figures
-- Assumes nothing.
use Prim.Native.Nat.{ℕ, zero, suc, ◌+◌, ◌-◌, ◌<◌, ◌≤◌}
use mathlib.Core.Path.{◌≡◌, refl, ap, ◌∙◌}
use mathlib.Core.Bool.{Bool, true, false, ◌&&◌}
use mathlib.Core.List.{List, [], ◌∷◌, ◌++◌, map, flat_map}
use native.Mathlib.Omega.{arith}
use borrow.Author.Tests.{lt-ltb, le-leb, ltb-true, ltb-false}
use lib.Dec.{ltb}
use lib.ListN.{length, get_or, length-append, get_or-append}
use lib.Seq.{get_or-append_seam}
use Rattle.plan.specs.declared.Gate.{Gate}
use Rattle.plan.specs.declared.Gate.TheVariants.{Input, Add, Scale, Offset, Multiply}
use Rattle.plan.specs.Plans.{Plan, kind_of, input_owners_at, input_owners, own_of, own_inputs, input_count}
use Rattle.plan.specs.File.{between, gate_ok}
use Rattle.plan_file.specs.Bodies.{plan_with}
use Rattle.sheet_text.specs.Trees.{Tree, party_of, names_of, Emitted, ending, emit_number, emit_plus, emit_times, emit_minus, right_after, emit, input_gates, gate_count}
use Rattle.sheet_text.specs.Making.{tree_made, bodies_with, tree_bodies}
use Rattle.sheet_text.proofs.Formula.{Proper, inputs_long}
use Rattle.sheet_text.proofs.Proper.{Below, Parties, tree_proper, tree-parties}

-- ---- how many
one_long : (gs : List Gate) (g : Gate) → length (gs ++ (g ∷ [])) ≡ suc (length gs)
one_long gs g = length-append gs (g ∷ []) ∙ omega arith

pub emit_long : (p : ℕ) (names : List ℕ) (x : Tree) (gs : List Gate) → length (emit p names x gs).gates ≡ length gs + gate_count x
unfolding emit right_after emit_number emit_plus emit_times emit_minus ending gate_count
emit_long p names (Tree.Number v) gs = omega (arith, one_long (gs ++ (Scale 0 0 ∷ [])) (Offset (length gs) v), one_long gs (Scale 0 0))
emit_long p names (Tree.Name x) gs = omega arith
emit_long p names (Tree.Plus l r) gs =
    let a = emit p names l gs in let b = emit p names r a.gates in
    omega (arith, one_long b.gates (Add a.wire b.wire), emit_long p names l gs, emit_long p names r a.gates)
emit_long p names (Tree.Minus l r) gs =
    let a = emit p names l gs in let b = emit p names r a.gates in
    omega (arith, one_long (b.gates ++ (Scale b.wire (p - 1) ∷ [])) (Add a.wire (length b.gates)), one_long b.gates (Scale b.wire (p - 1)), emit_long p names l gs, emit_long p names r a.gates)
emit_long p names (Tree.Times l r) gs =
    let a = emit p names l gs in let b = emit p names r a.gates in
    omega (arith, one_long b.gates (Multiply a.wire b.wire), emit_long p names l gs, emit_long p names r a.gates)

pub made_long : (p : ℕ) (x : Tree) → length (tree_made p x).gates ≡ length (names_of x) + gate_count x
unfolding tree_made
made_long p x = emit_long p (names_of x) x (input_gates (names_of x)) ∙ omega (arith, inputs_long (names_of x))

-- ---- rules
module _ (n p : ℕ) where
  -- every gate keeps its rule
  record Kept (gs : List Gate) : Type 0 where
    rule : (g : ℕ) → g < length gs → gate_ok n p g (get_or gs g (Input 0)) ≡ true

  kept_more : (gs : List Gate) (x : Gate) → Kept gs → gate_ok n p (length gs) x ≡ true → Kept (gs ++ (x ∷ []))
  kept_more gs x k h = record { rule = λ g l. by g (ltb g (length gs)) refl (omega (arith, one_long gs x)) }
    where
      by : (g : ℕ) (t : Bool) → ltb g (length gs) ≡ t → g ≤ length gs → gate_ok n p g (get_or (gs ++ (x ∷ [])) g (Input 0)) ≡ true
      by g true e l = rw (get_or-append gs (x ∷ []) (Input 0) g (ltb-true g (length gs) e)) (k.rule g (ltb-true g (length gs) e))
      by g false e l =
          let s : g ≡ length gs = omega (arith, ltb-false g (length gs) e) in
          rw (s, get_or-append_seam gs x [] (Input 0)) h

  input_ok : (g s : ℕ) → 1 ≤ s → s ≤ n → gate_ok n p g (Input s) ≡ true
  unfolding gate_ok between
  input_ok g s a b = rw (le-leb 1 s a, le-leb s n b)

  inputs-kept : (names : List ℕ) → Parties n names → (g : ℕ) → g < length (input_gates names) → (h : ℕ) → gate_ok n p h (get_or (input_gates names) g (Input 0)) ≡ true
  unfolding input_gates Parties
  inputs-kept [] k g l h = absurd (omega arith)
  inputs-kept (x ∷ names) k zero l h = input_ok h (party_of x) k.0.0 k.0.1
  inputs-kept (x ∷ names) k (suc g) l h = inputs-kept names k.1 g (omega arith) h

  two_ok : (a b g h : ℕ) → a < g → b < h → (ltb a g && ltb b h) ≡ true
  two_ok a b g h l m = rw (lt-ltb a g l, lt-ltb b h m)

  -- the gates after emitting
  record Emits (gs : List Gate) (e : Emitted) : Type 0 where
    kept : Kept e.gates
    longer : length gs ≤ length e.gates
    within : e.wire < length e.gates

  emits_one : (fs gs : List Gate) (x : Gate) → Kept gs → length fs ≤ length gs → gate_ok n p (length gs) x ≡ true → Emits fs (ending gs x)
  unfolding ending
  emits_one fs gs x k l h = record { kept = kept_more gs x k h; longer = omega (arith, one_long gs x); within = omega (arith, one_long gs x) }

  module _ (names : List ℕ) (one : 1 ≤ p) (some : 1 ≤ length names) where
    emits : (x : Tree) (gs : List Gate) → Proper p names x → length names ≤ length gs → Kept gs → Emits gs (emit p names x gs)
    unfolding emit right_after emit_number emit_plus emit_times emit_minus ending Proper gate_ok
    emits (Tree.Number v) gs h l k =
        emits_one gs (gs ++ (Scale 0 0 ∷ [])) (Offset (length gs) v)
        (kept_more gs (Scale 0 0) k (two_ok 0 0 (length gs) p (omega arith) (omega arith))) (omega (arith, one_long gs (Scale 0 0)))
        (two_ok (length gs) v (length (gs ++ (Scale 0 0 ∷ []))) p (omega (arith, one_long gs (Scale 0 0))) h)
    emits (Tree.Name x) gs h l k = record { kept = k; longer = omega arith; within = omega (arith, h) }
    emits (Tree.Plus x y) gs h l k =
        let a = emits x gs h.0 l k in
        let b = emits y (emit p names x gs).gates h.1 (omega (arith, a.longer)) a.kept in
        emits_one gs _ (Add (emit p names x gs).wire (emit p names y (emit p names x gs).gates).wire) b.kept (omega (arith, a.longer, b.longer))
        (two_ok (emit p names x gs).wire (emit p names y (emit p names x gs).gates).wire _ _ (omega (arith, a.within, b.longer)) b.within)
    emits (Tree.Times x y) gs h l k =
        let a = emits x gs h.0 l k in
        let b = emits y (emit p names x gs).gates h.1 (omega (arith, a.longer)) a.kept in
        emits_one gs _ (Multiply (emit p names x gs).wire (emit p names y (emit p names x gs).gates).wire) b.kept (omega (arith, a.longer, b.longer))
        (two_ok (emit p names x gs).wire (emit p names y (emit p names x gs).gates).wire _ _ (omega (arith, a.within, b.longer)) b.within)
    emits (Tree.Minus x y) gs h l k =
        let a = emits x gs h.0 l k in
        let b = emits y (emit p names x gs).gates h.1 (omega (arith, a.longer)) a.kept in
        let r : Emitted = emit p names y (emit p names x gs).gates in
        let neg : Gate = Scale r.wire (p - 1) in
        let m = one_long r.gates neg in
        emits_one gs (r.gates ++ (neg ∷ [])) (Add (emit p names x gs).wire (length r.gates))
        (kept_more r.gates neg b.kept (two_ok r.wire (p - 1) (length r.gates) p b.within (omega arith))) (omega (arith, a.longer, b.longer, m))
        (two_ok (emit p names x gs).wire (length r.gates) _ _ (omega (arith, a.within, b.longer, m)) (omega (arith, m)))

  module _ (x : Tree) (one : 1 ≤ p) (below : Below n p x) (some : 1 ≤ length (names_of x)) where
    made : Emits (input_gates (names_of x)) (tree_made p x)
    unfolding tree_made
    made =
        emits (names_of x) one some x (input_gates (names_of x)) (tree_proper n p x below) (omega (arith, inputs_long (names_of x)))
        (record { rule = λ g l. inputs-kept (names_of x) (tree-parties n p x below) g l g })

    pub made-gates : (g : ℕ) → g < length (tree_made p x).gates → gate_ok n p g (get_or (tree_made p x).gates g (Input 0)) ≡ true
    made-gates g l = made.kept.rule g l

    pub made-wire : (tree_made p x).wire < length (tree_made p x).gates
    made-wire = made.within

-- ---- kinds 1 to 5
record Kinds (gs : List Gate) : Type 0 where
  low : (g : ℕ) → kind_of (get_or gs g (Input 0)) ≤ 5

kinds_end : (gs : List Gate) (x : Gate) → kind_of x ≤ 5 → ((g : ℕ) → kind_of (get_or gs g (Input 0)) ≤ 5) → (g : ℕ) → kind_of (get_or (gs ++ (x ∷ [])) g (Input 0)) ≤ 5
unfolding kind_of
kinds_end [] x l h zero = l
kinds_end [] x l h (suc g) = omega arith
kinds_end (y ∷ gs) x l h zero = h 0
kinds_end (y ∷ gs) x l h (suc g) = kinds_end gs x l (λ k. h (suc k)) g

kinds-add : (gs : List Gate) (a b : ℕ) → Kinds gs → Kinds (gs ++ (Add a b ∷ []))
unfolding kind_of
kinds-add gs a b h = record { low = kinds_end gs (Add a b) (omega arith) h.low }

kinds-scale : (gs : List Gate) (a c : ℕ) → Kinds gs → Kinds (gs ++ (Scale a c ∷ []))
unfolding kind_of
kinds-scale gs a c h = record { low = kinds_end gs (Scale a c) (omega arith) h.low }

kinds_offset : (gs : List Gate) (a c : ℕ) → Kinds gs → Kinds (gs ++ (Offset a c ∷ []))
unfolding kind_of
kinds_offset gs a c h = record { low = kinds_end gs (Offset a c) (omega arith) h.low }

kinds_multiply : (gs : List Gate) (a b : ℕ) → Kinds gs → Kinds (gs ++ (Multiply a b ∷ []))
unfolding kind_of
kinds_multiply gs a b h = record { low = kinds_end gs (Multiply a b) (omega arith) h.low }

emit_kinds : (p : ℕ) (names : List ℕ) (x : Tree) (gs : List Gate) → Kinds gs → Kinds (emit p names x gs).gates
unfolding emit right_after emit_number emit_plus emit_times emit_minus ending
emit_kinds p names (Tree.Number v) gs h = kinds_offset _ _ _ (kinds-scale _ _ _ h)
emit_kinds p names (Tree.Name x) gs h = h
emit_kinds p names (Tree.Plus l r) gs h = kinds-add _ _ _ (emit_kinds p names r (emit p names l gs).gates (emit_kinds p names l gs h))
emit_kinds p names (Tree.Times l r) gs h = kinds_multiply _ _ _ (emit_kinds p names r (emit p names l gs).gates (emit_kinds p names l gs h))
emit_kinds p names (Tree.Minus l r) gs h = kinds-add _ _ _ (kinds-scale _ _ _ (emit_kinds p names r (emit p names l gs).gates (emit_kinds p names l gs h)))

inputs_kinds : (names : List ℕ) (g : ℕ) → kind_of (get_or (input_gates names) g (Input 0)) ≤ 5
unfolding input_gates kind_of
inputs_kinds [] g = omega arith
inputs_kinds (x ∷ names) zero = omega arith
inputs_kinds (x ∷ names) (suc g) = inputs_kinds names g

pub made_kinds : (p : ℕ) (x : Tree) (g : ℕ) → kind_of (get_or (tree_made p x).gates g (Input 0)) ≤ 5
unfolding tree_made
made_kinds p x = (emit_kinds p (names_of x) x (input_gates (names_of x)) (record { low = inputs_kinds (names_of x) })).low

-- ---- figures
module _ (plan : Plan) where
  -- a gate at the end that takes no figures
  quiet_one : (gs : List Gate) (g : Gate) → input_owners_at plan g ≡ [] → flat_map (input_owners_at plan) (gs ++ (g ∷ [])) ≡ flat_map (input_owners_at plan) gs
  unfolding flat_map
  quiet_one [] g e = ap (λ (l : List ℕ). l ++ []) e
  quiet_one (x ∷ gs) g e = ap (λ (l : List ℕ). input_owners_at plan x ++ l) (quiet_one gs g e)

  quiet : (p : ℕ) (names : List ℕ) (x : Tree) (gs : List Gate) → flat_map (input_owners_at plan) (emit p names x gs).gates ≡ flat_map (input_owners_at plan) gs
  unfolding emit right_after emit_number emit_plus emit_times emit_minus ending input_owners_at
  quiet p names (Tree.Number v) gs = quiet_one (gs ++ (Scale 0 0 ∷ [])) (Offset (length gs) v) refl ∙ quiet_one gs (Scale 0 0) refl
  quiet p names (Tree.Name x) gs = refl
  quiet p names (Tree.Plus l r) gs = quiet_one _ (Add _ _) refl ∙ quiet p names r (emit p names l gs).gates ∙ quiet p names l gs
  quiet p names (Tree.Times l r) gs = quiet_one _ (Multiply _ _) refl ∙ quiet p names r (emit p names l gs).gates ∙ quiet p names l gs
  quiet p names (Tree.Minus l r) gs =
      quiet_one _ (Add _ _) refl ∙ quiet_one _ (Scale _ _) refl ∙ quiet p names r (emit p names l gs).gates ∙ quiet p names l gs

  inputs-owners : (names : List ℕ) → flat_map (input_owners_at plan) (input_gates names) ≡ map party_of names
  unfolding input_gates flat_map input_owners_at
  inputs-owners [] = refl
  inputs-owners (x ∷ names) = ap (λ (l : List ℕ). party_of x ∷ l) (inputs-owners names)

parties_long : (names : List ℕ) → length (map party_of names) ≡ length names
parties_long [] = refl
parties_long (x ∷ names) = ap suc (parties_long names)

module _ (n t p i : ℕ) (x : Tree) where
  made-owners : input_owners (plan_with n t p (tree_bodies p i x)) ≡ map party_of (names_of x)
  unfolding input_owners plan_with tree_bodies bodies_with tree_made
  made-owners = quiet (plan_with n t p (tree_bodies p i x)) p (names_of x) x (input_gates (names_of x)) ∙ inputs-owners (plan_with n t p (tree_bodies p i x)) (names_of x)

  -- a figure for each name
  pub made_count : input_count (plan_with n t p (tree_bodies p i x)) ≡ length (names_of x)
  unfolding input_count
  made_count = ap length made-owners ∙ parties_long (names_of x)

  -- which belongs to the name's party
  pub made-own : (j : ℕ) (xs : List ℕ) → own_inputs (plan_with n t p (tree_bodies p i x)) j xs ≡ own_of j (map party_of (names_of x)) xs
  unfolding own_inputs
  made-own j xs = ap (λ (os : List ℕ). own_of j os xs) made-owners
