-- The preparing plan of a plan: it passes where the plan does, and its wires' values are triples.
--     is-preparing                       what `prepares` says
--     preparing-valid, preparing-sized   the preparing plan is valid where the plan is
--     triple_values, triple-values        its wires' values
--     triple-product                     the third of each is the product of the others
--     no-kind-7                          it spends no triple
-- Assumes nothing.
use mathlib.Core.Path.{◌≡◌, refl, sym, ap, ap₂, ◌∙◌}
use mathlib.Core.Bool.{Bool, true, false, cond, ◌||◌}
use mathlib.Core.List.{List, [], ◌∷◌, ◌++◌, flat_map, append-nil, append_assoc, head-eq_of_cons-eq, tail-eq_of_cons-eq}
use Prim.Native.Nat.{ℕ, zero, suc, ◌+◌, ◌*◌, ◌<◌}
use native.Mathlib.Omega.{arith}
use borrow.Author.Tests.{eqb-true, lt-ltb}
use lib.Dec.{eqb}
use lib.ListN.{length, take, drop, get_or, length-append, get_or-append}
use lib.Seq.{get_or-append_seam}
use Rattle.numbers.specs.Tables.{tab, count_where}
use Rattle.numbers.proofs.Tables.{length-tab}
use Rattle.numbers.proofs.Truth.{both_true}
use Rattle.field.specs.Mod.{mul}
use Rattle.field.proofs.Solve.{quote, solve}
use Rattle.plan.specs.File.{same_bytes, gate_ok}
use Rattle.plan.specs.declared.Output.{Output}
use Rattle.plan.specs.declared.Gate.{Gate}
use Rattle.plan.specs.declared.Gate.TheVariants.{Input, Add, Scale, Offset, Multiply, Random, Spend}
use Rattle.plan.specs.declared.Rule.{Rule}
use Rattle.sharing_laws.specs.Basis.{sum_all}
use Rattle.plan.specs.Plans.{Plan, party_count, parties, kind_of, is_kind, operands_of, kind_count, input_owners_at, multiplying}
use Rattle.run_protocol.specs.Ideal.{inputs_taken, gate_value, values_from, values}
use Rattle.run_protocol.specs.Preparing.{triple_gates, preparing, gate_numbers, prepares}
use Rattle.plan.proofs.Valid.{Valid, Sized}
use Rattle.sharing_laws.proofs.Lists.{length_rows, all-every}

-- ---- what `prepares` says
same_list : (xs ys : List ℕ) → same_bytes xs ys ≡ true → xs ≡ ys
unfolding same_bytes
same_list [] [] e = refl
same_list [] (y ∷ ys) e = let z : ◌≡◌ {A = ℕ} 0 1 = cc in absurd (omega arith)
same_list (x ∷ xs) [] e = let z : ◌≡◌ {A = ℕ} 0 1 = cc in absurd (omega arith)
same_list (x ∷ xs) (y ∷ ys) e =
    let h = both_true (eqb x y) (same_bytes xs ys) e in
    ap₂ ◌∷◌ (eqb-true x y h.0) (same_list xs ys h.1)

decode : ℕ → ℕ → ℕ → Gate
decode k a b =
    cond (eqb k 1) (Input a) (cond (eqb k 2) (Add a b) (cond (eqb k 3) (Scale a b) (cond (eqb k 4) (Offset a b) (cond (eqb k 5) (Multiply a b) (cond (eqb k 6) Random (Spend a b))))))

decoded : (g : Gate) → g ≡ decode (kind_of g) (get_or (operands_of g) 0 0) (get_or (operands_of g) 1 0)
unfolding decode kind_of operands_of
decoded (Input s) = refl
decoded (Add a b) = refl
decoded (Scale a c) = refl
decoded (Offset a c) = refl
decoded (Multiply a b) = refl
decoded Random = refl
decoded (Spend a b) = refl

operands-two : (g : Gate) → operands_of g ≡ get_or (operands_of g) 0 0 ∷ get_or (operands_of g) 1 0 ∷ []
unfolding operands_of
operands-two (Input s) = refl
operands-two (Add a b) = refl
operands-two (Scale a c) = refl
operands-two (Offset a c) = refl
operands-two (Multiply a b) = refl
operands-two Random = refl
operands-two (Spend a b) = refl

numbers-cons : (g : Gate) (gs : List Gate) → flat_map gate_numbers (g ∷ gs) ≡ kind_of g ∷ get_or (operands_of g) 0 0 ∷ get_or (operands_of g) 1 0 ∷ flat_map gate_numbers gs
unfolding flat_map gate_numbers
numbers-cons g gs = ap (λ (l : List ℕ). (kind_of g ∷ l) ++ flat_map gate_numbers gs) (operands-two g)

gates_same : (gs hs : List Gate) → flat_map gate_numbers gs ≡ flat_map gate_numbers hs → gs ≡ hs
gates_same [] [] e = refl
gates_same [] (h ∷ hs) e = absurd (none h hs (e ∙ numbers-cons h hs))
  where
    none : (h : Gate) (hs : List Gate) → flat_map gate_numbers [] ≡ kind_of h ∷ get_or (operands_of h) 0 0 ∷ get_or (operands_of h) 1 0 ∷ flat_map gate_numbers hs → ⊥
    none h hs q = let z : ◌≡◌ {A = ℕ} 0 (suc (suc (suc (length (flat_map gate_numbers hs))))) = (unfold flat_map in ap length q) in omega arith
gates_same (g ∷ gs) [] e = absurd (none g gs (sym (numbers-cons g gs) ∙ e))
  where
    none : (h : Gate) (hs : List Gate) → kind_of h ∷ get_or (operands_of h) 0 0 ∷ get_or (operands_of h) 1 0 ∷ flat_map gate_numbers hs ≡ flat_map gate_numbers [] → ⊥
    none h hs q = let z : ◌≡◌ {A = ℕ} (suc (suc (suc (length (flat_map gate_numbers hs))))) 0 = (unfold flat_map in ap length q) in omega arith
gates_same (g ∷ gs) (h ∷ hs) e =
    let q = sym (numbers-cons g gs) ∙ e ∙ numbers-cons h hs in
    let k = head-eq_of_cons-eq q in
    let q₁ = tail-eq_of_cons-eq q in
    let a = head-eq_of_cons-eq q₁ in
    let q₂ = tail-eq_of_cons-eq q₁ in
    let b = head-eq_of_cons-eq q₂ in
    ap₂ ◌∷◌
    (decoded g ∙ ap (λ (x : ℕ). decode x (get_or (operands_of g) 0 0) (get_or (operands_of g) 1 0)) k ∙ ap₂ (decode (kind_of h)) a b ∙ sym (decoded h))
    (gates_same gs hs (tail-eq_of_cons-eq q₂))

no_outs : (l : List Output) → length l ≡ 0 → l ≡ []
no_outs [] e = refl
no_outs (x ∷ l) e = absurd (omega arith)

pub is-preparing : (prep plan : Plan) → prepares prep plan ≡ true → prep ≡ preparing plan prep.rule
unfolding prepares
is-preparing prep plan e =
    let a = both_true _ _ e in
    let b = both_true _ _ a.1 in
    let c = both_true _ _ b.1 in
    let d = both_true _ _ c.1 in
    let t : prep.t ≡ plan.t = eqb-true prep.t plan.t a.0 in
    let p : prep.p ≡ plan.p = eqb-true prep.p plan.p b.0 in
    let points : prep.points ≡ plan.points = same_list prep.points plan.points c.0 in
    let gates : prep.gates ≡ flat_map triple_gates (tab (λ k. k) (kind_count plan 7)) = gates_same prep.gates _ (same_list _ _ d.0) in
    let outs : prep.outs ≡ [] = no_outs prep.outs (eqb-true (length prep.outs) 0 d.1) in
    λ i. record { t = t i; p = p i; points = points i; gates = gates i; outs = outs i; rule = prep.rule }

-- ---- its gates
pub gates-length : (m : ℕ) → length (flat_map triple_gates (tab (λ k. k) m)) ≡ 3 * m
unfolding triple_gates
gates-length m =
    length_rows triple_gates 3 (tab (λ k. k) m) (all-every (λ k. length (triple_gates k) ≡ 3) (tab (λ k. k) m) (λ k. refl)) ∙ ap (λ (n : ℕ). n * 3) (length-tab (λ k. k) m) ∙ omega arith

-- triples numbered m, m + 1, ..
abbrev Numbered : (ℕ → ℕ) → ℕ → Type 0
Numbered f m = (k : ℕ) → f k ≡ m + k

gates_ok :
    (n p : ℕ) (f : ℕ → ℕ) (m K : ℕ) → Numbered f m → (g : ℕ) → g < length (flat_map triple_gates (tab f K))
    → gate_ok n p (3 * m + g) (get_or (flat_map triple_gates (tab f K)) g (Input 0)) ≡ true
unfolding tab flat_map triple_gates gate_ok
gates_ok n p f m zero num g lt = absurd (omega arith)
gates_ok n p f m (suc K) num zero lt = refl
gates_ok n p f m (suc K) num (suc zero) lt = refl
gates_ok n p f m (suc K) num (suc (suc zero)) lt =
    let e : f 0 ≡ m = num 0 ∙ omega arith in
    rw (e, lt-ltb (3 * m) (3 * m + 2) (omega arith), lt-ltb (3 * m + 1) (3 * m + 2) (omega arith))
gates_ok n p f m (suc K) num (suc (suc (suc g))) lt =
    let e : 3 * m + suc (suc (suc g)) ≡ 3 * suc m + g = omega arith in
    ap (λ (k : ℕ). gate_ok n p k (get_or (flat_map triple_gates (tab (λ k. f (suc k)) K)) g (Input 0))) e
    ∙ gates_ok n p (λ k. f (suc k)) (suc m) K (λ k. num (suc k) ∙ omega arith) g (omega arith)

none_kept : (f : ℕ → ℕ) (K : ℕ) → count_where (is_kind 7) (flat_map triple_gates (tab f K)) ≡ 0
unfolding tab flat_map triple_gates count_where is_kind kind_of
none_kept f zero = refl
none_kept f (suc K) = none_kept (λ k. f (suc k)) K

-- ---- where there is a triple, the plan has a gate of kind 7
find : (gs : List Gate) → 0 < count_where (is_kind 7) gs → (g : ℕ) × (g < length gs) × (multiplying (get_or gs g (Input 0)) ≡ true)
unfolding count_where multiplying
find [] lt = absurd (omega arith)
find (x ∷ gs) lt = pick (is_kind 7 x) refl lt (find gs)
  where
    or-true : (a b : Bool) → b ≡ true → (a || b) ≡ true
    or-true true b e = refl
    or-true false b e = e

    pick :
        (b : Bool) → is_kind 7 x ≡ b → 0 < cond b (suc (count_where (is_kind 7) gs)) (count_where (is_kind 7) gs)
        → (0 < count_where (is_kind 7) gs → (g : ℕ) × (g < length gs) × ((is_kind 5 (get_or gs g (Input 0)) || is_kind 7 (get_or gs g (Input 0))) ≡ true))
        → (g : ℕ) × (g < suc (length gs)) × ((is_kind 5 (get_or (x ∷ gs) g (Input 0)) || is_kind 7 (get_or (x ∷ gs) g (Input 0))) ≡ true)
    pick true e l later = (0, omega arith, or-true (is_kind 5 x) (is_kind 7 x) e)
    pick false e l later = let h = later l in (suc h.0, omega (arith, h.1), h.2)

any_gates : (f : ℕ → ℕ) (K g : ℕ) → g < length (flat_map triple_gates (tab f K)) → 0 < K
unfolding tab flat_map
any_gates f zero g lt = absurd (omega arith)
any_gates f (suc K) g lt = omega arith

module _ (plan : Plan) (rule : Rule) where
  abbrev Q : Plan
  Q = preparing plan rule

  abbrev K : ℕ
  K = kind_count plan 7

  pub preparing-valid : Valid plan → Valid (preparing plan rule)
  unfolding party_count kind_count
  preparing-valid valid = record {
    prime = valid.prime;
    threshold = valid.threshold;
    majority =
        λ g l e. let h = find plan.gates (any_gates (λ k. k) K g l) in valid.majority h.0 h.1 h.2;
    distinct = valid.distinct;
    nonzero = valid.nonzero;
    small = valid.small;
    gates =
        λ g l. (let z : g ≡ 3 * 0 + g = omega arith in
        ap (λ (k : ℕ). gate_ok (party_count plan) plan.p k (get_or (flat_map triple_gates (tab (λ k. k) (kind_count plan 7))) g (Input 0))) z)
        ∙ gates_ok (party_count plan) plan.p (λ k. k) 0 K (λ k. omega arith) g l;
    outs = λ o l. absurd (omega arith);
  }

  pub no-kind-7 : kind_count (preparing plan rule) 7 ≡ 0
  unfolding kind_count
  no-kind-7 = none_kept (λ k. k) (kind_count plan 7)

  pub preparing-sized : Sized plan → Sized (preparing plan rule)
  preparing-sized sizes =
      record {
        few = sizes.few;
        short = omega (arith, gates-length (kind_count plan 7), no-kind-7, sizes.short);
      }

-- ---- its values
-- of the draws d, n for each random wire
unfoldable pub triple_values : ℕ → ℕ → ℕ → List ℕ → List ℕ
triple_values p n zero d = []
triple_values p n (suc K) d =
    sum_all p (take n d) ∷ sum_all p (take n (drop n d)) ∷ mul p (sum_all p (take n d)) (sum_all p (take n (drop n d))) ∷ triple_values p n K (drop n (drop n d))

pub triple-product : (p n K : ℕ) (d : List ℕ) (k : ℕ)
    → get_or (triple_values p n K d) (3 * k + 2) 0 ≡ mul p (get_or (triple_values p n K d) (3 * k) 0) (get_or (triple_values p n K d) (3 * k + 1) 0)
unfolding triple_values
triple-product p n zero d k = solve p (search quote) (omega arith)
triple-product p n (suc K) d zero = refl
triple-product p n (suc K) d (suc k) =
    let us : List ℕ = triple_values p n (suc K) d in
    let e₀ : 3 * suc k ≡ suc (suc (suc (3 * k))) = omega arith in
    let e₁ : 3 * suc k + 1 ≡ suc (suc (suc (3 * k + 1))) = omega arith in
    let e₂ : 3 * suc k + 2 ≡ suc (suc (suc (3 * k + 2))) = omega arith in
    ap (λ (i : ℕ). get_or us i 0) e₂ ∙ triple-product p n K (drop n (drop n d)) k
    ∙ sym (ap₂ (λ (i j : ℕ). mul p (get_or us i 0) (get_or us j 0)) e₀ e₁)

three : (env : List ℕ) (a b c : ℕ) (rest : List ℕ) → ((env ++ (a ∷ [])) ++ (b ∷ [])) ++ (c ∷ rest) ≡ env ++ (a ∷ b ∷ c ∷ rest)
three env a b c rest = append_assoc (env ++ (a ∷ [])) (b ∷ []) (c ∷ rest) ∙ append_assoc env (a ∷ []) (b ∷ c ∷ rest)

module _ (plan : Plan) (rule : Rule) where
  values-from :
      (f : ℕ → ℕ) (m K : ℕ) → Numbered f m → (env d : List ℕ) → length env ≡ 3 * m
      → values_from (preparing plan rule) (flat_map triple_gates (tab f K)) env d ≡ env ++ triple_values plan.p (party_count plan) K d
  unfolding tab flat_map triple_gates values_from gate_value triple_values party_count
  values-from f m zero num env d e = sym (append-nil env)
  values-from f m (suc K) num env d e =
      let p : ℕ = plan.p in
      let n : ℕ = party_count plan in
      let Q : Plan = preparing plan rule in
      let a : ℕ = sum_all p (take n d) in
      let taken : inputs_taken Q Random ≡ n = draws plan rule in
      let none : inputs_taken Q (Multiply (3 * f 0) (3 * f 0 + 1)) ≡ 0 = nothing plan rule (3 * f 0) (3 * f 0 + 1) in
      let d₁ : List ℕ = drop n d in
      let b : ℕ = sum_all p (take n d₁) in
      let e₁ : drop (inputs_taken Q Random) d ≡ d₁ = ap (λ (k : ℕ). drop k d) taken in
      let e₂ : drop (inputs_taken Q Random) (drop (inputs_taken Q Random) d) ≡ drop n d₁ = ap (λ (k : ℕ). drop k (drop k d)) taken in
      let env₁ : List ℕ = env ++ (a ∷ []) in
      let first : f 0 ≡ m = num 0 ∙ omega arith in
      let size₁ : length env₁ ≡ suc (length env) = omega (arith, length-append env (a ∷ [])) in
      let at_a : (x : ℕ) → get_or (env₁ ++ (x ∷ [])) (3 * f 0) 0 ≡ a =
      λ x. ap (λ (k : ℕ). get_or (env₁ ++ (x ∷ [])) (3 * k) 0) first ∙ ap (λ (k : ℕ). get_or (env₁ ++ (x ∷ [])) k 0) (sym e)
      ∙ get_or-append env₁ (x ∷ []) 0 (length env) (omega arith) ∙ get_or-append_seam env a [] 0 in
      let at_b : (x : ℕ) → get_or (env₁ ++ (x ∷ [])) (3 * f 0 + 1) 0 ≡ x =
      λ x. (let q : 3 * f 0 + 1 ≡ length env₁ = omega arith in ap (λ (k : ℕ). get_or (env₁ ++ (x ∷ [])) k 0) q) ∙ get_or-append_seam env₁ x [] 0 in
      ap₂ (λ (y z : List ℕ). values_from Q (flat_map triple_gates (tab (λ k. f (suc k)) K))
      ((env₁ ++ (sum_all p (take n y) ∷ []))
      ++ (mul p (get_or (env₁ ++ (sum_all p (take n y) ∷ [])) (3 * f 0) 0) (get_or (env₁ ++ (sum_all p (take n y) ∷ [])) (3 * f 0 + 1) 0) ∷ []))
      (drop (inputs_taken Q (Multiply (3 * f 0) (3 * f 0 + 1))) z)) e₁ e₂
      ∙ ap₂ (λ (u v : ℕ). values_from Q (flat_map triple_gates (tab (λ k. f (suc k)) K)) ((env₁ ++ (b ∷ [])) ++ (u ∷ [])) (drop v (drop n d₁)))
      (ap₂ (mul p) (at_a b) (at_b b)) none
      ∙ values-from (λ k. f (suc k)) (suc m) K (λ k. num (suc k) ∙ omega arith) ((env₁ ++ (b ∷ [])) ++ (mul p a b ∷ [])) (drop n d₁)
      (omega (arith, size₁, length-append env₁ (b ∷ []), length-append (env₁ ++ (b ∷ [])) (mul p a b ∷ [])))
      ∙ append_assoc (env₁ ++ (b ∷ [])) (mul p a b ∷ []) (triple_values p n K (drop n d₁))
      ∙ three env a b (mul p a b) (triple_values p n K (drop n d₁))
    where
      draws : (plan : Plan) (rule : Rule) → inputs_taken (preparing plan rule) Random ≡ party_count plan
      draws plan rule = unfold inputs_taken input_owners_at parties party_count in length-tab suc (length plan.points)

      nothing : (plan : Plan) (rule : Rule) (a b : ℕ) → inputs_taken (preparing plan rule) (Multiply a b) ≡ 0
      nothing plan rule a b = unfold inputs_taken input_owners_at in refl

  pub triple-values : (d : List ℕ) → values (preparing plan rule) d ≡ triple_values plan.p (party_count plan) (kind_count plan 7) d
  unfolding values
  triple-values d = values-from (λ k. k) 0 (kind_count plan 7) (λ k. omega arith) [] d refl
