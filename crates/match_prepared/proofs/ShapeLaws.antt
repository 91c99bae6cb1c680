-- What the test of the preparing plan's shape says of its definition.
--     matching               one gate
--     making, making_all     the gates of one triple, and of all
--     pointing               the points
--     preparing_all          the whole shape
--     fitting                with the main plan's triples
-- Assumes nothing.
use Rattle.std.proofs.Common.{Option, Some, None}
use mathlib.Core.Path.{◌≡◌, refl, sym, ap, ap₂, ◌∙◌}
use mathlib.Core.Bool.{Bool, true, false, ◌&&◌}
use mathlib.Core.List.{List, [], ◌∷◌, ◌++◌, flat_map}
use Prim.Native.Nat.{ℕ, zero, suc, ◌+◌, ◌*◌, ◌<◌, ◌≤◌}
use native.Mathlib.Omega.{arith}
use borrow.Author.Rules.{rules}
use borrow.Author.Tests.{eqb-true, eq-eqb, ne_eqb, le-leb, lt-leb, le-ltb, not-true, not-false}
use lib.Dec.{eqb, ltb}
use lib.ListN.{length, get_or, take}
use lib.Seq.{length-take-le}
use lib.Pointwise.{pointwise}
use Rattle.numbers.specs.Tables.{tab}
use Rattle.numbers.proofs.Rows.{flat-length}
use Rattle.numbers.proofs.Searches.{Seeking, begin, passed_by, passed-not, nothing, nothing_passes}
use Rattle.plan.specs.declared.Gate.{Gate}
use Rattle.plan.specs.declared.Gate.TheVariants.{Input, Add, Scale, Offset, Multiply, Random, Spend}
use Rattle.plan.specs.declared.Header.{Header}
use Rattle.plan.specs.Plans.{Plan, kind_of, operands_of, kind_count}
use Rattle.plan.specs.File.{same_bytes, gate_at, plan_of}
use Rattle.plan.specs.Planned.{Planned}
use Rattle.plan.proofs.Planned.{plan_t, plan_p, plan_gates, plan_gate, plan_outs}
use Rattle.plan_counts.specs.declared.Tally.{Tally}
use Rattle.plan_counts.specs.Counts.{Tallied}
use Rattle.run_protocol.proofs.Prepared.{gates-length}
use Rattle.run_protocol.specs.Preparing.{triple_gates, gate_numbers, prepares}
use Rattle.match_prepared.specs.PreparedCalls.{prepared_ok}
use Rattle.match_prepared.specs.PreparedParts.{same_gate, makes_at, made_as}

-- ---- one gate
and-end : (a b : Bool) → (a && b) ≡ (a && (b && true))
and-end true true = refl
and-end true false = refl
and-end false b = refl

random_kept : (gate : Gate) → (gate ≡ Random → ⊥) → same_gate gate Random ≡ false
unfolding same_gate gate_numbers kind_of operands_of same_bytes
random_kept (Input s) n = refl
random_kept (Add a b) n = refl
random_kept (Scale a c) n = refl
random_kept (Offset a c) n = refl
random_kept (Multiply a b) n = refl
random_kept Random n = absurd (n refl)
random_kept (Spend a b) n = refl

product_kept : (gate : Gate) (a b : ℕ) → ((x y : ℕ) → gate ≡ Multiply x y → ⊥) → same_gate gate (Multiply a b) ≡ false
unfolding same_gate gate_numbers kind_of operands_of same_bytes
product_kept (Input s) a b n = refl
product_kept (Add c d) a b n = refl
product_kept (Scale c d) a b n = refl
product_kept (Offset c d) a b n = refl
product_kept (Multiply c d) a b n = absurd (n c d refl)
product_kept Random a b n = refl
product_kept (Spend c d) a b n = refl

module _ (gate : Gate) where
  pub random-is : gate ≡ Random → true ≡ same_gate gate Random
  unfolding same_gate gate_numbers kind_of operands_of same_bytes
  random-is e = rw e

  pub random-not : (gate ≡ Random → ⊥) → false ≡ same_gate gate Random
  random-not n = sym (random_kept gate n)

  module _ (a b : ℕ) where
    product-as : (x y : ℕ) → gate ≡ Multiply x y → same_gate gate (Multiply a b) ≡ (eqb x a && (eqb y b && true))
    unfolding same_gate gate_numbers kind_of operands_of same_bytes
    product-as x y e = rw e

    pub product-then : (x y : ℕ) → gate ≡ Multiply x y → x ≡ a → eqb y b ≡ same_gate gate (Multiply a b)
    product-then x y e ex = sym (product-as x y e ∙ sym (and-end (eqb x a) (eqb y b)) ∙ rw (eq-eqb x a ex))

    pub product-else : (x y : ℕ) → gate ≡ Multiply x y → (x ≡ a → ⊥) → eqb x a ≡ same_gate gate (Multiply a b)
    product-else x y e n = ne_eqb x a n ∙ sym (product-as x y e ∙ rw (ne_eqb x a n))

    pub product-not : ((x y : ℕ) → gate ≡ Multiply x y → ⊥) → false ≡ same_gate gate (Multiply a b)
    product-not n = sym (product_kept gate a b n)

pub ruleset matching = (rules, random-is, random-not, product-then, product-else, product-not)

-- ---- the gates of one triple
module _ (bs : List ℕ) (h : Header) (p : Planned bs h) (k : ℕ) (l : 3 * k + 2 < h.gates) where
  abbrev gates_of : List Gate
  gates_of = (plan_of bs).gates

  makes-as : makes_at gates_of k ≡ (same_gate (gate_at bs (3 * k)) Random && (same_gate (gate_at bs (3 * k + 1)) Random && same_gate (gate_at bs (3 * k + 2)) (Multiply (3 * k) (3 * k + 1))))
  unfolding makes_at
  makes-as = rw (plan_gate p (3 * k) (omega arith), plan_gate p (3 * k + 1) (omega arith), plan_gate p (3 * k + 2) (omega arith))

  module _ (x : Gate) (t : Bool) (ex : x ≡ gate_at bs (3 * k)) (et : t ≡ same_gate x Random) where
    pub makes-first : t ≡ false → false ≡ makes_at gates_of k
    makes-first e = sym (makes-as ∙ rw (← ex, ← et, e))

    module _ (e : t ≡ true) (y : Gate) (u : Bool) (ey : y ≡ gate_at bs (3 * k + 1)) (eu : u ≡ same_gate y Random) where
      pub makes_second : u ≡ false → u ≡ makes_at gates_of k
      makes_second f = f ∙ sym (makes-as ∙ rw (← ex, ← et, e, ← ey, ← eu, f))

      pub makes_third : (z : Gate) (v : Bool) → u ≡ true → z ≡ gate_at bs (3 * k + 2) → v ≡ same_gate z (Multiply (3 * k) (3 * k + 1)) → v ≡ makes_at gates_of k
      makes_third z v f ez ev = sym (makes-as ∙ rw (← ex, ← et, e, ← ey, ← eu, f, ← ez, ← ev))

pub ruleset making = (rules, not-true, not-false, makes-first, makes_second, makes_third)

-- ---- all gates
and_assoc : (a b c : Bool) → ((a && b) && c) ≡ (a && (b && c))
and_assoc true b c = refl
and_assoc false b c = refl

and-false : (a b : Bool) → b ≡ false → (a && b) ≡ false
and-false true b e = e
and-false false b e = refl

same_append : (xs ys us vs : List ℕ) → length xs ≡ length ys → same_bytes (xs ++ us) (ys ++ vs) ≡ (same_bytes xs ys && same_bytes us vs)
unfolding same_bytes
same_append [] [] us vs e = refl
same_append [] (y ∷ ys) us vs e = absurd (omega arith)
same_append (x ∷ xs) [] us vs e = absurd (omega arith)
same_append (x ∷ xs) (y ∷ ys) us vs e = ap (λ (b : Bool). eqb x y && b) (same_append xs ys us vs (omega arith)) ∙ sym (and_assoc (eqb x y) (same_bytes xs ys) (same_bytes us vs))

same-length : (xs ys : List ℕ) → (length xs ≡ length ys → ⊥) → same_bytes xs ys ≡ false
unfolding same_bytes
same-length [] [] n = absurd (n refl)
same-length [] (y ∷ ys) n = refl
same-length (x ∷ xs) [] n = refl
same-length (x ∷ xs) (y ∷ ys) n = and-false (eqb x y) (same_bytes xs ys) (same-length xs ys (λ e. n (omega arith)))

numbers-three : (g : Gate) → length (gate_numbers g) ≡ 3
unfolding gate_numbers operands_of
numbers-three (Input s) = refl
numbers-three (Add a b) = refl
numbers-three (Scale a c) = refl
numbers-three (Offset a c) = refl
numbers-three (Multiply a b) = refl
numbers-three Random = refl
numbers-three (Spend a b) = refl

same_cons : (g h : Gate) (gs hs : List Gate) → same_bytes (flat_map gate_numbers (g ∷ gs)) (flat_map gate_numbers (h ∷ hs)) ≡ (same_gate g h && same_bytes (flat_map gate_numbers gs) (flat_map gate_numbers hs))
unfolding flat_map same_gate
same_cons g h gs hs = same_append (gate_numbers g) (gate_numbers h) _ _ (numbers-three g ∙ sym (numbers-three h))

-- the same for the triples from number m on
makes_from : ℕ → List Gate → ℕ → Bool
makes_from m gs k =
    same_gate (get_or gs (3 * k) (Input 0)) Random
    && (same_gate (get_or gs (3 * k + 1) (Input 0)) Random
    && same_gate (get_or gs (3 * k + 2) (Input 0)) (Multiply (3 * (m + k)) (3 * (m + k) + 1)))

abbrev Same : List Gate → (ℕ → ℕ) → ℕ → Bool
Same gs f K = same_bytes (flat_map gate_numbers gs) (flat_map gate_numbers (flat_map triple_gates (tab f K)))

module _ (m : ℕ) (x y z : Gate) (gs : List Gate) where
  makes_next : (k : ℕ) → makes_from m (x ∷ y ∷ z ∷ gs) (suc k) ≡ makes_from (suc m) gs k
  unfolding makes_from
  makes_next k =
      let a : 3 * suc k ≡ suc (suc (suc (3 * k))) = omega arith in
      let b : 3 * suc k + 1 ≡ suc (suc (suc (3 * k + 1))) = omega arith in
      let c : 3 * suc k + 2 ≡ suc (suc (suc (3 * k + 2))) = omega arith in
      let d : m + suc k ≡ suc m + k = omega arith in
      ap (λ (i : ℕ). same_gate (get_or (x ∷ y ∷ z ∷ gs) i (Input 0)) Random && (same_gate (get_or (x ∷ y ∷ z ∷ gs) (3 * suc k + 1) (Input 0)) Random && same_gate (get_or (x ∷ y ∷ z ∷ gs) (3 * suc k + 2) (Input 0)) (Multiply (3 * (m + suc k)) (3 * (m + suc k) + 1)))) a
      ∙ ap (λ (i : ℕ). same_gate (get_or gs (3 * k) (Input 0)) Random && (same_gate (get_or (x ∷ y ∷ z ∷ gs) i (Input 0)) Random && same_gate (get_or (x ∷ y ∷ z ∷ gs) (3 * suc k + 2) (Input 0)) (Multiply (3 * (m + suc k)) (3 * (m + suc k) + 1)))) b
      ∙ ap (λ (i : ℕ). same_gate (get_or gs (3 * k) (Input 0)) Random && (same_gate (get_or gs (3 * k + 1) (Input 0)) Random && same_gate (get_or (x ∷ y ∷ z ∷ gs) i (Input 0)) (Multiply (3 * (m + suc k)) (3 * (m + suc k) + 1)))) c
      ∙ ap (λ (i : ℕ). same_gate (get_or gs (3 * k) (Input 0)) Random && (same_gate (get_or gs (3 * k + 1) (Input 0)) Random && same_gate (get_or gs (3 * k + 2) (Input 0)) (Multiply (3 * i) (3 * i + 1)))) d

  same-triple : (f : ℕ → ℕ) (K : ℕ) → f 0 ≡ m + 0 → Same (x ∷ y ∷ z ∷ gs) f (suc K) ≡ (makes_from m (x ∷ y ∷ z ∷ gs) 0 && Same gs (λ k. f (suc k)) K)
  unfolding makes_from tab flat_map triple_gates
  same-triple f K e =
      let rest : List Gate = flat_map triple_gates (tab (λ k. f (suc k)) K) in
      let r : Bool = Same gs (λ k. f (suc k)) K in
      same_cons x Random (y ∷ z ∷ gs) (Random ∷ Multiply (3 * f 0) (3 * f 0 + 1) ∷ rest)
      ∙ ap (λ (b : Bool). same_gate x Random && b) (same_cons y Random (z ∷ gs) (Multiply (3 * f 0) (3 * f 0 + 1) ∷ rest))
      ∙ ap (λ (b : Bool). same_gate x Random && (same_gate y Random && b)) (same_cons z (Multiply (3 * f 0) (3 * f 0 + 1)) gs rest)
      ∙ ap (λ (i : ℕ). same_gate x Random && (same_gate y Random && (same_gate z (Multiply (3 * i) (3 * i + 1)) && r))) e
      ∙ ap (λ (b : Bool). same_gate x Random && b) (sym (and_assoc (same_gate y Random) (same_gate z (Multiply (3 * (m + 0)) (3 * (m + 0) + 1))) r))
      ∙ sym (and_assoc (same_gate x Random) (same_gate y Random && same_gate z (Multiply (3 * (m + 0)) (3 * (m + 0) + 1))) r)

abbrev Numbered : (ℕ → ℕ) → ℕ → Type 0
Numbered f m = (k : ℕ) → f k ≡ m + k

made_all : (K m : ℕ) (f : ℕ → ℕ) → Numbered f m → (gs : List Gate) → length gs ≡ 3 * K → ((k : ℕ) → k < K → makes_from m gs k ≡ true) → Same gs f K ≡ true
unfolding tab flat_map same_bytes
made_all zero m f num [] e h = refl
made_all zero m f num (x ∷ gs) e h = absurd (omega arith)
made_all (suc K) m f num [] e h = absurd (omega arith)
made_all (suc K) m f num (x ∷ []) e h = absurd (omega arith)
made_all (suc K) m f num (x ∷ y ∷ []) e h = absurd (omega arith)
made_all (suc K) m f num (x ∷ y ∷ z ∷ gs) e h =
    same-triple m x y z gs f K (num 0)
    ∙ ap (λ (b : Bool). b && Same gs (λ k. f (suc k)) K) (h 0 (omega arith))
    ∙ made_all K (suc m) (λ k. f (suc k)) (λ k. num (suc k) ∙ omega arith) gs (omega arith) (λ k l. sym (makes_next m x y z gs k) ∙ h (suc k) (omega arith))

made_off : (K m : ℕ) (f : ℕ → ℕ) → Numbered f m → (gs : List Gate) → length gs ≡ 3 * K → (k : ℕ) → k < K → makes_from m gs k ≡ false → Same gs f K ≡ false
made_off zero m f num gs e k l h = absurd (omega arith)
made_off (suc K) m f num [] e k l h = absurd (omega arith)
made_off (suc K) m f num (x ∷ []) e k l h = absurd (omega arith)
made_off (suc K) m f num (x ∷ y ∷ []) e k l h = absurd (omega arith)
made_off (suc K) m f num (x ∷ y ∷ z ∷ gs) e zero l h = same-triple m x y z gs f K (num 0) ∙ ap (λ (b : Bool). b && Same gs (λ k. f (suc k)) K) h
made_off (suc K) m f num (x ∷ y ∷ z ∷ gs) e (suc k) l h =
    same-triple m x y z gs f K (num 0)
    ∙ and-false (makes_from m (x ∷ y ∷ z ∷ gs) 0) (Same gs (λ k. f (suc k)) K)
    (made_off K (suc m) (λ k. f (suc k)) (λ k. num (suc k) ∙ omega arith) gs (omega arith) k (omega arith) (sym (makes_next m x y z gs k) ∙ h))

from_none : (gs : List Gate) (k : ℕ) → makes_from 0 gs k ≡ makes_at gs k
unfolding makes_from makes_at
from_none gs k = let e : 0 + k ≡ k = omega arith in
    ap (λ (i : ℕ). same_gate (get_or gs (3 * k) (Input 0)) Random && (same_gate (get_or gs (3 * k + 1) (Input 0)) Random && same_gate (get_or gs (3 * k + 2) (Input 0)) (Multiply (3 * i) (3 * i + 1)))) e

module _ (bs : List ℕ) (h : Header) (p : Planned bs h) (K n : ℕ) (en : n ≡ K) where
  long-gates : h.gates ≡ 3 * n → length (plan_of bs).gates ≡ 3 * K
  long-gates e = plan_gates p ∙ e ∙ ap (λ (i : ℕ). 3 * i) en

  pub makes-few : (h.gates ≡ 3 * n → ⊥) → false ≡ made_as (plan_of bs).gates K
  unfolding made_as
  makes-few ne =
      sym (same-length (flat_map gate_numbers (plan_of bs).gates) (flat_map gate_numbers (flat_map triple_gates (tab (λ k. k) K)))
      (λ e. ne (omega (arith, e, en, plan_gates p, flat-length gate_numbers 3 numbers-three (plan_of bs).gates, flat-length gate_numbers 3 numbers-three (flat_map triple_gates (tab (λ k. k) K)), gates-length K))))

  module _ (e : h.gates ≡ 3 * n) where
    pub makes-room : (k : ℕ) → k < n → 3 * k + 2 < h.gates
    makes-room k l = omega arith

    pub makes-off : (k : ℕ) (t : Bool) → k < n → t ≡ makes_at (plan_of bs).gates k → t ≡ false → false ≡ made_as (plan_of bs).gates K
    unfolding made_as
    makes-off k t l et f =
        sym (made_off K 0 (λ k. k) (λ k. omega arith) (plan_of bs).gates (long-gates e) k (omega arith) (from_none (plan_of bs).gates k ∙ sym et ∙ f))

    pub makes-all : (k : ℕ) → Seeking (makes_at (plan_of bs).gates) n k → n ≤ k → true ≡ made_as (plan_of bs).gates K
    unfolding made_as
    makes-all k s l =
        sym (made_all K 0 (λ k. k) (λ k. omega arith) (plan_of bs).gates (long-gates e)
        (λ i li. from_none (plan_of bs).gates i ∙ nothing_passes (makes_at (plan_of bs).gates) n (sym (nothing (makes_at (plan_of bs).gates) n k s l)) i (omega arith)))

pub ruleset making_all = (rules, begin, passed_by, passed-not, not-true, not-false, makes-few, makes-room, makes-off, makes-all)

-- ---- the points
same_pairs : (xs ys : List ℕ) → pointwise eqb xs ys ≡ same_bytes xs ys
unfolding same_bytes
same_pairs [] [] = refl
same_pairs [] (y ∷ ys) = refl
same_pairs (x ∷ xs) [] = refl
same_pairs (x ∷ xs) (y ∷ ys) = ap (λ (t : Bool). eqb x y && t) (same_pairs xs ys)

pub points_fit : (bs : List ℕ) (h : Header) (d : List ℕ) → Planned bs h → length d ≡ 15 → h.n ≤ length d
points_fit bs h d p e = omega (arith, p.n-high)

pub points_cut : (bs : List ℕ) (h : Header) (d : List ℕ) → Planned bs h → length d ≡ 15 → h.n ≡ length (take h.n d)
points_cut bs h d p e = sym (length-take-le h.n d (omega (arith, p.n-high)))

pub points_by : (xs ys ps qs : List ℕ) (t : Bool) → t ≡ pointwise eqb xs ys → xs ≡ ps → ys ≡ qs → t ≡ same_bytes ps qs
points_by xs ys ps qs t e ex ey = e ∙ same_pairs xs ys ∙ ap₂ same_bytes ex ey

pub ruleset pointing = (rules, points_fit, points_cut, points_by)

-- ---- the whole shape
module _ (prep bs : List ℕ) (h g : Header) (p : Planned prep h) (q : Planned bs g) where
  abbrev made_bytes : Bool
  made_bytes = made_as (plan_of prep).gates (kind_count (plan_of bs) 7)

  shape-as :
      prepares (plan_of prep) (plan_of bs)
      ≡ (eqb h.t g.t && (eqb h.field.p g.field.p && (same_bytes (plan_of prep).points (plan_of bs).points && (made_bytes && eqb h.outs 0))))
  unfolding prepares made_as
  shape-as =
      ap₂ (λ (a b : ℕ). eqb a b && (eqb (plan_of prep).p (plan_of bs).p && (same_bytes (plan_of prep).points (plan_of bs).points && (made_bytes && eqb (length (plan_of prep).outs) 0)))) (plan_t p) (plan_t q)
      ∙ ap₂ (λ (a b : ℕ). eqb h.t g.t && (eqb a b && (same_bytes (plan_of prep).points (plan_of bs).points && (made_bytes && eqb (length (plan_of prep).outs) 0)))) (plan_p p) (plan_p q)
      ∙ ap (λ (a : ℕ). eqb h.t g.t && (eqb h.field.p g.field.p && (same_bytes (plan_of prep).points (plan_of bs).points && (made_bytes && eqb a 0)))) (plan_outs p)

  pub shape-t : (h.t ≡ g.t → ⊥) → false ≡ prepares (plan_of prep) (plan_of bs)
  shape-t n = sym (shape-as ∙ rw (ne_eqb h.t g.t n))

  module _ (et : h.t ≡ g.t) where
    pub shape-p : (h.field.p ≡ g.field.p → ⊥) → false ≡ prepares (plan_of prep) (plan_of bs)
    shape-p n = sym (shape-as ∙ rw (eq-eqb h.t g.t et, ne_eqb h.field.p g.field.p n))

    module _ (ep : h.field.p ≡ g.field.p) (s : Bool) (es : s ≡ same_bytes (plan_of prep).points (plan_of bs).points) where
      pub shape-points : s ≡ false → false ≡ prepares (plan_of prep) (plan_of bs)
      shape-points f = sym (shape-as ∙ rw (eq-eqb h.t g.t et, eq-eqb h.field.p g.field.p ep, ← es, f))

      module _ (hs : s ≡ true) (m : Bool) (em : m ≡ made_bytes) where
        shape-left : prepares (plan_of prep) (plan_of bs) ≡ (m && eqb h.outs 0)
        shape-left = shape-as ∙ rw (eq-eqb h.t g.t et, eq-eqb h.field.p g.field.p ep, ← es, hs, ← em)

        pub shape-gates : m ≡ false → m ≡ prepares (plan_of prep) (plan_of bs)
        shape-gates f = f ∙ sym (shape-left ∙ rw f)

        pub shape-outs : m ≡ true → eqb h.outs 0 ≡ prepares (plan_of prep) (plan_of bs)
        shape-outs f = sym (shape-left ∙ rw f)

pub ruleset preparing_all = (rules, not-true, not-false, shape-t, shape-p, shape-points, shape-gates, shape-outs)

-- ---- with the main plan's triples
module _ (plan : Plan) (i : ℕ) (y : Tally) (ty : Tallied plan.gates i y) where
  pub spends_are : y.spends ≡ kind_count plan 7
  unfolding kind_count
  spends_are = ty.spends

  pub spends_few : y.spends ≤ 1024
  spends_few = omega (arith, ty.few)

  module _ (prep : Plan) where
    pub fits_none : (0 < y.spends → ⊥) → ltb 0 y.spends ≡ prepared_ok prep plan
    unfolding prepared_ok
    fits_none l = le-ltb 0 y.spends (omega arith) ∙ sym (rw (← spends_are, lt-leb 1 y.spends (omega arith)))

    pub fits-none : y.spends ≤ 0 → ltb 0 y.spends ≡ prepared_ok prep plan
    fits-none l = fits_none (λ k. omega arith)

    pub fits-some : (t : Bool) → 0 < y.spends → t ≡ prepares prep plan → t ≡ prepared_ok prep plan
    unfolding prepared_ok
    fits-some t l e = sym (rw (← spends_are, le-leb 1 y.spends (omega arith)) (sym e))

pub ruleset fitting = (rules, not-true, not-false, spends_are, spends_few, fits_none, fits-none, fits-some)
