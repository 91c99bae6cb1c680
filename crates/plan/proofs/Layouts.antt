-- What each way through the code says of a gate, an out or a point.
--     gate_read                        what holds of each kind's gate
--     layout_rows                      what holds of each version's layout
--     number_of_two .. point-four      the contents' fields and where gates, outs and points stand, by the bytes of a field and of a point
--     reading     what closes the needs of the functions that read them
-- Assumes nothing.
use mathlib.Core.Path.{◌≡◌, refl, sym, ap, ◌∙◌}
use mathlib.Core.Bool.{Bool, true, false, cond, ◌&&◌}
use mathlib.Core.List.{List, [], ◌∷◌, ◌++◌}
use Prim.Native.Nat.{ℕ, suc, ◌+◌, ◌-◌, ◌*◌, ◌<◌, ◌≤◌}
use native.Mathlib.Nat.{mul-le-mul_left, mul-le-mul_right}
use native.Mathlib.Omega.{arith}
use borrow.Author.Rules.{rules}
use borrow.Author.Tests.{eqb-true, eq-eqb, ne_eqb}
use lib.Dec.{eqb}
use lib.ListN.{get_or, length, take, drop, length-take, length-drop}
use Rattle.std.proofs.lemmas.List.{get_or-take, get_or-drop}
use Rattle.std.specs.Int.{w32, from_le_bytes}
use Rattle.numbers.specs.Bytes.{number_at, word_at}
use Rattle.numbers.proofs.Bytes.{word_number, number_same}
use Rattle.numbers.proofs.Ways.{byte-none, word_some}
use Rattle.plan.specs.declared.Gate.{Gate}
use Rattle.plan.specs.declared.Gate.TheVariants.{Input, Add, Scale, Offset, Multiply, Random, Spend}
use Rattle.plan.specs.declared.Layout.{Layout}
use Rattle.plan.specs.File.{layout_for, layout_of, field_at, gate_start, gate_place, out_place, point_place, gate_of, gate_from, gate_at, out_at, point_at}
use Rattle.plan.specs.Planned.{Gated}

-- ---- a gate by its kind
module _ (k s a b : ℕ) where
  pub gate_second : (s ≡ 0 → ⊥) → Input 0 ≡ gate_of k s a b
  unfolding gate_of
  gate_second h = rw (ne_eqb s 0 h)

  pub gate-input : (r : Gate) → s ≡ 0 → k ≡ 1 → r ≡ gate_of 1 0 a b → r ≡ gate_of k s a b
  gate-input r z e h = rw (z, e) h

  pub gate-add : s ≡ 0 → k ≡ 2 → Add a b ≡ gate_of k s a b
  unfolding gate_of
  gate-add z e = rw (z, e)

  pub gate-scale : s ≡ 0 → k ≡ 3 → Scale a b ≡ gate_of k s a b
  unfolding gate_of
  gate-scale z e = rw (z, e)

  pub gate-offset : s ≡ 0 → k ≡ 4 → Offset a b ≡ gate_of k s a b
  unfolding gate_of
  gate-offset z e = rw (z, e)

  pub gate-multiply : s ≡ 0 → k ≡ 5 → Multiply a b ≡ gate_of k s a b
  unfolding gate_of
  gate-multiply z e = rw (z, e)

  pub gate-random : (r : Gate) → s ≡ 0 → k ≡ 6 → r ≡ gate_of 6 0 a b → r ≡ gate_of k s a b
  gate-random r z e h = rw (z, e) h

  pub gate-spend : s ≡ 0 → k ≡ 7 → Spend a b ≡ gate_of k s a b
  unfolding gate_of
  gate-spend z e = rw (z, e)

  pub gate-other : s ≡ 0 → (k ≡ 1 → ⊥) → (k ≡ 2 → ⊥) → (k ≡ 3 → ⊥) → (k ≡ 4 → ⊥) → (k ≡ 5 → ⊥) → (k ≡ 6 → ⊥) → (k ≡ 7 → ⊥) → Input 0 ≡ gate_of k s a b
  unfolding gate_of
  gate-other z e1 e2 e3 e4 e5 e6 e7 = rw (z, ne_eqb k 1 e1, ne_eqb k 2 e2, ne_eqb k 3 e3, ne_eqb k 4 e4, ne_eqb k 5 e5, ne_eqb k 6 e6, ne_eqb k 7 e7)

pub input-some : (a b : ℕ) → b ≡ 0 → Input a ≡ gate_of 1 0 a b
unfolding gate_of
input-some a b e = rw (eq-eqb b 0 e)

pub input_none : (a b : ℕ) → (b ≡ 0 → ⊥) → Input 0 ≡ gate_of 1 0 a b
unfolding gate_of
input_none a b h = rw (ne_eqb b 0 h)

module _ (a b : ℕ) where
  pub random-some : a ≡ 0 → b ≡ 0 → Random ≡ gate_of 6 0 a b
  unfolding gate_of
  random-some e f = rw (eq-eqb a 0 e, eq-eqb b 0 f)

  pub random_first : (a ≡ 0 → ⊥) → Input 0 ≡ gate_of 6 0 a b
  unfolding gate_of
  random_first h = rw (ne_eqb a 0 h)

  pub random_second : (b ≡ 0 → ⊥) → Input 0 ≡ gate_of 6 0 a b
  unfolding gate_of
  random_second h = pick (eqb a 0)
    where
      pick : (t : Bool) → Input 0 ≡ cond (t && eqb b 0) Random (Input 0)
      pick true = rw (ne_eqb b 0 h)
      pick false = refl

-- what holds of each kind's gate, and of the input of party 0 that stands for what is none, holds of every gate that is read
module _ (P : Gate → Type 0) (k second a b : ℕ) (none : P (Input 0)) where
  either : (t : Bool) (x y : Gate) → (t ≡ true → P x) → P y → P (cond t x y)
  either true x y h o = h refl
  either false x y h o = o

  -- the gate of kind c, or another
  kind : (c : ℕ) (x y : Gate) → (k ≡ c → P x) → P y → P (cond (eqb k c) x y)
  kind c x y h o = either (eqb k c) x y (λ e. h (eqb-true k c e)) o

  pub gate_read :
      (k ≡ 1 → P (Input a)) → (k ≡ 2 → P (Add a b)) → (k ≡ 3 → P (Scale a b)) → (k ≡ 4 → P (Offset a b)) → (k ≡ 5 → P (Multiply a b)) → (k ≡ 6 → P Random)
      → (k ≡ 7 → P (Spend a b)) → P (gate_of k second a b)
  unfolding gate_of
  gate_read h1 h2 h3 h4 h5 h6 h7 =
      either (eqb second 0) _ (Input 0)
      (λ s.
      kind 1 _ _ (λ e. either (eqb b 0) (Input a) (Input 0) (λ z. h1 e) none)
      (kind 2 (Add a b) _ h2
      (kind 3 (Scale a b) _ h3
      (kind 4 (Offset a b) _ h4
      (kind 5 (Multiply a b) _ h5
      (kind 6 _ _ (λ e. either (eqb a 0 && eqb b 0) Random (Input 0) (λ z. h6 e) none)
      (kind 7 (Spend a b) (Input 0) h7 none)))))))
      none

-- ---- the layouts
-- what holds of each row holds of every version's layout
pub layout_rows :
    (P : Layout → Type 0) → P (record { head = 18; field = 2; point = 0 }) → P (record { head = 20; field = 2; point = 2 }) → P (record { head = 32; field = 4; point = 4 })
    → (v : ℕ) → P (layout_for v)
unfolding layout_for
layout_rows P a b c v = pick (eqb v 1) (eqb v 2)
  where
    pick :
        (x y : Bool)
        → P (cond x (record { head = 18; field = 2; point = 0 }) (cond y (record { head = 20; field = 2; point = 2 }) (record { head = 32; field = 4; point = 4 })))
    pick true y = a
    pick false true = b
    pick false false = c

-- a field has two bytes or four, and so has a point where there are any
pub field_long : (v : ℕ) → ((layout_for v).field ≡ 2 → ⊥) → (layout_for v).field ≡ 4
field_long = layout_rows (λ l. (l.field ≡ 2 → ⊥) → l.field ≡ 4) (λ h. absurd (h refl)) (λ h. absurd (h refl)) (λ h. refl)

pub point_long : (v : ℕ) → ((layout_for v).point ≡ 0 → ⊥) → ((layout_for v).point ≡ 2 → ⊥) → (layout_for v).point ≡ 4
point_long = layout_rows (λ l. (l.point ≡ 0 → ⊥) → (l.point ≡ 2 → ⊥) → l.point ≡ 4) (λ h k. absurd (h refl)) (λ h k. absurd (k refl)) (λ h k. refl)

pub layout_first : (v : ℕ) → v ≡ 1 → record { head = 18; field = 2; point = 0 } ≡ layout_for v
unfolding layout_for
layout_first v e = rw (eq-eqb v 1 e)

pub layout_second : (v : ℕ) → v ≡ 2 → record { head = 20; field = 2; point = 2 } ≡ layout_for v
unfolding layout_for
layout_second v e = rw e

pub layout_third : (v : ℕ) → (v ≡ 1 → ⊥) → (v ≡ 2 → ⊥) → record { head = 32; field = 4; point = 4 } ≡ layout_for v
unfolding layout_for
layout_third v h k = rw (ne_eqb v 1 h, ne_eqb v 2 k)

pub layout_read : (s : List ℕ) (v : ℕ) (l : Layout) → v ≡ get_or s 4 0 → l ≡ layout_for v → l ≡ layout_of s
layout_read s v l e f = f ∙ ap layout_for e

-- ---- numbers of four bytes
pub long-some : (s : List ℕ) (at x y : ℕ) → x ≡ word_at s at → y ≡ word_at s (at + 2) → x + 65536 * y ≡ number_at 4 s at
unfolding word_at number_at
long-some s at x y e f =
    let byte : ℕ → ℕ = λ k. get_or s k 0 in
    let b : byte (at + 1) ≡ byte (suc at) = ap byte (omega arith) in
    let c : byte (at + 2) ≡ byte (suc (suc at)) = ap byte (omega arith) in
    let d : byte (at + 2 + 1) ≡ byte (suc (suc (suc at))) = ap byte (omega arith) in
    omega (arith, b, c, d)

-- ---- fields and places, by the bytes of a field
module _ (s : List ℕ) (l : Layout) (el : l ≡ layout_of s) where
  module _ (two : l.field ≡ 2) where
    is-two : (layout_of s).field ≡ 2
    is-two = ap (λ (x : Layout). x.field) (sym el) ∙ two

    pub number_of_two : (at x : ℕ) → x ≡ word_at s at → x ≡ number_at l.field s at
    number_of_two at x e = e ∙ word_number s at ∙ rw two

  module _ (not-two : l.field ≡ 2 → ⊥) where
    is-four : (layout_of s).field ≡ 4
    is-four = field_long (get_or s 4 0) (λ e. not-two (ap (λ (x : Layout). x.field) el ∙ e))

    pub number_of_four : (at x : ℕ) → x ≡ number_at 4 s at → x ≡ number_at l.field s at
    number_of_four at x e = e ∙ sym (ap (λ (w : ℕ). number_at w s at) (ap (λ (x : Layout). x.field) el ∙ is-four))

  -- ---- a gate
  pub cut_there : (g at : ℕ) (r : Gate) → at ≡ gate_place s g → r ≡ gate_from l.field s at → r ≡ gate_at s g
  unfolding gate_at
  cut_there g at r ea er = er ∙ rw (ea, el)

  -- ---- and of a point
  at_none : l.point ≡ 0 → (layout_of s).point ≡ 0
  at_none e = ap (λ (x : Layout). x.point) (sym el) ∙ e

  at-two : l.point ≡ 2 → (layout_of s).point ≡ 2
  at-two e = ap (λ (x : Layout). x.point) (sym el) ∙ e

  at-four : (l.point ≡ 0 → ⊥) → (l.point ≡ 2 → ⊥) → (layout_of s).point ≡ 4
  at-four h k = point_long (get_or s 4 0) (λ e. h (ap (λ (x : Layout). x.point) el ∙ e)) (λ e. k (ap (λ (x : Layout). x.point) el ∙ e))

  pub point_placed : (i c at : ℕ) → c ≡ field_at s 4 → at ≡ out_place s c → at + l.point * i ≡ point_place s i
  unfolding point_place
  point_placed i c at ec ea = rw (← ec, ea, el)

  module _ (i : ℕ) where
    pub point-none : l.point ≡ 0 → i + 1 ≡ point_at s i
    unfolding point_at
    point-none e = rw (at_none e) (omega arith)

    module _ (h : l.point ≡ 0 → ⊥) (at x : ℕ) (ea : at ≡ point_place s i) where
      some-points : eqb (layout_of s).point 0 ≡ false
      some-points = ne_eqb (layout_of s).point 0 (λ e. h (ap (λ (x : Layout). x.point) el ∙ e))

      pub point-two : l.point ≡ 2 → x ≡ word_at s at → x ≡ point_at s i
      unfolding point_at
      point-two e ex = ex ∙ word_number s at ∙ rw (some-points, at-two e, ← ea)

      pub point-four : (l.point ≡ 2 → ⊥) → x ≡ number_at 4 s at → x ≡ point_at s i
      unfolding point_at
      point-four k ex = ex ∙ rw (some-points, at-four h k, ← ea)

pub place_next : (s : List ℕ) (g place size : ℕ) → place ≡ gate_place s g → size ≡ 2 + 2 * (layout_of s).field → place + size ≡ gate_place s (g + 1)
unfolding gate_place gate_start
place_next s g place size e f =
    let w : ℕ = 2 + 2 * (layout_of s).field in
    let next : w * (g + 1) ≡ w * g + w = omega arith in
    omega (arith, next)

-- ---- a number that the file has, read as four bytes of which the last are 0
four_bytes : (bs : List ℕ) → length bs ≤ 4 → number_at 4 (bs ++ drop (length bs) (0 ∷ 0 ∷ 0 ∷ 0 ∷ [])) 0 ≡ number_at (length bs) bs 0
unfolding number_at
four_bytes [] l = refl
four_bytes (a ∷ []) l = refl
four_bytes (a ∷ b ∷ []) l = refl
four_bytes (a ∷ b ∷ c ∷ []) l = refl
four_bytes (a ∷ b ∷ c ∷ d ∷ []) l = refl
four_bytes (a ∷ b ∷ c ∷ d ∷ e ∷ bs) l = absurd (omega arith)

read_bytes : (bs : List ℕ) → from_le_bytes w32 bs ≡ number_at 4 bs 0
unfolding number_at
read_bytes bs = omega arith

pub number_read : (s : List ℕ) (at w x : ℕ) (bs : List ℕ) → w ≤ 4 → at + w ≤ length s → bs ≡ take (at + w - at) (drop at s) → x ≡ from_le_bytes w32 (bs ++ drop w (0 ∷ 0 ∷ 0 ∷ 0 ∷ []))
    → x ≡ number_at w s at
number_read s at w x bs few there eb ex =
    let size : at + w - at ≡ w = omega arith in
    let bytes : bs ≡ take w (drop at s) = eb ∙ ap (λ (n : ℕ). take n (drop at s)) size in
    let long : length bs ≡ w = omega (arith, ap length bytes, length-take w (drop at s), length-drop at s) in
    let all : x ≡ number_at 4 (bs ++ drop w (0 ∷ 0 ∷ 0 ∷ 0 ∷ [])) 0 = ex ∙ read_bytes (bs ++ drop w (0 ∷ 0 ∷ 0 ∷ 0 ∷ [])) in
    all ∙ rw (← long) (four_bytes bs (omega arith))
    ∙ number_same w bs s 0 at (λ k l. let z : 0 + k ≡ k = omega arith in rw z (ap (λ (r : List ℕ). get_or r k 0) bytes ∙ get_or-take w (drop at s) k 0 l ∙ get_or-drop at s k 0))

pub place_of : (s : List ℕ) (l : Layout) (g at : ℕ) → l ≡ layout_of s → at ≡ gate_start l g → at ≡ gate_place s g
unfolding gate_place
place_of s l g at el e = e ∙ ap (λ (x : Layout). gate_start x g) el

-- ---- the gates of a file that has all their bytes
module _ (s : List ℕ) (l : Layout) (count g : ℕ) (w : Gated s l count) (below : g < count) where
  pub place_there : (at : ℕ) → at ≡ gate_start l g → at + (2 + 2 * l.field) ≤ length s
  unfolding gate_place gate_start
  place_there at e =
      let more : (2 + 2 * l.field) * (g + 1) ≤ (2 + 2 * l.field) * count = mul-le-mul_left (2 + 2 * l.field) (omega arith) in
      let next : (2 + 2 * l.field) * (g + 1) ≡ (2 + 2 * l.field) * g + (2 + 2 * l.field) = omega arith in
      let all : l.head + (2 + 2 * l.field) * count ≤ length s = rw w.is w.long in
      omega arith

  module _ (at : ℕ) (x : Gate) (ea : at ≡ gate_place s g) where
    pub gate-two : l.field ≡ 2 → x ≡ gate_from 2 s at → x ≡ gate_at s g
    unfolding gate_at
    gate-two two ex = ex ∙ rw (← w.is, two, ea)

    pub gate-four : (l.field ≡ 2 → ⊥) → x ≡ gate_from 4 s at → x ≡ gate_at s g
    unfolding gate_at
    gate-four not-two ex = ex ∙ rw (is-four s l w.is not-two, ea)

pub gated_next : (s : List ℕ) (g at : ℕ) (l : Layout) → g < 4294967296 → l ≡ layout_of s → l.head ≤ 32 → l.field ≤ 4 → at ≡ gate_start l g → at + (2 + 2 * l.field) ≤ length s → Gated s l (g + 1)
gated_next s g at l f e h n ea w =
    let size : 2 + 2 * l.field ≡ 2 + 2 * (layout_of s).field = ap (λ (x : Layout). 2 + 2 * x.field) e in
    record { is = e; high = h; narrow = n; few = omega arith; long = omega (arith, place_next s g at (2 + 2 * l.field) (place_of s l g at e ea) size) }

-- ---- from gate to gate
pub size-some : (s : List ℕ) (l : Layout) → l ≡ layout_of s → 2 + 2 * l.field ≡ 2 + 2 * (layout_of s).field
size-some s l e = rw e

pub place_small : (s : List ℕ) (g : ℕ) → gate_place s g ≤ 32 + 10 * g
unfolding gate_place gate_start
place_small s g = layout_rows (λ l. l.head + (2 + 2 * l.field) * g ≤ 32 + 10 * g) (omega arith) (omega arith) (omega arith) (get_or s 4 0)

-- ---- an out, and where it stands
pub out_places : (s : List ℕ) (o c at : ℕ) → c ≡ field_at s 2 → at ≡ gate_place s c → at + 3 * o ≡ out_place s o
unfolding out_place
out_places s o c at ec ea = rw (← ec, ← ea)

pub out_some : (s : List ℕ) (o at a b : ℕ) → at ≡ out_place s o → a ≡ get_or s at 0 → b ≡ word_at s (at + 1) → record { party = a; wire = b } ≡ out_at s o
unfolding out_at
out_some s o at a b e f i = rw (f, i, e)

pub start_high : (head field g : ℕ) → head ≤ 32 → field ≤ 4 → g ≤ 4294967296 → head + (2 + 2 * field) * g < 50000000000
start_high head field g a b c =
    let e : (2 + 2 * field) * g ≤ 10 * g = mul-le-mul_right g (omega arith) in
    omega arith

pub field_number : (s : List ℕ) (l : Layout) (k x : ℕ) → l ≡ layout_of s → x ≡ number_at l.field s (8 + l.field * k) → x ≡ field_at s k
unfolding field_at
field_number s l k x el e = e ∙ ap (λ (m : Layout). number_at m.field s (8 + m.field * k)) el

pub field_high : (w k : ℕ) → w ≤ 4 → k < 6 → w * k ≤ 20
field_high w k a b =
    let e : w * k ≤ 4 * k = mul-le-mul_right k a in
    omega arith

pub point_high : (at w i : ℕ) → at < 70000000000 → w ≤ 4 → i < 256 → at + w * i < 75000000000
point_high at w i l a b =
    let e : w * i ≤ 4 * i = mul-le-mul_right i a in
    omega arith

-- As it is: answers name this set, since the check leaves their goals open by `using` alone.
pub ruleset pointing = (rules, point_placed, point_high)

pub ruleset fielding = (rules, field_number, field_high)

pub ruleset starting = (rules, start_high)

pub ruleset reading = (rules, byte-none, word_some, long-some, layout_first, layout_second, layout_third, layout_read, number_of_two, number_of_four, cut_there, point-none, point-two, point-four, size-some, out_places, out_some, number_read, place_of, place_there, gate-two, gate-four, gated_next, gate_second, gate-input, gate-add, gate-scale, gate-offset, gate-multiply, gate-random, gate-spend, gate-other, input-some, input_none, random-some, random_first, random_second)
