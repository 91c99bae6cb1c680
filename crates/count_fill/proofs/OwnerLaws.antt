-- The owners of coins as they are written, one byte a coin.
--     repeating                one dealing's coins
--     Dealers, dealing         the loop over the dealings by parties 1 to m
--     gating                   a gate, by its kind
--     Owned, owning            the loop over the gates
-- Assumes nothing.
use Prim.Native.Nat.{ℕ, zero, suc, ◌+◌, ◌-◌, ◌*◌, ◌^◌, ◌<◌, ◌≤◌}
use mathlib.Core.Path.{◌≡◌, refl, sym, ap, ap₂, subst, ◌∙◌}
use mathlib.Core.List.{List, [], ◌∷◌, ◌++◌, flat_map, append_assoc, append-nil}
use native.Mathlib.Numerals.{add-one}
use native.Mathlib.Omega.{arith}
use borrow.Author.Rules.{rules}
use borrow.Rule.Slice.PartMut.{put_mid}
use Rattle.std.proofs.lemmas.Slice.{take-put_mid}
use lib.ListN.{length, take, drop, get_or, replicate, length-replicate, length-append, length-drop}
use lib.Seq.{length-take-le, take_all, take-suc}
use mir.Syntax.{w64}
use mir.Val.{Fits}
use Rattle.numbers.specs.Tables.{tab}
use Rattle.numbers.proofs.Tables.{tab-next, length-tab, row_room}
use Rattle.numbers.proofs.Rows.{flat-snoc, flat-length}
use Rattle.plan.specs.declared.Gate.{Gate}
use Rattle.plan.specs.declared.Gate.TheVariants.{Input, Multiply, Random}
use Rattle.plan.specs.declared.Rule.TheVariants.{Reduction, Truncation}
use Rattle.plan.specs.declared.Header.{Header}
use Rattle.plan.specs.Plans.{kind_of, is_kind, multiplying, coin_owners_at, coin_owners, coin_count}
use Rattle.plan.specs.File.{gate_at, gate_ok, plan_of}
use Rattle.plan.specs.Planned.{Planned}
use Rattle.plan.proofs.Planned.{between-true, plan_t, plan_n, plan_rule, plan_dealers, plan_gates, plan_gate}
use Rattle.plan.proofs.Valid.{gate-kept, gate_majority}
use Rattle.run_protocol.proofs.Owners.{blocks, blocks_of}
use Rattle.run_protocol.proofs.Dealt.{input-owners, reduction-owners, truncation-owners, random-owners}
use Rattle.count_fill.specs.Filling.{Put}

-- ---- one after the other
pub put-none : (at : ℕ) (d : List ℕ) → Put [] at d d at
put-none at d = record { place = omega arith; front = sym (append-nil (take at d)) }

pub put_then : (xs ys : List ℕ) (at next r : ℕ) (d e f : List ℕ) → Put xs at d e next → Put ys next e f r → Put (xs ++ ys) at d f r
put_then xs ys at next r d e f a b = record {
  place = omega (arith, a.place, b.place, length-append xs ys);
  front = b.front ∙ ap (λ (l : List ℕ). l ++ ys) a.front ∙ append_assoc (take at d) xs ys;
}

pub put_as : (xs ys : List ℕ) (at r : ℕ) (d e : List ℕ) → xs ≡ ys → Put xs at d e r → Put ys at d e r
put_as xs ys at r d e q p = subst (λ (l : List ℕ). Put l at d e r) q p

-- ---- one dealing
pub put_filled : (i k at : ℕ) (d ys : List ℕ) → at + k ≤ length d → ys ≡ replicate (length (take (at + k - at) (drop at d))) i → Put (replicate k i) at d (put_mid at (at + k - at) d ys) (at + k)
put_filled i k at d ys l e =
    let n : length (take (at + k - at) (drop at d)) ≡ k = omega (arith, length-take-le (at + k - at) (drop at d), length-drop at d) in
    let f : ys ≡ replicate k i = e ∙ ap (λ (m : ℕ). replicate m i) n in
    record {
      place = omega (arith, length-replicate {A = ℕ} k i);
      front = take-put_mid at (at + k - at) d ys (at + k) (omega (arith, ap length f, length-replicate {A = ℕ} k i)) (omega arith) ∙ ap (λ (l : List ℕ). take at d ++ l) f;
    }

pub place_fits : (at k : ℕ) (d : List ℕ) → at + k ≤ length d → length d < 2 ^ 64 → Fits w64 (at + k)
place_fits at k d l f = record { fits = omega arith }

pub ruleset repeating = (rules, put_filled, place_fits)

-- ---- the dealings by parties 1 to m
abbrev pub dealt : ℕ → ℕ → List ℕ
dealt t m = flat_map (replicate t) (tab suc m)

dealt_long : (t m : ℕ) → length (dealt t m) ≡ t * m
dealt_long t m = flat-length (replicate t) t (λ i. length-replicate {A = ℕ} t i) (tab suc m) ∙ ap (λ (n : ℕ). t * n) (length-tab suc m)

pub record Dealers (m t at : ℕ) (d₀ d : List ℕ) (next i : ℕ) : Type 0 where
  pub within : i ≤ m
  pub few : m ≤ 15
  pub room : at + t * m ≤ length d₀
  pub long : length d ≡ length d₀
  pub put : Put (dealt t i) at d₀ d next

pub dealers-none : (m t at : ℕ) (d : List ℕ) → m ≤ 15 → at + t * m ≤ length d → Dealers m t at d d at 0
unfolding flat_map tab
dealers-none m t at d f l = record { within = omega arith; few = f; room = l; long = refl; put = put-none at d }

module _ (m t at : ℕ) (d₀ d : List ℕ) (next i : ℕ) (h : Dealers m t at d₀ d next i) where
  pub dealers_party : i < m → i + 1 < 256
  dealers_party l = omega (arith, h.few)

  pub dealers_room : i < m → next + t ≤ length d
  dealers_room l = omega (arith, h.room, h.long, h.put.place, dealt_long t i, row_room t i m l)

  pub dealers_next : (e : List ℕ) (r : ℕ) → i < m → length e ≡ length d → Put (replicate t (i + 1)) next d e r → Dealers m t at d₀ e r (i + 1)
  dealers_next e r l le p = record {
    within = omega arith;
    few = h.few;
    room = h.room;
    long = le ∙ h.long;
    put =
        put_as (dealt t i ++ replicate t (i + 1)) (dealt t (i + 1)) at r d₀ e
        (sym (ap (flat_map (replicate t)) (tab-next suc i) ∙ flat-snoc (replicate t) (tab suc i) (suc i) ∙ ap (λ (n : ℕ). dealt t i ++ replicate t n) (sym (add-one i))))
        (put_then (dealt t i) (replicate t (i + 1)) at next r d₀ d e h.put p);
  }

  pub dealers_done : m ≤ i → Put (dealt t m) at d₀ d next
  dealers_done l = let q : i ≡ m = omega (arith, h.within) in subst (λ (n : ℕ). Put (dealt t n) at d₀ d next) q h.put

-- As it is: answers name this set, since the check leaves their goals open by `using` alone.
pub ruleset dealing = (rules, dealers-none, dealers_party, dealers_room, dealers_next, dealers_done)

-- ---- a gate
dealt_blocks : (t m : ℕ) → dealt t m ≡ blocks t 0 m
dealt_blocks t m = blocks_of t 0 m (replicate t) suc (λ k l. let e : k ≡ 0 + k = omega arith in ap (λ (n : ℕ). replicate t (suc n)) e)

module _ (bs : List ℕ) (h : Header) (pl : Planned bs h) (g : ℕ) (l : g < h.gates) (gate : Gate) (is : gate ≡ gate_at bs g) where
  pub input_party : (s : ℕ) → gate ≡ Input s → s < 256
  unfolding gate_ok
  input_party s e = omega (arith, (between-true 1 h.n s (rw e at (gate-kept bs h pl g gate l is))).1, pl.n-high)

  pub dealers_few : (a b : ℕ) → gate ≡ Multiply a b → h.t + h.t + 1 ≤ 15
  unfolding multiplying is_kind kind_of
  dealers_few a b e = omega (arith, gate_majority bs h pl g gate l is (rw e refl), pl.n-high)

  at_gate : (x : Gate) (xs : List ℕ) → gate ≡ x → coin_owners_at (plan_of bs) x ≡ xs → xs ≡ coin_owners_at (plan_of bs) (gate_at bs g)
  at_gate x xs e o = sym o ∙ ap (coin_owners_at (plan_of bs)) (sym e ∙ is)

  owners-input : (s : ℕ) → gate ≡ Input s → replicate h.t s ≡ coin_owners_at (plan_of bs) (gate_at bs g)
  owners-input s e = at_gate (Input s) (replicate h.t s) e (input-owners (plan_of bs) s ∙ ap (λ (t : ℕ). replicate t s) (plan_t pl))

  owners-reduction : (a b : ℕ) → gate ≡ Multiply a b → h.rule ≡ Reduction → dealt h.t (h.t + h.t + 1) ≡ coin_owners_at (plan_of bs) (gate_at bs g)
  owners-reduction a b e r =
      at_gate (Multiply a b) (dealt h.t (h.t + h.t + 1)) e
      (reduction-owners (plan_of bs) a b (plan_rule pl ∙ r) ∙ ap₂ (λ (t m : ℕ). blocks t 0 m) (plan_t pl) (plan_dealers pl) ∙ sym (dealt_blocks h.t (h.t + h.t + 1)))

  owners-truncation : (a b : ℕ) → gate ≡ Multiply a b → h.rule ≡ Truncation → dealt (3 * h.t) h.n ≡ coin_owners_at (plan_of bs) (gate_at bs g)
  owners-truncation a b e r =
      at_gate (Multiply a b) (dealt (3 * h.t) h.n) e
      (truncation-owners (plan_of bs) a b (plan_rule pl ∙ r) ∙ ap₂ (λ (t m : ℕ). blocks (3 * t) 0 m) (plan_t pl) (plan_n pl) ∙ sym (dealt_blocks (3 * h.t) h.n))

  owners-random : gate ≡ Random → dealt h.t h.n ≡ coin_owners_at (plan_of bs) (gate_at bs g)
  owners-random e =
      at_gate Random (dealt h.t h.n) e (random-owners (plan_of bs) ∙ ap₂ (λ (t m : ℕ). blocks t 0 m) (plan_t pl) (plan_n pl) ∙ sym (dealt_blocks h.t h.n))

  module _ (at : ℕ) (d : List ℕ) (room : at + length (coin_owners_at (plan_of bs) (gate_at bs g)) ≤ length d) where
    pub input-room : (s : ℕ) → gate ≡ Input s → at + h.t ≤ length d
    input-room s e = omega (arith, ap length (owners-input s e), length-replicate {A = ℕ} h.t s)

    pub reduction-room : (a b : ℕ) → gate ≡ Multiply a b → h.rule ≡ Reduction → at + h.t * (h.t + h.t + 1) ≤ length d
    reduction-room a b e r = omega (arith, ap length (owners-reduction a b e r), dealt_long h.t (h.t + h.t + 1))

    pub truncation-room : (a b : ℕ) → gate ≡ Multiply a b → h.rule ≡ Truncation → at + 3 * h.t * h.n ≤ length d
    truncation-room a b e r = omega (arith, ap length (owners-truncation a b e r), dealt_long (3 * h.t) h.n)

    pub random-room : gate ≡ Random → at + h.t * h.n ≤ length d
    random-room e = omega (arith, ap length (owners-random e), dealt_long h.t h.n)

  module _ (at r : ℕ) (d e : List ℕ) where
    pub put_input : (s : ℕ) → gate ≡ Input s → Put (replicate h.t s) at d e r → Put (coin_owners_at (plan_of bs) (gate_at bs g)) at d e r
    put_input s q p = put_as _ _ at r d e (owners-input s q) p

    pub put-reduction : (a b : ℕ) → gate ≡ Multiply a b → h.rule ≡ Reduction → Put (dealt h.t (h.t + h.t + 1)) at d e r → Put (coin_owners_at (plan_of bs) (gate_at bs g)) at d e r
    put-reduction a b q o p = put_as _ _ at r d e (owners-reduction a b q o) p

    pub put-truncation : (a b : ℕ) → gate ≡ Multiply a b → h.rule ≡ Truncation → Put (dealt (3 * h.t) h.n) at d e r → Put (coin_owners_at (plan_of bs) (gate_at bs g)) at d e r
    put-truncation a b q o p = put_as _ _ at r d e (owners-truncation a b q o) p

    pub put-random : gate ≡ Random → Put (dealt h.t h.n) at d e r → Put (coin_owners_at (plan_of bs) (gate_at bs g)) at d e r
    put-random q p = put_as _ _ at r d e (owners-random q) p

pub few-parties : (bs : List ℕ) (h : Header) → Planned bs h → h.n ≤ 15
few-parties bs h pl = pl.n-high

-- As it is: answers name this set, since the check leaves their goals open by `using` alone.
pub ruleset gating = (
  rules,
  few-parties,
  input_party,
  dealers_few,
  input-room,
  reduction-room,
  truncation-room,
  random-room,
  put_input,
  put-reduction,
  put-truncation,
  put-random,
  put-none,
)

-- ---- the gates
pub record Owned (bs : List ℕ) (h : Header) (d₀ d : List ℕ) (at g : ℕ) : Type 0 where
  pub within : g ≤ h.gates
  pub room : coin_count (plan_of bs) ≤ length d₀
  pub long : length d ≡ length d₀
  pub put : Put (flat_map (coin_owners_at (plan_of bs)) (take g (plan_of bs).gates)) 0 d₀ d at

pub owned-none : (bs : List ℕ) (h : Header) (d : List ℕ) → coin_count (plan_of bs) ≤ length d → Owned bs h d d 0 0
unfolding flat_map
owned-none bs h d l = record { within = omega arith; room = l; long = refl; put = put-none 0 d }

within_all : (f : Gate → List ℕ) (gs : List Gate) (g : ℕ) → length (flat_map f (take g gs)) ≤ length (flat_map f gs)
unfolding flat_map
within_all f gs zero = omega arith
within_all f [] (suc g) = omega arith
within_all f (x ∷ gs) (suc g) =
    omega (arith, length-append (f x) (flat_map f (take g gs)), length-append (f x) (flat_map f gs), within_all f gs g)

module _ (bs : List ℕ) (h : Header) (d₀ d : List ℕ) (at g : ℕ) (o : Owned bs h d₀ d at g) (pl : Planned bs h) where
  taken : g < h.gates → flat_map (coin_owners_at (plan_of bs)) (take (g + 1) (plan_of bs).gates)
      ≡ flat_map (coin_owners_at (plan_of bs)) (take g (plan_of bs).gates) ++ coin_owners_at (plan_of bs) (gate_at bs g)
  taken l =
      ap (λ (n : ℕ). flat_map (coin_owners_at (plan_of bs)) (take n (plan_of bs).gates)) (add-one g)
      ∙ ap (flat_map (coin_owners_at (plan_of bs))) (take-suc (plan_of bs).gates g (Input 0) (rw (plan_gates pl) l))
      ∙ flat-snoc (coin_owners_at (plan_of bs)) (take g (plan_of bs).gates) (get_or (plan_of bs).gates g (Input 0))
      ∙ ap (λ (x : Gate). flat_map (coin_owners_at (plan_of bs)) (take g (plan_of bs).gates) ++ coin_owners_at (plan_of bs) x) (plan_gate pl g l)

  pub owned_room : g < h.gates → at + length (coin_owners_at (plan_of bs) (gate_at bs g)) ≤ length d
  unfolding coin_count coin_owners
  owned_room l =
      omega (
        arith,
        o.room,
        o.long,
        o.put.place,
        ap length (taken l),
        length-append (flat_map (coin_owners_at (plan_of bs)) (take g (plan_of bs).gates)) (coin_owners_at (plan_of bs) (gate_at bs g)),
        within_all (coin_owners_at (plan_of bs)) (plan_of bs).gates (g + 1),
      )

  pub owned_next : (e : List ℕ) (r : ℕ) → g < h.gates → length e ≡ length d → Put (coin_owners_at (plan_of bs) (gate_at bs g)) at d e r → Owned bs h d₀ e r (g + 1)
  owned_next e r l le p = record {
    within = omega arith;
    room = o.room;
    long = le ∙ o.long;
    put =
        put_as _ _ 0 r d₀ e (sym (taken l))
        (put_then (flat_map (coin_owners_at (plan_of bs)) (take g (plan_of bs).gates)) (coin_owners_at (plan_of bs) (gate_at bs g)) 0 at r d₀ d e o.put p);
  }

  pub owned_done : h.gates ≤ g → take (coin_count (plan_of bs)) d ≡ coin_owners (plan_of bs)
  unfolding coin_owners coin_count
  owned_done l =
      let all : take g (plan_of bs).gates ≡ (plan_of bs).gates = take_all g (plan_of bs).gates (omega (arith, plan_gates pl)) in
      let end : at ≡ length (flat_map (coin_owners_at (plan_of bs)) (plan_of bs).gates) = omega (arith, o.put.place, ap (λ (gs : List Gate). length (flat_map (coin_owners_at (plan_of bs)) gs)) all) in
      ap (λ (n : ℕ). take n d) (sym end) ∙ o.put.front ∙ ap (flat_map (coin_owners_at (plan_of bs))) all

-- As it is: answers name this set, since the check leaves their goals open by `using` alone.
pub ruleset owning = (rules, owned-none, owned_room, owned_next, owned_done)
