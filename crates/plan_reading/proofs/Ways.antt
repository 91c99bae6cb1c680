-- What each way through the reader says of its definition.
--     points-pass          points 1 to n are apart and below p
--     ruling, majorities, pointing, laying, placing, contents, body, last, reads     what closes the needs of the functions that read a plan
-- Assumes nothing.
use Rattle.std.proofs.Common.{Option, Some, None, Ok, Err, option_map}
use mathlib.Core.Path.{◌≡◌, refl, sym, ap, ◌∙◌}
use mathlib.Core.Bool.{Bool, true, false, cond, not, ◌&&◌}
use mathlib.Core.List.{List}
use Prim.Native.Nat.{ℕ, suc, ◌*◌, ◌<◌, ◌≤◌}
use native.Mathlib.Omega.{arith}
use borrow.Author.Rules.{rules}
use borrow.Author.Tests.{not-true, not-false, lt-ltb, le-ltb, le-leb, lt-leb, eq-eqb, ne_eqb}
use lib.Dec.{eqb, leb, ltb}
use lib.ListN.{length, get_or, take, drop, take-append-drop}
use Rattle.numbers.specs.Tables.{first_failing}
use Rattle.numbers.proofs.Searches.{passes-nothing}
use Rattle.field.specs.declared.Field.{Field}
use Rattle.field.specs.declared.Field.{Field}
use Rattle.field.specs.Prime.{is_prime}
use Rattle.field.specs.Field.{made_of}
use Rattle.plan.specs.declared.Gate.{Gate}
use Rattle.plan.specs.declared.Output.{Output}
use Rattle.plan.specs.declared.Layout.{Layout}
use Rattle.plan.specs.declared.Rule.{Rule}
use Rattle.plan.specs.Planned.{HeaderOf}
use Rattle.plan.specs.Refusals.{Checked}
use Rattle.plan.specs.declared.Refusal.{Refusal}
use Rattle.plan.specs.declared.Refusal.TheVariants as refusal
use Rattle.plan.specs.Refusals.{first_of, and_then, need, unless_found}
use Rattle.plan.specs.Plans.{multiplying}
use Rattle.plan.proofs.Ranges.{contains_is}
use Rattle.plan.proofs.Refusals.{and_then_passed, and_then_refused, first_of-append}
use Rattle.plan.specs.File.{magic, same_bytes, between, parties_ok, threshold_ok, modulus_limit, modulus_ok, field_above, rule_for, layout_of, field_at, gate_place, out_place, point_place, gate_at, point_at, out_ok, majority_ok, gate_kept, out_kept, majority_kept, found_none, point_apart, point_kept, points_placed, layout_ok, majority_check, points_check, plan_checks, plan_check}

-- ---- an out's rule
module _ (n gates : ℕ) (o : Output) (t : Bool) (e : t ≡ between 1 n o.party) where
  pub rule_no_party : t ≡ false → false ≡ out_ok n gates o
  unfolding out_ok
  rule_no_party f = rw (← e, f)

  pub rule_wire : t ≡ true → ltb o.wire gates ≡ out_ok n gates o
  unfolding out_ok
  rule_wire f = rw (← e, f)

pub ruleset ruling = (rules, not-true, not-false, contains_is, rule_no_party, rule_wire)

-- ---- the gate that lacks its majority
pub multiplies_as : (g q : Gate) (m : Bool) → g ≡ q → m ≡ multiplying q → m ≡ multiplying g
multiplies_as g q m e f = f ∙ sym (ap multiplying e)

module _ (bs : List ℕ) (n t : ℕ) (en : n ≡ get_or bs 5 0) (et : t ≡ get_or bs 6 0) where
  kept_by : (g : ℕ) (m : Bool) → m ≡ multiplying (gate_at bs g) → cond m (ltb (2 * t) n) true ≡ majority_kept bs g
  unfolding majority_kept majority_ok
  kept_by g m e = rw (← en, ← et, ← e)

  pub majority-all : 2 * t < n → None ≡ first_failing (majority_kept bs) (field_at bs 2)
  majority-all l = sym (passes-nothing (majority_kept bs) (field_at bs 2) (λ g k. sym (kept_by g (multiplying (gate_at bs g)) refl) ∙ rw (lt-ltb (2 * t) n l) (both (multiplying (gate_at bs g)))))
    where
      both : (m : Bool) → cond m true true ≡ true
      both true = refl
      both false = refl

module _ (bs : List ℕ) (f : Option ℕ) (e : f ≡ first_failing (majority_kept bs) (field_at bs 2)) where
  pub majority-lacking : (g : ℕ) → f ≡ Some g → Err refusal.Majority ≡ majority_check bs
  unfolding majority_check unless_found
  majority-lacking g h = rw (← e, h)

  pub majority-there : f ≡ None → (Ok tt) ≡ majority_check bs
  unfolding majority_check unless_found
  majority-there h = rw (← e, h)

pub ruleset majorities = (rules, multiplies_as, majority-all, majority-lacking, majority-there)

-- ---- the points
module _ (bs : List ℕ) (i : ℕ) where
  pub apart-is : (x y j : ℕ) (t : Bool) → x ≡ point_at bs i → y ≡ point_at bs j → t ≡ not (eqb y x) → t ≡ point_apart bs i j
  unfolding point_apart
  apart-is x y j t e f h = rw (← e, ← f) h

  module _ (x : ℕ) (ex : x ≡ point_at bs i) where
    pub point-zero : x ≡ 0 → false ≡ point_kept bs i
    unfolding point_kept
    point-zero e = rw (← ex, e)

    module _ (p : ℕ) (ep : p ≡ field_at bs 0) (ne : x ≡ 0 → ⊥) where
      pub point-large : p ≤ x → false ≡ point_kept bs i
      unfolding point_kept
      point-large l = rw (← ex, ← ep, lt-ltb 0 x (omega arith), le-ltb x p l)

      module _ (l : x < p) (f : Option ℕ) (ef : f ≡ first_failing (point_apart bs i) i) where
        pub point-earlier : (j : ℕ) → f ≡ Some j → false ≡ point_kept bs i
        unfolding point_kept found_none
        point-earlier j e = rw (← ex, ← ep, lt-ltb 0 x (omega arith), lt-ltb x p l, ← ef, e)

        pub point-new : f ≡ None → true ≡ point_kept bs i
        unfolding point_kept found_none
        point-new e = rw (← ex, ← ep, lt-ltb 0 x (omega arith), lt-ltb x p l, ← ef, e)

-- points 1 to n pass where p is above n
module _ (bs : List ℕ) (is : (i : ℕ) → i < get_or bs 5 0 → point_at bs i ≡ suc i) where
  first-apart : (i j : ℕ) → i < get_or bs 5 0 → j < i → point_apart bs i j ≡ true
  unfolding point_apart
  first-apart i j l m = rw (is i l, is j (omega arith), ne_eqb (suc j) (suc i) (λ e. omega arith))

  first-kept : get_or bs 5 0 < field_at bs 0 → (i : ℕ) → i < get_or bs 5 0 → point_kept bs i ≡ true
  unfolding point_kept found_none
  first-kept l i m = rw (is i m, lt-ltb 0 (suc i) (omega arith), lt-ltb (suc i) (field_at bs 0) (omega arith), passes-nothing (point_apart bs i) i (λ j k. first-apart i j m k))

  pub points-pass : get_or bs 5 0 < field_at bs 0 → first_failing (point_kept bs) (get_or bs 5 0) ≡ None
  points-pass l = passes-nothing (point_kept bs) (get_or bs 5 0) (first-kept l)

-- and so they are in a file without points
pub point-is : (bs : List ℕ) → (layout_of bs).point ≡ 0 → (i : ℕ) → point_at bs i ≡ suc i
unfolding point_at
point-is bs v i = rw (eq-eqb (layout_of bs).point 0 v)

pub first_points : (bs : List ℕ) (w : Layout) (n p : ℕ) → w ≡ layout_of bs → n ≡ get_or bs 5 0 → p ≡ field_at bs 0 → w.point ≡ 0 → n < p → None ≡ first_failing (point_kept bs) (get_or bs 5 0)
first_points bs w n p ew en ep h l = sym (points-pass bs (λ i m. point-is bs (ap (λ (x : Layout). x.point) (sym ew) ∙ h) i) (rw (← en, ← ep) l))

pub all_points : (bs : List ℕ) (n : ℕ) (f : Option ℕ) → n ≡ get_or bs 5 0 → f ≡ first_failing (point_kept bs) n → f ≡ first_failing (point_kept bs) (get_or bs 5 0)
all_points bs n f e h = rw (← e) h

pub ruleset pointing = (rules, apart-is, point-zero, point-large, point-earlier, point-new, first_points, all_points)

-- ---- the layout
module _ (s : List ℕ) where
  module _ (z : ℕ) (ez : z ≡ get_or s 7 0) where
    pub layout-zero : (z ≡ 0 → ⊥) → false ≡ layout_ok s
    unfolding layout_ok
    layout-zero h = rw (← ez, ne_eqb z 0 h)

    module _ (hz : z ≡ 0) (d : ℕ) (ed : d ≡ gate_place s 0) (a : ℕ) (ea : a ≡ field_at s 1) where
      pub layout-gates-offset : (a ≡ d → ⊥) → false ≡ layout_ok s
      unfolding layout_ok
      layout-gates-offset h = rw (← ez, eq-eqb z 0 hz, ← ea, ← ed, ne_eqb a d h)

      module _ (ha : a ≡ d) (g : ℕ) (eg : g ≡ field_at s 2) (t : Bool) (et : t ≡ between 1 1024 g) where
        pub layout-gates : t ≡ false → false ≡ layout_ok s
        unfolding layout_ok
        layout-gates h = rw (← ez, eq-eqb z 0 hz, ← ea, ← ed, eq-eqb a d ha, ← eg, ← et, h)

        pub layout-further : t ≡ true → (r : Bool) → r ≡ (eqb (field_at s 3) (out_place s 0) && (leb (field_at s 4) 64 && points_placed s)) → r ≡ layout_ok s
        unfolding layout_ok
        layout-further h r e = rw (← ez, eq-eqb z 0 hz, ← ea, ← ed, eq-eqb a d ha, ← eg, ← et, h) e

module _ (s : List ℕ) (at : ℕ) (ea : at ≡ out_place s 0) (b : ℕ) (eb : b ≡ field_at s 3) where
  pub outs-displaced : (b ≡ at → ⊥) → false ≡ (eqb (field_at s 3) (out_place s 0) && (leb (field_at s 4) 64 && points_placed s))
  outs-displaced h = rw (← eb, ← ea, ne_eqb b at h)

  module _ (hb : b ≡ at) (o : ℕ) (eo : o ≡ field_at s 4) (u : Bool) (eu : u ≡ leb o 64) where
    pub outs-many : u ≡ false → false ≡ (eqb (field_at s 3) (out_place s 0) && (leb (field_at s 4) 64 && points_placed s))
    outs-many h = rw (← eb, ← ea, eq-eqb b at hb, ← eo, ← eu, h)

    pub outs-further : u ≡ true → (r : Bool) → r ≡ points_placed s → r ≡ (eqb (field_at s 3) (out_place s 0) && (leb (field_at s 4) 64 && points_placed s))
    outs-further h r e = rw (← eb, ← ea, eq-eqb b at hb, ← eo, ← eu, h) e

-- the points' offset where there are points, and the end
pub placed_end : (s : List ℕ) (e n : ℕ) → n ≡ get_or s 5 0 → e ≡ point_place s n → eqb (length s) e ≡ eqb (length s) (point_place s (get_or s 5 0))
placed_end s e n en ee = rw (ee, en)

module _ (s : List ℕ) (w : Layout) (ew : w ≡ layout_of s) where
  pub placed-none : w.point ≡ 0 → (r : Bool) → r ≡ eqb (length s) (point_place s (get_or s 5 0)) → r ≡ points_placed s
  unfolding points_placed
  placed-none h r e = rw (eq-eqb (layout_of s).point 0 (ap (λ (x : Layout). x.point) (sym ew) ∙ h)) e

  module _ (h : w.point ≡ 0 → ⊥) (b at : ℕ) (eb : b ≡ field_at s 5) (ea : at ≡ point_place s 0) where
    some : eqb (layout_of s).point 0 ≡ false
    some = ne_eqb (layout_of s).point 0 (λ e. h (ap (λ (x : Layout). x.point) ew ∙ e))

    pub placed-elsewhere : (b ≡ at → ⊥) → false ≡ points_placed s
    unfolding points_placed
    placed-elsewhere d = rw (some, ← eb, ← ea, ne_eqb b at d)

    pub placed-some : b ≡ at → (r : Bool) → r ≡ eqb (length s) (point_place s (get_or s 5 0)) → r ≡ points_placed s
    unfolding points_placed
    placed-some q r e = rw (some, ← eb, ← ea, eq-eqb b at q) e

pub ruleset laying = (rules, not-true, not-false, layout-zero, layout-gates-offset, layout-gates, layout-further, outs-displaced, outs-many, outs-further)

pub ruleset placing = (rules, placed_end, placed-none, placed-elsewhere, placed-some)

-- ---- refusals 1 to 4
module _ (s : List ℕ) (t : Bool) (et : t ≡ (leb 18 (length s) && same_bytes (take 4 s) magic)) where
  pub contents-magic : t ≡ false → Err refusal.Magic ≡ first_of (take 4 (plan_checks s))
  unfolding plan_checks first_of and_then need
  contents-magic h = rw (← et, h)

  module _ (ht : t ≡ true) (w : ℕ) (ew : w ≡ get_or s 4 0) (v : Bool) (ev : v ≡ between 1 4 w) where
    pub contents-version : v ≡ false → Err refusal.Version ≡ first_of (take 4 (plan_checks s))
    unfolding plan_checks first_of and_then need
    contents-version h = rw (← et, ht, ← ew, ← ev, h)

    module _ (hv : v ≡ true) (n : ℕ) (en : n ≡ get_or s 5 0) (u : Bool) (eu : u ≡ parties_ok n) where
      pub contents-parties : u ≡ false → Err refusal.Parties ≡ first_of (take 4 (plan_checks s))
      unfolding plan_checks first_of and_then need
      contents-parties h = rw (← et, ht, ← ew, ← ev, hv, ← en, ← eu, h)

      module _ (hu : u ≡ true) (d : ℕ) (ed : d ≡ get_or s 6 0) (x : Bool) (ex : x ≡ threshold_ok n d) where
        pub contents-threshold : x ≡ false → Err refusal.Threshold ≡ first_of (take 4 (plan_checks s))
        unfolding plan_checks first_of and_then need
        contents-threshold h = rw (← et, ht, ← ew, ← ev, hv, ← en, ← eu, hu, ← ed, ← ex, h)

        pub contents-passed : x ≡ true → (Ok tt) ≡ first_of (take 4 (plan_checks s))
        unfolding plan_checks first_of and_then need
        contents-passed h = rw (← et, ht, ← ew, ← ev, hv, ← en, ← eu, hu, ← ed, ← ex, h)

-- As it is: answers name this set, since the check leaves their goals open by `using` alone.
pub ruleset contents = (rules, not-true, not-false, contains_is, contents-magic, contents-version, contents-parties, contents-threshold, contents-passed)

-- ---- refusals 6 to 8, 25 and 26
module _ (s : List ℕ) (t : Bool) (et : t ≡ layout_ok s) where
  pub body-layout : t ≡ false → Err refusal.Layout ≡ first_of (drop 5 (plan_checks s))
  unfolding plan_checks first_of and_then need
  body-layout h = rw (← et, h)

  pub body-laid : t ≡ true → layout_ok s ≡ true
  body-laid h = sym et ∙ h

  module _ (ht : t ≡ true) (f : Option ℕ) (ef : f ≡ first_failing (gate_kept s) (field_at s 2)) where
    pub body-gate : (k : ℕ) → f ≡ Some k → Err (refusal.GateRule k) ≡ first_of (drop 5 (plan_checks s))
    unfolding plan_checks first_of and_then need unless_found
    body-gate k h = rw (← et, ht, ← ef, h)

    module _ (hf : f ≡ None) (o : Option ℕ) (eo : o ≡ first_failing (out_kept s) (field_at s 4)) where
      pub body-out : (k : ℕ) → o ≡ Some k → Err (refusal.OutputRule k) ≡ first_of (drop 5 (plan_checks s))
      unfolding plan_checks first_of and_then need unless_found
      body-out k h = rw (← et, ht, ← ef, hf, ← eo, h)

      pub body-last : o ≡ None → (c : Checked) → c ≡ first_of (drop 8 (plan_checks s)) → c ≡ first_of (drop 5 (plan_checks s))
      unfolding plan_checks first_of and_then need unless_found
      body-last h c ec = ec ∙ rw (← et, ht, ← ef, hf, ← eo, h)

pub ruleset body = (rules, not-true, not-false, body-layout, body-laid, body-gate, body-out, body-last)

module _ (s : List ℕ) (c : Checked) (ec : c ≡ majority_check s) where
  pub last-majority : (r : Refusal) → c ≡ Err r → Err r ≡ first_of (drop 8 (plan_checks s))
  unfolding plan_checks first_of and_then
  last-majority r h = rw (← ec, h)

  module _ (hc : c ≡ (Ok tt)) (f : Option ℕ) (ef : f ≡ first_failing (point_kept s) (get_or s 5 0)) where
    pub points_wrong : (i : ℕ) → f ≡ Some i → Err refusal.Points ≡ first_of (drop 8 (plan_checks s))
    unfolding plan_checks first_of and_then points_check unless_found
    points_wrong i h = rw (← ec, hc, ← ef, h)

    pub points_right : f ≡ None → (Ok tt) ≡ first_of (drop 8 (plan_checks s))
    unfolding plan_checks first_of and_then points_check unless_found
    points_right h = rw (← ec, hc, ← ef, h)

pub ruleset last = (rules, last-majority, points_wrong, points_right)

-- ---- the whole reading
-- the field of a prime above n
pub above_low : (n p : ℕ) → p ≤ n → None ≡ field_above n p
unfolding field_above
above_low n p l = rw (le-ltb n p l) (pick (ltb p modulus_limit && is_prime p))
  where
    pick : (b : Bool) → None ≡ cond {A = Option ℕ} (b && false) (Some p) None
    pick true = refl
    pick false = refl

pub above_made : (n p : ℕ) (m : Option ℕ) → n < p → m ≡ made_of p → m ≡ field_above n p
unfolding field_above made_of
above_made n p m l e = rw (lt-ltb n p l) (e ∙ pick (ltb p modulus_limit && is_prime p))
  where
    pick : (b : Bool) → cond {A = Option ℕ} b (Some p) None ≡ cond (b && true) (Some p) None
    pick true = refl
    pick false = refl

pub above-not : (n p : ℕ) → field_above n p ≡ None → modulus_ok n p ≡ false
unfolding field_above
above-not n p h = pick (modulus_ok n p) h
  where
    pick : (t : Bool) → cond {A = Option ℕ} t (Some p) None ≡ None → t ≡ false
    pick true e = let z : ◌≡◌ {A = ℕ} 0 1 = cc in absurd (omega arith)
    pick false e = refl

pub above-is : (n p q : ℕ) → field_above n p ≡ Some q → (modulus_ok n p ≡ true) × (q ≡ p)
unfolding field_above
above-is n p q h = pick (modulus_ok n p) h
  where
    pick : (t : Bool) → cond {A = Option ℕ} t (Some p) None ≡ Some q → (t ≡ true) × (q ≡ p)
    pick true e = (refl, (cc))
    pick false e = let z : ◌≡◌ {A = ℕ} 0 1 = cc in absurd (omega arith)

-- the modulus of a field, if there is one
abbrev pub modulus_in : Option Field → Option ℕ
modulus_in m = option_map (λ (f : Field). f.p) m

-- refusal 5, and what follows it
module _ (s : List ℕ) (p : ℕ) (ep : p ≡ field_at s 0) (n : ℕ) (en : n ≡ get_or s 5 0) (m : Option Field) (em : modulus_in m ≡ field_above n p) where
  pub reading-no-field : m ≡ None → first_of (drop 4 (plan_checks s)) ≡ Err refusal.Modulus
  unfolding plan_checks first_of and_then need
  reading-no-field h = rw (← ep, ← en, above-not n p (sym em ∙ ap (option_map (λ (f : Field). f.p)) h))

  module _ (f : Field) (hf : m ≡ Some f) where
    its : (modulus_ok n p ≡ true) × (f.p ≡ p)
    its = above-is n p f.p (sym em ∙ ap (option_map (λ (g : Field). g.p)) hf)

    pub reading-on : (c : Checked) → c ≡ first_of (drop 5 (plan_checks s)) → first_of (drop 4 (plan_checks s)) ≡ c
    unfolding plan_checks first_of and_then need
    reading-on c ec = rw (ec, ← ep, ← en, its.0)

    pub reading-header :
        (t g o v : ℕ) (r : Rule) → t ≡ get_or s 6 0 → g ≡ field_at s 2 → o ≡ field_at s 4 → v ≡ get_or s 4 0 → r ≡ rule_for v
        → HeaderOf s (record { n = n; t = t; field = f; gates = g; outs = o; rule = r })
    reading-header t g o v r et eg eo ev er = record { n = en; t = et; p = its.1 ∙ ep; gates = eg; outs = eo; rule = er ∙ ap rule_for ev }

-- the four before
module _ (s : List ℕ) (c : Checked) (ec : c ≡ first_of (take 4 (plan_checks s))) where
  parts : plan_check s ≡ and_then (first_of (take 4 (plan_checks s))) (first_of (drop 4 (plan_checks s)))
  unfolding plan_check
  parts = rw (← first_of-append (take 4 (plan_checks s)) (drop 4 (plan_checks s)), take-append-drop 4 (plan_checks s))

  pub read-contents : (r : Refusal) → c ≡ Err r → plan_check s ≡ Err r
  read-contents r h = parts ∙ and_then_refused (first_of (take 4 (plan_checks s))) (first_of (drop 4 (plan_checks s))) r (sym ec ∙ h)

  pub read-further : c ≡ (Ok tt) → (d : Checked) → first_of (drop 4 (plan_checks s)) ≡ d → plan_check s ≡ d
  read-further h d e = parts ∙ and_then_passed (first_of (take 4 (plan_checks s))) (first_of (drop 4 (plan_checks s))) (sym ec ∙ h) ∙ e

pub ruleset reads = (rules, above_low, above_made, reading-no-field, reading-on, reading-header, read-contents, read-further)
