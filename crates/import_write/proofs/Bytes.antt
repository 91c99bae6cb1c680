-- What is written, gate by gate.
--     putting                      what closes the needs of the functions that put a gate of the circuit
--     gating, naming, outing       those of the loops over gates' lines, input values and outs
-- Assumes nothing.
use Rattle.std.proofs.Common.{Option, Some, None}
use Prim.Native.Nat.{ℕ, suc, ◌+◌, ◌-◌, ◌*◌, ◌<◌, ◌≤◌}
use mathlib.Core.Path.{◌≡◌, refl, sym, ap, ◌∙◌}
use mathlib.Core.List.{List, [], ◌∷◌, flat_map}
use native.Mathlib.Omega.{arith}
use native.Mathlib.Numerals.{add-one}
use borrow.Author.Rules.{rules}
use lib.ListN.{length, get_or, set, take, replicate, length-set, length-replicate}
use lib.Seq.{set_out, take-suc, take-length}
use Rattle.std.proofs.lemmas.List.{length-take-le}
use mir.Syntax.{w64}
use mir.Val.{Fits}
use Rattle.numbers.specs.Tables.{tab}
use Rattle.numbers.proofs.Tables.{tab-cons, tab-ext}
use Rattle.numbers.proofs.Fills.{fill_none, fill_next, filled}
use Rattle.plan.specs.declared.Gate.{Gate}
use Rattle.plan.specs.declared.Gate.TheVariants.{Input, Add, Scale, Offset, Multiply}
use Rattle.plan.specs.declared.Output.{Output}
use Rattle.plan_file.specs.Bodies.{written, gate_bytes, gates_bytes, out_bytes, place_in, out_start}
use Rattle.plan_file.proofs.Files.{out_long}
use Rattle.plan_file.proofs.Writing.{written_then, length-written}
use Rattle.plan_file.proofs.Rows.{gates_then, one_put, written_none, none_bytes}
use Rattle.import_lines.specs.Places.{line_start, number_at, with_number, NumberRead}
use Rattle.import_lines.proofs.Reading.{number_below}
use Rattle.import_text.specs.declared.LogicGate.{LogicGate}
use Rattle.import_text.specs.declared.LogicGate.TheVariants.{Xor, And, Inv}
use Rattle.import_text.specs.Scanning.{gate_at, with_gate}
use Rattle.import_circuit.specs.Wires.{set_by}
use Rattle.import_circuit.specs.Making.{input_gates, gate_size, xor_gates, made_by, held_by, gates_from, held_after, outs_of}
use Rattle.import_circuit.proofs.Wires.{length-made_by}
use Rattle.import_write.specs.Second.{numbers_in, gates_in}

-- ---- holders
pub hold_past : (held : List ℕ) (w v : ℕ) → length held ≤ w → held ≡ set held w v
hold_past held w v l = sym (set_out held w v l)

-- ---- gates in a row
pub record InRow (version : ℕ) (out₀ : List ℕ) (g : ℕ) (gates : List Gate) (i : ℕ) (out : List ℕ) : Type 0 where
  pub within : i ≤ length gates
  pub long : length out ≡ length out₀
  pub done : out ≡ written out₀ (place_in version g) (gates_bytes version (take i gates))

module _ (version : ℕ) (out₀ : List ℕ) (g : ℕ) (gates : List Gate) where
  pub row_begin : InRow version out₀ g gates 0 out₀
  row_begin = record { within = omega arith; long = refl; done = sym (rw (none_bytes version) (written_none out₀ (place_in version g))) }

  module _ (i : ℕ) (out : List ℕ) (h : InRow version out₀ g gates i out) where
    pub row_on : (x : Gate) (new : List ℕ) → i < length gates → x ≡ get_or gates i x → new ≡ written out (place_in version (g + i)) (gate_bytes version x) → InRow version out₀ g gates (i + 1) new
    row_on x new l ex e = record {
      within = omega arith;
      long = ap length e ∙ length-written out (place_in version (g + i)) (gate_bytes version x) ∙ h.long;
      done = rw (add-one i, take-suc gates i x l, ← ex)
          (gates_then version out₀ out new g (g + i) (take i gates) (x ∷ []) h.done (one_put version out new (g + i) x e) (ap (λ (m : ℕ). g + m) (sym (length-take-le i gates h.within))));
    }

    pub row_long : length out ≡ length out₀
    row_long = h.long

    pub row_end : length gates ≤ i → out ≡ written out₀ (place_in version g) (gates_bytes version gates)
    row_end l = let e : i ≡ length gates = omega (arith, h.within) in rw (← take-length gates, ← e) h.done

module _ (version : ℕ) (s new held : List ℕ) (p g : ℕ) (x : LogicGate) where
  pub made_xor : (a b c u v : ℕ) → x ≡ Xor a b c → u ≡ get_or held a 0 → v ≡ get_or held b 0
      → new ≡ written s (place_in version g) (gates_bytes version (Multiply u v ∷ Scale g (p - 2) ∷ Add u v ∷ Add (g + 2) (g + 1) ∷ []))
      → new ≡ written s (place_in version g) (gates_bytes version (made_by p g held x))
  unfolding made_by xor_gates
  made_xor a b c u v e eu ev f = rw (e, ← eu, ← ev) f

  pub made_and : (a b c u v : ℕ) → x ≡ And a b c → u ≡ get_or held a 0 → v ≡ get_or held b 0 → new ≡ written s (place_in version g) (gates_bytes version (Multiply u v ∷ []))
      → new ≡ written s (place_in version g) (gates_bytes version (made_by p g held x))
  unfolding made_by
  made_and a b c u v e eu ev f = rw (e, ← eu, ← ev) f

  pub made_inv : (a c u : ℕ) → x ≡ Inv a c → u ≡ get_or held a 0 → new ≡ written s (place_in version g) (gates_bytes version (Scale u (p - 1) ∷ Offset g 1 ∷ []))
      → new ≡ written s (place_in version g) (gates_bytes version (made_by p g held x))
  unfolding made_by
  made_inv a c u e eu f = rw (e, ← eu) f

-- As it is: answers name this set, since the check leaves their goals open by `using` alone.
pub ruleset putting = (rules, hold_past, fill_none, fill_next, filled, row_begin, row_on, row_long, row_end, made_xor, made_and, made_inv)

-- ---- gates' lines
pub record Gating (s : List ℕ) (at gates version p start : ℕ) (held₀ out₀ : List ℕ) (e g k : ℕ) (held out : List ℕ) : Type 0 where
  pub within : k ≤ gates
  pub small : g ≤ start + 4 * k
  pub long_held : length held ≡ length held₀
  pub long_out : length out ≡ length out₀
  pub rest_held : held_after g held (gates_in (gates - k) s e) ≡ held_after start held₀ (gates_in gates s at)
  pub rest_out : written out (place_in version g) (gates_bytes version (gates_from p g held (gates_in (gates - k) s e))) ≡ written out₀ (place_in version start) (gates_bytes version (gates_from p start held₀ (gates_in gates s at)))

module _ (s : List ℕ) (at gates version p start : ℕ) (held₀ out₀ : List ℕ) where
  pub gates_begin : Gating s at gates version p start held₀ out₀ at start 0 held₀ out₀
  gates_begin = let z : gates - 0 ≡ gates = omega arith in record {
    within = omega arith;
    small = omega arith;
    long_held = refl;
    long_out = refl;
    rest_held = rw z;
    rest_out = rw z;
  }

  module _ (e g k : ℕ) (held out : List ℕ) (h : Gating s at gates version p start held₀ out₀ e g k held out) where
    stopped : gates_in (gates - k) s e ≡ [] → (held ≡ held_after start held₀ (gates_in gates s at)) × (out ≡ written out₀ (place_in version start) (gates_bytes version (gates_from p start held₀ (gates_in gates s at))))
    unfolding held_after gates_from
    stopped q = (
      sym (sym h.rest_held ∙ rw q),
      sym (sym h.rest_out ∙ rw (q, none_bytes version) (written_none out (place_in version g))),
    )

    ended : gates ≤ k → gates_in (gates - k) s e ≡ []
    unfolding gates_in
    ended l = let z : gates - k ≡ 0 = omega arith in rw z

    pub gates_held : gates ≤ k → held ≡ held_after start held₀ (gates_in gates s at)
    gates_held l = (stopped (ended l)).0

    pub gates_out : gates ≤ k → out ≡ written out₀ (place_in version start) (gates_bytes version (gates_from p start held₀ (gates_in gates s at)))
    gates_out l = (stopped (ended l)).1

    module _ (from : ℕ) (ef : from ≡ line_start s e) (l : k < gates) (r : Option (LogicGate × ℕ)) (er : r ≡ gate_at s from) where
      one : gates - k ≡ suc (gates - (k + 1))
      one = omega arith

      broken : r ≡ None → gates_in (gates - k) s e ≡ []
      unfolding gates_in with_gate
      broken q = rw (one, ← ef, ← er, q)

      pub broken_held : r ≡ None → held ≡ held_after start held₀ (gates_in gates s at)
      broken_held q = (stopped (broken q)).0

      pub broken_out : r ≡ None → out ≡ written out₀ (place_in version start) (gates_bytes version (gates_from p start held₀ (gates_in gates s at)))
      broken_out q = (stopped (broken q)).1

      module _ (x : LogicGate) (next : ℕ) (qr : r ≡ Some (x, next)) where
        more : gates_in (gates - k) s e ≡ x ∷ gates_in (gates - (k + 1)) s next
        unfolding gates_in with_gate
        more = rw (one, ← ef, ← er, qr)

        pub gates_on : (w z : ℕ) (new-held new-out : List ℕ) → w ≡ set_by x → z ≡ gate_size x → z ≤ 4 → new-held ≡ set held w (g + z - 1)
            → new-out ≡ written out (place_in version g) (gates_bytes version (made_by p g held x)) → Gating s at gates version p start held₀ out₀ next (g + z) (k + 1) new-held new-out
        gates_on w z new-held new-out ew ez lz eh eo =
            let held-is : new-held ≡ held_by g held x = unfold held_by in (eh ∙ rw (ew, ez)) in
            record {
              within = omega arith;
              small = omega (arith, h.small);
              long_held = ap length eh ∙ length-set held w (g + z - 1) ∙ h.long_held;
              long_out = ap length eo ∙ length-written out (place_in version g) (gates_bytes version (made_by p g held x)) ∙ h.long_out;
              rest_held = rw (held-is, ez) (sym (sym h.rest_held ∙ ap (held_after g held) more ∙ (unfold held_after in refl)));
              rest_out =
                  rw (held-is, ez)
                  (sym (sym h.rest_out ∙ ap (λ (l : List LogicGate). written out (place_in version g) (gates_bytes version (gates_from p g held l))) more
                  ∙ (unfold gates_from in sym (gates_then version out new-out (written new-out (place_in version (g + gate_size x)) (gates_bytes version (gates_from p (g + gate_size x) (held_by g held x) (gates_in (gates - (k + 1)) s next)))) g (g + gate_size x)
                  (made_by p g held x) (gates_from p (g + gate_size x) (held_by g held x) (gates_in (gates - (k + 1)) s next)) eo refl (ap (λ (m : ℕ). g + m) (sym (length-made_by p g held x)))))));
            }

-- As it is: answers name this set, since the check leaves their goals open by `using` alone.
pub ruleset gating = (rules, gates_begin, gates_held, gates_out, broken_held, broken_out, gates_on)

-- ---- the inputs of one party
pub record Naming (version start party count : ℕ) (out₀ : List ℕ) (i : ℕ) (out : List ℕ) : Type 0 where
  pub within : i ≤ count
  pub long : length out ≡ length out₀
  pub rest : written out (place_in version (start + i)) (gates_bytes version (replicate (count - i) (Input party))) ≡ written out₀ (place_in version start) (gates_bytes version (replicate count (Input party)))

module _ (version start party count : ℕ) (out₀ : List ℕ) where
  pub name_begin : Naming version start party count out₀ 0 out₀
  name_begin =
      let z : count - 0 ≡ count = omega arith in
      let y : start + 0 ≡ start = omega arith in
      record { within = omega arith; long = refl; rest = rw (z, y) }

  module _ (i : ℕ) (out : List ℕ) (h : Naming version start party count out₀ i out) where
    pub name_on : (new : List ℕ) → i < count → new ≡ written out (place_in version (start + i)) (gate_bytes version (Input party)) → Naming version start party count out₀ (i + 1) new
    name_on new l e =
        let z : count - i ≡ suc (count - (i + 1)) = omega arith in
        let y : start + (i + 1) ≡ start + i + 1 = omega arith in
        record {
          within = omega arith;
          long = ap length e ∙ length-written out (place_in version (start + i)) (gate_bytes version (Input party)) ∙ h.long;
          rest =
              rw y (sym (sym h.rest ∙ ap (λ (m : ℕ). written out (place_in version (start + i)) (gates_bytes version (replicate m (Input party)))) z
              ∙ sym (gates_then version out new (written new (place_in version (start + i + 1)) (gates_bytes version (replicate (count - (i + 1)) (Input party)))) (start + i) (start + i + 1) (Input party ∷ []) (replicate (count - (i + 1)) (Input party)) (one_put version out new (start + i) (Input party) e) refl refl)));
        }

    pub name_end : count ≤ i → out ≡ written out₀ (place_in version start) (gates_bytes version (replicate count (Input party)))
    name_end l =
        let z : count - i ≡ 0 = omega arith in
        sym (sym h.rest ∙ rw (z, none_bytes version) (written_none out (place_in version (start + i))))

-- ---- the inputs of all values
pub record Taking (s : List ℕ) (at values version : ℕ) (out₀ : List ℕ) (e g k : ℕ) (out : List ℕ) : Type 0 where
  pub within : k ≤ values
  pub small : g ≤ 65535 * k
  pub long : length out ≡ length out₀
  pub rest : written out (place_in version g) (gates_bytes version (input_gates (k + 1) (numbers_in (values - k) s e))) ≡ written out₀ (place_in version 0) (gates_bytes version (input_gates 1 (numbers_in values s at)))

module _ (s : List ℕ) (at values version : ℕ) (out₀ : List ℕ) where
  pub take_begin : Taking s at values version out₀ at 0 0 out₀
  take_begin = let z : values - 0 ≡ values = omega arith in record { within = omega arith; small = omega arith; long = refl; rest = rw z }

  module _ (e g k : ℕ) (out : List ℕ) (h : Taking s at values version out₀ e g k out) where
    over : numbers_in (values - k) s e ≡ [] → out ≡ written out₀ (place_in version 0) (gates_bytes version (input_gates 1 (numbers_in values s at)))
    unfolding input_gates
    over q = sym (sym h.rest ∙ rw (q, none_bytes version) (written_none out (place_in version g)))

    pub take_end : values ≤ k → out ≡ written out₀ (place_in version 0) (gates_bytes version (input_gates 1 (numbers_in values s at)))
    take_end l = over (let z : values - k ≡ 0 = omega arith in rw z (unfold numbers_in in refl))

    module _ (l : k < values) (d : Option (ℕ × ℕ)) (hd : NumberRead (number_at s e) d) where
      left : values - k ≡ suc (values - (k + 1))
      left = omega arith

      pub take_none : d ≡ None → out ≡ written out₀ (place_in version 0) (gates_bytes version (input_gates 1 (numbers_in values s at)))
      take_none q = over (unfold numbers_in in unfold with_number in rw (left, ← hd.eq, q))

      module _ (v next : ℕ) (qd : d ≡ Some (v, next)) where
        v_small : v < 65536
        v_small = number_below (number_at s e) d v next hd qd

        sum_small : g + v ≤ 65535 * (k + 1)
        sum_small = omega (arith, v_small, h.small)

        pub take_from : values < 65536 → g ≤ 65535 * 65535
        take_from c = omega (arith, h.small)

        pub take_fits : values < 65536 → Fits w64 (g + v)
        take_fits c = record { fits = omega (arith, sum_small) }

        pub take_on : (new : List ℕ) → new ≡ written out (place_in version g) (gates_bytes version (replicate v (Input (k + 1)))) → Taking s at values version out₀ next (g + v) (k + 1) new
        take_on new en =
            let more : numbers_in (values - k) s e ≡ v ∷ numbers_in (values - (k + 1)) s next = unfold numbers_in in unfold with_number in rw (left, ← hd.eq, qd) in
            let sk : suc (k + 1) ≡ k + 1 + 1 = omega arith in
            let joined : written out (place_in version g) (gates_bytes version (input_gates (k + 1) (v ∷ numbers_in (values - (k + 1)) s next)))
            ≡ written new (place_in version (g + v)) (gates_bytes version (input_gates (suc (k + 1)) (numbers_in (values - (k + 1)) s next))) =
            unfold input_gates in
            sym (gates_then version out new (written new (place_in version (g + v)) (gates_bytes version (input_gates (suc (k + 1)) (numbers_in (values - (k + 1)) s next)))) g (g + v)
            (replicate v (Input (k + 1))) (input_gates (suc (k + 1)) (numbers_in (values - (k + 1)) s next)) en refl (ap (λ (m : ℕ). g + m) (sym (length-replicate v (Input (k + 1)))))) in
            record {
              within = omega arith;
              small = sum_small;
              long = ap length en ∙ length-written out (place_in version g) (gates_bytes version (replicate v (Input (k + 1)))) ∙ h.long;
              rest =
                  sym (sym h.rest ∙ ap (λ (ws : List ℕ). written out (place_in version g) (gates_bytes version (input_gates (k + 1) ws))) more
                  ∙ joined
                  ∙ ap (λ (m : ℕ). written new (place_in version (g + v)) (gates_bytes version (input_gates m (numbers_in (values - (k + 1)) s next)))) sk);
            }

-- As it is: answers name this set, since the check leaves their goals open by `using` alone.
pub ruleset naming = (rules, number_below, name_begin, name_on, name_end, take_begin, take_end, take_none, take_from, take_fits, take_on)

-- ---- the outs
outs_cons : (held : List ℕ) (w k : ℕ) → outs_of held w (suc k) ≡ record { party = 1; wire = get_or held w 0 } ∷ outs_of held (w + 1) k
unfolding outs_of
outs_cons held w k =
    let z : w + 0 ≡ w = omega arith in
    tab-cons (λ i. record { party = 1; wire = get_or held (w + i) 0 }) k
    ∙ ap (λ (v : ℕ). record { party = 1; wire = get_or held v 0 } ∷ tab (λ i. record { party = 1; wire = get_or held (w + suc i) 0 }) k) z
    ∙ ap (λ (l : List Output). record { party = 1; wire = get_or held w 0 } ∷ l)
    (tab-ext _ _ k (λ i l. let y : w + suc i ≡ w + 1 + i = omega arith in ap (λ (v : ℕ). record { party = 1; wire = get_or held v 0 }) y))

pub record Outing (version gates : ℕ) (held : List ℕ) (out₀ : List ℕ) (o : ℕ) (out : List ℕ) : Type 0 where
  pub within : o ≤ length held
  pub long : length out ≡ length out₀
  pub rest : written out (out_start version gates o) (flat_map out_bytes (outs_of held o (length held - o))) ≡ written out₀ (out_start version gates 0) (flat_map out_bytes (outs_of held 0 (length held)))

module _ (version gates : ℕ) (held : List ℕ) (out₀ : List ℕ) where
  pub outs_begin : Outing version gates held out₀ 0 out₀
  outs_begin =
      let z : length held - 0 ≡ length held = omega arith in
      record { within = omega arith; long = refl; rest = rw z }

  module _ (o : ℕ) (out : List ℕ) (h : Outing version gates held out₀ o out) where
    pub outs_on : (v : ℕ) (new : List ℕ) → o < length held → v ≡ get_or held o 0 → new ≡ written out (out_start version gates o) (out_bytes (record { party = 1; wire = v }))
        → Outing version gates held out₀ (o + 1) new
    outs_on v new l ev en =
        let z : length held - o ≡ suc (length held - (o + 1)) = omega arith in
        let x : out_start version gates (o + 1) ≡ out_start version gates o + 3 = unfold out_start in omega arith in
        let joined : written out (out_start version gates o) (flat_map out_bytes (record { party = 1; wire = v } ∷ outs_of held (o + 1) (length held - (o + 1))))
        ≡ written new (out_start version gates o + 3) (flat_map out_bytes (outs_of held (o + 1) (length held - (o + 1)))) =
        unfold flat_map in
        sym (written_then out new (written new (out_start version gates o + 3) (flat_map out_bytes (outs_of held (o + 1) (length held - (o + 1))))) (out_bytes (record { party = 1; wire = v })) (flat_map out_bytes (outs_of held (o + 1) (length held - (o + 1))))
        (out_start version gates o) (out_start version gates o + 3) en refl (ap (λ (m : ℕ). out_start version gates o + m) (sym (out_long (record { party = 1; wire = v }))))) in
        record {
          within = omega arith;
          long = ap length en ∙ length-written out (out_start version gates o) (out_bytes (record { party = 1; wire = v })) ∙ h.long;
          rest =
              rw x (sym (sym h.rest ∙ ap (λ (m : ℕ). written out (out_start version gates o) (flat_map out_bytes (outs_of held o m))) z
              ∙ ap (λ (l : List Output). written out (out_start version gates o) (flat_map out_bytes l)) (outs_cons held o (length held - (o + 1)) ∙ ap (λ (u : ℕ). record { party = 1; wire = u } ∷ outs_of held (o + 1) (length held - (o + 1))) (sym ev))
              ∙ joined));
        }

    pub outs_end : length held ≤ o → out ≡ written out₀ (out_start version gates 0) (flat_map out_bytes (outs_of held 0 (length held)))
    outs_end l =
        let z : length held - o ≡ 0 = omega arith in
        sym (sym h.rest ∙ rw z (unfold outs_of in unfold tab in unfold flat_map in written_none out (out_start version gates o)))

pub ruleset outing = (rules, outs_begin, outs_on, outs_end)
