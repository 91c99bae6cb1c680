-- The rows of the settings, one after the other.
--     viewing          one row: the view of the run, then 1
--     filling          the loop over the settings
-- Assumes nothing.
use Prim.Native.Nat.{ℕ, ◌+◌, ◌-◌, ◌*◌, ◌/◌, ◌%◌, ◌^◌, ◌<◌, ◌≤◌}
use mathlib.Core.Path.{◌≡◌, refl, sym, ap, ap₂, ◌∙◌}
use mathlib.Core.Bool.{true}
use mathlib.Core.List.{List, [], ◌∷◌, ◌++◌}
use native.Mathlib.Nat.{mul-zero, mul-div-le, mod-eq-sub-mul-div}
use native.Mathlib.Omega.{arith}
use borrow.Author.Rules.{rules}
use borrow.Author.Tests.{ltb-true}
use lib.Dec.{ltb}
use lib.ListN.{length, take, drop, length-append, length-drop}
use lib.Seq.{take_all, take_at, length-take-le}
use mir.Syntax.{w64}
use mir.Val.{Fits}
use Rattle.numbers.specs.Bytes.{width, limit, numbers, bytes_of, stored, all_below}
use Rattle.numbers.proofs.Bytes.{numbers-nil, bytes_of-append, length-bytes_of, length-stored, take-stored, numbers_of_bytes}
use Rattle.numbers.proofs.Below.{all_below_at, all_below_more}
use Rattle.numbers.proofs.Truth.{both_true}
use Rattle.sharing_openings.proofs.Rows.{Written, none_written, room, piece_long, written_next, written_done}
use Rattle.plan.specs.declared.Header.{Header}
use Rattle.plan.specs.Plans.{Plan, party_count, coin_count, triple_numbers}
use Rattle.plan.specs.File.{plan_of}
use Rattle.plan.specs.Planned.{Planned}
use Rattle.plan.proofs.Planned.{plan_p, plan_n}
use Rattle.plan_coalition.specs.Coalitions.{members, set_ok}
use Rattle.run_protocol.specs.Rounds.{view, view_count}
use Rattle.run_dealings.specs.Rows.{Given}
use Rattle.count_laws.specs.Settings.{coins_from, setting_coins}
use Rattle.count_laws.proofs.Settings.{setting_long, setting_small}
use Rattle.count_fill.specs.Filling.{row_bytes, rows_filled, Lent}

-- ---- one row
pub set_within : (bs : List ℕ) (h : Header) (set : ℕ) → Planned bs h → set_ok (plan_of bs) set ≡ true → set < 2 ^ h.n
unfolding set_ok
set_within bs h set pl ok =
    ltb-true set (2 ^ h.n) (ap (λ (n : ℕ). ltb set (2 ^ n)) (sym (plan_n pl)) ∙ (both_true (ltb set (2 ^ party_count (plan_of bs))) _ ok).0)

pub view_fits : (v : ℕ) → v ≤ 1097728 → Fits w64 (width * v)
view_fits v l = record { fits = omega arith }

pub row_within : (v : ℕ) (row : List ℕ) → length row ≡ width * (v + 1) → width * v ≤ length row
row_within v row l = omega arith

pub row_part : (v : ℕ) (row : List ℕ) → length row ≡ width * (v + 1) → width * v ≡ length (take (width * v) row)
row_part v row l = sym (length-take-le (width * v) row (omega arith))

pub row_room : (plan : Plan) (set v : ℕ) (row : List ℕ) → length row ≡ width * (v + 1) → v ≡ view_count plan (members set) → length (take (width * v) row) ≡ width * view_count plan (members set)
row_room plan set v row l e = sym (row_part v row l) ∙ ap (λ (n : ℕ). width * n) e

pub row_done :
    (v : ℕ) (row ys new vs : List ℕ) → length row ≡ width * (v + 1) → ys ≡ bytes_of vs → length ys ≡ length (take (width * v) row) → new ≡ stored (ys ++ drop (width * v) row) v 1
    → new ≡ bytes_of (vs ++ (1 ∷ []))
row_done v row ys new vs l ey ly en =
    let front : length ys ≡ width * v = ly ∙ sym (row_part v row l) in
    let long : length (ys ++ drop (width * v) row) ≡ width * v + width = omega (arith, length-append ys (drop (width * v) row), length-drop (width * v) row) in
    let size : length new ≡ width * (v + 1) = ap length en ∙ length-stored (ys ++ drop (width * v) row) v 1 ∙ omega arith in
    sym (take_all (width * (v + 1)) new (omega arith)) ∙ ap (take (width * (v + 1))) en
    ∙ take-stored (ys ++ drop (width * v) row) v 1 (omega arith)
    ∙ ap₂ (λ (a b : List ℕ). a ++ b) (take_at ys (drop (width * v) row) (width * v) front ∙ ey) refl
    ∙ sym (bytes_of-append vs (1 ∷ []))

pub row_long : (v : ℕ) (row ys new : List ℕ) → length row ≡ width * (v + 1) → length ys ≡ length (take (width * v) row) → new ≡ stored (ys ++ drop (width * v) row) v 1 → length new ≡ length row
row_long v row ys new l ly en =
    ap length en ∙ length-stored (ys ++ drop (width * v) row) v 1
    ∙ omega (arith, length-append ys (drop (width * v) row), length-drop (width * v) row, row_part v row l)

pub row_seen :
    (plan : Plan) (ms xs cs ts : List ℕ) (v : ℕ) (row ys new : List ℕ) → ts ≡ [] → length row ≡ width * (v + 1) → ys ≡ bytes_of (view plan ms xs cs (numbers ts))
    → length ys ≡ length (take (width * v) row) → new ≡ stored (ys ++ drop (width * v) row) v 1 → new ≡ bytes_of (view plan ms xs cs [] ++ (1 ∷ []))
row_seen plan ms xs cs ts v row ys new et l ey ly en =
    row_done v row ys new (view plan ms xs cs []) l (ey ∙ ap (λ (us : List ℕ). bytes_of (view plan ms xs cs us)) (ap numbers et ∙ numbers-nil)) ly en

-- As it is: answers name this set, since the check leaves their goals open by `using` alone.
pub ruleset viewing = (rules, set_within, view_fits, row_within, row_part, row_room, row_seen, row_long)

-- ---- all settings
module _ (bs : List ℕ) (h : Header) (pl : Planned bs h) where
  pub prime-some : 0 < h.field.p
  prime-some = omega (arith, pl.p_low)

  plan-some : 0 < (plan_of bs).p
  plan-some = omega (arith, prime-some, plan_p pl)

  module _ (set v : ℕ) (inputs given owners : List ℕ) (le : Lent (plan_of bs) set inputs given owners v) where
    pub coins_room : (coins : List ℕ) → length coins ≡ width * coin_count (plan_of bs) → length coins ≡ width * length owners
    unfolding coin_count
    coins_room coins l = l ∙ ap (λ (os : List ℕ). width * length os) (sym le.owned)

    setting-is : (k : ℕ) → coins_from h.field.p set owners (numbers given) k ≡ setting_coins (plan_of bs) set (numbers given) k
    unfolding setting_coins
    setting-is k = ap₂ (λ (p : ℕ) (os : List ℕ). coins_from p set os (numbers given) k) (sym (plan_p pl)) le.owned

    setting-below : (k : ℕ) → all_below (plan_of bs).p (setting_coins (plan_of bs) set (numbers given) k) ≡ true
    setting-below k = setting_small (plan_of bs) set (numbers given) k plan-some le.given_below

    no-triples : 0 ≡ width * (party_count (plan_of bs) * triple_numbers (plan_of bs))
    no-triples = sym (ap (λ (k : ℕ). width * (party_count (plan_of bs) * k)) le.unspent ∙ ap (λ (k : ℕ). width * k) (mul-zero (party_count (plan_of bs))))

    none-below : all_below (plan_of bs).p (numbers []) ≡ true
    unfolding all_below
    none-below = ap (all_below (plan_of bs).p) numbers-nil

    module _ (k : ℕ) (coins : List ℕ) (e : coins ≡ bytes_of (coins_from h.field.p set owners (numbers given) k)) where
      coins_are : coins ≡ bytes_of (setting_coins (plan_of bs) set (numbers given) k)
      coins_are = e ∙ ap bytes_of (setting-is k)

      numbers-are : numbers coins ≡ setting_coins (plan_of bs) set (numbers given) k
      numbers-are =
          ap numbers coins_are
          ∙ numbers_of_bytes (setting_coins (plan_of bs) set (numbers given) k)
          (λ i l. all_below_at limit (setting_coins (plan_of bs) set (numbers given) k) i
          (all_below_more (plan_of bs).p limit (setting_coins (plan_of bs) set (numbers given) k) (omega (arith, pl.p-high, plan_p pl)) (setting-below k)) l)

      pub setting-given : Given (plan_of bs) inputs coins []
      setting-given = record {
        inputs_count = le.inputs_count;
        inputs_below = le.inputs_below;
        coins_count = ap length coins_are ∙ length-bytes_of (setting_coins (plan_of bs) set (numbers given) k) ∙ ap (λ (n : ℕ). width * n) (setting_long (plan_of bs) set (numbers given) k);
        coins_below = ap (all_below (plan_of bs).p) numbers-are ∙ setting-below k;
        triples_count = no-triples;
        triples_below = none-below;
      }

      pub row_is : (ys : List ℕ) → ys ≡ bytes_of (view (plan_of bs) (members set) (numbers inputs) (numbers coins) [] ++ (1 ∷ [])) → ys ≡ row_bytes (plan_of bs) set (numbers inputs) (numbers given) k
      unfolding row_bytes
      row_is ys q = q ∙ ap (λ (cs : List ℕ). bytes_of (view (plan_of bs) (members set) (numbers inputs) cs [] ++ (1 ∷ []))) numbers-are

pub row_size : (plan : Plan) (set v : ℕ) (inputs given owners : List ℕ) → Lent plan set inputs given owners v → Fits w64 (width * (v + 1))
row_size plan set v inputs given owners le = record { fits = omega (arith, le.few) }

pub row_next_size : (plan : Plan) (set v : ℕ) (inputs given owners : List ℕ) → Lent plan set inputs given owners v → Fits w64 (v + 1)
row_next_size plan set v inputs given owners le = record { fits = omega (arith, le.few) }

-- s rows stand; `size` is a row's bytes
pub record Filling (bs : List ℕ) (set : ℕ) (xs cs : List ℕ) (v settings size : ℕ) (coins d₀ d : List ℕ) (s : ℕ) : Type 0 where
  pub sized : size ≡ width * (v + 1)
  pub coined : length coins ≡ width * coin_count (plan_of bs)
  pub written : Written (row_bytes (plan_of bs) set xs cs) size settings d₀ d s

-- a list of whole rows
whole_rows : (d : List ℕ) (size : ℕ) → length d % size ≡ 0 → length d ≡ size * (length d / size)
whole_rows d size e = omega (arith, mod-eq-sub-mul-div (length d) size, mul-div-le (length d) size)

pub fill_none :
    (bs : List ℕ) (set : ℕ) (xs cs : List ℕ) (v : ℕ) (coins d : List ℕ) → length coins ≡ width * coin_count (plan_of bs) → length d % (width * (v + 1)) ≡ 0
    → Filling bs set xs cs v (length d / (width * (v + 1))) (width * (v + 1)) coins d d 0
fill_none bs set xs cs v coins d lc l =
    record {
      sized = refl;
      coined = lc;
      written = none_written (row_bytes (plan_of bs) set xs cs) (width * (v + 1)) (length d / (width * (v + 1))) d (whole_rows d (width * (v + 1)) l);
    }

pub row_some : (v : ℕ) → width * (v + 1) ≡ 0 → ⊥
row_some v e = omega arith

module _ (bs : List ℕ) (set : ℕ) (xs cs : List ℕ) (v settings size : ℕ) (coins d₀ d : List ℕ) (s : ℕ) (f : Filling bs set xs cs v settings size coins d₀ d s) where
  pub row_start : s < settings → length d₀ < 2 ^ 64 → Fits w64 (size * s)
  row_start l m = record { fits = omega (arith, room f.written l, f.written.long) }

  pub row_end : s < settings → length d₀ < 2 ^ 64 → Fits w64 (size * s + size)
  row_end l m = record { fits = omega (arith, room f.written l, f.written.long) }

  pub row_here : s < settings → size * s + size ≤ length d
  row_here l = room f.written l

  pub row_sized : s < settings → length (take (size * s + size - size * s) (drop (size * s) d)) ≡ width * (v + 1)
  row_sized l = piece_long f.written l ∙ f.sized

  pub row_written :
      (coins' ys : List ℕ) → s < settings → length coins' ≡ length coins → length ys ≡ length (take (size * s + size - size * s) (drop (size * s) d)) → ys ≡ row_bytes (plan_of bs) set xs cs s
      → Filling bs set xs cs v settings size coins' d₀ (take (size * s) d ++ (ys ++ drop (size * s + size - size * s) (drop (size * s) d))) (s + 1)
  row_written coins' ys l lc kept is = record { sized = f.sized; coined = lc ∙ f.coined; written = written_next f.written l ys kept is }

  pub rows_written : settings ≤ s → d ≡ rows_filled (plan_of bs) set xs cs settings
  unfolding rows_filled
  rows_written l = written_done (row_bytes (plan_of bs) set xs cs) size settings d₀ d s l f.written

  pub rows_long : length d ≡ length d₀
  rows_long = f.written.long

-- As it is: answers name this set, since the check leaves their goals open by `using` alone.
pub ruleset filling = (
  rules,
  prime-some,
  coins_room,
  setting-given,
  row_is,
  row_size,
  row_next_size,
  fill_none,
  row_some,
  row_start,
  row_end,
  row_here,
  row_sized,
  row_written,
  rows_written,
  rows_long,
)

-- ---- the room of the coins
module _ (bs : List ℕ) (set v : ℕ) (inputs given owners : List ℕ) (le : Lent (plan_of bs) set inputs given owners v) (room : List ℕ) (l : width * length owners ≤ length room) where
  pub room_long : width * length owners ≡ length (take (width * length owners) room)
  room_long = sym (length-take-le (width * length owners) room l)

  pub room_coins : length (take (width * length owners) room) ≡ width * coin_count (plan_of bs)
  unfolding coin_count
  room_coins = sym room_long ∙ ap (λ (os : List ℕ). width * length os) le.owned

pub room_fits : (owners room : List ℕ) → width * length owners ≤ length room → length room < 2 ^ 64 → Fits w64 (width * length owners)
room_fits owners room l f = record { fits = omega arith }

-- As it is: answers name this set, since the check leaves their goals open by `using` alone.
pub ruleset rooming = (rules, room_long, room_coins, room_fits)
