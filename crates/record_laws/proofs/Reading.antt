-- What the readers find in a record.
--     ok-size, tiled                            a record that passes 28: its bodies one after the other are all that follows the contents
--     ok_same                                   28 goes by the length and the contents alone
--     made-size, made_ok_lem                        the writer's contents, with bodies of the plan's lengths, pass 28
--     made-body, made-bodies                    what is read of such a record
--     bytes-flat_map                             bytes of lists one after the other
--     run-size, run_ok, run-body, run-bodies    the record of a run
-- Assumes nothing.
use Rattle.std.proofs.Common.{Option, None}
use Prim.Native.Nat.{ℕ, zero, suc, ◌+◌, ◌-◌, ◌*◌, ◌<◌, ◌≤◌}
use mathlib.Core.Path.{◌≡◌, refl, sym, ap, ap₂, ◌∙◌}
use mathlib.Core.Bool.{true, ◌&&◌}
use mathlib.Core.List.{List, [], ◌∷◌, ◌++◌, flat_map}
use native.Mathlib.Omega.{arith}
use borrow.Author.Tests.{eq-eqb, eqb-true}
use lib.Dec.{eqb}
use lib.ListN.{length, take, drop, get_or, length-append, length-drop, get_or-append}
use lib.Seq.{take_all, take-add, drop-drop, take_at, drop_at, get_or-take, get_or-drop, get_or-append-add}
use Rattle.numbers.specs.Tables.{tab, first_failing, total}
use Rattle.numbers.specs.Bytes.{limit, number_at, bytes_from, bytes_of}
use Rattle.numbers.proofs.Truth.{both_true}
use Rattle.numbers.proofs.Tables.{tab-snoc, tab-cons, tab-append, length-tab, get_or-tab}
use Rattle.numbers.proofs.Searches.{passes-nothing, first_ext}
use Rattle.numbers.proofs.Bytes.{limit_is, number_same, bytes_number, length-bytes_from, length-bytes_of, bytes_of-nil, bytes_of-append}
use Rattle.numbers.proofs.Rows.{flat_append, flat-snoc, flat-length, flat-part}
use Rattle.plan.specs.Plans.{Plan, party_count, parties, coin_count}
use Rattle.plan.specs.File.{found_none}
use Rattle.plan.proofs.Valid.{Valid}
use Rattle.run_protocol.specs.Rounds.{view_of, view, view_count_of, view_count}
use Rattle.run_protocol.specs.Tables.{Tabled}
use Rattle.run_protocol.proofs.ViewCounts.{view-count}
use Rattle.record_laws.specs.Records.{body_size, bodies_before, body_start, record_size, content_of, contents_of, record_of, content_kept, record_ok, bodies_of, body_of}
use Rattle.record_laws.proofs.Sizes.{before-le, size-le}

-- ---- any record
module _ (plan : Plan) (r : List ℕ) where
  body_is : (k : ℕ) → body_of plan r (suc k) ≡ take (body_size plan (suc k)) (drop (bodies_before plan k) (bodies_of plan r))
  unfolding body_of body_start bodies_of
  body_is k =
      let e : suc k - 1 ≡ k = omega arith in
      ap (λ (j : ℕ). take (body_size plan (suc k)) (drop (8 * party_count plan + bodies_before plan j) r)) e
      ∙ ap (take (body_size plan (suc k))) (sym (drop-drop (bodies_before plan k) (8 * party_count plan) r))

  tiled-before : (k : ℕ) → flat_map (body_of plan r) (tab suc k) ≡ take (bodies_before plan k) (bodies_of plan r)
  unfolding bodies_before tab flat_map
  tiled-before zero = refl
  tiled-before (suc k) =
      ap (flat_map (body_of plan r)) (tab-snoc suc k) ∙ flat-snoc (body_of plan r) (tab suc k) (suc k)
      ∙ ap₂ (λ (a b : List ℕ). a ++ b) (tiled-before k) (body_is k)
      ∙ sym (take-add (bodies_before plan k) (body_size plan (suc k)) (bodies_of plan r))

  pub ok-size : record_ok plan r ≡ true → length r ≡ record_size plan
  unfolding record_ok
  ok-size ok = eqb-true (length r) (record_size plan) (both_true (eqb (length r) (record_size plan)) _ ok).0

  pub tiled : record_ok plan r ≡ true → flat_map (body_of plan r) (parties plan) ≡ bodies_of plan r
  unfolding parties record_size body_start bodies_of
  tiled ok =
      tiled-before (party_count plan)
      ∙ take_all (bodies_before plan (party_count plan)) (drop (8 * party_count plan) r) (omega (arith, ok-size ok, length-drop (8 * party_count plan) r))

-- ---- two records of the same length and contents
module _ (plan : Plan) (r s : List ℕ) (contents : take (8 * party_count plan) r ≡ take (8 * party_count plan) s) where
  byte-same : (j : ℕ) → j < 8 * party_count plan → get_or r j 0 ≡ get_or s j 0
  byte-same j l =
      sym (get_or-take (8 * party_count plan) r j 0 l) ∙ ap (λ (c : List ℕ). get_or c j 0) contents ∙ get_or-take (8 * party_count plan) s j 0 l

  number-kept : (at : ℕ) → at + 4 ≤ 8 * party_count plan → number_at 4 r at ≡ number_at 4 s at
  number-kept at l = number_same 4 r s at at (λ j m. byte-same (at + j) (omega arith))

  pub ok_same : length r ≡ length s → record_ok plan r ≡ record_ok plan s
  unfolding record_ok content_kept
  ok_same e =
      ap₂ (λ (n : ℕ) (f : Option ℕ). eqb n (record_size plan) && found_none f) e
      (first_ext (content_kept plan r) (content_kept plan s) (party_count plan)
      (λ k l.
      ap₂ (λ (a b : ℕ). eqb a (body_start plan k) && eqb b (body_size plan (suc k))) (number-kept (8 * k) (omega arith)) (number-kept (8 * k + 4) (omega arith))))

-- ---- the writer's contents
module _ (plan : Plan) where
  content_long : (k : ℕ) → length (content_of plan k) ≡ 8
  unfolding content_of
  content_long k =
      omega (
        arith,
        length-append (bytes_from 4 (body_start plan k)) (bytes_from 4 (body_size plan (suc k))),
        length-bytes_from 4 (body_start plan k),
        length-bytes_from 4 (body_size plan (suc k)),
      )

  pub contents_long : length (contents_of plan) ≡ 8 * party_count plan
  unfolding contents_of
  contents_long =
      flat-length (content_of plan) 8 content_long (tab (λ k. k) (party_count plan))
      ∙ ap (λ (n : ℕ). 8 * n) (length-tab {A = ℕ} (λ k. k) (party_count plan))

  module _ (bodies : List ℕ) (k : ℕ) (l : k < party_count plan) where
    content-byte : (j : ℕ) → j < 8 → get_or (contents_of plan ++ bodies) (8 * k + j) 0 ≡ get_or (content_of plan k) j 0
    unfolding contents_of
    content-byte j m =
        let n : ℕ = party_count plan in
        let within : k < length (tab {A = ℕ} (λ k. k) n) = omega (arith, length-tab {A = ℕ} (λ k. k) n) in
        let part : take 8 (drop (8 * k) (contents_of plan)) ≡ content_of plan k =
        flat-part (content_of plan) 8 content_long (tab (λ k. k) n) k 0 within ∙ ap (content_of plan) (get_or-tab (λ k. k) n k 0 l) in
        get_or-append (contents_of plan) bodies 0 (8 * k + j) (omega (arith, contents_long))
        ∙ sym (get_or-take 8 (drop (8 * k) (contents_of plan)) j 0 m ∙ get_or-drop (8 * k) (contents_of plan) j 0)
        ∙ ap (λ (c : List ℕ). get_or c j 0) part

    offset_read : body_start plan k < limit → number_at 4 (contents_of plan ++ bodies) (8 * k) ≡ body_start plan k
    unfolding content_of
    offset_read small =
        let a : List ℕ = bytes_from 4 (body_start plan k) in
        number_same 4 (contents_of plan ++ bodies) a (8 * k) 0
        (λ j m. content-byte j (omega arith) ∙ get_or-append a (bytes_from 4 (body_size plan (suc k))) 0 j (omega (arith, length-bytes_from 4 (body_start plan k))) ∙ (let e : j ≡ 0 + j = omega arith in ap (λ (i : ℕ). get_or a i 0) e))
        ∙ bytes_number 4 (body_start plan k) (omega (arith, limit_is))

    size_read : body_size plan (suc k) < limit → number_at 4 (contents_of plan ++ bodies) (8 * k + 4) ≡ body_size plan (suc k)
    unfolding content_of
    size_read small =
        let a : List ℕ = bytes_from 4 (body_start plan k) in
        let b : List ℕ = bytes_from 4 (body_size plan (suc k)) in
        number_same 4 (contents_of plan ++ bodies) b (8 * k + 4) 0
        (λ j m.
        let e : 8 * k + 4 + j ≡ 8 * k + (4 + j) = omega arith in
        let f : 4 + j ≡ length (bytes_from 4 (body_start plan k)) + j = omega (arith, length-bytes_from 4 (body_start plan k)) in
        let g : j ≡ 0 + j = omega arith in
        ap (λ (i : ℕ). get_or (contents_of plan ++ bodies) i 0) e ∙ content-byte (4 + j) (omega arith) ∙ ap (λ (i : ℕ). get_or (a ++ b) i 0) f ∙ get_or-append-add a b j 0 ∙ ap (λ (i : ℕ). get_or b i 0) g)
        ∙ bytes_number 4 (body_size plan (suc k)) (omega (arith, limit_is))

  -- ---- with bodies of the plan's lengths
  module _ (bodies : List ℕ) (long : length bodies ≡ bodies_before plan (party_count plan)) where
    pub made-size : length (contents_of plan ++ bodies) ≡ record_size plan
    unfolding record_size body_start
    made-size = omega (arith, length-append (contents_of plan) bodies, contents_long)

    pub made-bodies : bodies_of plan (contents_of plan ++ bodies) ≡ bodies
    unfolding bodies_of
    made-bodies = drop_at (contents_of plan) bodies (8 * party_count plan) contents_long

    module _ (small : record_size plan < limit) where
      content-kept : (k : ℕ) → k < party_count plan → content_kept plan (contents_of plan ++ bodies) k ≡ true
      unfolding content_kept record_size
      content-kept k l =
          let offset : eqb (number_at 4 (contents_of plan ++ bodies) (8 * k)) (body_start plan k) ≡ true =
          eq-eqb _ _ (offset_read bodies k l (omega (arith, small, before-le plan k (party_count plan) (omega arith)))) in
          let size : eqb (number_at 4 (contents_of plan ++ bodies) (8 * k + 4)) (body_size plan (suc k)) ≡ true =
          eq-eqb _ _ (size_read bodies k l (omega (arith, small, size-le plan k l))) in
          rw (offset, size) refl

      pub made_ok_lem : record_ok plan (contents_of plan ++ bodies) ≡ true
      unfolding record_ok found_none
      made_ok_lem =
          let whole : eqb (length (contents_of plan ++ bodies)) (record_size plan) ≡ true = eq-eqb _ _ made-size in
          let none : first_failing (content_kept plan (contents_of plan ++ bodies)) (party_count plan) ≡ None =
          passes-nothing (content_kept plan (contents_of plan ++ bodies)) (party_count plan) content-kept in
          rw (whole, none) refl

-- ---- the body of a party among bodies one after the other
module _ (plan : Plan) (f : ℕ → List ℕ) (each : (i : ℕ) → 1 ≤ i → i ≤ party_count plan → length (f i) ≡ body_size plan i) where
  bodies-long : (k : ℕ) → k ≤ party_count plan → length (flat_map f (tab suc k)) ≡ bodies_before plan k
  unfolding bodies_before tab flat_map
  bodies-long zero l = refl
  bodies-long (suc k) l =
      ap length (ap (flat_map f) (tab-snoc suc k) ∙ flat-snoc f (tab suc k) (suc k))
      ∙ omega (arith, length-append (flat_map f (tab suc k)) (f (suc k)), bodies-long k (omega arith), each (suc k) (omega arith) l)

  pub all_long : length (flat_map f (parties plan)) ≡ bodies_before plan (party_count plan)
  unfolding parties
  all_long = bodies-long (party_count plan) (omega arith)

  module _ (k : ℕ) (l : k < party_count plan) where
    -- the parties after party k + 1
    abbrev later : List ℕ
    later = tab (λ j. suc (k + suc j)) (party_count plan - suc k)

    in_parts : flat_map f (parties plan) ≡ flat_map f (tab suc k) ++ (f (suc k) ++ flat_map f later)
    unfolding parties flat_map
    in_parts =
        let e : party_count plan ≡ k + suc (party_count plan - suc k) = omega arith in
        let z : suc (k + 0) ≡ suc k = omega arith in
        let from : tab (λ j. suc (k + j)) (suc (party_count plan - suc k)) ≡ suc k ∷ later =
        tab-cons (λ j. suc (k + j)) (party_count plan - suc k) ∙ ap (λ (j : ℕ). j ∷ later) z in
        ap (λ (j : ℕ). flat_map f (tab suc j)) e ∙ ap (flat_map f) (tab-append suc k (suc (party_count plan - suc k)))
        ∙ flat_append f (tab suc k) (tab (λ j. suc (k + j)) (suc (party_count plan - suc k)))
        ∙ ap (λ (is : List ℕ). flat_map f (tab suc k) ++ flat_map f is) from

    body-next : body_of plan (contents_of plan ++ flat_map f (parties plan)) (suc k) ≡ f (suc k)
    body-next =
        body_is plan (contents_of plan ++ flat_map f (parties plan)) k
        ∙ ap (λ (b : List ℕ). take (body_size plan (suc k)) (drop (bodies_before plan k) b)) (made-bodies plan (flat_map f (parties plan)) all_long ∙ in_parts)
        ∙ ap (take (body_size plan (suc k))) (drop_at (flat_map f (tab suc k)) (f (suc k) ++ flat_map f later) (bodies_before plan k) (bodies-long k (omega arith)))
        ∙ take_at (f (suc k)) (flat_map f later) (body_size plan (suc k)) (each (suc k) (omega arith) l)

  pub made-body : (i : ℕ) → 1 ≤ i → i ≤ party_count plan → body_of plan (contents_of plan ++ flat_map f (parties plan)) i ≡ f i
  made-body zero l m = absurd (omega arith)
  made-body (suc k) l m = body-next k m

-- ---- a run's record
pub bytes-flat_map : (f : ℕ → List ℕ) (is : List ℕ) → bytes_of (flat_map f is) ≡ flat_map (λ i. bytes_of (f i)) is
unfolding flat_map
bytes-flat_map f [] = bytes_of-nil
bytes-flat_map f (i ∷ is) = bytes_of-append (f i) (flat_map f is) ∙ ap (λ (l : List ℕ). bytes_of (f i) ++ l) (bytes-flat_map f is)

module _ (plan : Plan) (valid : Valid plan) (xs coins ts : List ℕ) (tf : List (ℕ → ℕ)) (full : length coins ≡ coin_count plan) (tabled : Tabled plan ts tf) where
  view_long : (i : ℕ) → 1 ≤ i → i ≤ party_count plan → length (bytes_of (view_of plan xs coins ts i)) ≡ body_size plan i
  unfolding body_size view flat_map view_count total
  view_long i l m =
      let one : length (view_of plan xs coins ts i ++ []) ≡ view_count_of plan i + 0 =
      view-count plan valid xs coins ts tf full tabled (i ∷ []) ((l, m), tt) in
      omega (arith, length-bytes_of (view_of plan xs coins ts i), one, length-append (view_of plan xs coins ts i) [])

  record_is : record_of plan xs coins ts ≡ contents_of plan ++ flat_map (λ i. bytes_of (view_of plan xs coins ts i)) (parties plan)
  unfolding record_of view
  record_is = ap (λ (l : List ℕ). contents_of plan ++ l) (bytes-flat_map (view_of plan xs coins ts) (parties plan))

  views-long : length (flat_map (λ i. bytes_of (view_of plan xs coins ts i)) (parties plan)) ≡ bodies_before plan (party_count plan)
  views-long = all_long plan (λ i. bytes_of (view_of plan xs coins ts i)) view_long

  pub run-size : length (record_of plan xs coins ts) ≡ record_size plan
  run-size = ap length record_is ∙ made-size plan _ views-long

  pub run_ok : record_size plan < limit → record_ok plan (record_of plan xs coins ts) ≡ true
  run_ok small = ap (record_ok plan) record_is ∙ made_ok_lem plan _ views-long small

  pub run-body : (i : ℕ) → 1 ≤ i → i ≤ party_count plan → body_of plan (record_of plan xs coins ts) i ≡ bytes_of (view_of plan xs coins ts i)
  run-body i l m = ap (λ (r : List ℕ). body_of plan r i) record_is ∙ made-body plan (λ i. bytes_of (view_of plan xs coins ts i)) view_long i l m

  pub run-bodies : bodies_of plan (record_of plan xs coins ts) ≡ bytes_of (view plan (parties plan) xs coins ts)
  unfolding record_of bodies_of
  run-bodies = drop_at (contents_of plan) (bytes_of (view plan (parties plan) xs coins ts)) (8 * party_count plan) (contents_long plan)
