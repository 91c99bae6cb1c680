-- The lines that are read off a coalition's view are the lines of the run.
--     rounds-flat, member-flat, members-flat      members' lines
--     result-at, outs-flat                        outs' lines
--     run-flat                                    all lines
--     view-back                                   a view that is lent as bytes
-- Assumes nothing.
use mathlib.Core.Path.{◌≡◌, refl, sym, ap, ap₂, ◌∙◌}
use mathlib.Core.Bool.{Bool, true, false, cond}
use mathlib.Core.List.{List, [], ◌∷◌, ◌++◌, append_assoc, flat_map, Memᴰ}
use Prim.Native.Nat.{ℕ, zero, suc, ◌+◌, ◌-◌, ◌*◌, ◌<◌, ◌≤◌}
use native.Mathlib.Omega.{arith}
use borrow.Author.Tests.{leb-true, eq-eqb}
use lib.Dec.{leb, ltb}
use lib.ListN.{length, drop, get_or, length-append, get_or-append}
use lib.Seq.{take_at, drop_at, get_or-drop, get_or-append-add, get_or-append_seam}
use Rattle.numbers.specs.Tables.{tab, total}
use Rattle.numbers.specs.Bytes.{limit, numbers, bytes_of, all_below}
use Rattle.numbers.proofs.Tables.{tab-ext}
use Rattle.numbers.proofs.Below.{append_below, flat_map_below}
use Rattle.numbers.proofs.Truth.{both_true}
use Rattle.field.proofs.Inverse.{pos}
use Rattle.sharing_laws.specs.Interp.{All}
use Rattle.sharing_laws.proofs.Lists.{flat_map-append, flat_map-all, length-map}
use Rattle.plan.specs.declared.Output.{Output}
use Rattle.plan.specs.Plans.{Plan, party_count, triple_numbers, steps, last_call, input_owners, coin_owners, own_input_count, own_coin_count, own_out_count, coin_count, mail_count, own_inputs, own_coins, out_wires, out_wires_of}
use Rattle.plan.specs.File.{out_ok, between}
use Rattle.plan_coalition.specs.Coalitions.{in_set, members_from, members}
use Rattle.plan.proofs.Valid.{Valid}
use Rattle.plan_coalition.proofs.Coalitions.{Among, member_in, in_member, all-members}
use Rattle.run_protocol.specs.Rounds.{mail_to, after, results, mails, view_of, view, view_count_of, view_count}
use Rattle.run_protocol.specs.Tables.{table_mail, table_results, table_view_of, Tabled, triples_of}
use Rattle.run_protocol.proofs.Given.{tabled_list}
use Rattle.run_protocol.proofs.Owners.{length-own}
use Rattle.run_protocol.proofs.Runs.{views-table, results-table}
use Rattle.run_protocol.proofs.Counts.{mail_count_lem}
use Rattle.run_protocol.proofs.ViewCounts.{view-count}
use Rattle.run_protocol.proofs.Accepted.{own_below, back}
use Rattle.run_protocol.proofs.Below.{mail_below, results_below}
use Rattle.bench_text.specs.Decimals.{line}
use Rattle.bench_lines.specs.Report.{out_word, view_line, round_line, member_lines, out_lines_from, run_lines}
use Rattle.bench_lines.proofs.Parts.{members_split, wires-append}
use Rattle.bench_lines.specs.Placed.{round_lines_in, own_count, member_lines_in, part_at, results_at, member_part, out_line_in, out_lines_in, run_lines_in}

-- ---- k, k + 1, .. so many numbers
up_from : ℕ → ℕ → List ℕ
up_from k zero = []
up_from k (suc m) = k ∷ up_from (suc k) m

up-tab : (m k : ℕ) → up_from k m ≡ tab (λ j. k + j) m
unfolding up_from tab
up-tab zero k = refl
up-tab (suc m) k =
    let e : k ≡ k + 0 = omega arith in
    ap₂ (λ (x : ℕ) (l : List ℕ). x ∷ l) e (up-tab m (suc k) ∙ tab-ext (λ j. suc k + j) (λ j. k + suc j) m (λ j l. omega arith))

up_all : (m : ℕ) → tab (λ k. k) m ≡ up_from 0 m
up_all m = sym (up-tab m 0 ∙ tab-ext (λ j. 0 + j) (λ k. k) m (λ j l. omega arith))

-- ---- the members of a set, in parts
members_around : (set m : ℕ) → 1 ≤ m → m ≤ 16 → in_set set m ≡ true → members set ≡ members_from set 1 (m - 1) ++ (m ∷ members_from set (suc m) (16 - m))
unfolding members members_from
members_around set m l h e =
    let q : 16 ≡ (m - 1) + suc (16 - m) = omega arith in
    let r : 1 + (m - 1) ≡ m = omega arith in
    ap (members_from set 1) q ∙ members_split set (m - 1) 1 (suc (16 - m)) ∙ rw (r, e)

all_front : (P : ℕ → Type 0) (xs ys : List ℕ) → All P (xs ++ ys) → All P xs
all_front P [] ys a = tt
all_front P (x ∷ xs) ys a = (a.0, all_front P xs ys a.1)

-- ---- the outs before one of a party's own are fewer than all its outs
own_out : (x : Output) (outs : List Output) → out_wires_of x.party (x ∷ outs) ≡ x.wire ∷ out_wires_of x.party outs
unfolding out_wires_of
own_out x outs = rw (eq-eqb x.party x.party refl)

own_before : (seen : List Output) (x : Output) (outs : List Output) → length (out_wires_of x.party seen) < length (out_wires_of x.party (seen ++ (x ∷ outs)))
own_before seen x outs =
    omega (
      arith,
      ap length (wires-append x.party seen (x ∷ outs)),
      length-append (out_wires_of x.party seen) (out_wires_of x.party (x ∷ outs)),
      ap length (own_out x outs),
    )

module _ (plan : Plan) (valid : Valid plan) (xs cs ts : List ℕ) (full : length cs ≡ coin_count plan) (all_triples : length ts ≡ party_count plan * triple_numbers plan) where
  abbrev tf : List (ℕ → ℕ)
  tf = triples_of plan ts

  tabled : Tabled plan ts tf
  tabled = tabled_list plan valid ts all_triples

  -- ---- one member
  module _ (i : ℕ) (low : 1 ≤ i) (high : i ≤ party_count plan) where
    mail_of : ℕ → List ℕ
    mail_of k = mail_to i (after plan xs cs ts (suc k))

    rounds-flat : (m k : ℕ) (rest : List ℕ) → k + m ≤ last_call plan
        → round_lines_in plan i (flat_map mail_of (up_from k m) ++ rest) k m ≡ flat_map (round_line plan xs cs ts i) (up_from k m)
    unfolding round_lines_in up_from flat_map mail_of round_line
    rounds-flat zero k rest l = refl
    rounds-flat (suc m) k rest l =
        let n : length (mail_to i (after plan xs cs ts (suc k))) ≡ mail_count plan i (suc k) = mail_count_lem plan valid xs cs ts i low high (suc k) (omega arith) in
        let more : List ℕ = flat_map mail_of (up_from (suc k) m) ++ rest in
        rw (append_assoc (mail_of k) (flat_map mail_of (up_from (suc k) m)) rest, take_at (mail_of k) more (mail_count plan i (suc k)) n, drop_at (mail_of k) more (mail_count plan i (suc k)) n, rounds-flat m (suc k) rest (omega arith))

    own_long : length (own_inputs plan i xs ++ own_coins plan i cs) ≡ own_count plan i
    unfolding own_count own_inputs own_coins own_input_count own_coin_count
    own_long = length-append (own_inputs plan i xs) (own_coins plan i cs) ∙ ap₂ (λ (a b : ℕ). a + b) (length-own i (input_owners plan) xs) (length-own i (coin_owners plan) cs)

    view-parts : (rest : List ℕ)
        → view_of plan xs cs ts i ++ rest ≡ (own_inputs plan i xs ++ own_coins plan i cs) ++ (flat_map mail_of (up_from 0 (last_call plan)) ++ (results plan xs cs ts i ++ rest))
    unfolding view_of mails mail_of
    view-parts rest = rw (up_all (last_call plan)) (simp append_assoc)

    pub member-flat : (rest : List ℕ) → member_lines_in plan i (view_of plan xs cs ts i ++ rest) ≡ member_lines plan xs cs ts i
    unfolding member_lines_in member_lines view_line
    member-flat rest =
        let own : List ℕ = own_inputs plan i xs ++ own_coins plan i cs in
        let more : List ℕ = flat_map mail_of (up_from 0 (last_call plan)) ++ (results plan xs cs ts i ++ rest) in
        rw (view-parts rest, take_at own more (own_count plan i) own_long, drop_at own more (own_count plan i) own_long, rounds-flat (last_call plan) 0 (results plan xs cs ts i ++ rest) (omega arith), up_all (last_call plan))

    results-long : length (results plan xs cs ts i) ≡ own_out_count plan i
    unfolding table_results own_out_count
    results-long = ap length (results-table plan valid xs cs ts tf full tabled i low high) ∙ length-map _ (out_wires plan i)

    view_long : length (view_of plan xs cs ts i) ≡ view_count_of plan i
    unfolding view view_count total flat_map
    view_long =
        let one : List ℕ = view_of plan xs cs ts i in
        omega (arith, length-append one [], view-count plan valid xs cs ts tf full tabled (i ∷ []) ((low, high), tt))

    -- result r stands behind inputs, coins and mail
    result-in : (rest : List ℕ) (r : ℕ) → r < own_out_count plan i → get_or (view_of plan xs cs ts i ++ rest) (view_count_of plan i - own_out_count plan i + r) 0 ≡ get_or (results plan xs cs ts i) r 0
    unfolding view_of
    result-in rest r l =
        let front : List ℕ = own_inputs plan i xs ++ (own_coins plan i cs ++ mails plan xs cs ts i) in
        let e : view_of plan xs cs ts i ≡ front ++ results plan xs cs ts i = simp append_assoc in
        let n : length front ≡ view_count_of plan i - own_out_count plan i = omega (arith, view_long, ap length e, length-append front (results plan xs cs ts i), results-long) in
        ap (λ (l : List ℕ). get_or (l ++ rest) (view_count_of plan i - own_out_count plan i + r) 0) e
        ∙ rw (append_assoc front (results plan xs cs ts i) rest, ← n) (get_or-append-add front (results plan xs cs ts i ++ rest) r 0 ∙ get_or-append (results plan xs cs ts i) rest 0 r (omega (arith, results-long)))

  -- ---- all members
  module _ (set : ℕ) (upto : (m : ℕ) → Memᴰ m (members set) → m ≤ party_count plan) where
    within : All (λ i. (1 ≤ i) × (i ≤ party_count plan)) (members set)
    within = all-members (λ i. (1 ≤ i) × (i ≤ party_count plan)) (members set) (λ m w. ((member_in set m w).from, upto m w))

    abbrev vs : List ℕ
    vs = view plan (members set) xs cs ts

    rest_of : ℕ → List ℕ
    rest_of m = flat_map (view_of plan xs cs ts) (members_from set (suc m) (16 - m))

    -- a member's view stands behind those of the members below it
    view-at : (m : ℕ) → 1 ≤ m → m ≤ 16 → in_set set m ≡ true → drop (part_at plan set m) vs ≡ view_of plan xs cs ts m ++ rest_of m
    unfolding part_at view flat_map rest_of
    view-at m l h e =
        let q : members set ≡ members_from set 1 (m - 1) ++ (m ∷ members_from set (suc m) (16 - m)) = members_around set m l h e in
        let front : List ℕ = members_from set 1 (m - 1) in
        let a : All (λ i. (1 ≤ i) × (i ≤ party_count plan)) front =
        all_front (λ i. (1 ≤ i) × (i ≤ party_count plan)) front (m ∷ members_from set (suc m) (16 - m)) (rw q at within) in
        let n : length (flat_map (view_of plan xs cs ts) front) ≡ view_count plan front = view-count plan valid xs cs ts tf full tabled front a in
        ap (λ (ms : List ℕ). drop (view_count plan front) (flat_map (view_of plan xs cs ts) ms)) q
        ∙ ap (drop (view_count plan front)) (flat_map-append (view_of plan xs cs ts) front (m ∷ members_from set (suc m) (16 - m)))
        ∙ drop_at (flat_map (view_of plan xs cs ts) front) (view_of plan xs cs ts m ++ flat_map (view_of plan xs cs ts) (members_from set (suc m) (16 - m))) (view_count plan front) n

    member-part : (m : ℕ) → 1 ≤ m → m ≤ 16 → in_set set m ≡ true → m ≤ party_count plan → member_part plan set vs m ≡ member_lines plan xs cs ts m
    unfolding member_part
    member-part m l h e u = ap (member_lines_in plan m) (view-at m l h e) ∙ member-flat m l u (rest_of m)

    members-flat : flat_map (member_part plan set vs) (members set) ≡ flat_map (member_lines plan xs cs ts) (members set)
    members-flat =
        flat_map-all (member_part plan set vs) (member_lines plan xs cs ts) (members set)
        (all-members (λ i. member_part plan set vs i ≡ member_lines plan xs cs ts i) (members set)
        (λ m w. let a : Among set 1 16 m = member_in set m w in member-part m a.from (omega (arith, a.below)) a.bit (upto m w)))

    -- ---- outs
    result-at : (m r : ℕ) → 1 ≤ m → m ≤ 16 → in_set set m ≡ true → r < own_out_count plan m → get_or vs (results_at plan set m + r) 0 ≡ get_or (results plan xs cs ts m) r 0
    unfolding results_at
    result-at m r l h e k =
        let q : part_at plan set m + (view_count_of plan m - own_out_count plan m) + r ≡ part_at plan set m + (view_count_of plan m - own_out_count plan m + r) = omega arith in
        ap (λ (n : ℕ). get_or vs n 0) q
        ∙ sym (get_or-drop (part_at plan set m) vs (view_count_of plan m - own_out_count plan m + r) 0)
        ∙ ap (λ (ys : List ℕ). get_or ys (view_count_of plan m - own_out_count plan m + r) 0) (view-at m l h e)
        ∙ result-in m l (upto m (in_member set m l h e)) (rest_of m) r k

    module _ (few : party_count plan ≤ 16) where
      out-flat : (o : ℕ) (seen : List Output) (x : Output) (outs : List Output) → seen ++ (x ∷ outs) ≡ plan.outs
          → out_line_in plan set vs o seen x
          ≡ cond (in_set set x.party) (line out_word (o ∷ x.party ∷ get_or (results plan xs cs ts x.party) (length (out_wires_of x.party seen)) 0 ∷ [])) []
      unfolding out_line_in out_ok between own_out_count out_wires
      out-flat o seen x outs e = pick (in_set set x.party) refl
        where
          d : Output
          d = record { party = 0; wire = 0 }

          at : get_or plan.outs (length seen) d ≡ x
          at = ap (λ (os : List Output). get_or os (length seen) d) (sym e) ∙ get_or-append_seam seen x outs d

          inside : length seen < length plan.outs
          inside = omega (arith, ap length e, length-append seen (x ∷ outs))

          party : between 1 (party_count plan) x.party ≡ true
          party = (both_true (between 1 (party_count plan) x.party) (ltb x.wire (length plan.gates)) (rw at at (valid.outs (length seen) inside))).0

          low : 1 ≤ x.party
          low = leb-true 1 x.party (both_true (leb 1 x.party) (leb x.party (party_count plan)) party).0

          high : x.party ≤ party_count plan
          high = leb-true x.party (party_count plan) (both_true (leb 1 x.party) (leb x.party (party_count plan)) party).1

          before : length (out_wires_of x.party seen) < length (out_wires_of x.party plan.outs)
          before = rw (← e) (own_before seen x outs)

          pick : (b : Bool) → in_set set x.party ≡ b
              → cond b (line out_word (o ∷ x.party ∷ get_or vs (results_at plan set x.party + length (out_wires_of x.party seen)) 0 ∷ [])) []
              ≡ cond b (line out_word (o ∷ x.party ∷ get_or (results plan xs cs ts x.party) (length (out_wires_of x.party seen)) 0 ∷ [])) []
          pick true m = ap (λ (v : ℕ). line out_word (o ∷ x.party ∷ v ∷ [])) (result-at x.party (length (out_wires_of x.party seen)) low (omega (arith, high)) m before)
          pick false m = refl

      outs-flat : (outs : List Output) (o : ℕ) (seen : List Output) → seen ++ outs ≡ plan.outs → out_lines_in plan set vs o seen outs ≡ out_lines_from plan set xs cs ts o seen outs
      unfolding out_lines_in out_lines_from
      outs-flat [] o seen e = refl
      outs-flat (x ∷ outs) o seen e =
          ap₂ (λ (a b : List ℕ). a ++ b) (out-flat o seen x outs e) (outs-flat outs (suc o) (seen ++ (x ∷ [])) (append_assoc seen (x ∷ []) outs ∙ e))

      pub run-flat : run_lines_in plan set vs ≡ run_lines plan set xs cs ts
      unfolding run_lines_in run_lines
      run-flat = rw (members-flat, outs-flat plan.outs 0 [] refl)

    -- ---- as bytes
    pub view-back : plan.p ≤ limit → all_below plan.p xs ≡ true → all_below plan.p cs ≡ true → numbers (bytes_of vs) ≡ vs
    unfolding table_view_of own_inputs own_coins
    view-back few small coins =
        back plan.p vs few (rw (views-table plan valid xs cs ts tf full tabled (members set) within) (flat_map_below plan.p (table_view_of plan xs cs tf) (members set) below))
      where
        above : 0 < plan.p
        above = pos valid.prime

        below : (i : ℕ) → all_below plan.p (table_view_of plan xs cs tf i) ≡ true
        below i =
            append_below plan.p _ _ (own_below plan above i (input_owners plan) xs small)
            (append_below plan.p _ _ (own_below plan above i (coin_owners plan) cs coins)
            (append_below plan.p _ _ (flat_map_below plan.p (table_mail plan xs cs tf i) (steps plan) (mail_below plan above xs cs tf i))
            (results_below plan above xs cs tf i)))
