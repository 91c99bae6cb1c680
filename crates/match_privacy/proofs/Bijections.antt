-- The matching of a run's coins is a bijection of full lists, and keeps the members' coins.
--     past_new, run-new, past_matched      the matched run goes through the states that the matching builds
--     length-match, match-canon           as many coins, all elements
--     match_back                          the matching with the runs exchanged undoes it
--     own-match                           a member's coins stay
--     full, back, one_to_one, onto, keeps     with the plan's counts, for matched_with
-- Assumes nothing.
use mathlib.Core.Path.{◌≡◌, refl, sym, ap, ap₂, ◌∙◌}
use mathlib.Core.Bool.{true}
use mathlib.Core.List.{List, [], ◌∷◌, ◌++◌, map, flat_map}
use Prim.Native.Nat.{ℕ, ◌+◌, ◌≤◌}
use native.Mathlib.Omega.{arith}
use lib.ListN.{length, take, drop, length-append, length-drop, take-append-drop, drop_of_length-le}
use lib.Seq.{length-take-le, drop_at}
use Rattle.field.proofs.Solve.{Canon}
use Rattle.field.proofs.Inverse.{pos}
use Rattle.sharing_laws.specs.Interp.{All}
use Rattle.sharing_laws.proofs.Alls.{all_append, all_drop, below_canon, canon_below}
use Rattle.match_privacy.specs.Matching.{is_member, matched_blocks, change_of, absorbed_by, absorbed, with_coins, matched_at, match_from, matched_with}
use Rattle.match_privacy.proofs.Members.{map-members}
use Rattle.plan.specs.declared.Gate.{Gate}
use Rattle.plan.specs.declared.Gate.TheVariants.{Input, Add, Scale, Offset, Multiply, Random, Spend}
use Rattle.plan.specs.declared.Rule.{Rule}
use Rattle.plan.specs.declared.Rule.TheVariants.{Reduction, Truncation}
use Rattle.plan.specs.Plans.{kind_of, is_kind, operands_of, Plan, dealings_at, coin_owners_at, coin_owners, coin_count, own_of, own_coins}
use Rattle.run_protocol.specs.Ideal.{inputs_taken}
use Rattle.run_protocol.specs.Shares.{Before, dealt_at, triples_taken, past, past_all, start_of}
use Rattle.run_protocol.specs.Settings.{Coins}
use Rattle.plan.proofs.Valid.{Valid}
use Rattle.run_protocol.proofs.Sound.{Wide, wide}
use Rattle.match_privacy.proofs.Matches.{taken, Step, gate_step, share_prefix}

-- the coins that these gates take
abbrev pub coins_of : Plan → List Gate → ℕ
coins_of plan gs = length (flat_map (coin_owners_at plan) gs)

pub coins-cons : (plan : Plan) (g : Gate) (gs : List Gate) → coins_of plan (g ∷ gs) ≡ taken plan g + coins_of plan gs
unfolding flat_map
coins-cons plan g gs = length-append (coin_owners_at plan g) (flat_map (coin_owners_at plan) gs)

-- ---- past a gate, of more coins than it takes
pub past_new :
    (plan : Plan) (g : Gate) (s : Before) (new rest : List ℕ) → length new ≡ taken plan g
    → past plan g (with_coins (new ++ rest) s) ≡ with_coins rest (past plan g (with_coins new s))
unfolding past with_coins
past_new plan g s new rest e =
    ap₂ (λ (h : ℕ → ℕ) (l : List ℕ). record { env = s.env ++ (h ∷ []); inputs = drop (inputs_taken plan g) s.inputs; coins = l; triples = drop (triples_taken g) s.triples })
    (share_prefix plan g s new rest (omega arith)) (drop_at new rest (taken plan g) e)

-- ---- the second run's coins play no part
absorbed_other : (plan : Plan) (ms : List ℕ) (s s' : Before) (c : List ℕ) (a b : ℕ) (r : Rule) → absorbed_by plan r ms s (with_coins c s') a b ≡ absorbed_by plan r ms s s' a b
unfolding absorbed_by change_of with_coins
absorbed_other plan ms s s' c a b Reduction = refl
absorbed_other plan ms s s' c a b Truncation = refl

absorbed_any : (plan : Plan) (ms : List ℕ) (g : Gate) (s s' : Before) (c : List ℕ) → absorbed plan ms g s (with_coins c s') ≡ absorbed plan ms g s s'
unfolding absorbed is_kind kind_of operands_of
absorbed_any plan ms (Input i) s s' c = refl
absorbed_any plan ms (Add a b) s s' c = refl
absorbed_any plan ms (Scale a k) s s' c = refl
absorbed_any plan ms (Offset a k) s s' c = refl
absorbed_any plan ms (Multiply a b) s s' c = absorbed_other plan ms s s' c a b plan.rule
absorbed_any plan ms Random s s' c = refl
absorbed_any plan ms (Spend a b) s s' c = refl

matched_any : (plan : Plan) (ms : List ℕ) (g : Gate) (s s' : Before) (c : List ℕ) → matched_at plan ms g s (with_coins c s') ≡ matched_at plan ms g s s'
unfolding matched_at with_coins
matched_any plan ms g s s' c =
    ap (λ (l : List ℕ). matched_blocks plan ms (dealings_at plan g) (dealt_at plan g s) (dealt_at plan g (with_coins l s')) l) (absorbed_any plan ms g s s' c)

pub match_any : (plan : Plan) (ms : List ℕ) (gs : List Gate) (s s' : Before) (c : List ℕ) → match_from plan ms gs s (with_coins c s') ≡ match_from plan ms gs s s'
unfolding match_from with_coins
match_any plan ms [] s s' c = refl
match_any plan ms (g ∷ gs) s s' c =
    ap (λ (l : List ℕ). l ++ match_from plan ms gs (past plan g s) (past plan g (with_coins l s'))) (matched_any plan ms g s s' c)

-- ---- the second run's state past these gates
unfoldable pub past_matched : Plan → List ℕ → List Gate → Before → Before → Before
past_matched plan ms [] s s' = s'
past_matched plan ms (g ∷ gs) s s' = past_matched plan ms gs (past plan g s) (past plan g (with_coins (matched_at plan ms g s s') s'))

module _ (plan : Plan) (valid : Valid plan) (ms : List ℕ) (few : length ms ≤ plan.t) where
  coins-past : (g : Gate) (gs : List Gate) (s : Before) → coins_of plan (g ∷ gs) ≤ length s.coins → coins_of plan gs ≤ length (past plan g s).coins
  unfolding past
  coins-past g gs s le = omega (arith, coins-cons plan g gs, length-drop (taken plan g) s.coins)

  canon-past : (g : Gate) (s : Before) → All (Canon plan.p) s.coins → All (Canon plan.p) (past plan g s).coins
  unfolding past
  canon-past g s can = all_drop (Canon plan.p) (taken plan g) s.coins can

  here : (g : Gate) (gs : List Gate) (s s' : Before) → coins_of plan (g ∷ gs) ≤ length s.coins → All (Canon plan.p) s.coins → Wide plan (g ∷ gs) → Step plan ms g s s'
  here g gs s s' le can w = gate_step plan valid ms few g s s' w.0 (omega (arith, coins-cons plan g gs)) can

  pub length-match :
      (gs : List Gate) (s s' : Before) → coins_of plan gs ≤ length s.coins → All (Canon plan.p) s.coins → Wide plan gs
      → length (match_from plan ms gs s s') ≡ coins_of plan gs
  unfolding match_from flat_map
  length-match [] s s' le can w = refl
  length-match (g ∷ gs) s s' le can w =
      let new : List ℕ = matched_at plan ms g s s' in
      length-append new (match_from plan ms gs (past plan g s) (past plan g (with_coins new s')))
      ∙ ap₂ ◌+◌ (here g gs s s' le can w).size (length-match gs (past plan g s) (past plan g (with_coins new s')) (coins-past g gs s le) (canon-past g s can) w.1)
      ∙ sym (coins-cons plan g gs)

  pub match-canon :
      (gs : List Gate) (s s' : Before) → coins_of plan gs ≤ length s.coins → All (Canon plan.p) s.coins → Wide plan gs
      → All (Canon plan.p) (match_from plan ms gs s s')
  unfolding match_from
  match-canon [] s s' le can w = tt
  match-canon (g ∷ gs) s s' le can w =
      let new : List ℕ = matched_at plan ms g s s' in
      all_append (Canon plan.p) new (match_from plan ms gs (past plan g s) (past plan g (with_coins new s'))) (here g gs s s' le can w).canon
      (match-canon gs (past plan g s) (past plan g (with_coins new s')) (coins-past g gs s le) (canon-past g s can) w.1)

  -- the matched run, past gates gs, has the matched coins of those after them
  pub run-new :
      (gs hs : List Gate) (s s' : Before) → coins_of plan (gs ++ hs) ≤ length s.coins → All (Canon plan.p) s.coins → Wide plan (gs ++ hs)
      → past_all plan gs (with_coins (match_from plan ms (gs ++ hs) s s') s')
      ≡ with_coins (match_from plan ms hs (past_all plan gs s) (past_matched plan ms gs s s')) (past_matched plan ms gs s s')
  unfolding past_all past_matched match_from
  run-new [] hs s s' le can w = refl
  run-new (g ∷ gs) hs s s' le can w =
      let new : List ℕ = matched_at plan ms g s s' in
      let s₁ : Before = past plan g (with_coins new s') in
      ap (past_all plan gs) (past_new plan g s' new (match_from plan ms (gs ++ hs) (past plan g s) s₁) (here g (gs ++ hs) s s' le can w).size)
      ∙ run-new gs hs (past plan g s) s₁ (coins-past g (gs ++ hs) s le) (canon-past g s can) w.1

  -- the matching with the runs exchanged
  pub match_back :
      (gs : List Gate) (s s' : Before) → length s.coins ≡ coins_of plan gs → All (Canon plan.p) s.coins → Wide plan gs
      → match_from plan ms gs (with_coins (match_from plan ms gs s s') s') s ≡ s.coins
  unfolding match_from flat_map
  match_back [] s s' e can w = sym (drop_of_length-le s.coins {i = 0} (omega arith))
  match_back (g ∷ gs) s s' e can w =
      let le : coins_of plan (g ∷ gs) ≤ length s.coins = omega arith in
      let new : List ℕ = matched_at plan ms g s s' in
      let s₁ : Before = past plan g s in
      let s₂ : Before = past plan g (with_coins new s') in
      let rest : List ℕ = match_from plan ms gs s₁ s₂ in
      let step : Step plan ms g s s' = here g gs s s' le can w in
      let k : ℕ = taken plan g in
      let first : matched_at plan ms g (with_coins (new ++ rest) s') s ≡ take k s.coins =
      step.back rest (match-canon gs s₁ s₂ (coins-past g gs s le) (canon-past g s can) w.1) in
      let size : length (take k s.coins) ≡ k = length-take-le k s.coins (omega (arith, coins-cons plan g gs)) in
      ap₂ (λ (l : List ℕ) (r : Before). l ++ match_from plan ms gs r (past plan g (with_coins l s))) first (past_new plan g s' new rest step.size)
      ∙ ap (λ (l : List ℕ). take k s.coins ++ l)
      (sym (match_any plan ms gs (with_coins rest s₂) (past plan g (with_coins (take k s.coins) s)) (drop k s.coins))
      ∙ ap (match_from plan ms gs (with_coins rest s₂)) (sym (past_new plan g s (take k s.coins) (drop k s.coins) size) ∙ ap (past plan g) (whole s k))
      ∙ match_back gs s₁ s₂ (rest-length g gs s e) (canon-past g s can) w.1
      ∙ coins-left g s)
      ∙ take-append-drop k s.coins
    where
      whole : (s : Before) (k : ℕ) → with_coins (take k s.coins ++ drop k s.coins) s ≡ s
      whole s k = ap (λ (l : List ℕ). with_coins l s) (take-append-drop k s.coins) ∙ same s
        where
          same : (s : Before) → with_coins s.coins s ≡ s
          same s = unfold with_coins in refl

      rest-length : (g : Gate) (gs : List Gate) (s : Before) → length s.coins ≡ coins_of plan (g ∷ gs) → length (past plan g s).coins ≡ coins_of plan gs
      rest-length g gs s e = (unfold past in omega (arith, coins-cons plan g gs, length-drop (taken plan g) s.coins))

      coins-left : (g : Gate) (s : Before) → (past plan g s).coins ≡ drop (taken plan g) s.coins
      coins-left g s = unfold past in refl

  -- a member's coins stay
  pub own-match :
      (i : ℕ) → is_member i ms ≡ true → (gs : List Gate) (s s' : Before) → coins_of plan gs ≤ length s.coins → All (Canon plan.p) s.coins → Wide plan gs
      → own_of i (flat_map (coin_owners_at plan) gs) (match_from plan ms gs s s') ≡ own_of i (flat_map (coin_owners_at plan) gs) s.coins
  unfolding match_from flat_map own_of
  own-match i m [] s s' le can w = refl
  own-match i m (g ∷ gs) s s' le can w =
      let new : List ℕ = matched_at plan ms g s s' in
      (here g gs s s' le can w).own i m (flat_map (coin_owners_at plan) gs) (match_from plan ms gs (past plan g s) (past plan g (with_coins new s')))
      (own-match i m gs (past plan g s) (past plan g (with_coins new s')) (coins-past g gs s le) (canon-past g s can) w.1 ∙ left g gs s)
    where
      left : (g : Gate) (gs : List Gate) (s : Before)
          → own_of i (flat_map (coin_owners_at plan) gs) (past plan g s).coins
          ≡ own_of i (flat_map (coin_owners_at plan) gs) (drop (taken plan g) s.coins)
      left g gs s = unfold past in refl

  -- ---- with the plan's counts: ts and ts' are the two runs' triples
  module _ (ts ts' : List (ℕ → ℕ)) (xs ys : List ℕ) where
    enough : (c : List ℕ) → Coins plan c → coins_of plan plan.gates ≤ length (start_of xs c ts).coins
    unfolding coin_count coin_owners start_of
    enough c f = omega (arith, f.count)

    canon : (c : List ℕ) → Coins plan c → All (Canon plan.p) (start_of xs c ts).coins
    unfolding start_of
    canon c f = below_canon plan.p c f.small

    pub full : (c : List ℕ) → Coins plan c → Coins plan (matched_with plan ms ts ts' xs ys c)
    unfolding matched_with coin_count coin_owners
    full c f = record {
      count = length-match plan.gates (start_of xs c ts) (start_of ys [] ts') (enough c f) (canon c f) (wide plan valid);
      small =
          canon_below plan.p (pos valid.prime) _
          (match-canon plan.gates (start_of xs c ts) (start_of ys [] ts') (enough c f) (canon c f) (wide plan valid));
    }

    pub back : (c : List ℕ) → Coins plan c → matched_with plan ms ts' ts ys xs (matched_with plan ms ts ts' xs ys c) ≡ c
    unfolding matched_with start_of with_coins coin_count coin_owners
    back c f =
        sym (match_any plan ms plan.gates (start_of ys (matched_with plan ms ts ts' xs ys c) ts') (start_of xs [] ts) c)
        ∙ match_back plan.gates (start_of xs c ts) (start_of ys [] ts') f.count (canon c f) (wide plan valid)

    pub own-kept : (i : ℕ) → is_member i ms ≡ true → (c : List ℕ) → Coins plan c → own_coins plan i (matched_with plan ms ts ts' xs ys c) ≡ own_coins plan i c
    unfolding matched_with own_coins coin_owners start_of
    own-kept i m c f = own-match i m plan.gates (start_of xs c ts) (start_of ys [] ts') (enough c f) (canon c f) (wide plan valid)

    pub keeps : (c : List ℕ) → Coins plan c → map (λ i. own_coins plan i (matched_with plan ms ts ts' xs ys c)) ms ≡ map (λ i. own_coins plan i c) ms
    keeps c f = map-members ms (λ i. own_coins plan i (matched_with plan ms ts ts' xs ys c)) (λ i. own_coins plan i c) (λ i m. own-kept i m c f)

    pub one_to_one :
        (c d : List ℕ) → Coins plan c → Coins plan d → matched_with plan ms ts ts' xs ys c ≡ matched_with plan ms ts ts' xs ys d → c ≡ d
    one_to_one c d fc fd same = sym (back c fc) ∙ ap (matched_with plan ms ts' ts ys xs) same ∙ back d fd

  pub onto :
      (ts ts' : List (ℕ → ℕ)) (xs ys d : List ℕ) → Coins plan d → (c : List ℕ) × Coins plan c × (matched_with plan ms ts ts' xs ys c ≡ d)
  onto ts ts' xs ys d f = (matched_with plan ms ts' ts ys xs d, full ts' ts ys xs d f, back ts' ts ys xs d f)
