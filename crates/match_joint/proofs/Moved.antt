-- The draws of a preparing run with one party's moved by the changes of the wires that are spent on its triples.
--     length_moved, moved_canon        as many, all elements
--     moved_back                       the changes the other way undo it
--     owners_are, input_count_lem          a preparing plan's inputs, and whose they are
--     own_triples                      the other parties' draws stay
--     spent_count, spent               the wires that are spent, and that the triples' values change as they do
-- Assumes nothing.
use mathlib.Core.Path.{◌≡◌, refl, sym, ap, ap₂, ◌∙◌, subst}
use mathlib.Core.Logic.{◌≢◌}
use mathlib.Core.Bool.{Bool, true, false, cond}
use mathlib.Core.List.{List, [], ◌∷◌, ◌++◌, map, flat_map}
use Prim.Native.Nat.{ℕ, zero, suc, ◌+◌, ◌*◌, ◌≤◌, ◌<◌}
use native.Mathlib.Nat.{mul-zero, mul-suc}
use native.Mathlib.Omega.{arith}
use borrow.Author.Tests.{eqb-true, eq-eqb, ne_eqb, ltb-true}
use lib.Dec.{eqb, ltb, eqb-zero-suc, eqb-suc-zero, eqb-suc-suc}
use lib.ListN.{length, take, drop, get_or, length-append, length-drop, length-take, take-append-drop, drop_of_length-le, get_or-append}
use lib.Seq.{length-take-le, take_at, drop_at, drop-drop, get_or-take}
use Rattle.numbers.specs.Tables.{tab, count_where}
use Rattle.numbers.proofs.Tables.{length-tab, get_or-tab, tab-ext, is-tab}
use Rattle.numbers.proofs.Truth.{both_true}
use Rattle.field.specs.Mod.{add, sub}
use Rattle.field.specs.Prime.{Prime}
use Rattle.field.proofs.Solve.{Canon, zero_canon, add_canon, sub_canon, #, quote, solve}
use Rattle.field.proofs.Inverse.{pos}
use Rattle.sharing_laws.specs.Interp.{All}
use Rattle.sharing_laws.proofs.Alls.{all_append, all_drop, all-tab}
use Rattle.sharing_laws.proofs.Lists.{all_get_d}
use Rattle.plan.specs.declared.Gate.{Gate}
use Rattle.plan.specs.declared.Gate.TheVariants.{Input, Add, Scale, Offset, Multiply, Random, Spend}
use Rattle.plan.specs.declared.Rule.{Rule}
use Rattle.sharing_laws.specs.Basis.{sum_all}
use Rattle.plan.specs.Plans.{Plan, party_count, parties, kind_of, is_kind, operands_of, kind_count, input_owners_at, input_owners, input_count, own_of}
use Rattle.plan.specs.File.{gate_ok}
use Rattle.run_protocol.specs.Ideal.{inputs_taken, gate_value, values_from, values}
use Rattle.run_protocol.specs.Shares.{triples_taken}
use Rattle.run_protocol.specs.Preparing.{triple_gates, preparing}
use Rattle.match_joint.specs.Joint.{wire_change, spent_wires, spent_changes, moved_draws}
use Rattle.run_protocol.proofs.Dealings.{sum-padded}
use Rattle.plan.proofs.Valid.{Valid}
use Rattle.run_protocol.proofs.Prepared.{triple_values}
use Rattle.match_privacy.proofs.TwoRuns.{Spent}

-- one wire's draws with party i's moved by c
abbrev block : ℕ → ℕ → ℕ → ℕ → List ℕ → List ℕ
block p n i c d = tab (λ j. cond (eqb (suc j) i) (add p (get_or d j 0) c) (get_or d j 0)) n

moved-cons : (p n i c : ℕ) (cs d : List ℕ) → moved_draws p n i (c ∷ cs) d ≡ block p n i c d ++ moved_draws p n i cs (drop n d)
unfolding moved_draws
moved-cons p n i c cs d = refl

length_block : (p n i c : ℕ) (d : List ℕ) → length (block p n i c d) ≡ n
length_block p n i c d = length-tab (λ j. cond (eqb (suc j) i) (add p (get_or d j 0) c) (get_or d j 0)) n

block_at : (p n i c : ℕ) (d rest : List ℕ) (j : ℕ) → j < n → get_or (block p n i c d ++ rest) j 0 ≡ cond (eqb (suc j) i) (add p (get_or d j 0) c) (get_or d j 0)
block_at p n i c d rest j l =
    get_or-append (block p n i c d) rest 0 j (rw (length_block p n i c d) l)
    ∙ get_or-tab (λ j. cond (eqb (suc j) i) (add p (get_or d j 0) c) (get_or d j 0)) n j 0 l

pub length_moved : (p n i : ℕ) (cs d : List ℕ) → length (moved_draws p n i cs d) ≡ n * length cs
unfolding moved_draws
length_moved p n i [] d = sym (mul-zero n)
length_moved p n i (c ∷ cs) d =
    length-append (block p n i c d) (moved_draws p n i cs (drop n d))
    ∙ omega (arith, length_block p n i c d, length_moved p n i cs (drop n d), mul-suc n (length cs))

cond_canon : (p : ℕ) (b : Bool) (x y : ℕ) → Canon p x → Canon p y → Canon p (cond b x y)
cond_canon p true x y h k = h
cond_canon p false x y h k = k

pub moved_canon : (p n i : ℕ) (cs d : List ℕ) → All (Canon p) d → All (Canon p) (moved_draws p n i cs d)
unfolding moved_draws
moved_canon p n i [] d can = tt
moved_canon p n i (c ∷ cs) d can =
    all_append (Canon p) (block p n i c d) (moved_draws p n i cs (drop n d))
    (all-tab (Canon p) (λ j. cond (eqb (suc j) i) (add p (get_or d j 0) c) (get_or d j 0)) n
    (λ j l. cond_canon p (eqb (suc j) i) (add p (get_or d j 0) c) (get_or d j 0) (add_canon _ _) (all_get_d (Canon p) d j 0 zero_canon can)))
    (moved_canon p n i cs (drop n d) (all_drop (Canon p) n d can))

-- the changes the other way
pub moved_back :
    {p : ℕ} → Prime p → (n i : ℕ) (f h : ℕ → ℕ) (ws d : List ℕ) → length d ≡ n * length ws → All (Canon p) d
    → moved_draws p n i (map (λ w. sub p (f w) (h w)) ws) (moved_draws p n i (map (λ w. sub p (h w) (f w)) ws) d) ≡ d
unfolding moved_draws
moved_back {p} prime n i f h [] d e can = sym (drop_of_length-le d {i = 0} (omega (arith, mul-zero n)))
moved_back {p} prime n i f h (w ∷ ws) d e can =
    let c : ℕ = sub p (h w) (f w) in
    let c⁻ : ℕ = sub p (f w) (h w) in
    let rest : List ℕ = moved_draws p n i (map (λ w. sub p (h w) (f w)) ws) (drop n d) in
    let d' : List ℕ = block p n i c d ++ rest in
    let size : n ≤ length d = omega (arith, mul-suc n (length ws)) in
    ap₂ ◌++◌
    (tab-ext (λ j. cond (eqb (suc j) i) (add p (get_or d' j 0) c⁻) (get_or d' j 0)) (λ j. get_or d j 0) n
    (λ j l. ap (λ (x : ℕ). cond (eqb (suc j) i) (add p x c⁻) x) (block_at p n i c d rest j l) ∙ undo (eqb (suc j) i) (get_or d j 0) (h w) (f w) (all_get_d (Canon p) d j 0 zero_canon can))
    ∙ sym (is-tab (λ j. get_or d j 0) n (take n d) 0 (length-take-le n d size) (λ j l. get_or-take n d j 0 l)))
    (ap (moved_draws p n i (map (λ w. sub p (f w) (h w)) ws)) (drop_at (block p n i c d) rest n (length_block p n i c d))
    ∙ moved_back prime n i f h ws (drop n d) (omega (arith, length-drop n d, mul-suc n (length ws))) (all_drop (Canon p) n d can))
    ∙ take-append-drop n d
  where
    undo : (b : Bool) (x u v : ℕ) → Canon p x → cond b (add p (cond b (add p x (sub p u v)) x) (sub p v u)) (cond b (add p x (sub p u v)) x) ≡ x
    undo true x u v cx = let pos : 0 < p = pos prime in solve p (search (quote, cx, # x, # u, # v)) (omega arith)
    undo false x u v cx = refl

-- ---- other parties' draws
own_ext :
    (i : ℕ) (s : ℕ → ℕ) (n : ℕ) (os xs ys : List ℕ) → ((j : ℕ) → j < n → eqb i (s j) ≡ true → get_or xs j 0 ≡ get_or ys j 0)
    → own_of i os (drop n xs) ≡ own_of i os (drop n ys) → own_of i (tab s n ++ os) xs ≡ own_of i (tab s n ++ os) ys
unfolding tab own_of
own_ext i s zero os xs ys h e = e
own_ext i s (suc n) os xs ys h e =
    pick (eqb i (s 0)) refl
    (own_ext i (λ j. s (suc j)) n os (drop 1 xs) (drop 1 ys) (λ j l o. next xs j ∙ h (suc j) (omega arith) o ∙ sym (next ys j))
    (ap (own_of i os) (drop-one n xs) ∙ e ∙ sym (ap (own_of i os) (drop-one n ys))))
  where
    next : (l : List ℕ) (j : ℕ) → get_or (drop 1 l) j 0 ≡ get_or l (suc j) 0
    next [] j = refl
    next (x ∷ l) j = refl

    drop-one : (k : ℕ) (l : List ℕ) → drop k (drop 1 l) ≡ drop (suc k) l
    drop-one k l = drop-drop k 1 l ∙ (let z : 1 + k ≡ suc k = omega arith in ap (λ (m : ℕ). drop m l) z)

    pick :
        (b : Bool) → eqb i (s 0) ≡ b → own_of i (tab (λ j. s (suc j)) n ++ os) (drop 1 xs) ≡ own_of i (tab (λ j. s (suc j)) n ++ os) (drop 1 ys)
        → cond b (get_or xs 0 0 ∷ own_of i (tab (λ j. s (suc j)) n ++ os) (drop 1 xs)) (own_of i (tab (λ j. s (suc j)) n ++ os) (drop 1 xs))
        ≡ cond b (get_or ys 0 0 ∷ own_of i (tab (λ j. s (suc j)) n ++ os) (drop 1 ys)) (own_of i (tab (λ j. s (suc j)) n ++ os) (drop 1 ys))
    pick true o later = ap₂ ◌∷◌ (h 0 (omega arith) o) later
    pick false o later = later

-- the owners of K triples' draws
unfoldable pub triple_owners : ℕ → ℕ → List ℕ
triple_owners n zero = []
triple_owners n (suc K) = tab suc n ++ (tab suc n ++ triple_owners n K)

owners_from : (plan : Plan) (rule : Rule) (f : ℕ → ℕ) (K : ℕ) → flat_map (input_owners_at (preparing plan rule)) (flat_map triple_gates (tab f K)) ≡ triple_owners (party_count plan) K
unfolding tab flat_map triple_gates input_owners_at parties triple_owners party_count
owners_from plan rule f zero = refl
owners_from plan rule f (suc K) = ap (λ (l : List ℕ). tab suc (party_count plan) ++ (tab suc (party_count plan) ++ l)) (owners_from plan rule (λ k. f (suc k)) K)

pub owners_are : (plan : Plan) (rule : Rule) → input_owners (preparing plan rule) ≡ triple_owners (party_count plan) (kind_count plan 7)
unfolding input_owners
owners_are plan rule = owners_from plan rule (λ k. k) (kind_count plan 7)

length_owners : (n K : ℕ) → length (triple_owners n K) ≡ n * (2 * K)
unfolding triple_owners
length_owners n zero = sym (mul-zero n)
length_owners n (suc K) =
    let e : 2 * suc K ≡ suc (suc (2 * K)) = omega arith in
    length-append (tab suc n) (tab suc n ++ triple_owners n K)
    ∙ omega (
      arith,
      length-tab suc n,
      length-append (tab suc n) (triple_owners n K),
      length_owners n K,
      ap (λ (k : ℕ). n * k) e,
      mul-suc n (suc (2 * K)),
      mul-suc n (2 * K),
    )

pub input_count_lem : (plan : Plan) (rule : Rule) → input_count (preparing plan rule) ≡ party_count plan * (2 * kind_count plan 7)
unfolding input_count
input_count_lem plan rule = ap length (owners_are plan rule) ∙ length_owners (party_count plan) (kind_count plan 7)

pub own_triples :
    (p n l i K : ℕ) (cs d : List ℕ) → i ≢ l → length cs ≡ 2 * K → own_of i (triple_owners n K) (moved_draws p n l cs d) ≡ own_of i (triple_owners n K) d
unfolding triple_owners
own_triples p n l i zero cs d ne e = none
  where
    none : own_of i [] (moved_draws p n l cs d) ≡ own_of i [] d
    none = unfold own_of in refl
own_triples p n l i (suc K) [] d ne e = absurd (omega arith)
own_triples p n l i (suc K) (c ∷ []) d ne e = absurd (omega arith)
own_triples p n l i (suc K) (c ∷ b ∷ cs) d ne e =
    let rest : List ℕ = moved_draws p n l cs (drop n (drop n d)) in
    let second : List ℕ = block p n l b (drop n d) ++ rest in
    ap (own_of i (tab suc n ++ (tab suc n ++ triple_owners n K))) (moved-cons p n l c (b ∷ cs) d ∙ ap (λ (x : List ℕ). block p n l c d ++ x) (moved-cons p n l b cs (drop n d)))
    ∙ own_ext i suc n (tab suc n ++ triple_owners n K) (block p n l c d ++ second) d (λ j lt o. stays c d second j lt o)
    (ap (own_of i (tab suc n ++ triple_owners n K)) (drop_at (block p n l c d) second n (length_block p n l c d))
    ∙ own_ext i suc n (triple_owners n K) second (drop n d) (λ j lt o. stays b (drop n d) rest j lt o)
    (ap (own_of i (triple_owners n K)) (drop_at (block p n l b (drop n d)) rest n (length_block p n l b (drop n d)))
    ∙ own_triples p n l i K cs (drop n (drop n d)) ne (omega arith)))
  where
    stays : (c : ℕ) (d rest : List ℕ) (j : ℕ) → j < n → eqb i (suc j) ≡ true → get_or (block p n l c d ++ rest) j 0 ≡ get_or d j 0
    stays c d rest j lt o =
        block_at p n l c d rest j lt
        ∙ ap (λ (q : Bool). cond q (add p (get_or d j 0) c) (get_or d j 0)) (ne_eqb (suc j) l (λ same. ne (eqb-true i (suc j) o ∙ same)))

-- ---- the sum of a block
sum_bump :
    (p c : ℕ) (f : ℕ → ℕ) (n l : ℕ) → l < n → sum_all p (tab (λ j. cond (eqb j l) (add p (f j) c) (f j)) n) ≡ add p (sum_all p (tab f n)) c
unfolding tab sum_all
sum_bump p c f zero l lt = absurd (omega arith)
sum_bump p c f (suc n) zero lt =
    ap₂ (add p) (ap (λ (b : Bool). cond b (add p (f 0) c) (f 0)) (eq-eqb 0 0 refl))
    (ap (sum_all p) (tab-ext (λ j. cond (eqb (suc j) 0) (add p (f (suc j)) c) (f (suc j))) (λ j. f (suc j)) n (λ j k. rw (eqb-suc-zero j))))
    ∙ solve p (search (quote, # (f 0), # c, # (sum_all p (tab (λ j. f (suc j)) n)))) (omega arith)
sum_bump p c f (suc n) (suc l) lt =
    ap₂ (add p) (ap (λ (b : Bool). cond b (add p (f 0) c) (f 0)) (eqb-zero-suc l))
    (ap (sum_all p)
    (tab-ext (λ j. cond (eqb (suc j) (suc l)) (add p (f (suc j)) c) (f (suc j))) (λ j. cond (eqb j l) (add p (f (suc j)) c) (f (suc j))) n (λ j k. rw (eqb-suc-suc j l)))
    ∙ sum_bump p c (λ j. f (suc j)) n l (omega arith))
    ∙ solve p (search (quote, # (f 0), # c, # (sum_all p (tab (λ j. f (suc j)) n)))) (omega arith)

sum_block : (p n l c : ℕ) (d rest : List ℕ) → l < n → sum_all p (take n (block p n (suc l) c d ++ rest)) ≡ add p (sum_all p (take n d)) c
sum_block p n l c d rest lt =
    ap (sum_all p) (take_at (block p n (suc l) c d) rest n (length_block p n (suc l) c d))
    ∙ ap (sum_all p)
    (tab-ext (λ j. cond (eqb (suc j) (suc l)) (add p (get_or d j 0) c) (get_or d j 0)) (λ j. cond (eqb j l) (add p (get_or d j 0) c) (get_or d j 0)) n (λ j k. rw (eqb-suc-suc j l)))
    ∙ sum_bump p c (λ j. get_or d j 0) n l lt
    ∙ ap (λ (x : ℕ). add p x c)
    (ap (sum_all p) (tab-ext (λ j. get_or d j 0) (λ j. get_or (take n d) j 0) n (λ j k. sym (get_or-take n d j 0 k))) ∙ sym (sum-padded p (take n d) n (omega (arith, length-take n d))))

-- ---- the wires that are spent
count_by : (b : Bool) (g : Gate) (m c : ℕ) → length (operands_of g) ≡ 2 → m ≡ 2 * c → length (cond b (operands_of g) []) + m ≡ 2 * cond b (suc c) c
count_by true g m c two e = omega arith
count_by false g m c two e = omega arith

two_operands : (g : Gate) → length (operands_of g) ≡ 2
unfolding operands_of
two_operands (Input s) = refl
two_operands (Add a b) = refl
two_operands (Scale a c) = refl
two_operands (Offset a c) = refl
two_operands (Multiply a b) = refl
two_operands Random = refl
two_operands (Spend a b) = refl

pub spent_count : (gs : List Gate) → length (flat_map spent_wires gs) ≡ 2 * count_where (is_kind 7) gs
unfolding flat_map spent_wires count_where
spent_count [] = refl
spent_count (g ∷ gs) =
    length-append (cond (is_kind 7 g) (operands_of g) []) (flat_map spent_wires gs)
    ∙ count_by (is_kind 7 g) g (length (flat_map spent_wires gs)) (count_where (is_kind 7) gs) (two_operands g) (spent_count gs)

-- ---- the triples' values
value_stays : (plan : Plan) (gs : List Gate) (vals xs : List ℕ) (w : ℕ) → w < length vals → get_or (values_from plan gs vals xs) w 0 ≡ get_or vals w 0
unfolding values_from
value_stays plan [] vals xs w lt = refl
value_stays plan (g ∷ gs) vals xs w lt =
    value_stays plan gs (vals ++ (gate_value plan g vals xs ∷ [])) (drop (inputs_taken plan g) xs) w (omega (arith, length-append vals (gate_value plan g vals xs ∷ [])))
    ∙ get_or-append vals (gate_value plan g vals xs ∷ []) 0 w lt

more : (l : List ℕ) (x k : ℕ) → length l ≡ k → length (l ++ (x ∷ [])) ≡ suc k
more l x k q = omega (arith, length-append l (x ∷ []))

spend_wires : (n p k a b : ℕ) → gate_ok n p k (Spend a b) ≡ true → (a < k) × (b < k)
unfolding gate_ok
spend_wires n p k a b h =
    let parts : (ltb a k ≡ true) × (ltb b k ≡ true) = both_true (ltb a k) (ltb b k) h in
    (ltb-true a k parts.0, ltb-true b k parts.1)

module _ (plan : Plan) (prime : Prime plan.p) (l : ℕ) (party : l < party_count plan) where
  abbrev p : ℕ
  p = plan.p

  abbrev n : ℕ
  n = party_count plan

  -- a sum of draws moved by c, from its value
  moved_by : (u c : ℕ) → Canon p c → sub p (add p u c) u ≡ c
  moved_by u c can = let pos : 0 < p = pos prime in solve p (search (quote, can, # u, # c)) (omega arith)

  -- the first triple: its draws d are moved by c and b, and what comes after by cs
  module _ (c b : ℕ) (cs d : List ℕ) (can : Canon p c) (canb : Canon p b) where
    abbrev moved : List ℕ
    moved = moved_draws p n (suc l) (c ∷ b ∷ cs) d

    parts : moved ≡ block p n (suc l) c d ++ (block p n (suc l) b (drop n d) ++ moved_draws p n (suc l) cs (drop n (drop n d)))
    parts = moved-cons p n (suc l) c (b ∷ cs) d ∙ ap (λ (x : List ℕ). block p n (suc l) c d ++ x) (moved-cons p n (suc l) b cs (drop n d))

    first-moved : sub p (sum_all p (take n moved)) (sum_all p (take n d)) ≡ c
    first-moved =
        ap (λ (x : List ℕ). sub p (sum_all p (take n x)) (sum_all p (take n d))) parts
        ∙ ap (λ (x : ℕ). sub p x (sum_all p (take n d))) (sum_block p n l c d _ party)
        ∙ moved_by (sum_all p (take n d)) c can

    next-draws : drop n moved ≡ block p n (suc l) b (drop n d) ++ moved_draws p n (suc l) cs (drop n (drop n d))
    next-draws = ap (drop n) parts ∙ drop_at (block p n (suc l) c d) _ n (length_block p n (suc l) c d)

    second-moved : sub p (sum_all p (take n (drop n moved))) (sum_all p (take n (drop n d))) ≡ b
    second-moved =
        ap (λ (x : List ℕ). sub p (sum_all p (take n x)) (sum_all p (take n (drop n d)))) next-draws
        ∙ ap (λ (x : ℕ). sub p x (sum_all p (take n (drop n d)))) (sum_block p n l b (drop n d) _ party)
        ∙ moved_by (sum_all p (take n (drop n d))) b canb

    rest-draws : drop n (drop n moved) ≡ moved_draws p n (suc l) cs (drop n (drop n d))
    rest-draws = ap (drop n) next-draws ∙ drop_at (block p n (suc l) b (drop n d)) _ n (length_block p n (suc l) b (drop n d))

  change-canon : (us vs : List ℕ) (w : ℕ) → Canon p (wire_change plan us vs w)
  unfolding wire_change
  change-canon us vs w = sub_canon _ _

  abbrev changes : List Gate → List ℕ → List ℕ → List ℕ
  changes gs F F' = map (wire_change plan F F') (flat_map spent_wires gs)

  abbrev Claim : List Gate → List ℕ → List ℕ → List ℕ → List ℕ → List ℕ → List ℕ → List ℕ → Type 0
  Claim gs vals vals' xs ys F F' d =
      Spent plan gs vals vals' xs ys (triple_values p n (count_where (is_kind 7) gs) d) (triple_values p n (count_where (is_kind 7) gs) (moved_draws p n (suc l) (changes gs F F') d))

  -- the gates keep their rules, the first of them being gate k
  abbrev Rules : ℕ → List Gate → Type 0
  Rules k gs = (j : ℕ) → j < length gs → gate_ok n p (k + j) (get_or gs j (Input 0)) ≡ true

  rules-next : (k : ℕ) (g : Gate) (gs : List Gate) → Rules k (g ∷ gs) → Rules (suc k) gs
  rules-next k g gs h j lt = let e : suc k + j ≡ k + suc j = omega arith in ap (λ (i : ℕ). gate_ok n p i (get_or gs j (Input 0))) e ∙ h (suc j) (omega arith)

  rules-here : (k : ℕ) (g : Gate) (gs : List Gate) → Rules k (g ∷ gs) → gate_ok n p k g ≡ true
  rules-here k g gs h = let e : k ≡ k + 0 = omega arith in ap (λ (i : ℕ). gate_ok n p i g) e ∙ h 0 (omega arith)

  spend-step :
      (a b : ℕ) (gs : List Gate) (vals vals' xs ys F F' d : List ℕ) → get_or F a 0 ≡ get_or vals a 0 → get_or F b 0 ≡ get_or vals b 0 → get_or F' a 0 ≡ get_or vals' a 0 → get_or F' b 0 ≡ get_or vals' b 0
      → ((d : List ℕ) → Claim gs (vals ++ (gate_value plan (Spend a b) vals xs ∷ [])) (vals' ++ (gate_value plan (Spend a b) vals' ys ∷ []))
      (drop (inputs_taken plan (Spend a b)) xs) (drop (inputs_taken plan (Spend a b)) ys) F F' d)
      → Claim (Spend a b ∷ gs) vals vals' xs ys F F' d
  unfolding count_where is_kind kind_of triples_taken triple_values flat_map spent_wires operands_of wire_change
  spend-step a b gs vals vals' xs ys F F' d ea eb ea' eb' later =
      let c : ℕ = wire_change plan F F' a in
      let e : ℕ = wire_change plan F F' b in
      let cs : List ℕ = changes gs F F' in (
        (
          first-moved c e cs d (change-canon F F' a) (change-canon F F' b) ∙ ap₂ (sub p) ea' ea,
          second-moved c e cs d (change-canon F F' a) (change-canon F F' b) ∙ ap₂ (sub p) eb' eb,
        ),
        subst (λ (x : List ℕ). Spent plan gs (vals ++ (gate_value plan (Spend a b) vals xs ∷ [])) (vals' ++ (gate_value plan (Spend a b) vals' ys ∷ [])) (drop (inputs_taken plan (Spend a b)) xs)
            (drop (inputs_taken plan (Spend a b)) ys) (triple_values p n (count_where (is_kind 7) gs) (drop n (drop n d))) (triple_values p n (count_where (is_kind 7) gs) x))
            (sym (rest-draws c e cs d (change-canon F F' a) (change-canon F F' b))) (later (drop n (drop n d))),
      )

  spent-from :
      (gs : List Gate) (vals vals' xs ys F F' d : List ℕ) (k : ℕ) → length vals ≡ k → length vals' ≡ k → Rules k gs
      → F ≡ values_from plan gs vals xs → F' ≡ values_from plan gs vals' ys → Claim gs vals vals' xs ys F F' d
  unfolding count_where is_kind kind_of triples_taken flat_map spent_wires values_from
  spent-from [] vals vals' xs ys F F' d k e e' rules f f' = tt
  spent-from (Input i ∷ gs) vals vals' xs ys F F' d k e e' rules f f' =
      (tt, spent-from gs _ _ _ _ F F' d (suc k) (more vals _ k e) (more vals' _ k e') (rules-next k (Input i) gs rules) f f')
  spent-from (Add a b ∷ gs) vals vals' xs ys F F' d k e e' rules f f' =
      (tt, spent-from gs _ _ _ _ F F' d (suc k) (more vals _ k e) (more vals' _ k e') (rules-next k (Add a b) gs rules) f f')
  spent-from (Scale a c ∷ gs) vals vals' xs ys F F' d k e e' rules f f' =
      (tt, spent-from gs _ _ _ _ F F' d (suc k) (more vals _ k e) (more vals' _ k e') (rules-next k (Scale a c) gs rules) f f')
  spent-from (Offset a c ∷ gs) vals vals' xs ys F F' d k e e' rules f f' =
      (tt, spent-from gs _ _ _ _ F F' d (suc k) (more vals _ k e) (more vals' _ k e') (rules-next k (Offset a c) gs rules) f f')
  spent-from (Multiply a b ∷ gs) vals vals' xs ys F F' d k e e' rules f f' =
      (tt, spent-from gs _ _ _ _ F F' d (suc k) (more vals _ k e) (more vals' _ k e') (rules-next k (Multiply a b) gs rules) f f')
  spent-from (Random ∷ gs) vals vals' xs ys F F' d k e e' rules f f' =
      (tt, spent-from gs _ _ _ _ F F' d (suc k) (more vals _ k e) (more vals' _ k e') (rules-next k Random gs rules) f f')
  spent-from (Spend a b ∷ gs) vals vals' xs ys F F' d k e e' rules f f' =
      let w : (a < k) × (b < k) = spend_wires n p k a b (rules-here k (Spend a b) gs rules) in
      spend-step a b gs vals vals' xs ys F F' d
      (ap (λ (x : List ℕ). get_or x a 0) f ∙ value_stays plan (Spend a b ∷ gs) vals xs a (omega (arith, w.0)))
      (ap (λ (x : List ℕ). get_or x b 0) f ∙ value_stays plan (Spend a b ∷ gs) vals xs b (omega (arith, w.1)))
      (ap (λ (x : List ℕ). get_or x a 0) f' ∙ value_stays plan (Spend a b ∷ gs) vals' ys a (omega (arith, w.0)))
      (ap (λ (x : List ℕ). get_or x b 0) f' ∙ value_stays plan (Spend a b ∷ gs) vals' ys b (omega (arith, w.1)))
      (λ d. spent-from gs _ _ _ _ F F' d (suc k)
      (more vals _ k e) (more vals' _ k e') (rules-next k (Spend a b) gs rules) f f')

  -- with the plan's own values
  pub spent :
      Valid plan → (xs ys d : List ℕ)
      → Spent plan plan.gates [] [] xs ys (triple_values p n (kind_count plan 7) d) (triple_values p n (kind_count plan 7) (moved_draws p n (suc l) (spent_changes plan xs ys) d))
  unfolding spent_changes values kind_count
  spent valid xs ys d =
      spent-from plan.gates [] [] xs ys (values plan xs) (values plan ys) d 0 refl refl
      (λ j lt. (let e : 0 + j ≡ j = omega arith in ap (λ (i : ℕ). gate_ok n p i (get_or plan.gates j (Input 0))) e) ∙ valid.gates j lt) refl refl
