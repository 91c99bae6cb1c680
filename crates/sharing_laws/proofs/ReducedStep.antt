-- The whole step of the reduction of 1988, from its coins: right, private, and its matching undone by itself with the runs exchanged.
--     step_right      the new wire stands for the product
--     step_parts      its share is the parties' products weighed by the matrix, and the dealings of 0 cut to t coins: no masked share's coin is in it
--     step-private    the members' pieces and what is sent to them stay, and the new wire changes by the change of its value times delta
--     kept-zero, kept-mask                                       a member's coins stay
--     zeros-length, zeros-canon, masks-length, masks-canon       the new coins are as many, and elements
--     zeros-undone, masks-undone, step_undone                    with the runs exchanged, the matching gives the first coins
-- Assumes nothing.
use mathlib.Core.Path.{◌≡◌, refl, sym, ap, ◌∙◌, fun_ext}
use mathlib.Core.Logic.{◌≢◌}
use mathlib.Core.Bool.{Bool, true, false, cond}
use mathlib.Core.List.{List, ◌∷◌, map, map-map, Memᴰ}
use Prim.Native.Nat.{ℕ, suc, ◌+◌, ◌≤◌, ◌<◌}
use native.Mathlib.Omega.{arith}
use borrow.Author.Tests.{eqb-true, eq-eqb}
use lib.Dec.{eqb}
use lib.ListN.{length, take}
use Rattle.field.specs.Mod.{add, mul, sub}
use Rattle.field.specs.Prime.{Prime}
use Rattle.field.proofs.Solve.{Canon, zero_canon, add_canon, #, quote, solve}
use Rattle.field.proofs.Inverse.{pos}
use Rattle.sharing_laws.specs.Poly.{eval}
use Rattle.sharing_laws.specs.Interp.{All, Distinct, dot, delta}
use Rattle.sharing_laws.specs.Sharing.{matched}
use Rattle.sharing_laws.proofs.Polys.{eval_canon}
use Rattle.sharing_laws.proofs.Shares.{matched-all, length-matched, matched-canon, matched-back}
use Rattle.sharing_laws.specs.Basis.{row, matched_zero}
use Rattle.sharing_laws.proofs.Bases.{truncation}
use Rattle.sharing_laws.proofs.Zeros.{length-zero, zero-canon-all, zero-back, matched-none}
use Rattle.sharing_laws.proofs.Openings.{Shared}
use Rattle.sharing_laws.proofs.Sums.{dot_both, total, eval-total, take_total, length-total}
use Rattle.sharing_laws.proofs.Steps.{sum_over, masked_at, sent_at, masked_by, piece_by, reduced_by, change_of, new_zeros, new_masks, Differ}
use Rattle.sharing_laws.proofs.Reduced.{dealing_shared, reduced-weighed, reduced-shared}
use Rattle.sharing_laws.proofs.ReducedPrivate.{change-turned, length-change, zero-moves, zero_same, masked-differ, sent_same, reduced-differ}

-- the coins of one party
new-zero : (p : ℕ) (cs : List ℕ) (l : ℕ) (d : List ℕ) (zs : ℕ → List ℕ) → new_zeros p cs l d zs l ≡ matched_zero p cs d (zs l)
unfolding new_zeros
new-zero p cs l d zs = rw (eq-eqb l l refl)

pub kept-zero : (p : ℕ) (cs : List ℕ) (l : ℕ) (d : List ℕ) (zs : ℕ → List ℕ) (i : ℕ) → i ≢ l → new_zeros p cs l d zs i ≡ zs i
unfolding new_zeros
kept-zero p cs l d zs i ne = pick (eqb i l) refl
  where
    pick : (b : Bool) → eqb i l ≡ b → cond b (matched_zero p cs d (zs i)) (zs i) ≡ zs i
    pick true e = absurd (ne (eqb-true i l e))
    pick false e = refl

module _ {p : ℕ} (prime : Prime p) (t : ℕ) (xs is : List ℕ) (at : ℕ → ℕ) (are : xs ≡ map at is) (distinct : Distinct p xs) (majority : t + t < length xs) where
  masked_canon : (a b : ℕ → ℕ) (zs : ℕ → List ℕ) (x : ℕ) → Canon p (masked_by p is a b zs x)
  unfolding masked_by masked_at
  masked_canon a b zs x = add_canon _ _

  pub step_right :
      (a b : ℕ → ℕ) (u v : ℕ) (zs ks : ℕ → List ℕ) → Shared p t a u → Shared p t b v → ((i : ℕ) → length (zs i) ≤ t + t) → ((i : ℕ) → length (ks i) ≤ t)
      → Shared p t (reduced_by p t xs is at a b zs ks) (mul p u v)
  unfolding reduced_by piece_by masked_by
  step_right a b u v zs ks sa sb lz lk =
      reduced-shared prime t xs is at are distinct a b u v sa sb majority (λ i. eval p (0 ∷ zs i))
      (λ i. dealing_shared p (t + t) 0 (zs i) zero_canon (lz i)) (piece_by p is at a b zs ks)
      (λ i. dealing_shared p t (masked_by p is a b zs (at i)) (ks i) (masked_canon a b zs (at i)) (lk i))

  -- the dealings of 0, as one polynomial, and cut
  zeros : (ℕ → List ℕ) → List ℕ
  zeros zs = total p is (λ i. 0 ∷ zs i)

  zeros_cut : (zs : ℕ → List ℕ) (x : ℕ) → eval p (take (suc t) (zeros zs)) x ≡ sum_over p is (λ i. eval p (0 ∷ take t (zs i)) x)
  unfolding zeros
  zeros_cut zs x = ap (λ (f : List ℕ). eval p f x) (take_total p (suc t) is (λ i. 0 ∷ zs i)) ∙ eval-total p is (λ i. 0 ∷ take t (zs i)) x

  zeros_short : (zs : ℕ → List ℕ) → ((i : ℕ) → length (zs i) ≤ t + t) → length (zeros zs) ≤ length xs
  unfolding zeros
  zeros_short zs lz = omega (arith, length-total p (suc (t + t)) is (λ i. 0 ∷ zs i) (λ i. omega (arith, lz i)))

  pub step_parts :
      (a b : ℕ → ℕ) (zs ks : ℕ → List ℕ) → ((i : ℕ) → length (zs i) ≤ t + t) → ((i : ℕ) → length (ks i) ≤ t) → (x : ℕ)
      → reduced_by p t xs is at a b zs ks x
      ≡ add p (dot p (row p t xs x) (map (λ y. mul p (a y) (b y)) xs)) (sum_over p is (λ i. eval p (0 ∷ take t (zs i)) x))
  unfolding reduced_by piece_by masked_by masked_at zeros
  step_parts a b zs ks lz lk x =
      let masked : ℕ → ℕ = masked_by p is a b zs in
      let product : ℕ → ℕ = λ y. mul p (a y) (b y) in
      reduced-weighed prime t xs is at are distinct (omega arith) (piece_by p is at a b zs ks) (λ i. masked (at i))
      (λ i. dealing_shared p t (masked (at i)) (ks i) (masked_canon a b zs (at i)) (lk i)) x
      ∙ ap (dot p (row p t xs x)) (sym (map-map masked at is) ∙ ap (map masked) (sym are))
      ∙ ap (λ (h : ℕ → ℕ). dot p (row p t xs x) (map h xs)) (fun_ext (λ y. ap (add p (product y)) (sym (eval-total p is (λ i. 0 ∷ zs i) y))))
      ∙ dot_both p product (eval p (zeros zs)) (row p t xs x) xs
      ∙ ap (add p (dot p (row p t xs x) (map product xs))) (truncation prime t xs (zeros zs) distinct (zeros_short zs lz) x ∙ zeros_cut zs x)

  -- ---- two runs
  module _ (cs : List ℕ) (few : length cs ≤ t) (l : ℕ) (party : Memᴰ l is) (a b a' b' : ℕ → ℕ) (u v u' v' : ℕ)
      (sa : Shared p t a u) (sb : Shared p t b v) (sa' : Shared p t a' u') (sb' : Shared p t b' v')
      (da : Differ p cs a a' u u') (db : Differ p cs b b' v v') (zs ks : ℕ → List ℕ) where
    abbrev zs' : ℕ → List ℕ
    zs' = new_zeros p cs l (change_of p t xs a b a' b') zs

    abbrev ks' : ℕ → List ℕ
    ks' = new_masks p cs at (masked_by p is a b zs) (masked_by p is a' b' (new_zeros p cs l (change_of p t xs a b a' b') zs)) ks

    -- what the members see: the dealings of 0, the dealings of the masked shares and what is sent, where delta is 0; and the new wire
    pub record Private : Type 0 where
      pub zeros : (i c : ℕ) → eval p (delta p cs) c ≡ 0 → eval p (0 ∷ zs' i) c ≡ eval p (0 ∷ zs i) c
      pub masked : (x : ℕ) → masked_by p is a' b' zs' x ≡ add p (masked_by p is a b zs x) (mul p (sub p (mul p u' v') (mul p u v)) (eval p (delta p cs) x))
      pub pieces : (i c : ℕ) → eval p (delta p cs) c ≡ 0 → piece_by p is at a' b' zs' ks' i c ≡ piece_by p is at a b zs ks i c
      pub sent : (c y : ℕ) → eval p (delta p cs) c ≡ 0
          → sent_at p t xs is (piece_by p is at a' b' zs' ks') c y ≡ sent_at p t xs is (piece_by p is at a b zs ks) c y
      pub wire : Differ p cs (reduced_by p t xs is at a b zs ks) (reduced_by p t xs is at a' b' zs' ks') (mul p u v) (mul p u' v')

    zeros_law : (i c : ℕ) → eval p (delta p cs) c ≡ 0 → eval p (0 ∷ zs' i) c ≡ eval p (0 ∷ zs i) c
    unfolding new_zeros
    zeros_law i c z = pick (eqb i l)
      where
        pick : (q : Bool) → eval p (0 ∷ cond q (matched_zero p cs (change_of p t xs a b a' b') (zs i)) (zs i)) c ≡ eval p (0 ∷ zs i) c
        pick true = zero_same prime t xs a b a' b' distinct majority u v u' v' sa sb sa' sb' cs (zs i) c da db z
        pick false = refl

    masked-law : (x : ℕ) → masked_by p is a' b' zs' x ≡ add p (masked_by p is a b zs x) (mul p (sub p (mul p u' v') (mul p u v)) (eval p (delta p cs) x))
    unfolding masked_by
    masked-law =
        masked-differ prime t xs is at are distinct (omega arith) cs few (sub p (mul p u' v') (mul p u v)) l a b a' b' (λ i. eval p (0 ∷ zs i)) (λ i. eval p (0 ∷ zs' i))
        party
        (λ x. ap (λ (f : List ℕ). eval p (0 ∷ f) x) (new-zero p cs l (change_of p t xs a b a' b') zs)
        ∙ zero-moves prime t xs a b a' b' distinct majority u v u' v' sa sb sa' sb' cs (zs l) x)
        (λ i ne x. ap (λ (f : List ℕ). eval p (0 ∷ f) x) (kept-zero p cs l (change_of p t xs a b a' b') zs i ne))

    change-masked : (x : ℕ) → sub p (masked_by p is a' b' zs' x) (masked_by p is a b zs x) ≡ mul p (sub p (mul p u' v') (mul p u v)) (eval p (delta p cs) x)
    change-masked x =
        let pos : 0 < p = pos prime in
        rw (masked-law x) (solve p (search (quote, # (masked_by p is a b zs x), # (sub p (mul p u' v') (mul p u v)), # (eval p (delta p cs) x))) (omega arith))

    pieces-law :
        (i y : ℕ) → piece_by p is at a' b' zs' ks' i y
        ≡ add p (piece_by p is at a b zs ks i y) (mul p (mul p (sub p (mul p u' v') (mul p u v)) (eval p (delta p cs) (at i))) (eval p (delta p cs) y))
    unfolding piece_by new_masks
    pieces-law i y =
        matched-all prime cs (ks i) (masked_by p is a b zs (at i)) (masked_by p is a' b' zs' (at i)) y
        ∙ ap (λ (n : ℕ). add p (piece_by p is at a b zs ks i y) (mul p n (eval p (delta p cs) y))) (change-masked (at i))

    piece-canon : (i y : ℕ) → Canon p (piece_by p is at a b zs ks i y)
    unfolding piece_by
    piece-canon i y = eval_canon _ y

    pub step-private : Private
    unfolding reduced_by
    step-private = record {
      zeros = zeros_law;
      masked = masked-law;
      pieces = λ i c z. pieces-law i c ∙ rw z (solve p (search (quote, piece-canon i c, # (piece_by p is at a b zs ks i c), # (mul p (sub p (mul p u' v') (mul p u v)) (eval p (delta p cs) (at i))))) (omega arith));
      sent = λ c y z. sent_same prime t xs is at are distinct (omega arith) cs few (sub p (mul p u' v') (mul p u v)) (piece_by p is at a b zs ks) (piece_by p is at a' b' zs' ks') pieces-law c y z;
      wire = reduced-differ prime t xs is at are distinct (omega arith) cs few (sub p (mul p u' v') (mul p u v)) (piece_by p is at a b zs ks) (piece_by p is at a' b' zs' ks') pieces-law;
    }

    -- a member's coins stay
    pub kept-mask :
        (i : ℕ) → eval p (delta p cs) (at i) ≡ 0 → length cs ≤ length (ks i) → All (Canon p) (ks i) → ks' i ≡ ks i
    unfolding new_masks
    kept-mask i z le can =
        ap (λ (d : ℕ). matched p cs d (ks i)) (change-masked (at i) ∙ rw z (solve p (search (quote, # (sub p (mul p u' v') (mul p u v)))) (omega arith)))
        ∙ matched-none prime cs (ks i) le can

  -- ---- the coins
  module _ (cs : List ℕ) (few : length cs ≤ t) (l : ℕ) (a b a' b' : ℕ → ℕ) (zs : ℕ → List ℕ) (full : length (zs l) ≡ t + t) where
    abbrev d : List ℕ
    d = change_of p t xs a b a' b'

    abbrev d' : List ℕ
    d' = change_of p t xs a' b' a b

    at-l : (P : ℕ → List ℕ → Type 0) → P l (matched_zero p cs (change_of p t xs a b a' b') (zs l)) → ((i : ℕ) → P i (zs i))
        → (i : ℕ) → P i (new_zeros p cs l (change_of p t xs a b a' b') zs i)
    unfolding new_zeros
    at-l P here there i = pick (eqb i l) refl
      where
        pick : (q : Bool) → eqb i l ≡ q → P i (cond q (matched_zero p cs (change_of p t xs a b a' b') (zs i)) (zs i))
        pick true e = rw (eqb-true i l e) here
        pick false e = there i

    pub zeros-length : (i : ℕ) → length (new_zeros p cs l d zs i) ≡ length (zs i)
    zeros-length =
        at-l (λ i f. length f ≡ length (zs i)) (length-zero prime cs d (zs l) (omega arith) (omega (arith, length-change prime t xs a b a' b'))) (λ i. refl)

    pub zeros-canon : ((i : ℕ) → All (Canon p) (zs i)) → (i : ℕ) → All (Canon p) (new_zeros p cs l d zs i)
    zeros-canon can =
        at-l (λ i f. All (Canon p) f) (zero-canon-all prime cs d (zs l) (omega arith) (omega (arith, length-change prime t xs a b a' b')) (can l)) can

    pub zeros-undone : All (Canon p) (zs l) → (i : ℕ) → new_zeros p cs l d' (new_zeros p cs l d zs) i ≡ zs i
    unfolding new_zeros
    zeros-undone can i = pick (eqb i l) refl
      where
        pick :
            (q : Bool) → eqb i l ≡ q
            → cond q (matched_zero p cs d' (cond q (matched_zero p cs d (zs i)) (zs i))) (cond q (matched_zero p cs d (zs i)) (zs i)) ≡ zs i
        pick true e =
            rw (eqb-true i l e)
            (ap (λ (f : List ℕ). matched_zero p cs f (matched_zero p cs d (zs l))) (change-turned prime t xs a b a' b')
            ∙ zero-back prime cs d (zs l) (omega arith) (omega (arith, length-change prime t xs a b a' b')) can)
        pick false e = refl

  module _ (cs : List ℕ) (old new : ℕ → ℕ) (ks : ℕ → List ℕ) (i : ℕ) (full : length cs ≤ length (ks i)) where
    pub masks-length : length (new_masks p cs at old new ks i) ≡ length (ks i)
    unfolding new_masks
    masks-length = length-matched prime cs (ks i) (sub p (new (at i)) (old (at i))) full

    pub masks-canon : All (Canon p) (ks i) → All (Canon p) (new_masks p cs at old new ks i)
    unfolding new_masks
    masks-canon can = matched-canon prime cs (ks i) (sub p (new (at i)) (old (at i))) full can

    pub masks-undone : All (Canon p) (ks i) → new_masks p cs at new old (new_masks p cs at old new ks) i ≡ ks i
    unfolding new_masks
    masks-undone can =
        let pos : 0 < p = pos prime in
        ap (λ (e : ℕ). matched p cs e (matched p cs (sub p (new (at i)) (old (at i))) (ks i)))
        (solve p {b = sub p 0 (sub p (new (at i)) (old (at i)))} (search (quote, # (new (at i)), # (old (at i)))) (omega arith))
        ∙ matched-back prime cs (ks i) (sub p (new (at i)) (old (at i))) full can

  -- the whole matching, with the runs exchanged: the dealings of 0 come back, and with them the masked shares and their dealings' coins
  pub step_undone :
      (cs : List ℕ) → length cs ≤ t → (l : ℕ) (a b a' b' : ℕ → ℕ) (zs ks : ℕ → List ℕ) → length (zs l) ≡ t + t → All (Canon p) (zs l)
      → (i : ℕ) → length cs ≤ length (ks i) → All (Canon p) (ks i)
      → new_masks p cs at (masked_by p is a' b' (new_zeros p cs l (change_of p t xs a b a' b') zs))
      (masked_by p is a b (new_zeros p cs l (change_of p t xs a' b' a b) (new_zeros p cs l (change_of p t xs a b a' b') zs)))
      (new_masks p cs at (masked_by p is a b zs) (masked_by p is a' b' (new_zeros p cs l (change_of p t xs a b a' b') zs)) ks) i
      ≡ ks i
  step_undone cs few l a b a' b' zs ks full can i le kan =
      let new : ℕ → List ℕ = new_zeros p cs l (change_of p t xs a b a' b') zs in
      ap (λ (ws : ℕ → List ℕ). new_masks p cs at (masked_by p is a' b' new) (masked_by p is a b ws) (new_masks p cs at (masked_by p is a b zs) (masked_by p is a' b' new) ks) i)
      (fun_ext (zeros-undone cs few l a b a' b' zs full can))
      ∙ masks-undone cs (masked_by p is a b zs) (masked_by p is a' b' new) ks i le kan
