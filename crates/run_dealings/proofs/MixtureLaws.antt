-- Mixtures: the weighted sum of the dealers' polynomials.
--     mixture_dealt          its value at a point is the sum of the point's column
--     Mixing, mixing         the loop over the dealers: a coefficient weighed and summed
--     filling_mixture        the loop over the coefficients
--     mixed_sharing          what closes the needs of the function that deals it
-- Assumes nothing.
use mathlib.Core.Path.{◌≡◌, refl, sym, ap, ◌∙◌, fun_ext}
use mathlib.Core.Bool.{true}
use mathlib.Core.List.{List, [], ◌∷◌, ◌++◌, map}
use Prim.Native.Nat.{ℕ, zero, suc, ◌+◌, ◌*◌, ◌%◌, ◌^◌, ◌<◌, ◌≤◌}
use native.Mathlib.Numerals.{add-one}
use native.Mathlib.Nat.{mul-suc, mul-zero}
use native.Mathlib.Omega.{arith}
use borrow.Author.Rules.{rules}
use lib.ListN.{length, take, drop, get_or, length-drop}
use lib.Seq.{ext_get_or, get_or-take, get_or-drop, length-take-le}
use mir.Syntax.{w64}
use mir.Val.{Fits}
use Rattle.numbers.specs.Tables.{tab}
use Rattle.numbers.specs.Bytes.{all_below}
use Rattle.numbers.proofs.Tables.{length-tab, get_or-tab, tab-ext, row_room}
use Rattle.numbers.proofs.Below.{all_below-tab}
use Rattle.numbers.proofs.Fills.{Filled, filling, filled}
use Rattle.field.specs.Mod.{add, mul}
use Rattle.field.specs.Field.{Below2, Is, kept, sum_bound, Ready}
use Rattle.field.proofs.Solve.{canon-lt, #, quote, solve}
use Rattle.field.proofs.Inverse.{pos}
use Rattle.sharing_laws.specs.Poly.{eval}
use Rattle.sharing_laws.specs.Interp.{dot}
use Rattle.sharing.proofs.Coding.{entry_below, dot_canon, plain-dot, Summed, sum-none, sum_low, sum_more, sum-small, bound_sixteen, is_by, sum-whole}
use Rattle.run_dealings.specs.Rows.{terms, powers}
use Rattle.run_dealings.specs.Columns.{column_sum, piece_by, pieces_by, share_at, mixed_coefficient, mixture_of}
use Rattle.run_dealings.proofs.PowerLaws.{eval-powers, length-powers}
use Rattle.run_dealings.proofs.PolynomialLaws.{terms_within}
use Rattle.run_dealings.proofs.ColumnLaws.{few_weights}
use Rattle.run_dealings.proofs.DealingLaws.{front-is, front-counted, whole_long, dealt-counted}

-- ---- sums of sums, in either order
module _ (p : ℕ) where
  dot_zeros : (ws : List ℕ) (n : ℕ) → dot p ws (tab (λ d. 0) n) ≡ 0
  unfolding dot tab
  dot_zeros [] n = refl
  dot_zeros (w ∷ ws) zero = refl
  dot_zeros (w ∷ ws) (suc n) = rw (dot_zeros ws n) (solve p (search (quote, # w)) (omega arith))

  dot_sum : (q : ℕ) (ws : List ℕ) (A B : ℕ → ℕ) → dot p ws (tab (λ d. add p (mul p q (A d)) (B d)) (length ws)) ≡ add p (mul p q (dot p ws (tab A (length ws)))) (dot p ws (tab B (length ws)))
  unfolding dot tab
  dot_sum q [] A B = solve p (search (quote, # q)) (omega arith)
  dot_sum q (w ∷ ws) A B =
      rw (dot_sum q ws (λ d. A (suc d)) (λ d. B (suc d)))
      (solve p (search (quote, # q, # w, # (A 0), # (B 0), # (dot p ws (tab (λ d. A (suc d)) (length ws))), # (dot p ws (tab (λ d. B (suc d)) (length ws))))) (omega arith))

  dot_exchange : (qs ws : List ℕ) (F : ℕ → ℕ → ℕ)
      → dot p qs (tab (λ i. dot p ws (tab (λ d. F d i) (length ws))) (length qs)) ≡ dot p ws (tab (λ d. dot p qs (tab (F d) (length qs))) (length ws))
  unfolding dot tab
  dot_exchange [] ws F = sym (dot_zeros ws (length ws))
  dot_exchange (q ∷ qs) ws F =
      ap (add p (mul p q (dot p ws (tab (λ d. F d 0) (length ws))))) (dot_exchange qs ws (λ d i. F d (suc i)))
      ∙ sym (dot_sum q ws (λ d. F d 0) (λ d. dot p qs (tab (λ i. F d (suc i)) (length qs))))

-- ---- the value of the mixture
part-tab : (k d : ℕ) (fs : List ℕ) → k * d + k ≤ length fs → tab (λ i. get_or fs (k * d + i) 0) k ≡ take k (drop (k * d) fs)
part-tab k d fs room =
    let f : ℕ → ℕ = λ i. get_or fs (k * d + i) 0 in
    let long : length (take k (drop (k * d) fs)) ≡ k = length-take-le k (drop (k * d) fs) (rw length-drop (omega arith)) in
    ext_get_or 0 (tab f k) (take k (drop (k * d) fs)) (length-tab f k ∙ sym long)
    (λ i l.
    let lt : i < k = omega (arith, length-tab f k) in
    get_or-tab f k i 0 lt ∙ sym (get_or-take k (drop (k * d) fs) i 0 lt ∙ get_or-drop (k * d) fs i 0))

pub mixture_dealt : (p k : ℕ) (ws fs : List ℕ) (x : ℕ) → k * length ws ≤ length fs → eval p (mixture_of p k ws fs) x ≡ share_at p k ws fs x
unfolding mixture_of mixed_coefficient share_at column_sum pieces_by piece_by
mixture_dealt p k ws fs x room =
    let qs : List ℕ = powers p x k in
    let F : ℕ → ℕ → ℕ = λ d i. get_or fs (k * d + i) 0 in
    let g : ℕ → ℕ = λ i. dot p ws (tab (λ d. F d i) (length ws)) in
    let many : length qs ≡ k = length-powers p x k in
    sym (eval-powers p (tab g k) x)
    ∙ ap (λ (n : ℕ). dot p (powers p x n) (tab g k)) (length-tab g k)
    ∙ ap (λ (n : ℕ). dot p qs (tab g n)) (sym many)
    ∙ dot_exchange p qs ws F
    ∙ ap (λ (n : ℕ). dot p ws (tab (λ d. dot p qs (tab (F d) n)) (length ws))) many
    ∙ ap (dot p ws) (tab-ext _ _ (length ws) (λ d l. ap (dot p qs) (part-tab k d fs (omega (arith, row_room k d (length ws) l)))))
    ∙ sym (plain-dot p ws _)

-- ---- the loop over the dealers: d of them are weighed and summed
-- their coefficients i
abbrev pub coefficients_at : ℕ → List ℕ → List ℕ → ℕ → List ℕ
coefficients_at k ws fs i = tab (λ d. get_or fs (k * d + i) 0) (length ws)

pub record Mixing (p k : ℕ) (ws fs : List ℕ) (i sum at d : ℕ) : Type 0 where
  pub place : at ≡ k * d + i
  pub summed : Summed p ws (coefficients_at k ws fs i) sum d

module _ (p k : ℕ) (ws fs : List ℕ) (i : ℕ) where
  pub mix-none : Mixing p k ws fs i 0 i 0
  mix-none = record { place = omega (arith, mul-zero k); summed = sum-none p ws (coefficients_at k ws fs i) }

  module _ (sum at d : ℕ) (h : Mixing p k ws fs i sum at d) where
    module _ (l : d < length ws) (room : k * length ws ≤ length fs) (few : i < k) where
      pub mix-within : at < length fs
      mix-within = omega (arith, h.place, row_room k d (length ws) l)

      pub mix-next-fits : length fs * 8 < 2 ^ 63 → Fits w64 (at + k)
      mix-next-fits f = record { fits = omega (arith, h.place, row_room k d (length ws) l) }

      pub mix-place-fits : length fs * 8 < 2 ^ 63 → Fits w64 (at * 8)
      mix-place-fits f = record { fits = omega (arith, h.place, row_room k d (length ws) l) }

      pub mix-below : Ready p → all_below p ws ≡ true → all_below p fs ≡ true → Below2 p (get_or ws d 0) (get_or fs at 0)
      mix-below r hw hf = record { left = entry_below p ws d r hw; right = entry_below p fs at r hf }

    pub mix-few : Ready p → length ws ≤ 15 → sum ≤ 4294967296 * p
    mix-few r m = sum_low p ws (coefficients_at k ws fs i) r sum d h.summed (omega arith)

    pub mix_bound : Ready p → length ws ≤ 15 → sum ≤ sum_bound p 16
    mix_bound r few = omega (arith, sum-small p ws (coefficients_at k ws fs i) r sum d h.summed, bound_sixteen p (length ws) r (omega arith))

    pub mix-whole : (y : ℕ) → Ready p → length ws ≤ d → Is p (sum % p) y → Is p (mixed_coefficient p k ws fs i) y
    unfolding mixed_coefficient
    mix-whole y r l is = is_by p (sum % p) (dot p ws (coefficients_at k ws fs i)) y (sum-whole p ws (coefficients_at k ws fs i) r sum d h.summed l) is

    module _ (r : Ready p) (hw : all_below p ws ≡ true) (hf : all_below p fs ≡ true) (l : d < length ws) where
      all : List ℕ
      all = coefficients_at k ws fs i

      all-below : all_below p all ≡ true
      unfolding all
      all-below = all_below-tab p (λ e. get_or fs (k * e + i) 0) (length ws) (λ e m. entry_below p fs (k * e + i) r hf)

      here : get_or all d 0 ≡ get_or fs at 0
      unfolding all
      here = get_or-tab (λ e. get_or fs (k * e + i) 0) (length ws) d 0 l ∙ ap (λ (n : ℕ). get_or fs n 0) (sym h.place)

      long : length ws ≤ length all
      unfolding all
      long = omega (arith, length-tab (λ e. get_or fs (k * e + i) 0) (length ws))

      pub mix_next : (y : ℕ) → y ≡ kept p (sum + get_or ws d 0 * get_or fs at 0) → Mixing p k ws fs i y (at + k) (d + 1)
      unfolding all
      mix_next y e = record {
        place = omega (arith, h.place, add-one d, mul-suc k d);
        summed =
            sum_more p ws all r sum d h.summed hw all-below (get_or ws d 0) (get_or fs at 0)
            (record { within = l; also = omega (arith, long); left = refl; right = sym here })
            y (d + 1) e refl;
      }

-- As it is: answers name this set, since the check leaves their goals open by `using` alone.
pub ruleset mixing = (rules, few_weights, mix-none, mix-within, mix-next-fits, mix-place-fits, mix-below, mix-few, mix_bound, mix-whole, mix_next)

-- ---- the loop over the coefficients
pub mixture-filled : (p k : ℕ) (ws fs d₀ d : List ℕ) (i : ℕ) → k ≡ length d₀ → length d ≤ i → Filled (mixed_coefficient p k ws fs) d₀ d i → d ≡ mixture_of p (length d₀) ws fs
unfolding mixture_of
mixture-filled p k ws fs d₀ d i e l h = rw (← e) (filled (mixed_coefficient p k ws fs) d₀ d i l h ∙ ap (tab (mixed_coefficient p k ws fs)) (sym e))

pub coefficient-is : (p v y : ℕ) → Is p v y → y ≡ v
coefficient-is p v y e = e.eq

-- As it is: answers name this set, since the check leaves their goals open by `using` alone.
pub ruleset filling_mixture = (filling, coefficient-is, mixture-filled)

-- ---- the mixture dealt
module _ (t k : ℕ) (few : t < 8) (e : k ≡ terms t) (d : List ℕ) (long : length d ≡ 16) where
  taken_long : length (take k d) ≡ k
  taken_long = length-take-le k d (omega (arith, terms_within t k e))

  pub mixed_room : (ws fs : List ℕ) → terms t * length ws ≤ length fs → length (take k d) * length ws ≤ length fs
  mixed_room ws fs l = rw (taken_long, e) l

  module _ (ys : List ℕ) (kept : length ys ≡ length (take k d)) (p : ℕ) (ws fs : List ℕ) (is : ys ≡ mixture_of p (length (take k d)) ws fs) where
    mixture-is : take k (ys ++ drop k d) ≡ mixture_of p k ws fs
    mixture-is = front-is d ys k (omega (arith, terms_within t k e)) kept ∙ is ∙ ap (λ (n : ℕ). mixture_of p n ws fs) taken_long

    pub mixed-below : Ready p → all_below p (take k (ys ++ drop k d)) ≡ true
    unfolding mixture_of mixed_coefficient
    mixed-below r = rw mixture-is (all_below-tab p _ k (λ i l. canon-lt (pos r.prime) (dot_canon p ws _)))

    pub mixed-dealt : (n : ℕ) (points row : List ℕ) → terms t * length ws ≤ length fs → take n row ≡ map (eval p (take k (ys ++ drop k d))) points → take n row ≡ map (share_at p (terms t) ws fs) points
    mixed-dealt n points row room r =
        r
        ∙ ap (λ (f : List ℕ). map (eval p f) points) mixture-is
        ∙ ap (λ (f : ℕ → ℕ). map f points) (fun_ext (λ x. mixture_dealt p k ws fs x (rw e room)))
        ∙ ap (λ (i : ℕ). map (share_at p i ws fs) points) e

-- As it is: answers name this set, since the check leaves their goals open by `using` alone.
pub ruleset mixed_sharing = (rules, terms_within, front-counted, whole_long, dealt-counted, mixed_room, mixed-below, mixed-dealt)
