-- The reduction of 1988 is right: the new wire's shares lie on the product's masked polynomial cut to degree t, whose value at 0 is the product.
--     dealing_shared       a dealing with at most t coins
--     masked-shared        the masked shares, at degree 2t
--     sent-shared          what a party is sent
--     reduced-weighed      the new share is the masked shares, weighed by the matrix
--     reduced-cut          and the value of the cut polynomial
--     reduced-shared       the new wire
-- Assumes nothing.
use mathlib.Core.Path.{◌≡◌, refl, sym, ap, ap₂, ◌∙◌, fun_ext}
use mathlib.Core.List.{List, [], ◌∷◌, map, map-map}
use Prim.Native.Nat.{ℕ, suc, ◌+◌, ◌≤◌, ◌<◌}
use native.Mathlib.Omega.{arith}
use lib.ListN.{length, take, length-take}
use Rattle.field.specs.Mod.{add, mul}
use Rattle.field.specs.Prime.{Prime}
use Rattle.field.proofs.Solve.{Canon, #, quote, solve}
use Rattle.sharing_laws.specs.Poly.{eval, sum_of, product}
use Rattle.sharing_laws.specs.Interp.{Distinct, dot}
use Rattle.sharing_laws.specs.Sharing.{mixture}
use Rattle.sharing_laws.proofs.Polys.{eval_sum, eval-product, length_sum, length-product}
use Rattle.sharing_laws.proofs.Shares.{eval-mixture, Every, length-mixture}
use Rattle.sharing_laws.specs.Basis.{row}
use Rattle.sharing_laws.proofs.Bases.{truncation}
use Rattle.sharing_laws.proofs.Openings.{Shared, shared-opened}
use Rattle.sharing_laws.proofs.Steps.{sum_over, masked_at, sent_at, reduced_at}
use Rattle.sharing_laws.proofs.Sums.{total, eval-total, length-total, sum_zeros}

-- a dealing of s
pub dealing_shared : (p t s : ℕ) (coins : List ℕ) → Canon p s → length coins ≤ t → Shared p t (eval p (s ∷ coins)) s
unfolding eval
dealing_shared p t s coins can le = record {
  poly = s ∷ coins;
  small = omega arith;
  value = λ x. refl;
  secret = solve p (search (quote, can, # s, # (eval p coins 0))) (omega arith);
}

-- cutting keeps the value at 0
cut_at_0 : (p k : ℕ) (f : List ℕ) → eval p (take (suc k) f) 0 ≡ eval p f 0
unfolding eval
cut_at_0 p k [] = refl
cut_at_0 p k (a ∷ f) = solve p (search (quote, # a, # (eval p (take k f) 0), # (eval p f 0))) (omega arith)

polys_short : (t : ℕ) (f : ℕ → List ℕ) (is : List ℕ) → ((i : ℕ) → length (f i) ≤ suc t) → Every (λ g. length g ≤ suc t) (map f is)
polys_short t f [] h = tt
polys_short t f (i ∷ is) h = (h i, polys_short t f is h)

-- ---- the masked shares
module _ (p t : ℕ) (is : List ℕ) (a b : ℕ → ℕ) (u v : ℕ) (sa : Shared p t a u) (sb : Shared p t b v) (mask : ℕ → ℕ → ℕ)
    (sz : (i : ℕ) → Shared p (t + t) (mask i) 0) where
  pub masked-shared : Shared p (t + t) (masked_at p is a b mask) (mul p u v)
  unfolding masked_at
  masked-shared =
      let f : List ℕ = product p sa.poly sb.poly in
      let g : List ℕ = total p is (λ i. (sz i).poly) in
      record {
        poly = sum_of p f g;
        small =
            omega (
              arith,
              length_sum p f g,
              length-product p sa.poly sb.poly,
              length-total p (suc (t + t)) is (λ i. (sz i).poly) (λ i. (sz i).small),
              sa.small,
              sb.small,
            );
        value =
            λ x. ap₂ (add p) (ap₂ (mul p) (sa.value x) (sb.value x) ∙ sym (eval-product p sa.poly sb.poly x))
            (ap (sum_over p is) (fun_ext (λ i. (sz i).value x)) ∙ sym (eval-total p is (λ i. (sz i).poly) x))
            ∙ sym (eval_sum p f g x);
        secret =
            eval_sum p f g 0
            ∙ ap₂ (add p) (eval-product p sa.poly sb.poly 0 ∙ ap₂ (mul p) sa.secret sb.secret)
            (eval-total p is (λ i. (sz i).poly) 0 ∙ sum_zeros p is (λ i. eval p (sz i).poly 0) (λ i. (sz i).secret))
            ∙ solve p (search (quote, # u, # v)) (omega arith);
      }

-- ---- the parties is at the points xs
module _ {p : ℕ} (prime : Prime p) (t : ℕ) (xs is : List ℕ) (at : ℕ → ℕ) (are : xs ≡ map at is) (distinct : Distinct p xs) where
  -- what the party at x is sent, as shares at the senders' points: party i has dealt s i
  pub sent-shared :
      (piece : ℕ → ℕ → ℕ) (s : ℕ → ℕ) → ((i : ℕ) → Shared p t (piece i) (s i))
      → (x : ℕ) → Shared p t (sent_at p t xs is piece x) (dot p (row p t xs x) (map s is))
  unfolding sent_at
  sent-shared piece s sp x =
      let fs : List (List ℕ) = map (λ i. (sp i).poly) is in
      record {
        poly = mixture p (row p t xs x) fs;
        small = length-mixture p (suc t) (row p t xs x) fs (polys_short t (λ i. (sp i).poly) is (λ i. (sp i).small));
        value =
            λ y. ap (λ (h : ℕ → ℕ). dot p (row p t xs x) (map h is)) (fun_ext (λ i. (sp i).value y))
            ∙ ap (dot p (row p t xs x)) (sym (map-map (λ f. eval p f y) (λ i. (sp i).poly) is))
            ∙ sym (eval-mixture p (row p t xs x) fs y);
        secret =
            eval-mixture p (row p t xs x) fs 0
            ∙ ap (dot p (row p t xs x))
            (map-map (λ f. eval p f 0) (λ i. (sp i).poly) is ∙ ap (λ (h : ℕ → ℕ). map h is) (fun_ext (λ i. (sp i).secret)));
      }

  -- each party deals its own s: the new share is these, weighed
  pub reduced-weighed :
      t + 1 ≤ length xs → (piece : ℕ → ℕ → ℕ) (s : ℕ → ℕ) → ((i : ℕ) → Shared p t (piece i) (s i))
      → (x : ℕ) → reduced_at p t xs is piece x ≡ dot p (row p t xs x) (map s is)
  unfolding reduced_at
  reduced-weighed less piece s sp x =
      shared-opened prime t xs distinct less (sent_at p t xs is piece x) (dot p (row p t xs x) (map s is)) (sent-shared piece s sp x)

  -- each party deals its share of a wire of degree k below n: the new wire's shares are those of the polynomial cut to degree t
  module _ (k : ℕ) (few : k < length xs) (less : t + 1 ≤ length xs) (q : ℕ → ℕ) (v : ℕ) (sq : Shared p k q v) (piece : ℕ → ℕ → ℕ)
      (sp : (i : ℕ) → Shared p t (piece i) (q (at i))) where
    pub reduced-cut : (x : ℕ) → reduced_at p t xs is piece x ≡ eval p (take (suc t) sq.poly) x
    reduced-cut x =
        reduced-weighed less piece (λ i. q (at i)) sp x
        ∙ ap (dot p (row p t xs x))
        (sym (map-map q at is) ∙ ap (map q) (sym are) ∙ ap (λ (h : ℕ → ℕ). map h xs) (fun_ext sq.value))
        ∙ truncation prime t xs sq.poly distinct (omega (arith, sq.small)) x

    pub cut-shared : Shared p t (reduced_at p t xs is piece) v
    cut-shared = record {
      poly = take (suc t) sq.poly;
      small = omega (arith, length-take (suc t) sq.poly);
      value = reduced-cut;
      secret = cut_at_0 p t sq.poly ∙ sq.secret;
    }

  -- the step: wires a and b, every party's dealing of 0 with degree 2t, and its dealing of its masked share
  pub reduced-shared :
      (a b : ℕ → ℕ) (u v : ℕ) → Shared p t a u → Shared p t b v → t + t < length xs → (mask : ℕ → ℕ → ℕ) → ((i : ℕ) → Shared p (t + t) (mask i) 0)
      → (piece : ℕ → ℕ → ℕ) → ((i : ℕ) → Shared p t (piece i) (masked_at p is a b mask (at i)))
      → Shared p t (reduced_at p t xs is piece) (mul p u v)
  reduced-shared a b u v sa sb majority mask sz piece sp =
      cut-shared (t + t) majority (omega arith) (masked_at p is a b mask) (mul p u v) (masked-shared p t is a b u v sa sb mask sz) piece sp
