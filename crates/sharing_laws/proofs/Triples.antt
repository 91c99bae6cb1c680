-- A spent triple multiplies, and the members see no change.
--     less-shared, opened-less      the difference of two wires, and its opening
--     spent-shared                  the new wire stands for the product
--     less-same, opened-same        where a wire and the triple's wire change alike, every share of their difference stays
--     spent-differ                  the new wire changes by the change of the product times delta
-- Assumes nothing.
use mathlib.Core.Path.{◌≡◌, sym, ap, ap₂, ◌∙◌, fun_ext}
use mathlib.Core.List.{List, [], ◌∷◌, map}
use Prim.Native.Nat.{ℕ, ◌+◌, ◌≤◌, ◌<◌}
use native.Mathlib.Omega.{arith}
use lib.ListN.{length}
use Rattle.field.specs.Mod.{add, mul, sub}
use Rattle.field.specs.Prime.{Prime}
use Rattle.field.proofs.Solve.{#, quote, solve}
use Rattle.field.proofs.Inverse.{pos}
use Rattle.sharing_laws.specs.Poly.{eval, sum_of, scale}
use Rattle.sharing_laws.specs.Interp.{Distinct, delta}
use Rattle.sharing_laws.specs.Sharing.{opened}
use Rattle.sharing_laws.proofs.Polys.{eval_sum, eval-scale, length_sum, length-scale}
use Rattle.sharing_laws.proofs.Openings.{Shared, shared-opened}
use Rattle.sharing_laws.proofs.Steps.{opened_less, spent_by, spent_at, Differ}

module _ {p : ℕ} (prime : Prime p) where
  -- ---- wires that are made of others
  pub sum-shared : {t u v : ℕ} {h k : ℕ → ℕ} → Shared p t h u → Shared p t k v → Shared p t (λ z. add p (h z) (k z)) (add p u v)
  sum-shared s r = record {
    poly = sum_of p s.poly r.poly;
    small = omega (arith, s.small, r.small, length_sum p s.poly r.poly);
    value = λ z. ap₂ (add p) (s.value z) (r.value z) ∙ sym (eval_sum p s.poly r.poly z);
    secret = eval_sum p s.poly r.poly 0 ∙ ap₂ (add p) s.secret r.secret;
  }

  pub scale-shared : {t u : ℕ} {h : ℕ → ℕ} (c : ℕ) → Shared p t h u → Shared p t (λ z. mul p c (h z)) (mul p c u)
  scale-shared c s = record {
    poly = scale p c s.poly;
    small = omega (arith, s.small, length-scale p c s.poly);
    value = λ z. ap (mul p c) (s.value z) ∙ sym (eval-scale p c s.poly z);
    secret = eval-scale p c s.poly 0 ∙ ap (mul p c) s.secret;
  }

  pub same-shared : {t u v : ℕ} {h k : ℕ → ℕ} → ((z : ℕ) → k z ≡ h z) → u ≡ v → Shared p t h u → Shared p t k v
  same-shared e f s = record { poly = s.poly; small = s.small; value = λ z. e z ∙ s.value z; secret = s.secret ∙ f }

  constant-shared : {t : ℕ} (c : ℕ) → Shared p t (λ z. mul p c 1) (mul p c 1)
  unfolding eval
  constant-shared c = record {
    poly = c ∷ [];
    small = omega arith;
    value = λ z. solve p (search (quote, # c, # z)) (omega arith);
    secret = solve p (search (quote, # c)) (omega arith);
  }

  less_as : (a b : ℕ) → sub p a b ≡ add p a (mul p (sub p 0 1) b)
  less_as a b = let pos : 0 < p = pos prime in solve p (search (quote, # a, # b)) (omega arith)

  pub less-shared : {t u v : ℕ} {h k : ℕ → ℕ} → Shared p t h u → Shared p t k v → Shared p t (λ z. sub p (h z) (k z)) (sub p u v)
  less-shared {u = u} {v = v} {h = h} {k = k} s r =
      same-shared (λ z. less_as (h z) (k z)) (sym (less_as u v)) (sum-shared s (scale-shared (sub p 0 1) r))

  -- ---- the value
  product-as : (u v a b : ℕ) → sub p (add p (add p (mul p a b) (mul p (sub p v b) u)) (mul p (sub p u a) v)) (mul p (sub p u a) (sub p v b)) ≡ mul p u v
  product-as u v a b = let pos : 0 < p = pos prime in solve p (search (quote, # u, # v, # a, # b) depth 9) (omega arith)

  -- ---- the change of the value: u, v and the triple's a, b change, a as u and b as v
  moved_by : (a a' b b' : ℕ) → mul p a' b' ≡ mul p (add p a (sub p a' a)) (add p b (sub p b' b))
  moved_by a a' b b' = let pos : 0 < p = pos prime in solve p (search (quote, # a, # a', # b, # b') depth 7) (omega arith)

  change_as :
      (u u' v v' a a' b b' : ℕ) → sub p a' a ≡ sub p u' u → sub p b' b ≡ sub p v' v
      → add p (sub p (mul p a' b') (mul p a b)) (add p (mul p (sub p v b) (sub p u' u)) (mul p (sub p u a) (sub p v' v))) ≡ sub p (mul p u' v') (mul p u v)
  change_as u u' v v' a a' b b' ea eb =
      let pos : 0 < p = pos prime in
      rw (moved_by a a' b b', ea, eb) (solve p (search (quote, # u, # u', # v, # v', # a, # b) depth 9) (omega arith))

  -- c, x and y change by m, r and s times z
  spent-moves :
      (d e c x y m r s z : ℕ)
      → sub p (add p (add p (add p c (mul p m z)) (mul p e (add p x (mul p r z)))) (mul p d (add p y (mul p s z)))) (mul p d e)
      ≡ add p (sub p (add p (add p c (mul p e x)) (mul p d y)) (mul p d e)) (mul p (add p m (add p (mul p e r) (mul p d s))) z)
  spent-moves d e c x y m r s z =
      let pos : 0 < p = pos prime in solve p (search (quote, # d, # e, # c, # x, # y, # m, # r, # s, # z) depth 9) (omega arith)

  module _ (t : ℕ) (xs : List ℕ) (distinct : Distinct p xs) (enough : t + 1 ≤ length xs) where
    pub opened-less : {u v : ℕ} (h k : ℕ → ℕ) → Shared p t h u → Shared p t k v → opened_less p t xs h k ≡ sub p u v
    unfolding opened_less
    opened-less {u} {v} h k s r = shared-opened prime t xs distinct enough (λ z. sub p (h z) (k z)) (sub p u v) (less-shared s r)

    -- the triple's values are a, b and a·b
    pub spent-shared :
        (u v a b : ℕ) (x y h k c : ℕ → ℕ) → Shared p t x u → Shared p t y v → Shared p t h a → Shared p t k b → Shared p t c (mul p a b)
        → Shared p t (spent_at p t xs x y h k c) (mul p u v)
    unfolding spent_at spent_by
    spent-shared u v a b x y h k c sx sy sh sk sc =
        let d : ℕ = opened_less p t xs x h in
        let e : ℕ = opened_less p t xs y k in
        let fixed : Shared p t (λ z. mul p (mul p d e) 1) (mul p (mul p d e) 1) = constant-shared (mul p d e) in
        same-shared (λ z. ap (sub p _) (solve p (search (quote, # (opened_less p t xs x h), # (opened_less p t xs y k))) (omega arith)))
        (rw (opened-less x h sx sh, opened-less y k sy sk)
        (ap (sub p _) (solve p (search (quote, # (sub p u a), # (sub p v b))) (omega arith)) ∙ product-as u v a b))
        (less-shared (sum-shared (sum-shared sc (scale-shared e sx)) (scale-shared d sy)) fixed)

    -- ---- two runs
    -- x changes from u to u', and the triple's wire h by as much
    module _ (cs : List ℕ) where
      pub less-same :
          (u u' a a' : ℕ) (x x' h h' : ℕ → ℕ) → Differ p cs x x' u u' → Differ p cs h h' a a' → sub p a' a ≡ sub p u' u
          → (z : ℕ) → sub p (x' z) (h' z) ≡ sub p (x z) (h z)
      less-same u u' a a' x x' h h' dx dh e z =
          let pos : 0 < p = pos prime in
          rw (dx z, dh z, e) (solve p (search (quote, # (x z), # (h z), # (sub p u' u), # (eval p (delta p cs) z))) (omega arith))

      pub opened-same :
          (u u' a a' : ℕ) (x x' h h' : ℕ → ℕ) → Differ p cs x x' u u' → Differ p cs h h' a a' → sub p a' a ≡ sub p u' u
          → opened_less p t xs x' h' ≡ opened_less p t xs x h
      unfolding opened_less
      opened-same u u' a a' x x' h h' dx dh e =
          ap (λ (f : ℕ → ℕ). opened p t xs (map f xs)) (fun_ext (less-same u u' a a' x x' h h' dx dh e))

      pub spent-differ :
          (u u' v v' a a' b b' : ℕ) (x x' y y' h h' k k' c c' : ℕ → ℕ)
          → Shared p t x u → Shared p t y v → Shared p t h a → Shared p t k b
          → Differ p cs x x' u u' → Differ p cs y y' v v' → Differ p cs h h' a a' → Differ p cs k k' b b' → Differ p cs c c' (mul p a b) (mul p a' b')
          → sub p a' a ≡ sub p u' u → sub p b' b ≡ sub p v' v
          → Differ p cs (spent_at p t xs x y h k c) (spent_at p t xs x' y' h' k' c') (mul p u v) (mul p u' v')
      unfolding spent_at spent_by
      spent-differ u u' v v' a a' b b' x x' y y' h h' k k' c c' sx sy sh sk dx dy dh dk dc ea eb z =
          rw (opened-same u u' a a' x x' h h' dx dh ea, opened-same v v' b b' y y' k k' dy dk eb, opened-less x h sx sh, opened-less y k sy sk, dx z, dy z, dc z)
          (spent-moves (sub p u a) (sub p v b) (c z) (x z) (y z) (sub p (mul p a' b') (mul p a b)) (sub p u' u) (sub p v' v) (eval p (delta p cs) z)
          ∙ ap (λ (n : ℕ). add p (spent_by p (sub p u a) (sub p v b) x y c z) (mul p n (eval p (delta p cs) z))) (change_as u u' v v' a a' b b' ea eb))
