-- Worked sums of a plan with p = 11 and points 1, 2, 3, that speak of sharing alone, by computation: openings, checks and dealings;
-- and a multiply by the reduction of 1988 (the figures 4, 5 matched with 1, 1 for party 3) and by a triple.
use mathlib.Core.Path.{◌≡◌, refl}
use mathlib.Core.List.{List, [], ◌∷◌, map}
use Prim.Native.Nat.{ℕ, ◌-◌}
use lib.ListN.{get_or}
use Rattle.field.specs.Mod.{add, mul, sub}
use Rattle.field.specs.Prime.{inv, invert}
use Rattle.sharing_laws.specs.Poly.{eval, linear, sum_of, scale}
use Rattle.sharing_laws.specs.Interp.{weights, weight, factor, dot, interpolate, delta}
use Rattle.sharing_laws.specs.Sharing.{deal, mixture, matched, opened}
use Rattle.sharing_laws.specs.Basis.{basis, fitted, entry, row, matched_zero}
use Rattle.sharing_laws.proofs.Steps.{sum_over, masked_at, sent_at, reduced_at, masked_by, piece_by, reduced_by, change_at, change_of, new_zeros, new_masks, opened_less, spent_by, spent_at}

abbrev pub points : List ℕ
points = 1 ∷ 2 ∷ 3 ∷ []

-- party i at the point of its number
abbrev at : ℕ → ℕ
at i = i

abbrev line : ℕ → ℕ → ℕ → ℕ
line s c = eval 11 (s ∷ c ∷ [])

abbrev zs : ℕ → List ℕ
zs i = get_or ((1 ∷ 2 ∷ []) ∷ (4 ∷ 5 ∷ []) ∷ (7 ∷ 8 ∷ []) ∷ []) (i - 1) []

abbrev ks : ℕ → List ℕ
ks i = get_or ((3 ∷ []) ∷ (6 ∷ []) ∷ (9 ∷ []) ∷ []) (i - 1) []

-- party 3 is the member, and party 1 the lowest other
abbrev zs' : ℕ → List ℕ
zs' = new_zeros 11 (3 ∷ []) 1 (change_of 11 1 points (line 4 2) (line 5 3) (line 1 3) (line 1 8)) zs

abbrev ks' : ℕ → List ℕ
ks' = new_masks 11 (3 ∷ []) at (masked_by 11 points (line 4 2) (line 5 3) zs) (masked_by 11 points (line 1 3) (line 1 8) zs') ks

pub record Sums : Type 0 where
  -- P1: figure 4 with coin 2, and figure 5 with coin 3
  pub first_dealing : deal 11 4 (2 ∷ []) points ≡ 6 ∷ 8 ∷ 10 ∷ []
  pub second_dealing : deal 11 5 (3 ∷ []) points ≡ 8 ∷ 0 ∷ 3 ∷ []
  -- P2
  pub weights_at_0 : weights 11 0 points ≡ 3 ∷ 8 ∷ 1 ∷ []
  pub products : dot 11 (weights 11 0 points) (4 ∷ 0 ∷ 8 ∷ []) ≡ 9
  -- P4
  pub delta_of_3 : delta 11 (3 ∷ []) ≡ 1 ∷ 7 ∷ []
  -- the matrix; the product of the wires changes from 20 + 22·X + 6·X² to 1 + 11·X + 24·X²
  pub matrix : map (row 11 1 points) points ≡ (6 ∷ 1 ∷ 5 ∷ []) ∷ (9 ∷ 5 ∷ 9 ∷ []) ∷ (1 ∷ 9 ∷ 2 ∷ []) ∷ []
  pub change : fitted 11 points (10 ∷ 9 ∷ 0 ∷ []) ≡ 3 ∷ 0 ∷ 7 ∷ []
  pub moved : matched_zero 11 (3 ∷ []) (3 ∷ 0 ∷ 7 ∷ []) (1 ∷ 2 ∷ []) ≡ 0 ∷ 6 ∷ []
  pub reduced : map (reduced_by 11 1 points points at (line 4 2) (line 5 3) zs ks) points ≡ 10 ∷ 0 ∷ 1 ∷ []
  pub new_zeros_lem : map zs' points ≡ (0 ∷ 6 ∷ []) ∷ (4 ∷ 5 ∷ []) ∷ (7 ∷ 8 ∷ []) ∷ []
  pub new_masks_lem : map ks' points ≡ (6 ∷ []) ∷ (2 ∷ []) ∷ (9 ∷ []) ∷ []
  -- party 3's pieces of the masked shares, and what it is sent
  pub pieces : map (λ i. piece_by 11 points at (line 4 2) (line 5 3) zs ks i 3) points ≡ 7 ∷ 3 ∷ 8 ∷ []
  pub sent : map (sent_at 11 1 points points (piece_by 11 points at (line 4 2) (line 5 3) zs ks) 3) points ≡ 10 ∷ 8 ∷ 6 ∷ []
  pub sent_same : map (sent_at 11 1 points points (piece_by 11 points at (line 1 3) (line 1 8) zs' ks') 3) points ≡ 10 ∷ 8 ∷ 6 ∷ []
  -- the triple has the shares 1 7 2, 8 1 5 and 8 3 9
  pub spent : map (spent_at 11 1 points (line 4 2) (line 5 3) (line 6 6) (line 4 4) (line 2 6)) points ≡ 0 ∷ 2 ∷ 4 ∷ []

pub sums : Sums
unfolding deal eval weights weight factor dot interpolate delta linear sum_of scale mixture matched opened inv invert sub mul add basis fitted entry row matched_zero sum_over masked_at sent_at reduced_at masked_by piece_by reduced_by change_at change_of new_zeros new_masks opened_less spent_by spent_at
sums = record { first_dealing = refl; second_dealing = refl; weights_at_0 = refl; products = refl; delta_of_3 = refl; matrix = refl; change = refl; moved = refl; reduced = refl; new_zeros_lem = refl; new_masks_lem = refl; pieces = refl; sent = refl; sent_same = refl; spent = refl }
