-- Blanks and decimal numbers in a text of bytes, read from a place on. Past the end every byte is 0.
use Rattle.std.specs.Prelude.{Option, Some, None, ℕ, zero, suc, ◌+◌, ◌-◌, ◌*◌, ◌<◌, ◌≤◌, ◌≡◌, Bool, cond, ◌&&◌, List, eqb, leb, ltb, length, get_or}

-- the first place from `at` on whose byte isn't a blank (32); at most m bytes are looked at
unfoldable pub blanks_from : ℕ → List ℕ → ℕ → ℕ
blanks_from zero s at = at
blanks_from (suc m) s at = cond (eqb (get_or s at 0) 32) (blanks_from m s (suc at)) at

unfoldable pub blanks_end : List ℕ → ℕ → ℕ
blanks_end s at = blanks_from (length s - at) s at

-- the digits from `at` on, after digits whose value is v; wrong as soon as the value reaches the limit
unfoldable pub digits_from : ℕ → ℕ → List ℕ → ℕ → ℕ → Option (ℕ × ℕ)
digits_from zero limit s at v = Some (v, at)
digits_from (suc m) limit s at v =
    cond (ltb (get_or s at 0) 48) (Some (v, at))
    (cond (ltb 57 (get_or s at 0)) (Some (v, at))
    (cond (leb limit (10 * v + (get_or s at 0 - 48))) None
    (digits_from m limit s (suc at) (10 * v + (get_or s at 0 - 48)))))

unfoldable pub digits_at : ℕ → List ℕ → ℕ → Option (ℕ × ℕ)
digits_at limit s at = digits_from (length s - at) limit s at 0

unfoldable pub is_digit : ℕ → Bool
is_digit b = leb 48 b && leb b 57

-- a 0 stands at the place: no digit may follow
unfoldable pub zero_at : ℕ → List ℕ → ℕ → Option (ℕ × ℕ)
zero_at limit s at = cond (is_digit (get_or s (suc at) 0)) None (cond (eqb limit 0) None (Some (0, (suc at))))

-- the decimal number at a place, below the limit and without leading zeros (0 itself is a number)
unfoldable pub decimal_at : ℕ → List ℕ → ℕ → Option (ℕ × ℕ)
decimal_at limit s at =
    cond (is_digit (get_or s at 0)) (cond (eqb (get_or s at 0) 48) (zero_at limit s at) (digits_at limit s at)) None

-- ---- what the code says beside the value: a place within the text is followed by one within it
pub record Within (s : List ℕ) (at v r : ℕ) : Type 0 where
  pub eq : r ≡ v
  pub from : at ≤ r
  pub upto : r ≤ at + (length s - at)

unfoldable pub Ahead : List ℕ → ℕ → ℕ → Option (ℕ × ℕ) → Type 0
Ahead s at limit (Some (v, e)) = record { from : at < e; upto : e ≤ at + (length s - at); small : v < limit }
Ahead s at limit None = Unit

pub record Placed (s : List ℕ) (at limit : ℕ) (d r : Option (ℕ × ℕ)) : Type 0 where
  pub eq : r ≡ d
  pub ahead : Ahead s at limit r
