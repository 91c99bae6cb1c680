-- The primes of the worked sum P7, by computation.
use mathlib.Core.Path.{◌≡◌, refl}
use mathlib.Core.Bool.{true, false}
use Rattle.field.specs.Prime.{divisor_from, divisor_of, is_prime}

pub primes : (is_prime 3 ≡ true) × (is_prime 9 ≡ false) × (is_prime 65521 ≡ true) × (is_prime 65535 ≡ false)
unfolding is_prime divisor_of divisor_from
primes = (refl, refl, refl, refl)
