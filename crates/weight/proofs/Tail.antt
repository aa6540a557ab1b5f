-- The sum num b u n / den b n for more and more terms: it grows, and what is left beyond a term is small.
use mathlib.Core.Path.{ap}
use Prim.Native.Nat.{ℕ, suc, ◌+◌, ◌*◌, ◌^◌, ◌≤◌, ◌<◌}
use native.Mathlib.Nat.{le_refl, mul-le-mul_left, mul-le-mul_right, le_of_mul-le-mul_right, pow-succ'}
use native.Mathlib.Decide.{le_ind}
use native.Mathlib.Omega.{arith}
use Rattle.weight.specs.Weight.{num, den}
use Rattle.weight.proofs.Series.{den_pos, num_mono}

-- ---- the true sum grows with the number of terms
sum_step : (b u n : ℕ) → num b u n * den b (suc n) ≤ num b u (suc n) * den b n
unfolding num den
sum_step b u n = omega arith

-- a / d ≤ a' / d' and a' / d' ≤ a'' / d'' give a / d ≤ a'' / d''
frac_trans : (a d a' d' a'' d'' : ℕ) → 0 < d' → a * d' ≤ a' * d → a' * d'' ≤ a'' * d' → a * d'' ≤ a'' * d
frac_trans a d a' d' a'' d'' p h k =
    le_of_mul-le-mul_right {k = d'} (omega (arith, mul-le-mul_right d'' h, mul-le-mul_right d k)) p

pub sum_mono : (b u n m : ℕ) → 0 < b → n ≤ m → num b u n * den b m ≤ num b u m * den b n
sum_mono b u n m p h =
    le_ind (λ k. num b u n * den b k ≤ num b u k * den b n) (le_refl _)
    (λ k l r. frac_trans (num b u n) (den b n) (num b u k) (den b k) (num b u (suc k)) (den b (suc k)) (den_pos b k p) r (sum_step b u k))
    m h

-- what the sum is at least, it is with a larger u and more terms
pub sum_least : (b p m a u k n : ℕ) → 0 < b → p * den b k ≤ m * num b a k → a ≤ u → k ≤ n → p * den b n ≤ m * num b u n
sum_least b p m a u k n h at l more =
    le_of_mul-le-mul_right {k = den b k}
    (omega (arith, mul-le-mul_right (den b n) at, mul-le-mul_right (m * den b n) (num_mono b k l), mul-le-mul_left m (sum_mono b u k n h more)))
    (den_pos b k h)

-- ---- the tail: once a term is at most a fifth of the one before, four times the sum and the last term only fall
tail_step : (b u n : ℕ) → 5 * u ≤ suc n * b
    → (4 * num b u (suc n) + u ^ suc n) * den b n ≤ (4 * num b u n + u ^ n) * den b (suc n)
unfolding num den
tail_step b u n h = omega (arith, mul-le-mul_right (den b n * u ^ n) h, ap (λ x. x * den b n) (pow-succ' u n))

pub tail : (b u k n : ℕ) → 0 < b → 5 * u ≤ suc k * b → k ≤ n
    → (4 * num b u n + u ^ n) * den b k ≤ (4 * num b u k + u ^ k) * den b n
tail b u k n p ratio more =
    le_ind
    (λ m. (4 * num b u m + u ^ m) * den b k ≤ (4 * num b u k + u ^ k) * den b m)
    (le_refl _)
    (λ m l r.
    frac_trans (4 * num b u (suc m) + u ^ suc m) (den b (suc m)) (4 * num b u m + u ^ m) (den b m) (4 * num b u k + u ^ k) (den b k)
    (den_pos b m p)
    (tail_step b u m (omega (arith, mul-le-mul_right b l)))
    r)
    n more
