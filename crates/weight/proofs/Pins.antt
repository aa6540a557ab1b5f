-- Free answer two at q = 0, where the sum is 1 and the ideal weight one half for every number of terms: a weight is at most 2 units from
-- 5,000,000,000. Assumes nothing.
use mathlib.Core.Path.{◌≡◌, refl, ap}
use Prim.Native.Nat.{ℕ, zero, suc, ◌+◌, ◌*◌, ◌≤◌, ◌<◌}
use native.Mathlib.Nat.{mul-le-mul_right, le_of_mul-le-mul_right, pow-succ'}
use native.Mathlib.Omega.{arith}
use lib.Dec.{lit<, lit≤}
use lib.IntN.{pos}
use Rattle.integer.specs.Z.{zs, ≤-by, ≤-of}
use Rattle.fraction.specs.Fraction.{Within, parts, times, whole}
use Rattle.weight.specs.Weight.{num, den, units, tolerance, ideal, IsWeight}
use Rattle.weight.proofs.Series.{den_pos}
use Rattle.weight.proofs.Near.{within}

sum_at_zero : (b n : ℕ) → num b 0 n ≡ den b n
unfolding num den
sum_at_zero b zero = refl
sum_at_zero b (suc n) = omega (arith, pow-succ' 0 n, ap (λ (x : ℕ). x * (suc n * b)) (sum_at_zero b n))

-- w units are within k of one half
abbrev Half : ℕ → ℕ → ℕ → Type 0
Half k w n = Within k (pos w) (times (whole (pos units)) (ideal n (parts units (pos 0))))

module _ (k w n : ℕ) where
  near_half : w ≤ 5000000000 + k → 5000000000 ≤ w + k → Half k w n
  unfolding ideal
  near_half h l = rw (sum_at_zero units n) (go (den units n) (den_pos units n (lit< tt)))
    where
      go : (d : ℕ) → 0 < d → Within k (pos w) (times (whole (pos units)) (parts (d + d) (pos d)))
      go d p = within k w d (d + d) (omega arith) (omega (arith, mul-le-mul_right d h)) (omega (arith, mul-le-mul_right d l))

  half_near : Half k w n → (w ≤ 5000000000 + k) × (5000000000 ≤ w + k)
  unfolding ideal
  half_near h = go (den units n) (den_pos units n (lit< tt)) (rw (sum_at_zero units n) at h)
    where
      go : (d : ℕ) → 0 < d → Within k (pos w) (times (whole (pos units)) (parts (d + d) (pos d))) → (w ≤ 5000000000 + k) × (5000000000 ≤ w + k)
      go d p i =
          let low : w * d ≤ (5000000000 + k) * d = omega (arith, ≤-of (search zs) i.low) in
          let high : 5000000000 * d ≤ (w + k) * d = omega (arith, ≤-of (search zs) i.high) in
          (le_of_mul-le-mul_right {k = d} low p, le_of_mul-le-mul_right {k = d} high p)

-- 2 units off are allowed
pub half_and_2 : IsWeight tolerance (pos 0) (pos 5000000002)
half_and_2 = record { least = ≤-by (search zs) (omega arith); most = ≤-by (search zs) (omega arith); near = λ n h. near_half tolerance 5000000002 n (lit≤ tt) (lit≤ tt) }

pub half_less_2 : IsWeight tolerance (pos 0) (pos 4999999998)
half_less_2 = record { least = ≤-by (search zs) (omega arith); most = ≤-by (search zs) (omega arith); near = λ n h. near_half tolerance 4999999998 n (lit≤ tt) (lit≤ tt) }

-- 3 are not
pub not_half_and_3 : IsWeight tolerance (pos 0) (pos 5000000003) → ⊥
not_half_and_3 h = omega (arith, (half_near tolerance 5000000003 128 (h.near 128 (lit≤ tt))).0)

pub not_half_less_3 : IsWeight tolerance (pos 0) (pos 4999999997) → ⊥
not_half_less_3 h = omega (arith, (half_near tolerance 4999999997 128 (h.near 128 (lit≤ tt))).1)
