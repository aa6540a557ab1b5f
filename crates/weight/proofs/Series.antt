-- The sum num b u n / den b n: its laws, and how far it moves with u.
use mathlib.Core.Path.{◌≡◌, refl, ap, ◌∙◌}
use Prim.Native.Nat.{ℕ, zero, suc, ◌+◌, ◌*◌, ◌^◌, ◌≤◌, ◌<◌}
use native.Mathlib.Nat.{mul-le-mul_left, mul-le-mul_right, mul-pos, pow-le-pow_left, pow-succ', pow-zero, mul-one, zero-mul, zero-add}
use native.Mathlib.Omega.{arith}
use Rattle.weight.specs.Weight.{num, den}

pub den_pos : (b n : ℕ) → 0 < b → 0 < den b n
unfolding den
den_pos b zero h = omega arith
den_pos b (suc n) h = mul-pos (den_pos b n h) (mul-pos (omega arith) h)

-- each sum is at least the first: 1
pub den_le_num : (b u n : ℕ) → den b n ≤ num b u n
unfolding den num
den_le_num b u zero = omega arith
den_le_num b u (suc n) = omega (arith, mul-le-mul_right (suc n * b) (den_le_num b u n))

pub num_mono : (b n : ℕ) {u v : ℕ} → u ≤ v → num b u n ≤ num b v n
unfolding num
num_mono b zero h = omega arith
num_mono b (suc n) h = omega (arith, mul-le-mul_right (suc n * b) (num_mono b n h), pow-le-pow_left h (suc n))

pub sum_more : (b u n : ℕ) → num b u n * (suc n * b) ≤ num b u (suc n)
unfolding num
sum_more b u n = omega arith

pub pow_one : (u : ℕ) → u ^ 1 ≡ u
pow_one u = pow-succ' u 0 ∙ ap (λ x. u * x) (pow-zero u) ∙ mul-one u

-- ---- another unit: u / b is u·c / b·c
pow_mul : (u c n : ℕ) → (u * c) ^ n ≡ u ^ n * c ^ n
pow_mul u c zero = simp pow-zero (omega arith)
pow_mul u c (suc n) =
    omega (
      arith,
      pow-succ' (u * c) n,
      ap (λ x. u * c * x) (pow_mul u c n),
      ap (λ x. x * c ^ suc n) (pow-succ' u n),
      ap (λ x. u * u ^ n * x) (pow-succ' c n),
    )

pub den_scaled : (b c n : ℕ) → den (b * c) n ≡ den b n * c ^ n
unfolding den
den_scaled b c zero = rw pow-zero (omega arith)
den_scaled b c (suc n) =
    omega (arith, ap (λ x. x * (suc n * (b * c))) (den_scaled b c n), ap (λ x. den b n * (suc n * b) * x) (pow-succ' c n))

pub num_scaled : (b u c n : ℕ) → num (b * c) (u * c) n ≡ num b u n * c ^ n
unfolding num
num_scaled b u c zero = rw pow-zero (omega arith)
num_scaled b u c (suc n) =
    omega (
      arith,
      ap (λ x. x * (suc n * (b * c))) (num_scaled b u c n),
      ap (λ x. num b u n * (suc n * b) * x) (pow-succ' c n),
      pow_mul u c (suc n),
    )

-- ---- v^(n+1) - a^(n+1) ≤ (n+1) (v - a) v^n, where v = a + d
pow_lip : (a d n : ℕ) → (a + d) ^ suc n ≤ a ^ suc n + suc n * (d * (a + d) ^ n)
pow_lip a d zero = rw (pow_one (a + d), pow_one a, pow-zero) (omega arith)
pow_lip a d (suc n) =
    omega (
      arith,
      pow-succ' (a + d) (suc n),
      pow-succ' a (suc n),
      ap (λ x. suc n * d * x) (pow-succ' (a + d) n),
      mul-le-mul_left a (pow_lip a d n),
    )

pub num_lip : (b a d n : ℕ) → num b (a + d) (suc n) ≤ num b a (suc n) + suc n * (d * num b (a + d) n)
unfolding num
num_lip b a d zero = rw (pow_one (a + d), pow_one a) (omega arith)
num_lip b a d (suc n) = omega (arith, mul-le-mul_right (suc (suc n) * b) (num_lip b a d n), pow_lip a d (suc n))

-- D / (D + P a) - D / (D + P (a + d)) ≤ d / (2 b)
pub ideal_lip : (b a d n : ℕ)
    → 2 * b * (den b n * (den b n + num b (a + d) n))
    ≤ 2 * b * (den b n * (den b n + num b a n)) + d * ((den b n + num b a n) * (den b n + num b (a + d) n))
ideal_lip b a d zero = unfold num den in omega arith
ideal_lip b a d (suc n) =
    let p = num b (a + d) (suc n) in
    omega (
      arith,
      mul-le-mul_left (2 * b * den b (suc n)) (num_lip b a d n),
      mul-le-mul_left (2 * d * den b (suc n)) (sum_more b (a + d) n),
      mul-le-mul_left (d * (den b (suc n) + p)) (den_le_num b a (suc n)),
    )

-- at 0 the sum is 1, so the weight is a half
num_zero : (b n : ℕ) → num b 0 n ≡ den b n
unfolding num den
num_zero b zero = refl
num_zero b (suc n) = omega (arith, ap (λ x. x * (suc n * b)) (num_zero b n), pow-succ' 0 n ∙ zero-mul (0 ^ n))

half : (b u n : ℕ) → b * num b u n ≤ b * den b n + u * (den b n + num b u n)
half b u zero = unfold num den in omega arith
half b u (suc n) =
    omega (
      arith,
      mul-le-mul_left b (rw (zero-add, num_zero b (suc n)) at (num_lip b 0 u n)),
      mul-le-mul_left u (rw (zero-add) at (sum_more b (0 + u) n)),
    )

-- P u / (D + P u) - D / (D + P v) ≤ (u + v) / (2 b)
pub across_lip : (b u v n : ℕ)
    → 2 * b * (num b u n * (den b n + num b v n))
    ≤ 2 * b * (den b n * (den b n + num b u n)) + (u + v) * ((den b n + num b u n) * (den b n + num b v n))
across_lip b u v n =
    omega (
      arith,
      mul-le-mul_right (den b n + num b v n) (half b u n),
      mul-le-mul_right (den b n + num b u n) (half b v n),
    )
