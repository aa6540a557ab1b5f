-- A logarithm as a comparison of powers: `Lo` and `Hi`, how a test that antt computes shows them, and their laws for a factor, a unit
-- and a scale. Assumes nothing.
use mathlib.Core.Path.{◌≡◌, ap}
use Prim.Native.Nat.{ℕ, ◌+◌, ◌*◌, ◌^◌, ◌≤◌, ◌<◌}
use native.Mathlib.Nat.{le_trans, mul-le-mul, mul-le-mul_left, mul-le-mul_right, pow-le-pow_left, pow-le-pow_right, mul_comm, mul-pos, one-le-pow, le_of_mul-le-mul_right}
use native.Mathlib.Omega.{arith}
use lib.Dec.{T, lit<}
use lib.Pow.{pow-add}
use Rattle.logarithm.proofs.Powers.{mul_pow, pow_mul, pow_swap, one_pow}
use Rattle.logarithm.proofs.Digits.{lows, highs, lows_law, highs_law}

-- 10 ^ t is at most (v / s) ^ k, and at least. Shut, so that no power of a numeral is computed.
unfoldable pub Lo : ℕ → ℕ → ℕ → ℕ → Type 0
Lo k t v s = 10 ^ t * s ^ k ≤ v ^ k

unfoldable pub Hi : ℕ → ℕ → ℕ → ℕ → Type 0
Hi k t v s = v ^ k ≤ 10 ^ t * s ^ k

-- ---- tests

pub lo_test : (j t v d u : ℕ) → 0 < u → 0 < d → T (lows (d * u) j t (v * u)) → Lo (10 ^ j) t v d
unfolding Lo
lo_test j t v d u o p h =
    let k = 10 ^ j in
    cancel (10 ^ t) (d ^ k) (u ^ k) (v ^ k) (one-le-pow k u o) (rw (mul_pow d u k, mul_pow v u k) at (lows_law (d * u) j t (v * u) (mul-pos p o) h))
  where
    cancel : (G D U W : ℕ) → 0 < U → G * (D * U) ≤ W * U → G * D ≤ W
    cancel G D U W o h = le_of_mul-le-mul_right {k = U} (omega arith) o

pub hi_test : (j t v d u : ℕ) → 0 < u → 0 < d → T (highs (d * u) j t (v * u)) → Hi (10 ^ j) (t + 1) v d
unfolding Hi
hi_test j t v d u o p h =
    let k = 10 ^ j in
    cancel (10 ^ (t + 1)) (d ^ k) (u ^ k) (v ^ k) (one-le-pow k u o) (rw (mul_pow d u k, mul_pow v u k) at (highs_law (d * u) j t (v * u) (mul-pos p o) h))
  where
    cancel : (G D U W : ℕ) → 0 < U → W * U ≤ G * (D * U) → W ≤ G * D
    cancel G D U W o h = le_of_mul-le-mul_right {k = U} (omega arith) o

-- the same for a number x / s that is at least e / f
pub hi_over : (j t x s e f : ℕ) → 0 < s → e * s ≤ x * f → T (highs s j t x) → Hi (10 ^ j) (t + 1) e f
unfolding Hi
hi_over j t x s e f o l h =
    let k = 10 ^ j in
    cancel (10 ^ (t + 1)) (e ^ k) (f ^ k) (s ^ k) (x ^ k) (one-le-pow k s o) (rw (mul_pow e s k, mul_pow x f k) at (pow-le-pow_left l k)) (highs_law s j t x o h)
  where
    cancel : (G E F S X : ℕ) → 0 < S → E * S ≤ X * F → X ≤ G * S → E ≤ G * F
    cancel G E F S X o a b = le_of_mul-le-mul_right {k = S} (omega (arith, mul-le-mul_right F b)) o

-- ---- a factor: p is m * c, and t is the logarithm of B / c

pub lo_factor : (k m c p v P Q A B t g : ℕ) → P * Q ≡ A * B → 0 < c → p ≡ m * c → v * Q ≤ p → Lo k g v P → Lo k t B c → Lo k (t + g) m A
unfolding Lo
lo_factor k m c p v P Q A B t g i o e h x y =
    rw (pow-add 10 t g)
    (cancel (10 ^ g) (10 ^ t) (P ^ k) (Q ^ k) (A ^ k) (B ^ k) (c ^ k) (v ^ k) (m ^ k) (one-le-pow k c o)
    (rw (mul_pow P Q k, mul_pow A B k) at (ap (λ (u : ℕ). u ^ k) i))
    (rw (e, mul_pow v Q k, mul_pow m c k) at (pow-le-pow_left h k)) x y)
  where
    cancel : (G H P Q A B C X M : ℕ) → 0 < C → P * Q ≡ A * B → X * Q ≤ M * C → G * P ≤ X → H * C ≤ B → H * G * A ≤ M
    cancel G H P Q A B C X M o i h x y =
        le_of_mul-le-mul_right {k = C} (omega (arith, mul-le-mul_right Q x, mul-le-mul_left (G * A) y, ap (λ (u : ℕ). G * u) i)) o

pub hi_factor : (k m c p v P Q A B t g : ℕ) → P * Q ≡ A * B → 0 < c → p ≡ m * c → p ≤ v * Q → Hi k g v P → Hi k t B c → Hi k (t + g) m A
unfolding Hi
hi_factor k m c p v P Q A B t g i o e h x y =
    rw (pow-add 10 t g)
    (cancel (10 ^ g) (10 ^ t) (P ^ k) (Q ^ k) (A ^ k) (B ^ k) (c ^ k) (v ^ k) (m ^ k) (one-le-pow k c o)
    (rw (mul_pow P Q k, mul_pow A B k) at (ap (λ (u : ℕ). u ^ k) i))
    (rw (e, mul_pow v Q k, mul_pow m c k) at (pow-le-pow_left h k)) x y)
  where
    cancel : (G H P Q A B C X M : ℕ) → 0 < C → P * Q ≡ A * B → M * C ≤ X * Q → X ≤ G * P → B ≤ H * C → M ≤ H * G * A
    cancel G H P Q A B C X M o i h x y =
        le_of_mul-le-mul_right {k = C} (omega (arith, mul-le-mul_right Q x, mul-le-mul_left (G * A) y, ap (λ (u : ℕ). G * u) i)) o

-- one unit more
pub hi_unit : (k m n a b s t g : ℕ) → 0 < b → n * b ≤ m * a → Hi k g m s → Hi k t a b → Hi k (g + t) n s
unfolding Hi
hi_unit k m n a b s t g o h x y =
    rw (pow-add 10 g t)
    (cancel (10 ^ g) (10 ^ t) (s ^ k) (m ^ k) (n ^ k) (a ^ k) (b ^ k) (one-le-pow k b o) (rw (mul_pow n b k, mul_pow m a k) at (pow-le-pow_left h k)) x y)
  where
    cancel : (G H S M N A B : ℕ) → 0 < B → N * B ≤ M * A → M ≤ G * S → A ≤ H * B → N ≤ G * H * S
    cancel G H S M N A B o h x y = le_of_mul-le-mul_right {k = B} (omega (arith, mul-le-mul x y)) o

-- ---- a scale: n * y is v * Q, P * Q is w ^ e * y, and β is the logarithm of w

pub lo_scale : (k n v P Q w e y β g : ℕ) → P * Q ≡ w ^ e * y → 0 < y → v * Q ≤ n * y → Lo k g v P → Lo k β w 1 → Lo k (e * β + g) n 1
unfolding Lo
lo_scale k n v P Q w e y β g i o h x z =
    rw (one_pow k, pow-add 10 (e * β) g, mul_comm e β, pow_mul 10 β e)
    (cancel (10 ^ g) ((10 ^ β) ^ e) (P ^ k) (Q ^ k) ((w ^ e) ^ k) (y ^ k) (v ^ k) (n ^ k) (one-le-pow k y o)
    (rw (mul_pow P Q k, mul_pow (w ^ e) y k) at (ap (λ (u : ℕ). u ^ k) i))
    (rw (mul_pow v Q k, mul_pow n y k) at (pow-le-pow_left h k)) x
    (rw (pow_swap w k e) at (pow-le-pow_left (unit (10 ^ β) (w ^ k) (rw (one_pow k) at z)) e)))
  where
    unit : (a b : ℕ) → a * 1 ≤ b → a ≤ b
    unit a b h = omega arith

    cancel : (G B P Q W Y X N : ℕ) → 0 < Y → P * Q ≡ W * Y → X * Q ≤ N * Y → G * P ≤ X → B ≤ W → B * G * 1 ≤ N
    cancel G B P Q W Y X N o i h x z =
        le_of_mul-le-mul_right {k = Y} (omega (arith, mul-le-mul_right Q x, mul-le-mul_right (G * Y) z, ap (λ (u : ℕ). G * u) i)) o

pub hi_scale : (k n v P Q w e y β g : ℕ) → P * Q ≡ w ^ e * y → 0 < y → n * y ≤ v * Q → Hi k g v P → Hi k β w 1 → Hi k (e * β + g) n 1
unfolding Hi
hi_scale k n v P Q w e y β g i o h x z =
    rw (one_pow k, pow-add 10 (e * β) g, mul_comm e β, pow_mul 10 β e)
    (cancel (10 ^ g) ((10 ^ β) ^ e) (P ^ k) (Q ^ k) ((w ^ e) ^ k) (y ^ k) (v ^ k) (n ^ k) (one-le-pow k y o)
    (rw (mul_pow P Q k, mul_pow (w ^ e) y k) at (ap (λ (u : ℕ). u ^ k) i))
    (rw (mul_pow v Q k, mul_pow n y k) at (pow-le-pow_left h k)) x
    (rw (pow_swap w k e) at (pow-le-pow_left (unit (10 ^ β) (w ^ k) (rw (one_pow k) at z)) e)))
  where
    unit : (a b : ℕ) → b ≤ a * 1 → b ≤ a
    unit a b h = omega arith

    cancel : (G B P Q W Y X N : ℕ) → 0 < Y → P * Q ≡ W * Y → N * Y ≤ X * Q → X ≤ G * P → W ≤ B → N ≤ B * G * 1
    cancel G B P Q W Y X N o i h x z =
        le_of_mul-le-mul_right {k = Y} (omega (arith, mul-le-mul_right Q x, mul-le-mul_right (G * Y) z, ap (λ (u : ℕ). G * u) i)) o

pub hi_more : (k t u v s : ℕ) → t ≤ u → Hi k t v s → Hi k u v s
unfolding Hi
hi_more k t u v s l x = le_trans x (mul-le-mul_right (s ^ k) (pow-le-pow_right {n = 10} (lit< tt) l))
