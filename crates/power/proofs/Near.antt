-- A quotient that is nearly ten to a power: its laws for a table's entry, a product, a floor and a straight line. Assumes nothing.
use mathlib.Core.Path.{◌≡◌}
use Prim.Native.Nat.{ℕ, ◌+◌, ◌*◌, ◌^◌, ◌≤◌, ◌<◌}
use native.Mathlib.Nat.{le_trans, mul-le-mul, mul-le-mul_left, pow-le-pow_left, one-le-pow, le_of_mul-le-mul_right, mul-lt-mul_of_pos_right}
use native.Mathlib.Omega.{arith}
use lib.Pow.{pow-add}
use Rattle.logarithm.proofs.Powers.{mul_pow, pow_mul, pow_swap, lt_root, ten_lt, bernoulli}
use Rattle.logarithm.proofs.Mean.{mean, mean_low}
use Rattle.logarithm.proofs.Bounds.{Lo, Hi}

-- v / s is ten to t / k, less at most ten to e / k, more by at most ten to f / k. Shut, so that no power of a numeral is computed.
unfoldable pub Near : ℕ → ℕ → ℕ → ℕ → ℕ → ℕ → Type 0
Near k t e f v s = (10 ^ t * s ^ k ≤ 10 ^ e * v ^ k) × (v ^ k ≤ 10 ^ (t + f) * s ^ k)

-- one more is at most ten to h / k more, from m on
more : (k h m y : ℕ) → 0 < m → m ≤ y → Hi k h (m + 1) m → (y + 1) ^ k ≤ 10 ^ h * y ^ k
unfolding Hi
more k h m y o l r =
    let c : (y + 1) * m ≤ y * (m + 1) = omega arith in
    le_of_mul-le-mul_right {k = m ^ k}
    (step ((y + 1) ^ k) (y ^ k) (m ^ k) ((m + 1) ^ k) (10 ^ h) (rw (mul_pow (y + 1) m k, mul_pow y (m + 1) k) at (pow-le-pow_left c k)) r)
    (one-le-pow k m o)
  where
    step : (A B C D H : ℕ) → A * C ≤ B * D → D ≤ H * C → A * C ≤ H * B * C
    step A B C D H a b = omega (arith, mul-le-mul_left B b)

module _ (k h m : ℕ) (m-some : 0 < m) (unit : Hi k h (m + 1) m) where
  -- an entry that is rounded down
  pub near_entry : (t v s : ℕ) → m ≤ v → Lo k t (v + 1) s → Hi k (t + 1) v s → Near k t h 1 v s
  unfolding Lo Hi Near
  near_entry t v s l x y = (le_trans x (more k h m v m-some l unit), y)

  -- a product x that is scaled back by z and rounded down to y
  pub near_floor : (t e f x s z y : ℕ) → 0 < z → m ≤ y → y * z ≤ x → x ≤ (y + 1) * z → Near k t e f x (s * z) → Near k t (e + h) f y s
  unfolding Near
  near_floor t e f x s z y o l a b n =
      let n₀ = rw (mul_pow s z k) at n.0 in
      let n₁ = rw (mul_pow s z k) at n.1 in
      let zp = one-le-pow k z o in (
        rw (pow-add 10 e h)
            (low (10 ^ t) (10 ^ e) (10 ^ h) (s ^ k) (z ^ k) (x ^ k) (y ^ k) ((y + 1) ^ k) zp n₀ (rw (mul_pow (y + 1) z k) at (pow-le-pow_left b k)) (more k h m y m-some l unit)),
        high (10 ^ (t + f)) (s ^ k) (z ^ k) (x ^ k) (y ^ k) zp n₁ (rw (mul_pow y z k) at (pow-le-pow_left a k)),
      )
    where
      low : (T E H S Z X Y Y' : ℕ) → 0 < Z → T * (S * Z) ≤ E * X → X ≤ Y' * Z → Y' ≤ H * Y → T * S ≤ E * H * Y
      low T E H S Z X Y Y' o a b c =
          le_of_mul-le-mul_right {k = Z} (omega (arith, mul-le-mul_left E b, mul-le-mul_left (E * Z) c)) o

      high : (T S Z X Y : ℕ) → 0 < Z → X ≤ T * (S * Z) → Y * Z ≤ X → Y ≤ T * S
      high T S Z X Y o a b = le_of_mul-le-mul_right {k = Z} (omega arith) o

pub near_times : (k t e f v s t' e' f' v' s' : ℕ) → Near k t e f v s → Near k t' e' f' v' s' → Near k (t + t') (e + e') (f + f') (v * v') (s * s')
unfolding Near
near_times k t e f v s t' e' f' v' s' x y =
    let i : t + t' + (f + f') ≡ t + f + (t' + f') = omega arith in
    rw (mul_pow v v' k, mul_pow s s' k, i, pow-add 10 t t', pow-add 10 e e', pow-add 10 (t + f) (t' + f'))
    (low (10 ^ t) (10 ^ t') (s ^ k) (s' ^ k) (10 ^ e) (10 ^ e') (v ^ k) (v' ^ k) x.0 y.0, low' (10 ^ (t + f)) (10 ^ (t' + f')) (s ^ k) (s' ^ k) (v ^ k) (v' ^ k) x.1 y.1)
  where
    low : (T U S R E F X Y : ℕ) → T * S ≤ E * X → U * R ≤ F * Y → T * U * (S * R) ≤ E * F * (X * Y)
    low T U S R E F X Y a b = omega (arith, mul-le-mul a b)

    low' : (T U S R X Y : ℕ) → X ≤ T * S → Y ≤ U * R → X * Y ≤ T * U * (S * R)
    low' T U S R X Y a b = omega (arith, mul-le-mul a b)

-- the straight line from 1 at 0 to (u + r + q) / u at r + q, which is at least ten to w (r + q) / k
pub near_line : (k u w r q : ℕ) → 0 < u → 0 < q → Lo k (w * (r + q)) (u + r + q) u → Hi k (w + 1) (u + 1) u → Near k (w * r) 0 r (u + r) u
unfolding Lo Hi Near
near_line k u w r q o p lo hi =
    let a = rw (mul_pow (u ^ q) ((u + r + q) ^ r) k, pow_swap u q k, pow_swap (u + r + q) r k, pow_swap (u + r) (r + q) k) at (pow-le-pow_left (mean u r q o) k) in
    let i : r + q ≡ q + r = omega arith in
    let b = rw i at a in (
      under (10 ^ (w * r)) (u ^ k) ((u + r) ^ k)
          (mean_low (u ^ k) (u ^ k) ((u + r + q) ^ k) ((u + r) ^ k) 0 (w * (r + q)) (w * r) q r (omega arith) (omega arith) lo b (omega arith)),
      above,
    )
  where
    over : (X Y A B C : ℕ) → 0 < Y → X * Y ≤ A * B → B ≤ C * Y → X ≤ C * A
    over X Y A B C o a b = le_of_mul-le-mul_right {k = Y} (omega (arith, mul-le-mul_left A b)) o

    above : (u + r) ^ k ≤ 10 ^ (w * r + r) * u ^ k
    above =
        let e : (w + 1) * r ≡ w * r + r = omega arith in
        let x = rw (mul_pow (u + r) (u ^ r) k, mul_pow u ((u + 1) ^ r) k, pow_swap u r k, pow_swap (u + 1) r k) at (pow-le-pow_left (bernoulli u r) k) in
        let y = rw (mul_pow (10 ^ (w + 1)) (u ^ k) r, ← (pow_mul 10 (w + 1) r), e) at (pow-le-pow_left hi r) in
        over ((u + r) ^ k) ((u ^ k) ^ r) (u ^ k) (((u + 1) ^ k) ^ r) (10 ^ (w * r + r)) (one-le-pow r (u ^ k) (one-le-pow k u o)) x y

    under : (G U X : ℕ) → G * U ≤ X → G * U ≤ 10 ^ 0 * X
    under G U X h = omega arith

-- to whole units
pub near_end : (j q g e f t b : ℕ) → 0 < t → 0 < b → e < q → f < 2 * q → Near (j * q) (g * q) e f t b
    → (10 ^ g * b ^ j < 10 * t ^ j) × (t ^ j < 10 ^ (g + 2) * b ^ j)
unfolding Near
near_end j q g e f t b tp bp eq fq n = (
  lt_root (10 ^ g * b ^ j) (10 * t ^ j) q
      (rw (mul_pow (10 ^ g) (b ^ j) q, mul_pow 10 (t ^ j) q, ← (pow_mul 10 g q), ← (pow_mul b j q), ← (pow_mul t j q))
      (below (10 ^ (g * q) * b ^ (j * q)) (10 ^ e) (10 ^ q) (t ^ (j * q)) (one-le-pow (j * q) t tp) n.0 (ten_lt e q eq))),
  lt_root (t ^ j) (10 ^ (g + 2) * b ^ j) q
      (rw (mul_pow (10 ^ (g + 2)) (b ^ j) q, ← (pow_mul 10 (g + 2) q), ← (pow_mul b j q), ← (pow_mul t j q))
      (below (t ^ (j * q)) (10 ^ (g * q + f)) (10 ^ ((g + 2) * q)) (b ^ (j * q)) (one-le-pow (j * q) b bp) n.1 (ten_lt (g * q + f) ((g + 2) * q) (omega arith)))),
)
  where
    below : (X E Q Y : ℕ) → 0 < Y → X ≤ E * Y → E < Q → X < Q * Y
    below X E Q Y o a b = omega (arith, mul-lt-mul_of_pos_right b o)
