-- A test that compares a long power with a power of ten: each tenth power is divided by the power of ten of one digit. Assumes nothing.
use mathlib.Core.Path.{◌≡◌, sym, ap, ◌∙◌}
use mathlib.Core.Bool.{Bool}
use Prim.Native.Nat.{ℕ, zero, suc, ◌+◌, ◌-◌, ◌*◌, ◌/◌, ◌%◌, ◌^◌, ◌≤◌, ◌<◌}
use native.Mathlib.Nat.{le_trans, le_of_eq, mul-le-mul_right, pow-le-pow_left, pow-suc, mul_comm, mul-pos, one-le-pow, div-mul-le_self, lt-div-mul-add, div-add-mod'}
use native.Mathlib.Omega.{arith}
use lib.Dec.{T, leb, leb→le}
use lib.Pow.{pow-add}
use Rattle.logarithm.proofs.Powers.{mul_pow, pow_mul, pow_one, ten_pos}

-- 10 ^ t is at most (x / s) ^ (10 ^ k)
unfoldable pub lows : ℕ → ℕ → ℕ → ℕ → Bool
lows s zero t x = leb (10 ^ t * s) x
lows s (suc k) t x = lows s k (t % 10 ^ k) (x ^ 10 / (s ^ 9 * 10 ^ (t / 10 ^ k)))

-- 10 ^ (t + 1) is at least (x / s) ^ (10 ^ k)
unfoldable pub highs : ℕ → ℕ → ℕ → ℕ → Bool
highs s zero t x = leb x (10 ^ (t + 1) * s)
highs s (suc k) t x = highs s k (t % 10 ^ k) ((x ^ 10 + (s ^ 9 * 10 ^ (t / 10 ^ k) - 1)) / (s ^ 9 * 10 ^ (t / 10 ^ k)))

-- x ^ (10 ^ suc k) by the tenth power
tens : (x k : ℕ) → x ^ 10 ^ suc k ≡ (x ^ 10) ^ 10 ^ k
tens x k = ap (λ (e : ℕ). x ^ e) (pow-suc 10 k ∙ mul_comm (10 ^ k) 10) ∙ pow_mul x 10 (10 ^ k)

ceil : (a q : ℕ) → 0 < q → a ≤ (a + (q - 1)) / q * q
ceil a q p = omega (arith, lt-div-mul-add {a = a + (q - 1)} p)

-- one digit of t
digit : (t n : ℕ) → 10 ^ t ≡ (10 ^ (t / n)) ^ n * 10 ^ (t % n)
digit t n = ap (λ (e : ℕ). 10 ^ e) (sym (div-add-mod' t n)) ∙ pow-add 10 (t / n * n) (t % n) ∙ ap (λ (e : ℕ). e * 10 ^ (t % n)) (pow_mul 10 (t / n) n)

pub lows_law : (s k t x : ℕ) → 0 < s → T (lows s k t x) → 10 ^ t * s ^ 10 ^ k ≤ x ^ 10 ^ k
unfolding lows
lows_law s zero t x p h = rw (pow_one x, pow_one s) (leb→le (10 ^ t * s) x h)
lows_law s (suc k) t x p h =
    let n = 10 ^ k in
    let d = 10 ^ (t / n) in
    let y = x ^ 10 / (s ^ 9 * d) in
    let ih = lows_law s k (t % n) y p h in
    let g : y ^ n * ((s ^ 9) ^ n * d ^ n) ≤ (x ^ 10) ^ n =
    le_trans (le_of_eq (sym (mul_pow y (s ^ 9 * d) n ∙ ap (λ (e : ℕ). y ^ n * e) (mul_pow (s ^ 9) d n)))) (pow-le-pow_left (div-mul-le_self (x ^ 10) (s ^ 9 * d)) n) in
    rw (tens x k, tens s k, pow-suc s 9, mul_pow (s ^ 9) s n, digit t n)
    (step ((x ^ 10) ^ n) (y ^ n) ((s ^ 9) ^ n) (d ^ n) (s ^ n) (10 ^ (t % n)) g ih)
  where
    step : (a b q d s m : ℕ) → b * (q * d) ≤ a → m * s ≤ b → d * m * (q * s) ≤ a
    step a b q d s m g ih = omega (arith, mul-le-mul_right (q * d) ih)

pub highs_law : (s k t x : ℕ) → 0 < s → T (highs s k t x) → x ^ 10 ^ k ≤ 10 ^ (t + 1) * s ^ 10 ^ k
unfolding highs
highs_law s zero t x p h = rw (pow_one x, pow_one s) (leb→le x (10 ^ (t + 1) * s) h)
highs_law s (suc k) t x p h =
    let n = 10 ^ k in
    let d = 10 ^ (t / n) in
    let q = s ^ 9 * d in
    let y = (x ^ 10 + (q - 1)) / q in
    let ih = rw (pow-add 10 (t % n) 1) at (highs_law s k (t % n) y p h) in
    let o : 0 < q = mul-pos (one-le-pow 9 s p) (ten_pos (t / n)) in
    let g : (x ^ 10) ^ n ≤ y ^ n * ((s ^ 9) ^ n * d ^ n) =
    le_trans (pow-le-pow_left (ceil (x ^ 10) q o) n) (le_of_eq (mul_pow y q n ∙ ap (λ (e : ℕ). y ^ n * e) (mul_pow (s ^ 9) d n))) in
    rw (tens x k, tens s k, pow-suc s 9, mul_pow (s ^ 9) s n, pow-add 10 t 1, digit t n)
    (step ((x ^ 10) ^ n) (y ^ n) ((s ^ 9) ^ n) (d ^ n) (s ^ n) (10 ^ (t % n)) g ih)
  where
    step : (a b q d s m : ℕ) → a ≤ b * (q * d) → b ≤ m * 10 * s → a ≤ d * m * 10 * (q * s)
    step a b q d s m g ih = omega (arith, mul-le-mul_right (q * d) ih)
