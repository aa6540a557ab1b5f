-- The logarithm that this program takes is one as free answer one says, and is small. Assumes nothing.
use mathlib.Core.Path.{◌≡◌, sym, ap, ◌∙◌}
use Prim.Native.Nat.{ℕ, ◌+◌, ◌-◌, ◌*◌, ◌^◌, ◌≤◌, ◌<◌}
use native.Mathlib.Nat.{mul-le-mul_left, mul-le-mul_right}
use native.Mathlib.Omega.{arith}
use lib.Dec.{lit<, lit≤}
use lib.IntN.{ℤ, pos, pred_ℤ, suc_ℤ, nat_abs, ◌-ℤ◌}
use lib.Pow.{pow-add}
use Rattle.integer.specs.Z.{Is, is+, is_neg, is_pos, zs}
use Rattle.integer.specs.Laws.{abs_by}
use Rattle.fraction.specs.Tens.{Above, Below}
use Rattle.logarithm.specs.Log.{IsLog}
use Rattle.logarithm.specs.Choice.{lg_of, raised_log, log_of}
use Rattle.logarithm.proofs.Powers.{mul_pow, pow_mul, one_pow, lt_root, ten_lt}
use Rattle.logarithm.proofs.Bounds.{Lo, Hi}
use Rattle.logarithm.proofs.Numbers.{lg_is}
use Rattle.logarithm.proofs.Exponents.{above_by_lem, below_by, is_pred, is_suc}

-- the difference x - y of two logarithms that are at most s and t too low, raised by b and rounded to g with q to the unit: within one of
-- the j-th power's logarithm
quotient : (j q n d x y A g b s t H : ℕ) → 0 < q → Lo (j * q) x n 1 → Hi (j * q) (x + s) n 1 → Lo (j * q) y d 1 → Hi (j * q) (y + t) d 1
    → A + y ≡ x + b * (j * q) → g * q ≤ A + H → A + H < g * q + q → s ≤ H → H + t < q → (10 ^ g * d ^ j < 10 * (n * 10 ^ b) ^ j) × ((n * 10 ^ b) ^ j < 10 * 10 ^ g * d ^ j)
unfolding Lo Hi
quotient j q n d x y A g b s t H o xl xh yl yh e gl gh sl tq =
    let k = j * q in
    let one : 1 ^ k ≡ 1 = one_pow k in
    let nn : ((n * 10 ^ b) ^ j) ^ q ≡ n ^ k * 10 ^ (b * k) = sym (pow_mul (n * 10 ^ b) j q) ∙ mul_pow n (10 ^ b) k ∙ ap (λ (u : ℕ). n ^ k * u) (sym (pow_mul 10 b k)) in
    let dd : (d ^ j) ^ q ≡ d ^ k = sym (pow_mul d j q) in
    let gg : (10 ^ g) ^ q ≡ 10 ^ (g * q) = sym (pow_mul 10 g q) in (
      lt_root (10 ^ g * d ^ j) (10 * (n * 10 ^ b) ^ j) q
          (rw (mul_pow (10 ^ g) (d ^ j) q, mul_pow 10 ((n * 10 ^ b) ^ j) q, nn, dd, gg)
          (under (10 ^ (g * q)) (d ^ k) (10 ^ q) (n ^ k) (10 ^ (b * k)) (10 ^ x) (10 ^ (y + t))
          (rw one at xl) (rw one at yh)
          (rw (← (pow-add 10 (g * q) (y + t)), ← (pow-add 10 q x), ← (pow-add 10 (q + x) (b * k))) (ten_lt (g * q + (y + t)) (q + x + b * k) (omega arith))))),
      lt_root ((n * 10 ^ b) ^ j) (10 * 10 ^ g * d ^ j) q
          (rw (mul_pow (10 * 10 ^ g) (d ^ j) q, mul_pow 10 (10 ^ g) q, nn, dd, gg)
          (over (10 ^ (g * q)) (d ^ k) (10 ^ q) (n ^ k) (10 ^ (b * k)) (10 ^ (x + s)) (10 ^ y)
          (rw one at xh) (rw one at yl)
          (rw (← (pow-add 10 (x + s) (b * k)), ← (pow-add 10 q (g * q)), ← (pow-add 10 (q + g * q) y)) (ten_lt (x + s + b * k) (q + g * q + y) (omega arith))))),
    )
  where
    under : (G D Q N B X Y : ℕ) → X * 1 ≤ N → D ≤ Y * 1 → G * Y < Q * X * B → G * D < Q * (N * B)
    under G D Q N B X Y x y l = omega (arith, mul-le-mul_left (Q * B) x, mul-le-mul_left G y)

    over : (G D Q N B X Y : ℕ) → N ≤ X * 1 → Y * 1 ≤ D → X * B < Q * G * Y → N * B < Q * G * D
    over G D Q N B X Y x y l = omega (arith, mul-le-mul_right B x, mul-le-mul_left (Q * G) y)

-- the same with a whole exponent
whole : (j n d b g : ℕ) (z : ℤ) → Is z g (b * j) → (10 ^ g * d ^ j < 10 * (n * 10 ^ b) ^ j) × ((n * 10 ^ b) ^ j < 10 * 10 ^ g * d ^ j)
    → Above (pred_ℤ z) j n d × Below (suc_ℤ z) j n d
whole j n d b g z i w =
    let e : (n * 10 ^ b) ^ j ≡ n ^ j * 10 ^ (b * j) = mul_pow n (10 ^ b) j ∙ ap (λ (u : ℕ). n ^ j * u) (sym (pow_mul 10 b j)) in (
      above_by_lem (pred_ℤ z) j n d g (b * j + 1) (is_pred z g (b * j) i)
          (rw (pow-add 10 (b * j) 1) (omega (arith, rw e at w.0))),
      below_by (suc_ℤ z) j n d (g + 1) (b * j) (is_suc z g (b * j) i)
          (rw (pow-add 10 g 1) (omega (arith, rw e at w.1))),
    )

lowered : (g h : ℕ) → Is (pos g -ℤ pos h) g h
lowered g h = record { is = omega (arith, (is+ (is_pos g) (is_neg (is_pos h))).is) }

lowered_small : (g : ℕ) → g ≤ 40000000 → nat_abs (pos g -ℤ pos 20000000) ≤ 20000000
lowered_small g h = abs_by (pos g -ℤ pos 20000000) (search zs) 20000000 (omega arith) (omega arith)

pub log_small : (n d : ℕ) → 0 < n → n < 18446744073709551616 → nat_abs (log_of n d) ≤ 20000000
unfolding log_of
log_small n d o h = lowered_small (raised_log n d) (omega (arith, (lg_is n o h).most))

pub log_is : (n d : ℕ) → 0 < n → n < 18446744073709551616 → 0 < d → d < 18446744073709551616 → IsLog n d (log_of n d)
unfolding log_of
log_is n d n-some n-fits d-some d-fits =
    let p = lg_is n n-some n-fits in
    let q = lg_is d d-some d-fits in
    let x = lg_of n in
    let y = lg_of d in
    let w = quotient 1000000 10000 n d x y (x + 200000000000 - y) (raised_log n d) 20 1106 1106 5000 (lit< tt)
    p.low p.high q.low q.high (omega arith) (omega arith) (omega arith) (lit≤ tt) (lit< tt) in
    let r = whole 1000000 n d 20 (raised_log n d) (log_of n d) (lowered (raised_log n d) 20000000) w in
    record { ratio = d-some; above = r.0; below = r.1 }
