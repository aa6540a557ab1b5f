-- Two taken logarithms that lie close together belong to ratios that do. Assumes nothing.
use mathlib.Core.Path.{◌≡◌, ap}
use Prim.Native.Nat.{ℕ, ◌+◌, ◌*◌, ◌^◌, ◌≤◌, ◌<◌}
use native.Mathlib.Nat.{pow-le-pow_right, mul-le-mul, mul-le-mul_right, lt_of_mul-lt-mul_left}
use native.Mathlib.Omega.{arith}
use lib.Dec.{lit<}
use lib.IntN.{ℤ, pos, pred_ℤ, suc_ℤ, ◌-ℤ◌}
use lib.Pow.{pow-add}
use lib.Signed.{◌≤ℤ◌}
use Rattle.integer.specs.Z.{up, dn, zs, v, ≤-of}
use Rattle.fraction.specs.Tens.{Above, Below}
use Rattle.logarithm.specs.Log.{IsLog}
use Rattle.logarithm.proofs.Powers.{mul_pow, pow_mul, lt_root}
use Rattle.logarithm.proofs.Range.{over, under}

-- where the logarithms x of p / m and y of d / n differ by less than e, p / m over d / n is below ten to the e
below_power : (e K p m d n : ℕ) (x y : ℤ) → up x + dn y + 2 ≤ e * K + (dn x + up y) → Below (suc_ℤ x) K p m → Above (pred_ℤ y) K d n
    → p * n < 10 ^ e * m * d
below_power e K p m d n x y l b a =
    lt_root (p * n) (10 ^ e * m * d) K
    (rw (mul_pow p n K, mul_pow (10 ^ e * m) d K, mul_pow (10 ^ e) m K, ← (pow_mul 10 e K))
    (lt_of_mul-lt-mul_left (10 ^ (dn x + up y))
    (step (10 ^ dn x) (10 ^ up y) (10 ^ (up x + 1)) (10 ^ (dn y + 1)) (10 ^ (dn x + up y)) (10 ^ (e * K)) (p ^ K) (n ^ K) (m ^ K) (d ^ K) (pow-add 10 (dn x) (up y))
    (rw (← (pow-add 10 (up x + 1) (dn y + 1)), ← (pow-add 10 (e * K) (dn x + up y))) (pow-le-pow_right {n = 10} (lit< tt) (omega arith)))
    (under K p m x b) (over K d n y a))))
  where
    times : (a b c e : ℕ) → a < b → c < e → a * c < b * e
    times a b c e h k = omega (arith, mul-le-mul h k)

    step : (A B C E F T P N M D : ℕ) → F ≡ A * B → C * E ≤ T * F → A * P < C * M → B * N < E * D → F * (P * N) < F * (T * M * D)
    step A B C E F T P N M D i h u w =
        let s : A * P * (B * N) < C * M * (E * D) = times (A * P) (C * M) (B * N) (E * D) u w in
        omega (arith, ap (λ (z : ℕ). z * (P * N)) i, mul-le-mul_right (M * D) h)

pub ratio_small : (e c p m d n : ℕ) (x y : ℤ) → c + 2 ≤ e * 1000000 → IsLog p m x → IsLog d n y → (x -ℤ y) ≤ℤ pos c → p * n < 10 ^ e * m * d
ratio_small e c p m d n x y f h k l =
    let vx = v x in let vy = v y in
    let s : up x + dn y ≤ c + (dn x + up y) = omega (arith, ≤-of (search zs) l) in
    below_power e 1000000 p m d n x y (omega arith) h.below k.above
