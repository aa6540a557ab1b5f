-- Document 01, Quantities: where the ratio is a whole power of ten, free answer one leaves one choice. Assumes nothing.
use mathlib.Core.Path.{◌≡◌, sym, ap, ◌∙◌}
use Prim.Native.Nat.{ℕ, ◌+◌, ◌*◌, ◌^◌, ◌≤◌, ◌<◌}
use native.Mathlib.Nat.{lt_of_mul-lt-mul_right}
use native.Mathlib.Omega.{arith}
use lib.IntN.{ℤ, pos, pred_ℤ, suc_ℤ}
use lib.Pow.{pow-add}
use Rattle.integer.specs.Z.{up, dn, →≡}
use Rattle.fraction.specs.Tens.{Above, Below}
use Rattle.logarithm.specs.Log.{IsLog}
use Rattle.logarithm.proofs.Powers.{mul_pow, pow_mul, lt_of_ten}
use Rattle.logarithm.proofs.Range.{under, most}

-- the logarithm of a whole power of ten
exact : (K d k : ℕ) (l : ℤ) → Above (pred_ℤ l) K (d * 10 ^ k) d → Below (suc_ℤ l) K (d * 10 ^ k) d → l ≡ pos (k * K)
exact K d k l a b =
    →≡ (omega (arith, most K (d * 10 ^ k) d k l (le_refl (d * 10 ^ k)) a, under_power))
  where
    le_refl : (x : ℕ) → x ≤ x
    le_refl x = omega arith

    split : (d * 10 ^ k) ^ K ≡ d ^ K * 10 ^ (k * K)
    split = mul_pow d (10 ^ k) K ∙ ap (λ (e : ℕ). d ^ K * e) (sym (pow_mul 10 k K))

    step : (P Q D A : ℕ) → P * (D * A) < Q * D → P * A * D < Q * D
    step P Q D A h = omega arith

    under_power : dn l + k * K < up l + 1
    under_power =
        lt_of_ten (dn l + k * K) (up l + 1)
        (rw (pow-add 10 (dn l) (k * K))
        (lt_of_mul-lt-mul_right (d ^ K) (step (10 ^ dn l) (10 ^ (up l + 1)) (d ^ K) (10 ^ (k * K)) (rw split at (under K (d * 10 ^ k) d l b)))))

pub exact_power : (d k : ℕ) (l : ℤ) → IsLog (d * 10 ^ k) d l → l ≡ pos (k * 1000000)
exact_power d k l h = exact 1000000 d k l h.above h.below
