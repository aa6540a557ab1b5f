-- Where a taken logarithm lies, by where the ratio lies. Assumes nothing.
use Prim.Native.Nat.{ℕ, ◌+◌, ◌*◌, ◌^◌, ◌≤◌, ◌<◌}
use native.Mathlib.Nat.{pow-le-pow_left, mul-le-mul_left, lt_of_mul-lt-mul_right}
use native.Mathlib.Omega.{arith}
use lib.IntN.{ℤ, pos, negsuc, pred_ℤ, suc_ℤ}
use lib.Pow.{pow-add}
use Rattle.integer.specs.Z.{up, dn, is_var}
use Rattle.fraction.specs.Tens.{Above, Below}
use Rattle.logarithm.specs.Log.{IsLog}
use Rattle.logarithm.proofs.Powers.{mul_pow, pow_mul, lt_of_ten}
use Rattle.logarithm.proofs.Exponents.{above_of, below_of, is_pred, is_suc}

-- over a power K in place of the million
module _ (K n d : ℕ) (l : ℤ) where
  pub over : Above (pred_ℤ l) K n d → 10 ^ up l * d ^ K < 10 ^ (dn l + 1) * n ^ K
  over h = above_of (pred_ℤ l) K n d (up l) (dn l + 1) (is_pred l (up l) (dn l) (is_var l)) h

  pub under : Below (suc_ℤ l) K n d → 10 ^ dn l * n ^ K < 10 ^ (up l + 1) * d ^ K
  under h = below_of (suc_ℤ l) K n d (up l + 1) (dn l) (is_suc l (up l) (dn l) (is_var l)) h

-- d at most n * 10 ^ a: its power too, so that exponents compare
raised : (K n d a p q : ℕ) → d ≤ n * 10 ^ a → 10 ^ p * n ^ K < 10 ^ q * d ^ K → p < q + a * K
raised K n d a p q h l =
    lt_of_ten p (q + a * K)
    (rw (pow-add 10 q (a * K), pow_mul 10 a K)
    (lt_of_mul-lt-mul_right (n ^ K) (step (10 ^ p) (10 ^ q) (n ^ K) (d ^ K) ((10 ^ a) ^ K) l (rw (mul_pow n (10 ^ a) K) at (pow-le-pow_left h K)))))
  where
    step : (P Q N D A : ℕ) → P * N < Q * D → D ≤ N * A → P * N < Q * A * N
    step P Q N D A h k = omega (arith, mul-le-mul_left Q k)

least : (K n d a : ℕ) (l : ℤ) → d ≤ n * 10 ^ a → Below (suc_ℤ l) K n d → dn l < up l + 1 + a * K
least K n d a l h b = raised K n d a (dn l) (up l + 1) h (under K n d l b)

pub most : (K n d b : ℕ) (l : ℤ) → n ≤ d * 10 ^ b → Above (pred_ℤ l) K n d → up l < dn l + 1 + b * K
most K n d b l h a = raised K d n b (up l) (dn l + 1) h (over K n d l a)

down_only : (l : ℤ) (m : ℕ) → dn l < up l + 1 + m → dn l ≤ m
down_only (pos a) m h = omega arith
down_only (negsuc a) m h = omega arith

up_only : (l : ℤ) (m : ℕ) → up l < dn l + 1 + m → up l ≤ m
up_only (pos a) m h = omega arith
up_only (negsuc a) m h = omega arith

-- a ratio of at least 10 ^ -a has a logarithm of at least -a; of at most 10 ^ b, at most b
pub log_least : (n d a : ℕ) (l : ℤ) → d ≤ n * 10 ^ a → IsLog n d l → dn l ≤ a * 1000000
log_least n d a l h k = down_only l (a * 1000000) (least 1000000 n d a l h k.below)

pub log_most : (n d b : ℕ) (l : ℤ) → n ≤ d * 10 ^ b → IsLog n d l → up l ≤ b * 1000000
log_most n d b l h k = up_only l (b * 1000000) (most 1000000 n d b l h k.above)
