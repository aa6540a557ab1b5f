-- Above and below ten to a whole exponent, as comparisons of powers with natural exponents. Assumes nothing.
use mathlib.Core.Path.{◌≡◌, refl, sym, ap, ◌∙◌}
use Prim.Native.Nat.{ℕ, zero, suc, ◌+◌, ◌*◌, ◌^◌, ◌<◌}
use native.Mathlib.Nat.{mul-lt-mul_of_pos_left, lt_of_mul-lt-mul_left}
use native.Mathlib.Omega.{arith}
use lib.IntN.{ℤ, pos, negsuc, pred_ℤ, suc_ℤ}
use lib.Pow.{pow-add}
use Rattle.integer.specs.Z.{up, dn, Is}
use Rattle.logarithm.proofs.Powers.{ten_pos}
use Rattle.fraction.specs.Tens.{ten_top, ten_bottom, Above, Below}

top_is : (z : ℤ) → ten_top z ≡ 10 ^ up z
top_is (pos a) = refl
top_is (negsuc a) = refl

bottom_is : (z : ℤ) → ten_bottom z ≡ 10 ^ dn z
bottom_is (pos a) = refl
bottom_is (negsuc a) = refl

-- the exponents count by their difference alone
swap : (u v p q D N : ℕ) → u + q ≡ v + p → 10 ^ p * D < 10 ^ q * N → 10 ^ u * D < 10 ^ v * N
swap u v p q D N e l =
    lt_of_mul-lt-mul_left (10 ^ q)
    (cancel (10 ^ u) (10 ^ v) (10 ^ p) (10 ^ q) (sym (pow-add 10 u q) ∙ ap (λ (x : ℕ). 10 ^ x) e ∙ pow-add 10 v p) (ten_pos v) l)
  where
    cancel : (U W P Q : ℕ) → U * Q ≡ W * P → 0 < W → P * D < Q * N → Q * (U * D) < Q * (W * N)
    cancel U W P Q i o h = omega (arith, ap (λ (x : ℕ). x * D) i, mul-lt-mul_of_pos_left h o)

pub above_by_lem : (z : ℤ) (k n d p q : ℕ) → Is z p q → 10 ^ p * d ^ k < 10 ^ q * n ^ k → Above z k n d
unfolding Above
above_by_lem z k n d p q i h = rw (top_is z, bottom_is z) (swap (up z) (dn z) p q (d ^ k) (n ^ k) i.is h)

pub above_of : (z : ℤ) (k n d p q : ℕ) → Is z p q → Above z k n d → 10 ^ p * d ^ k < 10 ^ q * n ^ k
unfolding Above
above_of z k n d p q i h = swap p q (up z) (dn z) (d ^ k) (n ^ k) (omega (arith, i.is)) (rw (top_is z, bottom_is z) at h)

pub below_by : (z : ℤ) (k n d p q : ℕ) → Is z p q → 10 ^ q * n ^ k < 10 ^ p * d ^ k → Below z k n d
unfolding Below
below_by z k n d p q i h = rw (top_is z, bottom_is z) (swap (dn z) (up z) q p (n ^ k) (d ^ k) (omega (arith, i.is)) h)

pub below_of : (z : ℤ) (k n d p q : ℕ) → Is z p q → Below z k n d → 10 ^ q * n ^ k < 10 ^ p * d ^ k
unfolding Below
below_of z k n d p q i h = swap q p (dn z) (up z) (n ^ k) (d ^ k) (omega (arith, i.is)) (rw (top_is z, bottom_is z) at h)

-- one less and one more
pub is_pred : (z : ℤ) (p q : ℕ) → Is z p q → Is (pred_ℤ z) p (q + 1)
is_pred (pos zero) p q i = record { is = omega (arith, i.is) }
is_pred (pos (suc a)) p q i = record { is = omega (arith, i.is) }
is_pred (negsuc a) p q i = record { is = omega (arith, i.is) }

pub is_suc : (z : ℤ) (p q : ℕ) → Is z p q → Is (suc_ℤ z) (p + 1) q
is_suc (pos a) p q i = record { is = omega (arith, i.is) }
is_suc (negsuc zero) p q i = record { is = omega (arith, i.is) }
is_suc (negsuc (suc a)) p q i = record { is = omega (arith, i.is) }
