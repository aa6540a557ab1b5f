-- What the comparisons say at exact places: the ratio 1 beside powers of ten, and a whole number beside 0. Assumes nothing.
use Prim.Native.Nat.{ℕ, suc, ◌^◌, ◌<◌}
use native.Mathlib.Nat.{one-le-pow}
use native.Mathlib.Omega.{arith}
use lib.IntN.{pos, negsuc}
use Rattle.integer.specs.Z.{zs, ≤-by, ≤-of}
use Rattle.fraction.specs.Fraction.{Within, whole, whole_proper}
use Rattle.fraction.specs.Tens.{Above, Below}
use Rattle.fraction.proofs.Order.{ten_le}

-- the ratio 1 is above every negative power of ten and below every positive one
pub one_above : (a k n : ℕ) → 0 < n → Above (negsuc a) k n n
unfolding Above
one_above a k n h = omega (arith, ten_le 1 (suc a) (n ^ k) (omega arith), one-le-pow k n h)

pub one_below : (a k n : ℕ) → 0 < n → Below (pos (suc a)) k n n
unfolding Below
one_below a k n h = omega (arith, ten_le 1 (suc a) (n ^ k) (omega arith), one-le-pow k n h)

-- it is neither above nor below ten to 0
pub one_not_above : (k n : ℕ) → Above (pos 0) k n n → ⊥
unfolding Above
one_not_above k n h = omega arith

pub one_not_below : (k n : ℕ) → Below (pos 0) k n n → ⊥
unfolding Below
one_not_below k n h = omega arith

-- k is within k of 0, and k + 1 is not
pub reaches : (k : ℕ) → Within k (pos k) (whole (pos 0))
reaches k = record { proper = whole_proper (pos 0); low = ≤-by (search zs) (omega arith); high = ≤-by (search zs) (omega arith) }

pub reaches_no_further : (k : ℕ) → Within k (pos (suc k)) (whole (pos 0)) → ⊥
reaches_no_further k h = omega (arith, ≤-of (search zs) h.low)
