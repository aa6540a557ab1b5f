-- How large the numbers of a fit are, for the code that works it out.
use mathlib.Core.List.{List}
use Prim.Native.Nat.{◌^◌, ◌≤◌}
use native.Mathlib.Nat.{lt_of_le_of_lt, le_of_lt, le_trans}
use native.Mathlib.Omega.{arith}
use lib.Dec.{lit<, lit≤}
use lib.IntN.{ℤ, nat_abs}
use Rattle.quotient.specs.Range.{In, AllIn}
use Rattle.bicubic.specs.Bicubic.{bicubic}
use Rattle.bicubic.proofs.Size.{size, bicubic_size_all}
use Rattle.quotient.proofs.Machine.{all_at}

pub in_23 : (z : ℤ) → nat_abs z ≤ 7000000 → In 23 z
in_23 z h = record { size = omega (arith, h) }

pub in_25 : (z : ℤ) → nat_abs z ≤ 7000000 → In 25 z
in_25 z h = record { size = omega (arith, h) }

pub bicubic_54 : (k : List ℤ) (y z : ℤ) → AllIn 43 k → nat_abs y ≤ 7000000 → nat_abs z ≤ 5000000 → nat_abs (bicubic k y z) ≤ 2 ^ 54
unfolding size
bicubic_54 k y z h hy hz = le_trans (bicubic_size_all 7000000 5000000 y z hy hz k (2 ^ 43) (λ i. le_of_lt (all_at h i).size)) (lit≤ tt)

pub bicubic_in : (k : List ℤ) (y z : ℤ) → AllIn 43 k → nat_abs y ≤ 7000000 → nat_abs z ≤ 5000000 → In 57 (bicubic k y z)
bicubic_in k y z h hy hz = record { size = lt_of_le_of_lt (bicubic_54 k y z h hy hz) (lit< tt) }
