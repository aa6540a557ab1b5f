-- A bicubic of one coefficient is that coefficient.
use mathlib.Core.List.{[], ◌∷◌}
use mathlib.Core.Path.{◌≡◌}
use lib.IntN.{ℤ, pos, +ℤ_idr, zero-*ℤ}
use Rattle.quotient.specs.Mul.{mul}
use Rattle.bicubic.specs.Bicubic.{gas1, gas2, gas3, gas4, bicubic}

none : (k : ℤ) → mul (pos 0) k ≡ pos 0
unfolding mul
none k = rw (zero-*ℤ k)

pub constant_is : (g y z : ℤ) → bicubic (g ∷ []) y z ≡ g
unfolding bicubic gas1 gas2 gas3 gas4
constant_is g y z = simp (none, +ℤ_idr)
