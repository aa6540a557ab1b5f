-- The product of a fit.
use Rattle.std.specs.Prelude.{ℤ, ◌*ℤ◌}
use Rattle.std.specs.Int.Signed.{shr_z}

-- document 01, Quantities: mul, with the quotient rounded toward minus infinity
unfoldable pub mul : ℤ → ℤ → ℤ
mul a b = shr_z (a *ℤ b) 1000000
