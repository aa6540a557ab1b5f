-- Signed numbers of 64 bits: which fit, and that they are read back.
use mathlib.Core.Path.{◌≡◌}
use Prim.Native.Nat.{◌^◌, ◌<◌}
use native.Mathlib.Omega.{arith}
use lib.IntN.{ℤ, nat_abs}
use lib.Signed.{mag}
use mir.Syntax.{w64}
use mir.Val.{SFits, to_z, of_z}
use mir.ValLaws.{to_z-of_z}
use Rattle.integer.specs.Laws.{mag_abs}

-- a number below 2^63 in size fits an i64
pub fits64 : (z : ℤ) → nat_abs z < 2 ^ 63 → SFits w64 z
fits64 z h = record { sfits = omega (arith, mag_abs z) }

-- the machine reads back a number that fits
pub back : {z : ℤ} → SFits w64 z → to_z w64 (of_z w64 z) ≡ z
back {z} f = to_z-of_z w64 z f

-- and a call's result, of which `.ok` says that it fits
pub back_ok : (z : ℤ) → mag z < 2 ^ 63 → to_z w64 (of_z w64 z) ≡ z
back_ok z f = to_z-of_z w64 z (record { sfits = f })
