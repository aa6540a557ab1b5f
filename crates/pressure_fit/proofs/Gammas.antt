-- A gamma that 17 lets through, and how large its pressure is.
use mathlib.Core.Bool.{false, true≢false}
use mathlib.Core.Path.{◌≡◌}
use Prim.Native.Nat.{ℕ, ◌-◌, ◌*◌, ◌/◌, ◌^◌, ◌≤◌, ◌<◌}
use native.Mathlib.Omega.{arith}
use lib.IntN.{ℤ, pos, negsuc, nat_abs, ◌-ℤ◌}
use lib.Signed.{le_z}
use Rattle.integer.specs.Z.{zs, <→, ≡-by}
use Rattle.integer.specs.Tests.{test_not_le}
use Rattle.digits.proofs.Product.{pressure_most}
use Rattle.air_pressure.specs.Pressure.{beyond_gamma, pressure_of}
use Rattle.air.proofs.Tests.{or_left, or_right}

-- gamma - 1 in units
pub record Passes (g : ℤ) : Type 0 where
  pub above : ℕ
  pub is : g -ℤ pos 10000000000 ≡ pos above
  pub most : above ≤ 10000000000

pub passes : (g : ℤ) → beyond_gamma g ≡ false → Passes g
passes (pos n) e =
    let l : 10100000000 < n = omega (arith, <→ (test_not_le {a = pos n} {b = pos 10100000000} (or_left (le_z (pos n) (pos 10100000000)) (le_z (pos 20000000000) (pos n)) e))) in
    let m : n < 20000000000 = omega (arith, <→ (test_not_le {a = pos 20000000000} {b = pos n} (or_right (le_z (pos n) (pos 10100000000)) (le_z (pos 20000000000) (pos n)) e))) in
    record { above = n - 10000000000; is = ≡-by (search zs) (omega arith); most = omega arith }
passes (negsuc n) e = absurd (true≢false e)

-- its pressure, in naturals
pub pressure_is : (e d : ℕ) (g : ℤ) (p : Passes g) → pressure_of e d g ≡ pos (d * e * p.above / 10 ^ 18)
unfolding pressure_of
pressure_is e d g p = rw p.is

-- at most 10^4 times a density, for energies in range
pub pressure_small : (e d k : ℕ) (g : ℤ) → e ≤ 10 ^ 12 → d ≤ k → beyond_gamma g ≡ false → nat_abs (pressure_of e d g) ≤ k * 10 ^ 4
pressure_small e d k g h l t = let p = passes g t in rw (pressure_is e d g p) (pressure_most d e p.above k l h p.most)
