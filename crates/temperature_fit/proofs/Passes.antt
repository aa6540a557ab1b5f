-- A fit that 13 lets through, and how large its temperature is.
use mathlib.Core.Bool.{false, true≢false}
use mathlib.Core.Path.{◌≡◌, refl, sym, subst}
use Prim.Native.Nat.{ℕ, ◌/◌, ◌^◌, ◌≤◌}
use native.Mathlib.Nat.{le_of_lt, lt_of_le_of_lt, div-le_of_le-mul}
use native.Mathlib.Omega.{arith}
use lib.Dec.{T, lit<}
use lib.IntN.{ℤ, pos, negsuc, nat_abs}
use lib.Signed.{lt_z, shr_z, non_neg}
use Rattle.integer.specs.Z.{≤→}
use Rattle.integer.specs.Tests.{test_not_lt}
use Rattle.power.specs.Choice.{power_of}
use Rattle.power.proofs.Kelvin.{power_small}
use Rattle.quotient.specs.Range.{In}
use Rattle.air.specs.Choices.{chosen}
use Rattle.air_temperature.specs.Temperature.{beyond_fit}
use Rattle.air_temperature.specs.Property.{kelvin_by}
use Rattle.air.proofs.Tests.{or_right}

pub record Passes (g : ℤ) : Type 0 where
  pub plain : T (non_neg g)
  pub most : nat_abs g ≤ 19600000000
  pub millionths : nat_abs (shr_z g 10000) ≡ nat_abs g / 10000

pub passes : (g : ℤ) → beyond_fit g ≡ false → Passes g
passes (pos n) e = record { plain = tt; most = omega (arith, ≤→ (test_not_lt {a = pos 19600000000} {b = pos n} (or_right (lt_z (pos n) (pos 0)) (lt_z (pos 19600000000) (pos n)) e))); millionths = refl }
passes (negsuc n) e = absurd (true≢false e)

pub kelvin_range : (g : ℤ) → Passes g → nat_abs g / 10000 ≤ 1960000
kelvin_range g h = div-le_of_le-mul 10000 (omega (arith, h.most))

pub kelvin_most : (g : ℤ) → beyond_fit g ≡ false → nat_abs (kelvin_by chosen g) ≤ 2 ^ 43
kelvin_most g e =
    let p = passes g e in
    subst (λ (n : ℕ). power_of n ≤ 2 ^ 43) (sym p.millionths) (le_of_lt (power_small (nat_abs g / 10000) (kelvin_range g p)))

pub fit_in_57 : (g : ℤ) → beyond_fit g ≡ false → In 57 g
fit_in_57 g e = record { size = omega (arith, (passes g e).most) }

pub kelvin_in : (g : ℤ) → beyond_fit g ≡ false → In 57 (kelvin_by chosen g)
kelvin_in g e = record { size = lt_of_le_of_lt (kelvin_most g e) (lit< tt) }
