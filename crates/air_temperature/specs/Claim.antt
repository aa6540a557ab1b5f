-- Demand 3's claim on a temperature, for n series terms.
use Rattle.std.proofs.Math.Option.{some}
use Rattle.std.specs.Prelude.{◌≡◌, ℕ, ℤ, pos, ◌+ℤ◌, ◌-ℤ◌, ◌≤ℤ◌, ◌<ℤ◌}
use Rattle.fraction.specs.Fraction.{Fraction, over, floor}
use Rattle.fraction.specs.Tens.{Above, Below}
use Rattle.bands.specs.Bands.{strip_of}
use Rattle.perfect.specs.Perfect.{perfect_gas}
use Rattle.fit.specs.Exact.{in_units, exact_fit}
use Rattle.air.specs.declared.Logs.{Logs}
use Rattle.air.specs.Quantities.{T0}
use Rattle.air.specs.Held.{Held}
use Rattle.air.specs.Places.{FitClaim}
use Rattle.air_temperature.specs.Temperature.{letter_t, temperature_rule, piece_at}
use Rattle.air.specs.Carried.{PressureLogs}

-- request 4: how far a fitted temperature's exponent, in a join each edge's, may be from the exact fit, in units of 10^-10
abbrev pub fit_distance : ℕ
fit_distance = 4000

-- the exact fit of a temperature for n terms, in units of 10^-10, of the piece that Y and Z choose
abbrev pub exact_temperature_fit : ℕ → ℤ → ℤ → Fraction
exact_temperature_fit n y z = exact_fit (in_units (piece_at y z)) n y z

-- k of demand 3: the whole millionths of an exact fit, rounded down; a millionth is 10,000 units
abbrev pub exact_millionths : Fraction → ℤ
exact_millionths f = floor (over 10000 f)

-- the millionth power of t / T0 strictly between ten to k - 2 and ten to k + 3
pub record Between (k : ℤ) (t : ℕ) : Type 0 where
  pub above : Above (k -ℤ pos 2) 1000000 t T0
  pub below : Below (k +ℤ pos 3) 1000000 t T0

-- a temperature of the exact fit f
pub record KelvinClaim (f : Fraction) (g v : ℤ) : Type 0 where
  pub kelvin : ℕ
  pub is : v ≡ pos kelvin
  pub between : Between (exact_millionths f) kelvin

-- a temperature is fitted where its carried Z is above 250,000, and joined where its carried Y is then in a strip (request 1)
pub record TemperatureClaim (n p d : ℕ) (h : Held) : Type 0 where
  pub logs : Logs
  pub value : ℤ
  pub no_refusal : h.number ≡ 0
  pub letter : h.letter ≡ letter_t
  pub carries : h.logs ≡ some logs
  pub shows : h.value ≡ some value
  pub taken : PressureLogs p d logs
  pub perfect : logs.z ≤ℤ pos 250000 → value ≡ pos (perfect_gas p d)
  pub fitted : pos 250000 <ℤ logs.z → FitClaim fit_distance n temperature_rule KelvinClaim (strip_of logs.y) logs h
