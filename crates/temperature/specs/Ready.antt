-- What the steps of the answer may take for granted: where their numbers lie.
use Rattle.std.specs.Prelude.{◌≡◌, ℕ, T, ℤ}
use Rattle.bands.specs.declared.Band.{Band}
use Rattle.bands.specs.Bands.{band_of}
use Rattle.air.specs.declared.Logs.{Logs}
use Rattle.air.specs.Quantities.{is_density}
use Rattle.air.specs.Ready.{PlaceReady}
use Rattle.air.specs.Carried.{PressureLogs}

-- the band of Y, and where Y and Z lie
pub record FittedReady (b : Band) (y z : ℤ) : Type 0 where
  pub place : PlaceReady y z
  pub band : b ≡ band_of y

-- taken logarithms of a pressure and a density in range
pub record TemperatureReady (p d : ℕ) (l : Logs) : Type 0 where
  pub density : T (is_density d)
  pub taken : PressureLogs p d l
