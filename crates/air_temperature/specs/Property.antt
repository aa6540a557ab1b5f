-- What choices make of a pressure and a density, and temperature as a property.
use Rattle.std.specs.Prelude.{None, ℕ, ℤ, pos, nat_abs}
use Rattle.bands.specs.Bands.{strip_of}
use Rattle.bands.specs.declared.Region.{Region}
use Rattle.bands.specs.declared.Region.TheVariants.{Refused, Perfect, Fitted}
use Rattle.bands.specs.Region.{region_of, beyond_window}
use Rattle.perfect.specs.Perfect.{perfect_gas}
use Rattle.air.specs.declared.Logs.{Logs}
use Rattle.air.specs.declared.Edges.TheVariants.{Unfitted}
use Rattle.air.specs.Quantities.{is_pressure, is_density}
use Rattle.air.specs.Held.{Held, judges, shows}
use Rattle.air.specs.Places.{fitted_by}
use Rattle.air_temperature.specs.Temperature.{letter_t, IsTemperature, beyond_fit, whole_millionths, temperature_rule}
use Rattle.air_temperature.specs.Claim.{TemperatureClaim}
use Rattle.air.specs.Choices.{Choices}
use Rattle.air.specs.Property.{Property}
use Rattle.air.specs.Carried.{pressure_logs}

-- the temperature that a G makes
abbrev pub kelvin_by : Choices → ℤ → ℤ
kelvin_by c g = pos (c.power (nat_abs (whole_millionths g)))

abbrev pub temperature_at : Choices → Region → ℕ → ℕ → Logs → Held
temperature_at c Refused p d l = judges 12 letter_t l Unfitted
temperature_at c Perfect p d l = shows letter_t l Unfitted None (pos (perfect_gas p d))
temperature_at c (Fitted b i) p d l = fitted_by c temperature_rule (kelvin_by c) (strip_of l.y) l

unfoldable pub temperature_by : Choices → ℕ → ℕ → Logs → Held
temperature_by c p d l = temperature_at c (region_of l.y l.z) p d l

abbrev pub temperature_property : Property
temperature_property =
    record {
      is_first = is_pressure;
      is_second = is_density;
      second_number = 11;
      by_logs = λ l. beyond_window l.z;
      by_fit = λ e. beyond_fit e.fit;
      Is = λ p d h. IsTemperature p d h;
      make = λ c p d. temperature_by c p d (pressure_logs c p d);
      Claim = λ n p d h. TemperatureClaim n p d h;
    }
