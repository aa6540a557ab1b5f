-- What choices make of an energy and a density where pressure is wanted, and pressure as a property.
use Rattle.std.specs.Prelude.{ℕ}
use Rattle.bands.specs.Bands.{strip_of}
use Rattle.air.specs.declared.Logs.{Logs}
use Rattle.air.specs.Quantities.{is_density, is_energy}
use Rattle.air.specs.Held.{Held}
use Rattle.air.specs.Places.{fitted_by}
use Rattle.air_pressure.specs.Pressure.{pressure_of, pressure_rule, beyond_pressure, beyond_gamma, IsPressureOf}
use Rattle.air_pressure.specs.Claim.{PressureClaim}
use Rattle.air.specs.Choices.{Choices}
use Rattle.air.specs.Property.{Property}
use Rattle.air.specs.Carried.{energy_logs}

unfoldable pub pressure_by : Choices → ℕ → ℕ → Logs → Held
pressure_by c e d l = fitted_by c (pressure_rule e d) (pressure_of e d) (strip_of l.y) l

abbrev pub pressure_property : Property
pressure_property =
    record {
      is_first = is_energy;
      is_second = is_density;
      second_number = 11;
      by_logs = beyond_pressure;
      by_fit = λ e. beyond_gamma e.fit;
      Is = λ e d h. IsPressureOf e d h;
      make = λ c e d. pressure_by c e d (energy_logs c e d);
      Claim = λ n e d h. PressureClaim n e d h;
    }
