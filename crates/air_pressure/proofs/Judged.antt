-- A pressure is judged by its rule.
use Prim.Native.Nat.{ℕ}
use Rattle.bands.specs.Bands.{strip_of}
use Rattle.air.specs.declared.Logs.{Logs}
use Rattle.air_pressure.specs.Pressure.{pressure_rule}
use Rattle.air_pressure.specs.Property.{pressure_property}
use Rattle.air.proofs.Places.{Judges}

-- the property's tests are its rule's
pub judged : (e d : ℕ) (l : Logs) → Judges pressure_property (pressure_rule e d) (strip_of l.y) l
judged e d l = record { by_logs_lem = λ t. t; by_fit_lem = λ e t. t; logs_alone = λ t. t; fit_alone = λ e t. t }
