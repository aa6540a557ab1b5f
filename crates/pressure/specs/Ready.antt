-- What the steps of the answer may take for granted.
use Rattle.std.specs.Prelude.{ℕ, T}
use Rattle.air.specs.declared.Logs.{Logs}
use Rattle.air.specs.Quantities.{is_energy, is_density}
use Rattle.air.specs.Carried.{EnergyLogs}

-- taken logarithms of an energy and a density in range
pub record PressureReady (e d : ℕ) (l : Logs) : Type 0 where
  pub energy : T (is_energy e)
  pub density : T (is_density d)
  pub taken : EnergyLogs e d l
