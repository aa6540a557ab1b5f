-- The logarithms that an answer carries: what may stand there for two values, and what choices make. Every property takes one of these.
use Rattle.std.specs.Prelude.{◌≡◌, Some, None, ℕ, ℤ, ◌-ℤ◌}
use Rattle.logarithm.specs.Log.{IsLog}
use Rattle.air.specs.declared.Logs.{Logs}
use Rattle.air.specs.Quantities.{P0, D0, E0}
use Rattle.air.specs.Choices.{Choices}

-- Y of the density, X of the pressure, Z their difference
pub record PressureLogs (p d : ℕ) (l : Logs) : Type 0 where
  pub x : ℤ
  pub carries_x : l.x ≡ Some x
  pub x_log : IsLog p P0 x
  pub y : IsLog d D0 l.y
  pub z : l.z ≡ x -ℤ l.y

-- Y of the density, Z of the energy, no X
pub record EnergyLogs (e d : ℕ) (l : Logs) : Type 0 where
  pub y : IsLog d D0 l.y
  pub z : IsLog e E0 l.z
  pub x : l.x ≡ None

-- what choices make
abbrev pub pressure_logs : Choices → ℕ → ℕ → Logs
pressure_logs c p d = record { x = Some (c.log p P0); y = c.log d D0; z = c.log p P0 -ℤ c.log d D0 }

abbrev pub energy_logs : Choices → ℕ → ℕ → Logs
energy_logs c e d = record { x = None; y = c.log d D0; z = c.log e E0 }
