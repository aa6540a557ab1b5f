-- What two values give before any property looks at them: 10 or 11 by their ranges, or the logarithms that the program takes.
use Rattle.std.specs.Prelude.{Bool, cond, ℕ, ℤ, Result, Ok, Err}
use Rattle.air.specs.declared.Logs.{Logs}
use Rattle.air.specs.Quantities.{within, is_pressure, is_density, is_energy}
use Rattle.air.specs.Choices.{chosen}
use Rattle.air.specs.Carried.{pressure_logs, energy_logs}

-- by whether the first and the second value are in range
abbrev pub taken : Bool → Bool → Logs → Result Logs ℕ
taken first second l = cond first (cond second (Ok l) (Err 11)) (Err 10)

-- the logarithm of a value over a standard, or the number that a value out of range gets
abbrev pub log_taken : ℕ → ℕ → ℕ → ℕ → ℕ → Result ℤ ℕ
log_taken least most standard n number = cond (within least most n) (Ok (chosen.log n standard)) (Err number)

-- a pressure and a density
abbrev pub pressure_taken : ℕ → ℕ → Result Logs ℕ
pressure_taken p d = taken (is_pressure p) (is_density d) (pressure_logs chosen p d)

-- an energy and a density
abbrev pub energy_taken : ℕ → ℕ → Result Logs ℕ
energy_taken e d = taken (is_energy e) (is_density d) (energy_logs chosen e d)
