-- The engine's definitions at exact places, and how the properties' pins write logarithms and edges.
use mathlib.Core.Bool.{true, false}
use Rattle.std.specs.Prelude.{Option, Some, None}
use mathlib.Core.Path.{◌≡◌, refl}
use mathlib.Core.Option.{none}
use lib.IntN.{ℤ}
use Rattle.fit.specs.declared.Edge.{Edge}
use Rattle.air.specs.declared.Ends.{Ends}
use Rattle.air.specs.declared.Logs.{Logs}
use Rattle.air.specs.Quantities.{P0, D0, E0, is_pressure, is_density, is_energy}
use Rattle.air.specs.Property.{Property, refuses_logs}

abbrev pub logs : ℤ → ℤ → ℤ → Logs
logs x y z = record { x = Some x; y = y; z = z }

-- Y and Z alone
abbrev pub pair : ℤ → ℤ → Logs
pair y z = record { x = None; y = y; z = z }

abbrev pub edge : ℤ → ℤ → Edge
edge g w = record { fit = g; weight = w }

-- the values at a join's edges
abbrev pub ends : ℤ → ℤ → Option Ends
ends a b = Some (record { low = a; high = b })

-- ---- the standards are in range, so that demand 3 speaks of some state
pub record Standards : Type 0 where
  pub pressure : is_pressure P0 ≡ true
  pub density : is_density D0 ≡ true
  pub energy : is_energy E0 ≡ true

pub standards : Standards
standards = record { pressure = refl; density = refl; energy = refl }

-- ---- an answer that holds no logarithms is not refused by them
pub no_logs_refused : (k : Property) → refuses_logs k none ≡ false
no_logs_refused k = refl
