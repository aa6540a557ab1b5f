-- This program's choices are lawful, and lawful choices take logarithms that may be carried.
use mathlib.Core.Bool.{◌&&◌}
use mathlib.Core.Path.{refl}
use Prim.Native.Nat.{ℕ, ◌^◌, ◌≤◌, ◌<◌}
use native.Mathlib.Omega.{arith}
use lib.Dec.{T, leb, leb→le, lit<}
use Rattle.logarithm.specs.Log.{IsLog}
use Rattle.logarithm.proofs.Ratios.{log_is}
use Rattle.power.proofs.Kelvin.{power_is}
use Rattle.weight.proofs.Either.{choice_is}
use Rattle.air.specs.Quantities.{P0, D0, E0, is_pressure, is_density, is_energy}
use Rattle.air.specs.Carried.{PressureLogs, EnergyLogs, pressure_logs, energy_logs}
use Rattle.air.specs.Choices.{Choices, Lawful, chosen}
use Rattle.air.proofs.Tests.{and_left, and_right}

-- this program's choices are lawful
pub lawful : Lawful chosen
lawful = record { log = log_is; weight = choice_is; power = power_is }

module _ (c : Choices) (law : Lawful c) where
  log_in : (least most d n : ℕ) → T (leb least n && leb n most) → 0 < least → most < 2 ^ 64 → 0 < d → d < 2 ^ 64 → IsLog n d (c.log n d)
  log_in least most d n t a b e f =
      let lo : least ≤ n = leb→le least n (and_left (leb least n) (leb n most) t) in
      let hi : n ≤ most = leb→le n most (and_right (leb least n) (leb n most) t) in
      law.log n d (omega arith) (omega arith) e f

  density_log : (d : ℕ) → T (is_density d) → IsLog d D0 (c.log d D0)
  density_log d t = log_in _ _ D0 d t (lit< tt) (lit< tt) (lit< tt) (lit< tt)

  pub pressure_logs_lem : (p d : ℕ) → T (is_pressure p) → T (is_density d) → PressureLogs p d (pressure_logs c p d)
  pressure_logs_lem p d a b = record { x = c.log p P0; carries_x = refl; x_log = log_in _ _ P0 p a (lit< tt) (lit< tt) (lit< tt) (lit< tt); y = density_log d b; z = refl }

  pub energy_logs_lem : (e d : ℕ) → T (is_energy e) → T (is_density d) → EnergyLogs e d (energy_logs c e d)
  energy_logs_lem e d a b = record { y = density_log d b; z = log_in _ _ E0 e a (lit< tt) (lit< tt) (lit< tt) (lit< tt); x = refl }
