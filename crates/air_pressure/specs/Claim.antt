-- Demand 3's claim on a pressure, for n series terms.
use Rattle.std.proofs.Math.Option.{some}
use Rattle.std.specs.Prelude.{◌≡◌, ℕ, ℤ}
use Rattle.bands.specs.Bands.{strip_of}
use Rattle.air.specs.declared.Logs.{Logs}
use Rattle.air.specs.Held.{Held}
use Rattle.air.specs.Places.{FitClaim}
use Rattle.air.specs.Carried.{EnergyLogs}
use Rattle.air_pressure.specs.Pressure.{letter_p, pressure_of, pressure_rule}

-- request 3: how far gamma may be from the exact fit, in units of 10^-10
abbrev pub gamma_distance : ℕ
gamma_distance = 100000

-- request 3: gamma at each place, and the pressure that it makes
pub record PressureClaim (n e d : ℕ) (h : Held) : Type 0 where
  pub logs : Logs
  pub value : ℤ
  pub no_refusal : h.number ≡ 0
  pub letter : h.letter ≡ letter_p
  pub carries : h.logs ≡ some logs
  pub shows : h.value ≡ some value
  pub taken : EnergyLogs e d logs
  pub fitted : FitClaim gamma_distance n (pressure_rule e d) (λ f g v. v ≡ pressure_of e d g) (strip_of logs.y) logs h
