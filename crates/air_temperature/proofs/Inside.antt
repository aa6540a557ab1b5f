-- An accepted state's Z lies in the window.
use mathlib.Core.Bool.{true, not}
use mathlib.Core.Path.{◌≡◌, subst}
use Prim.Native.Nat.{ℕ}
use lib.Dec.{T}
use Rattle.bands.specs.Region.{beyond_window}
use Rattle.bands.specs.declared.Region.TheVariants.{Refused}
use Rattle.air.specs.declared.Logs.{Logs}
use Rattle.air.specs.Held.{Held}
use Rattle.air_temperature.specs.Temperature.{IsTemperatureIn}
use Rattle.air_temperature.specs.Property.{temperature_property}
use Rattle.air.specs.Property.{refuses_logs, AcceptedBy}
use Rattle.air.proofs.Tests.{no_true}

pub inside : (p d : ℕ) (l : Logs) (h : Held) → AcceptedBy temperature_property p d h → beyond_window l.z ≡ true → IsTemperatureIn Refused p d l h → ⊥
inside p d l h ok e₁ s = no_true e₁ (subst (λ (x : Held). T (not (refuses_logs temperature_property x.logs))) s ok.by_logs_lem)
