-- What lawful choices make of a pressure and a density in range may be held.
use mathlib.Core.Bool.{not}
use mathlib.Core.Path.{refl}
use Prim.Native.Nat.{ℕ, ◌/◌, ◌≤◌}
use native.Mathlib.Nat.{div-le_of_le-mul}
use native.Mathlib.Omega.{arith}
use lib.Dec.{T}
use lib.IntN.{ℤ, pos, negsuc}
use lib.Signed.{lt_z, lt_z_no}
use Rattle.integer.specs.Z.{≤→}
use Rattle.fit.specs.Edge.{ServedAt}
use Rattle.fit.proofs.Pieces.{all_plus, served_in}
use Rattle.bands.specs.declared.Region.{Region}
use Rattle.bands.specs.declared.Region.TheVariants.{Refused, Perfect, Fitted}
use Rattle.bands.specs.Region.{temperature_index, region_of}
use Rattle.bands.specs.declared.Band.{Band}
use Rattle.bands.specs.declared.Band.TheVariants.{Low, Middle, High}
use Rattle.bands.specs.Bands.{band_of, strip_of}
use Rattle.tgas1_temperature_low.specs.Pieces.{low_pieces}
use Rattle.tgas1_temperature_middle.specs.Pieces.{middle_pieces}
use Rattle.tgas1_temperature_high.specs.Pieces.{high_pieces}
use Rattle.tgas1_temperature.specs.Pieces.{temperature_pieces, temperature_piece}
use Rattle.air.specs.declared.Logs.{Logs}
use Rattle.air.specs.Quantities.{is_pressure, is_density}
use Rattle.air_temperature.specs.Temperature.{beyond_fit, Raised, temperature_rule, IsTemperatureIn, IsTemperature}
use Rattle.air.specs.Choices.{Choices, Lawful}
use Rattle.air.specs.Carried.{pressure_logs}
use Rattle.air_temperature.specs.Property.{kelvin_by, temperature_at, temperature_by}
use Rattle.air.proofs.Tests.{not_right}
use Rattle.air.proofs.Places.{each_place, ServesAt, fitted_allowed}
use Rattle.air.proofs.Lawful.{pressure_logs_lem}

-- what a G that 13 lets through makes
raised : (c : Choices) → Lawful c → (g : ℤ) → T (not (beyond_fit g)) → Raised g (kelvin_by c g)
raised c law (pos g) t =
    let h : g ≤ 19600000000 = omega (arith, ≤→ (lt_z_no {a = pos 19600000000} {b = pos g} (not_right (lt_z (pos g) (pos 0)) (lt_z (pos 19600000000) (pos g)) t))) in
    record { kelvin = c.power (g / 10000); is = refl; power = law.power (g / 10000) (div-le_of_le-mul 10000 (omega arith)) }
raised c law (negsuc g) t = absurd t

-- no temperature piece has a minus transition
plus_only : (b : Band) → T (all_plus (temperature_pieces b))
unfolding all_plus low_pieces middle_pieces high_pieces
plus_only Low = tt
plus_only Middle = tt
plus_only High = tt

pub served_at : (b : Band) (i : ℕ) (y z : ℤ) → ServedAt (temperature_piece b i) y z
served_at b i y z = served_in (temperature_pieces b) (plus_only b) i y z

module _ (c : Choices) (law : Lawful c) where
  in_region : (r : Region) (p d : ℕ) (l : Logs) → IsTemperatureIn r p d l (temperature_at c r p d l)
  in_region Refused p d l = refl
  in_region Perfect p d l = refl
  in_region (Fitted b i) p d l =
      fitted_allowed c law temperature_rule (kelvin_by c) (raised c law) (strip_of l.y) l
      (each_place (strip_of l.y) (ServesAt temperature_rule l.z) (λ v t. served_at (band_of v) (temperature_index (band_of v) l.z) v l.z) l.y)

  pub is_temperature : (p d : ℕ) → T (is_pressure p) → T (is_density d) → IsTemperature p d (temperature_by c p d (pressure_logs c p d))
  unfolding temperature_by
  is_temperature p d a b =
      let l : Logs = pressure_logs c p d in
      record { logs = l; taken = pressure_logs_lem c law p d a b; is = in_region (region_of l.y l.z) p d l }
