-- Document 01, Temperature, and request 1, its joins: what an answer for a pressure and a density holds.
use Rattle.std.specs.Prelude.{Bool, false, ◌||◌, ◌≡◌, None, ℕ, ℤ, pos}
use Rattle.std.specs.Int.Signed.{lt_z, shr_z}
use Rattle.power.specs.Power.{IsPower}
use Rattle.fit.specs.Fit.{Piece}
use Rattle.fit.specs.Exact.{in_units}
use Rattle.bands.specs.Bands.{band_of, strip_of}
use Rattle.bands.specs.Region.{temperature_index, region_of}
use Rattle.tgas1_temperature.specs.Pieces.{temperature_piece}
use Rattle.bands.specs.declared.Region.{Region}
use Rattle.bands.specs.declared.Region.TheVariants.{Refused, Perfect, Fitted}
use Rattle.perfect.specs.Perfect.{perfect_gas}
use Rattle.air.specs.declared.Logs.{Logs}
use Rattle.air.specs.declared.Edges.TheVariants.{Unfitted}
use Rattle.air.specs.Quantities.{T0}
use Rattle.air.specs.Held.{Held, judges, shows}
use Rattle.air.specs.Places.{Rule, IsFit}
use Rattle.air.specs.Carried.{PressureLogs}

-- the fitted piece that Y and Z choose
abbrev pub piece_at : ℤ → ℤ → Piece
piece_at y z = temperature_piece (band_of y) (temperature_index (band_of y) z)

-- the letter T
abbrev pub letter_t : ℕ
letter_t = 84

-- refusal 13: G below 0 or above 1.96
abbrev pub beyond_fit : ℤ → Bool
beyond_fit g = lt_z g (pos 0) || lt_z (pos 19600000000) g

-- g, the whole millionths in G, rounded down
abbrev pub whole_millionths : ℤ → ℤ
whole_millionths g = shr_z g 10000

-- free answer three: v is a temperature of G
pub record Raised (g v : ℤ) : Type 0 where
  pub kelvin : ℕ
  pub is : v ≡ pos kelvin
  pub power : IsPower T0 (whole_millionths g) kelvin

-- 12 and the perfect gas are told apart by Z before any piece
abbrev pub temperature_rule : Rule
temperature_rule =
    record {
      letter = letter_t;
      piece_at = λ y z. in_units (piece_at y z);
      beyond_logs = λ y z. false;
      logs_number = 12;
      beyond_fit = beyond_fit;
      fit_number = 13;
      IsValue = Raised;
    }

-- what may be held in a region: 12, the perfect gas, or the fit, which a strip joins
abbrev pub IsTemperatureIn : Region → ℕ → ℕ → Logs → Held → Type 0
IsTemperatureIn Refused p d l h = h ≡ judges 12 letter_t l Unfitted
IsTemperatureIn Perfect p d l h = h ≡ shows letter_t l Unfitted None (pos (perfect_gas p d))
IsTemperatureIn (Fitted b i) p d l h = IsFit temperature_rule (strip_of l.y) l h

-- what may be held for a pressure and a density in range: free are the two logarithms, and the weights and temperatures of a fit
pub record IsTemperature (p d : ℕ) (h : Held) : Type 0 where
  pub logs : Logs
  pub taken : PressureLogs p d logs
  pub is : IsTemperatureIn (region_of logs.y logs.z) p d logs h
