-- Document 02, request 3: what an answer for an energy and a density holds where pressure is wanted.
-- gamma is in units of 10^-10, a pressure in micropascal.
use Rattle.std.specs.Prelude.{Bool, ◌||◌, ◌≡◌, ℕ, ◌^◌, ℤ, pos, ◌-ℤ◌, ◌*ℤ◌}
use Rattle.std.specs.Int.Signed.{le_z, lt_z, shr_z}
use Rattle.fit.specs.Fit.{Piece, near_zero}
use Rattle.fit.specs.Exact.{in_units}
use Rattle.bands.specs.Bands.{band_of, strip_of}
use Rattle.tgas1_gamma.specs.Gamma.{gamma_piece, gamma_limit}
use Rattle.air.specs.declared.Logs.{Logs}
use Rattle.air.specs.Held.{Held}
use Rattle.air.specs.Join.{any_place}
use Rattle.air.specs.Places.{Rule, IsFit}
use Rattle.air.specs.Carried.{EnergyLogs}

-- the letter P
abbrev pub letter_p : ℕ
letter_p = 80

-- the piece that Y and Z choose
abbrev pub gamma_at : ℤ → ℤ → Piece
gamma_at y z = gamma_piece (band_of y) z

-- the listing would warn: Z above the limit of Y's band
abbrev pub is_warned : ℤ → ℤ → Bool
is_warned y z = lt_z (gamma_limit (band_of y)) z

-- refusal 17 by the logarithms, at a place: a warning, or a minus transition whose exponent is less than 0.05 from zero
abbrev pub beyond_gamma_logs : ℤ → ℤ → Bool
beyond_gamma_logs y z = is_warned y z || near_zero (gamma_at y z) y z

-- in a strip at either edge
abbrev pub beyond_pressure : Logs → Bool
beyond_pressure l = any_place (strip_of l.y) (λ v. beyond_gamma_logs v l.z) l.y

-- refusal 17 by gamma: not above 1.01, or 2 or more
abbrev pub beyond_gamma : ℤ → Bool
beyond_gamma g = le_z g (pos 10100000000) || le_z (pos 20000000000) g

-- the pressure of a gamma, with the state's own D and E wherever the gamma was taken
unfoldable pub pressure_of : ℕ → ℕ → ℤ → ℤ
pressure_of e d g = shr_z (pos d *ℤ pos e *ℤ (g -ℤ pos (10 ^ 10))) (10 ^ 18)

-- gamma and what refuses; a pressure follows from it
abbrev pub pressure_rule : ℕ → ℕ → Rule
pressure_rule e d =
    record {
      letter = letter_p;
      piece_at = λ y z. in_units (gamma_at y z);
      beyond_logs = beyond_gamma_logs;
      logs_number = 17;
      beyond_fit = beyond_gamma;
      fit_number = 17;
      IsValue = λ g v. v ≡ pressure_of e d g;
    }

-- what may be held for an energy and a density in range: free are the two logarithms, taken as for entropy, and the weights
pub record IsPressureOf (e d : ℕ) (h : Held) : Type 0 where
  pub logs : Logs
  pub taken : EnergyLogs e d logs
  pub is : IsFit (pressure_rule e d) (strip_of logs.y) logs h
