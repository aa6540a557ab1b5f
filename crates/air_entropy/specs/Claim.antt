-- Document 01, the exact entropy of demand 3, the same steps from the carried Y and Z with no rounding; and the claim on an entropy.
use Rattle.std.proofs.Math.Option.{some}
use Rattle.std.specs.Prelude.{◌≡◌, cond, ℕ, ◌*◌, ◌^◌, ℤ, pos, ◌*ℤ◌}
use Rattle.std.specs.Int.Signed.{le_z}
use Rattle.fraction.specs.Fraction.{Fraction, Within, over, whole, parts, plus, times}
use Rattle.bands.specs.Bands.{strip_of, band_of}
use Rattle.bicubic.specs.Exact.{exactly, exact_bicubic}
use Rattle.tgas2_entropy.specs.Entropy.{entropy_coefficients}
use Rattle.perfect.specs.Perfect.{R}
use Rattle.air.specs.declared.Logs.{Logs}
use Rattle.air.specs.Held.{Held}
use Rattle.air_entropy.specs.Entropy.{letter_s, rise}
use Rattle.air.specs.Carried.{EnergyLogs}
use Rattle.air.specs.Join.{exact_joined}

-- how far an entropy may be from the exact one, in units of 0.0001
abbrev pub entropy_distance : ℕ
entropy_distance = 3

-- the exact entropy at a place, in units of 0.0001
unfoldable pub exact_entropy_at : ℤ → ℤ → Fraction
exact_entropy_at y z =
    cond (le_z z (pos 650000))
    (plus (whole (pos 67792004)) (parts (2 * 10 ^ 10) (rise y z *ℤ pos R *ℤ pos 2302585)))
    (over (10 ^ 8) (times (whole (pos R)) (exact_bicubic (exactly (entropy_coefficients (band_of y))) y z)))

-- the exact entropy, joined in a strip
abbrev pub exact_entropy : ℤ → ℤ → Fraction
exact_entropy y z = exact_joined (strip_of y) (λ v. exact_entropy_at v z) y

pub record EntropyClaim (e d : ℕ) (h : Held) : Type 0 where
  pub logs : Logs
  pub value : ℤ
  pub no_refusal : h.number ≡ 0
  pub letter : h.letter ≡ letter_s
  pub carries : h.logs ≡ some logs
  pub shows : h.value ≡ some value
  pub taken : EnergyLogs e d logs
  pub near : Within entropy_distance value (exact_entropy logs.y logs.z)
