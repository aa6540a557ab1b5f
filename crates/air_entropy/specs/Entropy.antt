-- Document 01, Entropy: what an answer for an energy and a density holds. s is in units of 0.0001 J/(kg K).
use Rattle.std.specs.Prelude.{Bool, cond, ◌≡◌, Option, None, ℕ, ◌*◌, ◌^◌, ℤ, pos, ◌+ℤ◌, ◌-ℤ◌, ◌*ℤ◌}
use Rattle.std.specs.Int.Signed.{le_z, lt_z, shr_z}
use Rattle.bicubic.specs.Bicubic.{bicubic}
use Rattle.bands.specs.declared.Strip.{Strip}
use Rattle.bands.specs.Bands.{band_of, strip_of}
use Rattle.tgas2_entropy.specs.Entropy.{entropy_coefficients, entropy_limit}
use Rattle.perfect.specs.Perfect.{R}
use Rattle.air.specs.declared.Logs.{Logs}
use Rattle.air.specs.declared.Edges.TheVariants.{Unfitted}
use Rattle.air.specs.Held.{Held, judges, shows}
use Rattle.air.specs.Join.{joined, any_place}
use Rattle.air.specs.Carried.{EnergyLogs}

-- the letter S
abbrev pub letter_s : ℕ
letter_s = 83

-- m of the perfect entropy
abbrev pub rise : ℤ → ℤ → ℤ
rise y z = pos 5 *ℤ (z -ℤ pos 400000) -ℤ pos 2 *ℤ y

-- up to Z = 650,000: a constant and m times half R times the natural logarithm of ten
unfoldable pub perfect_entropy : ℤ → ℤ → ℤ
perfect_entropy y z = pos 67792004 +ℤ shr_z (rise y z *ℤ pos R *ℤ pos 2302585) (2 * 10 ^ 10)

-- above: R times the bicubic of the band
unfoldable pub fitted_entropy : ℤ → ℤ → ℤ
fitted_entropy y z = shr_z (pos R *ℤ bicubic (entropy_coefficients (band_of y)) y z) (10 ^ 8)

-- s at a place, with no join
unfoldable pub entropy_at : ℤ → ℤ → ℤ
entropy_at y z = cond (le_z z (pos 650000)) (perfect_entropy y z) (fitted_entropy y z)

-- whether Z is above the limit of Y's band
abbrev pub above_limit : ℤ → ℤ → Bool
above_limit y z = lt_z (entropy_limit (band_of y)) z

-- s, joined in a strip
abbrev pub entropy_of : ℤ → ℤ → ℤ
entropy_of y z = joined (strip_of y) (λ v. entropy_at v z) y

-- refusal 12: Z above its limit, in a strip at either edge
abbrev pub beyond_entropy : Logs → Bool
beyond_entropy l = any_place (strip_of l.y) (λ v. above_limit v l.z) l.y

-- the steps in order, from the logarithms
unfoldable pub entropy_in : Option Strip → Logs → Held
entropy_in s l =
    cond (any_place s (λ v. above_limit v l.z) l.y) (judges 12 letter_s l Unfitted)
    (shows letter_s l Unfitted None (joined s (λ v. entropy_at v l.z) l.y))

abbrev pub entropy_from : Logs → Held
entropy_from l = entropy_in (strip_of l.y) l

-- what may be held for an energy and a density in range: free are the two logarithms
pub record IsEntropy (e d : ℕ) (h : Held) : Type 0 where
  pub logs : Logs
  pub taken : EnergyLogs e d logs
  pub is : h ≡ entropy_from logs
