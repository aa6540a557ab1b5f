-- An entropy in a strip; and the distance at exact places: so many units from 0, and no further.
use mathlib.Core.Option.{some}
use mathlib.Core.Path.{◌≡◌, refl}
use lib.Count.{count_leading_zeros}
use lib.Dec.{lit≤}
use lib.IntN.{pos, neg_ℤ}
use Rattle.quotient.specs.Mul.{mul}
use Rattle.logarithm.specs.Choice.{factors, factor_logs, points, rises, chord_of, near_one, mantissa_of, lg_of, log_of}
use Rattle.bicubic.specs.Bicubic.{gas1, gas2, gas3, gas4, bicubic}
use Rattle.tgas2_entropy.specs.Entropy.{entropy_coefficients}
use Rattle.air.specs.declared.Edges.TheVariants.{Unfitted}
use Rattle.std.specs.Prelude.{None}
use Rattle.air.specs.Held.{shows}
use Rattle.air.specs.Choices.{chosen}
use Rattle.air.specs.Property.{held_by}
use Rattle.air.proofs.Pins.{pair}
use Rattle.fraction.specs.Fraction.{Within, whole}
use Rattle.fraction.proofs.Order.{within_more}
use Rattle.fraction.proofs.Pins.{reaches, reaches_no_further}
use Rattle.air_entropy.specs.Entropy.{letter_s, entropy_in, entropy_at, fitted_entropy}
use Rattle.air_entropy.specs.Property.{entropy_property}
use Rattle.air_entropy.specs.Claim.{entropy_distance}

-- Y = -4,500,000, Z = 2,500,000
pub joined : held_by chosen (some entropy_property) 24794913169 4085663 ≡ shows letter_s (pair (neg_ℤ (pos 4500000)) (pos 2500000)) Unfitted None (pos 174563002)
unfolding log_of lg_of mantissa_of near_one chord_of factors factor_logs points rises count_leading_zeros entropy_in entropy_at fitted_entropy bicubic gas1 gas2 gas3 gas4 mul entropy_coefficients
joined = refl

pub entropy_reaches : Within entropy_distance (pos 3) (whole (pos 0))
entropy_reaches = within_more (lit≤ tt) (reaches 3)

pub entropy_reaches_no_further : Within entropy_distance (pos 4) (whole (pos 0)) → ⊥
entropy_reaches_no_further = reaches_no_further 3
