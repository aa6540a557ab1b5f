-- The claim's definitions at exact places.
use lib.Dec.{lit<, lit≤}
use lib.IntN.{pos, negsuc}
use Rattle.fraction.specs.Fraction.{Within, whole}
use Rattle.fraction.proofs.Order.{within_more}
use Rattle.fraction.proofs.Pins.{one_above, one_below, one_not_above, one_not_below, reaches, reaches_no_further}
use Rattle.air.specs.Quantities.{T0}
use Rattle.air_temperature.specs.Claim.{fit_distance, Between}

-- ---- T0 is ten to 0 over T0: it is between for k from -2 to 1
pub between_at_less_2 : Between (negsuc 1) T0
between_at_less_2 = record { above = one_above _ 1000000 T0 (lit< tt); below = one_below _ 1000000 T0 (lit< tt) }

pub between_at_1 : Between (pos 1) T0
between_at_1 = record { above = one_above _ 1000000 T0 (lit< tt); below = one_below _ 1000000 T0 (lit< tt) }

pub not_between_at_less_3 : Between (negsuc 2) T0 → ⊥
not_between_at_less_3 h = one_not_below 1000000 T0 h.below

pub not_between_at_2 : Between (pos 2) T0 → ⊥
not_between_at_2 h = one_not_above 1000000 T0 h.above

-- ---- the distances: so many units from 0, and no further
pub fit_reaches : Within fit_distance (pos 4000) (whole (pos 0))
fit_reaches = within_more (lit≤ tt) (reaches 4000)

pub fit_reaches_no_further : Within fit_distance (pos 4001) (whole (pos 0)) → ⊥
fit_reaches_no_further = reaches_no_further 4000
