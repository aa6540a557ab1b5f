-- How far each piece may be from its exact fit, in units of 10^-10: the bounds that `own_near` of fit proves, by label. The table's test of Fit compares
-- them with what is promised, 4,000. And a place where G is 99.5 units below it. Assumes nothing.
use mathlib.Core.List.{List, [], ◌∷◌}
use mathlib.Core.Path.{◌≡◌, refl}
use Prim.Native.Nat.{ℕ}
use lib.IntN.{pos, neg_ℤ}
use Rattle.fraction.specs.Fraction.{Within}
use Rattle.weight.specs.Weight.{tolerance}
use Rattle.quotient.specs.Mul.{mul}
use Rattle.bicubic.specs.Bicubic.{gas1, gas2, gas3, gas4, bicubic}
use Rattle.bicubic.specs.Exact.{exact_gas1, exact_gas2, exact_gas3, exact_gas4, exact_bicubic}
use Rattle.fit.specs.Fit.{fitted}
use Rattle.fit.specs.Exact.{in_units}
use Rattle.bicubic.proofs.Size.{size}
use Rattle.fit.proofs.Distance.{distance_of, distances}
use Rattle.bands.specs.declared.Band.{Band}
use Rattle.bands.specs.declared.Band.TheVariants.{Low, Middle, High}
use Rattle.tgas1_temperature_low.specs.Pieces.{low_pieces}
use Rattle.tgas1_temperature_middle.specs.Pieces.{middle_pieces}
use Rattle.tgas1_temperature_high.specs.Pieces.{high_pieces}
use Rattle.tgas1_temperature.specs.Pieces.{temperature_pieces}
use Rattle.air_temperature.specs.Temperature.{piece_at}
use Rattle.air_temperature.specs.Claim.{exact_temperature_fit}
use Rattle.air.proofs.Boxes.{boxes}
use Rattle.air_temperature.proofs.Fit.{temperature_reach}

abbrev pub temperature_distances : Band → List ℕ
temperature_distances Low = 113 ∷ 412 ∷ 579 ∷ 753 ∷ []  -- labels 310 to 340
temperature_distances Middle = 63 ∷ 664 ∷ 776 ∷ 1895 ∷ []  -- 360 to 390
temperature_distances High = 29 ∷ 159 ∷ 1667 ∷ []  -- 410 to 430

pub temperature_distances_lem : (b : Band) → distances in_units tolerance (temperature_reach b) (temperature_pieces b) ≡ temperature_distances b
unfolding distances distance_of size boxes low_pieces middle_pieces high_pieces
temperature_distances_lem Low = refl
temperature_distances_lem Middle = refl
temperature_distances_lem High = refl

-- ---- no distance below 100 can be promised: Y = -6,987,999 and Z = 399,583, label 310, which has no transition
pub not_within_99 : (n : ℕ) → Within 99 (fitted (piece_at (neg_ℤ (pos 6987999)) (pos 399583)) (neg_ℤ (pos 6987999)) (pos 399583) (pos 0)) (exact_temperature_fit n (neg_ℤ (pos 6987999)) (pos 399583)) → ⊥
unfolding mul bicubic gas1 gas2 gas3 gas4 exact_bicubic exact_gas1 exact_gas2 exact_gas3 exact_gas4 low_pieces middle_pieces high_pieces
not_within_99 n h = h.high.le
