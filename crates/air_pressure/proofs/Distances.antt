-- How far each piece may be from its exact fit, in units of 10^-10: the bounds that `own_near` of fit proves, by label. The tables' test of Fit compares
-- them with what is promised, 100,000.
use mathlib.Core.List.{List, [], ◌∷◌}
use mathlib.Core.Path.{◌≡◌, refl}
use Prim.Native.Nat.{ℕ}
use Rattle.weight.specs.Weight.{tolerance}
use Rattle.fit.specs.Exact.{in_units}
use Rattle.bicubic.proofs.Size.{size}
use Rattle.fit.proofs.Distance.{distance_of, distances}
use Rattle.bands.specs.declared.Band.{Band}
use Rattle.bands.specs.declared.Band.TheVariants.{Low, Middle, High}
use Rattle.tgas1_gamma_low.specs.Pieces.{low_pieces}
use Rattle.tgas1_gamma_middle.specs.Pieces.{middle_pieces}
use Rattle.tgas1_gamma_high.specs.Pieces.{high_pieces}
use Rattle.tgas1_gamma.specs.Gamma.{gamma_pieces}
use Rattle.air.proofs.Boxes.{boxes}
use Rattle.air_pressure.proofs.Fit.{gamma_reach}

abbrev pub gamma_distances : Band → List ℕ
gamma_distances Low = 113 ∷ 7106 ∷ 1019 ∷ 553 ∷ 9767 ∷ 149 ∷ []  -- labels 90 to 140
gamma_distances Middle = 63 ∷ 317 ∷ 358 ∷ 671 ∷ 4920 ∷ []  -- 150 to 190
gamma_distances High = 29 ∷ 37 ∷ 228 ∷ 2999 ∷ []  -- 200 to 230

pub gamma_distances_lem : (b : Band) → distances in_units tolerance (gamma_reach b) (gamma_pieces b) ≡ gamma_distances b
unfolding distances distance_of size boxes low_pieces middle_pieces high_pieces
gamma_distances_lem Low = refl
gamma_distances_lem Middle = refl
gamma_distances_lem High = refl
