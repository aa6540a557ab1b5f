-- A fitted temperature's G is near its exact fit: the general theorem of fit, and one computed test over the table of pieces.
use mathlib.Core.List.{List}
use Prim.Native.Nat.{ℕ, ◌≤◌}
use native.Mathlib.Omega.{arith}
use lib.Dec.{T}
use lib.IntN.{ℤ, pos}
use lib.Signed.{◌≤ℤ◌, ◌<ℤ◌}
use Rattle.integer.specs.Z.{<→, →≤}
use Rattle.fraction.specs.Fraction.{Within}
use Rattle.weight.specs.Weight.{tolerance}
use Rattle.fit.specs.Fit.{Weighs, fitted}
use Rattle.fit.specs.Exact.{in_units}
use Rattle.bicubic.proofs.Size.{size}
use Rattle.fit.proofs.Box.{Box}
use Rattle.fit.proofs.Nearest.{all_whole}
use Rattle.fit.proofs.Distance.{distance_of, all_pass, table_near}
use Rattle.bands.specs.declared.Band.{Band}
use Rattle.bands.specs.declared.Band.TheVariants.{Low, Middle, High}
use Rattle.bands.specs.Bands.{band_of}
use Rattle.bands.specs.Region.{temperature_ends, temperature_index}
use Rattle.tgas1_temperature_low.specs.Pieces.{low_pieces}
use Rattle.tgas1_temperature_middle.specs.Pieces.{middle_pieces}
use Rattle.tgas1_temperature_high.specs.Pieces.{high_pieces}
use Rattle.tgas1_temperature.specs.Pieces.{temperature_pieces}
use Rattle.air_temperature.specs.Temperature.{piece_at}
use Rattle.air_temperature.specs.Claim.{exact_temperature_fit, fit_distance}
use Rattle.air.proofs.Boxes.{boxes}
use Rattle.air.proofs.Ranges.{YRange, placed, reach}

-- where the carried logarithms of a fitted temperature lie
pub record FittedBox (y z : ℤ) : Type 0 where
  pub density : YRange y
  pub least : pos 250000 <ℤ z
  pub most : z ≤ℤ pos 3000000

abbrev pub temperature_reach : Band → List Box
temperature_reach = reach (pos 250000) temperature_ends (λ b. pos 3000000)

passes : (b : Band) → T (all_pass in_units fit_distance tolerance (temperature_reach b) (temperature_pieces b))
unfolding all_pass distance_of size boxes all_whole low_pieces middle_pieces high_pieces
passes Low = tt
passes Middle = tt
passes High = tt

-- the distance of G from the exact fit, over every piece
pub fit_near : (n : ℕ) → 128 ≤ n → (y z w : ℤ) → FittedBox y z → Weighs tolerance (piece_at y z) y z w
    → Within fit_distance (fitted (piece_at y z) y z w) (exact_temperature_fit n y z)
fit_near n most y z w box h =
    let b : Band = band_of y in
    table_near in_units fit_distance tolerance (temperature_reach b) (temperature_pieces b) (passes b) (temperature_index b z) y z
    (placed (pos 250000) temperature_ends (λ b. pos 3000000) y z box.density (→≤ (omega (arith, <→ box.least))) box.most) n w most h
