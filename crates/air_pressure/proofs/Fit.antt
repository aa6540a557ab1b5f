-- A gamma is near its exact fit: the general theorem of fit, and one computed test over the tables of pieces.
use mathlib.Core.Bool.{Bool, true, false, not, ◌||◌}
use mathlib.Core.List.{List}
use mathlib.Core.Path.{◌≡◌, refl, sym, subst}
use Prim.Native.Nat.{ℕ, ◌≤◌}
use lib.Dec.{T}
use lib.IntN.{ℤ, pos, neg_ℤ}
use lib.ListN.{get_or}
use lib.Signed.{◌≤ℤ◌, lt_z_no}
use Rattle.fraction.specs.Fraction.{Within}
use Rattle.weight.specs.Weight.{tolerance}
use Rattle.fit.specs.Fit.{near_zero, Weighs, fitted}
use Rattle.fit.specs.Exact.{in_units, exact_fit}
use Rattle.fit.specs.Edge.{ServedAt}
use Rattle.bicubic.proofs.Size.{size}
use Rattle.fit.proofs.Box.{Box, InBox, nowhere}
use Rattle.fit.proofs.Nearest.{all_whole}
use Rattle.fit.proofs.Pieces.{never_near}
use Rattle.fit.proofs.Distance.{distance_of, all_pass, table_serves, table_near}
use Rattle.bands.specs.Units.{index_in}
use Rattle.bands.specs.declared.Band.{Band}
use Rattle.bands.specs.declared.Band.TheVariants.{Low, Middle, High}
use Rattle.bands.specs.Bands.{band_of}
use Rattle.tgas1_gamma_low.specs.Pieces.{low_pieces}
use Rattle.tgas1_gamma_middle.specs.Pieces.{middle_pieces}
use Rattle.tgas1_gamma_high.specs.Pieces.{high_pieces}
use Rattle.tgas1_gamma.specs.Gamma.{gamma_ends, gamma_limit, gamma_pieces}
use Rattle.air_pressure.specs.Pressure.{gamma_at, is_warned, beyond_gamma_logs}
use Rattle.air_pressure.specs.Claim.{gamma_distance}
use Rattle.air.proofs.Boxes.{boxes}
use Rattle.air.proofs.Ranges.{YRange, placed, reach}

-- where those of a gamma lie
pub record GammaBox (y z : ℤ) : Type 0 where
  pub density : YRange y
  pub least : neg_ℤ (pos 1000000) ≤ℤ z

abbrev pub gamma_reach : Band → List Box
gamma_reach = reach (neg_ℤ (pos 1000000)) gamma_ends gamma_limit

gamma_passes : (b : Band) → T (all_pass in_units gamma_distance tolerance (gamma_reach b) (gamma_pieces b))
unfolding all_pass distance_of size boxes all_whole low_pieces middle_pieces high_pieces
gamma_passes Low = tt
gamma_passes Middle = tt
gamma_passes High = tt

module _ (y z : ℤ) (box : GammaBox y z) (told : T (not (is_warned y z))) where
  gamma_placed : InBox (get_or (gamma_reach (band_of y)) (index_in (gamma_ends (band_of y)) z) nowhere) y z
  gamma_placed = placed (neg_ℤ (pos 1000000)) gamma_ends gamma_limit y z box.density box.least (lt_z_no told)

  -- a weight serves every exponent, and so none of a minus transition is near zero
  pub gamma_served : ServedAt (gamma_at y z) y z
  gamma_served =
      let b : Band = band_of y in
      table_serves in_units gamma_distance tolerance (gamma_reach b) (gamma_pieces b) (gamma_passes b) (index_in (gamma_ends b) z) y z gamma_placed

  pub gamma_near : (n : ℕ) → 128 ≤ n → (w : ℤ) → Weighs tolerance (gamma_at y z) y z w → Within gamma_distance (fitted (gamma_at y z) y z w) (exact_fit (in_units (gamma_at y z)) n y z)
  gamma_near n most w h =
      let b : Band = band_of y in
      table_near in_units gamma_distance tolerance (gamma_reach b) (gamma_pieces b) (gamma_passes b) (index_in (gamma_ends b) z) y z gamma_placed n w most h

-- what refuses a gamma by the logarithms is the warning alone
pub warned_only : (y z : ℤ) → GammaBox y z → beyond_gamma_logs y z ≡ is_warned y z
warned_only y z box = go (is_warned y z) refl
  where
    go : (b : Bool) → is_warned y z ≡ b → b || near_zero (gamma_at y z) y z ≡ b
    go true e = refl
    go false e = never_near (gamma_at y z) y z (gamma_served y z box (subst (λ (c : Bool). T (not c)) (sym e) tt))
