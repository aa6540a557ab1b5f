-- How large an entropy is at a place.
use mathlib.Core.Bool.{Bool, true, false, cond}
use Prim.Native.Nat.{◌*◌, ◌^◌, ◌≤◌}
use native.Mathlib.Nat.{lt_of_le_of_lt}
use native.Mathlib.Omega.{arith}
use lib.Dec.{lit<}
use lib.IntN.{ℤ, pos, nat_abs, ◌*ℤ◌}
use lib.Signed.{le_z, shr_z}
use Rattle.integer.specs.Z.{zs, v}
use Rattle.integer.specs.Laws.{abs_is, abs_by, abs-+, abs-*}
use Rattle.quotient.specs.Range.{In}
use Rattle.bicubic.specs.Bicubic.{bicubic}
use Rattle.quotient.proofs.Floors.{quotient_upto}
use Rattle.proportion.proofs.Scaling.{entropy_rise_size}
use Rattle.bands.specs.Bands.{band_of}
use Rattle.tgas2_entropy.specs.Entropy.{entropy_coefficients}
use Rattle.tgas2_entropy.proofs.Sizes.{entropy_small}
use Rattle.perfect.specs.Perfect.{R}
use Rattle.air_entropy.specs.Entropy.{rise, perfect_entropy, fitted_entropy, entropy_at}
use Rattle.air.proofs.Sizes.{bicubic_54}

-- how large an entropy is at a place
module _ (y z : ℤ) (hy : nat_abs y ≤ 7000000) (hz : nat_abs z ≤ 5000000) where
  pub rise_in : In 27 (rise y z)
  rise_in =
      let vy = v y in let vz = v z in
      record { size = lt_of_le_of_lt (abs_by (rise y z) (search zs) 41000000 (omega (arith, abs_is y, abs_is z)) (omega (arith, abs_is y, abs_is z))) (lit< tt) }

  perfect_most : nat_abs (perfect_entropy y z) ≤ 2 ^ 43
  unfolding perfect_entropy
  perfect_most = omega (arith, abs-+ (pos 67792004) (shr_z (rise y z *ℤ pos R *ℤ pos 2302585) (2 * 10 ^ 10)), entropy_rise_size (rise y z), rise_in.size)

  fitted_most : nat_abs (fitted_entropy y z) ≤ 2 ^ 43
  unfolding fitted_entropy
  fitted_most =
      let n = bicubic (entropy_coefficients (band_of y)) y z in
      quotient_upto (pos R *ℤ n) (2 ^ 43) (10 ^ 8) (lit< tt)
      (rw abs-* (omega (arith, bicubic_54 (entropy_coefficients (band_of y)) y z (entropy_small (band_of y)) hy hz)))

  pub entropy_most : nat_abs (entropy_at y z) ≤ 2 ^ 43
  unfolding entropy_at
  entropy_most = go (le_z z (pos 650000))
    where
      go : (b : Bool) → nat_abs (cond b (perfect_entropy y z) (fitted_entropy y z)) ≤ 2 ^ 43
      go true = perfect_most
      go false = fitted_most

  pub entropy_in_lem : In 57 (entropy_at y z)
  entropy_in_lem = record { size = lt_of_le_of_lt entropy_most (lit< tt) }
