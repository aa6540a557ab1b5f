-- `entropy_fit::entropy_at`: the sums and the bicubic fit their types.
use mathlib.Core.Path.{◌≡◌}
use native.Mathlib.Omega.{arith}
use Prim.Native.Nat.{◌*◌, ◌^◌}
use lib.IntN.{pos, ◌*ℤ◌}
use lib.Signed.{le_z, shr_z}
use Rattle.std.proofs.Common.{rules}
use Rattle.integer.specs.Laws.{abs-+}
use Rattle.integer.proofs.Machine.{back, back_ok, fits64}
use Rattle.quotient.proofs.Machine.{in_ok}
use Rattle.proportion.proofs.Scaling.{entropy_rise_size}
use Rattle.bands.specs.Bands.{band_of}
use Rattle.tgas2_entropy.specs.Entropy.{entropy_coefficients}
use Rattle.tgas2_entropy.proofs.Sizes.{entropy_small}
use Rattle.bicubic.specs.Bicubic.{bicubic}
use Rattle.air.proofs.Sizes.{bicubic_in}
use Rattle.perfect.specs.Perfect.{R}
use mathlib.Core.Bool.{true}
use Rattle.air_entropy.specs.Entropy.{rise, entropy_at, perfect_entropy}
use Rattle.air_entropy.proofs.Sizes.{rise_in}
use Rattle.entropy_fit.proofs.entropy_at.Goals as goal

pub returns-then-z-le650000 : goal.returns-then-z-le650000
unfolding entropy_at perfect_entropy
returns-then-z-le650000 c =
    let y = c.args.y in
    let z = c.args.z in
    let m = rise y z in
    let risen : c.entropy_rise.result ≡ shr_z (m *ℤ pos R *ℤ pos 2302585) (2 * 10 ^ 10) = search rules in
    let perfect : le_z z (pos 650000) ≡ true = search rules in
    let size = entropy_rise_size m in
    let small = (rise_in y z c.requires.y_most c.requires.z_most).size in
    rw (back_ok c.entropy_rise.result c.entropy_rise.type_inv, risen, perfect) (back (fits64 _ (omega (arith, abs-+ (pos 67792004) (shr_z (m *ℤ pos R *ℤ pos 2302585) (2 * 10 ^ 10))))))

pub entropy_of_fit-requires : goal.entropy_of_fit-requires
entropy_of_fit-requires c =
    let b = band_of c.args.y in
    let is : c.entropy_bicubic.result ≡ bicubic (entropy_coefficients b) c.args.y c.args.z = search rules in
    in_ok is c.entropy_bicubic.type_inv (bicubic_in (entropy_coefficients b) c.args.y c.args.z (entropy_small b) c.requires.y_most c.requires.z_most)
