-- `log10::log10_ratio` meets its contract. Assumes nothing.
use mathlib.Core.Path.{refl}
use Prim.Native.Nat.{ℕ}
use native.Mathlib.Omega.{arith}
use lib.IntN.{pos, ◌-ℤ◌}
use mir.Syntax.{w64}
use mir.Val.{to_z, SFits}
use mir.Facts.{to_z-of_z}
use mir.ValLaws.{to_z_pos}
use borrow.Author.Rules.{rules}
use Rattle.integer.specs.Z.{zs}
use Rattle.integer.specs.Laws.{mag_abs, abs_by}
use Rattle.logarithm.specs.Choice.{log_of}
use Rattle.logarithm.proofs.Ratios.{log_is}
use Rattle.log10.proofs.log10_ratio.Goals as goal

-- a number that the cast takes, lowered
lowered_fits : (g : ℕ) → SFits w64 (pos g) → SFits w64 (to_z w64 g -ℤ pos 20000000)
lowered_fits g h =
    rw (to_z_pos w64 g h.sfits)
    (record { sfits = omega (arith, mag_abs (pos g -ℤ pos 20000000), abs_by (pos g -ℤ pos 20000000) (search zs) 9223372036854775807 (omega (arith, h.sfits)) (omega arith)) })

pub overflow_cast-result : goal.overflow_cast-result
overflow_cast-result c = search rules

pub overflow_sub-result : goal.overflow_sub-result
overflow_sub-result c = lowered_fits _ (overflow_cast-result c)

pub returns : goal.returns
unfolding log_of
returns c =
    let s = c.before.before in
    rw (to_z-of_z (overflow_sub-result c), to_z_pos w64 _ (overflow_cast-result c).sfits, c.lg.ensures.0, c.lg-2.ensures.0)
    (record { value = refl; log = log_is s.args.n s.args.d s.requires.0 s.ranges.n.fits s.requires.1 s.ranges.d.fits })
