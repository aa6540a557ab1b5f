-- `log10::lg` meets its contract: the shift loses no bit.
use mathlib.Core.Path.{refl}
use native.Mathlib.Nat.{mod-eq_of_lt}
use native.Mathlib.Omega.{arith}
use lib.Count.{count_leading_zeros}
use Rattle.logarithm.specs.Choice.{lg_of}
use Rattle.logarithm.proofs.Numbers.{Shift, shift_is, lg_is}
use Rattle.log10.proofs.lg.Goals as goal
use Rattle.log10.proofs.lg.Goals.{Start}

shifted : (s : Start) → Shift s.args.n (count_leading_zeros 64 s.args.n)
shifted s = shift_is s.args.n s.requires s.ranges.n.fits

pub mantissa-requires : goal.mantissa-requires
mantissa-requires c = rw (mod-eq_of_lt (shifted c).high) (omega (arith, (shifted c).low), omega (arith, (shifted c).high))

pub returns : goal.returns
unfolding lg_of
returns c =
    let s = c.before.before in
    rw (c.mantissa.ensures.0, c.from.ensures, mod-eq_of_lt (shifted s).high) (refl, (lg_is s.args.n s.requires s.ranges.n.fits).most)
