-- `quotient::mul_small` is the quotient by a million: by 64 and then by 15,625.
use mathlib.Core.Path.{refl, ◌∙◌}
use lib.Dec.{lit<, lit≤}
use Rattle.quotient.specs.Mul.{mul}
use Rattle.integer.proofs.Machine.{back, back_ok}
use Rattle.quotient.proofs.Splits.{short_splits, short_divides}
use Rattle.quotient.proofs.mul_small.Goals as goal

pub mul_short-requires : goal.mul_short-requires
mul_short-requires c = rw (back c.ranges.a, back c.ranges.b)
    (lit< tt, refl, short_splits c.requires.0 c.requires.1, short_divides c.args.a c.args.b c.requires.0 c.requires.1 (lit< tt) (lit≤ tt))

pub returns : goal.returns
unfolding mul
returns c = let s = c.before in
    back_ok c.mul_short.result c.mul_short.type_inv ∙ (rw (back s.ranges.a, back s.ranges.b) at c.mul_short.ensures)
