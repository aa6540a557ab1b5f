-- `quotient::mul_wide` is the quotient by a million.
use mathlib.Core.Path.{◌∙◌}
use Rattle.quotient.specs.Mul.{mul}
use Rattle.integer.proofs.Machine.{back, back_ok}
use Rattle.quotient.proofs.Splits.{mul_splits}
use Rattle.quotient.proofs.mul_wide.Goals as goal

pub mul_div-requires : goal.mul_div-requires
mul_div-requires c = rw (back c.ranges.a, back c.ranges.b) (mul_splits c.requires.0 c.requires.1)

pub returns : goal.returns
unfolding mul
returns c = let s = c.before in
    back_ok c.mul_div.result c.mul_div.type_inv ∙ (rw (back s.ranges.a, back s.ranges.b) at c.mul_div.ensures)
