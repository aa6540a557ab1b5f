-- `bicubic::linear` meets its contract.
use mathlib.Core.Path.{◌≡◌}
use lib.IntN.{◌+ℤ◌}
use mir.Syntax.{w64}
use mir.Val.{SFits}
use Rattle.quotient.specs.Mul.{mul}
use Rattle.integer.proofs.Machine.{back, back_ok}
use Rattle.quotient.proofs.Machine.{in_back, in_wider, in_fits}
use Rattle.bicubic.proofs.Ranges.{linear_in}
use Rattle.bicubic.proofs.linear.Goals as goal
use Rattle.bicubic.proofs.linear.Goals.{After-mul_small, Start}

pub mul_small-requires : goal.mul_small-requires
mul_small-requires c = (in_back c.ranges.b c.requires.1.0, in_back c.ranges.y c.requires.1.1)

product : (c : After-mul_small) → c.mul_small.result ≡ mul c.args.b c.args.y
product c = rw (back c.ranges.b, back c.ranges.y) at c.mul_small.ensures

fit : (s : Start) → SFits w64 (s.args.a +ℤ mul s.args.b s.args.y)
fit s = in_fits (in_wider tt (linear_in (in_wider tt s.requires.0) (in_wider tt s.requires.1.0) s.requires.1.1))

pub overflow_add-result : goal.overflow_add-result
overflow_add-result c = rw (back c.ranges.a, back_ok c.mul_small.result c.mul_small.type_inv, product c) (fit c.before)

pub returns : goal.returns
returns c = rw (back c.ranges.a, back_ok c.mul_small.result c.mul_small.type_inv, product c, back (fit c.before))
