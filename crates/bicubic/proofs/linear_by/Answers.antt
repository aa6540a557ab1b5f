-- `bicubic::linear_by` meets its contract.
use mathlib.Core.Path.{◌≡◌}
use lib.IntN.{◌+ℤ◌}
use Rattle.quotient.specs.Mul.{mul}
use Rattle.integer.proofs.Machine.{back, back_ok}
use Rattle.quotient.proofs.Machine.{in_back, in_ok, in_wider}
use Rattle.bicubic.proofs.Ranges.{linear_in}
use Rattle.bicubic.proofs.linear_by.Goals as goal
use Rattle.bicubic.proofs.linear_by.Goals.{After-linear}

line : (c : After-linear) → c.linear.result ≡ c.args.a +ℤ mul c.args.b c.args.y
line c = rw (back c.ranges.a, back c.ranges.b, back c.ranges.y) at c.linear.ensures

pub mul-requires : goal.mul-requires
mul-requires c =
    let p = c.requires in
    (in_ok (line c) c.linear.type_inv (linear_in (in_wider tt p.0) (in_wider tt p.1.0) p.1.1.0), in_back c.ranges.z p.1.1.1)

pub returns : goal.returns
returns c =
    let d = c.before in
    rw (back_ok c.mul.result c.mul.type_inv)
    (rw (back_ok d.linear.result d.linear.type_inv, line d, back d.ranges.z) at c.mul.ensures)
