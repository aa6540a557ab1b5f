-- `quotient::mul_once` is the quotient by a million: the product by 64 and then by 15,625.
use mathlib.Core.Path.{◌∙◌}
use lib.Dec.{lit<, lit≤}
use lib.IntN.{◌*ℤ◌}
use mir.Syntax.{w64}
use mir.Val.{SFits}
use Rattle.quotient.specs.Mul.{mul}
use Rattle.integer.proofs.Machine.{back, back_ok}
use Rattle.quotient.proofs.Floors.{twice}
use Rattle.quotient.proofs.Machine.{quotient_fits, in_wider}
use Rattle.quotient.proofs.Splits.{product_fits, short_divides}
use Rattle.quotient.proofs.mul_once.Goals as goal

product : (c : goal.Start) → SFits w64 (c.args.a *ℤ c.args.b)
product c = product_fits c.args.a c.args.b c.requires.0 c.requires.1

pub overflow_mul-a : goal.overflow_mul-a
overflow_mul-a c = rw (back c.ranges.a, back c.ranges.b) (product c)

pub floor_div-requires : goal.floor_div-requires
floor_div-requires c = rw (back c.ranges.a, back c.ranges.b, back (product c), back (quotient_fits 64 (product c))) (short_divides c.args.a c.args.b (in_wider tt c.requires.0) c.requires.1 (lit< tt) (lit≤ tt))

pub returns : goal.returns
unfolding mul
returns c = let s = c.before in
    back_ok c.floor_div.result c.floor_div.type_inv
    ∙ (rw (back s.ranges.a, back s.ranges.b, back (product s), back (quotient_fits 64 (product s))) at c.floor_div.ensures)
    ∙ twice (s.args.a *ℤ s.args.b) 64 15625
