-- `mark::point_of` converts Y, adds, and converts the value.
use mir.Syntax.{w64}
use mir.Facts.{to_z-of_z}
use Rattle.mark.proofs.Placed.{in_float_lem, literal}
use Rattle.mark.proofs.point_of.Goals as goal

pub int_to_float-result : goal.int_to_float-result
int_to_float-result c =
    rw (to_z-of_z {w = w64} c.ranges.y) (in_float_lem c.args.y c.args.v c.requires)

pub returns : goal.returns
returns c = rw (to_z-of_z {w = w64} c.ranges.y, to_z-of_z {w = w64} c.ranges.v, literal)
