-- `quotient::mul` is the quotient by a million, by the way that the size of a allows.
use mathlib.Core.Path.{◌∙◌}
use Rattle.integer.proofs.Machine.{back, back_ok}
use Rattle.quotient.proofs.mul.Goals as goal

pub returns-then-a-ltminus274877906943 : goal.returns-then-a-ltminus274877906943
returns-then-a-ltminus274877906943 c = let s = c.before.before in
    back_ok c.mul_wide.result c.mul_wide.type_inv ∙ (rw (back s.ranges.a, back s.ranges.b) at c.mul_wide.ensures)

pub returns : goal.returns
returns c = let s = c.before.before.before in
    back_ok c.mul_once.result c.mul_once.type_inv ∙ (rw (back s.ranges.a, back s.ranges.b) at c.mul_once.ensures)
