-- `weigh::weight` gives a weight.
use Rattle.integer.proofs.Machine.{back, back_ok}
use Rattle.weight.proofs.Near.{weight_is}
use Rattle.weigh.proofs.weight.Goals as goal

pub returns-clause-weight : goal.returns-clause-weight
returns-clause-weight c = rw (back_ok c.weight_at.result c.weight_at.type_inv, c.weight_at.ensures, back c.ranges.q) (weight_is c.args.q)
