-- `weigh::weight_minus` gives a weight of a minus transition.
use Rattle.integer.proofs.Machine.{back, back_ok}
use Rattle.weight.proofs.Minus.{minus_is}
use Rattle.weigh.proofs.weight_minus.Goals as goal

pub returns-clause-minus_weight : goal.returns-clause-minus_weight
returns-clause-minus_weight c = rw (back_ok c.weight_at.result c.weight_at.type_inv, c.weight_at.ensures, back c.ranges.q) (minus_is c.args.q c.requires)
