-- A block's number is the one that its byte finds.
use mathlib.Core.Path.{sym, ◌∙◌}
use Rattle.integer.proofs.Machine.{back_ok}
use Rattle.packed.proofs.Blocks.{reads, number_is}
use Rattle.packed.proofs.Block.number.Goals as goal

pub number-requires : goal.number-requires
number-requires g c = reads {m = 62} c.args.self.now.packed c.args.self.now.sized tt c.args.i c.requires

pub returns : goal.returns
returns g c = back_ok c.number.result c.number.type_inv ∙ c.number.ensures ∙ sym (number_is c.args.self.now.packed c.args.i c.requires)
