-- `kelvin::step` is the definition, whose table it has.
use mathlib.Core.Path.{refl}
use Rattle.power.specs.Choice.{fine, step_of}
use Rattle.power.proofs.Kelvin.{step_is}
use Rattle.kelvin.proofs.step.Goals as goal

pub returns : goal.returns
unfolding fine step_of
returns c = rw c.stride.ensures.0 (refl, (step_is c.args.g c.requires).most_is)
