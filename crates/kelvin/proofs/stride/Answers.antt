-- `kelvin::stride` is the definition, whose tables it has.
use mathlib.Core.Path.{refl}
use Rattle.power.specs.Choice.{coarse, middle, stride_of}
use Rattle.power.proofs.Kelvin.{stride_is}
use Rattle.kelvin.proofs.stride.Goals as goal

pub returns : goal.returns
unfolding coarse middle stride_of
returns c = (refl, (stride_is c.args.g c.requires).most_is)
