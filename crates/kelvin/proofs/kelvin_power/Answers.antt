-- `kelvin::kelvin_power` gives a power.
use Rattle.power.specs.Choice.{power_of}
use Rattle.power.proofs.Kelvin.{power_is}
use Rattle.kelvin.proofs.kelvin_power.Goals as goal

pub returns-clause-power : goal.returns-clause-power
unfolding power_of
returns-clause-power c = rw c.step-t.ensures.0 (power_is c.args.g c.requires)
