-- `pressure::pressure_from`: a strip's numbers lie where the join takes them.
use mathlib.Core.Path.{◌≡◌}
use Rattle.std.proofs.Common.{rules}
use Rattle.std.specs.Prelude.{Some}
use Rattle.bands.specs.Bands.{strip_of}
use Rattle.pressure.proofs.Laws.{strip_ready}
use Rattle.pressure.proofs.pressure_from.Goals as goal

pub joined-requires : goal.joined-requires
joined-requires c =
    let is : strip_of c.args.logs.y ≡ Some c.in-Some.strip = search rules in
    strip_ready c.requires is
