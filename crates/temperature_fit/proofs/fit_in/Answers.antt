-- `temperature_fit::fit_in`: a weight serves the piece that Z chooses.
use native.Mathlib.Omega.{arith}
use Rattle.quotient.proofs.Machine.{in_back}
use Rattle.fit.proofs.Pieces.{workable}
use Rattle.bands.specs.Region.{temperature_index}
use Rattle.tgas1_temperature.proofs.Pieces.{piece_small}
use Rattle.air_temperature.proofs.Allowed.{served_at}
use Rattle.air.proofs.Sizes.{in_23}
use Rattle.temperature_fit.proofs.fit_in.Goals as goal

pub fit-requires : goal.fit-requires
fit-requires c = workable (piece_small c.args.band _) (in_back c.ranges.y (in_23 c.args.y c.requires.y_most))
    (in_back c.ranges.z (in_23 c.args.z (omega (arith, c.requires.z_most)))) (served_at c.args.band (temperature_index c.args.band _) _ _)
