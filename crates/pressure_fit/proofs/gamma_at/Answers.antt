-- `pressure_fit::gamma_at`: a weight serves the piece that Y and Z choose.
use mathlib.Core.Path.{◌≡◌, subst, sym}
use native.Mathlib.Omega.{arith}
use lib.Dec.{lit≤}
use Rattle.integer.proofs.Machine.{back}
use Rattle.fit.specs.Edge.{Workable}
use Rattle.fit.proofs.Pieces.{workable}
use Rattle.bands.specs.declared.Band.{Band}
use Rattle.bands.specs.Bands.{band_of}
use Rattle.tgas1_gamma.specs.Gamma.{gamma_piece}
use Rattle.tgas1_gamma.proofs.Pieces.{piece_small}
use Rattle.air_pressure.specs.Pressure.{gamma_at}
use Rattle.air.proofs.Tests.{is_false, abs_of}
use Rattle.air_pressure.proofs.Fit.{gamma_served}
use Rattle.air.proofs.Sizes.{in_23}
use Rattle.pressure_fit.proofs.gamma_at.Goals as goal
use Rattle.pressure_fit.proofs.gamma_at.Goals.{After-band_of, Start}

band : (c : After-band_of) → c.band_of.result ≡ band_of c.args.y
band c = rw (back c.ranges.y) at c.band_of.ensures

takes : (s : Start) → Workable (gamma_at s.args.y s.args.z) s.args.y s.args.z
takes s =
    let y = s.args.y in
    let z = s.args.z in
    let r = s.requires.0 in
    workable (piece_small (band_of y) z) (in_23 y (abs_of 6999999 3000000 y r.y_least r.y_most 7000000 (lit≤ tt) (lit≤ tt))) (in_23 z (omega (arith, r.z_most)))
    (gamma_served y z (record { density = record { least = r.y_least; most = r.y_most }; least = r.z_least }) (is_false s.requires.1))

pub gamma-requires : goal.gamma-requires
gamma-requires c =
    rw (back c.ranges.y, back c.ranges.z) (subst (λ (b : Band). Workable (gamma_piece b c.args.z) c.args.y c.args.z) (sym (band c)) (takes (goal.at.gamma-requires c).Start))
