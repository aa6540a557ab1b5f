-- `temperature::temperature_from`: where the numbers of a region lie.
use mathlib.Core.Path.{◌≡◌, sym, ◌∙◌}
use Prim.Native.Nat.{◌^◌, ◌<◌}
use native.Mathlib.Omega.{arith}
use mir.Syntax.{w64}
use mir.Facts.{to_z_pos}
use Rattle.std.proofs.Common.{rules}
use Rattle.bands.specs.declared.Region.TheVariants.{Perfect}
use Rattle.air_temperature.specs.Property.{temperature_by}
use Rattle.bands.specs.Region.{region_of}
use Rattle.bands.proofs.Regions.{perfect_region, fitted_region}
use Rattle.perfect.proofs.Quotient.{perfect_small}
use Rattle.air.proofs.Ranges.{y_most}
use Rattle.temperature.proofs.Laws.{window_most, dividable}
use Rattle.temperature.proofs.temperature_from.Goals as goal
use Rattle.temperature.proofs.temperature_from.Goals.{After-perfect_gas}

pub perfect_gas-requires : goal.perfect_gas-requires
perfect_gas-requires c =
    let l = c.args.logs in
    let region : c.region_of.result ≡ region_of l.y l.z = search rules in
    dividable c.args.p c.args.d l c.requires (perfect_region l.y l.z (sym region ∙ c.in-Perfect.is))

small : (c : After-perfect_gas) → c.perfect_gas.result < 2 ^ 63
small c =
    let l = c.args.logs in
    let region : c.region_of.result ≡ region_of l.y l.z = search rules in
    let divides = dividable c.args.p c.args.d l c.requires (perfect_region l.y l.z (sym region ∙ c.in-Perfect.is)) in
    rw c.perfect_gas.ensures (omega (arith, perfect_small c.args.p c.args.d divides))

pub overflow_cast-result : goal.overflow_cast-result
overflow_cast-result c = record { sfits = small c }

pub returns-in-Perfect : goal.returns-in-Perfect
unfolding temperature_by
returns-in-Perfect c =
    let region : region_of c.args.logs.y c.args.logs.z ≡ Perfect = search rules in
    rw (to_z_pos w64 (small (goal.at.returns-in-Perfect c).After-perfect_gas), c.perfect_gas.ensures, region)

pub fitted-requires : goal.fitted-requires
fitted-requires c =
    let l = c.args.logs in
    let region : c.region_of.result ≡ region_of l.y l.z = search rules in
    let f = fitted_region l.y l.z (sym region ∙ c.in-Fitted.is) in
    record { place = record { y_most = y_most c.args.d l.y c.requires.density c.requires.taken.y; z_most = omega (arith, window_most l.z f.window) }; band = f.band }
