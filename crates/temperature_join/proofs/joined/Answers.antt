-- `temperature_join::joined`: 13 by either edge, or the straight line between their temperatures.
use mathlib.Core.Bool.{false, ◌||◌}
use mathlib.Core.Path.{◌≡◌}
use Rattle.std.proofs.Common.{rules}
use Rattle.integer.proofs.Machine.{back, back_ok}
use Rattle.quotient.proofs.Machine.{in_back, in_ok}
use Rattle.proportion.specs.Straight.{straight}
use Rattle.air.specs.Choices.{chosen}
use Rattle.air.proofs.Sizes.{in_25}
use Rattle.air.proofs.Tests.{or_left, or_right}
use Rattle.air_temperature.specs.Temperature.{beyond_fit}
use Rattle.air_temperature.specs.Property.{kelvin_by}
use Rattle.temperature_fit.proofs.Passes.{fit_in_57, kelvin_in}
use Rattle.temperature_join.proofs.Laws.{refused_is, shown_is}
use Rattle.temperature_join.proofs.joined.Goals as goal

pub returns-then-is_either_beyond : goal.returns-then-is_either_beyond
returns-then-is_either_beyond c =
    let told : c.number.result ≡ 13 = search rules in
    rw told (refused_is c.args.strip c.args.logs _ _ (search rules) (search rules) (search rules))

pub kelvin_of-requires : goal.kelvin_of-requires
kelvin_of-requires c =
    let stay : (beyond_fit c.fit_in-low.result.fit || beyond_fit c.fit_in-high.result.fit) ≡ false = search rules in
    rw (back {z = c.fit_in-low.result.fit} (search rules)) (or_left (beyond_fit c.fit_in-low.result.fit) (beyond_fit c.fit_in-high.result.fit) stay)

pub kelvin_of-requires-2 : goal.kelvin_of-requires-2
kelvin_of-requires-2 c =
    let stay : (beyond_fit c.fit_in-low.result.fit || beyond_fit c.fit_in-high.result.fit) ≡ false = search rules in
    rw (back {z = c.fit_in-high.result.fit} (search rules)) (or_right (beyond_fit c.fit_in-low.result.fit) (beyond_fit c.fit_in-high.result.fit) stay)

-- temperatures are small enough for the straight line, and fits would be
pub straight-value-requires : goal.straight-value-requires
straight-value-requires c =
    let s = c.args.strip in
    let e = c.fit_in-low.result.fit in
    let f = c.fit_in-high.result.fit in
    let stay : (beyond_fit e || beyond_fit f) ≡ false = search rules in
    let low : c.kelvin_of.result ≡ kelvin_by chosen e = search rules in
    let high : c.kelvin_of-2.result ≡ kelvin_by chosen f = search rules in
    let low_stays = or_left (beyond_fit e) (beyond_fit f) stay in
    let high_stays = or_right (beyond_fit e) (beyond_fit f) stay in
    let low_in = in_ok low c.kelvin_of.type_inv (kelvin_in e low_stays) in
    let high_in = in_ok high c.kelvin_of-2.type_inv (kelvin_in f high_stays) in
    let low_fit = in_back {z = e} (search rules) (fit_in_57 e low_stays) in
    let high_fit = in_back {z = f} (search rules) (fit_in_57 f high_stays) in
    (search rules, (in_back (search rules) (in_25 s.low c.requires.low.y_most), (in_back (search rules) (in_25 s.high c.requires.high.y_most), (search rules, search rules))))

pub returns : goal.returns
returns c =
    let s = c.args.strip in
    let p = c.kelvin_of.result in
    let q = c.kelvin_of-2.result in
    let value : c.straight-value.result ≡ straight s.low s.high p q c.args.logs.y = search rules in
    rw (back_ok p c.kelvin_of.type_inv, back_ok q c.kelvin_of-2.type_inv, back_ok c.straight-value.result c.straight-value.type_inv)
    (shown_is s c.args.logs c.fit_in-low.result c.fit_in-high.result (search rules) (search rules) p q c.straight-value.result (search rules) (search rules) (search rules) value)
