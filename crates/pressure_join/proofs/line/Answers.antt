-- `pressure_join::line` goes straight between the two pressures.
use mathlib.Core.Bool.{false, ◌||◌}
use mathlib.Core.Path.{◌≡◌}
use Rattle.std.proofs.Common.{rules}
use Rattle.integer.proofs.Machine.{back_ok}
use Rattle.quotient.proofs.Machine.{in_back, in_ok}
use Rattle.proportion.specs.Straight.{straight}
use Rattle.air.proofs.Tests.{or_left, or_right}
use Rattle.air_pressure.specs.Pressure.{beyond_gamma, pressure_of}
use Rattle.pressure_join.proofs.Laws.{small, gamma_small}
use Rattle.pressure_join.proofs.line.Goals as goal

-- pressures are small enough for the straight line, and gammas would be
pub straight-value-requires : goal.straight-value-requires
straight-value-requires c =
    let a = c.args in
    let e = a.low.fit in
    let f = a.high.fit in
    let stay : (beyond_gamma e || beyond_gamma f) ≡ false = search rules in
    let low : c.pressure_of.result ≡ pressure_of a.e a.d e = search rules in
    let high : c.pressure_of-2.result ≡ pressure_of a.e a.d f = search rules in
    let low_stays = or_left (beyond_gamma e) (beyond_gamma f) stay in
    let high_stays = or_right (beyond_gamma e) (beyond_gamma f) stay in
    let low_in = in_ok low c.pressure_of.type_inv (small a.e a.d e c.requires.energy c.requires.density low_stays) in
    let high_in = in_ok high c.pressure_of-2.type_inv (small a.e a.d f c.requires.energy c.requires.density high_stays) in
    let low_gamma = in_back {z = e} (search rules) (gamma_small e low_stays) in
    let high_gamma = in_back {z = f} (search rules) (gamma_small f high_stays) in
    (search rules, (in_back (search rules) c.requires.low, (in_back (search rules) c.requires.high, (search rules, search rules))))

pub returns : goal.returns
returns c =
    let a = c.args in
    let p = c.pressure_of.result in
    let q = c.pressure_of-2.result in
    let stay : (beyond_gamma a.low.fit || beyond_gamma a.high.fit) ≡ false = search rules in
    let low : p ≡ pressure_of a.e a.d a.low.fit = search rules in
    let high : q ≡ pressure_of a.e a.d a.high.fit = search rules in
    let value : c.straight-value.result ≡ straight a.strip.low a.strip.high p q a.logs.y = search rules in
    rw (back_ok p c.pressure_of.type_inv, back_ok q c.pressure_of-2.type_inv, back_ok c.straight-value.result c.straight-value.type_inv, value, low, high, stay)
