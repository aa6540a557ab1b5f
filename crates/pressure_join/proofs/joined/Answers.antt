-- `pressure_join::joined`: 17 by a warning at either edge, or what the two gammas make.
use mathlib.Core.Bool.{false, ◌||◌}
use mathlib.Core.Path.{◌≡◌, ◌∙◌}
use Rattle.std.proofs.Common.{rules}
use lib.IntN.{ℤ}
use mir.Syntax.{w64}
use mir.Val.{to_z, of_z}
use Rattle.integer.proofs.Machine.{back}
use Rattle.air.proofs.Tests.{or_left, or_right}
use Rattle.air.specs.Choices.{chosen}
use Rattle.air.specs.Places.{edge_by}
use Rattle.air_pressure.specs.Pressure.{gamma_at, is_warned}
use Rattle.pressure_fit.specs.Ready.{GammaReady}
use Rattle.pressure_join.proofs.Laws.{warned_is, line_is}
use Rattle.pressure_join.proofs.joined.Goals as goal

pub returns-then-is_either_warned : goal.returns-then-is_either_warned
returns-then-is_either_warned c =
    let told : c.number.result ≡ 17 = search rules in
    rw told (warned_is c.args.e c.args.d c.args.strip c.args.logs c.requires.low c.requires.high (search rules))

-- the machine's form of a number
abbrev held : ℤ → ℤ
held n = to_z w64 (of_z w64 n)

-- the lower edge's place is as ready as the upper's
pub gamma_at-high-requires : goal.gamma_at-high-requires
gamma_at-high-requires c =
    let s = c.args.strip in
    let z = c.args.logs.z in
    let stay : (is_warned s.low z || is_warned s.high z) ≡ false = search rules in
    let low : GammaReady (held s.low) (held z) = rw (back {z = s.low} (search rules), back {z = z} (search rules)) c.requires.low in
    let high : GammaReady (held s.high) (held z) = rw (back {z = s.high} (search rules), back {z = z} (search rules)) c.requires.high in
    let low_stays : is_warned (held s.low) (held z) ≡ false =
    rw (back {z = s.low} (search rules), back {z = z} (search rules)) (or_left (is_warned s.low z) (is_warned s.high z) stay) in
    let high_stays : is_warned (held s.high) (held z) ≡ false =
    rw (back {z = s.high} (search rules), back {z = z} (search rules)) (or_right (is_warned s.low z) (is_warned s.high z) stay) in
    search rules

pub returns : goal.returns
returns c =
    let a = c.args in
    let low : c.gamma_at-low.result ≡ edge_by chosen (gamma_at a.strip.low a.logs.z) a.strip.low a.logs.z = search rules in
    let high : c.gamma_at-high.result ≡ edge_by chosen (gamma_at a.strip.high a.logs.z) a.strip.high a.logs.z = search rules in
    c.line.ensures ∙ line_is a.e a.d a.strip a.logs c.requires.low c.requires.high _ _ (search rules) low high
