-- `temperature_fit::kelvin_of`: how large the power of ten is that a fit makes.
use mathlib.Core.Path.{◌≡◌, sym, ap, ◌∙◌}
use Prim.Native.Nat.{◌/◌, ◌^◌, ◌<◌}
use native.Mathlib.Nat.{lt_trans}
use lib.Dec.{lit<}
use lib.IntN.{pos, nat_abs}
use mir.Syntax.{w64}
use mir.Facts.{to_z_pos}
use Rattle.power.specs.Choice.{power_of}
use Rattle.power.proofs.Kelvin.{power_small}
use Rattle.integer.proofs.Machine.{back}
use Rattle.temperature_fit.proofs.Passes.{passes, kelvin_range}
use Rattle.temperature_fit.proofs.kelvin_of.Goals as goal
use Rattle.temperature_fit.proofs.kelvin_of.Goals.{After-kelvin_power}

kelvin : (c : After-kelvin_power) → c.kelvin_power.result ≡ power_of (nat_abs c.args.fit / 10000)
kelvin c = rw (back c.ranges.fit) at c.kelvin_power.ensures.value

small : (c : After-kelvin_power) → c.kelvin_power.result < 2 ^ 63
small c =
    let g = c.args.fit in
    rw (kelvin c) (lt_trans (power_small (nat_abs g / 10000) (kelvin_range g (passes g c.requires))) (lit< tt))

pub overflow_cast-result : goal.overflow_cast-result
overflow_cast-result c = record { sfits = small c }

pub returns : goal.returns
returns c = rw (to_z_pos w64 (small c)) (ap pos (kelvin c ∙ ap power_of (sym (passes c.args.fit c.requires).millionths)))
