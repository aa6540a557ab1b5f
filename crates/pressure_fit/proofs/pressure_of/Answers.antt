-- `pressure_fit::pressure_of`: the long product of the density, the energy and gamma - 1, and how large it is.
use mathlib.Core.Path.{◌≡◌, sym, ap, ◌∙◌}
use Prim.Native.Nat.{◌*◌, ◌/◌, ◌^◌, ◌<◌}
use native.Mathlib.Nat.{lt_of_le_of_lt}
use native.Mathlib.Omega.{arith}
use lib.Dec.{lit<}
use lib.IntN.{ℤ, pos, ◌-ℤ◌}
use mir.Syntax.{w64}
use mir.Val.{SFits, to_z, of_z}
use mir.Facts.{to_z_pos}
use Rattle.integer.proofs.Machine.{back, fits64}
use Rattle.digits.proofs.Product.{pressure_most}
use Rattle.pressure_fit.proofs.Gammas.{Passes, passes, pressure_is}
use Rattle.pressure_fit.proofs.pressure_of.Goals as goal
use Rattle.pressure_fit.proofs.pressure_of.Goals.{After-pressure, Start}

gamma : (s : Start) → Passes s.args.gamma
gamma s = passes s.args.gamma s.requires.1

fits : (s : Start) → SFits w64 (s.args.gamma -ℤ pos 10000000000)
fits s = let p = gamma s in rw p.is (fits64 (pos p.above) (omega (arith, p.most)))

-- gamma - 1, as the code has it
above : (s : Start) → to_z w64 (of_z w64 (to_z w64 (of_z w64 s.args.gamma) -ℤ pos 10000000000)) ≡ pos (gamma s).above
above s = ap (λ (g : ℤ). to_z w64 (of_z w64 (g -ℤ pos 10000000000))) (back s.ranges.gamma) ∙ back (fits s) ∙ (gamma s).is

result : (c : After-pressure) → c.pressure.result ≡ c.args.d * c.args.e * (gamma c.before).above / 10 ^ 18
result c = rw (above c.before) at c.pressure.ensures

small : (c : After-pressure) → c.pressure.result < 2 ^ 63
small c =
    let p = gamma c.before in
    rw (result c) (lt_of_le_of_lt (pressure_most c.args.d c.args.e p.above 129200000000000 c.requires.0.density c.requires.0.energy p.most) (lit< tt))

pub overflow_cast-result : goal.overflow_cast-result
overflow_cast-result c = record { sfits = small c }

pub returns : goal.returns
returns c =
    rw (to_z_pos w64 (small c)) (ap pos (result c) ∙ sym (pressure_is c.args.e c.args.d c.args.gamma (gamma (goal.at.returns c).Start)))
