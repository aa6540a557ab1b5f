-- `proportion::fitted` meets its contract.
use mathlib.Core.Path.{◌≡◌, ◌∙◌}
use lib.IntN.{◌+ℤ◌, ◌*ℤ◌}
use lib.Signed.{shr_z}
use mir.Syntax.{w64}
use mir.Val.{SFits, to_z, of_z}
use Rattle.weight.specs.Weight.{units}
use Rattle.integer.proofs.Machine.{back, back_ok}
use Rattle.quotient.proofs.Machine.{in_back, in_fits, in_wider}
use Rattle.proportion.proofs.Scaling.{fitted_in}
use Rattle.proportion.proofs.fitted.Goals as goal

pub scaled-requires : goal.scaled-requires
scaled-requires c = (rw (back c.ranges.w) c.requires.1.0, search in_back)

part : (c : goal.After-scaled) → to_z w64 (of_z w64 c.scaled.result) ≡ shr_z (c.args.w *ℤ c.args.b) units
part c =
    back_ok c.scaled.result c.scaled.type_inv
    ∙ (simp (back c.ranges.w, back c.ranges.b) at c.scaled.ensures)

fit : (s : goal.Start) → SFits w64 (s.args.a +ℤ shr_z (s.args.w *ℤ s.args.b) units)
fit s = let p = s.requires in in_fits (in_wider tt (fitted_in s.args.w p.0 p.1.0 p.1.1))

pub overflow_add-result : goal.overflow_add-result
overflow_add-result c = rw (back c.ranges.a, part c) (fit c.before)

pub returns : goal.returns
returns c = rw (back c.ranges.a, part c, back (fit c.before))
