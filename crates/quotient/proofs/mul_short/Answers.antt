-- `quotient::mul_short` is the quotient of a quotient.
use mathlib.Core.Path.{◌≡◌, ◌∙◌}
use lib.IntN.{nat_abs, ◌*ℤ◌}
use lib.Signed.{shr_z}
use mir.Syntax.{w64}
use mir.Val.{to_z, of_z}
use Rattle.quotient.proofs.Floors.{twice}
use Rattle.integer.proofs.Machine.{back, back_ok}
use Rattle.quotient.proofs.mul_short.Goals as goal

pub mul_shift-requires : goal.mul_shift-requires
mul_shift-requires c = (c.requires.0, rw (back c.ranges.m) c.requires.1, rw (back c.ranges.a, back c.ranges.b, back c.ranges.m) c.requires.2)

-- the quotient by m
over : (c : goal.After-mul_shift) → let s = c.before in to_z w64 (of_z w64 c.mul_shift.result) ≡ shr_z (s.args.a *ℤ s.args.b) (nat_abs s.args.m)
over c =
    let s = c.before in
    back_ok c.mul_shift.result c.mul_shift.type_inv ∙ (rw (back s.ranges.a, back s.ranges.b, back s.ranges.m) at c.mul_shift.ensures)

pub floor_div-requires : goal.floor_div-requires
floor_div-requires c = let s = c.before in rw (over c, back s.ranges.n) s.requires.3

pub returns : goal.returns
returns c = let s = c.before.before in
    back_ok c.floor_div.result c.floor_div.type_inv
    ∙ (rw (over c.before, back s.ranges.n) at c.floor_div.ensures)
    ∙ twice (s.args.a *ℤ s.args.b) (nat_abs s.args.m) (nat_abs s.args.n)
