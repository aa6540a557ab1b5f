-- `proportion::straight` meets its contract.
use mathlib.Core.Path.{◌≡◌, ◌∙◌}
use lib.IntN.{nat_abs, ◌-ℤ◌, ◌*ℤ◌}
use lib.Signed.{shr_z}
use mir.Syntax.{w64}
use mir.Val.{to_z, of_z}
use Rattle.integer.proofs.Machine.{back, back_ok}
use Rattle.proportion.proofs.Line.{Line, line}
use Rattle.proportion.proofs.straight.Goals as goal

st : (s : goal.Start) → Line s.args.a s.args.b s.args.low s.args.high s.args.y
st s = let p = s.requires in line p.0 p.1.0 p.1.1.0 p.1.1.1.0 p.1.1.1.1

pub overflow_sub-high : goal.overflow_sub-high
overflow_sub-high c = rw (back c.ranges.high, back c.ranges.low) (st c).fit1

pub overflow_sub-y : goal.overflow_sub-y
overflow_sub-y c = rw (back c.ranges.y, back c.ranges.a) (st c).fit2

pub overflow_sub-b : goal.overflow_sub-b
overflow_sub-b c = rw (back c.ranges.b, back c.ranges.a) (st c).fit3

pub mul_div-requires : goal.mul_div-requires
mul_div-requires c = rw (back c.ranges.high, back c.ranges.low, back c.ranges.y, back c.ranges.a, back c.ranges.b, back (st c).fit1, back (st c).fit2, back (st c).fit3)
    (st c).splits

rise : (c : goal.After-mul_div) → let s = c.before in to_z w64 (of_z w64 c.mul_div.result) ≡ shr_z ((s.args.high -ℤ s.args.low) *ℤ (s.args.y -ℤ s.args.a)) (nat_abs (s.args.b -ℤ s.args.a))
rise c =
    let s = c.before in
    back_ok c.mul_div.result c.mul_div.type_inv
    ∙ (rw (back s.ranges.high, back s.ranges.low, back s.ranges.y, back s.ranges.a, back s.ranges.b, back (st s).fit1, back (st s).fit2, back (st s).fit3) at c.mul_div.ensures)

pub overflow_add-result : goal.overflow_add-result
overflow_add-result c = rw (back c.ranges.low, rise c) (st c.before).fit4

pub returns : goal.returns
returns c = rw (back c.ranges.low, rise c, back (st c.before).fit4)
