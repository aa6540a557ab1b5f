-- `quotient::mul_div` is the quotient of the whole product.
use mathlib.Core.Path.{◌≡◌, ◌∙◌}
use lib.IntN.{nat_abs, ◌-ℤ◌, ◌*ℤ◌}
use lib.Signed.{shr_z}
use mir.Syntax.{w64}
use mir.Val.{to_z, of_z}
use Rattle.integer.proofs.Machine.{back, back_ok}
use Rattle.quotient.proofs.Machine.{Steps, steps}
use Rattle.quotient.proofs.mul_div.Goals as goal

rh : (c : goal.After-floor_div-h) → to_z w64 (of_z w64 c.floor_div-h.result) ≡ c.floor_div-h.result
rh c = back_ok c.floor_div-h.result c.floor_div-h.type_inv

st : (c : goal.After-floor_div-h) → Steps c.args.a c.args.b c.args.m c.floor_div-h.result
st c =
    let s = c.before in
    steps s.args.a s.args.b s.args.m c.floor_div-h.result s.requires
    (rw (back s.ranges.a, back s.ranges.m) at c.floor_div-h.ensures)

pub floor_div-h-requires : goal.floor_div-h-requires
floor_div-h-requires c = rw (back c.ranges.a, back c.ranges.m) c.requires.first

pub overflow_mul-l : goal.overflow_mul-l
overflow_mul-l c = rw (rh c, back c.ranges.m) (st c).fit1

pub overflow_sub-l : goal.overflow_sub-l
overflow_sub-l c = let s = c.before in rw (back s.ranges.a, rh c, back s.ranges.m, back (st c).fit1) (st c).fit2

pub overflow_mul-result : goal.overflow_mul-result
overflow_mul-result c = rw (rh c, back c.ranges.b) (st c).fit3

pub overflow_mul-l-2 : goal.overflow_mul-l-2
overflow_mul-l-2 c = let s = c.before in
    rw (back s.ranges.a, back s.ranges.b, rh c, back s.ranges.m, back (st c).fit1, back (st c).fit2) (st c).fit4

pub floor_div-requires : goal.floor_div-requires
floor_div-requires c = let s = c.before in
    rw (back s.ranges.a, back s.ranges.b, rh c, back s.ranges.m, back (st c).fit1, back (st c).fit2, back (st c).fit4) (st c).second

-- the second quotient, as the machine reads it
rest : (c : goal.After-floor_div) → to_z w64 (of_z w64 c.floor_div.result)
    ≡ shr_z ((c.args.a -ℤ c.floor_div-h.result *ℤ c.args.m) *ℤ c.args.b) (nat_abs c.args.m)
rest c =
    let s = c.before.before in
    let f = st c.before in
    back_ok c.floor_div.result c.floor_div.type_inv
    ∙ (rw (back s.ranges.a, back s.ranges.b, rh c.before, back s.ranges.m, back f.fit1, back f.fit2, back f.fit4) at c.floor_div.ensures)

pub overflow_add-result : goal.overflow_add-result
overflow_add-result c = let s = c.before.before in
    let f = st c.before in
    rw (back s.ranges.b, rh c.before, back f.fit3, rest c) f.fit5

pub returns : goal.returns
returns c = let s = c.before.before in
    let f = st c.before in
    rw (back s.ranges.b, rh c.before, back f.fit3, rest c, back f.fit5) f.is
