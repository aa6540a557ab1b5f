-- `proportion::scaled_wide` is the quotient of the whole product.
use mathlib.Core.Path.{◌≡◌, ◌∙◌}
use Prim.Native.Nat.{◌^◌}
use native.Mathlib.Nat.{le_of_lt}
use lib.Dec.{lit<}
use lib.IntN.{pos, ◌-ℤ◌, ◌*ℤ◌}
use lib.Signed.{shr_z}
use mir.Syntax.{w64}
use mir.Val.{to_z, of_z}
use Rattle.weight.specs.Weight.{units}
use Rattle.integer.proofs.Machine.{back, back_ok}
use Rattle.quotient.proofs.Splits.{divides}
use Rattle.proportion.proofs.Scaling.{Scaling, scaling}
use Rattle.proportion.proofs.scaled_wide.Goals as goal

rh : (c : goal.After-floor_div-h) → to_z w64 (of_z w64 c.floor_div-h.result) ≡ c.floor_div-h.result
rh c = back_ok c.floor_div-h.result c.floor_div-h.type_inv

st : (c : goal.After-floor_div-h) → Scaling c.args.w c.args.b c.floor_div-h.result
st c =
    let s = c.before in
    scaling s.args.w s.args.b c.floor_div-h.result s.requires.0 s.requires.1
    (rw (back s.ranges.b) at c.floor_div-h.ensures)

pub floor_div-h-requires : goal.floor_div-h-requires
floor_div-h-requires c = rw (back c.ranges.b) (divides units (2 ^ 57) (le_of_lt c.requires.1.size) (lit< tt) (lit< tt))

pub overflow_mul-l : goal.overflow_mul-l
overflow_mul-l c = rw (rh c) (st c).fit1

pub overflow_sub-l : goal.overflow_sub-l
overflow_sub-l c = rw (back c.ranges.b, rh c, back (st c).fit1) (st c).fit2

pub overflow_mul-result : goal.overflow_mul-result
overflow_mul-result c = rw (rh c, back c.ranges.w) (st c).fit3

pub mul_div-requires : goal.mul_div-requires
mul_div-requires c = let s = c.before in
    rw (back s.ranges.b, back s.ranges.w, rh c, back (st c).fit1, back (st c).fit2) (st c).splits

-- the two quotients of the rest
inner : (c : goal.After-mul_div) → let d = c.before in to_z w64 (of_z w64 c.mul_div.result) ≡ shr_z (d.args.w *ℤ (d.args.b -ℤ d.floor_div-h.result *ℤ pos units)) 100000
inner c =
    let s = c.before.before in
    let f = st c.before in
    back_ok c.mul_div.result c.mul_div.type_inv
    ∙ (rw (back s.ranges.b, back s.ranges.w, rh c.before, back f.fit1, back f.fit2) at c.mul_div.ensures)

pub floor_div-requires : goal.floor_div-requires
floor_div-requires c = rw (inner c) (st c.before).second

outer : (c : goal.After-floor_div) → let d = c.before.before in to_z w64 (of_z w64 c.floor_div.result) ≡ shr_z (shr_z (d.args.w *ℤ (d.args.b -ℤ d.floor_div-h.result *ℤ pos units)) 100000) 100000
outer c = back_ok c.floor_div.result c.floor_div.type_inv ∙ (rw (inner c.before) at c.floor_div.ensures)

pub overflow_add-result : goal.overflow_add-result
overflow_add-result c = let d = c.before.before in
    rw (back d.ranges.w, rh d, back (st d).fit3, outer c) (st d).fit4

pub returns : goal.returns
returns c = let d = c.before.before in
    rw (back d.ranges.w, rh d, back (st d).fit3, outer c, back (st d).fit4) (st d).is
