-- `quotient::mul_shift` is the quotient of the whole product: the steps of `mul_div`, with shifts for its quotients.
use mathlib.Core.Path.{◌≡◌, refl, sym, ap}
use Prim.Native.Nat.{◌^◌}
use native.Mathlib.Omega.{arith}
use lib.IntN.{nat_abs}
use lib.Signed.{shr_z}
use Rattle.integer.proofs.Machine.{back}
use Rattle.quotient.proofs.Machine.{quotient_fits, Steps, steps}
use Rattle.quotient.proofs.mul_shift.Goals as goal

-- the divisor
by : (c : goal.Start) → 2 ^ c.args.k ≡ nat_abs c.args.m
by c = sym (ap nat_abs c.requires.1)

st : (c : goal.Start) → Steps c.args.a c.args.b c.args.m (shr_z c.args.a (nat_abs c.args.m))
st c = steps c.args.a c.args.b c.args.m (shr_z c.args.a (nat_abs c.args.m)) c.requires.2 refl

pub overflow_cast-h : goal.overflow_cast-h
overflow_cast-h c = record { sfits = omega (arith, c.requires.0) }

pub overflow_shr-h : goal.overflow_shr-h
overflow_shr-h c = omega (arith, c.requires.0)

pub overflow_mul-l : goal.overflow_mul-l
overflow_mul-l c = rw (by c, back c.ranges.a, back c.ranges.m, back (quotient_fits (nat_abs c.args.m) c.ranges.a)) (st c).fit1

pub overflow_sub-l : goal.overflow_sub-l
overflow_sub-l c = rw (by c, back c.ranges.a, back c.ranges.m, back (quotient_fits (nat_abs c.args.m) c.ranges.a), back (st c).fit1)
    (st c).fit2

pub overflow_mul-result : goal.overflow_mul-result
overflow_mul-result c = rw (by c, back c.ranges.a, back c.ranges.b, back (quotient_fits (nat_abs c.args.m) c.ranges.a)) (st c).fit3

pub overflow_mul-result-2 : goal.overflow_mul-result-2
overflow_mul-result-2 c = rw (by c, back c.ranges.a, back c.ranges.b, back c.ranges.m, back (quotient_fits (nat_abs c.args.m) c.ranges.a), back (st c).fit1, back (st c).fit2)
    (st c).fit4

pub overflow_cast-result : goal.overflow_cast-result
overflow_cast-result c = overflow_cast-h c

pub overflow_shr-result : goal.overflow_shr-result
overflow_shr-result c = overflow_shr-h c

pub overflow_add-result : goal.overflow_add-result
overflow_add-result c = rw (by c, back c.ranges.a, back c.ranges.b, back c.ranges.m, back (quotient_fits (nat_abs c.args.m) c.ranges.a), back (st c).fit1, back (st c).fit2, back (st c).fit3, back (st c).fit4, back (quotient_fits (nat_abs c.args.m) (st c).fit4))
    (st c).fit5

pub returns : goal.returns
returns c = rw (by c, back c.ranges.a, back c.ranges.b, back c.ranges.m, back (quotient_fits (nat_abs c.args.m) c.ranges.a), back (st c).fit1, back (st c).fit2, back (st c).fit3, back (st c).fit4, back (quotient_fits (nat_abs c.args.m) (st c).fit4), back (st c).fit5)
    (st c).is
