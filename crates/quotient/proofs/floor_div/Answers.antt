-- `quotient::floor_div` rounds down on both sides of 0: what it divides is above 0.
use native.Mathlib.Omega.{arith}
use Rattle.integer.proofs.Machine.{back}
use Rattle.quotient.proofs.Machine.{above_zero, Lifts, lifts}
use Rattle.quotient.proofs.floor_div.Goals as goal

st : (s : goal.Start) → Lifts s.args.a s.args.m
st s = lifts s.args.a s.args.m s.requires

pub nonzero_div-k : goal.nonzero_div-k
nonzero_div-k c = (above_zero c.args.m c.requires.some, rw (back c.ranges.m) (st c).fit1)

pub overflow_add-k : goal.overflow_add-k
overflow_add-k c = rw (back c.ranges.m, back (st c).fit1) (st c).fit2

pub overflow_mul-result : goal.overflow_mul-result
overflow_mul-result c = rw (back c.ranges.m, back (st c).fit1, back (st c).fit2) (st c).fit3

pub overflow_add-result : goal.overflow_add-result
overflow_add-result c = rw (back c.ranges.a, back c.ranges.m, back (st c).fit1, back (st c).fit2, back (st c).fit3) (st c).fit4

pub overflow_cast-result : goal.overflow_cast-result
overflow_cast-result c = rw (back c.ranges.a, back c.ranges.m, back (st c).fit1, back (st c).fit2, back (st c).fit3, back (st c).fit4)
    ((st c).above, record { fits = omega (arith, (st c).room) })

pub overflow_cast-result-2 : goal.overflow_cast-result-2
overflow_cast-result-2 c = rw (back c.ranges.m) ((st c).divisor, record { fits = omega (arith, (st c).small) })

pub nonzero_div-result : goal.nonzero_div-result
nonzero_div-result c = rw (back c.ranges.m) (st c).some

pub overflow_cast-result-3 : goal.overflow_cast-result-3
overflow_cast-result-3 c = rw (back c.ranges.a, back c.ranges.m, back (st c).fit1, back (st c).fit2, back (st c).fit3, back (st c).fit4)
    (st c).fit5

pub overflow_sub-result : goal.overflow_sub-result
overflow_sub-result c = rw (back c.ranges.a, back c.ranges.m, back (st c).fit1, back (st c).fit2, back (st c).fit3, back (st c).fit4, back (st c).fit5)
    (st c).fit6

pub returns : goal.returns
returns c = rw (back c.ranges.a, back c.ranges.m, back (st c).fit1, back (st c).fit2, back (st c).fit3, back (st c).fit4, back (st c).fit5, back (st c).fit6)
    (st c).is
