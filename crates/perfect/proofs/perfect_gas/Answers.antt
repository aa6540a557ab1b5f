-- `perfect::perfect_gas` is the perfect gas's quotient: no step leaves 64 bits, and the two digits make it.
use native.Mathlib.Omega.{arith}
use Rattle.perfect.proofs.Quotient.{sum_fits, quotient_most, rest_most, perfect_is}
use Rattle.perfect.proofs.perfect_gas.Goals as goal

pub overflow_mul-u : goal.overflow_mul-u
overflow_mul-u c = omega (arith, rest_most c.args.p c.args.d c.requires)

pub overflow_add-u : goal.overflow_add-u
overflow_add-u c = omega (arith, rest_most c.args.p c.args.d c.requires)

pub overflow_mul-result : goal.overflow_mul-result
overflow_mul-result c = omega (arith, quotient_most c.args.p c.args.d c.requires)

pub overflow_add-result : goal.overflow_add-result
overflow_add-result c = sum_fits _ _ _ (omega (arith, quotient_most c.args.p c.args.d c.requires, rest_most c.args.p c.args.d c.requires))

pub returns : goal.returns
returns c = perfect_is c.args.p c.args.d c.requires
