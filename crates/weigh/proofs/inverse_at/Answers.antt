-- `weigh::inverse_at` meets its contract: the entries are at most scale, so that each product fits.
use mathlib.Core.Path.{refl, ap}
use Prim.Native.Nat.{◌+◌, ◌/◌, ◌%◌}
use native.Mathlib.Omega.{arith}
use lib.Dec.{lit<}
use lib.ListN.{get_or}
use Rattle.weight.specs.Choice.{wholes, sixteenths, inverse}
use Rattle.weigh.proofs.Digits.{split_product}
use Rattle.weight.proofs.Sizes.{product}
use Rattle.weigh.proofs.inverse_at.Goals as goal

pub overflow_mul-result : goal.overflow_mul-result
overflow_mul-result c = omega (arith, product c.args.i _ _ c.requires refl refl)

pub overflow_mul-result-2 : goal.overflow_mul-result-2
overflow_mul-result-2 c = omega (arith, product c.args.i _ _ c.requires refl refl)

pub overflow_add-result : goal.overflow_add-result
overflow_add-result c = omega (arith, product c.args.i _ _ c.requires refl refl)

pub returns : goal.returns
unfolding inverse
returns c = let i = c.args.i in ap (λ x. x + 1) (split_product (get_or wholes (i / 16) 0) (get_or sixteenths (i % 16) 0) 10000 18000000 (lit< tt))
