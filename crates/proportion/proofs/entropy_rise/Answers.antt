-- `proportion::entropy_rise` is `mul_div` at the product of the two constants.
use mathlib.Core.Path.{◌≡◌, ◌∙◌, ap}
use native.Mathlib.Nat.{le_of_lt}
use native.Mathlib.Omega.{arith}
use Prim.Native.Nat.{◌*◌, ◌^◌}
use lib.Dec.{lit<, lit≤}
use lib.IntN.{ℤ, pos, ◌*ℤ◌}
use lib.Signed.{shr_z}
use Rattle.integer.specs.Z.{zs, v, ≡-by}
use Rattle.integer.proofs.Machine.{back, back_ok}
use Rattle.quotient.proofs.Splits.{splits}
use Rattle.proportion.proofs.entropy_rise.Goals as goal

regrouped : (m : ℤ) → pos 66098005010 *ℤ m ≡ m *ℤ pos 28706 *ℤ pos 2302585
regrouped m = let vm = v m in ≡-by (search zs) (omega arith)

pub mul_div-requires : goal.mul_div-requires
mul_div-requires c = rw (back c.ranges.m)
    (splits 20000000000 66098005010 (2 ^ 27) (lit≤ tt) (le_of_lt c.requires.size) (lit< tt) (lit< tt) (lit< tt) (lit< tt))

pub returns : goal.returns
returns c = back_ok c.mul_div.result c.mul_div.type_inv
    ∙ (rw (back c.ranges.m) at c.mul_div.ensures)
    ∙ ap (λ (x : ℤ). shr_z x (2 * 10 ^ 10)) (regrouped c.args.m)
