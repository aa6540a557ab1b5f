-- `proportion::entropy_of_fit` is `mul_div` at 28,706 and 10^8.
use mathlib.Core.Path.{◌∙◌, ap}
use native.Mathlib.Nat.{le_of_lt}
use Prim.Native.Nat.{◌^◌}
use lib.Dec.{lit<, lit≤}
use lib.IntN.{ℤ, pos, *ℤ_comm}
use lib.Signed.{shr_z}
use Rattle.integer.proofs.Machine.{back, back_ok}
use Rattle.quotient.proofs.Splits.{splits}
use Rattle.proportion.proofs.entropy_of_fit.Goals as goal

pub mul_div-requires : goal.mul_div-requires
mul_div-requires c = rw (back c.ranges.n)
    (splits 100000000 (2 ^ 57) 28706 (le_of_lt c.requires.size) (lit≤ tt) (lit< tt) (lit< tt) (lit< tt) (lit< tt))

pub returns : goal.returns
returns c = back_ok c.mul_div.result c.mul_div.type_inv
    ∙ (rw (back c.ranges.n) at c.mul_div.ensures)
    ∙ ap (λ (x : ℤ). shr_z x (10 ^ 8)) (*ℤ_comm c.args.n (pos 28706))
