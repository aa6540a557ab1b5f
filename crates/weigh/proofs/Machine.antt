-- A weight by the sign of the transition and that of q, from the weight at the size of q; how large the latter is.
use mathlib.Core.Bool.{true, false, true≢false}
use mathlib.Core.Path.{◌≡◌, refl}
use Prim.Native.Nat.{◌≤◌}
use native.Mathlib.Nat.{not-suc-le-zero}
use native.Mathlib.Omega.{arith}
use borrow.Author.Tests.{ltb-true}
use lib.IntN.{ℤ, pos, negsuc, nat_abs, ◌+ℤ◌, ◌-ℤ◌}
use lib.Signed.{lt_z}
use Rattle.integer.specs.Z.{zs, ≡-by}
use Rattle.weight.specs.Weight.{units}
use Rattle.weight.specs.Choice.{weight_above, weight_of, minus_above, minus_of, above_by, Served}
use Rattle.weight.proofs.Near.{above_most}
use Rattle.weight.proofs.Minus.{minus_most}
use Rattle.weigh.specs.declared.Sign.{Sign}
use Rattle.weigh.specs.declared.Sign.TheVariants.{Plus, Minus}
use Rattle.weigh.specs.Signs.{is_minus, sign_of}

pub size_most : (s : Sign) (q : ℤ) → Served (sign_of s) q → above_by (is_minus s) (nat_abs q) ≤ units
size_most Plus q h = above_most (nat_abs q)
size_most Minus q h = omega (arith, minus_most (nat_abs q) h)

pub plus_below : (q : ℤ) → lt_z q (pos 0) ≡ true → pos units -ℤ pos (weight_above (nat_abs q)) ≡ weight_of q
unfolding weight_of
plus_below (pos n) e = absurd (not-suc-le-zero (ltb-true n 0 e))
plus_below (negsuc m) e = let h = above_most (nat_abs (negsuc m)) in ≡-by (search zs) (omega (arith, h))

pub plus_above : (q : ℤ) → lt_z q (pos 0) ≡ false → pos (weight_above (nat_abs q)) ≡ weight_of q
unfolding weight_of
plus_above (pos n) e = refl
plus_above (negsuc m) e = absurd (true≢false e)

pub minus_below : (q : ℤ) → lt_z q (pos 0) ≡ true → pos units +ℤ pos (minus_above (nat_abs q)) ≡ minus_of q
unfolding minus_of
minus_below (pos n) e = absurd (not-suc-le-zero (ltb-true n 0 e))
minus_below (negsuc m) e = refl

pub minus_above_is : (q : ℤ) → lt_z q (pos 0) ≡ false → pos 0 -ℤ pos (minus_above (nat_abs q)) ≡ minus_of q
unfolding minus_of
minus_above_is (pos n) e = ≡-by (search zs) (omega arith)
minus_above_is (negsuc m) e = absurd (true≢false e)
