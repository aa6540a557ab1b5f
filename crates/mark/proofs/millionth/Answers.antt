-- `mark::millionth` rounds down on both sides of 0: below it the quotient is that of -1 - a.
use mathlib.Core.Bool.{true, false, true≢false}
use mathlib.Core.Path.{◌≡◌, refl}
use Prim.Native.Nat.{◌/◌, ◌^◌, ◌<◌}
use native.Mathlib.Nat.{div-le_self, not-suc-le-zero}
use native.Mathlib.Omega.{arith}
use borrow.Author.Tests.{ltb-true}
use lib.Dec.{lit<}
use lib.IntN.{ℤ, pos, negsuc, ◌-ℤ◌}
use lib.Signed.{mag, lt_z, quot_z, shr_z}
use mir.Syntax.{w64}
use mir.Val.{SFits}
use Rattle.integer.specs.Z.{zs, ≡-by}
use Rattle.integer.proofs.Machine.{back}
use Rattle.mark.proofs.millionth.Goals as goal
use Rattle.mark.proofs.millionth.Goals.{Else-a-lt0, Then-a-lt0}

-- the steps below 0
record Below (a : ℤ) : Type 0 where
  fit1 : SFits w64 (negsuc 0 -ℤ a)
  fit2 : SFits w64 (quot_z (negsuc 0 -ℤ a) (pos 1000000))
  fit3 : SFits w64 (negsuc 0 -ℤ quot_z (negsuc 0 -ℤ a) (pos 1000000))
  is : negsuc 0 -ℤ quot_z (negsuc 0 -ℤ a) (pos 1000000) ≡ shr_z a 1000000

below : (a : ℤ) → mag a < 2 ^ 63 → lt_z a (pos 0) ≡ true → Below a
below (pos n) h e = absurd (not-suc-le-zero (ltb-true n 0 e))
below (negsuc n) h e =
    let up : negsuc 0 -ℤ negsuc n ≡ pos n = ≡-by (search zs) (omega arith) in
    let down : negsuc 0 -ℤ pos (n / 1000000) ≡ negsuc (n / 1000000) = ≡-by (search zs) (omega arith) in
    let small : n / 1000000 < 2 ^ 63 = omega (arith, div-le_self n 1000000) in
    record {
      fit1 = rw up (record { sfits = h });
      fit2 = rw up (record { sfits = small });
      fit3 = rw (up, down) (record { sfits = small });
      is = rw up down;
    }

-- the step from 0 on
record Above (a : ℤ) : Type 0 where
  fit : SFits w64 (quot_z a (pos 1000000))
  is : quot_z a (pos 1000000) ≡ shr_z a 1000000

above : (a : ℤ) → mag a < 2 ^ 63 → lt_z a (pos 0) ≡ false → Above a
above (pos n) h e = record { fit = record { sfits = omega (arith, div-le_self n 1000000) }; is = refl }
above (negsuc n) h e = absurd (true≢false e)

neg : (c : Then-a-lt0) → Below c.args.a
neg c = below c.args.a c.ranges.a.sfits (rw (back c.ranges.a) at c.if-a-lt0.true)

non : (c : Else-a-lt0) → Above c.args.a
non c = above c.args.a c.ranges.a.sfits (rw (back c.ranges.a) at c.if-a-lt0.false)

pub overflow_sub-result : goal.overflow_sub-result
overflow_sub-result c = rw (back c.ranges.a) (neg c).fit1

pub nonzero_div-result : goal.nonzero_div-result
nonzero_div-result c = rw (back c.ranges.a, back (neg c).fit1) (lit< tt, (neg c).fit2)

pub overflow_sub-result-then-a-lt0 : goal.overflow_sub-result-then-a-lt0
overflow_sub-result-then-a-lt0 c = rw (back c.ranges.a, back (neg c).fit1, back (neg c).fit2) (neg c).fit3

pub returns-then-a-lt0 : goal.returns-then-a-lt0
returns-then-a-lt0 c = rw (back c.ranges.a, back (neg c).fit1, back (neg c).fit2, back (neg c).fit3) (neg c).is

pub nonzero_div-result-2 : goal.nonzero_div-result-2
nonzero_div-result-2 c = rw (back c.ranges.a) (lit< tt, (non c).fit)

pub returns : goal.returns
returns c = rw (back c.ranges.a, back (non c).fit) (non c).is
