-- Tests of order on whole numbers, for `omega`.
use mathlib.Core.Bool.{true, false}
use mathlib.Core.Path.{◌≡◌}
use Prim.Native.Nat.{◌+◌, ◌≤◌, ◌<◌}
use native.Mathlib.Omega.{arith}
use lib.IntN.{ℤ}
use lib.Signed.{le_z, lt_z}
use Rattle.integer.specs.Z.{up, dn, ≤→, →≤, <→, →<}
use Rattle.integer.specs.Tests.{test_le, test_lt, test_not_le, test_not_lt, le_test, not_le_test}

pub le : (a b : ℤ) → le_z a b ≡ true → up a + dn b ≤ up b + dn a
le a b e = ≤→ (test_le {a = a} {b = b} e)

pub gt : (a b : ℤ) → le_z a b ≡ false → up b + dn a < up a + dn b
gt a b e = <→ (test_not_le {a = a} {b = b} e)

pub lt : (a b : ℤ) → lt_z a b ≡ true → up a + dn b < up b + dn a
lt a b e = <→ (test_lt {a = a} {b = b} e)

pub ge : (a b : ℤ) → lt_z a b ≡ false → up b + dn a ≤ up a + dn b
ge a b e = ≤→ (test_not_lt {a = a} {b = b} e)

pub le_true : (a b : ℤ) → up a + dn b ≤ up b + dn a → le_z a b ≡ true
le_true a b h = le_test {a = a} {b = b} (→≤ h)

pub le_false : (a b : ℤ) → up b + dn a < up a + dn b → le_z a b ≡ false
le_false a b h = not_le_test {a = a} {b = b} (→< h)

pub ruleset tests = (arith, le, gt, lt, ge, le_true, le_false)
