-- The entries of the tables are at most scale, so that their products fit 64 bits.
use mathlib.Core.Path.{◌≡◌, refl}
use Prim.Native.Nat.{ℕ, ◌+◌, ◌*◌, ◌/◌, ◌%◌, ◌≤◌, ◌<◌}
use native.Mathlib.Nat.{mul-le-mul, div-le_of_le-mul, mod-lt}
use native.Mathlib.Omega.{arith}
use lib.Dec.{leb, leb→le, lit<}
use lib.ListN.{get_or}
use Rattle.weight.specs.Choice.{scale, wholes, sixteenths, inverse}
use Rattle.weight.proofs.Table.{at}

whole_le : (n : ℕ) → n < 24 → get_or wholes n 0 ≤ scale
whole_le n h = leb→le _ _ (at (λ i x. leb x scale) wholes tt n h)

sixteenth_le : (j : ℕ) → j < 16 → get_or sixteenths j 0 ≤ scale
sixteenth_le j h = leb→le _ _ (at (λ i x. leb x scale) sixteenths tt j h)

-- a product of two entries, whole and with the first taken apart
pub record Product (a b : ℕ) : Type 0 where
  pub all : a * b ≤ scale * scale
  pub high : a / 10000 * b ≤ 18000000 * scale
  pub low : a % 10000 * b ≤ 10000 * scale

pub product : (i a b : ℕ) → i < 384 → a ≡ get_or wholes (i / 16) 0 → b ≡ get_or sixteenths (i % 16) 0 → Product a b
product i a b h ea eb =
    let ha : a ≤ scale = rw ea (whole_le (i / 16) (omega arith)) in
    let hb : b ≤ scale = rw eb (sixteenth_le (i % 16) (mod-lt i (lit< tt))) in
    let high : a / 10000 ≤ 18000000 = omega arith in
    let low : a % 10000 ≤ 10000 = omega arith in
    record { all = mul-le-mul ha hb; high = mul-le-mul high hb; low = mul-le-mul low hb }

pub inverse_le : (i : ℕ) → i < 384 → inverse i ≤ scale + 1
unfolding inverse
inverse_le i h =
    let p = product i _ _ h refl refl in
    omega (arith, div-le_of_le-mul scale {m = get_or wholes (i / 16) 0 * get_or sixteenths (i % 16) 0} {n = scale} p.all)
