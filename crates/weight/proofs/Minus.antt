-- The law of the program's choice for a minus transition: from 1.9 on, `minus_of` is within 2 units of the ideal weight.
-- v / c is the sum as in Near; (v - c) / c is S - 1. The slack closes because S is at least 6.68 there and the weight at most a fifteenth of c.
use mathlib.Core.Path.{◌≡◌, refl}
use Prim.Native.Nat.{ℕ, suc, ◌+◌, ◌-◌, ◌*◌, ◌≤◌, ◌<◌}
use native.Mathlib.Nat.{mul-le-mul_left, mul-le-mul_right, le_of_mul-le-mul_right, le_of_mul-le-mul_left}
use native.Mathlib.Omega.{arith}
use lib.Dec.{lit<, lit≤}
use lib.IntN.{ℤ, pos, negsuc, nat_abs}
use Rattle.integer.specs.Z.{zs, ≤-by}
use Rattle.fraction.proofs.Order.{within_more}
use Rattle.weight.specs.Weight.{num, den, units, tolerance, excess, ideal_minus, IsMinusWeight}
use Rattle.weight.specs.Choice.{scale, inverse, exponential, minus_share, minus_above, minus_of}
use Rattle.weight.proofs.Series.{den_pos, den_le_num}
use Rattle.weight.proofs.Tail.{sum_least}
use Rattle.weight.proofs.Exponential.{exponential_ge}
use Rattle.weight.proofs.Inverse.{Inverse, inverse_is}
use Rattle.weight.proofs.Near.{part_high, part_low, from_24, by_24}
use Rattle.weight.proofs.Near as near

-- ---- how large the sum is, from places where eight terms of it are computed
at_190 : 668 * den units 8 ≤ 100 * num units 19000000000 8
unfolding num den
at_190 = lit≤ tt

from_190 : (u n : ℕ) → 19000000000 ≤ u → 128 ≤ n → 668 * den units n ≤ 100 * num units u n
from_190 u n h k = sum_least units 668 100 19000000000 u 8 n (lit< tt) at_190 h (omega arith)

at_187 : 651 * den units 8 ≤ 100 * num units 18750000000 8
unfolding num den
at_187 = lit≤ tt

-- c is scale / 6.51 at most
pub inverse_small : (i : ℕ) → 30 ≤ i → i < 384 → 651 * inverse i ≤ 100 * scale + 2604
inverse_small i h l =
    let a : ℕ = i * 625000000 in
    let n : ℕ = num units a 128 in
    let far = sum_least units 651 100 18750000000 a 8 128 (lit< tt) at_187 (omega arith) (lit≤ tt) in
    le_of_mul-le-mul_right {k = n}
    (omega (arith, (inverse_is i l).high 128 (lit≤ tt), mul-le-mul_left scale far))
    (omega (arith, den_pos units 128 (lit< tt), den_le_num units a 128))

-- ---- from c and g = v - c to the weight w, the sum being (d + e) / d
module _ (b c g w d e : ℕ) (some : 0 < c) (small : 15 * w ≤ c) (wide : 500 ≤ g) (far : 568 * d ≤ 100 * e) (up : g * d ≤ c * e) where
  minus_high : w * g ≤ b * c + 49 * w → c * e ≤ g * d + 18 * (d + e) → w * e ≤ b * d + 2 * e
  minus_high above low =
      le_of_mul-le-mul_left {k = c}
      (omega (arith, mul-le-mul_left w low, mul-le-mul_right d above, mul-le-mul_right d small, mul-le-mul_right e small, mul-le-mul_left c far))
      some

  minus_low : b * c ≤ (w + 1) * (g + 50) → b * d ≤ (w + 2) * e
  minus_low below =
      le_of_mul-le-mul_left {k = c}
      (omega (arith, mul-le-mul_right d below, mul-le-mul_left (w + 1) up, mul-le-mul_right d small, mul-le-mul_left c far, mul-le-mul_right d wide))
      some

-- w is within 2 of 1 / (S - 1) at u, in naturals
record Near (u w : ℕ) : Type 0 where
  most : w ≤ 2000000000
  low : (n : ℕ) → 128 ≤ n → units * den units n ≤ (w + 2) * excess units u n
  high : (n : ℕ) → 128 ≤ n → w * excess units u n ≤ units * den units n + 2 * excess units u n

-- S is 1 and the excess
pub whole_sum : (b u n : ℕ) → num b u n ≡ den b n + excess b u n
whole_sum b u n = omega (arith, den_le_num b u n)

-- ---- below 24
module _ (a r c : ℕ) (small : r < 625000000) (below : a + r < 240000000000) (is : Inverse 4 122 a c) (few : 651 * c ≤ 100 * scale + 2604) (from : 19000000000 ≤ a + r) where
  abbrev g : ℕ
  g = exponential r - c

  split : exponential r ≡ g + c
  split = omega (arith, exponential_ge r small)

  -- so v - c is more than 15 · 10^10
  broad : 15 * units + 49 ≤ g
  broad = omega (arith, exponential_ge r small)

  module _ (n : ℕ) (h : 128 ≤ n) where
    far : 568 * den units n ≤ 100 * excess units (a + r) n
    far = omega (arith, from_190 (a + r) n from h, whole_sum units (a + r) n)

    up : g * den units n ≤ c * excess units (a + r) n
    up = omega (arith, rw (split, whole_sum units (a + r) n) at (near.up a r c small below is n h))

    low : c * excess units (a + r) n ≤ g * den units n + 18 * (den units n + excess units (a + r) n)
    low = omega (arith, rw (split, whole_sum units (a + r) n) at (near.low a r c small below is n h))

  near_below : (w : ℕ) → w ≡ minus_share c (exponential r) → Near (a + r) w
  unfolding minus_share
  near_below w e =
      record {
        most = omega (arith, part);
        low = λ n h.
            minus_low units c g w (den units n) (excess units (a + r) n) some part (omega (arith, broad)) (far n h) (up n h)
            (part_low c g w e (omega (arith, broad)));
        high = λ n h.
            minus_high units c g w (den units n) (excess units (a + r) n) some part (omega (arith, broad)) (far n h) (up n h)
            (part_high c g w e) (low n h);
      }
    where
      some : 0 < c
      some = near.some a r c small below is

      part : 15 * w ≤ c
      part = le_of_mul-le-mul_left {k = units} (omega (arith, part_high c g w e, mul-le-mul_left w broad)) (lit< tt)

-- ---- from 24 on
near_zero_lem : (u : ℕ) → 240000000000 ≤ u → Near u 0
near_zero_lem u h =
    record {
      most = omega arith;
      low = λ n k. omega (arith, from_24 u n h k, whole_sum units u n);
      high = λ n k. omega arith;
    }

near_above : (u : ℕ) → 19000000000 ≤ u → Near u (minus_above u)
unfolding minus_above
near_above u from =
    by_24 Near minus_share u
    (λ i r l s e.
    near_below (i * 625000000) r (inverse i) s (omega arith) (inverse_is i l) (inverse_small i (omega arith) l) (omega arith)
    (minus_share (inverse i) (exponential r)) refl)
    (near_zero_lem u)

pub minus_most : (u : ℕ) → 19000000000 ≤ u → minus_above u ≤ 2000000000
minus_most u h = (near_above u h).most

-- ---- in whole numbers, for both signs
some_excess : (u n : ℕ) → 19000000000 ≤ u → 128 ≤ n → 0 < excess units u n
some_excess u n h k = omega (arith, from_190 u n h k, whole_sum units u n, den_pos units n (lit< tt))

pub minus_near : (q : ℤ) → 19000000000 ≤ nat_abs q → IsMinusWeight 2 q (minus_of q)
unfolding minus_of ideal_minus
minus_near (pos u) from =
    let h = near_above u from in
    record {
      near = λ n k.
          record {
            proper = record { some = omega (arith, some_excess u n from k) };
            low = ≤-by (search zs) (omega (arith, h.low n k));
            high = ≤-by (search zs) (omega (arith, h.high n k));
          };
    }
minus_near (negsuc m) from =
    let h = near_above (suc m) from in
    record {
      near = λ n k.
          record {
            proper = record { some = omega (arith, some_excess (suc m) n from k) };
            low = ≤-by (search zs) (omega (arith, h.high n k, whole_sum units (suc m) n));
            high = ≤-by (search zs) (omega (arith, h.low n k, whole_sum units (suc m) n));
          };
    }

pub minus_is : (q : ℤ) → 19000000000 ≤ nat_abs q → IsMinusWeight tolerance q (minus_of q)
minus_is q from = record { near = λ n k. within_more (lit≤ tt) ((minus_near q from).near n k) }
