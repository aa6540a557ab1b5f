-- The law of the program's choice: `weight_of` is a weight, within 2 units of the ideal one for every number of terms from 128 up.
-- Budget, in units of 1 / scale: 13 from the short sum, and 4 from the tables that count as 5 beside the whole sum; 18 · 10^10 is at most scale.
-- That is 1 unit of the weight; the rounding of the sum c + v to hundreds is less than another.
use mathlib.Core.Bool.{Bool, true, false}
use mathlib.Core.Path.{◌≡◌, refl, ap, subst}
use Prim.Native.Nat.{ℕ, zero, suc, ◌+◌, ◌-◌, ◌*◌, ◌/◌, ◌%◌, ◌≤◌, ◌<◌}
use native.Mathlib.Nat.{mul-le-mul_left, mul-le-mul_right, mul-pos, le_of_mul-le-mul_right, le_of_mul-le-mul_left}
use native.Mathlib.Nat.{div-mul-le_self, lt-div-mul-add, div-add-mod', mod-lt}
use native.Mathlib.Omega.{arith}
use borrow.Author.Tests.{ltb-true, ltb-false}
use lib.Dec.{ltb, lit<, lit≤}
use lib.IntN.{ℤ, pos, negsuc}
use Rattle.integer.specs.Z.{zs, ≤-by}
use Rattle.fraction.specs.Fraction.{Within, parts, times, whole}
use Rattle.fraction.proofs.Order.{within_more}
use Rattle.weight.specs.Weight.{num, den, units, tolerance, ideal, IsWeight}
use Rattle.weight.specs.Choice.{scale, inverse, exponential, portion, share, or_zero, weight_above, weight_of}
use Rattle.weight.proofs.Series.{den_pos, den_le_num}
use Rattle.weight.proofs.Tail.{sum_mono, sum_least}
use Rattle.weight.proofs.Exponential.{exponential_up, exponential_low, exponential_ge}
use Rattle.weight.proofs.Addition.{add_up, add_low}
use Rattle.weight.proofs.Inverse.{Inverse, product_le, inverse_is}
use Rattle.weight.proofs.Sizes.{inverse_le}

-- ---- from c and v to the sum at a + r: v / c beside z / d
-- the sums at a and at r, over dm and dk, at a + r over d
ratio_up : (s c v dm dk d x y z : ℕ) → 0 < s → 0 < dm → 0 < dk → s * dm ≤ c * x → v * dk ≤ s * y → x * y * d ≤ z * (dm * dk) → v * d ≤ c * z
ratio_up s c v dm dk d x y z ps pm pk hc hv low =
    le_of_mul-le-mul_right {k = s * (dm * dk)}
    (omega (arith, mul-le-mul_right (s * dm * d) hv, mul-le-mul_right (s * y * d) hc, mul-le-mul_left (s * c) low))
    (mul-pos ps (mul-pos pm pk))

-- the sums at a, at r and at a + r, over d
ratio_low : (s c v d x y z : ℕ) → 0 < d → c * x ≤ s * d + 4 * x → s * y ≤ (v + 13) * d → d * z ≤ x * y → 4 * (x * y) ≤ 5 * (z * d) → d ≤ z
    → c * z ≤ v * d + 18 * z
ratio_low s c v d x y z pd hc hv up most dz =
    le_of_mul-le-mul_right {k = d}
    (omega (arith, mul-le-mul_left c up, mul-le-mul_right y hc, mul-le-mul_right d hv, mul-le-mul_right d dz))
    pd

-- ---- w is 10^10 · c / g, with g rounded to hundreds
module _ (c g w : ℕ) (e : w ≡ portion c g) where
  abbrev hundreds : ℕ
  hundreds = (g + 50) / 100

  rounded_high : g + 50 < hundreds * 100 + 100
  rounded_high = lt-div-mul-add {a = g + 50} {b = 100} (lit< tt)

  pub part_high : w * g ≤ units * c + 49 * w
  part_high =
      let k : g ≤ hundreds * 100 + 49 = omega (arith, rounded_high) in
      let q : w * hundreds ≤ c * 100000000 = rw e (div-mul-le_self (c * 100000000) hundreds) in
      omega (arith, mul-le-mul_left w k)

  pub part_low : 50 ≤ g → units * c ≤ (w + 1) * (g + 50)
  part_low wide =
      let q : c * 100000000 < w * hundreds + hundreds = rw e (lt-div-mul-add {a = c * 100000000} {b = hundreds} (omega (arith, rounded_high))) in
      omega (arith, mul-le-mul_left (w + 1) (div-mul-le_self (g + 50) 100))

-- ---- from v / c to the weight w, which is near b · c / (c + v): p / d is the sum at q
module _ (b c v w : ℕ) (some : 0 < c) (hv : 18 * b ≤ v) (hc : c ≤ v + 1) (hb : 100 ≤ b) (above : w * (c + v) ≤ b * c + 49 * w) where
  share_small : 17 * w ≤ c
  share_small = le_of_mul-le-mul_left {k = b} (omega (arith, mul-le-mul_left w hv, mul-le-mul_right w hb)) (omega arith)

  -- the weight is at most one half, but for the rounding
  share_half : 2 * w ≤ b + 3
  share_half = le_of_mul-le-mul_left {k = c} (omega (arith, mul-le-mul_left w hc, share_small)) some

  share_most : w ≤ b
  share_most = omega (arith, share_half)

  share_narrow : 50 * (w + 1) ≤ c + v
  share_narrow = omega (arith, share_small, share_half)

  module _ (p d : ℕ) (up : v * d ≤ c * p) where
    share_low : b * c ≤ (w + 1) * (c + v + 50) → b * d ≤ (w + 2) * (d + p)
    share_low h =
        le_of_mul-le-mul_left {k = c}
        (omega (arith, mul-le-mul_right d h, mul-le-mul_left (w + 1) up, mul-le-mul_right d share_narrow))
        some

    share_high : d ≤ p → c * p ≤ v * d + 18 * p → w * (d + p) ≤ b * d + 2 * (d + p)
    share_high dp low =
        le_of_mul-le-mul_left {k = c}
        (omega (arith, mul-le-mul_right d above, mul-le-mul_left w low, mul-le-mul_right p share_small, mul-le-mul_right d share_small, mul-le-mul_left c dp))
        some

-- w is within 2 of the ideal weight at u, in naturals
record Near (u w : ℕ) : Type 0 where
  most : w ≤ units
  low : (n : ℕ) → 128 ≤ n → units * den units n ≤ (w + 2) * (den units n + num units u n)
  high : (n : ℕ) → 128 ≤ n → w * (den units n + num units u n) ≤ units * den units n + 2 * (den units n + num units u n)

-- ---- below 24
module _ (a r c : ℕ) (small : r < 625000000) (below : a + r < 240000000000) (is : Inverse 4 122 a c) where
  abbrev pub v : ℕ
  v = exponential r

  up_128 : v * den units 128 ≤ c * num units (a + r) 128
  up_128 =
      ratio_up scale c v (den units 122) (den units 6) (den units 128) (num units a 122) (num units r 6) (num units (a + r) 128)
      (lit< tt) (den_pos units 122 (lit< tt)) (den_pos units 6 (lit< tt)) is.low (exponential_up r small) (add_low units a r 122 6 (lit< tt))

  pub up : (n : ℕ) → 128 ≤ n → v * den units n ≤ c * num units (a + r) n
  up n h =
      le_of_mul-le-mul_right {k = den units 128}
      (omega (arith, mul-le-mul_right (den units n) up_128, mul-le-mul_left c (sum_mono units (a + r) 128 n (lit< tt) h)))
      (den_pos units 128 (lit< tt))

  pub low : (n : ℕ) → 128 ≤ n → c * num units (a + r) n ≤ v * den units n + 18 * num units (a + r) n
  low n h =
      ratio_low scale c v (den units n) (num units a n) (num units r n) (num units (a + r) n)
      (den_pos units n (lit< tt)) (is.high n h)
      (exponential_low r small n (omega arith))
      (add_up units a r n (lit< tt)) (product_le units a r n (lit< tt) (omega arith)) (den_le_num units (a + r) n)

  pub some : 0 < c
  some = by c is.low
    where
      by : (c : ℕ) → scale * den units 122 ≤ c * num units a 122 → 0 < c
      by zero h = let f : ⊥ = omega (arith, den_pos units 122 (lit< tt)) in absurd f
      by (suc c) h = omega arith

  near_below : (w : ℕ) → c ≤ scale + 1 → w ≡ share c v → Near (a + r) w
  unfolding share
  near_below w most e =
      record {
        most = share_most units c v w some enough apart (lit≤ tt) quotient_high;
        low = λ n h. share_low units c v w some enough apart (lit≤ tt) quotient_high (num units (a + r) n) (den units n) (up n h) quotient_low;
        high = λ n h.
            share_high units c v w some enough apart (lit≤ tt) quotient_high (num units (a + r) n) (den units n) (up n h)
            (den_le_num units (a + r) n) (low n h);
      }
    where
      enough : 18 * units ≤ v
      enough = omega (arith, exponential_ge r small)

      apart : c ≤ v + 1
      apart = omega (arith, exponential_ge r small)

      quotient_high : w * (c + v) ≤ units * c + 49 * w
      quotient_high = part_high c (c + v) w e

      quotient_low : units * c ≤ (w + 1) * (c + v + 50)
      quotient_low = part_low c (c + v) w e (omega (arith, enough))

-- ---- from 24 on: the sum is above 10^10
at_24 : units * den units 128 ≤ num units 240000000000 128
unfolding num den
at_24 = lit≤ tt

pub from_24 : (u n : ℕ) → 240000000000 ≤ u → 128 ≤ n → units * den units n ≤ num units u n
from_24 u n h k = omega (arith, sum_least units units 1 240000000000 u 128 n (lit< tt) (omega (arith, at_24)) h k)

near_zero_lem : (u : ℕ) → 240000000000 ≤ u → Near u 0
near_zero_lem u h = record { most = omega arith; low = λ n k. omega (arith, from_24 u n h k); high = λ n k. omega arith }

-- what holds of u taken apart, below 24, and of 0 from there on holds of the choice's cases
pub by_24 : (P : ℕ → ℕ → Type 0) (f : ℕ → ℕ → ℕ) (u : ℕ)
    → ((i r : ℕ) → i < 384 → r < 625000000 → i * 625000000 + r ≡ u → P (i * 625000000 + r) (f (inverse i) (exponential r)))
    → (240000000000 ≤ u → P u 0)
    → P u (or_zero (ltb u 240000000000) (f (inverse (u / 625000000)) (exponential (u % 625000000))))
by_24 P f u below from = by (ltb u 240000000000) refl
  where
    i : ℕ
    i = u / 625000000

    r : ℕ
    r = u % 625000000

    whole_is : i * 625000000 + r ≡ u
    whole_is = div-add-mod' u 625000000

    by : (t : Bool) → ltb u 240000000000 ≡ t → P u (or_zero t (f (inverse i) (exponential r)))
    by true e =
        let h = ltb-true u 240000000000 e in
        subst (λ (x : ℕ). P x (f (inverse i) (exponential r))) whole_is (below i r (omega arith) (mod-lt u (lit< tt)) whole_is)
    by false e = from (ltb-false u 240000000000 e)

near_above : (u : ℕ) → Near u (weight_above u)
unfolding weight_above
near_above u =
    by_24 Near share u
    (λ i r l s e. near_below (i * 625000000) r (inverse i) s (omega arith) (inverse_is i l) (share (inverse i) (exponential r)) (inverse_le i l) refl)
    (near_zero_lem u)

-- ---- in whole numbers, for both signs
pub within : (k w t d : ℕ) → 0 < d → w * d ≤ units * t + k * d → units * t ≤ (w + k) * d → Within k (pos w) (times (whole (pos units)) (parts d (pos t)))
within k w t d p h l =
    record { proper = record { some = omega arith }; low = ≤-by (search zs) (omega arith); high = ≤-by (search zs) (omega arith) }

pub weight_near : (q : ℤ) → IsWeight 2 q (weight_of q)
unfolding weight_of ideal
weight_near (pos u) =
    let h = near_above u in
    record {
      least = ≤-by (search zs) (omega arith);
      most = ≤-by (search zs) (omega (arith, h.most));
      near = λ n k. within 2 (weight_above u) (den units n) (den units n + num units u n) (omega (arith, den_pos units n (lit< tt))) (h.high n k) (h.low n k);
    }
weight_near (negsuc m) =
    let h = near_above (suc m) in
    let e : units - weight_above (suc m) + weight_above (suc m) ≡ units = omega (arith, h.most) in
    record {
      least = ≤-by (search zs) (omega arith);
      most = ≤-by (search zs) (omega arith);
      near = λ n k.
          let c = den units n + num units (suc m) n in
          within 2 (units - weight_above (suc m)) (num units (suc m) n) c (omega (arith, den_pos units n (lit< tt)))
          (omega (arith, h.low n k, ap (λ x. x * c) e))
          (omega (arith, h.high n k, ap (λ x. x * c) e));
    }

pub weight_is : (q : ℤ) → IsWeight tolerance q (weight_of q)
weight_is q =
    let h = weight_near q in
    record { least = h.least; most = h.most; near = λ n k. within_more (lit≤ tt) (h.near n k) }

pub above_most : (u : ℕ) → weight_above u ≤ units
above_most u = (near_above u).most
