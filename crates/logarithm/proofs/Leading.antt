-- The logarithm of the leading bits: times its factor such a number is just above 2 ^ 62. Assumes nothing.
use mathlib.Core.Path.{◌≡◌, refl, subst}
use Prim.Native.Nat.{ℕ, zero, suc, ◌+◌, ◌*◌, ◌/◌, ◌%◌, ◌≤◌, ◌<◌}
use native.Mathlib.Nat.{mul-le-mul_right}
use native.Mathlib.Omega.{arith}
use lib.Dec.{lit<}
use lib.ListN.{get_or}
use Rattle.logarithm.specs.Choice.{factors, factor_logs, near_one, mantissa_of}
use Rattle.logarithm.proofs.Bounds.{Lo, Hi, lo_factor, hi_factor, hi_unit}
use Rattle.logarithm.proofs.Points.{First, first_at, unit}
use Rattle.logarithm.proofs.Chords.{Chord, chord_is}

-- g is the logarithm of m / 2 ^ 31, for the numbers from m to m + 1
pub record Mantissa (m g : ℕ) : Type 0 where
  pub low : Lo 10000000000 g m 2147483648
  pub high : Hi 10000000000 (g + 1043) (m + 1) 2147483648
  pub most : g ≤ 3200000000

product_least : (m i c t : ℕ) → (32 + i) * 67108864 ≤ m → First i c t → 4611686018427387904 ≤ m * c
product_least m i c t l f = omega (arith, mul-le-mul_right c l, mul-le-mul_right 67108864 f.least)

product_more : (m i c t : ℕ) → m < (33 + i) * 67108864 → First i c t → m * c + c ≤ 4755801206503243776
product_more m i c t h f =
    let l : m + 1 ≤ (33 + i) * 67108864 = omega arith in
    omega (arith, mul-le-mul_right c l, mul-le-mul_right 67108864 f.room)

factor_pos : (i c t : ℕ) → First i c t → 0 < c
factor_pos i zero t f = omega (arith, f.least)
factor_pos i (suc c) t f = omega arith

strict : (p c : ℕ) → 0 < c → p + c ≤ 4755801206503243776 → p < 4755801206503243776
strict p c o h = omega arith

-- the range of m that a factor serves
module _ (m c t : ℕ) (lo : 2147483648 ≤ m) (hi : m < 4294967296) (f : First (m / 67108864 % 32) c t) where
  low : (32 + (m / 67108864 % 32)) * 67108864 ≤ m
  low = omega arith

  high : m < (33 + (m / 67108864 % 32)) * 67108864
  high = omega arith

  least : 4611686018427387904 ≤ m * c
  least = product_least m (m / 67108864 % 32) c t low f

  pub most : m * c < 4755801206503243776
  most = strict (m * c) c (factor_pos (m / 67108864 % 32) c t f) (product_more m (m / 67108864 % 32) c t high f)

  found : (g : ℕ) → Chord (m * c / 4503599627370496 % 32) (m * c / 1048576 % 4294967296) g → Mantissa m (t + g)
  found g h = go (m * c) refl (m * c / 4503599627370496 % 32) refl (m * c / 1048576 % 4294967296) refl least most h
    where
      go : (p : ℕ) → p ≡ m * c → (j : ℕ) → j ≡ p / 4503599627370496 % 32 → (r : ℕ) → r ≡ p / 1048576 % 4294967296 → 4611686018427387904 ≤ p → p < 4755801206503243776 → Chord j r g
          → Mantissa m (t + g)
      go p e j ej r er l u h =
          let v = (1024 + j) * 4294967296 + r in
          let below : v * 1048576 ≤ p = omega arith in
          let above : p ≤ (v + 1) * 1048576 = omega arith in
          let cp = factor_pos (m / 67108864 % 32) c t f in
          let more : (m + 1) * 2147483648 ≤ m * 2147483649 = omega arith in
          let e₁ : t + 1 + (g + 1039) + 3 ≡ t + g + 1043 = omega arith in
          record {
            low = lo_factor 10000000000 m c p v 4398046511104 1048576 2147483648 2147483648 t g refl cp e below h.low f.low;
            high = subst (λ (x : ℕ). Hi 10000000000 x (m + 1) 2147483648) e₁
                (hi_unit 10000000000 m (m + 1) 2147483649 2147483648 2147483648 3 (t + 1 + (g + 1039)) (lit< tt) more
                (hi_factor 10000000000 m c p (v + 1) 4398046511104 1048576 2147483648 2147483648 (t + 1) (g + 1039) refl cp e above h.high f.high) unit);
            most = omega (arith, h.most, f.most);
          }

pub mantissa_is : (m : ℕ) → 2147483648 ≤ m → m < 4294967296 → Mantissa m (mantissa_of m)
unfolding mantissa_of near_one
mantissa_is m lo hi =
    let i = m / 67108864 % 32 in
    let p = m * get_or factors i 0 in
    found m (get_or factors i 0) (get_or factor_logs i 0) lo hi (first_at i (omega arith)) _
    (chord_is (p / 4503599627370496 % 32) (p / 1048576 % 4294967296) (omega arith) (omega arith))
