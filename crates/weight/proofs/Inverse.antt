-- scale / e^(i/16), from the tables: a product of two entries, each beside one over the sum at its own part of i/16.
use mathlib.Core.Bool.{Bool, ◌&&◌}
use mathlib.Core.Path.{◌≡◌, refl, subst}
use Prim.Native.Nat.{ℕ, zero, suc, ◌+◌, ◌-◌, ◌*◌, ◌/◌, ◌%◌, ◌^◌, ◌≤◌, ◌<◌}
use native.Mathlib.Nat.{le_refl, mul-le-mul, mul-le-mul_left, mul-le-mul_right, mul-pos, le_of_mul-le-mul_right, le-add_right, le-add_left, pow-zero}
use native.Mathlib.Nat.{div-mul-le_self, lt-div-mul-add, div-add-mod', mod-lt}
use native.Mathlib.Omega.{arith}
use lib.Dec.{T, leb, leb→le, lit<}
use lib.ListN.{get_or}
use Rattle.weight.specs.Weight.{num, den, units}
use Rattle.weight.specs.Choice.{scale, wholes, sixteenths, inverse}
use Rattle.weight.proofs.Series.{den_pos, num_mono}
use Rattle.weight.proofs.Tail.{tail}
use Rattle.weight.proofs.Addition.{add_up, add_low}
use Rattle.weight.proofs.Table.{every, at, both_left, both_right}

-- c is at least scale over the sum of m terms at a, and at most e more than scale over that of n
pub record Inverse (e m a c : ℕ) : Type 0 where
  pub low : scale * den units m ≤ c * num units a m
  pub high : (n : ℕ) → 128 ≤ n → c * num units a n ≤ scale * den units n + e * num units a n

-- ---- an entry, by a test that antt computes
inverse_test : ℕ → ℕ → ℕ → Bool
inverse_test m a c =
    leb (scale * den units m) (c * num units a m)
    && leb ((c - 1) * (4 * num units a 128 + a ^ 128)) (4 * (scale * den units 128))

all_wholes : T (every (λ i. inverse_test 108 (i * units)) 0 wholes)
unfolding inverse_test num den
all_wholes = tt

all_sixteenths : T (every (λ i. inverse_test 14 (i * 625000000)) 0 sixteenths)
unfolding inverse_test num den
all_sixteenths = tt

-- p / d is at least the sum of n terms, x / y that of 128 and its tail
by_tail : (s c p q x y d : ℕ) → 0 < y → (4 * p + q) * y ≤ x * d → (c - 1) * x ≤ 4 * (s * y) → c * p ≤ s * d + 1 * p
by_tail s c p q x y d pos t h = omega (arith, mul-le-mul_right p one, less)
  where
    one : c ≤ c - 1 + 1
    one = omega arith

    less : (c - 1) * p ≤ s * d
    less = le_of_mul-le-mul_right {k = y} (omega (arith, mul-le-mul_left (c - 1) t, mul-le-mul_right d h)) pos

tested : (m a c : ℕ) → 5 * a ≤ 129 * units → T (inverse_test m a c) → Inverse 1 m a c
unfolding inverse_test
tested m a c ratio t =
    record {
      low = leb→le _ _ (both_left (leb (scale * den units m) (c * num units a m)) (leb ((c - 1) * (4 * num units a 128 + a ^ 128)) (4 * (scale * den units 128))) t);
      high = λ n h.
          by_tail scale c (num units a n) (a ^ n) (4 * num units a 128 + a ^ 128) (den units 128) (den units n)
          (den_pos units 128 (lit< tt))
          (tail units a 128 n (lit< tt) ratio h)
          (leb→le _ _ (both_right (leb (scale * den units m) (c * num units a m)) (leb ((c - 1) * (4 * num units a 128 + a ^ 128)) (4 * (scale * den units 128))) t));
    }

-- ---- the product of two
last_le : (b u n : ℕ) → u ^ n ≤ num b u n
unfolding num
last_le b u zero = rw pow-zero (le_refl 1)
last_le b u (suc n) = omega arith

-- S_n(a) S_n(r) ≤ 5/4 S_n(a + r), once the tail beyond n is small
pub product_le : (b a r n : ℕ) → 0 < b → 5 * (a + r) ≤ suc n * b
    → 4 * (num b a n * num b r n) ≤ 5 * (num b (a + r) n * den b n)
product_le b a r n p ratio =
    le_of_mul-le-mul_right {k = den b (n + n)}
    (omega (
      arith,
      add_low b a r n n p,
      mul-le-mul_right (den b n) (tail b (a + r) n (n + n) p ratio (le-add_right n n)),
      mul-le-mul_right (den b (n + n) * den b n) (last_le b (a + r) n),
    ))
    (den_pos b (n + n) p)

-- x, f and z are the sums at a, at r and at a + r, over d; w is c · e over s, rounded down, and 1 more
module _ (s c e w d x f z : ℕ) (two : 2 ≤ s) (dpos : 0 < d) where
  joint_low : (dm dk : ℕ) → 0 < dm → 0 < dk → s * dm ≤ c * x → s * dk ≤ e * f → x * f * d ≤ z * (dm * dk) → c * e ≤ w * s → s * d ≤ w * z
  joint_low dm dk pm pk hc he low hw =
      le_of_mul-le-mul_right {k = s * (dm * dk)}
      (omega (
        arith,
        mul-le-mul_right d (mul-le-mul hc he),
        mul-le-mul_left (c * e) low,
        mul-le-mul_right (z * (dm * dk)) hw,
      ))
      (mul-pos (omega arith) (mul-pos pm pk))

  joint_high : c * x ≤ s * d + 1 * x → e * f ≤ s * d + 1 * f → d * z ≤ x * f → 4 * (x * f) ≤ 5 * (z * d) → x ≤ z → f ≤ z → w * s ≤ c * e + s
      → w * z ≤ s * d + 4 * z
  joint_high hc he up most xz fz hw =
      le_of_mul-le-mul_right {k = 4 * (s * d)}
      (omega (
        arith,
        mul-le-mul_left (4 * (w * s)) up,
        mul-le-mul_right (4 * (x * f)) hw,
        mul-le-mul hc he,
        mul-le-mul_left (s * d) xz,
        mul-le-mul_left (s * d) fz,
        mul-le-mul_left (1 + s) most,
        mul-le-mul_left (z * d) two,
      ))
      (omega (arith, mul-pos {m = s} {n = d} (omega arith) dpos))

joint : (m k a r c e w : ℕ) → w ≡ c * e / scale + 1 → 5 * (a + r) ≤ 129 * units → Inverse 1 m a c → Inverse 1 k r e
    → Inverse 4 (m + k) (a + r) w
joint m k a r c e w is ratio hc he =
    record {
      low =
          joint_low scale c e w (den units (m + k)) (num units a m) (num units r k) (num units (a + r) (m + k)) (omega arith) (den_pos units (m + k) (lit< tt))
          (den units m) (den units k) (den_pos units m (lit< tt)) (den_pos units k (lit< tt)) hc.low he.low
          (add_low units a r m k (lit< tt)) (omega (arith, lt-div-mul-add {a = c * e} {b = scale} (lit< tt)));
      high = λ n h.
          joint_high scale c e w (den units n) (num units a n) (num units r n) (num units (a + r) n) (omega arith) (den_pos units n (lit< tt))
          (hc.high n h) (he.high n h) (add_up units a r n (lit< tt))
          (product_le units a r n (lit< tt) (omega arith))
          (num_mono units n (le-add_right a r)) (num_mono units n (le-add_left r a))
          (omega (arith, div-mul-le_self (c * e) scale));
    }

pub inverse_is : (i : ℕ) → i < 384 → Inverse 4 122 (i * 625000000) (inverse i)
unfolding inverse
inverse_is i h =
    subst (λ (a : ℕ). Inverse 4 122 a (inverse i)) (omega (arith, div-add-mod' i 16))
    (joint 108 14 (i / 16 * units) (i % 16 * 625000000) (get_or wholes (i / 16) 0) (get_or sixteenths (i % 16) 0) (inverse i) refl
    (omega (arith, div-add-mod' i 16))
    (tested 108 (i / 16 * units) (get_or wholes (i / 16) 0) (omega arith) (at (λ k. inverse_test 108 (k * units)) wholes all_wholes (i / 16) (omega arith)))
    (tested 14 (i % 16 * 625000000) (get_or sixteenths (i % 16) 0) (omega (arith, mod-lt i {m = 16} (lit< tt))) (at (λ k. inverse_test 14 (k * 625000000)) sixteenths all_sixteenths (i % 16) (mod-lt i (lit< tt)))))
