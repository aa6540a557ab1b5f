-- From G within the fit distance of the exact fit, which is less than a millionth, to T between the exact fit's powers of ten.
use Prim.Native.Nat.{ℕ, ◌+◌, ◌*◌, ◌≤◌, ◌<◌}
use native.Mathlib.Nat.{mul-pos, mul-le-mul_right, mul-lt-mul_of_pos_right, lt_of_mul-lt-mul_right}
use native.Mathlib.Omega.{arith}
use lib.Dec.{lit<}
use lib.IntN.{ℤ}
use Rattle.integer.specs.Z.{up, dn, zs, v, ≤-by, ≤-of}
use Rattle.integer.specs.Floor.{Down, down}
use Rattle.fraction.specs.Fraction.{Fraction, Within}
use Rattle.fraction.proofs.Order.{above_less, below_more}
use Rattle.power.specs.Power.{IsPower}
use Rattle.air.specs.Quantities.{T0}
use Rattle.air_temperature.specs.Temperature.{whole_millionths}
use Rattle.air_temperature.specs.Claim.{fit_distance, exact_millionths, Between}

-- over a distance u of the units that make one millionth: q the millionths of g, k those of t / b
module _ (u b : ℕ) (u-pos : 0 < u) (b-pos : 0 < b) (g t q k : ℤ) (g-down : Down q g u) (t-down : Down k t (b * u)) where
  -- t ≤ (g + u) b
  at_most : up t + dn g * b ≤ dn t + up g * b + u * b → up k + dn q < up q + dn k + 2
  at_most h =
      let i : (up g + dn q * u) * b < (up q * u + u + dn g) * b = mul-lt-mul_of_pos_right g-down.hi b-pos in
      let j : (up k + dn q) * (b * u) < (up q + dn k + 2) * (b * u) = omega (arith, t-down.lo) in
      lt_of_mul-lt-mul_right (b * u) j

  -- (g - u) b ≤ t
  at_least : up g * b + dn t ≤ up t + dn g * b + u * b → up q + dn k < up k + dn q + 2
  at_least h =
      let i : (up q * u + dn g) * b ≤ (up g + dn q * u) * b = mul-le-mul_right b g-down.lo in
      let j : (up q + dn k) * (b * u) < (up k + dn q + 2) * (b * u) = omega (arith, t-down.hi) in
      lt_of_mul-lt-mul_right (b * u) j

-- G within the fit distance of an exact fit f, and t a power for G: t is between f's powers of ten
pub temperature_between : (g : ℤ) (f : Fraction) (t : ℕ) → Within fit_distance g f → IsPower T0 (whole_millionths g) t → Between (exact_millionths f) t
temperature_between g f t near power =
    let q : ℤ = whole_millionths g in
    let k : ℤ = exact_millionths f in
    let vg = v g in
    let vt = v f.top in
    let vq = v q in
    let vk = v k in
    let d₁ : Down q g 10000 = down g 10000 (lit< tt) in
    let d₂ : Down k f.top (f.bottom * 10000) = down f.top (f.bottom * 10000) (mul-pos near.proper.some (lit< tt)) in
    let lo = ≤-of (search zs) near.low in
    let hi = ≤-of (search zs) near.high in
    let a : up k + dn q < up q + dn k + 2 = at_most 10000 f.bottom (lit< tt) near.proper.some g f.top q k d₁ d₂ (omega arith) in
    let b : up q + dn k < up k + dn q + 2 = at_least 10000 f.bottom (lit< tt) near.proper.some g f.top q k d₁ d₂ (omega arith) in
    record {
      above = above_less 1000000 t T0 (≤-by (search zs) (omega arith)) power.above;
      below = below_more 1000000 t T0 (≤-by (search zs) (omega arith)) power.below;
    }
