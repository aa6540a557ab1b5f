-- The power that this program takes is one as free answer three says, and is small. Assumes nothing.
use mathlib.Core.Path.{◌≡◌, refl}
use Prim.Native.Nat.{ℕ, ◌+◌, ◌-◌, ◌*◌, ◌/◌, ◌%◌, ◌^◌, ◌≤◌, ◌<◌}
use native.Mathlib.Nat.{mul-le-mul, add-zero}
use native.Mathlib.Omega.{arith}
use lib.Dec.{lit<, lit≤}
use lib.IntN.{pos, ◌+ℤ◌, ◌-ℤ◌}
use lib.ListN.{get_or}
use Rattle.integer.specs.Z.{is+, is_neg, is_pos, zs, ≤-by}
use Rattle.fraction.specs.Tens.{Above, Below}
use Rattle.fraction.proofs.Order.{above_less, below_more}
use Rattle.logarithm.proofs.Bounds.{Lo}
use Rattle.logarithm.proofs.Exponents.{above_by_lem, below_by}
use Rattle.power.specs.Power.{IsPower}
use Rattle.power.specs.Choice.{coarse, middle, fine, stride_of, step_of, power_of}
use Rattle.power.proofs.Near.{Near, near_times, near_floor, near_line, near_end}
use Rattle.power.proofs.Tables.{Entry, unit, line_end, line_slope, coarse_at, middle_at, fine_at}

-- a number of microkelvin that is nearly 273150000 times ten to t units of 10 ^ -10
pub record Kelvin (t e f most v : ℕ) : Type 0 where
  pub least : 273150000 ≤ v
  pub most_is : v ≤ most
  pub near : Near 10000000000 t e f v 273150000

-- times an entry, scaled back and rounded down
scaled : (t e f most v w top i a limit : ℕ) → Kelvin t e f most v → Entry 536870912 w top i a → most * top ≤ limit * 536870912
    → Kelvin (t + w * i) (e + 16 + 16) (f + 1) limit (v * a / 536870912)
scaled t e f most v w top i a limit k x l =
    go (v * a) refl (mul-le-mul k.least x.least) (mul-le-mul k.most_is x.most_is)
  where
    go : (p : ℕ) → p ≡ v * a → 273150000 * 536870912 ≤ p → p ≤ most * top → Kelvin (t + w * i) (e + 16 + 16) (f + 1) limit (p / 536870912)
    go p e' lo hi =
        record {
          least = omega arith;
          most_is = omega arith;
          near = near_floor 10000000000 16 273150000 (lit< tt) unit (t + w * i) (e + 16) (f + 1) p 273150000 536870912 (p / 536870912) (lit< tt) (omega arith) (omega arith) (omega arith)
              (rw e' (near_times 10000000000 t e f v 273150000 (w * i) 16 1 a 536870912 k.near x.near));
        }

first : (i : ℕ) → i < 30 → Kelvin (655360000 * i) 16 1 22000000000 (get_or coarse i 0)
first i h = let x = coarse_at i h in record { least = x.least; most_is = x.most_is; near = x.near }

module _ (g : ℕ) (h : g ≤ 1960000) where
  pub stride_is : Kelvin (655360000 * (g / 65536) + 20480000 * (g / 2048 % 32)) 48 2 26000000000 (stride_of g)
  unfolding stride_of
  stride_is =
      scaled (655360000 * (g / 65536)) 16 1 22000000000 (get_or coarse (g / 65536) 0) 20480000 630000000 (g / 2048 % 32) (get_or middle (g / 2048 % 32) 0) 26000000000
      (first (g / 65536) (omega arith)) (middle_at (g / 2048 % 32) (omega arith)) (lit≤ tt)

  pub step_is : Kelvin (655360000 * (g / 65536) + 20480000 * (g / 2048 % 32) + 640000 * (g / 64 % 32)) 80 3 27000000000 (step_of g)
  unfolding step_of
  step_is =
      scaled (655360000 * (g / 65536) + 20480000 * (g / 2048 % 32)) 48 2 26000000000 (stride_of g) 640000 540000000 (g / 64 % 32) (get_or fine (g / 64 % 32) 0) 27000000000
      stride_is (fine_at (g / 64 % 32) (omega arith)) (lit≤ tt)

-- the straight line
lined : (t e f most v r : ℕ) → r < 64 → Kelvin t e f most v → Near 10000000000 (t + 10000 * r) (e + 16) (f + r) (v + v * r / 434262) 273150000
lined t e f most v r l k =
    go (v * r) refl
  where
    end : Lo 10000000000 (10000 * (r + (64 - r))) (434262 + r + (64 - r)) 434262
    end =
        let i : r + (64 - r) ≡ 64 = omega arith in
        let j : 434262 + r + (64 - r) ≡ 434326 = omega arith in
        rw (i, j) line_end

    go : (p : ℕ) → p ≡ v * r → Near 10000000000 (t + 10000 * r) (e + 16) (f + r) (v + p / 434262) 273150000
    go p i =
        let low : (v + p / 434262) * 434262 ≤ v * (434262 + r) = omega arith in
        let high : v * (434262 + r) ≤ (v + p / 434262 + 1) * 434262 = omega arith in
        near_floor 10000000000 16 273150000 (lit< tt) unit (t + 10000 * r) e (f + r) (v * (434262 + r)) 273150000 434262 (v + p / 434262) (lit< tt) (omega (arith, k.least)) low high
        (rw (add-zero e) at (near_times 10000000000 t e f v 273150000 (10000 * r) 0 r (434262 + r) 434262 k.near (near_line 10000000000 434262 10000 r (64 - r) (lit< tt) (omega arith) end line_slope)))

units : (g : ℕ) → 655360000 * (g / 65536) + 20480000 * (g / 2048 % 32) + 640000 * (g / 64 % 32) + 10000 * (g % 64) ≡ g * 10000
units g = omega arith

near_power : (g : ℕ) → g ≤ 1960000 → Near 10000000000 (g * 10000) 96 (3 + g % 64) (power_of g) 273150000
unfolding power_of
near_power g h =
    rw (← (units g)) (lined _ 80 3 27000000000 (step_of g) (g % 64) (omega arith) (step_is g h))

power_some : (g : ℕ) → g ≤ 1960000 → 0 < power_of g
unfolding power_of
power_some g h = omega (arith, (step_is g h).least)

-- small enough for the straight line between two, and exact as a double
pub power_small : (g : ℕ) → g ≤ 1960000 → power_of g < 2 ^ 43
unfolding power_of
power_small g h =
    let r : g % 64 ≤ 64 = omega arith in
    omega (arith, (step_is g h).most_is, mul-le-mul (step_is g h).most_is r)

-- a power, from the exponents that it lies between
between : (b g t : ℕ) → Above (pos g -ℤ pos 1) 1000000 t b → Below (pos g +ℤ pos 2) 1000000 t b → IsPower b (pos g) t
between b g t a l = record { above = above_less 1000000 t b (≤-by (search zs) (omega arith)) a; below = below_more 1000000 t b (≤-by (search zs) (omega arith)) l }

pub power_is : (g : ℕ) → g ≤ 1960000 → IsPower 273150000 (pos g) (power_of g)
power_is g h =
    let n = near_end 1000000 10000 g 96 (3 + g % 64) (power_of g) 273150000 (power_some g h) (lit< tt) (lit< tt) (omega arith) (near_power g h) in
    between 273150000 g (power_of g)
    (above_by_lem (pos g -ℤ pos 1) 1000000 (power_of g) 273150000 g 1 (record { is = omega (arith, (is+ (is_pos g) (is_neg (is_pos 1))).is) }) n.0)
    (below_by (pos g +ℤ pos 2) 1000000 (power_of g) 273150000 (g + 2) 0 (is_pos (g + 2)) (over n.1))
  where
    over : {x y : ℕ} → x < y → 10 ^ 0 * x < y
    over l = omega arith
