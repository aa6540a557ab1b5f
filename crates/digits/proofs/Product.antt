-- The pressure's product: its digits of 10^9, and how large they are.
use mathlib.Core.Path.{◌≡◌, sym, ap, ◌∙◌}
use Prim.Native.Nat.{ℕ, ◌+◌, ◌*◌, ◌/◌, ◌%◌, ◌^◌, ◌≤◌, ◌<◌}
use native.Mathlib.Nat.{div-add-mod', div-div-eq-div-mul, div-le_of_le-mul, mul-le-mul, add-zero}
use native.Mathlib.Omega.{arith}
use lib.Dec.{lit<}
use Rattle.digits.specs.Factors.{Multiplies}
use Rattle.digits.proofs.Long.{long, long_rest}

-- n · g without its two lowest digits of k, by the digits of n
last_factor : (n g k : ℕ) → 0 < k → n * g / (k * k) ≡ n / k / k * g + (n / k % k * g + n % k * g / k) / k
last_factor n g k h =
    sym (div-div-eq-div-mul (n * g) k k)
    ∙ ap (λ (x : ℕ). x / k) (simp add-zero at (long n g 0 k h))
    ∙ long (n / k) g (n % k * g / k) k h

-- the digits of d · e: h, and what b leaves
module _ (d e : ℕ) where
  abbrev pub a : ℕ
  a = d / 16777216 * e

  abbrev pub b : ℕ
  b = a % 1000000000 * 16777216 + d % 16777216 * e

  abbrev pub h : ℕ
  h = a / 1000000000 * 16777216 + b / 1000000000

  joined : d * e ≡ a * 16777216 + d % 16777216 * e
  joined =
      let i : (d / 16777216 * 16777216 + d % 16777216) * e ≡ d * e = ap (λ (n : ℕ). n * e) (div-add-mod' d 16777216) in
      omega (arith, i)

  quotient : d * e / 1000000000 ≡ h
  quotient = ap (λ (n : ℕ). n / 1000000000) joined ∙ long a 16777216 (d % 16777216 * e) 1000000000 (lit< tt)

  rest : d * e % 1000000000 ≡ b % 1000000000
  rest = ap (λ (n : ℕ). n % 1000000000) joined ∙ long_rest a 16777216 (d % 16777216 * e) 1000000000

pub pressure_is : (d e g : ℕ) → h d e / 1000000000 * g + (h d e % 1000000000 * g + b d e % 1000000000 * g / 1000000000) / 1000000000 ≡ d * e * g / 10 ^ 18
pressure_is d e g = sym (rw (← quotient d e, ← rest d e) (last_factor (d * e) g 1000000000 (lit< tt)))

-- every product of parts, where the factors are in range
pub record Small (d e g : ℕ) : Type 0 where
  pub first : a d e ≤ 7700920 * 1000000000000
  pub second : d % 16777216 * e ≤ 16777215 * 1000000000000
  pub low : b d e % 1000000000 * g ≤ 999999999 * 10000000000
  pub middle : h d e % 1000000000 * g ≤ 999999999 * 10000000000
  pub high : h d e / 1000000000 * g ≤ 129200000 * 10000000000

pub small : (d e g : ℕ) → Multiplies d e g → Small d e g
small d e g m =
    let i : d / 16777216 ≤ 7700920 = omega (arith, m.density) in
    let j : d % 16777216 ≤ 16777215 = omega arith in
    let k : b d e % 1000000000 ≤ 999999999 = omega arith in
    let l : h d e % 1000000000 ≤ 999999999 = omega arith in
    let n : h d e / 1000000000 ≤ 129200000 = omega (arith, quotient d e, mul-le-mul m.density m.energy) in
    record {
      first = mul-le-mul i m.energy;
      second = mul-le-mul j m.energy;
      low = mul-le-mul k m.gamma;
      middle = mul-le-mul l m.gamma;
      high = mul-le-mul n m.gamma;
    }

-- a density of at most k gives a pressure of at most k · 10^4
pub pressure_most : (d e g k : ℕ) → d ≤ k → e ≤ 10 ^ 12 → g ≤ 10 ^ 10 → d * e * g / 10 ^ 18 ≤ k * 10 ^ 4
pressure_most d e g k i j l = div-le_of_le-mul (10 ^ 18) (omega (arith, mul-le-mul (mul-le-mul i j) l))
