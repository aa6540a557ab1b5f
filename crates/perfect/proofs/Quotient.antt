-- The perfect gas as a long quotient in two digits.
use mathlib.Core.Path.{◌≡◌, sym, ap, ◌∙◌}
use Prim.Native.Nat.{ℕ, ◌+◌, ◌*◌, ◌/◌, ◌%◌, ◌^◌, ◌≤◌, ◌<◌}
use native.Mathlib.Nat.{mod-lt, div-add-mod', div-le_self, div-mul-le_self, div-div-eq-div-mul, mul-div-mul_left, div-le_of_le-mul}
use native.Mathlib.Omega.{arith}
use lib.Dec.{lit<}
use mir.Syntax.{w64}
use mir.Val.{Fits}
use Rattle.digits.proofs.Long.{long}
use Rattle.perfect.specs.Perfect.{R, perfect_gas, Dividable}

-- a sum with a quotient fits where it fits with the dividend
pub sum_fits : (q u d : ℕ) → q + u < 2 ^ 64 → Fits w64 (q + u / d)
sum_fits q u d h = record { fits = omega (arith, div-le_self u d) }

module _ (p d : ℕ) (h : Dividable p d) where
  -- the parts of p * 5 * 10^12 / 14,353: the digits above 10^5, and what is behind them
  abbrev pub m : ℕ
  m = p % 14353 * 5000000000000 / 14353

  abbrev pub t : ℕ
  t = p / 14353 * 50000000 + m / 100000

  abbrev pub rest : ℕ
  rest = t % d * 100000 + m % 100000

  m_most : m ≤ 5000000000000
  m_most = div-le_of_le-mul 14353 (omega (arith, mod-lt p {m = 14353} (lit< tt)))

  t_most : t ≤ d * 100000000
  t_most = omega (arith, div-mul-le_self p 14353, div-mul-le_self m 100000, m_most, h.ratio, h.some)

  pub quotient_most : t / d ≤ 100000000
  quotient_most = div-le_of_le-mul d t_most

  pub rest_most : rest < 12920000000000000000
  rest_most = omega (arith, mod-lt t h.some, mod-lt m {m = 100000} (lit< tt), h.most)

  pub perfect_is : t / d * 100000 + rest / d ≡ perfect_gas p d
  unfolding perfect_gas
  perfect_is =
      sym (long t 100000 (m % 100000) d h.some)
      ∙ ap (λ (n : ℕ). n / d) (omega (arith, div-add-mod' m 100000))
      ∙ ap (λ (n : ℕ). n / d) (sym (long p 5000000000000 0 14353 (lit< tt)))
      ∙ div-div-eq-div-mul (p * 5000000000000 + 0) 14353 d
      ∙ sym (mul-div-mul_left {m = 2} (p * 5000000000000 + 0) (14353 * d) (lit< tt))
      ∙ ap (λ (n : ℕ). n / (2 * (14353 * d))) (omega arith)
      ∙ ap (λ (n : ℕ). p * 10 ^ 13 / n) (omega arith)

  -- no perfect gas is hotter than 10,000 K
  pub perfect_small : perfect_gas p d ≤ 10000000000
  unfolding perfect_gas
  perfect_small = div-le_of_le-mul (R * d) (omega (arith, h.ratio))
