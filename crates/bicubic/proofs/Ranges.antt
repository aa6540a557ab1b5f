-- How large products and the parts of the bicubic and of the exponent are, for coefficients below 2^44 and |Y|, |Z| below 2^25.
use mathlib.Core.List.{List}
use Prim.Native.Nat.{ℕ, ◌+◌, ◌*◌, ◌^◌}
use native.Mathlib.Nat.{le_of_lt}
use native.Mathlib.Omega.{arith}
use lib.Dec.{T, ltb, ltb→lt}
use lib.IntN.{ℤ, ◌+ℤ◌}
use Rattle.quotient.specs.Range.{In, AllIn}
use Rattle.quotient.specs.Mul.{mul}
use Rattle.bicubic.specs.Bicubic.{bicubic}
use Rattle.bicubic.proofs.Size.{ceiling, Upto, upto_plus, upto_mul, size, bicubic_size_all}
use Rattle.quotient.proofs.Machine.{all_at}

upto : {n : ℕ} {z : ℤ} → In n z → Upto (2 ^ n) z
upto h = record { most = le_of_lt h.size }

-- a size that computes
pub within : {s : ℕ} {z : ℤ} (n : ℕ) → T (ltb s (2 ^ n)) → Upto s z → In n z
within {s} n t h = record { size = omega (arith, h.most, ltb→lt s (2 ^ n) t) }

-- by a factor below 2^25
by : {s : ℕ} {x y : ℤ} → In 25 y → Upto s x → Upto (ceiling (s * 2 ^ 25)) (mul x y)
by {s} {x} {y} h k = upto_mul (2 ^ 25) y (le_of_lt h.size) k

-- the sizes of c and of a + bY, (a + bY)Z, a + bY + cZ, (a + bY + cZ)Z, (a + bY + cZ)ZZ, cYZ
abbrev product : ℕ
product = ceiling (2 ^ 44 * 2 ^ 25)

abbrev line : ℕ
line = 2 ^ 44 + product

abbrev plane : ℕ
plane = line + product

module _ {a b y : ℤ} (ha : In 44 a) (hb : In 44 b) (hy : In 25 y) where
  pub linear_upto : Upto line (a +ℤ mul b y)
  linear_upto = upto_plus (upto ha) (by hy (upto hb))

  pub linear_in : In 57 (a +ℤ mul b y)
  linear_in = within 57 tt linear_upto

  pub linear_by_upto : {z : ℤ} → In 25 z → Upto (ceiling (line * 2 ^ 25)) (mul (a +ℤ mul b y) z)
  linear_by_upto hz = by hz linear_upto

module _ {a b c y z : ℤ} (ha : In 44 a) (hb : In 44 b) (hc : In 44 c) (hy : In 25 y) (hz : In 25 z) where
  pub sum_upto : Upto plane (a +ℤ mul b y +ℤ mul c z)
  sum_upto = upto_plus (linear_upto ha hb hy) (by hz (upto hc))

  pub sum_in : In 57 (a +ℤ mul b y +ℤ mul c z)
  sum_in = within 57 tt sum_upto

  pub once_in : In 57 (mul (a +ℤ mul b y +ℤ mul c z) z)
  once_in = within 57 tt (by hz sum_upto)

  pub square_upto : Upto (ceiling (ceiling (plane * 2 ^ 25) * 2 ^ 25)) (mul (mul (a +ℤ mul b y +ℤ mul c z) z) z)
  square_upto = by hz (by hz sum_upto)

module _ {c y z : ℤ} (hc : In 44 c) (hy : In 25 y) (hz : In 25 z) where
  pub term_in : In 57 (mul c y)
  term_in = within 57 tt (by hy (upto hc))

  pub cross_upto : Upto (ceiling (product * 2 ^ 25)) (mul (mul c y) z)
  cross_upto = by hz (by hy (upto hc))

  pub exponent_size : {a b d : ℤ} → In 44 a → In 44 b → In 44 d → In 57 (a +ℤ mul b y +ℤ mul d z +ℤ mul (mul c y) z)
  exponent_size ha hb hd = within 57 tt (upto_plus (sum_upto ha hb hd hy hz) cross_upto)

-- ---- what callers know of the result, for |Y|, |Z| below 2^23; wider boxes go by the coefficients' own sizes (`bicubic_size`)
pub bicubic_in : {k : List ℤ} {y z : ℤ} → AllIn 43 k → In 23 y → In 23 z → In 57 (bicubic k y z)
unfolding size
bicubic_in {k} {y} {z} h hy hz =
    within 57 tt
    (record { most = bicubic_size_all (2 ^ 23) (2 ^ 23) y z (le_of_lt hy.size) (le_of_lt hz.size) k (2 ^ 43) (λ i. le_of_lt (all_at h i).size) })
