-- Document 01, demand 3: bicubics and exponents in which nothing is rounded.
use Rattle.std.specs.Prelude.{List, ℕ, ℤ}
use Rattle.fraction.specs.Fraction.{Fraction, whole, parts, plus, times}
use Rattle.bicubic.specs.Bicubic.{coefficient}

-- whole millionths, as a true value
abbrev pub millionths : ℤ → Fraction
millionths z = parts 1000000 z

-- a coefficient, in units of 10^-10
abbrev pub exactly : List ℤ → ℕ → Fraction
exactly k i = whole (coefficient k i)

-- document 01, Bicubic: the same grouping over exact fractions, of exact coefficients k
unfoldable pub exact_gas1 : (ℕ → Fraction) → Fraction → Fraction
exact_gas1 k y = plus (k 0) (times (k 1) y)

unfoldable pub exact_gas2 : (ℕ → Fraction) → Fraction → Fraction → Fraction
exact_gas2 k y z = times (plus (k 2) (times (k 3) y)) z

unfoldable pub exact_gas3 : (ℕ → Fraction) → Fraction → Fraction → Fraction
exact_gas3 k y z = times (times (plus (plus (k 4) (times (k 5) z)) (times (k 6) y)) y) y

unfoldable pub exact_gas4 : (ℕ → Fraction) → Fraction → Fraction → Fraction
exact_gas4 k y z = times (times (plus (plus (k 7) (times (k 8) y)) (times (k 9) z)) z) z

unfoldable pub exact_bicubic : (ℕ → Fraction) → ℤ → ℤ → Fraction
exact_bicubic k y z =
    let Y = millionths y in
    let Z = millionths z in
    plus (plus (plus (exact_gas1 k Y) (exact_gas2 k Y Z)) (exact_gas3 k Y Z)) (exact_gas4 k Y Z)

-- the unrounded exponent, in units of 10^-10
unfoldable pub exact_exponent : (ℕ → Fraction) → ℤ → ℤ → Fraction
exact_exponent c y z =
    let Y = millionths y in
    let Z = millionths z in
    plus (plus (plus (c 0) (times (c 1) Y)) (times (c 2) Z)) (times (times (c 3) Y) Z)
