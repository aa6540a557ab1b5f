-- Bicubics and exponents with the roundings of document 01. Coefficients are whole units of 10^-10; Y and Z are whole millionths.
use Rattle.std.specs.Prelude.{List, ℕ, get_or, ℤ, pos, ◌+ℤ◌}
use Rattle.quotient.specs.Mul.{mul}

-- the i-th coefficient, from 0; one that is not there counts as 0
abbrev pub coefficient : List ℤ → ℕ → ℤ
coefficient k i = get_or k i (pos 0)

-- document 01, Bicubic: the four parts, each product a mul, from left to right
unfoldable pub gas1 : List ℤ → ℤ → ℤ
gas1 k y = coefficient k 0 +ℤ mul (coefficient k 1) y

unfoldable pub gas2 : List ℤ → ℤ → ℤ → ℤ
gas2 k y z = mul (coefficient k 2 +ℤ mul (coefficient k 3) y) z

unfoldable pub gas3 : List ℤ → ℤ → ℤ → ℤ
gas3 k y z = mul (mul (coefficient k 4 +ℤ mul (coefficient k 5) z +ℤ mul (coefficient k 6) y) y) y

unfoldable pub gas4 : List ℤ → ℤ → ℤ → ℤ
gas4 k y z = mul (mul (coefficient k 7 +ℤ mul (coefficient k 8) y +ℤ mul (coefficient k 9) z) z) z

unfoldable pub bicubic : List ℤ → ℤ → ℤ → ℤ
bicubic k y z = gas1 k y +ℤ gas2 k y z +ℤ gas3 k y z +ℤ gas4 k y z

-- document 01, Weight: the exponent q over its terms c1 to c4
unfoldable pub exponent : List ℤ → ℤ → ℤ → ℤ
exponent c y z =
    coefficient c 0
    +ℤ mul (coefficient c 1) y
    +ℤ mul (coefficient c 2) z
    +ℤ mul (mul (coefficient c 3) y) z
