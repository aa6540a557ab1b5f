-- The entropy's bicubics in TGAS2 of source document 000, labels 80 to 100, and the limits of Z.
-- A coefficient is written in units of 10^-10, with _ where the listing has its point.
use Rattle.std.specs.Prelude.{List, [], ◌∷◌, ℤ, pos}
use Rattle.bands.specs.Units.{p, m}
use Rattle.bands.specs.declared.Band.{Band}
use Rattle.bands.specs.declared.Band.TheVariants.{Low, Middle, High}

-- label 80: low band
abbrev pub low_n : List ℤ
low_n =
    m 0_9910810000 ∷ m 5_0027700000  -- GAS1
    ∷ p 54_6521000000 ∷ p 5_1014400000  -- GAS2
    ∷ p 0_0176206000 ∷ p 0_0212002000 ∷ p 0_0017635800  -- GAS3
    ∷ m 29_7001000000 ∷ m 1_8491500000 ∷ p 5_8789200000  -- GAS4
    ∷ []

-- label 90: middle band
abbrev pub middle_n : List ℤ
middle_n =
    p 10_8360000000 ∷ m 4_5552400000  -- GAS1
    ∷ p 29_6473000000 ∷ p 3_9085100000  -- GAS2
    ∷ m 0_0020573200 ∷ p 0_0365982000 ∷ p 0_0052382100  -- GAS3
    ∷ m 16_7001000000 ∷ m 1_4462300000 ∷ p 3_9830700000  -- GAS4
    ∷ []

-- label 100: high band
abbrev pub high_n : List ℤ
high_n =
    p 20_1858000000 ∷ m 3_1345800000  -- GAS1
    ∷ p 10_3619000000 ∷ p 1_8776700000  -- GAS2
    ∷ m 0_1729220000 ∷ p 0_1121740000 ∷ p 0_0128626000  -- GAS3
    ∷ m 5_4355700000 ∷ m 0_8710480000 ∷ p 2_0178900000  -- GAS4
    ∷ []

-- Shut, so that no goal prints the table
unfoldable pub entropy_coefficients : Band → List ℤ
entropy_coefficients Low = low_n
entropy_coefficients Middle = middle_n
entropy_coefficients High = high_n

-- document 01, Entropy: the largest Z of each band
abbrev pub entropy_limit : Band → ℤ
entropy_limit Low = pos 3690000
entropy_limit Middle = pos 3400000
entropy_limit High = pos 3000000
