-- Temperature's pieces in the low band, TGAS1 of source document 000, labels 310 to 340: coefficients and ends.
-- A coefficient is written in units of 10^-10, with _ where the listing has its point.
use Rattle.std.specs.Prelude.{List, [], ◌∷◌, ℤ, pos, get_or}
use Rattle.fit.specs.Fit.{Piece, alone, joint, plus_by}
use Rattle.bands.specs.Units.{p, m, index_in}

-- label 310: low band, piece 1, A
abbrev pub low1_a : List ℤ
low1_a =
    p 0_1448240000 ∷ p 0_0136744000  -- GAS1
    ∷ p 0_1170990000 ∷ m 0_0822299000  -- GAS2
    ∷ m 0_0006753030 ∷ m 0_0014731400 ∷ m 0_0000790851  -- GAS3
    ∷ p 1_3937000000 ∷ p 0_0683066000 ∷ m 0_6656730000  -- GAS4
    ∷ []

-- label 320: low band, piece 2, A
abbrev pub low2_a : List ℤ
low2_a =
    m 9_3250000000 ∷ m 0_9320170000  -- GAS1
    ∷ p 25_7176000000 ∷ p 1_6129200000  -- GAS2
    ∷ m 0_0300242000 ∷ p 0_0262959000 ∷ m 0_0002776510  -- GAS3
    ∷ m 21_6620000000 ∷ m 0_6814310000 ∷ p 6_2696200000  -- GAS4
    ∷ []

-- label 320, B
abbrev pub low2_b : List ℤ
low2_b =
    m 3_3853400000 ∷ p 0_1825940000  -- GAS5
    ∷ p 0_1849280000 ∷ m 0_7011090000  -- GAS6
    ∷ p 0_0110150000 ∷ m 0_0160570000 ∷ p 0_0000157701  -- GAS7
    ∷ p 5_4702000000 ∷ p 0_4116240000 ∷ m 2_8149800000  -- GAS8
    ∷ []

-- label 320, exponent
abbrev pub low2_q : List ℤ
low2_q =
    m 38_8701500000 ∷ m 29_0822800000 ∷ p 40_7055700000 ∷ p 26_8234700000  -- GAS9
    ∷ []

-- label 330: low band, piece 3, A
abbrev pub low3_a : List ℤ
low3_a =
    m 19_3082000000 ∷ m 1_5455700000  -- GAS1
    ∷ p 36_9035000000 ∷ p 1_9221400000  -- GAS2
    ∷ m 0_0359027000 ∷ p 0_0231827000 ∷ m 0_0002013270  -- GAS3
    ∷ m 22_0440000000 ∷ m 0_5809350000 ∷ p 4_4336700000  -- GAS4
    ∷ []

-- label 330, B
abbrev pub low3_b : List ℤ
low3_b =
    m 3_8306900000 ∷ p 0_1328640000  -- GAS5
    ∷ m 3_9190200000 ∷ m 0_6795640000  -- GAS6
    ∷ p 0_0006063410 ∷ m 0_0081299700 ∷ m 0_0001610120  -- GAS7
    ∷ p 7_2463200000 ∷ p 0_3154610000 ∷ m 2_1787900000  -- GAS8
    ∷ []

-- label 330, exponent
abbrev pub low3_q : List ℤ
low3_q =
    p 20_8000000000 ∷ m 25_6000000000 ∷ p 1_0000000000 ∷ p 18_0000000000  -- GAS9
    ∷ []

-- label 340: low band, piece 4, A
abbrev pub low4_a : List ℤ
low4_a =
    m 25_9721000000 ∷ m 1_7741900000  -- GAS1
    ∷ p 36_2495000000 ∷ p 1_5538300000  -- GAS2
    ∷ m 0_0451359000 ∷ p 0_0243648000 ∷ p 0_0001280400  -- GAS3
    ∷ m 15_9988000000 ∷ m 0_3178070000 ∷ p 2_4058400000  -- GAS4
    ∷ []

-- label 340, B
abbrev pub low4_b : List ℤ
low4_b =
    m 18_1433000000 ∷ p 0_1548960000  -- GAS5
    ∷ p 12_6582000000 ∷ m 0_3662750000  -- GAS6
    ∷ p 0_0324496000 ∷ m 0_0166385000 ∷ p 0_0003021770  -- GAS7
    ∷ m 1_4175900000 ∷ p 0_1112410000 ∷ m 0_3109830000  -- GAS8
    ∷ []

-- label 340, exponent
abbrev pub low4_q : List ℤ
low4_q =
    p 111_5884000000 ∷ m 6_4526060000 ∷ m 53_3786300000 ∷ p 2_0269860000  -- GAS9
    ∷ []

-- where the band's pieces end, upper end included; what lies above the last end is one more piece
abbrev pub low_ends : List ℤ
low_ends = pos 950000 ∷ pos 1400000 ∷ pos 1950000 ∷ []

-- the band's pieces, in order. Shut, so that no goal prints the table
unfoldable pub low_pieces : List Piece
low_pieces =
    alone low1_a
    ∷ joint low2_a low2_b (plus_by low2_q)
    ∷ joint low3_a low3_b (plus_by low3_q)
    ∷ joint low4_a low4_b (plus_by low4_q)
    ∷ []

-- the piece that Z chooses
abbrev pub low_piece : ℤ → Piece
low_piece z = get_or low_pieces (index_in low_ends z) (alone [])
