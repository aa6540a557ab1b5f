-- Gamma's pieces in the low band, TGAS1 of source document 000, labels 90 to 140: coefficients, ends and the listing's warning.
-- A coefficient is written in units of 10^-10, with _ where the listing has its point.
use Rattle.std.specs.Prelude.{List, [], ◌∷◌, ℤ, pos, get_or}
use Rattle.fit.specs.Fit.{Piece, alone, joint, plus_by, minus_by}
use Rattle.bands.specs.Units.{p, m, index_in}

-- label 90: low band, piece 1, the one gamma
abbrev pub low1_a : List ℤ
low1_a = p 1_3965000000 ∷ []

-- label 100: low band, piece 2, A
abbrev pub low2_a : List ℤ
low2_a =
    p 1_5279200000 ∷ m 0_0126953000  -- GAS1
    ∷ m 0_6135140000 ∷ m 0_0508262000  -- GAS2
    ∷ m 0_0054938400 ∷ p 0_0000475120 ∷ m 0_0003184680  -- GAS3
    ∷ p 0_6318350000 ∷ p 0_0334012000 ∷ m 0_2199210000  -- GAS4
    ∷ []

-- label 100, B
abbrev pub low2_b : List ℤ
low2_b =
    m 49_6286000000 ∷ m 11_7932000000  -- GAS5
    ∷ p 69_1028000000 ∷ p 44_0405000000  -- GAS6
    ∷ p 5_0924900000 ∷ m 1_4032600000 ∷ p 0_2089880000  -- GAS7
    ∷ p 13_7308000000 ∷ m 17_8726000000 ∷ m 18_6943000000  -- GAS8
    ∷ []

-- label 100, exponent
abbrev pub low2_q : List ℤ
low2_q =
    p 24_6045200000 ∷ m 2_0000000000 ∷ m 20_9302200000 ∷ p 0_0000000000  -- GAS9
    ∷ []

-- label 110: low band, piece 3, A
abbrev pub low3_a : List ℤ
low3_a =
    m 17_0333000000 ∷ m 0_5085450000  -- GAS1
    ∷ p 24_6299000000 ∷ p 0_4456170000  -- GAS2
    ∷ m 0_0089529800 ∷ p 0_0022961800 ∷ m 0_0002891860  -- GAS3
    ∷ m 11_0204000000 ∷ m 0_0989727000 ∷ p 1_6290300000  -- GAS4
    ∷ []

-- label 110, B
abbrev pub low3_b : List ℤ
low3_b =
    p 18_6797000000 ∷ p 0_5196620000  -- GAS5
    ∷ m 24_1338000000 ∷ m 0_4348370000  -- GAS6
    ∷ p 0_0091608900 ∷ m 0_0015208200 ∷ p 0_0003464820  -- GAS7
    ∷ p 10_2035000000 ∷ p 0_0970762000 ∷ m 1_3946000000  -- GAS8
    ∷ []

-- label 110, exponent
abbrev pub low3_q : List ℤ
low3_q =
    m 142_7620000000 ∷ m 1_6470880000 ∷ p 76_6031200000 ∷ p 0_8259346000  -- GAS9
    ∷ []

-- label 120: low band, piece 4, A
abbrev pub low4_a : List ℤ
low4_a =
    p 2_2437400000 ∷ p 0_1030730000  -- GAS1
    ∷ m 0_5322380000 ∷ m 0_0559852000  -- GAS2
    ∷ p 0_0035648400 ∷ m 0_0001013590 ∷ p 0_0001591270  -- GAS3
    ∷ m 0_0480156000 ∷ p 0_0106794000 ∷ p 0_0366035000  -- GAS4
    ∷ []

-- label 120, B
abbrev pub low4_b : List ℤ
low4_b =
    m 5_7037800000 ∷ m 0_3100560000  -- GAS5
    ∷ p 5_0109400000 ∷ p 0_1804110000  -- GAS6
    ∷ m 0_0094936100 ∷ p 0_0019483900 ∷ m 0_0002249080  -- GAS7
    ∷ m 1_4033100000 ∷ m 0_0279718000 ∷ p 0_1202780000  -- GAS8
    ∷ []

-- label 120, exponent
abbrev pub low4_q : List ℤ
low4_q =
    p 113_9755000000 ∷ m 4_9854670000 ∷ m 42_2383300000 ∷ p 2_0097060000  -- GAS9
    ∷ []

-- label 130: low band, piece 5, A
abbrev pub low5_a : List ℤ
low5_a =
    m 20_8070000000 ∷ p 0_4019700000  -- GAS1
    ∷ p 22_5910000000 ∷ m 0_2566000000  -- GAS2
    ∷ m 0_0009583300 ∷ p 0_0023966000 ∷ p 0_0003367100  -- GAS3
    ∷ m 7_7174000000 ∷ p 0_0460600000 ∷ p 0_8780000000  -- GAS4
    ∷ []

-- label 130, B
abbrev pub low5_b : List ℤ
low5_b =
    m 217_3700000000 ∷ m 4_6927000000  -- GAS5
    ∷ p 181_0100000000 ∷ p 2_6621000000  -- GAS6
    ∷ m 0_0347590000 ∷ p 0_0064681000 ∷ m 0_0007039100  -- GAS7
    ∷ m 50_0190000000 ∷ m 0_3838100000 ∷ p 4_5795000000  -- GAS8
    ∷ []

-- label 130, exponent
abbrev pub low5_q : List ℤ
low5_q =
    p 454_4373000000 ∷ p 12_5013300000 ∷ m 137_6001000000 ∷ m 3_6417740000  -- GAS9
    ∷ []

-- label 140: low band, piece 6, A
abbrev pub low6_a : List ℤ
low6_a =
    m 52_2951000000 ∷ m 0_4000110000  -- GAS1
    ∷ p 45_6439000000 ∷ p 0_2244840000  -- GAS2
    ∷ m 0_0037377500 ∷ p 0_0024316100 ∷ p 0_0002247550  -- GAS3
    ∷ m 12_9756000000 ∷ m 0_0279517000 ∷ p 1_2299800000  -- GAS4
    ∷ []

-- where the band's pieces end, upper end included; what lies above the last end is one more piece
abbrev pub low_ends : List ℤ
low_ends = pos 650000 ∷ pos 1500000 ∷ pos 2200000 ∷ pos 3050000 ∷ pos 3400000 ∷ []

-- label 140: a Z above this gets the listing's warning
abbrev pub low_limit : ℤ
low_limit = pos 3690000

-- the band's pieces, in order; the first has one gamma. Shut, so that no goal prints the table
unfoldable pub low_pieces : List Piece
low_pieces =
    alone low1_a
    ∷ joint low2_a low2_b (minus_by low2_q)
    ∷ joint low3_a low3_b (plus_by low3_q)
    ∷ joint low4_a low4_b (plus_by low4_q)
    ∷ joint low5_a low5_b (plus_by low5_q)
    ∷ alone low6_a
    ∷ []

-- the piece that Z chooses
abbrev pub low_piece : ℤ → Piece
low_piece z = get_or low_pieces (index_in low_ends z) (alone [])
