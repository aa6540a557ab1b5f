-- Gamma's pieces in the middle band, TGAS1 of source document 000, labels 150 to 190: coefficients, ends and the listing's warning.
-- A coefficient is written in units of 10^-10, with _ where the listing has its point.
use Rattle.std.specs.Prelude.{List, [], ◌∷◌, ℤ, pos, get_or}
use Rattle.fit.specs.Fit.{Piece, alone, joint, plus_by}
use Rattle.bands.specs.Units.{p, m, index_in}

-- label 150: middle band, piece 1, the one gamma
abbrev pub middle1_a : List ℤ
middle1_a = p 1_3980000000 ∷ []

-- label 160: middle band, piece 2, A
abbrev pub middle2_a : List ℤ
middle2_a =
    p 1_3912300000 ∷ m 0_0040832100  -- GAS1
    ∷ p 0_0142545000 ∷ p 0_0141769000  -- GAS2
    ∷ p 0_0002572250 ∷ p 0_0006529120 ∷ p 0_0000846912  -- GAS3
    ∷ p 0_0625550000 ∷ m 0_0078363700 ∷ m 0_0978720000  -- GAS4
    ∷ []

-- label 160, B
abbrev pub middle2_b : List ℤ
middle2_b =
    p 5_8095500000 ∷ m 0_1823020000  -- GAS5
    ∷ m 9_6239600000 ∷ p 0_1796190000  -- GAS6
    ∷ m 0_0230518000 ∷ p 0_0118720000 ∷ m 0_0003354990  -- GAS7
    ∷ p 5_2704700000 ∷ m 0_0365507000 ∷ m 0_9198970000  -- GAS8
    ∷ []

-- label 160, exponent
abbrev pub middle2_q : List ℤ
middle2_q =
    p 14_2000000000 ∷ p 0_0000000000 ∷ m 10_0000000000 ∷ p 0_0000000000  -- GAS9
    ∷ []

-- label 170: middle band, piece 3, A
abbrev pub middle3_a : List ℤ
middle3_a =
    m 1_2078400000 ∷ m 0_2579090000  -- GAS1
    ∷ p 5_0230700000 ∷ p 0_2872010000  -- GAS2
    ∷ m 0_0099557700 ∷ p 0_0052352400 ∷ m 0_0001455740  -- GAS3
    ∷ m 3_2061900000 ∷ m 0_0750405000 ∷ p 0_6515640000  -- GAS4
    ∷ []

-- label 170, B
abbrev pub middle3_b : List ℤ
middle3_b =
    m 6_6284100000 ∷ p 0_0277112000  -- GAS5
    ∷ p 7_3076200000 ∷ m 0_0768230000  -- GAS6
    ∷ p 0_0071942100 ∷ m 0_0036246300 ∷ p 0_0001627770  -- GAS7
    ∷ m 2_3316100000 ∷ p 0_0304767000 ∷ p 0_1668560000  -- GAS8
    ∷ []

-- label 170, exponent
abbrev pub middle3_q : List ℤ
middle3_q =
    p 125_5324000000 ∷ p 2_0153350000 ∷ m 63_9074700000 ∷ m 0_6515225000  -- GAS9
    ∷ []

-- label 180: middle band, piece 4, A
abbrev pub middle4_a : List ℤ
middle4_a =
    m 2_2646000000 ∷ m 0_0782263000  -- GAS1
    ∷ p 4_9049700000 ∷ p 0_0718096000  -- GAS2
    ∷ m 0_0030644300 ∷ p 0_0017420900 ∷ p 0_0000284214  -- GAS3
    ∷ m 2_2475000000 ∷ m 0_0131641000 ∷ p 0_3336580000  -- GAS4
    ∷ []

-- label 180, B
abbrev pub middle4_b : List ℤ
middle4_b =
    m 14_7904000000 ∷ m 0_1766270000  -- GAS5
    ∷ p 13_5036000000 ∷ p 0_0877280000  -- GAS6
    ∷ m 0_0021332700 ∷ p 0_0007154870 ∷ p 0_0000730928  -- GAS7
    ∷ m 3_9537200000 ∷ m 0_0089615100 ∷ p 0_3632290000  -- GAS8
    ∷ []

-- label 180, exponent
abbrev pub middle4_q : List ℤ
middle4_q =
    p 178_8542000000 ∷ p 6_3178940000 ∷ m 67_5674100000 ∷ m 2_4600600000  -- GAS9
    ∷ []

-- label 190: middle band, piece 5, A
abbrev pub middle5_a : List ℤ
middle5_a =
    m 16_6904000000 ∷ m 0_2583180000  -- GAS1
    ∷ p 17_8350000000 ∷ p 0_1548980000  -- GAS2
    ∷ m 0_0097126300 ∷ p 0_0039774000 ∷ p 0_0000904300  -- GAS3
    ∷ m 5_9410800000 ∷ m 0_0201335000 ∷ p 0_6604320000  -- GAS4
    ∷ []

-- label 190, B
abbrev pub middle5_b : List ℤ
middle5_b =
    p 85_4690000000 ∷ p 11_7554000000  -- GAS5
    ∷ m 72_1760000000 ∷ m 7_1572300000  -- GAS6
    ∷ m 0_0416150000 ∷ p 0_0138147000 ∷ p 0_0005451840  -- GAS7
    ∷ p 20_1758000000 ∷ p 1_0899000000 ∷ m 1_8643800000  -- GAS8
    ∷ []

-- label 190, exponent
abbrev pub middle5_q : List ℤ
middle5_q =
    p 288_3262000000 ∷ p 12_4853600000 ∷ m 88_1698500000 ∷ m 3_7203090000  -- GAS9
    ∷ []

-- where the band's pieces end, upper end included; what lies above the last end is one more piece
abbrev pub middle_ends : List ℤ
middle_ends = pos 650000 ∷ pos 1500000 ∷ pos 2220000 ∷ pos 2950000 ∷ []

-- label 190: a Z above this gets the listing's warning
abbrev pub middle_limit : ℤ
middle_limit = pos 3400000

-- the band's pieces, in order; the first has one gamma. Shut, so that no goal prints the table
unfoldable pub middle_pieces : List Piece
middle_pieces =
    alone middle1_a
    ∷ joint middle2_a middle2_b (plus_by middle2_q)
    ∷ joint middle3_a middle3_b (plus_by middle3_q)
    ∷ joint middle4_a middle4_b (plus_by middle4_q)
    ∷ joint middle5_a middle5_b (plus_by middle5_q)
    ∷ []

-- the piece that Z chooses
abbrev pub middle_piece : ℤ → Piece
middle_piece z = get_or middle_pieces (index_in middle_ends z) (alone [])
