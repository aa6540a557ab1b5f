-- Temperature's pieces in the middle band, TGAS1 of source document 000, labels 360 to 390: coefficients and ends.
-- A coefficient is written in units of 10^-10, with _ where the listing has its point.
use Rattle.std.specs.Prelude.{List, [], ◌∷◌, ℤ, pos, get_or}
use Rattle.fit.specs.Fit.{Piece, alone, joint, plus_by}
use Rattle.bands.specs.Units.{p, m, index_in}

-- label 360: middle band, piece 1, A
abbrev pub middle1_a : List ℤ
middle1_a =
    p 0_0294996000 ∷ p 0_0072499700  -- GAS1
    ∷ p 0_7817830000 ∷ m 0_0327402000  -- GAS2
    ∷ p 0_0003233570 ∷ m 0_0009699890 ∷ m 0_0000089324  -- GAS3
    ∷ p 0_3951980000 ∷ p 0_0292926000 ∷ m 0_2121820000  -- GAS4
    ∷ []

-- label 370: middle band, piece 2, A
abbrev pub middle2_a : List ℤ
middle2_a =
    m 5_5332400000 ∷ m 0_3537490000  -- GAS1
    ∷ p 16_3638000000 ∷ p 0_5875470000  -- GAS2
    ∷ m 0_0116081000 ∷ p 0_0079957100 ∷ m 0_0002793160  -- GAS3
    ∷ m 14_1239000000 ∷ m 0_2351460000 ∷ p 4_2889100000  -- GAS4
    ∷ []

-- label 370, B; document 004 has the other sign before the first number, and 000 stands
abbrev pub middle2_b : List ℤ
middle2_b =
    p 9_0797900000 ∷ p 1_0130800000  -- GAS5
    ∷ m 22_9428000000 ∷ m 1_5212200000  -- GAS6
    ∷ p 0_0378390000 ∷ m 0_0263115000 ∷ p 0_0005464020  -- GAS7
    ∷ p 19_5657000000 ∷ p 0_5738390000 ∷ m 5_6305700000  -- GAS8
    ∷ []

-- label 370, exponent
abbrev pub middle2_q : List ℤ
middle2_q =
    p 76_1980300000 ∷ m 15_0115500000 ∷ m 67_7084500000 ∷ p 12_7314700000  -- GAS9
    ∷ []

-- label 380: middle band, piece 3, A
abbrev pub middle3_a : List ℤ
middle3_a =
    m 11_3598000000 ∷ m 1_0204900000  -- GAS1
    ∷ p 22_2793000000 ∷ p 1_2403800000  -- GAS2
    ∷ m 0_0310771000 ∷ p 0_0192551000 ∷ m 0_0002691400  -- GAS3
    ∷ m 13_1512000000 ∷ m 0_3628750000 ∷ p 2_6454400000  -- GAS4
    ∷ []

-- label 380, B
abbrev pub middle3_b : List ℤ
middle3_b =
    p 8_7285200000 ∷ p 1_2756400000  -- GAS5
    ∷ m 17_9172000000 ∷ m 1_5205100000  -- GAS6
    ∷ p 0_0491264000 ∷ m 0_0281731000 ∷ p 0_0005233830  -- GAS7
    ∷ p 11_6719000000 ∷ p 0_4454130000 ∷ m 2_4558400000  -- GAS8
    ∷ []

-- label 380, exponent
abbrev pub middle3_q : List ℤ
middle3_q =
    p 184_7920000000 ∷ p 9_5834430000 ∷ m 102_0835000000 ∷ m 4_1667270000  -- GAS9
    ∷ []

-- label 390: middle band, piece 4, A
abbrev pub middle4_a : List ℤ
middle4_a =
    m 17_6079000000 ∷ m 1_2657900000  -- GAS1
    ∷ p 24_8544000000 ∷ p 1_0944200000  -- GAS2
    ∷ m 0_0365534000 ∷ p 0_0154346000 ∷ m 0_0004598220  -- GAS3
    ∷ m 10_8166000000 ∷ m 0_2278030000 ∷ p 1_6064100000  -- GAS4
    ∷ []

-- label 390, B
abbrev pub middle4_b : List ℤ
middle4_b =
    p 26_0669000000 ∷ p 2_3179100000  -- GAS5
    ∷ m 32_2433000000 ∷ m 1_8264500000  -- GAS6
    ∷ p 0_0494621000 ∷ m 0_0185542000 ∷ p 0_0005048150  -- GAS7
    ∷ p 13_3829000000 ∷ p 0_3597440000 ∷ m 1_8651700000  -- GAS8
    ∷ []

-- label 390, exponent
abbrev pub middle4_q : List ℤ
middle4_q =
    p 309_3755000000 ∷ p 18_7501800000 ∷ m 137_5004000000 ∷ m 8_3334180000  -- GAS9
    ∷ []

-- where the band's pieces end, upper end included; what lies above the last end is one more piece
abbrev pub middle_ends : List ℤ
middle_ends = pos 950000 ∷ pos 1400000 ∷ pos 2000000 ∷ []

-- the band's pieces, in order. Shut, so that no goal prints the table
unfoldable pub middle_pieces : List Piece
middle_pieces =
    alone middle1_a
    ∷ joint middle2_a middle2_b (plus_by middle2_q)
    ∷ joint middle3_a middle3_b (plus_by middle3_q)
    ∷ joint middle4_a middle4_b (plus_by middle4_q)
    ∷ []

-- the piece that Z chooses
abbrev pub middle_piece : ℤ → Piece
middle_piece z = get_or middle_pieces (index_in middle_ends z) (alone [])
