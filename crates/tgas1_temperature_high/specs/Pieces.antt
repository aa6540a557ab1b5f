-- Temperature's pieces in the high band, TGAS1 of source document 000, labels 410 to 430: coefficients and ends.
-- A coefficient is written in units of 10^-10, with _ where the listing has its point.
use Rattle.std.specs.Prelude.{List, [], ◌∷◌, ℤ, pos, get_or}
use Rattle.fit.specs.Fit.{Piece, alone, joint, plus_by}
use Rattle.bands.specs.Units.{p, m, index_in}

-- label 410: high band, piece 1, A
abbrev pub high1_a : List ℤ
high1_a =
    m 0_0029408100 ∷ p 0_0005739150  -- GAS1
    ∷ p 0_9888830000 ∷ m 0_0037124100  -- GAS2
    ∷ p 0_0001123870 ∷ m 0_0003765280 ∷ p 0_0000176192  -- GAS3
    ∷ p 0_0286656000 ∷ p 0_0045605900 ∷ m 0_0199498000  -- GAS4
    ∷ []

-- label 420: high band, piece 2, A
abbrev pub high2_a : List ℤ
high2_a =
    p 1_3239600000 ∷ p 0_0852771000  -- GAS1
    ∷ m 3_2425700000 ∷ m 0_2009370000  -- GAS2
    ∷ p 0_0056814600 ∷ m 0_0068585600 ∷ p 0_0001983660  -- GAS3
    ∷ p 4_5382300000 ∷ p 0_1181230000 ∷ m 1_6246000000  -- GAS4
    ∷ []

-- label 420, B
abbrev pub high2_b : List ℤ
high2_b =
    m 0_5266730000 ∷ m 0_1586910000  -- GAS5
    ∷ p 2_6160000000 ∷ p 0_3163560000  -- GAS6
    ∷ m 0_0190755000 ∷ p 0_0170124000 ∷ m 0_0005583980  -- GAS7
    ∷ m 3_3793000000 ∷ m 0_1522120000 ∷ p 1_3075700000  -- GAS8
    ∷ []

-- label 420, exponent
abbrev pub high2_q : List ℤ
high2_q =
    p 144_2206000000 ∷ m 25_4472700000 ∷ m 127_7055000000 ∷ p 22_3664700000  -- GAS9
    ∷ []

-- label 430: high band, piece 3, A
abbrev pub high3_a : List ℤ
high3_a =
    m 1_6064300000 ∷ m 0_0507368000  -- GAS1
    ∷ p 3_9587200000 ∷ p 0_0369383000  -- GAS2
    ∷ m 0_0015937800 ∷ p 0_0010605700 ∷ p 0_0000653278  -- GAS3
    ∷ m 1_7120100000 ∷ p 0_0092512400 ∷ p 0_2710390000  -- GAS4
    ∷ []

-- label 430, B
abbrev pub high3_b : List ℤ
high3_b =
    p 18_0476000000 ∷ p 1_6296400000  -- GAS5
    ∷ m 27_3124000000 ∷ m 1_5743000000  -- GAS6
    ∷ p 0_0585277000 ∷ m 0_0277313000 ∷ p 0_0011614600  -- GAS7
    ∷ p 13_6342000000 ∷ p 0_3707140000 ∷ m 2_2378700000  -- GAS8
    ∷ []

-- label 430, exponent
abbrev pub high3_q : List ℤ
high3_q =
    p 129_2515000000 ∷ p 1_3605520000 ∷ m 70_7482000000 ∷ p 1_3605320000  -- GAS9
    ∷ []

-- where the band's pieces end, upper end included; what lies above the last end is one more piece
abbrev pub high_ends : List ℤ
high_ends = pos 950000 ∷ pos 1450000 ∷ []

-- the band's pieces, in order. Shut, so that no goal prints the table
unfoldable pub high_pieces : List Piece
high_pieces =
    alone high1_a
    ∷ joint high2_a high2_b (plus_by high2_q)
    ∷ joint high3_a high3_b (plus_by high3_q)
    ∷ []

-- the piece that Z chooses
abbrev pub high_piece : ℤ → Piece
high_piece z = get_or high_pieces (index_in high_ends z) (alone [])
