-- Gamma's pieces in the high band, TGAS1 of source document 000, labels 200 to 230: coefficients, ends and the listing's warning.
-- A coefficient is written in units of 10^-10, with _ where the listing has its point.
use Rattle.std.specs.Prelude.{List, [], ◌∷◌, ℤ, pos, get_or}
use Rattle.fit.specs.Fit.{Piece, alone, joint, plus_by, kept_by}
use Rattle.bands.specs.Units.{p, m, index_in}

-- label 200: high band, piece 1, the one gamma
abbrev pub high1_a : List ℤ
high1_a = p 1_3988000000 ∷ []

-- label 210: high band, piece 2, A
abbrev pub high2_a : List ℤ
high2_a =
    p 1_3706200000 ∷ p 0_0129673000  -- GAS1
    ∷ p 0_1114180000 ∷ m 0_0326912000  -- GAS2
    ∷ p 0_0010686900 ∷ m 0_0020028600 ∷ p 0_0002383050  -- GAS3
    ∷ m 0_1061330000 ∷ p 0_0190251000 ∷ p 0_0030221000  -- GAS4
    ∷ []

-- label 220: high band, piece 3, A
abbrev pub high3_a : List ℤ
high3_a =
    p 0_0343846000 ∷ m 0_2335840000  -- GAS1
    ∷ p 2_8557400000 ∷ p 0_2597870000  -- GAS2
    ∷ m 0_0108992700 ∷ p 0_0042365900 ∷ p 0_0003857120  -- GAS3
    ∷ m 1_9478500000 ∷ m 0_0673865000 ∷ p 0_4085180000  -- GAS4
    ∷ []

-- label 220, B
abbrev pub high3_b : List ℤ
high3_b =
    m 4_2056900000 ∷ p 0_1331390000  -- GAS5
    ∷ p 4_5123600000 ∷ m 0_1663410000  -- GAS6
    ∷ p 0_0016778700 ∷ m 0_0011002200 ∷ p 0_0003066760  -- GAS7
    ∷ m 1_3551600000 ∷ p 0_0491716000 ∷ p 0_0752509000  -- GAS8
    ∷ []

-- label 220, exponent
abbrev pub high3_q : List ℤ
high3_q =
    p 175_7042000000 ∷ m 2_1632780000 ∷ m 88_3370200000 ∷ p 1_8975430000  -- GAS9
    ∷ []

-- label 230: high band, piece 4, A
abbrev pub high4_a : List ℤ
high4_a =
    m 1_7063300000 ∷ m 0_1484030000  -- GAS1
    ∷ p 4_2310400000 ∷ p 0_1372900000  -- GAS2
    ∷ m 0_0091093400 ∷ p 0_0038570700 ∷ p 0_0002690260  -- GAS3
    ∷ m 1_9729200000 ∷ m 0_0281830000 ∷ p 0_2958820000  -- GAS4
    ∷ []

-- label 230, B
abbrev pub high4_b : List ℤ
high4_b =
    p 34_1580000000 ∷ m 18_9972000000  -- GAS5
    ∷ m 40_8580000000 ∷ p 13_0321000000  -- GAS6
    ∷ m 0_8012720000 ∷ p 0_2751210000 ∷ m 0_0001779690  -- GAS7
    ∷ p 16_0826000000 ∷ m 2_2338600000 ∷ m 2_0885300000  -- GAS8
    ∷ []

-- label 230, exponent
abbrev pub high4_q : List ℤ
high4_q =
    p 256_1323000000 ∷ p 173_7089000000 ∷ m 90_5889000000 ∷ m 58_3880300000  -- GAS9
    ∷ []

-- where the band's pieces end, upper end included; what lies above the last end is one more piece
abbrev pub high_ends : List ℤ
high_ends = pos 650000 ∷ pos 1700000 ∷ pos 2350000 ∷ []

-- label 230: a Z above this gets the listing's warning
abbrev pub high_limit : ℤ
high_limit = pos 2900000

-- the band's pieces, in order; the first has one gamma. Shut, so that no goal prints the table
unfoldable pub high_pieces : List Piece
high_pieces =
    alone high1_a
    ∷ alone high2_a
    ∷ joint high3_a high3_b (plus_by high3_q)
    ∷ joint high4_a high4_b (kept_by 300000000000 high4_q)
    ∷ []

-- the piece that Z chooses
abbrev pub high_piece : ℤ → Piece
high_piece z = get_or high_pieces (index_in high_ends z) (alone [])
