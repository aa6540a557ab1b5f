-- The gamma code of TGAS1 in source document 000, labels 90 to 240: a band's pieces, their ends and the listing's warning.
use Rattle.std.specs.Prelude.{List, [], ℤ, get_or}
use Rattle.fit.specs.Fit.{Piece, alone}
use Rattle.bands.specs.Units.{index_in}
use Rattle.bands.specs.declared.Band.{Band}
use Rattle.bands.specs.declared.Band.TheVariants.{Low, Middle, High}
use Rattle.tgas1_gamma_low.specs.Pieces.{low_ends, low_limit, low_pieces}
use Rattle.tgas1_gamma_middle.specs.Pieces.{middle_ends, middle_limit, middle_pieces}
use Rattle.tgas1_gamma_high.specs.Pieces.{high_ends, high_limit, high_pieces}

-- where a band's pieces end, upper end included; what lies above the last end is one more piece
abbrev pub gamma_ends : Band → List ℤ
gamma_ends Low = low_ends
gamma_ends Middle = middle_ends
gamma_ends High = high_ends

-- labels 140, 190 and 230: a Z above this gets the listing's warning
abbrev pub gamma_limit : Band → ℤ
gamma_limit Low = low_limit
gamma_limit Middle = middle_limit
gamma_limit High = high_limit

-- a band's pieces, in order
abbrev pub gamma_pieces : Band → List Piece
gamma_pieces Low = low_pieces
gamma_pieces Middle = middle_pieces
gamma_pieces High = high_pieces

-- the piece of a band that Z chooses
abbrev pub gamma_piece : Band → ℤ → Piece
gamma_piece b z = get_or (gamma_pieces b) (index_in (gamma_ends b) z) (alone [])
