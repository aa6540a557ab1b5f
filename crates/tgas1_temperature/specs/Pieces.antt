-- The temperature code of TGAS1 in source document 000, labels 310 to 430: a band's pieces.
use Rattle.std.specs.Prelude.{List, [], ℕ, ℤ, get_or}
use Rattle.fit.specs.Fit.{Piece, alone}
use Rattle.bands.specs.declared.Band.{Band}
use Rattle.bands.specs.declared.Band.TheVariants.{Low, Middle, High}
use Rattle.bands.specs.Region.{temperature_index}
use Rattle.tgas1_temperature_low.specs.Pieces.{low_pieces}
use Rattle.tgas1_temperature_middle.specs.Pieces.{middle_pieces}
use Rattle.tgas1_temperature_high.specs.Pieces.{high_pieces}

-- a band's pieces, in order
abbrev pub temperature_pieces : Band → List Piece
temperature_pieces Low = low_pieces
temperature_pieces Middle = middle_pieces
temperature_pieces High = high_pieces

-- the coefficients of a band's i-th piece
abbrev pub temperature_piece : Band → ℕ → Piece
temperature_piece b i = get_or (temperature_pieces b) i (alone [])

-- the piece of a band that Z chooses
abbrev pub piece_in : Band → ℤ → Piece
piece_in b z = temperature_piece b (temperature_index b z)
