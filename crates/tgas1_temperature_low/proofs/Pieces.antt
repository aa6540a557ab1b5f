-- Every coefficient of temperature's pieces in the low band is small: one computed test over the table.
use lib.Dec.{T}
use lib.IntN.{ℤ}
use Rattle.fit.specs.Edge.{Small}
use Rattle.fit.proofs.Pieces.{all_small, small_in}
use Rattle.bands.specs.Units.{index_in}
use Rattle.tgas1_temperature_low.specs.Pieces.{low_ends, low_pieces, low_piece}

table_small : T (all_small low_pieces)
unfolding all_small low_pieces
table_small = tt

pub piece_small : (z : ℤ) → Small (low_piece z)
piece_small z = small_in low_pieces table_small (index_in low_ends z)
