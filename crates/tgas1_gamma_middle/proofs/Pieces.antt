-- Every coefficient of gamma's pieces in the middle band is small: one computed test over the table.
use lib.Dec.{T}
use lib.IntN.{ℤ}
use Rattle.fit.specs.Edge.{Small}
use Rattle.fit.proofs.Pieces.{all_small, small_in}
use Rattle.bands.specs.Units.{index_in}
use Rattle.tgas1_gamma_middle.specs.Pieces.{middle_ends, middle_pieces, middle_piece}

table_small : T (all_small middle_pieces)
unfolding all_small middle_pieces
table_small = tt

pub piece_small : (z : ℤ) → Small (middle_piece z)
piece_small z = small_in middle_pieces table_small (index_in middle_ends z)
