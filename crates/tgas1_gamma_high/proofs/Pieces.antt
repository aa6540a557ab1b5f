-- Every coefficient of gamma's pieces in the high band is small: one computed test over the table.
use lib.Dec.{T}
use lib.IntN.{ℤ}
use Rattle.fit.specs.Edge.{Small}
use Rattle.fit.proofs.Pieces.{all_small, small_in}
use Rattle.bands.specs.Units.{index_in}
use Rattle.tgas1_gamma_high.specs.Pieces.{high_ends, high_pieces, high_piece}

table_small : T (all_small high_pieces)
unfolding all_small high_pieces
table_small = tt

pub piece_small : (z : ℤ) → Small (high_piece z)
piece_small z = small_in high_pieces table_small (index_in high_ends z)
