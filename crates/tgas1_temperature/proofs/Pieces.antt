-- How large the coefficients of a band's pieces are.
use lib.IntN.{ℤ}
use Rattle.fit.specs.Edge.{Small}
use Rattle.bands.specs.declared.Band.{Band}
use Rattle.bands.specs.declared.Band.TheVariants.{Low, Middle, High}
use Rattle.tgas1_temperature_low.proofs.Pieces as low
use Rattle.tgas1_temperature_middle.proofs.Pieces as middle
use Rattle.tgas1_temperature_high.proofs.Pieces as high
use Rattle.tgas1_temperature.specs.Pieces.{piece_in}

pub piece_small : (b : Band) (z : ℤ) → Small (piece_in b z)
piece_small Low z = low.piece_small z
piece_small Middle z = middle.piece_small z
piece_small High z = high.piece_small z
