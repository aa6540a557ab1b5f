-- What code may take for granted of a place: where its numbers lie.
use Rattle.std.specs.Prelude.{◌≤◌, ℤ, nat_abs}
use Rattle.quotient.specs.Range.{Between}
use Rattle.bands.specs.declared.Strip.{Strip}

-- a Y and a Z that a fit is taken at
pub record PlaceReady (y z : ℤ) : Type 0 where
  pub y_most : nat_abs y ≤ 7000000
  pub z_most : nat_abs z ≤ 5000000

-- a strip around a Y, and a Z
pub record JoinReady (s : Strip) (y z : ℤ) : Type 0 where
  pub between : Between s.low s.high y
  pub low : PlaceReady s.low z
  pub high : PlaceReady s.high z
