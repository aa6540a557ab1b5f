-- The strips at their edges: a strip has the Y strictly between -4,525,000 and -4,475,000, or between -505,000 and -495,000.
use mathlib.Core.Path.{◌≡◌, refl}
use lib.IntN.{ℤ, pos, neg_ℤ}
use Rattle.std.specs.Prelude.{Some, None}
use Rattle.bands.specs.Bands.{strip_of}

-- the first and the last Y of a strip, with its edges beside them
pub record Holds (a b first last : ℤ) : Type 0 where
  pub before : strip_of a ≡ None
  pub first_in : strip_of first ≡ Some (record { low = a; high = b })
  pub last_in : strip_of last ≡ Some (record { low = a; high = b })
  pub behind : strip_of b ≡ None

pub wide : Holds (neg_ℤ (pos 4525000)) (neg_ℤ (pos 4475000)) (neg_ℤ (pos 4524999)) (neg_ℤ (pos 4475001))
wide = record { before = refl; first_in = refl; last_in = refl; behind = refl }

pub narrow : Holds (neg_ℤ (pos 505000)) (neg_ℤ (pos 495000)) (neg_ℤ (pos 504999)) (neg_ℤ (pos 495001))
narrow = record { before = refl; first_in = refl; last_in = refl; behind = refl }
