-- The straight line is rounded down: where the exact value lies between -1 and 0 it is -1, and toward zero it would be 0.
use mathlib.Core.Path.{◌≡◌, refl}
use lib.IntN.{pos, negsuc}
use Rattle.proportion.specs.Straight.{straight}

-- half way from 0 to -1
pub straight_down : straight (pos 0) (pos 2) (pos 0) (negsuc 0) (pos 1) ≡ negsuc 0
straight_down = refl
