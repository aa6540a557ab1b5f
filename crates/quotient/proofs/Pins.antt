-- A product is rounded down: where the exact value lies between -1 and 0 it is -1, and toward zero it would be 0.
use mathlib.Core.Path.{◌≡◌, refl}
use lib.IntN.{pos, negsuc}
use Rattle.quotient.specs.Mul.{mul}

pub mul_down : mul (negsuc 0) (pos 1) ≡ negsuc 0
unfolding mul
mul_down = refl
