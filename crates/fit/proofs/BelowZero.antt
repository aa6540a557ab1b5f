-- The part of B is rounded down: where its exact value lies between -1 and 0 it is -1, and toward zero it would be 0.
use mathlib.Core.List.{[], ◌∷◌}
use mathlib.Core.Path.{◌≡◌, refl}
use lib.IntN.{pos, negsuc}
use Rattle.quotient.specs.Mul.{mul}
use Rattle.bicubic.specs.Bicubic.{gas1, gas2, gas3, gas4, bicubic}
use Rattle.fit.specs.Fit.{joint, plus_by, fitted}

-- A is 0, B is -1, the weight is one unit
pub fitted_down : fitted (joint [] (negsuc 0 ∷ []) (plus_by [])) (pos 0) (pos 0) (pos 1) ≡ negsuc 0
unfolding bicubic gas1 gas2 gas3 gas4 mul
fitted_down = refl
