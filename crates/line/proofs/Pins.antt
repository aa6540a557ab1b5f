-- Document 01, Listing program, computed: the letter, Y, Z and the value in this order; a refusal; a name that cannot be read.
use mathlib.Core.List.{[], ◌∷◌}
use mathlib.Core.Path.{◌≡◌, refl}
use lib.IntN.{pos, negsuc}
use Rattle.decimal.specs.Decimal.{digits, natural, whole}
use Rattle.name.specs.Spelling.{unreserved, hex_value, spelled_byte, spelled, reading}
use Rattle.name.specs.Name.{name_of}
use Rattle.air.specs.declared.Edges.TheVariants.{Unfitted}
use Rattle.std.specs.Prelude.{None}
use Rattle.air.specs.Held.{refuses, judges, shows}
use Rattle.air.proofs.Pins.{pair}
use Rattle.line.specs.Line.{value_rest, refusal_rest, line}

-- a%2f with Y = -10, Z = 2 and the value 345: a%2F S -10 2 345
pub shown : line (97 ∷ 37 ∷ 50 ∷ 102 ∷ []) (shows 83 (pair (negsuc 9) (pos 2)) Unfitted None (pos 345))
    ≡ 97 ∷ 37 ∷ 50 ∷ 70 ∷ 32 ∷ 83 ∷ 32 ∷ 45 ∷ 49 ∷ 48 ∷ 32 ∷ 50 ∷ 32 ∷ 51 ∷ 52 ∷ 53 ∷ 10 ∷ []
unfolding line value_rest whole natural digits name_of reading hex_value spelled spelled_byte unreserved
shown = refl

-- 42 ! 13 with the logarithms that it was judged by; ? ! 7
pub refused :
    (line (52 ∷ 50 ∷ []) (judges 13 84 (pair (pos 1) (pos 2)) Unfitted) ≡ 52 ∷ 50 ∷ 32 ∷ 33 ∷ 32 ∷ 49 ∷ 51 ∷ 10 ∷ [])
    × (line (97 ∷ 37 ∷ 50 ∷ []) (refuses 7) ≡ 63 ∷ 32 ∷ 33 ∷ 32 ∷ 55 ∷ 10 ∷ [])
unfolding line refusal_rest natural digits name_of reading hex_value spelled spelled_byte unreserved
refused = (refl, refl)
