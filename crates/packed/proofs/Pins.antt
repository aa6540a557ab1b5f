-- Packed numbers at exact places: which are narrow, and a block of three.
use mathlib.Core.Bool.{true, false}
use mathlib.Core.List.{List, [], ◌∷◌}
use mathlib.Core.Path.{◌≡◌, refl}
use lib.IntN.{ℤ, pos, negsuc}
use Rattle.packed.specs.Packed.{is_narrow, words_of, bytes_from}

-- signed 32 bits hold -2^31 to 2^31 - 1
pub narrow_ends : (is_narrow (negsuc 2147483647) ≡ true) × ((is_narrow (pos 2147483647) ≡ true) × ((is_narrow (negsuc 2147483648) ≡ false) × (is_narrow (pos 2147483648) ≡ false)))
narrow_ends = (refl, (refl, (refl, refl)))

-- -9.325, 0.0262959 and 25.7176, in units of 10^-10
abbrev three : List ℤ
three = negsuc 93249999999 ∷ pos 262959000 ∷ pos 257176000000 ∷ []

pub three_words : words_of three ≡ pos 1239280512 ∷ negsuc 21 ∷ pos 262959000 ∷ negsuc 522037759 ∷ pos 60 ∷ []
unfolding words_of
three_words = refl

pub three_bytes : bytes_from 0 three ≡ 1 ∷ 4 ∷ 7 ∷ []
unfolding bytes_from
three_bytes = refl
