-- Document 01, Names, computed: what is written, what is read, and the refusals.
use mathlib.Core.List.{[], ◌∷◌}
use mathlib.Core.Path.{◌≡◌, refl}
use lib.ListN.{replicate}
use Rattle.octets.specs.Room.{refused, text}
use Rattle.name.specs.Spelling.{unreserved, hex_value, spelled_byte, spelled, reading}
use Rattle.name.specs.Name.{name_of, spelling_of}

-- - . 0 9 A Z _ a z ~ stand for themselves; / : @ [ ^ ` { } and 127 do not
pub own_bytes :
    (spelled (45 ∷ 46 ∷ 48 ∷ 57 ∷ 65 ∷ 90 ∷ 95 ∷ 97 ∷ 122 ∷ 126 ∷ []) ≡ 45 ∷ 46 ∷ 48 ∷ 57 ∷ 65 ∷ 90 ∷ 95 ∷ 97 ∷ 122 ∷ 126 ∷ [])
    × (spelled (47 ∷ 58 ∷ 64 ∷ 91 ∷ 94 ∷ []) ≡ 37 ∷ 50 ∷ 70 ∷ 37 ∷ 51 ∷ 65 ∷ 37 ∷ 52 ∷ 48 ∷ 37 ∷ 53 ∷ 66 ∷ 37 ∷ 53 ∷ 69 ∷ [])
    × (spelled (96 ∷ 123 ∷ 125 ∷ 127 ∷ []) ≡ 37 ∷ 54 ∷ 48 ∷ 37 ∷ 55 ∷ 66 ∷ 37 ∷ 55 ∷ 68 ∷ 37 ∷ 55 ∷ 70 ∷ [])
unfolding spelled spelled_byte unreserved
own_bytes = (refl, refl, refl)

-- p/ 1 is written p%2F%201, which has 8 bytes; %70%2f%201 is read to it; a raw /, a%2 and %2G are wrong
pub read_and_written :
    (spelling_of (112 ∷ 47 ∷ 32 ∷ 49 ∷ []) 8 ≡ text (112 ∷ 37 ∷ 50 ∷ 70 ∷ 37 ∷ 50 ∷ 48 ∷ 49 ∷ []))
    × (spelling_of (112 ∷ 47 ∷ 32 ∷ 49 ∷ []) 7 ≡ refused 14)
    × (name_of (37 ∷ 55 ∷ 48 ∷ 37 ∷ 50 ∷ 102 ∷ 37 ∷ 50 ∷ 48 ∷ 49 ∷ []) ≡ text (112 ∷ 47 ∷ 32 ∷ 49 ∷ []))
    × (name_of (112 ∷ 47 ∷ []) ≡ refused 7)
    × (name_of (97 ∷ 37 ∷ 50 ∷ []) ≡ refused 7)
    × (name_of (37 ∷ 50 ∷ 71 ∷ []) ≡ refused 7)
unfolding spelling_of name_of reading hex_value spelled spelled_byte unreserved
read_and_written = (refl, refl, refl, refl, refl, refl)

-- %2541 is read once, to %41
pub read_once : name_of (37 ∷ 50 ∷ 53 ∷ 52 ∷ 49 ∷ []) ≡ text (37 ∷ 52 ∷ 49 ∷ [])
unfolding name_of reading hex_value unreserved
read_once = refl

-- 8: no byte, or 41; 7 comes before it
pub lengths :
    (name_of [] ≡ refused 8)
    × (name_of (replicate 40 97) ≡ text (replicate 40 97))
    × (name_of (replicate 41 97) ≡ refused 8)
    × (name_of (32 ∷ replicate 41 97) ≡ refused 7)
    × (spelling_of [] 0 ≡ refused 8)
    × (spelling_of (replicate 41 97) 0 ≡ refused 8)
unfolding spelling_of name_of reading hex_value unreserved
lengths = (refl, refl, refl, refl, refl, refl)
