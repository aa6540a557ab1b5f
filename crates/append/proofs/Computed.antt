-- Adds as request 7 has them, computed: the sheet that grows, and the order of the refusals.
use mathlib.Core.Bool.{true, false}
use mathlib.Core.List.{List, [], ◌∷◌, ◌++◌}
use mathlib.Core.Path.{◌≡◌, refl}
use Prim.Native.Nat.{ℕ}
use lib.ListN.{replicate}
use Rattle.octets.specs.Bytes.{number_at, after, bytes_of}
use Rattle.octets.specs.Room.{refused, text}
use Rattle.name.specs.Spelling.{unreserved, hex_value, reading}
use Rattle.name.specs.Name.{name_of}
use Rattle.sheet_record.specs.Front.{front_of}
use Rattle.sheet.specs.Sheet.{sheet_by, walk}
use Rattle.sheet.proofs.Computed.{sheet_with, record_with}
use Rattle.append_record.specs.Grown.{grown}
use Rattle.append.specs.Add.{add_fault, added}

-- one state with a remark of two bytes: 29 bytes, and 49 with another
abbrev one : List ℕ
one = sheet_with 2 1 (record_with 97 1 (2 ∷ 120 ∷ 121 ∷ []))

-- in exact room; a name in percent form, and values of 64 bits; a count whose high byte is raised
pub grows_by_one :
    (added one (98 ∷ []) 2 5 6 49 ≡ text (sheet_with 2 2 (record_with 97 1 (2 ∷ 120 ∷ 121 ∷ record_with 98 2 (0 ∷ [])))))
    × (added (sheet_with 2 0 []) (37 ∷ 55 ∷ 69 ∷ []) 3 18446744073709551615 256 27
    ≡ text (sheet_with 2 1 (1 ∷ 126 ∷ 3 ∷ 255 ∷ 255 ∷ 255 ∷ 255 ∷ 255 ∷ 255 ∷ 255 ∷ 255 ∷ 0 ∷ 0 ∷ 0 ∷ 0 ∷ 0 ∷ 0 ∷ 1 ∷ 0 ∷ 0 ∷ [])))
    × (grown (sheet_with 2 255 []) [] ≡ 69 ∷ 65 ∷ 83 ∷ 0 ∷ 2 ∷ 1 ∷ 0 ∷ [])
unfolding added sheet_by walk front_of number_at after bytes_of name_of reading unreserved hex_value
grows_by_one = (refl, refl, refl)

-- 3 for version 1; the sheet's 4 before 7, 7 before 8, 8 before 6, 6 before 16, of a kind over 255 too, 16 before 14, and 14
pub in_order :
    (added (sheet_with 1 1 (record_with 97 1 [])) (98 ∷ []) 2 5 6 100 ≡ refused 3)
    × (added (sheet_with 2 1 []) (37 ∷ []) 9 5 6 0 ≡ refused 4)
    × (added one (replicate 41 97 ++ (37 ∷ [])) 9 5 6 0 ≡ refused 7)
    × (added one [] 9 5 6 0 ≡ refused 8)
    × (added one (97 ∷ []) 9 5 6 0 ≡ refused 6)
    × (added one (98 ∷ []) 257 5 6 49 ≡ refused 6)
    × (added one (97 ∷ []) 1 5 6 0 ≡ refused 16)
    × (added one (98 ∷ []) 1 5 6 48 ≡ refused 14)
unfolding added sheet_by walk front_of number_at after bytes_of name_of reading unreserved hex_value
in_order = (refl, refl, refl, refl, refl, refl, refl, refl)

-- 16 before 19, 19 before 14, and neither at 65,536 bytes
pub at_the_limit :
    (add_fault true true 65537 0 ≡ 16) × (add_fault true false 65537 0 ≡ 19) × (add_fault true false 65536 65535 ≡ 14) × (add_fault true false 65536 65536 ≡ 0)
at_the_limit = (refl, refl, refl, refl)
