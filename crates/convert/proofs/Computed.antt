-- Sheets of both versions as request 6 has them, computed: what each way gives, and the order of its refusals.
use mathlib.Core.List.{List, [], ◌∷◌}
use mathlib.Core.Path.{◌≡◌, refl}
use Prim.Native.Nat.{ℕ}
use Rattle.octets.specs.Bytes.{number_at, after}
use Rattle.octets.specs.Room.{refused, text}
use Rattle.sheet_record.specs.Layout.{layout_in}
use Rattle.sheet_record.specs.Front.{front_of}
use Rattle.sheet.specs.Sheet.{sheet_by, walk}
use Rattle.sheet.proofs.Computed.{sheet_with, record_with}
use Rattle.convert_records.specs.Records.{records_as, bare}
use Rattle.convert.specs.Convert.{forward, back}

-- two states in version 1, and the same in version 2 with the remarks that the lists hold behind their length bytes
abbrev pub in_one : List ℕ
in_one = sheet_with 1 2 (record_with 97 1 (record_with 98 2 []))

abbrev pub in_two : List ℕ
in_two = sheet_with 2 2 (record_with 97 1 (0 ∷ record_with 98 2 (0 ∷ [])))

-- the second state alone has a remark, of two bytes
abbrev pub remarked : List ℕ
remarked = sheet_with 2 2 (record_with 97 1 (0 ∷ record_with 98 2 (2 ∷ 120 ∷ 121 ∷ [])))

-- both ways, in room that is exact; a sheet without a record
pub both_ways :
    (forward in_one 47 ≡ text in_two)
    × (back in_two 45 ≡ text in_one)
    × (forward (sheet_with 1 0 []) 7 ≡ text (sheet_with 2 0 []))
    × (back (sheet_with 2 0 []) 7 ≡ text (sheet_with 1 0 []))
unfolding forward back sheet_by walk front_of number_at after layout_in records_as bare
both_ways = (refl, refl, refl, refl)

-- 65,535 records are announced, which would make a result of over 65,536 bytes, and there are two: their names, or the missing third, come first
pub own_first :
    (forward (69 ∷ 65 ∷ 83 ∷ 0 ∷ 1 ∷ 255 ∷ 255 ∷ record_with 97 1 (record_with 97 1 [])) 65536 ≡ refused 16)
    × (forward (69 ∷ 65 ∷ 83 ∷ 0 ∷ 1 ∷ 255 ∷ 255 ∷ record_with 97 1 (record_with 98 1 [])) 65536 ≡ refused 4)
unfolding forward sheet_by walk front_of number_at after
own_first = (refl, refl)

-- room that is a byte short; the other version and an unknown one, also where a record is cut; 16 before 18, 18 before 14, in the last record
pub refusals :
    (forward in_one 46 ≡ refused 14)
    × (back in_two 44 ≡ refused 14)
    × (forward in_two 47 ≡ refused 3)
    × (back in_one 47 ≡ refused 3)
    × (forward (sheet_with 2 1 []) 47 ≡ refused 3)
    × (back (sheet_with 3 1 []) 47 ≡ refused 3)
    × (back remarked 47 ≡ refused 18)
    × (back remarked 0 ≡ refused 18)
    × (back (sheet_with 2 2 (record_with 97 1 (1 ∷ 120 ∷ record_with 97 2 (0 ∷ [])))) 0 ≡ refused 16)
unfolding forward back sheet_by walk front_of number_at after layout_in records_as bare
refusals = (refl, refl, refl, refl, refl, refl, refl, refl, refl)
