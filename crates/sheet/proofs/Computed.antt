-- Sheets of version 2 as request 5 has them, computed: what is read, and what is refused.
use mathlib.Core.List.{List, [], ◌∷◌}
use mathlib.Core.Path.{◌≡◌, refl}
use Prim.Native.Nat.{ℕ}
use Rattle.octets.specs.Bytes.{number_at, after}
use Rattle.sheet_record.specs.Front.{front_of}
use Rattle.sheet.specs.Sheet.{refused, records, walk, sheet_by, sheet_of}

-- a sheet with so many records announced, and a record with a name of one byte, with what follows each
abbrev pub sheet_with : ℕ → ℕ → List ℕ → List ℕ
sheet_with version count u = 69 ∷ 65 ∷ 83 ∷ 0 ∷ version ∷ 0 ∷ count ∷ u

abbrev pub record_with : ℕ → ℕ → List ℕ → List ℕ
record_with name kind u = 1 ∷ name ∷ kind ∷ 0 ∷ 0 ∷ 0 ∷ 0 ∷ 0 ∷ 0 ∷ 0 ∷ 5 ∷ 0 ∷ 0 ∷ 0 ∷ 0 ∷ 0 ∷ 0 ∷ 0 ∷ 6 ∷ u

-- two records, the first with a remark of two bytes, the second with an empty one
pub two_read :
    sheet_of (sheet_with 2 2 (record_with 97 1 (2 ∷ 120 ∷ 121 ∷ record_with 98 2 (0 ∷ []))))
    ≡ records
    (record { start = 8; len = 1; kind = 1; first = 5; second = 6 } ∷ record { start = 30; len = 1; kind = 2; first = 5; second = 6 } ∷ [])
unfolding sheet_by walk front_of number_at after
two_read = refl

-- the record in a remark is none; a name seen behind a remark; a byte left over; a cut remark
pub refusals :
    (sheet_of (sheet_with 2 2 (record_with 97 1 (20 ∷ record_with 98 2 (0 ∷ [])))) ≡ refused 4)
    × (sheet_of (sheet_with 2 2 (record_with 97 1 (1 ∷ 120 ∷ record_with 97 2 (0 ∷ [])))) ≡ refused 16)
    × (sheet_of (sheet_with 2 1 (record_with 97 1 (1 ∷ 120 ∷ 121 ∷ []))) ≡ refused 4)
    × (sheet_of (sheet_with 2 2 (record_with 97 1 (0 ∷ record_with 97 9 (2 ∷ 120 ∷ [])))) ≡ refused 4)
    × (sheet_of (sheet_with 1 1 (record_with 97 1 (0 ∷ []))) ≡ refused 4)
    × (sheet_of (sheet_with 3 1 (record_with 97 1 (0 ∷ []))) ≡ refused 3)
unfolding sheet_by walk front_of number_at after
refusals = (refl, refl, refl, refl, refl, refl)
