-- Records with empty remarks, and remarks that are looked for, computed on sheets of two states.
use mathlib.Core.Bool.{Bool, true, false}
use mathlib.Core.List.{List, [], ◌∷◌, ◌++◌}
use mathlib.Core.Path.{◌≡◌, refl}
use Prim.Native.Nat.{ℕ}
use lib.ListN.{length}
use Rattle.octets.specs.Bytes.{number_at, after}
use Rattle.sheet_record.specs.Layout.{layout_in}
use Rattle.sheet_record.specs.Front.{front_of}
use Rattle.sheet.specs.Sheet.{sheet_by, walk, sheet_of, records_of}
use Rattle.sheet.proofs.Computed.{sheet_with, record_with}
use Rattle.convert_records.specs.Records.{records_as, sheet_as, bare}

-- the states a and b in version 2, with a remark of each, and both in version 1
abbrev pub with_remarks : List ℕ → List ℕ → List ℕ
with_remarks a b = sheet_with 2 2 (record_with 97 1 (length a ∷ (a ++ record_with 98 2 (length b ∷ b))))

abbrev pub plain : List ℕ
plain = sheet_with 1 2 (record_with 97 1 (record_with 98 2 []))

abbrev bare_sheet : List ℕ → Bool
bare_sheet s = bare s (records_of (sheet_of s))

abbrev in_version : ℕ → List ℕ → List ℕ
in_version v s = sheet_as v s (records_of (sheet_of s))

-- a remark in the second state alone, in the first alone, in none; version 1 has none
pub looked_for :
    (bare_sheet (with_remarks [] (120 ∷ [])) ≡ false)
    × (bare_sheet (with_remarks (120 ∷ []) []) ≡ false)
    × (bare_sheet (with_remarks [] []) ≡ true)
    × (bare_sheet plain ≡ true)
unfolding sheet_by walk front_of number_at after layout_in bare
looked_for = (refl, refl, refl, refl)

-- either version in the other, and in its own
pub in_versions :
    (in_version 2 plain ≡ with_remarks [] [])
    × (in_version 1 (with_remarks [] []) ≡ plain)
    × (in_version 1 plain ≡ plain)
    × (in_version 2 (with_remarks [] []) ≡ with_remarks [] [])
unfolding sheet_by walk front_of number_at after layout_in records_as
in_versions = (refl, refl, refl, refl)
