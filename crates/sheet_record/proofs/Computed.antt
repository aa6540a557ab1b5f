-- Records of both versions as document 01 and request 5 have them, computed.
use mathlib.Core.List.{List, [], ◌∷◌}
use mathlib.Core.Option.{none, some}
use mathlib.Core.Path.{◌≡◌, refl}
use Prim.Native.Nat.{ℕ}
use Rattle.octets.specs.Bytes.{number_at, after}
use Rattle.sheet_record.specs.Layout.{layout_of, plain_layout, remark_layout}
use Rattle.sheet_record.specs.Front.{bad, front_of, behind}

-- the versions that are read
pub versions : (layout_of 0 ≡ none) × (layout_of 1 ≡ some plain_layout) × (layout_of 2 ≡ some remark_layout) × (layout_of 3 ≡ none)
versions = (refl, refl, refl, refl)

-- a record of 19 bytes with the name a, and what follows it
abbrev pub record19 : ℕ → List ℕ → List ℕ
record19 kind u = 1 ∷ 97 ∷ kind ∷ 0 ∷ 0 ∷ 0 ∷ 0 ∷ 0 ∷ 0 ∷ 0 ∷ 1 ∷ 0 ∷ 0 ∷ 0 ∷ 0 ∷ 0 ∷ 0 ∷ 0 ∷ 2 ∷ u

-- a remark is passed over with its length byte, and nothing more; version 1 passes over none
pub passed_over :
    (behind 0 (front_of remark_layout (record19 1 (0 ∷ 1 ∷ 98 ∷ []))) ≡ 20)
    × (behind 0 (front_of remark_layout (record19 1 (2 ∷ 1 ∷ 98 ∷ 1 ∷ []))) ≡ 22)
    × (behind 0 (front_of plain_layout (record19 1 (2 ∷ 1 ∷ 98 ∷ []))) ≡ 19)
unfolding front_of number_at after
passed_over = (refl, refl, refl)

-- a remark without its length byte, or without its last byte, is 4 also where the kind is unknown; a whole one leaves that to 6
pub cut_first :
    (front_of remark_layout (record19 7 []) ≡ bad 4)
    × (front_of remark_layout (record19 7 (2 ∷ 98 ∷ [])) ≡ bad 4)
    × (front_of remark_layout (record19 1 (2 ∷ 98 ∷ [])) ≡ bad 4)
    × (front_of remark_layout (record19 7 (1 ∷ 98 ∷ [])) ≡ bad 6)
unfolding front_of
cut_first = (refl, refl, refl, refl)

-- 4 without a length byte; 5 for a length of 0 or 41, before the rest is looked at; 4 for a rest that is missing
pub lengths :
    (front_of plain_layout [] ≡ bad 4)
    × (front_of plain_layout (0 ∷ []) ≡ bad 5)
    × (front_of plain_layout (41 ∷ []) ≡ bad 5)
    × (front_of plain_layout (40 ∷ []) ≡ bad 4)
    × (front_of plain_layout (1 ∷ 97 ∷ []) ≡ bad 4)
    × (front_of remark_layout (41 ∷ []) ≡ bad 5)
unfolding front_of
lengths = (refl, refl, refl, refl, refl, refl)
