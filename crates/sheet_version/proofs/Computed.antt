-- Sheets where one version is read, computed: 3 for any other stands before what is wrong with records, and behind 2.
use mathlib.Core.List.{[], ◌∷◌}
use mathlib.Core.Path.{◌≡◌, refl}
use Rattle.octets.specs.Bytes.{number_at, after}
use Rattle.sheet_record.specs.Front.{front_of}
use Rattle.sheet.specs.Sheet.{refused, records, sheet_by, walk}
use Rattle.sheet.proofs.Computed.{sheet_with}
use Rattle.sheet_version.specs.Version.{sheet_in}

pub one_version :
    (sheet_in 1 (sheet_with 1 0 []) ≡ records [])
    × (sheet_in 2 (sheet_with 2 0 []) ≡ records [])
    × (sheet_in 1 (sheet_with 2 0 []) ≡ refused 3)
    × (sheet_in 2 (sheet_with 1 0 []) ≡ refused 3)
    × (sheet_in 1 (sheet_with 3 1 []) ≡ refused 3)
    × (sheet_in 2 (sheet_with 1 1 []) ≡ refused 3)
    × (sheet_in 2 (sheet_with 2 1 []) ≡ refused 4)
    × (sheet_in 2 (69 ∷ 65 ∷ 84 ∷ 0 ∷ 1 ∷ 0 ∷ 0 ∷ []) ≡ refused 2)
unfolding sheet_by walk front_of number_at after
one_version = (refl, refl, refl, refl, refl, refl, refl, refl)
