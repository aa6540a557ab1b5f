-- A remark of version 2 and the empty part of version 1, computed.
use mathlib.Core.List.{List, [], ◌∷◌}
use mathlib.Core.Path.{◌≡◌, refl}
use Prim.Native.Nat.{ℕ}
use Rattle.octets.specs.Bytes.{number_at, after}
use Rattle.sheet_record.specs.Layout.{layout_in}
use Rattle.sheet_record.specs.declared.Record.{Record}
use Rattle.std.specs.Prelude.{Ok}
use Rattle.sheet_remark.specs.Remark.{remark_of, remark_bytes}

-- a sheet with one record, whose name is a, and what follows its values
abbrev pub sheet_one : ℕ → List ℕ → List ℕ
sheet_one version u =
    69 ∷ 65 ∷ 83 ∷ 0 ∷ version ∷ 0 ∷ 1 ∷ 1 ∷ 97 ∷ 1 ∷ 0 ∷ 0 ∷ 0 ∷ 0 ∷ 0 ∷ 0 ∷ 0 ∷ 5 ∷ 0 ∷ 0 ∷ 0 ∷ 0 ∷ 0 ∷ 0 ∷ 0 ∷ 6 ∷ u

abbrev pub record_one : Record
record_one = record { start = 8; len = 1; kind = 1; first = 5; second = 6 }

-- the remark xy, an empty one, and none
pub places :
    (remark_of (sheet_one 2 (2 ∷ 120 ∷ 121 ∷ [])) (Ok record_one) ≡ Ok (record { start = 27; len = 2 }))
    × (remark_of (sheet_one 2 (0 ∷ [])) (Ok record_one) ≡ Ok (record { start = 27; len = 0 }))
    × (remark_of (sheet_one 1 []) (Ok record_one) ≡ Ok (record { start = 26; len = 0 }))
unfolding layout_in number_at after
places = (refl, refl, refl)

pub bytes : remark_bytes (sheet_one 2 (2 ∷ 120 ∷ 121 ∷ [])) (remark_of (sheet_one 2 (2 ∷ 120 ∷ 121 ∷ [])) (Ok record_one)) ≡ 120 ∷ 121 ∷ []
unfolding layout_in number_at after
bytes = refl
