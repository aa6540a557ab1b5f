-- Request 6: version 1 of a sheet in version 2, and back.
use Rattle.std.specs.Prelude.{cond, List, ℕ, ltb, length}
use Rattle.octets.specs.Room.{Text, refused, fitting}
use Rattle.sheet.specs.Sheet.{Sheet, records}
use Rattle.sheet_version.specs.Version.{sheet_in}
use Rattle.convert_records.specs.Records.{sheet_as, bare}

-- forward: the sheet's own refusal, then 1 for a result over 65,536 bytes, then 14
abbrev pub forward_by : Sheet → List ℕ → ℕ → Text
forward_by (Sheet.refused n) s room = refused n
forward_by (records rs) s room = cond (ltb 65536 (length (sheet_as 2 s rs))) (refused 1) (fitting room (sheet_as 2 s rs))

-- a sheet of version 1 in version 2, with empty remarks, in room for so many bytes
unfoldable pub forward : List ℕ → ℕ → Text
forward s room = forward_by (sheet_in 1 s) s room

-- back: the sheet's own refusal, then 18 where a remark is not empty, then 14
abbrev pub back_by : Sheet → List ℕ → ℕ → Text
back_by (Sheet.refused n) s room = refused n
back_by (records rs) s room = cond (bare s rs) (fitting room (sheet_as 1 s rs)) (refused 18)

-- a sheet of version 2 in version 1, in room for so many bytes
unfoldable pub back : List ℕ → ℕ → Text
back s room = back_by (sheet_in 2 s) s room
