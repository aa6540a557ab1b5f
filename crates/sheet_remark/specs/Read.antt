-- Request 5: a remark is handed back as it was written, as a statement over the bytes of a sheet.
use Rattle.std.specs.Prelude.{List, ◌∷◌, ◌++◌, ◌≡◌, Ok, ℕ, length}
use Rattle.octets.specs.Bytes.{number_at}
use Rattle.sheet_record.specs.Front.{values_end}
use Rattle.sheet_record.specs.declared.Record.{Record}
use Rattle.sheet_remark.specs.Remark.{remark_of, remark_bytes}

-- a sheet of version 2 is some bytes up to a record's second value, the length of a remark, the remark, and any bytes: the remark of
-- that record is this one
abbrev pub RemarkRead : Type 0
RemarkRead =
    (front remark behind : List ℕ) (r : Record)
    → let s = front ++ (length remark ∷ (remark ++ behind)) in
    number_at 2 s 3 ≡ 2
    → values_end r ≡ length front
    → remark_bytes s (remark_of s (Ok r)) ≡ remark
