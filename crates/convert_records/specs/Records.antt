-- Request 6: a sheet's records in a version, with empty remarks.
use Rattle.std.specs.Prelude.{Bool, true, cond, ◌&&◌, List, [], ◌∷◌, ◌++◌, ℕ, ◌+◌, eqb}
use Rattle.octets.specs.Bytes.{part}
use Rattle.sheet_record.specs.declared.Record.{Record}
use Rattle.sheet_remark.specs.Remark.{remark_in}

-- an empty remark: in version 2 a length byte of 0, in version 1 nothing
abbrev pub empty_remark : ℕ → List ℕ
empty_remark version = cond (eqb version 2) (0 ∷ []) []

-- a record up to its second value: the length byte, then the name, the kind and the two values as they stand in the sheet
abbrev pub record_bytes : List ℕ → Record → List ℕ
record_bytes s r = r.len ∷ part s r.start (r.len + 17)

-- the same with an empty remark
abbrev pub record_as : ℕ → List ℕ → Record → List ℕ
record_as version s r = record_bytes s r ++ empty_remark version

-- records in turn, each with an empty remark
unfoldable pub records_as : ℕ → List ℕ → List Record → List ℕ
records_as version s [] = []
records_as version s (r ∷ rs) = record_bytes s r ++ (empty_remark version ++ records_as version s rs)

-- document 01, State sheet: the mark, a version, and the sheet's own record count
abbrev pub header_as : ℕ → List ℕ → List ℕ
header_as version s = 69 ∷ 65 ∷ 83 ∷ 0 ∷ version ∷ part s 5 2

-- a sheet with these records, in a version
abbrev pub sheet_as : ℕ → List ℕ → List Record → List ℕ
sheet_as version s rs = header_as version s ++ records_as version s rs

-- whether the remark of each record is empty
unfoldable pub bare : List ℕ → List Record → Bool
bare s [] = true
bare s (r ∷ rs) = eqb (remark_in s r).len 0 && bare s rs
