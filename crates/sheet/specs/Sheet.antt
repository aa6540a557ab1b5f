-- Document 01, State sheet, and the first three rows of the table in their order.
use Rattle.std.specs.Prelude.{Bool, true, false, cond, not, ◌||◌, List, [], ◌∷◌, ◌++◌, ◌≡◌, ℕ, zero, suc, ltb, eqb, length, drop}
use Rattle.std.proofs.Math.Option.{Option, none, some}
use Rattle.octets.specs.Bytes.{number_at, same}
use Rattle.sheet_record.specs.Layout.{Layout, layout_of}
use Rattle.sheet_record.specs.Front.{bad, front, front_of, record_at, past, name_in}
use Rattle.sheet_record.specs.declared.Record.{Record}
use Rattle.sheet_head.specs.Head.{is_marked}

-- a sheet's records, or the number of its first refusal
pub data Sheet : Type 0 where
  refused : ℕ → Sheet
  records : List Record → Sheet

-- whether a name is that of one of the records
abbrev pub seen : List ℕ → List Record → List ℕ → Bool
seen s [] name = false
seen s (r ∷ rs) name = same (name_in s r) name || seen s rs name

-- document 01, table: n records in turn from a place on, 16 for a name seen earlier, and after them 4 for bytes left over.
-- `before` are the records read so far, in order
unfoldable pub walk : Layout → List ℕ → ℕ → ℕ → List Record → Sheet
walk y s zero at before = cond (eqb at (length s)) (records before) (refused 4)
walk y s (suc n) at before =
    elim (front_of y (drop at s)) [
      | bad k ↦ refused k
      | front f ↦ elim (seen s before (name_in s (record_at at f))) [ true ↦ refused 16 | false ↦ walk y s n (past at f) (before ++ (record_at at f ∷ [])) ]
    ]

-- the record count stands after the version, and the records after the count
abbrev pub with_layout : List ℕ → Option Layout → Sheet
with_layout s none = refused 3
with_layout s (some y) = walk y s (number_at 2 s 5) 7 []

-- document 01, table, sheet as a whole: 1 over 65,536 bytes, 2 under 7 bytes or without the mark, 3. `versions` are those that are read
unfoldable pub sheet_by : (ℕ → Option Layout) → List ℕ → Sheet
sheet_by versions s =
    cond (ltb 65536 (length s)) (refused 1)
    (cond (ltb (length s) 7 || not (is_marked s)) (refused 2)
    (with_layout s (versions (number_at 2 s 3))))

-- a sheet of either version
abbrev pub sheet_of : List ℕ → Sheet
sheet_of s = sheet_by layout_of s

-- the number of the first condition that refuses a sheet, or 0
abbrev pub number_of : Sheet → ℕ
number_of (refused n) = n
number_of (records rs) = 0

-- the records of a sheet; none where it is refused
abbrev pub records_of : Sheet → List Record
records_of (refused n) = []
records_of (records rs) = rs

-- document 01, below the table: an accepted sheet has none
abbrev pub Accepted : List ℕ → Type 0
Accepted s = number_of (sheet_of s) ≡ 0
