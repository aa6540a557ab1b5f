-- Finding a name in a sheet.
use Rattle.std.specs.Prelude.{cond, List, [], ◌∷◌, ℕ, Result, Ok, Err}
use Rattle.octets.specs.Bytes.{same}
use Rattle.sheet_record.specs.Layout.{layout_in}
use Rattle.sheet_record.specs.Front.{Whole, name_in, values_end}
use Rattle.sheet.specs.Sheet.{Sheet, refused, records, sheet_of}
use Rattle.sheet_record.specs.declared.Record.{Record}

-- what a search finds: a record, or a refusal's number
abbrev pub Lookup : Type 0
Lookup = Result Record ℕ

-- document 01, table, search: the first record that has the name, or 9
unfoldable pub find_in : List ℕ → List Record → List ℕ → Lookup
find_in s [] name = Err 9
find_in s (r ∷ rs) name = cond (same (name_in s r) name) (Ok r) (find_in s rs name)

-- a refused sheet's own number comes first
abbrev pub find_by : Sheet → List ℕ → List ℕ → Lookup
find_by (refused n) s name = Err n
find_by (records rs) s name = find_in s rs name

-- the record of a raw name in a sheet
abbrev pub find_of : List ℕ → List ℕ → Lookup
find_of s name = find_by (sheet_of s) s name

-- document 01, State sheet: a search hands back the name's own bytes in the sheet, and none where it refuses
abbrev pub handed_back : List ℕ → Lookup → List ℕ
handed_back s (Err n) = []
handed_back s (Ok r) = name_in s r

-- a found record lies in the sheet, with what follows its values
abbrev pub Inside : List ℕ → Lookup → Type 0
Inside s (Err n) = Unit
Inside s (Ok r) = Whole (layout_in s) s (values_end r)
