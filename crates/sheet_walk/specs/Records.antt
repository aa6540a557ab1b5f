-- The records of a sheet by their numbers.
use Rattle.std.specs.Prelude.{List, [], ◌∷◌, Ok, Err, ℕ, zero, suc}
use Rattle.sheet_record.specs.declared.Record.{Record}
use Rattle.sheet_search.specs.Find.{Lookup}
use Rattle.sheet.specs.Sheet.{Sheet, refused, records, sheet_of}

-- the record with a number, from 0; 9 where there is none
unfoldable pub record_in : List Record → ℕ → Lookup
record_in [] i = Err 9
record_in (r ∷ rs) zero = Ok r
record_in (r ∷ rs) (suc i) = record_in rs i

-- a refused sheet's own number comes first
abbrev pub record_by : Sheet → ℕ → Lookup
record_by (refused n) i = Err n
record_by (records rs) i = record_in rs i

abbrev pub record_of : List ℕ → ℕ → Lookup
record_of s i = record_by (sheet_of s) i
