-- The index of a sheet, in lent room: the places of its records, and a table of their names.
use Rattle.std.specs.Prelude.{false, List, ◌≡◌, ℕ, length, take, slice_get, Option, Some, MatchOption}
use Rattle.distinct.specs.Chain.{Table}
use Rattle.octets.specs.Bytes.{number_at}
use Rattle.sheet_record.specs.Layout.{layout_in}
use Rattle.sheet_record.specs.Front.{name_in}
use Rattle.sheet_record.specs.declared.Record.{Record}
use Rattle.sheet.specs.Sheet.{Accepted, seen}
use Rattle.sheet.specs.Structure.{places_from}

-- the index of an accepted sheet: the places of all its records stand in front, and all their names are in the table.
-- The places' length is said, since a proof does not know it of an array behind a field that is a reference
pub record Indexed (s starts heads next : List ℕ) : Type 0 where
  pub accepted : Accepted s
  pub whole : length starts ≡ 3449
  pub count : ℕ
  pub places : take count starts ≡ places_from (layout_in s) s (number_at 2 s 5) 7
  pub table : Table s starts heads next count

-- the number of the record that has a name, from 0, or none where none has it
abbrev pub Named : List ℕ → List Record → List ℕ → Option ℕ → Type 0
Named s rs name o = MatchOption o (seen s rs name ≡ false) (λ i. (r : Record) × (slice_get rs i ≡ Some r) × (name_in s r ≡ name))
