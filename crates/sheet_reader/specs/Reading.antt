-- Document 01, State sheet: the reader carries the sheet and its own position between records.
use Rattle.std.specs.Prelude.{Bool, cond, ℕ, ◌-◌, drop, Option, Some, None}
use Rattle.sheet_record.specs.Layout.{layout_in}
use Rattle.sheet_record.specs.Front.{front_of, behind, stands_at}
use Rattle.sheet_reader.specs.declared.Reader.{Reader}

-- the reader behind the record that stands where it is
abbrev pub read_on : Reader → Reader
read_on r = record { sheet = r.sheet; at = behind r.at (front_of (layout_in r.sheet.now) (drop r.at r.sheet.now)); left = r.left - 1 }

-- whether a record stands where the reader is
abbrev pub standing : Reader → Bool
standing r = stands_at (layout_in r.sheet.now) r.sheet.now r.at r.left

-- what a step gives, the place of that record or none, and where the reader is then
abbrev pub place_given : Reader → Option ℕ
place_given r = cond (standing r) (Some r.at) None

abbrev pub stepped : Reader → Reader
stepped r = cond (standing r) (read_on r) r
