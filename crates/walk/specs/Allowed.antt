-- Each text of a step with its condition, and a line with any answer that document 01 allows: the free answers are fixed no further.
use Rattle.std.specs.Prelude.{List, [], ◌≡◌, ℕ, ◌≤◌, ◌<◌, length, Ok}
use Rattle.octets.specs.Room.{Text, refused, text, fitting}
use Rattle.name.specs.Spelling.{spelled}
use Rattle.air.specs.declared.Answer.{Answer}
use Rattle.air.specs.Held.{held}
use Rattle.state.specs.State.{IsAnswer}
use Rattle.sheet_record.specs.declared.Record.{Record}
use Rattle.sheet_record.specs.Front.{name_in}
use Rattle.sheet.specs.Sheet
use Rattle.sheet.specs.Sheet.{records, sheet_of}
use Rattle.sheet_walk.specs.Records.{record_in}
use Rattle.line.specs.Line.{line_of}
use Rattle.walk.specs.declared.Walk.{Walk}

-- the sheet's own number; nothing after the walk's last record or the sheet's; else the line of the record that comes next, if it fits
pub data IsStep (s : List ℕ) (w : Walk) (room : ℕ) : Text → Type 0 where
  own : {k : ℕ} → sheet_of s ≡ Sheet.refused k → IsStep s w room (refused k)
  over : {rs : List Record} → sheet_of s ≡ records rs → w.count ≤ w.given → IsStep s w room (text [])
  past : {rs : List Record} → sheet_of s ≡ records rs → length rs ≤ w.given → IsStep s w room (text [])
  line :
      {rs : List Record} {r : Record} (a : Answer)
      → sheet_of s ≡ records rs
      → w.given < w.count
      → record_in rs w.given ≡ Ok r
      → IsAnswer r.kind r.first r.second a
      → IsStep s w room (fitting room (line_of (spelled (name_in s r)) (held a)))
