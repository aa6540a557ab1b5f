-- Request 7: a walk over the records of a sheet, a line a step.
use Rattle.std.specs.Prelude.{cond, List, [], ◌∷◌, ℕ, ◌+◌, ltb, length, Ok, Err}
use Rattle.sheet_search.specs.Find.{Lookup}
use Rattle.octets.specs.Room.{Text, refused, text, fitting}
use Rattle.name.specs.Spelling.{spelled}
use Rattle.air.specs.Choices.{Choices}
use Rattle.state.specs.State.{answer_by}
use Rattle.sheet_record.specs.declared.Record.{Record}
use Rattle.sheet_record.specs.Front.{name_in}
use Rattle.sheet.specs.Sheet.{Sheet, records, sheet_of}
use Rattle.sheet_walk.specs.Records.{record_in}
use Rattle.line.specs.Line.{line_of}
use Rattle.walk.specs.declared.Walk.{Walk}
use Rattle.walk.specs.declared.Begun.{Begun}
use Rattle.walk.specs.declared.Step.{Step}

-- "The walk in progress covers the records counted when it began": none are given yet. A refused sheet has none
abbrev pub begun_by : Sheet → Begun
begun_by (Sheet.refused n) = record { number = n; walk = record { given = 0; count = 0 } }
begun_by (records rs) = record { number = 0; walk = record { given = 0; count = length rs } }

-- the listing line of a record: its name spelled as it is written, and what is held of its state
abbrev pub line_of_record : Choices → List ℕ → Record → List ℕ
line_of_record c s r = line_of (spelled (name_in s r)) (answer_by c r.kind r.first r.second)

-- the same of the record that has a number; nothing where there is none
abbrev pub line_at : Choices → List ℕ → Lookup → List ℕ
line_at c s (Err k) = []
line_at c s (Ok r) = line_of_record c s r

-- "A walk step gives its next record's listing line, or nothing after the walk's last or the sheet's"
abbrev pub next_line : Choices → List ℕ → List Record → Walk → List ℕ
next_line c s rs w = cond (ltb w.given w.count) (line_at c s (record_in rs w.given)) []

-- a refused sheet's own number comes first, 14 last
abbrev pub step_by : Choices → Sheet → List ℕ → Walk → ℕ → Text
step_by c (Sheet.refused n) s w room = refused n
step_by c (records rs) s w room = fitting room (next_line c s rs w)

-- what a step gives for a sheet, in room for so many bytes
unfoldable pub stepped : Choices → List ℕ → Walk → ℕ → Text
stepped c s w room = step_by c (sheet_of s) s w room

-- the walk after a step: one more is given where there is a line; "a refused .. step changes nothing"
abbrev pub walk_after : Walk → Text → Walk
walk_after w (refused k) = w
walk_after w (text []) = w
walk_after w (text (b ∷ t)) = record { given = w.given + 1; count = w.count }

-- what is told of a step
abbrev pub step_of : Walk → Text → Step
step_of w (refused k) = record { number = k; length = 0; walk = w }
step_of w (text t) = record { number = 0; length = length t; walk = walk_after w (text t) }
