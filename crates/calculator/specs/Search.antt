-- The search of a sheet by a spelled name: document 01's table up to the state row, in order.
use Rattle.std.specs.Prelude.{List, ℕ, ◌≡◌, Ok, Err}
use Rattle.octets.specs.Room.{Text, text, refused}
use Rattle.name.specs.Name.{name_of}
use Rattle.sheet_record.specs.declared.Record.{Record}
use Rattle.sheet.specs.Sheet.{Sheet, records, sheet_of}
use Rattle.sheet_search.specs.Find.{Lookup, find_in}
use Rattle.air.specs.declared.Answer.{Answer}
use Rattle.air.specs.Held.{Held, held, refuses}
use Rattle.air.specs.Choices.{Choices}
use Rattle.state.specs.State.{IsAnswer, answer_by}

-- the name's refusals, then 9
abbrev pub locate_name : List ℕ → List Record → Text → Lookup
locate_name s rs (refused n) = Err n
locate_name s rs (text name) = find_in s rs name

-- the sheet's refusals first
abbrev pub locate_in : List ℕ → List ℕ → Sheet → Lookup
locate_in s spelling (Sheet.refused n) = Err n
locate_in s spelling (records rs) = locate_name s rs (name_of spelling)

-- the record that a spelling finds in a sheet
unfoldable pub locate : List ℕ → List ℕ → Lookup
locate s spelling = locate_in s spelling (sheet_of s)

-- what an answer may be for a record that was found, or for a refusal
abbrev pub AnswerAt : Lookup → Answer → Type 0
AnswerAt (Err n) a = held a ≡ refuses n
AnswerAt (Ok r) a = IsAnswer r.kind r.first r.second a

-- an answer that document 01 allows for a search
unfoldable pub IsSearch : List ℕ → List ℕ → Answer → Type 0
IsSearch s spelling a = AnswerAt (locate s spelling) a

-- what a program with these choices holds for a search: a function of the sheet and the spelling
abbrev pub answer_at : Choices → Lookup → Held
answer_at c (Err n) = refuses n
answer_at c (Ok r) = answer_by c r.kind r.first r.second

unfoldable pub search_by : Choices → List ℕ → List ℕ → Held
search_by c s spelling = answer_at c (locate s spelling)
