-- Request 7: what a walk prints, whatever is added meanwhile.
use mathlib.Core.List.{List, [], ◌∷◌, ◌++◌, Memᴰ}
use Rattle.std.specs.Prelude.{◌≡◌, ℕ, zero, suc, ◌^◌, ◌≤◌, ◌<◌, length}
use Rattle.octets.specs.Room.{Text, text}
use Rattle.name.specs.Spelling.{spelled}
use Rattle.name.specs.Name.{name_of}
use Rattle.air.specs.Choices.{Choices}
use Rattle.state.specs.State.{answer_by}
use Rattle.sheet_record.specs.declared.Record.{Record}
use Rattle.sheet.specs.Sheet.{records, sheet_of, Accepted}
use Rattle.append.specs.Add.{added, sheet_after}
use Rattle.line.specs.Line.{line_of}
use Rattle.walk.specs.Walk.{begun_by, line_of_record, stepped, walk_after}
use Rattle.walk.specs.declared.Walk.{Walk}

-- a walk step into room for so many bytes; an add of a spelled name, a kind and two values into such room
pub data Act : Type 0 where
  step : ℕ → Act
  add : List ℕ → ℕ → ℕ → ℕ → ℕ → Act

-- what the steps of a list give, in order, refusals too. An add leaves the walk, a step the sheet
unfoldable pub printed : Choices → List ℕ → Walk → List Act → List Text
printed c s w [] = []
printed c s w (step room ∷ acts) = stepped c s w room ∷ printed c s (walk_after w (stepped c s w room)) acts
printed c s w (add spelling kind first second room ∷ acts) = printed c (sheet_after s (added s spelling kind first second room)) w acts

-- the list with no adds
abbrev pub no_adds : List Act → List Act
no_adds [] = []
no_adds (step room ∷ acts) = step room ∷ no_adds acts
no_adds (add spelling kind first second room ∷ acts) = no_adds acts

-- "For every list of walk steps and adds, the walk begun before them on an accepted sheet prints what it would have printed with no adds"
abbrev pub WalkUndisturbed : Type 0
WalkUndisturbed =
    (c : Choices) (s : List ℕ) (acts : List Act)
    → Accepted s
    → printed c s (begun_by (sheet_of s)).walk acts ≡ printed c s (begun_by (sheet_of s)).walk (no_adds acts)

-- the listing lines of records, in their order, and so many steps
abbrev pub lines_of : Choices → List ℕ → List Record → List Text
lines_of c s [] = []
lines_of c s (r ∷ rs) = text (line_of_record c s r) ∷ lines_of c s rs

abbrev pub steps : ℕ → ℕ → List Act
steps zero room = []
steps (suc n) room = step room ∷ steps n room

-- "covers the records counted when it began, in order": with room for each line, as many steps give their lines, and then nothing
abbrev pub WalkCovers : Type 0
WalkCovers =
    (c : Choices) (s : List ℕ) (rs : List Record) (room : ℕ)
    → sheet_of s ≡ records rs
    → ((r : Record) → Memᴰ r rs → length (line_of_record c s r) ≤ room)
    → printed c s (begun_by (sheet_of s)).walk (steps (suc (length rs)) room) ≡ lines_of c s rs ++ (text [] ∷ [])

-- "a walk begun later covers the new one": the lines of the old records as they were, then the new one's
abbrev pub LaterCovers : Type 0
LaterCovers =
    (c : Choices) (s t spelling name : List ℕ) (rs : List Record) (kind first second room again : ℕ)
    → sheet_of s ≡ records rs
    → name_of spelling ≡ text name
    → first < 2 ^ 64
    → second < 2 ^ 64
    → added s spelling kind first second room ≡ text t
    → ((r : Record) → Memᴰ r rs → length (line_of_record c s r) ≤ again)
    → length (line_of (spelled name) (answer_by c kind first second)) ≤ again
    → printed c t (begun_by (sheet_of t)).walk (steps (suc (suc (length rs))) again)
    ≡ lines_of c s rs ++ (text (line_of (spelled name) (answer_by c kind first second)) ∷ (text [] ∷ []))
