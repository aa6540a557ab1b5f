-- The steps of the listing: the next line of the input, the lines that fit a room, and all that is written.
use Rattle.std.specs.Prelude.{List, [], ◌∷◌, ◌++◌, ◌≡◌, ℕ, ◌+◌, ◌≤◌, ◌<◌, length, take, drop, Ok, Result}
use Rattle.air.specs.Choices.{chosen}
use Rattle.calculator.specs.Search.{search_by}
use Rattle.line.specs.Line.{line, line_room}
use Rattle.octets.specs.Room.{text, written}
use Rattle.name_list.specs.Lines.{lines_of}
use Rattle.report.specs.Listing.{lines_by}

-- the line of the name that starts at a place; the other names start at `next`
pub record NextLine (sheet list : List ℕ) (start next : ℕ) (built : List ℕ) : Type 0 where
  pub name : List ℕ
  pub names : lines_of (drop start list) ≡ name ∷ lines_of (drop next list)
  pub text : built ≡ line name (search_by chosen sheet name)
  pub short : length built ≤ line_room
  pub after : start < next
  pub inside : next ≤ length list + 1

-- a part of the listing: `done` are the names from `start` on, those left start at `next`. Their lines stand in front of the
-- room, `len` bytes. How many names a part has is the program's choice
pub record Part (sheet list room last : List ℕ) (start next len : ℕ) : Type 0 where
  pub done : List (List ℕ)
  pub names : lines_of (drop start list) ≡ done ++ lines_of (drop next list)
  pub holds : last ≡ written (text (lines_by chosen sheet done)) room
  pub here : len ≡ length (lines_by chosen sheet done)
  pub inside : len ≤ length room

-- what parts write, one behind the other, from a place to the end of the list
pub data Parts (sheet list : List ℕ) : ℕ → List ℕ → Type 0 where
  none : {start : ℕ} → length list ≤ start → Parts sheet list start []
  more :
      {room last rest : List ℕ} {start next len : ℕ}
      → Part sheet list room last start next len
      → Parts sheet list next rest
      → Parts sheet list start (take len last ++ rest)

-- what the program writes, by what `begin` answered and left in the room: the line of a refusal, or all parts
pub data Output (sheet list room : List ℕ) : Result ℕ ℕ → List ℕ → Type 0 where
  refusal : {n : ℕ} → 0 < n → Output sheet list room (Ok n) (take n room)
  lines : {out : List ℕ} → Parts sheet list 0 out → Output sheet list room (Ok 0) out
