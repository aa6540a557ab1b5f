-- What the entries write to lent room.
use Rattle.std.specs.Prelude.{List, ◌≡◌, ℕ, ◌*◌, ◌≤◌, length}
use Rattle.octets.specs.Room.{Text, text, fitting}
use Rattle.air.specs.Choices.{chosen}
use Rattle.calculator.specs.Search.{search_by}
use Rattle.line.specs.Line.{line_room, line}
use Rattle.name_list.specs.Lines.{lines_of}
use Rattle.report.specs.Listing.{listing_by}

-- the listing line of a spelled name in room for so many bytes
abbrev pub line_in : ℕ → List ℕ → List ℕ → Text
line_in room sheet spelling = fitting room (line spelling (search_by chosen sheet spelling))

-- any sheet, any spelling: in room for `line_room` bytes `eas_line` refuses nothing
abbrev pub LineFits : Type 0
LineFits = (sheet spelling : List ℕ) (room : ℕ) → line_room ≤ room → line_in room sheet spelling ≡ text (line spelling (search_by chosen sheet spelling))

-- the listing program's whole text for a list of spelled names in room for so many bytes; a refused sheet or list is its one line
abbrev pub listing_in : ℕ → List ℕ → List ℕ → Text
listing_in room sheet names = fitting room (listing_by chosen sheet names)

-- any sheet, any list: in room for `line_room` bytes a name, and for no name too, `eas_list` refuses nothing
abbrev pub ListingFits : Type 0
ListingFits =
    (sheet names : List ℕ) (room : ℕ)
    → line_room ≤ room
    → length (lines_of names) * line_room ≤ room
    → listing_in room sheet names ≡ text (listing_by chosen sheet names)
