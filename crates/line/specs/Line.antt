-- Document 01, Listing program: one line. A space is 32, ! is 33, ? is 63, a newline is 10.
use Rattle.std.specs.Prelude.{List, [], ◌∷◌, ◌++◌, ℕ, ℤ}
use Rattle.std.proofs.Math.Option.{Option, none, some}
use Rattle.air.specs.declared.Logs.{Logs}
use Rattle.air.specs.Held.{Held}
use Rattle.decimal.specs.Decimal.{natural, whole}
use Rattle.name.specs.Spelling.{spelled}
use Rattle.name.specs.Name.{name_of}
use Rattle.octets.specs.Room.{Text, text, refused}

-- a name as a line shows it: its written spelling, or ? where a spelling reads to no name
abbrev pub shown_name : Text → List ℕ
shown_name (refused n) = 63 ∷ []
shown_name (text name) = spelled name

-- after the name, where there is a value: the letter, Y, Z and the value
unfoldable pub value_rest : ℕ → ℤ → ℤ → ℤ → List ℕ
value_rest letter y z value = 32 ∷ (letter ∷ (32 ∷ (whole y ++ (32 ∷ (whole z ++ (32 ∷ (whole value ++ (10 ∷ []))))))))

-- after the name, where it is refused: ! and the number
unfoldable pub refusal_rest : ℕ → List ℕ
refusal_rest n = 32 ∷ (33 ∷ (32 ∷ (natural n ++ (10 ∷ []))))

-- refusals 12, 13 and 17 hold logarithms and no value
abbrev pub rest_by : ℕ → ℕ → Option Logs → Option ℤ → List ℕ
rest_by number letter (some l) (some v) = value_rest letter l.y l.z v
rest_by number letter (some l) none = refusal_rest number
rest_by number letter none value = refusal_rest number

-- the line that shows what is held under a name
abbrev pub line_of : List ℕ → Held → List ℕ
line_of name h = name ++ rest_by h.number h.letter h.logs h.value

-- the line for a spelling
unfoldable pub line : List ℕ → Held → List ℕ
line spelling h = line_of (shown_name (name_of spelling)) h

-- every line fits in so many bytes: EAS_LINE_ROOM of the header
abbrev pub line_room : ℕ
line_room = 192
