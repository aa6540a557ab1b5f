-- Reading and writing a name, with refusals 7, 8 and 14.
use Rattle.std.specs.Prelude.{Bool, cond, List, ℕ, length}
use Rattle.octets.specs.Room.{Text, refused, text, fitting}
use Rattle.name.specs.Spelling.{within, Reading, wrong, bytes, reading, spelled}

-- document 01, Names: the lengths that a name may have
abbrev pub is_length : ℕ → Bool
is_length n = within 1 40 n

-- document 01, table, name: 7 where the spelling is wrong anywhere, then 8 where the length of what it reads to is none of a name's
abbrev pub judged : Reading → Text
judged wrong = refused 7
judged (bytes bs) = cond (is_length (length bs)) (text bs) (refused 8)

-- the name that a spelling reads to
unfoldable pub name_of : List ℕ → Text
name_of s = judged (reading s)

-- document 01, table, name and writing: what a name is written as in room for so many bytes; 8 by its raw length, then 14
unfoldable pub spelling_of : List ℕ → ℕ → Text
spelling_of name room = cond (is_length (length name)) (fitting room (spelled name)) (refused 8)
