-- Reading a name into lent room, with refusals 7, 8 and 14.
use Rattle.std.specs.Prelude.{List, ℕ}
use Rattle.octets.specs.Room.{Text, text, refused, fitting}
use Rattle.name.specs.Name.{name_of}

-- a text in room for so many bytes; its own refusal comes before 14
abbrev pub fitted : ℕ → Text → Text
fitted room (refused n) = refused n
fitted room (text t) = fitting room t

-- the name that a spelling reads to, in room for so many bytes: 7 and 8, then 14
abbrev pub read_in : ℕ → List ℕ → Text
read_in room spelling = fitted room (name_of spelling)
