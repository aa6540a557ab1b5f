-- Document 01, State sheet: the name that a search hands back, as statements over specs/ alone.
use mathlib.Core.List.{List, [], Memᴰ}
use Rattle.std.specs.Prelude.{◌≡◌, ℕ}
use Rattle.octets.specs.Room.{text}
use Rattle.name.specs.Name.{name_of}
use Rattle.sheet_record.specs.declared.Record.{Record}
use Rattle.sheet_record.specs.Front.{name_in}
use Rattle.sheet.specs.Sheet.{records, sheet_of}
use Rattle.sheet_search.specs.Find.{handed_back}
use Rattle.air.specs.declared.Answer.{Answer}
use Rattle.air.specs.Held.{held, refuses}
use Rattle.state.specs.State.{IsAnswer}
use Rattle.calculator.specs.Search.{locate, IsSearch}

-- the part of the sheet that a search by a spelling hands back
abbrev pub found_name : List ℕ → List ℕ → List ℕ
found_name s spelling = handed_back s (locate s spelling)

-- any sheet s that is accepted, any record r of it, any spelling that reads to its name: the part is the one that holds the name
abbrev pub FoundName : Type 0
FoundName =
    (s : List ℕ) (rs : List Record) (r : Record) (spelling : List ℕ)
    → sheet_of s ≡ records rs
    → Memᴰ r rs
    → name_of spelling ≡ text (name_in s r)
    → found_name s spelling ≡ name_in s r

-- the part that goes with an answer of the search: the name of a record whose state the answer is for, which is the name that the
-- spelling reads to; or, where the search refuses by a number that is not 0, nothing
pub data NamedAnswer (s spelling : List ℕ) (a : Answer) : List ℕ → Type 0 where
  found :
      {rs : List Record} {r : Record}
      → sheet_of s ≡ records rs
      → Memᴰ r rs
      → name_of spelling ≡ text (name_in s r)
      → IsAnswer r.kind r.first r.second a
      → NamedAnswer s spelling a (name_in s r)
  refused : (n : ℕ) → held a ≡ refuses n → (n ≡ 0 → ⊥) → NamedAnswer s spelling a []

-- any bytes as sheet and spelling, any answer that the search may give
abbrev pub SearchName : Type 0
SearchName = (s spelling : List ℕ) (a : Answer) → IsSearch s spelling a → NamedAnswer s spelling a (found_name s spelling)
