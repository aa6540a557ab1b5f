-- Demand 3, as a statement over specs/ alone.
use mathlib.Core.List.{List, Memᴰ}
use Rattle.std.specs.Prelude.{◌≡◌, ℕ, ◌≤◌}
use Rattle.octets.specs.Room.{text}
use Rattle.name.specs.Name.{name_of}
use Rattle.sheet_record.specs.declared.Record.{Record}
use Rattle.sheet_record.specs.Front.{name_in}
use Rattle.sheet.specs.Sheet.{records, sheet_of}
use Rattle.air.specs.declared.Answer.{Answer}
use Rattle.air.specs.Held.{held}
use Rattle.state.specs.State.{IsAnswer, Accepted, Accurate}
use Rattle.air.specs.Choices.{chosen}
use Rattle.calculator.specs.Search.{IsSearch, search_by}

-- what demand 3 says of the one answer that a search by a state's name gives: it is that state's, it is no refusal,
-- and for every number of terms from 128 up all bounds hold of it
pub record Answered (kind first second : ℕ) (a : Answer) : Type 0 where
  pub answer : IsAnswer kind first second a
  pub no_refusal : (held a).number ≡ 0
  pub accurate : (n : ℕ) → 128 ≤ n → Accurate n kind first second a

-- any sheet s that is accepted, any record r of it, any spelling that reads to its name, any answer a that the search may
-- give, by which the state is accepted
abbrev pub Demand3 : Type 0
Demand3 =
    (s : List ℕ) (rs : List Record) (r : Record) (spelling : List ℕ) (a : Answer)
    → sheet_of s ≡ records rs
    → Memᴰ r rs
    → name_of spelling ≡ text (name_in s r)
    → IsSearch s spelling a
    → Accepted r.kind r.first r.second a
    → Answered r.kind r.first r.second a

-- the same of what this program's search holds by its contract
abbrev pub SearchDemand3 : Type 0
SearchDemand3 =
    (s : List ℕ) (rs : List Record) (r : Record) (spelling : List ℕ) (a : Answer)
    → sheet_of s ≡ records rs
    → Memᴰ r rs
    → name_of spelling ≡ text (name_in s r)
    → held a ≡ search_by chosen s spelling
    → Accepted r.kind r.first r.second a
    → Answered r.kind r.first r.second a

-- what a search answers with number 0: the state of a record that has the spelled name, and all that demand 3 says holds of it
pub record FoundAnswered (s spelling : List ℕ) (a : Answer) : Type 0 where
  pub rs : List Record
  pub r : Record
  pub reads : sheet_of s ≡ records rs
  pub member : Memᴰ r rs
  pub named : name_of spelling ≡ text (name_in s r)
  pub answered : Answered r.kind r.first r.second a

-- any bytes as sheet and spelling: demand 3 leaves out refusals alone
abbrev pub UnlessRefused : Type 0
UnlessRefused = (s spelling : List ℕ) (a : Answer) → IsSearch s spelling a → (held a).number ≡ 0 → FoundAnswered s spelling a
