-- Demand 3 of the structs that `eas_search` and `eas_evaluate` give.
use mathlib.Core.List.{List, Memᴰ}
use Rattle.std.specs.Prelude.{◌≡◌, ℕ}
use Rattle.octets.specs.Room.{text}
use Rattle.name.specs.Name.{name_of}
use Rattle.kind.specs.Kind.{kind_of}
use Rattle.sheet_record.specs.declared.Record.{Record}
use Rattle.sheet_record.specs.Front.{name_in}
use Rattle.sheet.specs.Sheet.{records, sheet_of}
use Rattle.air.specs.declared.Answer.{Answer}
use Rattle.air.specs.Held.{held}
use Rattle.state.specs.State.{property_of}
use Rattle.air.specs.Property.{AcceptedAny}
use Rattle.calculator.specs.Demand3.{Answered}
use Rattle.flat.specs.declared.CAnswer.{CAnswer}
use Rattle.flat.specs.Flat.{flat}
use Rattle.flat.specs.Back.{held_in}
use Rattle.c_laws.specs.Allowed.{IsFlatSearch, IsFlatAnswer}

-- document 01, below the table: no condition of the state row applies, 12, 13 and 17 judged by what the struct carries, refused or not
abbrev pub FlatAccepted : Record → CAnswer → Type 0
FlatAccepted r c = AcceptedAny (property_of (kind_of r.kind)) r.first r.second (held_in c)

-- the struct is no refusal, and flattens an answer of which all that demand 3 says holds; what it carries is what that answer holds
pub record FlatAnswered (kind first second : ℕ) (c : CAnswer) : Type 0 where
  pub no_refusal : c.number ≡ 0
  pub answer : Answer
  pub is : c ≡ flat (held answer)
  pub carries : held_in c ≡ held answer
  pub answered : Answered kind first second answer

-- any accepted sheet, any record of it, any spelling that reads to its name, and the struct that the search gives for them
abbrev pub FlatDemand3 : Type 0
FlatDemand3 =
    (s : List ℕ) (rs : List Record) (r : Record) (spelling : List ℕ) (c : CAnswer)
    → sheet_of s ≡ records rs
    → Memᴰ r rs
    → name_of spelling ≡ text (name_in s r)
    → IsFlatSearch s spelling c
    → FlatAccepted r c
    → FlatAnswered r.kind r.first r.second c

-- ---- number 0 is enough: nothing is left out but refusals
-- the struct answers the state of a record that has the spelled name
pub record FlatFoundAnswered (s spelling : List ℕ) (c : CAnswer) : Type 0 where
  pub rs : List Record
  pub r : Record
  pub reads : sheet_of s ≡ records rs
  pub member : Memᴰ r rs
  pub named : name_of spelling ≡ text (name_in s r)
  pub answered : FlatAnswered r.kind r.first r.second c

-- `eas_search`, for any bytes as sheet and spelling, and `eas_evaluate`, for any kind and values
abbrev pub SearchUnlessRefused : Type 0
SearchUnlessRefused = (s spelling : List ℕ) (c : CAnswer) → IsFlatSearch s spelling c → c.number ≡ 0 → FlatFoundAnswered s spelling c

abbrev pub StateUnlessRefused : Type 0
StateUnlessRefused = (kind first second : ℕ) (c : CAnswer) → IsFlatAnswer kind first second c → c.number ≡ 0 → FlatAnswered kind first second c
