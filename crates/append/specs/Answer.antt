-- Request 7: each answer of an add exactly at its condition, by the sheet's length, its records and their names.
use Rattle.std.specs.Prelude.{true, false, ◌≡◌, ℕ, ◌+◌, ◌≤◌, ◌<◌, length}
use mathlib.Core.List.{List, Memᴰ}
use Rattle.kind.specs.Kind.{kind_of, is_known}
use Rattle.octets.specs.Room.{Text, refused, text}
use Rattle.name.specs.Name.{name_of}
use Rattle.sheet_record.specs.declared.Record.{Record}
use Rattle.sheet_record.specs.Front.{name_in}
use Rattle.sheet.specs.Sheet.{records, number_of}
use Rattle.sheet_version.specs.Version.{sheet_in}
use Rattle.append.specs.Add.{added}

-- what an add went by: an accepted sheet of version 2 with these records, and a spelling that reads to this name
pub record Reads (s spelling : List ℕ) (rs : List Record) (name : List ℕ) : Type 0 where
  pub sheet : sheet_in 2 s ≡ records rs
  pub name_is : name_of spelling ≡ text name

-- no record has the name
abbrev pub Absent : List ℕ → List Record → List ℕ → Type 0
Absent s rs name = (r : Record) → Memᴰ r rs → name_in s r ≡ name → ⊥

-- the sheet's own number; 7 or 8; 6; 16 where a record has the name; 19 where 19 bytes and the name make over 65,536; 14 for shorter room;
-- else a text of that length
pub data AddAnswer (s spelling : List ℕ) (kind room : ℕ) : Text → Type 0 where
  own : {k : ℕ} → number_of (sheet_in 2 s) ≡ k → (k ≡ 0 → ⊥) → AddAnswer s spelling kind room (refused k)
  unread : {rs : List Record} {k : ℕ} → sheet_in 2 s ≡ records rs → name_of spelling ≡ refused k → AddAnswer s spelling kind room (refused k)
  unknown : {rs : List Record} {name : List ℕ} → Reads s spelling rs name → is_known (kind_of kind) ≡ false → AddAnswer s spelling kind room (refused 6)
  there :
      {rs : List Record} {r : Record} {name : List ℕ}
      → Reads s spelling rs name
      → is_known (kind_of kind) ≡ true
      → Memᴰ r rs
      → name_in s r ≡ name
      → AddAnswer s spelling kind room (refused 16)
  full :
      {rs : List Record} {name : List ℕ}
      → Reads s spelling rs name
      → is_known (kind_of kind) ≡ true
      → Absent s rs name
      → 65536 < length s + length name + 19
      → AddAnswer s spelling kind room (refused 19)
  short :
      {rs : List Record} {name : List ℕ}
      → Reads s spelling rs name
      → is_known (kind_of kind) ≡ true
      → Absent s rs name
      → length s + length name + 19 ≤ 65536
      → room < length s + length name + 19
      → AddAnswer s spelling kind room (refused 14)
  taken :
      {rs : List Record} {name t : List ℕ}
      → Reads s spelling rs name
      → is_known (kind_of kind) ≡ true
      → Absent s rs name
      → length s + length name + 19 ≤ 65536
      → length s + length name + 19 ≤ room
      → length t ≡ length s + length name + 19
      → AddAnswer s spelling kind room (text t)

-- an answer comes with its condition
abbrev pub AddExactly : Type 0
AddExactly = (s spelling : List ℕ) (kind first second room : ℕ) → AddAnswer s spelling kind room (added s spelling kind first second room)

-- and a refusal wherever its condition holds
abbrev pub AddRefuses : Type 0
AddRefuses = (s spelling : List ℕ) (kind first second room k : ℕ) → AddAnswer s spelling kind room (refused k) → added s spelling kind first second room ≡ refused k
