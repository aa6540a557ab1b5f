-- Request 6: each answer of the way back exactly at its condition, by the sheet's length, its records and their remarks.
use mathlib.Core.List.{List, Memᴰ}
use Rattle.std.specs.Prelude.{◌≡◌, ℕ, ◌+◌, ◌≤◌, ◌<◌, length}
use Rattle.octets.specs.Room.{Text, refused, text}
use Rattle.sheet_record.specs.declared.Record.{Record}
use Rattle.sheet.specs.Sheet.{records, number_of}
use Rattle.sheet_version.specs.Version.{sheet_in}
use Rattle.sheet_remark.specs.Remark.{remark_in}
use Rattle.convert.specs.Convert.{back}

-- the remark of each record is empty
abbrev pub NoRemark : List ℕ → List Record → Type 0
NoRemark s rs = (r : Record) → Memᴰ r rs → (remark_in s r).len ≡ 0

-- the sheet's own number; 18 where some record's remark is not empty; 14 for room shorter than a byte less for each record; else a text of
-- that length
pub data BackAnswer (s : List ℕ) (room : ℕ) : Text → Type 0 where
  own : {k : ℕ} → number_of (sheet_in 2 s) ≡ k → (k ≡ 0 → ⊥) → BackAnswer s room (refused k)
  remarked : {rs : List Record} {r : Record} → sheet_in 2 s ≡ records rs → Memᴰ r rs → ((remark_in s r).len ≡ 0 → ⊥) → BackAnswer s room (refused 18)
  short : {rs : List Record} → sheet_in 2 s ≡ records rs → NoRemark s rs → room + length rs < length s → BackAnswer s room (refused 14)
  taken :
      {rs : List Record} {t : List ℕ}
      → sheet_in 2 s ≡ records rs
      → NoRemark s rs
      → length s ≤ room + length rs
      → length t + length rs ≡ length s
      → BackAnswer s room (text t)

-- an answer comes with its condition
abbrev pub BackExactly : Type 0
BackExactly = (s : List ℕ) (room : ℕ) → BackAnswer s room (back s room)

-- and a refusal wherever its condition holds
abbrev pub BackRefuses : Type 0
BackRefuses = (s : List ℕ) (room k : ℕ) → BackAnswer s room (refused k) → back s room ≡ refused k
