-- Request 6: each answer of the way forward exactly at its condition, by the sheet's length and its records.
use Rattle.std.specs.Prelude.{List, ◌≡◌, ℕ, ◌+◌, ◌≤◌, ◌<◌, length}
use Rattle.octets.specs.Room.{Text, refused, text}
use Rattle.sheet_record.specs.declared.Record.{Record}
use Rattle.sheet.specs.Sheet.{records, number_of}
use Rattle.sheet_version.specs.Version.{sheet_in}
use Rattle.convert.specs.Convert.{forward}

-- the sheet's own number; 1 where a byte more for each record makes over 65,536; 14 for shorter room; else a text of that length
pub data ForwardAnswer (s : List ℕ) (room : ℕ) : Text → Type 0 where
  own : {k : ℕ} → number_of (sheet_in 1 s) ≡ k → (k ≡ 0 → ⊥) → ForwardAnswer s room (refused k)
  long : {rs : List Record} → sheet_in 1 s ≡ records rs → 65536 < length s + length rs → ForwardAnswer s room (refused 1)
  short : {rs : List Record} → sheet_in 1 s ≡ records rs → length s + length rs ≤ 65536 → room < length s + length rs → ForwardAnswer s room (refused 14)
  taken :
      {rs : List Record} {t : List ℕ}
      → sheet_in 1 s ≡ records rs
      → length s + length rs ≤ 65536
      → length s + length rs ≤ room
      → length t ≡ length s + length rs
      → ForwardAnswer s room (text t)

-- an answer comes with its condition
abbrev pub ForwardExactly : Type 0
ForwardExactly = (s : List ℕ) (room : ℕ) → ForwardAnswer s room (forward s room)

-- and a refusal wherever its condition holds
abbrev pub ForwardRefuses : Type 0
ForwardRefuses = (s : List ℕ) (room k : ℕ) → ForwardAnswer s room (refused k) → forward s room ≡ refused k
