-- Request 6: what the two ways have to do with each other, and with the sheet.
use Rattle.std.specs.Prelude.{List, [], ◌∷◌, ◌≡◌, ℕ, ◌≤◌, length}
use Rattle.octets.specs.Room.{text}
use Rattle.sheet_record.specs.Front.{name_in}
use Rattle.sheet_record.specs.declared.Record.{Record}
use Rattle.sheet.specs.Sheet.{records}
use Rattle.sheet_version.specs.Version.{sheet_in}
use Rattle.convert.specs.Convert.{forward, back}

-- "Forward then back returns the same bytes": for every sheet that forward takes
abbrev pub ForwardThenBack : Type 0
ForwardThenBack = (s t : List ℕ) (room again : ℕ) → forward s room ≡ text t → length s ≤ again → back t again ≡ text s

-- and back then forward, for every sheet that back takes
abbrev pub BackThenForward : Type 0
BackThenForward = (s t : List ℕ) (room again : ℕ) → back s room ≡ text t → length s ≤ again → forward t again ≡ text s

-- records of two sheets with the same names, kinds and values in the same order
pub data SameRecords (s t : List ℕ) : List Record → List Record → Type 0 where
  none : SameRecords s t [] []
  more :
      {r q : Record} {rs qs : List Record}
      → name_in s r ≡ name_in t q
      → r.kind ≡ q.kind
      → r.first ≡ q.first
      → r.second ≡ q.second
      → SameRecords s t rs qs
      → SameRecords s t (r ∷ rs) (q ∷ qs)

-- t is an accepted sheet of version w with the records of s, which is one of version v
pub record Converted (v w : ℕ) (s t : List ℕ) : Type 0 where
  pub from : List Record
  pub to : List Record
  pub read_from : sheet_in v s ≡ records from
  pub read_to : sheet_in w t ≡ records to
  pub same : SameRecords s t from to

abbrev pub ForwardConverts : Type 0
ForwardConverts = (s t : List ℕ) (room : ℕ) → forward s room ≡ text t → Converted 1 2 s t

abbrev pub BackConverts : Type 0
BackConverts = (s t : List ℕ) (room : ℕ) → back s room ≡ text t → Converted 2 1 s t
