-- Request 5: the remark of a found record, as the part of the sheet that holds it.
use Rattle.std.specs.Prelude.{List, [], Result, Ok, Err, ℕ, zero, suc, ◌+◌, ◌≤◌, length, drop}
use Rattle.std.proofs.Math.Option.{Option, none, some}
use Rattle.octets.specs.Bytes.{part}
use Rattle.sheet_record.specs.Layout.{layout_in}
use Rattle.sheet_record.specs.Front.{values_end}
use Rattle.sheet_record.specs.declared.Record.{Record}
use Rattle.sheet_search.specs.Find.{Lookup}
use Rattle.sheet_remark.specs.declared.Part.{Part}

-- the part that holds a remark, or a refusal's number
abbrev pub Remark : Type 0
Remark = Result Part ℕ

-- the remark behind a second value that ends at a place, by how many bytes follow there: all but the length byte. Where none follow,
-- as in version 1, it is empty and starts there
abbrev pub remark_at : ℕ → Option ℕ → Part
remark_at end none = record { start = end; len = 0 }
remark_at end (some zero) = record { start = end; len = 0 }
remark_at end (some (suc n)) = record { start = end + 1; len = n }

-- the remark of a record
abbrev pub remark_in : List ℕ → Record → Part
remark_in s r = remark_at (values_end r) ((layout_in s).tail (drop (values_end r) s))

-- the remark of what a search finds, or the search's refusal
abbrev pub remark_of : List ℕ → Lookup → Remark
remark_of s (Err n) = Err n
remark_of s (Ok r) = Ok (remark_in s r)

-- its bytes; none where the search refuses
abbrev pub remark_bytes : List ℕ → Remark → List ℕ
remark_bytes s (Err n) = []
remark_bytes s (Ok p) = part s p.start p.len

-- it lies in the sheet
abbrev pub RemarkInside : List ℕ → Remark → Type 0
RemarkInside s (Err n) = Unit
RemarkInside s (Ok p) = p.start + p.len ≤ length s
