-- Request 7: an add to a sheet, with its refusals in their order.
use Rattle.std.specs.Prelude.{Bool, cond, not, List, ℕ, zero, suc, ltb, length}
use Rattle.kind.specs.Kind.{kind_of, is_known}
use Rattle.name.specs.Name.{name_of}
use Rattle.octets.specs.Room.{Text, refused, text}
use Rattle.sheet_record.specs.declared.Record.{Record}
use Rattle.sheet.specs.Sheet.{Sheet, records, seen}
use Rattle.sheet_version.specs.Version.{sheet_in}
use Rattle.append_record.specs.Grown.{new_record, grown}

-- the first refusal of a new state, or 0: 6 where its kind is not known, 16 where its name is there, 19 where the sheet would have more
-- than 65,536 bytes, 14 where the room has fewer than the sheet would have
abbrev pub add_fault : Bool → Bool → ℕ → ℕ → ℕ
add_fault known there len room = cond (not known) 6 (cond there 16 (cond (ltb 65536 len) 19 (cond (ltb room len) 14 0)))

-- a text where nothing refuses it
abbrev pub unless_refused : ℕ → List ℕ → Text
unless_refused zero t = text t
unless_refused (suc k) t = refused (suc k)

-- a state under a name to a sheet with these records: the sheet that grew
abbrev pub add_named : List ℕ → List Record → List ℕ → ℕ → ℕ → ℕ → ℕ → Text
add_named s rs name kind first second room =
    let t : List ℕ = grown s (new_record name kind first second) in
    unless_refused (add_fault (is_known (kind_of kind)) (seen s rs name) (length t) room) t

-- 7 and 8 come before the state's refusals
abbrev pub add_to : List ℕ → List Record → Text → ℕ → ℕ → ℕ → ℕ → Text
add_to s rs (refused k) kind first second room = refused k
add_to s rs (text name) kind first second room = add_named s rs name kind first second room

-- and the sheet's own before those of the name
abbrev pub add_by : Sheet → List ℕ → Text → ℕ → ℕ → ℕ → ℕ → Text
add_by (Sheet.refused n) s name kind first second room = refused n
add_by (records rs) s name kind first second room = add_to s rs name kind first second room

-- a state under a spelled name to a sheet of version 2, in room for so many bytes; "a version 1 sheet gets 3"
unfoldable pub added : List ℕ → List ℕ → ℕ → ℕ → ℕ → ℕ → Text
added s spelling kind first second room = add_by (sheet_in 2 s) s (name_of spelling) kind first second room

-- the sheet after an add: "a refused add .. changes nothing"
abbrev pub sheet_after : List ℕ → Text → List ℕ
sheet_after s (refused n) = s
sheet_after s (text t) = t
