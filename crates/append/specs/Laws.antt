-- Request 7: what an add leaves.
use mathlib.Core.List.{List, [], ◌∷◌, ◌++◌, Memᴰ}
use Rattle.std.specs.Prelude.{◌≡◌, ℕ, ◌^◌, ◌<◌}
use Rattle.octets.specs.Bytes.{part}
use Rattle.octets.specs.Room.{text}
use Rattle.name.specs.Name.{name_of}
use Rattle.sheet_record.specs.declared.Record.{Record}
use Rattle.sheet_record.specs.Front.{name_in}
use Rattle.sheet.specs.Sheet.{records}
use Rattle.sheet_version.specs.Version.{sheet_in}
use Rattle.sheet_remark.specs.Remark.{remark_in}
use Rattle.append.specs.Add.{added}

-- a record says in t what it says in s: its name, and its remark at its place
pub record Kept (s t : List ℕ) (r : Record) : Type 0 where
  pub name : name_in t r ≡ name_in s r
  pub remark : remark_in t r ≡ remark_in s r
  pub bytes : part t (remark_in s r).start (remark_in s r).len ≡ part s (remark_in s r).start (remark_in s r).len

-- t is an accepted sheet of version 2: the records of s in their places, and behind them one with this name, kind and values, as far as
-- eight bytes hold them, and an empty remark
pub record Grown (s t name : List ℕ) (kind first second : ℕ) : Type 0 where
  pub old : List Record
  pub new : Record
  pub read_old : sheet_in 2 s ≡ records old
  pub read_new : sheet_in 2 t ≡ records (old ++ (new ∷ []))
  pub kept : (r : Record) → Memᴰ r old → Kept s t r
  pub named : name_in t new ≡ name
  pub kind_is : new.kind ≡ kind
  pub first_is : first < 2 ^ 64 → new.first ≡ first
  pub second_is : second < 2 ^ 64 → new.second ≡ second
  pub empty : (remark_in t new).len ≡ 0

-- "appends one record": whatever an add takes
pub record Appended (s t spelling : List ℕ) (kind first second : ℕ) : Type 0 where
  pub name : List ℕ
  pub reads : name_of spelling ≡ text name
  pub grown : Grown s t name kind first second

abbrev pub AddAppends : Type 0
AddAppends =
    (s t spelling : List ℕ) (kind first second room : ℕ)
    → added s spelling kind first second room ≡ text t
    → Appended s t spelling kind first second
