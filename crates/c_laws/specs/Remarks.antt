-- Request 5 over what C gets: two sheets that differ only in remarks. Each equation is between what two calls give by their contracts.
use mathlib.Core.List.{List, Memᴰ}
use Rattle.std.specs.Prelude.{◌≡◌, ℕ, Ok}
use Rattle.octets.specs.Bytes.{part}
use Rattle.octets.specs.Room.{text}
use Rattle.name.specs.Name.{name_of}
use Rattle.air.specs.Choices.{chosen}
use Rattle.mark.specs.Mark.{mark_of}
use Rattle.sheet_record.specs.declared.Record.{Record}
use Rattle.sheet_record.specs.Front.{name_in}
use Rattle.sheet.specs.Sheet.{records, sheet_of, number_of}
use Rattle.sheet_search.specs.Remarks.{DifferInRemarks}
use Rattle.sheet_remark.specs.Remark.{remark_in, remark_of, remark_bytes}
use Rattle.sheet_walk.specs.Records.{record_of}
use Rattle.convert.specs.Convert.{forward}
use Rattle.calculator.specs.Search.{locate, search_by}
use Rattle.walk.specs.declared.Walk.{Walk}
use Rattle.walk.specs.Walk.{begun_by, stepped}
use Rattle.flat.specs.Flat.{flat}
use Rattle.flat_parts.specs.declared.CPart.{CPart}
use Rattle.flat_parts.specs.declared.CRecord.{CRecord}
use Rattle.flat_parts.specs.Flat.{flat_found, flat_remark, flat_mark}
use Rattle.c_laws.specs.Texts.{line_in, listing_in}

-- a record without the place of its name
abbrev pub placeless : CRecord → CRecord
placeless r = record { number = r.number; kind = r.kind; first = r.first; second = r.second; start = 0; length = r.length }

-- records of two sheets that differ in the places of their names alone
pub record SameRecord (s t : List ℕ) (a b : CRecord) : Type 0 where
  pub fields : placeless a ≡ placeless b
  pub name : part s a.start a.length ≡ part t b.start b.length

-- what `eas_check`, `eas_find`, `eas_record_at`, `eas_search`, `eas_plot`, `eas_line`, `eas_list`, `eas_begin` and `eas_next` give for
-- either sheet
pub record SameForC (s t : List ℕ) : Type 0 where
  pub check : number_of (sheet_of s) ≡ number_of (sheet_of t)
  pub find : (spelling : List ℕ) → SameRecord s t (flat_found (locate s spelling)) (flat_found (locate t spelling))
  pub record_at_lem : (i : ℕ) → SameRecord s t (flat_found (record_of s i)) (flat_found (record_of t i))
  pub search : (spelling : List ℕ) → flat (search_by chosen s spelling) ≡ flat (search_by chosen t spelling)
  pub plot : (spelling : List ℕ) → flat_mark (mark_of (search_by chosen s spelling)) ≡ flat_mark (mark_of (search_by chosen t spelling))
  pub line : (room : ℕ) (spelling : List ℕ) → line_in room s spelling ≡ line_in room t spelling
  pub list : (room : ℕ) (names : List ℕ) → listing_in room s names ≡ listing_in room t names
  pub begin : begun_by (sheet_of s) ≡ begun_by (sheet_of t)
  pub next : (w : Walk) (room : ℕ) → stepped chosen s w room ≡ stepped chosen t w room

-- and `eas_forward`, which refuses both: they are of version 2
pub record SameBehindRemarks (s t : List ℕ) : Type 0 where
  pub for_c : SameForC s t
  pub refused_forward : (room : ℕ) → forward s room ≡ forward t room

abbrev pub FlatRemarksAside : Type 0
FlatRemarksAside = (s t : List ℕ) → DifferInRemarks s t → SameBehindRemarks s t

-- a part of a sheet that C is told of, with the remark of a record: its place, and its bytes there
pub record HoldsRemark (s : List ℕ) (r : Record) (c : CPart) : Type 0 where
  pub no_refusal : c.number ≡ 0
  pub start_is : c.start ≡ (remark_in s r).start
  pub length_is : c.length ≡ (remark_in s r).len
  pub bytes : part s c.start c.length ≡ remark_bytes s (remark_of s (Ok r))

-- any accepted sheet, any record of it, any spelling that reads to its name: what `eas_remark` gives has that record's remark
abbrev pub FoundRemark : Type 0
FoundRemark =
    (s : List ℕ) (rs : List Record) (r : Record) (spelling : List ℕ) (c : CPart)
    → sheet_of s ≡ records rs
    → Memᴰ r rs
    → name_of spelling ≡ text (name_in s r)
    → c ≡ flat_remark (remark_of s (locate s spelling))
    → HoldsRemark s r c
