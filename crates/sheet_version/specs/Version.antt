-- Request 6: a sheet of one version, where any other is refused.
use Rattle.std.specs.Prelude.{cond, List, ℕ, eqb}
use Rattle.std.proofs.Math.Option.{Option, none}
use Rattle.sheet_record.specs.Layout.{Layout, layout_of}
use Rattle.sheet.specs.Sheet.{Sheet, sheet_by}

-- the layout of the one version that is read
abbrev pub only : ℕ → ℕ → Option Layout
only v version = cond (eqb version v) (layout_of v) none

-- the records of a sheet of version v, or its first refusal: any other version is 3, in 3's place
abbrev pub sheet_in : ℕ → List ℕ → Sheet
sheet_in v s = sheet_by (only v) s
