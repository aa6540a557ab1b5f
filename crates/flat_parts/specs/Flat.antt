-- What C gets of records, remarks, texts and marks: flat numbers, 0 where nothing is carried.
use Rattle.std.specs.Prelude.{ℕ, pos, Result, Ok, Err}
use Rattle.std.specs.Float.{binary64}
use Rattle.std.specs.Float.Ieee.{of_int}
use Rattle.sheet_search.specs.Find.{Lookup}
use Rattle.sheet_remark.specs.declared.Part.{Part}
use Rattle.mark.specs.declared.Point.{Point}
use Rattle.flat_parts.specs.declared.CRecord.{CRecord}
use Rattle.flat_parts.specs.declared.CText.{CText}
use Rattle.flat_parts.specs.declared.CPart.{CPart}
use Rattle.flat_parts.specs.declared.CMark.{CMark}

-- a found record, with the part of the sheet that holds its name as start and length
unfoldable pub flat_found : Lookup → CRecord
flat_found (Err n) = record { number = n; kind = 0; first = 0; second = 0; start = 0; length = 0 }
flat_found (Ok r) = record { number = 0; kind = r.kind; first = r.first; second = r.second; start = r.start; length = r.len }

-- the part of the sheet that holds a remark
unfoldable pub flat_remark : Result Part ℕ → CPart
flat_remark (Err n) = record { number = n; start = 0; length = 0 }
flat_remark (Ok p) = record { number = 0; start = p.start; length = p.len }

-- a text's length, or the number of its refusal
unfoldable pub flat_text : Result ℕ ℕ → CText
flat_text (Err n) = record { number = n; length = 0 }
flat_text (Ok n) = record { number = 0; length = n }

-- a point, or a blank at the origin
unfoldable pub flat_mark : Result Point ℕ → CMark
flat_mark (Ok p) = record { blank = 0; point = record { across = p.across; up = p.up } }
flat_mark (Err n) = record { blank = n; point = record { across = of_int binary64 (pos 0); up = of_int binary64 (pos 0) } }
