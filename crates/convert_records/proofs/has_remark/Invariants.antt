-- The records in front have no remark.
use Rattle.std.specs.Prelude.{◌≡◌, true, take}
use Rattle.sheet.specs.Sheet.{sheet_of, records_of}
use Rattle.convert_records.specs.Records.{bare}
use Rattle.convert_records.proofs.has_remark.Given as goal

abbrev pub invariant-loop-i : goal.invariant-loop-i
invariant-loop-i l = bare l.sheet (take l.i (records_of (sheet_of l.sheet))) ≡ true
