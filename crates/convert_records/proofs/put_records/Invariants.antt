-- Where the writing stands: the records in front of the place are in the room behind its header.
use Prim.Native.Nat.{◌-◌}
use Rattle.sheet.specs.Sheet.{sheet_of, records_of}
use Rattle.convert_records.specs.Records.{records_as}
use Rattle.convert_records.proofs.Turns.{Putting}
use Rattle.convert_records.proofs.put_records.Given as goal

abbrev pub invariant-loop-i : goal.invariant-loop-i
invariant-loop-i l = Putting l.version l.s (records_as l.version l.s (records_of (sheet_of l.s))) l.initial.out l.from (l.count - l.i) l.at l.out
