-- `convert_records::put_sheet`: there is room for the records behind the header.
use native.Mathlib.Omega.{arith}
use Rattle.sheet.specs.Sheet.{sheet_of, records_of}
use Rattle.convert_records.specs.Records.{records_as}
use Rattle.convert_records.proofs.Turns.{header_room}
use Rattle.convert_records.proofs.put_sheet.Goals as goal

pub put_records-requires : goal.put_records-requires
put_records-requires c =
    let a = c.args in
    let r = header_room a.version a.s.now (records_as a.version a.s.now (records_of (sheet_of a.s.now))) a.out.now c.requires.0 (omega (arith, c.requires.2, c.if-out-len.false)) in
    (c.requires.0, c.requires.1, omega (arith, r, c.put_header.auto.out))
