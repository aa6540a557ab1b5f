-- `Sheet::record` reads record i at place i of the index.
use native.Mathlib.Omega.{arith}
use Rattle.sheet.proofs.Places.{record_low, record_fits, record_is}
use Rattle.sheet.proofs.Sheet.record.Goals as goal

pub returns : goal.returns
returns c =
    rw (c.entry_at.ensures, c.from.ensures, ← c.self.view_is) (record_is _ _ _ _ c.self.invariant c.args.i (rw c.self.view_is c.requires))

pub offset_bounds-self-inside-i : goal.offset_bounds-self-inside-i
offset_bounds-self-inside-i c = record { fits = omega (arith, record_low _ _ _ _ c.self.invariant c.args.i (rw c.self.view_is c.requires)) }

pub bounds-self-inside-i : goal.bounds-self-inside-i
bounds-self-inside-i c = record_low _ _ _ _ c.self.invariant c.args.i (rw c.self.view_is c.requires)

pub entry_at-requires : goal.entry_at-requires
entry_at-requires c = rw c.from.ensures (record_fits _ _ _ _ c.self.invariant c.args.i (rw c.self.view_is c.requires))
