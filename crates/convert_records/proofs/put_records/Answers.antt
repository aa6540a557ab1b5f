-- `convert_records::put_records`: a turn puts the record at the place.
use native.Mathlib.Omega.{arith}
use Rattle.convert_records.proofs.Turns.{put_begins, put_next, put_all}
use Rattle.convert_records.proofs.put_records.Goals as goal

pub loop-i-init : goal.loop-i-init
loop-i-init c = put_begins c.args.version c.args.s.now c.args.out.now _ c.requires.0 (omega (arith, c.requires.1)) (omega (arith, c.requires.2))

pub entry_at-requires : goal.entry_at-requires
entry_at-requires c = (put_next c.loop-i.invariant c.requires.2 (omega arith)).fits

pub put_record-at-requires : goal.put_record-at-requires
put_record-at-requires c =
    let x = put_next c.loop-i.invariant c.requires.2 (omega arith) in
    rw c.entry_at.ensures (x.short, omega (arith, x.fits), omega (arith, x.space, c.requires.2, c.loop-i.auto.out))

pub past_at-from-requires : goal.past_at-from-requires
past_at-from-requires c = (put_next c.loop-i.invariant c.requires.2 (omega arith)).stands

pub loop-i-preserved : goal.loop-i-preserved
loop-i-preserved c =
    let x = put_next c.loop-i.invariant c.requires.2 (omega arith) in
    let e = c.entry_at.ensures in
    x.more _ _ _ _ c.past_at-from.ensures (omega arith) (rw e at c.put_record-at.ensures.value) (rw e at c.put_record-at.ensures.out_after)

pub returns : goal.returns
returns c = put_all c.loop-i.invariant c.requires.2 (omega arith)
