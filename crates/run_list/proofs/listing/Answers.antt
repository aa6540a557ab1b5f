-- `run_list::listing` is the line of a refusal, or all lines.
use mathlib.Core.Path.{refl}
use lib.ListN.{length}
use Rattle.run_list.proofs.Begins.{whole_line, nothing_written, lines_all}
use Rattle.run_list.proofs.listing.Goals as goal

pub returns-in-Refused-clause-value : goal.returns-in-Refused-clause-value
returns-in-Refused-clause-value c =
    let b = c.in_ok-n.ensures in
    let s = c.args in
    let v = rw c.in-Refused.is at b.value in
    rw (← whole_line s.sheet.now s.list.now (length s.out.now) c.in-Refused.n (rw c.in-Refused.is at b.lines) v) v

pub returns-in-Refused-clause-out_after : goal.returns-in-Refused-clause-out_after
returns-in-Refused-clause-out_after c =
    let b = c.in_ok-n.ensures in
    let s = c.args in
    let v = rw c.in-Refused.is at b.value in
    rw (← whole_line s.sheet.now s.list.now (length s.out.now) c.in-Refused.n (rw c.in-Refused.is at b.lines) v) b.out_after

pub returns-in-Lines-clause-value : goal.returns-in-Lines-clause-value
returns-in-Lines-clause-value c =
    let b = c.in_ok-n.ensures in
    let s = c.args in
    let v = rw c.in-Lines.is at b.value in
    let l = rw c.in-Lines.is at b.lines in
    let o = nothing_written s.sheet.now s.list.now (length s.out.now) s.out.now c.begin.new.out refl v b.out_after in
    rw (lines_all s.sheet.now s.list.now (length s.out.now) v) (rw (o, l) at c.put_lines.ensures.value)

pub returns-in-Lines-clause-out_after : goal.returns-in-Lines-clause-out_after
returns-in-Lines-clause-out_after c =
    let b = c.in_ok-n.ensures in
    let s = c.args in
    let v = rw c.in-Lines.is at b.value in
    let l = rw c.in-Lines.is at b.lines in
    let o = nothing_written s.sheet.now s.list.now (length s.out.now) s.out.now c.begin.new.out refl v b.out_after in
    rw (lines_all s.sheet.now s.list.now (length s.out.now) v) (rw (o, l) at c.put_lines.ensures.out_after)
