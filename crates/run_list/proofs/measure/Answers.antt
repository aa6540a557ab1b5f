-- `run_list::measure` counts what the lines have.
use Rattle.std.specs.Prelude.{Ok}
use mathlib.Core.Path.{◌≡◌, ap}
use native.Mathlib.Omega.{arith}
use borrow.Author.Tests.{le-leb, lt-leb}
use Rattle.report.proofs.Output.{left, left_next, left_none}
use Rattle.run_list.proofs.measure.Goals as goal

pub returns-then-room-n : goal.returns-then-room-n
returns-then-room-n c =
    let l = c.loop-from in
    let s = c.args in
    let f = left_next _ _ _ _ _ c.next_line-built.ensures in
    rw (lt-leb (left s.sheet.now s.list.now 0) s.room (omega (arith, l.invariant.1, f, c.if-room-n.true, c.len.ensures.value)))

pub loop-from-preserved : goal.loop-from-preserved
loop-from-preserved c =
    let l = c.loop-from in
    let f = left_next _ _ _ _ _ c.next_line-built.ensures in
    (omega arith, omega (arith, l.invariant.1, f, c.len-n.ensures.value))

pub returns : goal.returns
returns c =
    let l = c.loop-from in
    let s = c.args in
    let e : l.n ≡ left s.sheet.now s.list.now 0 = omega (arith, l.invariant.1, left_none s.sheet.now s.list.now l.from c.loop-from-test.false) in
    rw (le-leb (left s.sheet.now s.list.now 0) s.room (omega arith)) (ap Ok e)
