-- `sheet::keep_places` meets its contract: a turn keeps the place of the record that the reader passes.
use Rattle.std.proofs.Common.{◌∙◌, sym, ap, arith}
use Rattle.sheet_reader.specs.declared.Reader.{Reader}
use Rattle.sheet.proofs.Turns.{place_fits, passes, stays}
use Rattle.sheet.proofs.keep_places.Goals as goal

pub overflow_cast-starts : goal.overflow_cast-starts
overflow_cast-starts c =
    let l = c.loop-at in
    record { fits = place_fits c.args.reader.now.left l.count l.starts l.reader l.invariant.1 c.in-Some.at (sym c.step.ensures.place ∙ c.in-Some.is) }

pub loop-at-smaller : goal.loop-at-smaller
loop-at-smaller c =
    let l = c.loop-at in
    let p = passes c.args.reader.now.left l.count l.starts l.reader l.invariant.1 c.in-Some.at (omega arith) (sym c.step.ensures.place ∙ c.in-Some.is) in
    omega (arith, p.fewer, ap (λ (x : Reader). x.left) c.step.ensures.reader)

pub loop-at-preserved : goal.loop-at-preserved
loop-at-preserved c =
    let l = c.loop-at in
    let p = passes c.args.reader.now.left l.count l.starts l.reader l.invariant.1 c.in-Some.at (omega arith) (sym c.step.ensures.place ∙ c.in-Some.is) in
    rw c.step.ensures.reader (p.sheet ∙ l.invariant.0, rw p.sheet p.walking)

pub returns-clause-walked : goal.returns-clause-walked
returns-clause-walked c =
    let l = c.loop-at in
    let p = stays c.args.reader.now.left l.count l.starts l.reader l.invariant.1 (sym c.step.ensures.place ∙ c.in_default.is) in
    rw (c.step.ensures.reader, ← l.invariant.0) p.0
