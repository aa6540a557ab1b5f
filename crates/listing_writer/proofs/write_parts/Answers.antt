-- `listing_writer::write_parts`: a part is next, and after it the lines from the next place on are left.
use Rattle.std.proofs.Common.{rules, arith, ◌≡◌, refl, ap, ◌∙◌, ◌+◌, Err}
use Rattle.air.specs.Choices.{chosen}
use Rattle.report.specs.Listing.{listing_by}
use Rattle.listing_output.proofs.Taken.{takes_none, takes_more}
use Rattle.listing_writer.proofs.Left.{all_left, list_short, all_written, part_size, part_next, part_left}
use Rattle.listing_writer.proofs.write_parts.Goals as goal

pub loop-start-init : goal.loop-start-init
loop-start-init g c =
    let n = c.nothing-written.ensures in
    (rw n (all_left _ _ c.requires.none_refused), omega (arith, n), refl, rw n (takes_none _ (listing_by chosen c.args.sheet.now c.args.list.now) 0))

pub write_next-requires-clause-next : goal.write_next-requires-clause-next
write_next-requires-clause-next g c = rw c.bytes-bytes.ensures.value (part_next c.loop-start.invariant.0 c.part-part.ensures.part)

pub write_next-requires-clause-bytes_bound : goal.write_next-requires-clause-bytes_bound
write_next-requires-clause-bytes_bound g c =
    let i = c.loop-start.invariant in
    let p = c.part-part.ensures.part in
    omega (arith, i.1, list_short _ _ c.requires.none_refused, c.loop-start-test.true, p.inside, part_size i.0 p, c.part-part.auto.out, i.2, c.requires.in_bounds.1)

pub returns-in_err-written-clause-reached : goal.returns-in_err-written-clause-reached
returns-in_err-written-clause-reached g c =
    let i = c.loop-start.invariant in
    let p = c.part-part.ensures.part in
    let r : c.from_residual.result ≡ Err c.in_err-written.field-0.0 = search rules in
    rw r (record { inside = omega (arith, c.in_err-written.ensures.reached.inside, part_size i.0 p, (part_left i.0 p).inside); whole = search rules })

pub returns-in_err-written-clause-bytes : goal.returns-in_err-written-clause-bytes
returns-in_err-written-clause-bytes g c =
    let r : c.from_residual.result ≡ Err c.in_err-written.field-0.0 = search rules in
    rw r (takes_more _ _ _ _ _ c.loop-start.written.done _ c.loop-start.invariant.3 (rw c.bytes-bytes.ensures.value at c.in_err-written.ensures.bytes))

pub loop-start-preserved : goal.loop-start-preserved
loop-start-preserved g c =
    let i = c.loop-start.invariant in
    let p = c.part-part.ensures.part in
    let n = part_size i.0 p in
    let e = c.in_ok-written.ensures.reached.whole (search rules) in
    let onward = c.part-part.ensures.start_lt_next c.loop-start-test.true (omega (arith, i.2, c.requires.in_bounds.0)) in (
      rw (e ∙ ap (λ m. c.loop-start.written.done + m) n) (part_left i.0 p),
      omega (arith, e, n, onward, p.inside, i.1, i.2, c.part-part.auto.out, c.requires.in_bounds.1),
      search rules,
      takes_more _ _ _ _ _ c.loop-start.written.done _ i.3 (rw c.bytes-bytes.ensures.value at c.in_ok-written.ensures.bytes),
    )

pub returns-clause-reached : goal.returns-clause-reached
returns-clause-reached g c =
    let i = c.loop-start.invariant in
    record { inside = i.0.inside; whole = λ _. all_written i.0 (omega (arith, c.loop-start-test.false)) }
