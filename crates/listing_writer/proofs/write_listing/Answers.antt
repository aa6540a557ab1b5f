-- `listing_writer::write_listing`: what `begin` put in the room is the whole listing, unless lines follow.
use Rattle.std.proofs.Common.{arith, length, ap, ◌≡◌, take}
use Rattle.air.specs.Choices.{chosen}
use Rattle.report.specs.Listing.{listing_by}
use Rattle.report.specs.Steps.{refusal}
use Rattle.report.proofs.Whole.{whole}
use Rattle.listing_output.proofs.Next.{next_whole}
use Rattle.listing_writer.proofs.write_listing.Goals as goal

pub write_next-requires-clause-next : goal.write_next-requires-clause-next
write_next-requires-clause-next g c =
    let e = rw c.in-Ok-Refused.field-0-is at c.in-Ok-Refused.ensures in
    rw c.nothing-nothing.ensures (next_whole _ _ (whole _ _ _ _ e.out_after e.value (refusal e.lines)))

pub returns-in-Ok-Refused-clause-reached : goal.returns-in-Ok-Refused-clause-reached
returns-in-Ok-Refused-clause-reached g c =
    let e = rw c.in-Ok-Refused.field-0-is at c.in-Ok-Refused.ensures in
    let s : length (take c.in-Ok-Refused.n c.begin.new.out) ≡ length (listing_by chosen c.args.sheet.now c.args.list.now) = ap length (whole _ _ _ _ e.out_after e.value (refusal e.lines)) in
    let w = c.write_next.ensures.reached in
    let z = c.nothing-nothing.ensures in
    record { inside = omega (arith, w.inside, s, z); whole = λ f. omega (arith, w.whole f, s, z) }
