-- `listing_writer::write_parts`: a part writes at most 65,536 bytes, and takes a byte of the list at least.
use Rattle.std.proofs.Common.{length, ◌-◌, ◌≡◌, ◌≤◌, ◌*◌}
use Rattle.air.specs.Choices.{chosen}
use Rattle.report.specs.Listing.{listing_by}
use Rattle.listing_output.specs.Output.{Takes}
use Rattle.listing_writer.proofs.Left.{Left}
use Rattle.listing_writer.proofs.write_parts.Given as goal

abbrev pub invariant-loop-start : goal.invariant-loop-start
invariant-loop-start g l =
    Left l.sheet l.list l.start l.written.done
    × (l.written.done ≤ 65536 * l.start)
    × (length l.out ≡ length l.initial.out)
    × Takes (g.W.Write.contents l.initial.output) (g.W.Write.contents l.output) (listing_by chosen l.sheet l.list) 0 l.written.done

abbrev pub decreases-loop-start : goal.decreases-loop-start
decreases-loop-start g l = length l.list - l.start
