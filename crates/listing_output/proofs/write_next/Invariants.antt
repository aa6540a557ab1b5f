-- `listing_output::write_next`: each turn writes some of the bytes that are left.
use Rattle.std.proofs.Common.{◌-◌, ◌≡◌, ◌+◌, ◌≤◌, length}
use Rattle.air.specs.Choices.{chosen}
use Rattle.report.specs.Listing.{listing_by}
use Rattle.listing_output.specs.Output.{Takes}
use Rattle.listing_output.proofs.write_next.Given as goal

abbrev pub invariant-loop-written : goal.invariant-loop-written
invariant-loop-written g l =
    (l.end ≡ l.account.done + length l.bytes)
    × (l.account.done ≤ l.written.done)
    × (l.written.done ≤ l.end)
    × Takes (g.W.Write.contents l.initial.output) (g.W.Write.contents l.output) (listing_by chosen l.sheet l.list) l.account.done l.written.done

abbrev pub decreases-loop-written : goal.decreases-loop-written
decreases-loop-written g l = l.end - l.written.done
