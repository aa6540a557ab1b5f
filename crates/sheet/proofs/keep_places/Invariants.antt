-- Where the walk stands: the places of the records that the reader has passed are kept.
use Rattle.std.proofs.Common.{◌≡◌}
use Rattle.sheet.proofs.Turns.{Walking}
use Rattle.sheet.proofs.keep_places.Given as goal

abbrev pub invariant-loop-at : goal.invariant-loop-at
invariant-loop-at l =
    (l.reader.sheet ≡ l.initial.reader.sheet) × Walking l.reader.sheet.now l.initial.reader.left l.reader.left l.reader.at l.count l.starts

abbrev pub decreases-loop-at : goal.decreases-loop-at
decreases-loop-at l = l.reader.left
