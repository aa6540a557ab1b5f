-- `listing_input::read_to_end`: what was read stands at the start of the room, and a read that gives bytes leaves less room.
use Rattle.std.proofs.Common.{◌≡◌, ◌-◌, ◌<◌, length, take}
use Rattle.std.specs.Io.KnownBytes.{Consumes}
use Rattle.listing_input.proofs.read_to_end.Given as goal

abbrev pub invariant-loop-len : goal.invariant-loop-len
invariant-loop-len g l =
    (length l.room ≡ length l.initial.room)
    × (l.len < length l.initial.room)
    × Consumes (g.I.Read.remaining l.initial.input) (g.I.Read.remaining l.input) (take l.len l.room)

abbrev pub decreases-loop-len : goal.decreases-loop-len
decreases-loop-len g l = length l.initial.room - l.len
