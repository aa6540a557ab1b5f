use mathlib.Core.Path.{◌≡◌}
use Prim.Native.Nat.{◌+◌, ◌-◌, ◌*◌, ◌≤◌}
use lib.ListN.{length}
use Rattle.report.specs.Steps.{Part}
use Rattle.report.proofs.part.Given as goal

-- each line takes a byte of the list and at most 192 of the room
abbrev pub invariant-loop-from : goal.invariant-loop-from
invariant-loop-from l = Part l.sheet l.list l.initial.out l.out l.start l.from l.at × (192 * l.start + l.at ≤ 192 * l.from) × (length l.out ≡ length l.initial.out)

abbrev pub decreases-loop-from : goal.decreases-loop-from
decreases-loop-from l = length l.list + 1 - l.from
