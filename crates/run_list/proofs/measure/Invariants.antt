use mathlib.Core.Path.{◌≡◌}
use Prim.Native.Nat.{◌+◌, ◌-◌, ◌≤◌}
use lib.ListN.{length}
use Rattle.report.proofs.Output.{left}
use Rattle.run_list.proofs.measure.Given as goal

-- what was counted and what is left make the whole
abbrev pub invariant-loop-from : goal.invariant-loop-from
invariant-loop-from l = (l.n ≤ l.room) × (l.n + left l.sheet l.list l.from ≡ left l.sheet l.list 0)

abbrev pub decreases-loop-from : goal.decreases-loop-from
decreases-loop-from l = length l.list + 1 - l.from
