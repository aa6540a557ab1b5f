use Prim.Native.Nat.{◌≤◌}
use Rattle.distinct.specs.Chain.{Missed}
use Rattle.distinct.proofs.Index.in_chain.Given as goal

abbrev pub invariant-loop-link : goal.invariant-loop-link
invariant-loop-link l =
    (l.link ≤ l.from) × (Missed l.s l.self.starts l.self.next l.name l.link → Missed l.s l.self.starts l.self.next l.name l.from)

abbrev pub decreases-loop-link : goal.decreases-loop-link
decreases-loop-link l = l.link
