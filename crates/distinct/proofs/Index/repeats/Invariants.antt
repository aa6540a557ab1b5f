use Rattle.std.proofs.Common.{◌≡◌}
use Rattle.distinct.specs.Chain.{Table}
use Rattle.distinct.proofs.Pairs.{Apart}
use Rattle.distinct.proofs.Index.repeats.Given as goal

abbrev pub invariant-loop-i : goal.invariant-loop-i
invariant-loop-i l =
    (l.self.starts ≡ l.initial.self.starts) × Table l.s l.self.starts l.self.heads l.self.next l.i × Apart l.s l.self.starts l.i
