use Rattle.std.proofs.Common.{length}
use Rattle.name_reader.proofs.Kept.{Kept}
use Rattle.name_reader.proofs.read.Given as goal

abbrev pub invariant-loop-rest : goal.invariant-loop-rest
invariant-loop-rest l = Kept l.spelling l.name.items l.rest l.too_long

abbrev pub decreases-loop-rest : goal.decreases-loop-rest
decreases-loop-rest l = length l.rest
