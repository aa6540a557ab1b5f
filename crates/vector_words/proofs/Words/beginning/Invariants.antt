-- `vector_words::Words::beginning` ends: a turn leaves less of the cases. Assumes nothing.
use Rattle.std.proofs.Common.{◌≤◌, length}
use Rattle.vector_words.proofs.Words.beginning.Given as goal

abbrev pub invariant-loop : goal.invariant-loop
invariant-loop l = length l.self ≤ length l.initial.self

abbrev pub decreases-loop : goal.decreases-loop
decreases-loop l = length l.self
