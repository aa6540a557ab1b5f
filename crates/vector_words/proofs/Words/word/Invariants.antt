-- `vector_words::Words::word` ends: a turn leaves less of the cases. Assumes nothing.
use Rattle.std.proofs.Common.{◌≤◌, length}
use Rattle.vector_words.proofs.Words.word.Given as goal

abbrev pub invariant-loop-b : goal.invariant-loop-b
invariant-loop-b l = length l.self ≤ length l.initial.self

abbrev pub decreases-loop-b : goal.decreases-loop-b
decreases-loop-b l = length l.self
