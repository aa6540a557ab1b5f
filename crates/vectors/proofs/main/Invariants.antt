-- `vectors::main` ends: a case leaves less of the text. Assumes nothing.
use Rattle.std.proofs.Common.{length}
use Rattle.vectors.proofs.main.Given as goal

abbrev pub decreases-loop-letter : goal.decreases-loop-letter
decreases-loop-letter l = length l.words
