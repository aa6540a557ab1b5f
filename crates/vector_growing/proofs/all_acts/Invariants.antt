-- `vector_growing::all_acts` ends: an act leaves fewer of the bytes that tell them. Assumes nothing.
use Rattle.std.proofs.Common.{length}
use Rattle.vector_growing.proofs.all_acts.Given as goal

abbrev pub decreases-loop-letter : goal.decreases-loop-letter
decreases-loop-letter g l = length l.acts
