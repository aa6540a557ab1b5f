use Rattle.std.proofs.Common.{◌≡◌, take}
use Rattle.name.specs.Spelling.{spelled}
use Rattle.name_writer.proofs.spelling.Given as goal

abbrev pub invariant-loop-byte : goal.invariant-loop-byte
invariant-loop-byte l = l.spelling.items ≡ spelled (take l.byte-index l.name)
