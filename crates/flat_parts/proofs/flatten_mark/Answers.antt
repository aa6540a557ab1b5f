-- `flat_parts::flatten_mark`: a blank is at the origin.
use Rattle.std.proofs.Common.{rules}
use lib.Ieee.{of_bits, of_int}
use Rattle.flat_parts.specs.Flat.{flat_mark}
use Rattle.flat_parts.proofs.flatten_mark.Goals as goal

pub returns-in-Err : goal.returns-in-Err
unfolding flat_mark of_bits of_int
returns-in-Err c = search rules
