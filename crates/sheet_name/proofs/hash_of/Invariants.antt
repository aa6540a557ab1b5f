use mathlib.Core.Path.{◌≡◌}
use Prim.Native.Nat.{◌<◌}
use lib.ListN.{drop}
use Rattle.sheet_name.specs.Name.{hash_from}
use Rattle.sheet_name.proofs.hash_of.Given as goal

abbrev pub invariant-loop-b : goal.invariant-loop-b
invariant-loop-b l = (l.h < 4294967296) × (hash_from 0 l.name ≡ hash_from l.h (drop l.b-index l.name))
