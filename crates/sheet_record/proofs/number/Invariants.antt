use mathlib.Core.Path.{◌≡◌}
use Prim.Native.Nat.{◌<◌, ◌^◌}
use Rattle.octets.specs.Bytes.{number_at}
use Rattle.sheet_record.proofs.number.Given as goal

abbrev pub invariant-loop-b : goal.invariant-loop-b
invariant-loop-b l = (l.n ≡ number_at l.b-index l.digits 0) × (l.n < 256 ^ l.b-index)
