-- How long a new record is, and the sheet with it.
use mathlib.Core.List.{List}
use mathlib.Core.Path.{◌≡◌}
use Prim.Native.Nat.{ℕ, suc, ◌+◌, ◌≤◌}
use native.Mathlib.Omega.{arith}
use lib.ListN.{length, length-append, length-drop}
use lib.Seq.{length-take-le}
use Rattle.octets.specs.Bytes.{number_at}
use Rattle.octets.proofs.Numbers.{bytes_length}
use Rattle.append_record.specs.Grown.{new_record, grown}

pub record_length : (name : List ℕ) (kind first second : ℕ) → length (new_record name kind first second) ≡ length name + 19
record_length name kind first second = simp length-append (omega (arith, bytes_length 8 first, bytes_length 8 second))

pub grown_length : (s r : List ℕ) → 7 ≤ length s → length (grown s r) ≡ length s + length r
grown_length s r h = simp length-append (omega (arith, length-take-le 5 s (omega arith), bytes_length 2 (suc (number_at 2 s 5)), length-drop 7 s))
