-- The name that a line shows, and that it fits there.
-- Assumes nothing.
use mathlib.Core.Bool.{true}
use mathlib.Core.List.{List}
use mathlib.Core.Path.{◌≡◌, refl}
use Prim.Native.Nat.{ℕ, ◌≤◌}
use native.Mathlib.Omega.{arith}
use lib.ListN.{length}
use Rattle.octets.specs.Room.{Text, text, refused}
use Rattle.name.specs.Name.{is_length, name_of}
use Rattle.name.proofs.Ranges.{as_true}
use Rattle.name.proofs.Written.{short}
use Rattle.name.proofs.OneSpelling.{name_valid}
use Rattle.line.specs.Line.{shown_name}

-- a name that was read has a name's length
pub valid : (s t : List ℕ) → name_of s ≡ text t → is_length (length t) ≡ true
valid s t e = as_true (is_length (length t)) (name_valid s t e).1

pub shown_short : (s : List ℕ) → length (shown_name (name_of s)) ≤ 120
shown_short s = go (name_of s) refl
  where
    go : (x : Text) → name_of s ≡ x → length (shown_name x) ≤ 120
    go (refused n) e = omega arith
    go (text t) e = short t (valid s t e)
