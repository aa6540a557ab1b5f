-- The hash of a name byte by byte. Assumes nothing.
use mathlib.Core.List.{List}
use mathlib.Core.Path.{◌≡◌}
use Prim.Native.Nat.{ℕ, ◌+◌, ◌*◌, ◌%◌, ◌≤◌, ◌<◌}
use native.Mathlib.Numerals.{add-one}
use lib.ListN.{length, get_or, drop, drop_of_length-le}
use lib.Seq.{drop-cons}
use Rattle.sheet_name.specs.Name.{hash_from}

-- the hash of what is left of a name, after one more byte
pub hash_next : (name : List ℕ) (h i : ℕ) → i < length name
    → hash_from h (drop i name) ≡ hash_from ((h + get_or name i 0) * 2654435769 % 4294967296) (drop (i + 1) name)
unfolding hash_from
hash_next name h i l = rw (add-one, drop-cons name i 0 l)

pub hash_ends : (name : List ℕ) (h i : ℕ) → length name ≤ i → hash_from h (drop i name) ≡ h
unfolding hash_from
hash_ends name h i l = rw (drop_of_length-le name l)
