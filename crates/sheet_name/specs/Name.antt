-- The name of a record by the place of its length byte, and the chain of a name.
use Rattle.std.specs.Prelude.{List, [], ◌∷◌, ℕ, ◌+◌, ◌*◌, ◌/◌, ◌%◌, ◌≤◌, length, get_or}
use Rattle.octets.specs.Bytes.{part}

-- document 01, State sheet, a record: the name whose length byte stands at a place
abbrev pub name_at : List ℕ → ℕ → List ℕ
name_at s p = part s (p + 1) (get_or s p 0)

-- the length byte at a place and the name after it lie in the sheet
abbrev pub NameFits : List ℕ → ℕ → Type 0
NameFits s p = p + 1 + get_or s p 0 ≤ length s

-- each byte is added, and the sum multiplied by an odd number near 2^32 over the golden ratio, modulo 2^32
unfoldable pub hash_from : ℕ → List ℕ → ℕ
hash_from h [] = h
hash_from h (b ∷ bs) = hash_from ((h + b) * 2654435769 % 4294967296) bs

-- the chain of a name, one of 4,096: the high 12 of 32 bits
unfoldable pub hash_of : List ℕ → ℕ
hash_of name = hash_from 0 name / 1048576
