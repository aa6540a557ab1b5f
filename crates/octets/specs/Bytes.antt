-- Bytes as lists of numbers: numbers written high byte first, parts, equality. Defined once for all crates.
use Rattle.std.specs.Prelude.{Bool, true, false, ◌&&◌, List, [], ◌∷◌, ◌++◌, ℕ, zero, suc, ◌+◌, ◌*◌, ◌/◌, ◌%◌, ◌<◌, eqb, take, drop}

-- every element of a list is a byte
pub data Bytes : List ℕ → Type 0 where
  no_byte : Bytes []
  byte : {b : ℕ} {bs : List ℕ} → b < 256 → Bytes bs → Bytes (b ∷ bs)

-- the number that a prefix n and then these bytes write, high byte first
unfoldable pub after : ℕ → List ℕ → ℕ
after n [] = n
after n (b ∷ bs) = after (n * 256 + b) bs

-- the number in the k bytes of s from a place on
unfoldable pub number_at : ℕ → List ℕ → ℕ → ℕ
number_at k s at = after 0 (take k (drop at s))

-- the k lowest bytes of a number, high byte first
unfoldable pub bytes_of : ℕ → ℕ → List ℕ
bytes_of zero n = []
bytes_of (suc k) n = bytes_of k (n / 256) ++ (n % 256 ∷ [])

-- the n bytes of s that start at a place
abbrev pub part : List ℕ → ℕ → ℕ → List ℕ
part s start n = take n (drop start s)

-- whether two lists are the same
abbrev pub same : List ℕ → List ℕ → Bool
same [] [] = true
same [] (b ∷ bs) = false
same (x ∷ xs) [] = false
same (x ∷ xs) (b ∷ bs) = eqb x b && same xs bs
