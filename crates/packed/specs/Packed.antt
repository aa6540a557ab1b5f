-- Request 2: coefficients in less read-only memory. Of a block of numbers, memory holds words of 32 bits, signed, and a byte for each number to find it by.
use Rattle.std.specs.Prelude.{ℕ, ◌+◌, ◌*◌, ◌/◌, ◌%◌, ◌<◌, Bool, true, cond, ◌&&◌, List, [], ◌∷◌, ◌++◌, ◌≡◌, T, ltb, eqb, ℤ, pos, negsuc, ◌+ℤ◌, ◌-ℤ◌, ◌*ℤ◌, get_or, length, take}
use Rattle.std.specs.Int.Signed.{le_z, lt_z, shr_z}
use Rattle.quotient.specs.Range.{In, AllIn}

-- ---- what is read back
abbrev pub word_at : List ℤ → ℕ → ℤ
word_at words at = get_or words at (pos 0)

-- a byte is twice the place of its number's first word, and 1 more where the number is wide
abbrev pub place_of : ℕ → ℕ
place_of byte = byte / 2

abbrev pub is_wide : ℕ → Bool
is_wide byte = eqb (byte % 2) 1

-- the number that a byte finds: a narrow one is its word, a wide one has its lower word first and its upper word right behind
abbrev pub number_at : List ℤ → ℕ → ℤ
number_at words byte =
    cond (is_wide byte) (word_at words (place_of byte) +ℤ word_at words (place_of byte + 1) *ℤ pos 4294967296) (word_at words (place_of byte))

-- the numbers of a block, in the order of their bytes
unfoldable pub unpacked : List ℕ → List ℤ → List ℤ
unpacked [] words = []
unpacked (byte ∷ bytes) words = number_at words byte ∷ unpacked bytes words

-- ---- how numbers are packed: one word where 32 bits with a sign suffice, else two, in the order of the numbers
abbrev pub is_narrow : ℤ → Bool
is_narrow k = le_z (negsuc 2147483647) k && lt_z k (pos 2147483648)

-- a wide number is lower + upper * 2^32, its lower word from -2^31 to 2^31 - 1
abbrev pub upper_of : ℤ → ℤ
upper_of k = shr_z (k +ℤ pos 2147483648) 4294967296

abbrev pub lower_of : ℤ → ℤ
lower_of k = k -ℤ upper_of k *ℤ pos 4294967296

unfoldable pub words_of : List ℤ → List ℤ
words_of [] = []
words_of (k ∷ ks) = cond (is_narrow k) (k ∷ words_of ks) (lower_of k ∷ upper_of k ∷ words_of ks)

-- the bytes of numbers whose words start at a place
unfoldable pub bytes_from : ℕ → List ℤ → List ℕ
bytes_from place [] = []
bytes_from place (k ∷ ks) = cond (is_narrow k) ((2 * place) ∷ bytes_from (place + 1) ks) ((2 * place + 1) ∷ bytes_from (place + 2) ks)

-- ---- blocks: tests that compute at lists that are written out
-- every byte finds its words among the first n
abbrev pub all_found : ℕ → List ℕ → Bool
all_found n [] = true
all_found n (byte ∷ bytes) = ltb (place_of byte + byte % 2) n && all_found n bytes

-- bytes and words are the packing of n numbers, as above; words behind them, which no byte finds, fill an array up
pub record IsPacked (n : ℕ) (bytes : List ℕ) (words : List ℤ) : Type 0 where
  pub count : length bytes ≡ n
  pub found : T (all_found (length words) bytes)
  pub words_in : AllIn 31 words
  pub bytes_are : bytes ≡ bytes_from 0 (unpacked bytes words)
  pub words_are : take (length (words_of (unpacked bytes words))) words ≡ words_of (unpacked bytes words)

-- what the code asks to read the i-th number
pub record Reads (bytes : List ℕ) (words : List ℤ) (i : ℕ) : Type 0 where
  pub index : i < length bytes
  pub found : place_of (get_or bytes i 0) + get_or bytes i 0 % 2 < length words
  pub words_in : AllIn 31 words
  pub size : In 62 (number_at words (get_or bytes i 0))

-- ---- the law of the reader: whatever numbers are packed, and whatever stands behind them, they are read back
abbrev pub ReadsBack : Type 0
ReadsBack = (ks rest : List ℤ) → unpacked (bytes_from 0 ks) (words_of ks ++ rest) ≡ ks
