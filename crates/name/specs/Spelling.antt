-- Document 01, Names: the spelling of bytes by RFC 3986, written and read.
use Rattle.std.specs.Prelude.{Bool, cond, Option, Some, None, ◌&&◌, ◌||◌, List, [], ◌∷◌, ◌++◌, ℕ, ◌+◌, ◌-◌, ◌*◌, ◌/◌, ◌%◌, ltb, leb, eqb}

-- whether x is at least the first number and at most the second
abbrev pub within : ℕ → ℕ → ℕ → Bool
within least most x = leb least x && leb x most

-- document 01, Names: a byte that stands for itself, which is a letter, a digit or one of - . _ ~
unfoldable pub unreserved : ℕ → Bool
unreserved x = within 65 90 x || (within 97 122 x || (within 48 57 x || (eqb x 45 || (eqb x 46 || (eqb x 95 || eqb x 126)))))

-- the value of a hexadecimal digit of either case; 16 for any other byte
unfoldable pub hex_value : ℕ → ℕ
hex_value x = cond (within 48 57 x) (x - 48) (cond (within 65 70 x) (x - 55) (cond (within 97 102 x) (x - 87) 16))

abbrev pub is_hex : ℕ → Bool
is_hex x = ltb (hex_value x) 16

-- the value of a byte that is a hexadecimal digit
abbrev pub digit_of : ℕ → Option ℕ
digit_of x = cond (is_hex x) (Some (hex_value x)) None

-- a hexadecimal digit, upper case
abbrev pub hex_digit : ℕ → ℕ
hex_digit n = cond (ltb n 10) (48 + n) (55 + n)

-- a byte of a name, written: itself, or % and two digits
unfoldable pub spelled_byte : ℕ → List ℕ
spelled_byte b = cond (unreserved b) (b ∷ []) (37 ∷ hex_digit (b / 16) ∷ hex_digit (b % 16) ∷ [])

-- a name, written
unfoldable pub spelled : List ℕ → List ℕ
spelled [] = []
spelled (b ∷ bs) = spelled_byte b ++ spelled bs

-- what a spelling reads to: bytes, or nothing because a byte or a percent form is wrong
pub data Reading : Type 0 where
  wrong : Reading
  bytes : List ℕ → Reading

-- a byte, and after it what the rest reads to
abbrev pub push : ℕ → Reading → Reading
push b wrong = wrong
push b (bytes bs) = bytes (b ∷ bs)

-- whether three bytes are a percent form
abbrev pub is_form : ℕ → ℕ → ℕ → Bool
is_form x h l = eqb x 37 && (is_hex h && is_hex l)

-- document 01, Names: a byte that stands for itself is read as itself, a percent form as the byte that its digits give,
-- which is not read a second time; anything else is wrong
unfoldable pub reading : List ℕ → Reading
reading [] = bytes []
reading (x ∷ []) = cond (unreserved x) (bytes (x ∷ [])) wrong
reading (x ∷ (h ∷ [])) = cond (unreserved x) (push x (reading (h ∷ []))) wrong
reading (x ∷ (h ∷ (l ∷ r))) =
    cond (unreserved x) (push x (reading (h ∷ (l ∷ r)))) (cond (is_form x h l) (push (hex_value h * 16 + hex_value l) (reading r)) wrong)
