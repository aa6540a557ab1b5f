-- Document 01, Listing program: a number in decimal.
use Rattle.std.specs.Prelude.{cond, List, [], ◌∷◌, ◌++◌, ℕ, zero, suc, ◌+◌, ◌/◌, ◌%◌, ltb, ℤ, pos, negsuc}

-- the digits of n, high one first, where it has at most k
unfoldable pub digits : ℕ → ℕ → List ℕ
digits zero n = []
digits (suc k) n = cond (ltb n 10) ((48 + n) ∷ []) (digits k (n / 10) ++ ((48 + n % 10) ∷ []))

-- a number that is not negative; it has at most one digit more than its own size
unfoldable pub natural : ℕ → List ℕ
natural n = digits (suc n) n

-- a whole number, with - before a negative one
unfoldable pub whole : ℤ → List ℕ
whole (pos n) = natural n
whole (negsuc n) = 45 ∷ natural (suc n)
