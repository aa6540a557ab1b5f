-- Document 01, Listing program: the names on standard input, one a line.
use Rattle.std.specs.Prelude.{cond, List, [], ◌∷◌, ◌++◌, ◌≡◌, ℕ, ◌+◌, ◌-◌, ◌≤◌, eqb, length, drop}
use Rattle.octets.specs.Bytes.{part}

-- the names of the input, one a line; `before` is what the present line has so far. The last line needs no newline, and an
-- empty one counts only with it
unfoldable pub lines_from : List ℕ → List ℕ → List (List ℕ)
lines_from [] [] = []
lines_from (b ∷ bs) [] = (b ∷ bs) ∷ []
lines_from before (x ∷ xs) = cond (eqb x 10) (before ∷ lines_from [] xs) (lines_from (before ++ (x ∷ [])) xs)

abbrev pub lines_of : List ℕ → List (List ℕ)
lines_of input = lines_from [] input

-- the line that starts at a place ends before `end`, and the others start behind it
pub record FirstLine (list : List ℕ) (start end : ℕ) : Type 0 where
  pub from : start ≤ end
  pub inside : end ≤ length list
  pub first : lines_of (drop start list) ≡ part list start (end - start) ∷ lines_of (drop (end + 1) list)
