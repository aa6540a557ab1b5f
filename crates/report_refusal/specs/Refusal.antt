-- Document 01, Listing program: what a refused sheet or list gives in place of lines.
use Rattle.std.specs.Prelude.{cond, List, [], ◌∷◌, ◌++◌, ℕ, ltb, eqb, length}
use Rattle.sheet.specs.Sheet.{sheet_of, number_of}
use Rattle.line.specs.Line.{refusal_rest}

-- the words `sheet` and `list`
abbrev pub sheet_word : List ℕ
sheet_word = 115 ∷ 104 ∷ 101 ∷ 101 ∷ 116 ∷ []

abbrev pub list_word : List ℕ
list_word = 108 ∷ 105 ∷ 115 ∷ 116 ∷ []

-- a refused sheet gives its line alone, then a list over 65,536 bytes gives its own; `number` is 0 for an accepted sheet
abbrev pub listing_for : ℕ → List ℕ → List ℕ → List ℕ
listing_for number input lines =
    cond (eqb number 0) (cond (ltb 65536 (length input)) (list_word ++ refusal_rest 15) lines) (sheet_word ++ refusal_rest number)

-- the line of a refused sheet or list; nothing where neither is refused
unfoldable pub refusal_of : List ℕ → List ℕ → List ℕ
refusal_of sheet input = listing_for (number_of (sheet_of sheet)) input []
