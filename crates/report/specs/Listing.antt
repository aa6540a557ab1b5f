-- Document 01, Listing program: the whole output. `sheet` is what the file has, nothing where it cannot be opened.
use Rattle.std.specs.Prelude.{List, [], ◌∷◌, ◌++◌, ◌≡◌, ℕ}
use Rattle.air.specs.declared.Answer.{Answer}
use Rattle.air.specs.Held.{held}
use Rattle.air.specs.Choices.{Choices}
use Rattle.sheet.specs.Sheet.{sheet_of, number_of}
use Rattle.calculator.specs.Search.{IsSearch, search_by}
use Rattle.line.specs.Line.{line}
use Rattle.report_refusal.specs.Refusal.{listing_for}
use Rattle.name_list.specs.Lines.{lines_of}

-- what a program with these choices writes for spelled names, a line each
unfoldable pub lines_by : Choices → List ℕ → List (List ℕ) → List ℕ
lines_by c sheet [] = []
lines_by c sheet (n ∷ ns) = line n (search_by c sheet n) ++ lines_by c sheet ns

-- what a program with these choices writes
unfoldable pub listing_by : Choices → List ℕ → List ℕ → List ℕ
listing_by c sheet input = listing_for (number_of (sheet_of sheet)) input (lines_by c sheet (lines_of input))

-- lines of spelled names, each with an answer that document 01 allows for its search
pub data Lines (sheet : List ℕ) : List (List ℕ) → List ℕ → Type 0 where
  done : Lines sheet [] []
  next :
      {spelling : List ℕ} {rest : List (List ℕ)} {out : List ℕ} (a : Answer)
      → IsSearch sheet spelling a
      → Lines sheet rest out
      → Lines sheet (spelling ∷ rest) (line spelling (held a) ++ out)

-- an output that document 01 allows for a sheet and a list of names
pub record IsListing (sheet input out : List ℕ) : Type 0 where
  pub lines : List ℕ
  pub allowed : Lines sheet (lines_of input) lines
  pub is : out ≡ listing_for (number_of (sheet_of sheet)) input lines
