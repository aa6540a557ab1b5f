-- Request 5: two sheets that differ only in remarks give equal answers, as a statement over specs/ alone.
use Rattle.std.specs.Prelude.{List, ◌≡◌, ℕ}
use Rattle.sheet_search.specs.Remarks.{DifferInRemarks}
use Rattle.sheet.specs.Sheet.{sheet_of, number_of}
use Rattle.air.specs.declared.Answer.{Answer}
use Rattle.air.specs.Choices.{Choices}
use Rattle.calculator.specs.FoundName.{found_name}
use Rattle.calculator.specs.Search.{IsSearch, search_by}

-- the check's number; and for every spelling the found name's bytes, what the search holds whatever the choices, and which answers are
-- allowed. The place of the name is left aside
pub record SameAnswers (s t : List ℕ) : Type 0 where
  pub number : number_of (sheet_of s) ≡ number_of (sheet_of t)
  pub name : (spelling : List ℕ) → found_name s spelling ≡ found_name t spelling
  pub search : (c : Choices) (spelling : List ℕ) → search_by c s spelling ≡ search_by c t spelling
  pub allowed : (spelling : List ℕ) (a : Answer) → IsSearch s spelling a → IsSearch t spelling a

abbrev pub RemarksAside : Type 0
RemarksAside = (s t : List ℕ) → DifferInRemarks s t → SameAnswers s t
