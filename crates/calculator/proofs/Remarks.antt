-- Sheets with one page get the same answers; request 5: a search passes over remarks.
use mathlib.Core.List.{List}
use mathlib.Core.Path.{◌≡◌, sym, ap, ◌∙◌}
use Prim.Native.Nat.{ℕ}
use Rattle.sheet.specs.Sheet.{sheet_of}
use Rattle.sheet_search.proofs.Pages.{page_of, page_number, number_page}
use Rattle.sheet_search.proofs.Remarks.{remarks_page}
use Rattle.calculator.specs.Remarks.{SameAnswers, RemarksAside}
use Rattle.calculator.proofs.Replies.{same_name, same_search, same_allowed}

pub same_answers : (s t : List ℕ) → page_of s (sheet_of s) ≡ page_of t (sheet_of t) → SameAnswers s t
same_answers s t e =
    record {
      number = number_page s (sheet_of s) ∙ ap page_number e ∙ sym (number_page t (sheet_of t));
      name = λ spelling. same_name s t spelling e;
      search = λ c spelling. same_search s t spelling e c;
      allowed = λ spelling a h. same_allowed s t spelling e a h;
    }

pub remarks_aside : RemarksAside
remarks_aside s t d = same_answers s t (remarks_page s t d)
