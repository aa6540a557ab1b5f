-- How a listing begins, as the code tells it.
use Rattle.std.specs.Prelude.{List, ℕ, ◌≡◌, ◌<◌, Result, Ok, Err}
use Rattle.refusal.specs.declared.Refusal.{Refusal}
use Rattle.refusal.specs.Numbered.{number_for}
use Rattle.report_refusal.specs.declared.Begun.{Begun}
use Rattle.report_refusal.specs.declared.Begun.TheVariants.{Refused, Lines as Follow}

-- how many bytes were written: none where lines follow
abbrev pub begun_length : Result Begun Refusal → Result ℕ ℕ
begun_length (Ok (Refused n)) = Ok n
begun_length (Ok (Follow sheet)) = Ok 0
begun_length (Err r) = Err (number_for r)

-- the sheet whose lines follow is the one that was given; a refusal's line is not empty
abbrev pub Lines : List ℕ → Result Begun Refusal → Type 0
Lines s (Ok (Refused n)) = 0 < n
Lines s (Ok (Follow sheet)) = sheet ≡ s
Lines s (Err r) = Unit
