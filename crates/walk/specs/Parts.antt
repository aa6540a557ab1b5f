-- The parts of a step, as the code has them.
use Rattle.std.specs.Prelude.{true, List, ◌≡◌, ℕ, zero, suc, ◌+◌, ◌≤◌, length, Ok, Err, Result}
use Rattle.name.specs.Name.{is_length}
use Rattle.sheet_record.specs.declared.Record.{Record}
use Rattle.walk.specs.declared.Walk.{Walk}
use Rattle.walk.specs.declared.Step.{Step}

-- a record's name lies in the sheet, and is as long as a name may be
pub record Named (s : List ℕ) (r : Record) : Type 0 where
  pub inside : r.start + r.len ≤ length s
  pub sized : is_length r.len ≡ true

-- a step by what became of a line: one more is given where there is one
abbrev pub advanced : Walk → Result ℕ ℕ → Step
advanced w (Err k) = record { number = k; length = 0; walk = w }
advanced w (Ok zero) = record { number = 0; length = 0; walk = w }
advanced w (Ok (suc n)) = record { number = 0; length = suc n; walk = record { given = w.given + 1; count = w.count } }
