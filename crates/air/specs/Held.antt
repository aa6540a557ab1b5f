-- Document 01's number and values for each case of an answer. Every promise on an answer speaks of what it holds.
use Rattle.std.proofs.Math.Option.{Option, none, some}
use Rattle.std.specs.Prelude as rust
use Rattle.std.specs.Prelude.{ℕ, ℤ, None}
use Rattle.air.specs.declared.Logs.{Logs}
use Rattle.air.specs.declared.Edges.{Edges}
use Rattle.air.specs.declared.Edges.TheVariants.{Unfitted}
use Rattle.air.specs.declared.Ends.{Ends}
use Rattle.air.specs.declared.Answer.{Answer}
use Rattle.air.specs.declared.Answer.TheVariants.{Refused, Judged, Shows}

-- the refusal's number or 0, the letter or 0, and what else is held; `Option` is that of definitions, `rust.Option` that of code
pub record Held : Type 0 where
  pub number : ℕ
  pub letter : ℕ
  pub logs : Option Logs
  pub edges : Edges
  pub ends : rust.Option Ends
  pub value : Option ℤ

-- a refusal that holds its number alone
abbrev pub refuses : ℕ → Held
refuses n = record { number = n; letter = 0; logs = none; edges = Unfitted; ends = None; value = none }

-- a refusal that also holds what it was judged by: the logarithms, and where fits refuse them
abbrev pub judges : ℕ → ℕ → Logs → Edges → Held
judges n c l e = record { number = n; letter = c; logs = some l; edges = e; ends = None; value = none }

-- a value, with the logarithms and the fits behind it
abbrev pub shows : ℕ → Logs → Edges → rust.Option Ends → ℤ → Held
shows c l e s v = record { number = 0; letter = c; logs = some l; edges = e; ends = s; value = some v }

abbrev pub held : Answer → Held
held (Refused n) = refuses n
held (Judged c n l e) = judges n c l e
held (Shows c l e s v) = shows c l e s v
