-- Demand 1 of an answer: it has a value, or is refused by the number of a refusal.
use Rattle.std.proofs.Math.Option.{none}
use Rattle.std.specs.Prelude.{List, ◌≡◌, ℕ}
use Rattle.refusal.specs.declared.Refusal.{Refusal}
use Rattle.refusal.specs.Numbered.{number_for}
use Rattle.air.specs.declared.Answer.{Answer}
use Rattle.air.specs.Held.{Held, held}
use Rattle.state.specs.State.{IsAnswer}
use Rattle.calculator.specs.Search.{IsSearch}

abbrev pub ValueOrNamed : Held → Type 0
ValueOrNamed h = h.value ≡ none → (r : Refusal) × (number_for r ≡ h.number)

-- every answer that document 01 allows for a state, and for a search
abbrev pub StateNamed : Type 0
StateNamed = (kind first second : ℕ) (a : Answer) → IsAnswer kind first second a → ValueOrNamed (held a)

abbrev pub SearchNamed : Type 0
SearchNamed = (s spelling : List ℕ) (a : Answer) → IsSearch s spelling a → ValueOrNamed (held a)
