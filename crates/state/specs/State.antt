-- Document 01, table, state row: the answer for a kind and two values of any size. A kind is a row; a later kind adds one.
use Rattle.std.proofs.Math.Option.{Option, none, some}
use Rattle.std.specs.Prelude as rust
use Rattle.std.specs.Prelude.{ℕ, Some, None}
use Rattle.kind.specs.declared.Kind.{Kind}
use Rattle.kind.specs.declared.Kind.TheVariants.{Temperature, Entropy, Pressure}
use Rattle.kind.specs.Kind.{kind_of}
use Rattle.air.specs.declared.Answer.{Answer}
use Rattle.air.specs.Held.{Held, held}
use Rattle.air.specs.Choices.{Choices}
use Rattle.air.specs.Property.{AcceptedAny, ClaimAny, IsHeld, Property, held_by}
use Rattle.air_entropy.specs.Property.{entropy_property}
use Rattle.air_pressure.specs.Property.{pressure_property}
use Rattle.air_temperature.specs.Property.{temperature_property}

abbrev pub property_of : rust.Option Kind → Option Property
property_of (Some Temperature) = some temperature_property
property_of (Some Entropy) = some entropy_property
property_of (Some Pressure) = some pressure_property
property_of None = none

-- an answer that document 01 allows for a state
unfoldable pub IsAnswer : ℕ → ℕ → ℕ → Answer → Type 0
IsAnswer kind first second a = IsHeld (property_of (kind_of kind)) first second (held a)

-- what a program with these choices holds
unfoldable pub answer_by : Choices → ℕ → ℕ → ℕ → Held
answer_by c kind first second = held_by c (property_of (kind_of kind)) first second

-- accepted states: no condition of the state row applies, 12, 13 and 17 judged by what the answer holds
unfoldable pub Accepted : ℕ → ℕ → ℕ → Answer → Type 0
Accepted kind first second a = AcceptedAny (property_of (kind_of kind)) first second (held a)

-- demand 3 on an answer
unfoldable pub Accurate : ℕ → ℕ → ℕ → ℕ → Answer → Type 0
Accurate n kind first second a = ClaimAny n (property_of (kind_of kind)) first second (held a)
