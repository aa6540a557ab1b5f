-- What lawful choices make of a state is an answer that document 01 allows, and every answer that it allows for an accepted state meets demand 3's claims.
use mathlib.Core.Path.{◌≡◌}
use Rattle.std.specs.Prelude.{Option, Some, None}
use Prim.Native.Nat.{ℕ, ◌≤◌}
use Rattle.kind.specs.Kind.{kind_of}
use Rattle.kind.specs.declared.Kind.{Kind}
use Rattle.kind.specs.declared.Kind.TheVariants.{Temperature, Entropy, Pressure}
use Rattle.air.specs.declared.Answer.{Answer}
use Rattle.air.specs.Held.{held}
use Rattle.state.specs.State.{property_of, IsAnswer, Accepted, Accurate, answer_by}
use Rattle.air.specs.Choices.{Choices, Lawful}
use Rattle.air.proofs.Sound.{SoundAny, claim_any, held_any, no_refusal_any, accepted_any}
use Rattle.air_entropy.proofs.Sound.{entropy_sound}
use Rattle.air_pressure.proofs.Sound.{pressure_sound}
use Rattle.air_temperature.proofs.Sound.{temperature_sound}

-- a row a kind
sound : (k : Option Kind) → SoundAny (property_of k)
sound (Some Temperature) = temperature_sound
sound (Some Entropy) = entropy_sound
sound (Some Pressure) = pressure_sound
sound None = tt

-- an answer that holds what the choices make is allowed
pub allowed : (c : Choices) → Lawful c → (kind first second : ℕ) (a : Answer) → held a ≡ answer_by c kind first second → IsAnswer kind first second a
unfolding IsAnswer answer_by
allowed c law kind first second a e = rw e (held_any c law (property_of (kind_of kind)) (sound (kind_of kind)) first second)

-- an accepted state's answer is accurate, for every number of terms from 128 up
pub accurate : (n : ℕ) → 128 ≤ n → (kind first second : ℕ) (a : Answer) → Accepted kind first second a → IsAnswer kind first second a → Accurate n kind first second a
unfolding Accepted IsAnswer Accurate
accurate n m kind first second a ok it = claim_any n m (property_of (kind_of kind)) (sound (kind_of kind)) first second (held a) ok it

-- what is accurate for some number of terms is no refusal
pub no_refusal : (n kind first second : ℕ) (a : Answer) → Accurate n kind first second a → (held a).number ≡ 0
unfolding Accurate
no_refusal n kind first second a c = no_refusal_any n (property_of (kind_of kind)) (sound (kind_of kind)) first second (held a) c

-- an allowed answer with number 0 is accepted: demand 3 leaves out refused states alone, for every kind
pub not_refused_accepted : (kind first second : ℕ) (a : Answer) → IsAnswer kind first second a → (held a).number ≡ 0 → Accepted kind first second a
unfolding IsAnswer Accepted
not_refused_accepted kind first second a it zero = accepted_any (property_of (kind_of kind)) (sound (kind_of kind)) first second (held a) it zero
