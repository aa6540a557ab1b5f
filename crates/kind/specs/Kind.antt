-- What a record asks for, by its kind byte. The one place that lists the kinds: a sheet's refusal 6 and a state's rest on it.
use Rattle.std.specs.Prelude.{Bool, true, false, cond, ◌≡◌, ℕ, eqb, Option, Some, None, Result, Ok, Err}
use Rattle.refusal.specs.declared.Refusal.{Refusal}
use Rattle.refusal.specs.declared.Refusal.TheVariants.{UnknownKind}
use Rattle.kind.specs.declared.Kind.{Kind}
use Rattle.kind.specs.declared.Kind.TheVariants.{Temperature, Entropy, Pressure}

-- document 01, state sheet: 1 is pressure and density, 2 is energy and density; document 02, request 3: 3 is energy and density, pressure wanted
abbrev pub kind_of : ℕ → Option Kind
kind_of b = cond (eqb b 1) (Some Temperature) (cond (eqb b 2) (Some Entropy) (cond (eqb b 3) (Some Pressure) None))

abbrev pub is_known : Option Kind → Bool
is_known None = false
is_known (Some k) = true

-- a byte's kind, or refusal 6
abbrev pub named : Option Kind → Result Kind Refusal
named None = Err UnknownKind
named (Some k) = Ok k

abbrev pub Names : ℕ → Result Kind Refusal → Type 0
Names byte r = r ≡ named (kind_of byte)
