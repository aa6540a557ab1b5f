-- What a number tells of its refusal: which it is, and that there is one.
use Rattle.std.specs.Prelude.{◌≡◌, ◌<◌}
use Rattle.refusal.specs.declared.Refusal.{Refusal}
use Rattle.refusal.specs.Numbered.{number_for}

-- no two refusals have one number
abbrev pub NumbersTell : Type 0
NumbersTell = (a b : Refusal) → number_for a ≡ number_for b → a ≡ b

-- no refusal has the number 0, which stands for none
abbrev pub NeverZero : Type 0
NeverZero = (r : Refusal) → 0 < number_for r
