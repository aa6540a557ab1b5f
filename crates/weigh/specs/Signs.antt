-- What a sign of the code says of a transition.
use Rattle.std.specs.Prelude.{Bool, true, false}
use Rattle.weigh.specs.declared.Sign.{Sign}
use Rattle.weigh.specs.declared.Sign.TheVariants.{Plus, Minus}
use Rattle.weight.specs.Weight as weight

abbrev pub is_minus : Sign → Bool
is_minus Plus = false
is_minus Minus = true

abbrev pub sign_of : Sign → weight.Sign
sign_of Plus = weight.one_plus
sign_of Minus = weight.one_minus
