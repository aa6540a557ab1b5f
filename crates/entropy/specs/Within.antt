-- The entropy at a Y and a Z, joined in a strip, where Z is within its limit at every place.
use Rattle.std.specs.Prelude.{cond, Option, Some, None, ℤ}
use Rattle.bands.specs.declared.Strip.{Strip}
use Rattle.air.specs.Join.{joined, any_place}
use Rattle.air_entropy.specs.Entropy.{entropy_at, above_limit}

abbrev pub within_limit : Option Strip → ℤ → ℤ → Option ℤ
within_limit s y z = cond (any_place s (λ v. above_limit v z) y) None (Some (joined s (λ v. entropy_at v z) y))
