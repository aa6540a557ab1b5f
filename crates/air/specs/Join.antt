-- A join is a list of places: none, so that a property is taken at its own Y, or the two edges of a strip. One definition for every property.
use Rattle.std.specs.Prelude.{Bool, ◌||◌, Option, Some, None, ℤ, nat_abs, ◌-ℤ◌}
use Rattle.fraction.specs.Fraction.{Fraction, parts, plus, minus, times}
use Rattle.proportion.specs.Straight.{straight}
use Rattle.bands.specs.declared.Strip.{Strip}

-- the straight line over exact fractions
abbrev pub exact_straight : ℤ → ℤ → Fraction → Fraction → ℤ → Fraction
exact_straight a b low high y = plus low (times (minus high low) (parts (nat_abs (b -ℤ a)) (y -ℤ a)))

-- a property f of Y, joined in a strip
abbrev pub joined : Option Strip → (ℤ → ℤ) → ℤ → ℤ
joined None f y = f y
joined (Some s) f y = straight s.low s.high (f s.low) (f s.high) y

abbrev pub exact_joined : Option Strip → (ℤ → Fraction) → ℤ → Fraction
exact_joined None f y = f y
exact_joined (Some s) f y = exact_straight s.low s.high (f s.low) (f s.high) y

-- whether a condition applies at one of the places
abbrev pub any_place : Option Strip → (ℤ → Bool) → ℤ → Bool
any_place None t y = t y
any_place (Some s) t y = t s.low || t s.high
