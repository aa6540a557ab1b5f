-- The program's choice at one exponent of each transition, computed against the ideal weight for 128 terms, with no law in between. At 0.76 it is 1.11 units
-- below the ideal weight, of a minus transition at 2.25 1.04 units above it: within 2, but no smaller tolerance is kept. Assumes nothing.
use mathlib.Core.Path.{◌≡◌, refl}
use Prim.Native.Nat.{◌+◌, ◌*◌, ◌<◌}
use native.Mathlib.Omega.{arith}
use lib.Dec.{lit<, lit≤}
use lib.IntN.{pos, neg_ℤ}
use lib.Signed.{le_z_yes}
use Rattle.integer.specs.Z.{zs, ≤-of}
use Rattle.fraction.specs.Fraction.{Within, parts, times, whole}
use Rattle.weight.specs.Weight.{num, den, units, tolerance, ideal, excess, ideal_minus, IsWeight, IsMinusWeight}
use Rattle.weight.specs.Choice.{inverse, square, second, third, fourth, fifth, sixth, exponential, share, weight_above, weight_of, minus_share, minus_above, minus_of}

-- ---- at 0.76
pub plus_within_2 : Within tolerance (weight_of (pos 7600000000)) (times (whole (pos units)) (ideal 128 (parts units (pos 7600000000))))
unfolding num den ideal weight_of weight_above share inverse exponential square second third fourth fifth sixth
plus_within_2 = record { proper = record { some = lit< tt }; low = le_z_yes tt; high = le_z_yes tt }

plus_choice : weight_of (pos 7600000000) ≡ pos 3186462661
unfolding weight_of weight_above share inverse exponential square second third fourth fifth sixth
plus_choice = refl

plus_far : 3186462662 * (den units 128 + num units 7600000000 128) < units * den units 128
unfolding num den
plus_far = lit< tt

pub not_within_1 : IsWeight 1 (pos 7600000000) (weight_of (pos 7600000000)) → ⊥
unfolding ideal
not_within_1 h =
    let near = rw plus_choice at (h.near 128 (lit≤ tt)) in
    omega (arith, ≤-of (search zs) near.high, plus_far)

-- ---- of a minus transition, at 2.25
pub minus_within_2 : Within tolerance (minus_of (pos 22500000000)) (times (whole (pos units)) (ideal_minus 128 (parts units (pos 22500000000))))
unfolding num den ideal_minus minus_of minus_above minus_share inverse exponential square second third fourth fifth sixth
minus_within_2 = record { proper = record { some = lit< tt }; low = le_z_yes tt; high = le_z_yes tt }

minus_choice : minus_of (pos 22500000000) ≡ neg_ℤ (pos 1178170502)
unfolding minus_of minus_above minus_share inverse exponential square second third fourth fifth sixth
minus_choice = refl

minus_far : 1178170503 * excess units 22500000000 128 < units * den units 128
unfolding num den
minus_far = lit< tt

pub not_minus_within_1 : IsMinusWeight 1 (pos 22500000000) (minus_of (pos 22500000000)) → ⊥
unfolding ideal_minus
not_minus_within_1 h =
    let near = rw minus_choice at (h.near 128 (lit≤ tt)) in
    omega (arith, ≤-of (search zs) near.low, minus_far)
