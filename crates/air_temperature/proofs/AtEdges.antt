-- What the choices make of temperatures at exact places: in a strip (request 1), in a transition, on both sides of refusal 13.
use mathlib.Core.Path.{◌≡◌, refl}
use mathlib.Core.Option.{some}
use Prim.Native.Nat.{ℕ}
use lib.Count.{count_leading_zeros}
use lib.IntN.{pos, neg_ℤ}
use Rattle.logarithm.specs.Choice.{factors, factor_logs, points, rises, chord_of, near_one, mantissa_of, lg_of, log_of}
use Rattle.power.specs.Choice.{coarse, middle, fine, stride_of, step_of, power_of}
use Rattle.weight.specs.Choice.{inverse, square, second, third, fourth, fifth, sixth, exponential, share, weight_above, weight_of}
use Rattle.quotient.specs.Mul.{mul}
use Rattle.bicubic.specs.Bicubic.{gas1, gas2, gas3, gas4, bicubic, exponent}
use Rattle.tgas1_temperature_low.specs.Pieces.{low_pieces}
use Rattle.tgas1_temperature_middle.specs.Pieces.{middle_pieces}
use Rattle.tgas1_temperature_high.specs.Pieces.{high_pieces}
use Rattle.perfect.specs.Perfect.{perfect_gas}
use Rattle.air.specs.declared.Edges.TheVariants.{Unfitted, One, Two}
use Rattle.std.specs.Prelude.{None}
use Rattle.air.specs.Held.{judges, shows, Held}
use Rattle.air.specs.Choices.{chosen}
use Rattle.air.specs.Places.{held_at}
use Rattle.air_temperature.specs.Temperature.{letter_t}
use Rattle.air_temperature.specs.Property.{temperature_by, temperature_property}
use Rattle.air.specs.Property.{held_by}
use Rattle.air.proofs.Pins.{edge, ends, logs}

abbrev pub made : ℕ → ℕ → Held
made p d = held_by chosen (some temperature_property) p d

pub record AtEdges : Type 0 where
  -- Y = -4,489,000
  pub wide_strip : made 13083925 4190468 ≡ shows letter_t (logs (neg_ℤ (pos 3889000)) (neg_ℤ (pos 4489000)) (pos 600000))
      (Two (edge (pos 5985381782) (pos 0)) (edge (pos 5989039273) (pos 0))) (ends (pos 1083775189) (pos 1084686422)) (pos 1084431276)
  -- Y = -497,800
  pub narrow_strip : made 64259603670 41064119365 ≡ shows letter_t (logs (neg_ℤ (pos 197800)) (neg_ℤ (pos 497800)) (pos 300000))
      (Two (edge (pos 2938503658) (pos 0)) (edge (pos 2958271028) (pos 0))) (ends (pos 537342515) (pos 539794188)) (pos 539107719)
  -- the fourth piece at the lower edge, the third at the upper
  pub two_numbers : made 292913267 4190468 ≡ shows letter_t (logs (neg_ℤ (pos 2538999)) (neg_ℤ (pos 4489000)) (pos 1950001))
      (Two (edge (pos 15406559242) (pos 67)) (edge (pos 15442605047) (pos 9999999991))) (ends (pos 9485412134) (pos 9564476497)) (pos 9542338475)
  -- Z = 250,000
  pub perfect : made 5379464 3857123 ≡ shows letter_t (logs (neg_ℤ (pos 4274999)) (neg_ℤ (pos 4524999)) (pos 250000)) Unfitted None (pos 485850704)
  -- 13 by the upper edge alone
  pub refused : made 1335789553 4085663 ≡ judges 13 letter_t (logs (neg_ℤ (pos 1880000)) (neg_ℤ (pos 4500000)) (pos 2620000))
      (Two (edge (pos 19244837698) (pos 10000000000)) (edge (pos 19747197991) (pos 10000000000)))
  -- half way through a transition, Z = 2.25
  pub hot : made 56982046482 408566274 ≡ shows letter_t (logs (neg_ℤ (pos 250000)) (neg_ℤ (pos 2500000)) (pos 2250000))
      (One (edge (pos 17363860526) (pos 5000934376))) None (pos 14886314992)
  -- 13: a G of 1.96, and one unit more
  pub most : made 2783918722048 10421279801 ≡ shows letter_t (logs (pos 1438919) (neg_ℤ (pos 1093341)) (pos 2532260))
      (One (edge (pos 19600000000) (pos 10000000000))) None (pos 24911576045)
  pub past_most : made 6873003460608 27091962097 ≡ judges 13 letter_t (logs (pos 1831409) (neg_ℤ (pos 678422)) (pos 2509831))
      (One (edge (pos 19600000001) (pos 10000000000)))

pub at_edges : AtEdges
unfolding temperature_by held_at log_of lg_of mantissa_of near_one chord_of factors factor_logs points rises count_leading_zeros bicubic gas1 gas2 gas3 gas4 exponent mul low_pieces middle_pieces high_pieces weight_of weight_above share exponential inverse square second third fourth fifth sixth power_of step_of stride_of coarse middle fine perfect_gas
at_edges = record { wide_strip = refl; narrow_strip = refl; two_numbers = refl; perfect = refl; refused = refl; hot = refl; most = refl; past_most = refl }
