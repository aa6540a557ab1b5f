-- Request 3 at exact places: what the choices make of pressures, and the bounds of its refusals.
use mathlib.Core.Bool.{true, false, cond}
use mathlib.Core.Path.{◌≡◌, refl}
use mathlib.Core.Option.{some}
use Prim.Native.Nat.{ℕ}
use lib.Count.{count_leading_zeros}
use lib.Dec.{lit≤}
use lib.IntN.{ℤ, pos, neg_ℤ}
use lib.Signed.{lt_z}
use Rattle.fraction.specs.Fraction.{Within, whole}
use Rattle.fraction.proofs.Order.{within_more}
use Rattle.fraction.proofs.Pins.{reaches, reaches_no_further}
use Rattle.logarithm.specs.Choice.{factors, factor_logs, points, rises, chord_of, near_one, mantissa_of, lg_of, log_of}
use Rattle.weight.specs.Weight.{one_plus, one_minus}
use Rattle.weight.specs.Choice.{inverse, square, second, third, fourth, fifth, sixth, exponential, share, weight_above, weight_of, minus_share, minus_above, minus_of}
use Rattle.quotient.specs.Mul.{mul}
use Rattle.bicubic.specs.Bicubic.{gas1, gas2, gas3, gas4, bicubic, exponent}
use Rattle.fit.specs.Fit.{too_near}
use Rattle.tgas1_gamma_low.specs.Pieces.{low_pieces}
use Rattle.tgas1_gamma_middle.specs.Pieces.{middle_pieces}
use Rattle.tgas1_gamma_high.specs.Pieces.{high_pieces}
use Rattle.air.specs.declared.Edges.TheVariants.{Unfitted, One, Two}
use Rattle.std.specs.Prelude.{Some, None}
use Rattle.air.specs.Quantities.{D0, E0}
use Rattle.air.specs.Held.{judges, shows, Held}
use Rattle.air.specs.Choices.{chosen}
use Rattle.air.specs.Places.{Point, held_at}
use Rattle.air_pressure.specs.Pressure.{letter_p, beyond_gamma, pressure_of, pressure_rule}
use Rattle.air_pressure.specs.Claim.{gamma_distance}
use Rattle.air_pressure.specs.Property.{pressure_by, pressure_property}
use Rattle.air.specs.Property.{held_by}
use Rattle.air.proofs.Pins.{edge, ends, pair}

abbrev pub made : ℕ → ℕ → Held
made e d = held_by chosen (some pressure_property) e d

pub record PressureAt : Type 0 where
  -- the standards
  pub standard : made E0 D0 ≡ shows letter_p (pair (pos 0) (pos 0)) (One (edge (pos 13988000000) (pos 0))) None (pos 40399896736)
  -- the minus transition of label 100, with a weight below 0
  pub minus : made 784084000 1292000 ≡ shows letter_p (pair (neg_ℤ (pos 5000000)) (pos 1000000)) (One (edge (pos 13805617298) (neg_ℤ (pos 11516)))) None (pos 3855229)
  -- the kept exponent of label 230
  pub kept : made 31214946272 1292000000000 ≡ shows letter_p (pair (pos 1000000) (pos 2600000)) (One (edge (pos 11770788200) (pos 0))) None (pos 71415375610542)
  -- one gamma up to Z = 0.65
  pub constant : made 24794913 129200000000 ≡ shows letter_p (pair (pos 0) (neg_ℤ (pos 500000))) (One (edge (pos 13988000000) (pos 0))) None (pos 12775569005)
  -- Y = -4,489,000: a minus transition at the lower edge, a plus transition at the upper
  pub joined : made 1242689394 4190468 ≡ shows letter_p (pair (neg_ℤ (pos 4489000)) (pos 1200000))
      (Two (edge (pos 13551294749) (neg_ℤ (pos 1958698))) (edge (pos 13552535327) (pos 997504891))) (ends (pos 18493190) (pos 18499650)) (pos 18497841)
  -- 17 by the upper edge's band alone: the state's own would not warn
  pub warned : made 220984896228 3992662 ≡ judges 17 letter_p (pair (neg_ℤ (pos 4510000)) (pos 3450000)) Unfitted
  -- half way through a transition, Z = 1.855
  pub hot : made 5615165897 16265 ≡ shows letter_p (pair (neg_ℤ (pos 6900008)) (pos 1855000)) (One (edge (pos 11508813354) (pos 4675093955))) None (pos 137800)
  -- each band's limit and a millionth more: the low band's, whose last piece has no B, the middle's, the high's in label 230's transition
  pub at_low_limit : made 384027735806 324536 ≡ shows letter_p (pair (neg_ℤ (pos 5600000)) (pos 3690000)) (One (edge (pos 11095534678) (pos 0))) None (pos 136537391)
  pub past_low_limit : made 384028620063 324536 ≡ judges 17 letter_p (pair (neg_ℤ (pos 5600000)) (pos 3690001)) Unfitted
  pub at_middle_limit : made 196952996076 647533906 ≡ shows letter_p (pair (neg_ℤ (pos 2300000)) (pos 3400000)) (One (edge (pos 11653389658) (pos 9999845023))) None (pos 210862971470)
  pub past_middle_limit : made 196953449578 647533906 ≡ judges 17 letter_p (pair (neg_ℤ (pos 2300000)) (pos 3400001)) Unfitted
  pub at_limit : made 62282005960 1026272079264 ≡ shows letter_p (pair (pos 900000) (pos 2900000)) (One (edge (pos 11941373868) (pos 9327837462))) None (pos 124089285773835)
  pub past_limit : made 62282149369 1026272079264 ≡ judges 17 letter_p (pair (pos 900000) (pos 2900001)) Unfitted

pub pressure_at : PressureAt
unfolding pressure_by pressure_of held_at log_of lg_of mantissa_of near_one chord_of factors factor_logs points rises count_leading_zeros bicubic gas1 gas2 gas3 gas4 exponent mul low_pieces middle_pieces high_pieces weight_of weight_above share minus_of minus_above minus_share exponential inverse square second third fourth fifth sixth
pressure_at = record { standard = refl; minus = refl; kept = refl; constant = refl; joined = refl; warned = refl; hot = refl; at_low_limit = refl; past_low_limit = refl; at_middle_limit = refl; past_middle_limit = refl; at_limit = refl; past_limit = refl }

-- ---- the bounds: not above 1.01, 2 or more; less than 0.05 from zero, of a minus transition alone
pub record Bounds : Type 0 where
  pub at_least : beyond_gamma (pos 10100000000) ≡ true
  pub over_least : beyond_gamma (pos 10100000001) ≡ false
  pub under_most : beyond_gamma (pos 19999999999) ≡ false
  pub at_most : beyond_gamma (pos 20000000000) ≡ true
  pub near : too_near one_minus (neg_ℤ (pos 499999999)) ≡ true
  pub not_near : too_near one_minus (pos 500000000) ≡ false
  pub plus_never : too_near one_plus (pos 0) ≡ false

pub bounds : Bounds
bounds = record { at_least = refl; over_least = refl; under_most = refl; at_most = refl; near = refl; not_near = refl; plus_never = refl }

-- ---- 17 by gamma, which no state is known to reach: what is held, at points that are made up
abbrev pub point : ℤ → Point
point g = record { edge = edge g (pos 7); value = pos 0 }

pub record GammaJudged : Type 0 where
  pub own_two : held_at (pressure_rule E0 D0) None (pair (pos 0) (pos 0)) (λ v. point (pos 20000000000))
      ≡ judges 17 letter_p (pair (pos 0) (pos 0)) (One (edge (pos 20000000000) (pos 7)))
  pub own_least : held_at (pressure_rule E0 D0) None (pair (pos 0) (pos 0)) (λ v. point (pos 10100000000))
      ≡ judges 17 letter_p (pair (pos 0) (pos 0)) (One (edge (pos 10100000000) (pos 7)))
  pub upper_edge : held_at (pressure_rule E0 D0) (Some (record { low = neg_ℤ (pos 505000); high = neg_ℤ (pos 495000) })) (pair (neg_ℤ (pos 500000)) (pos 0))
      (λ v. cond (lt_z v (neg_ℤ (pos 500000))) (point (pos 13980000000)) (point (pos 20000000000)))
      ≡ judges 17 letter_p (pair (neg_ℤ (pos 500000)) (pos 0)) (Two (edge (pos 13980000000) (pos 7)) (edge (pos 20000000000) (pos 7)))

pub gamma_judged : GammaJudged
unfolding held_at low_pieces middle_pieces high_pieces
gamma_judged = record { own_two = refl; own_least = refl; upper_edge = refl }

-- ---- the distance: so many units from 0, and no further
pub gamma_reaches : Within gamma_distance (pos 100000) (whole (pos 0))
gamma_reaches = within_more (lit≤ tt) (reaches 100000)

pub gamma_reaches_no_further : Within gamma_distance (pos 100001) (whole (pos 0)) → ⊥
gamma_reaches_no_further = reaches_no_further 100000
