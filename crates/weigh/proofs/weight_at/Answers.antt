-- `weigh::weight_at` meets its contract: the size of the weight fits, and each arm is the definition's.
use Rattle.std.proofs.Common.{◌≡◌, ◌≤◌, nat_abs, w64, pos, ◌+ℤ◌, ◌-ℤ◌, FitsSigned, to_z}
use native.Mathlib.Omega.{arith}
use mathlib.Core.Path.{refl, ap, ◌∙◌}
use mir.Facts.{to_z_pos}
use Rattle.weight.proofs.Either.{choice_most}
use Rattle.integer.proofs.Machine.{back, fits64}
use Rattle.weight.specs.Weight.{units}
use Rattle.weight.specs.Choice.{above_by, weight_by}
use Rattle.weigh.specs.Signs.{is_minus, sign_of}
use Rattle.weigh.proofs.Machine.{size_most, plus_below, plus_above, minus_below, minus_above_is}
use Rattle.weigh.proofs.weight_at.Goals as goal
use Rattle.weigh.proofs.weight_at.Goals.{After-above-size, Then-q-lt0, Then-q-lt0-2, In-Plus-2, In-Minus-2}

size_is : (c : After-above-size) → c.above-size.result ≡ above_by (is_minus c.args.sign) (nat_abs c.args.q)
size_is c = rw (c.unsigned_abs.ensures.value, back c.ranges.q) at c.above-size.ensures

most : (c : After-above-size) → c.above-size.result ≤ units
most c = rw (size_is c) (size_most c.args.sign c.args.q c.requires)

pub overflow_cast-size : goal.overflow_cast-size
overflow_cast-size c = record { sfits = omega (arith, most c) }

-- the size as the machine has it
plain : (c : After-above-size) → to_z w64 c.above-size.result ≡ pos (above_by (is_minus c.args.sign) (nat_abs c.args.q))
plain c = to_z_pos w64 (omega (arith, most c)) ∙ ap pos (size_is c)

-- ---- the arms
plus_neg : (c : Then-q-lt0) → pos units -ℤ to_z w64 c.above-size.result ≡ weight_by (sign_of c.args.sign) c.args.q
plus_neg c = rw (plain c.before.before, c.in-Plus.is) (plus_below c.args.q (rw (back c.ranges.q) at c.if-q-lt0.true))

plus_non : (c : In-Plus-2) → to_z w64 c.above-size.result ≡ weight_by (sign_of c.args.sign) c.args.q
plus_non c = rw (plain c.before.before.before, c.in-Plus.is) (plus_above c.args.q (rw (back c.ranges.q) at c.if-q-lt0.false))

minus_neg : (c : Then-q-lt0-2) → pos units +ℤ to_z w64 c.above-size.result ≡ weight_by (sign_of c.args.sign) c.args.q
minus_neg c = rw (plain c.before.before, c.in-Minus.is) (minus_below c.args.q (rw (back c.ranges.q) at c.if-q-lt0-2.true))

minus_non : (c : In-Minus-2) → pos 0 -ℤ to_z w64 c.above-size.result ≡ weight_by (sign_of c.args.sign) c.args.q
minus_non c = rw (plain c.before.before.before, c.in-Minus.is) (minus_above_is c.args.q (rw (back c.ranges.q) at c.if-q-lt0-2.false))

-- a weight fits
fits : (c : After-above-size) → FitsSigned w64 (weight_by (sign_of c.args.sign) c.args.q)
fits c = fits64 _ (omega (arith, choice_most (sign_of c.args.sign) c.args.q c.requires))

pub overflow_sub-result : goal.overflow_sub-result
overflow_sub-result c = rw (plus_neg c) (fits c.before.before)

pub returns-in-Plus : goal.returns-in-Plus
returns-in-Plus c = rw (plus_neg c, back (fits c.before.before)) refl

pub returns-in-Plus-2 : goal.returns-in-Plus-2
returns-in-Plus-2 c = plus_non c

pub overflow_add-result : goal.overflow_add-result
overflow_add-result c = rw (minus_neg c) (fits c.before.before)

pub returns-in-Minus : goal.returns-in-Minus
returns-in-Minus c = rw (minus_neg c, back (fits c.before.before)) refl

pub overflow_sub-result-in-Minus-2 : goal.overflow_sub-result-in-Minus-2
overflow_sub-result-in-Minus-2 c = rw (minus_non c) (fits c.before.before.before)

pub returns-in-Minus-2 : goal.returns-in-Minus-2
returns-in-Minus-2 c = rw (minus_non c, back (fits c.before.before.before)) refl
