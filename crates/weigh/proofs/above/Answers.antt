-- `weigh::above` meets its contract: what its callees ensure is the definition, in the case that the tests choose.
use mathlib.Core.Bool.{Bool, true, false}
use mathlib.Core.Path.{◌≡◌, refl, sym, ap₂, ◌∙◌, subst}
use Prim.Native.Nat.{ℕ, ◌+◌, ◌*◌, ◌/◌, ◌%◌, ◌≤◌}
use native.Mathlib.Nat.{mod-lt}
use native.Mathlib.Omega.{arith}
use lib.Dec.{lit<}
use borrow.Author.Tests.{lt-ltb, le-ltb}
use Rattle.weight.specs.Choice.{scale, share, minus_share, weight_above, minus_above, above_by, FarEnough}
use Rattle.weight.proofs.Exponential.{exponential_ge, exponential_le}
use Rattle.weight.proofs.Sizes.{inverse_le}
use Rattle.weight.proofs.Minus.{inverse_small}
use Rattle.weigh.specs.declared.Sign.{Sign}
use Rattle.weigh.specs.Signs.{is_minus}
use Rattle.weigh.proofs.above.Goals as goal
use Rattle.weigh.proofs.above.Goals.{After-exponential_of-v, In-Minus}

-- from 24 on both are 0
zero_from : (m : Bool) (u : ℕ) → 240000000000 ≤ u → 0 ≡ above_by m u
unfolding weight_above minus_above
zero_from false u h = rw (le-ltb u 240000000000 h) refl
zero_from true u h = rw (le-ltb u 240000000000 h) refl

pub returns-then-u-ge240000000000 : goal.returns-then-u-ge240000000000
returns-then-u-ge240000000000 c = zero_from (is_minus c.args.sign) c.args.u (omega arith)

sizes : (c : After-exponential_of-v) → (c.inverse_at-c.result ≤ scale + 1) × (scale ≤ c.exponential_of-v.result) × (c.exponential_of-v.result ≤ 2 * scale)
sizes c =
    let u = c.args.u in
    omega (
      arith,
      inverse_le (u / 625000000) (omega arith),
      exponential_ge (u % 625000000) (mod-lt u (lit< tt)),
      exponential_le (u % 625000000) (mod-lt u (lit< tt)),
    )

-- ---- a minus transition: from 1.9 on c is at most half of scale, and so v - c at least half
half : (c : In-Minus) → 2 * c.inverse_at-c.result ≤ scale
half c =
    let u = c.args.u in
    let far : 19000000000 ≤ u = subst (λ (s : Sign). FarEnough (is_minus s) u) c.in-Minus.is c.requires in
    omega (arith, inverse_small (u / 625000000) (omega arith) (omega arith))

pub overflow_sub-v : goal.overflow_sub-v
overflow_sub-v c = omega (arith, sizes c.before, half c)

pub portion_of-requires-in-Minus : goal.portion_of-requires-in-Minus
portion_of-requires-in-Minus c = omega (arith, sizes c.before, half c)

pub returns-in-Minus : goal.returns-in-Minus
unfolding minus_above minus_share
returns-in-Minus c =
    let u = c.args.u in
    subst (λ (s : Sign). c.portion_of-in-Minus.result ≡ above_by (is_minus s) u) (sym c.in-Minus.is)
    (rw (lt-ltb u 240000000000 (omega arith)) (c.portion_of-in-Minus.ensures ∙ ap₂ minus_share c.inverse_at-c.ensures c.exponential_of-v.ensures))

-- ---- a plus transition
pub overflow_add-c : goal.overflow_add-c
overflow_add-c c = omega (arith, sizes c.before)

pub portion_of-requires : goal.portion_of-requires
portion_of-requires c = omega (arith, sizes c.before)

pub returns-in-Plus : goal.returns-in-Plus
unfolding weight_above share
returns-in-Plus c =
    let u = c.args.u in
    subst (λ (s : Sign). c.portion_of.result ≡ above_by (is_minus s) u) (sym c.in-Plus.is)
    (rw (lt-ltb u 240000000000 (omega arith)) (c.portion_of.ensures ∙ ap₂ share c.inverse_at-c.ensures c.exponential_of-v.ensures))
