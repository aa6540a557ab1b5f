-- `pressure::unjoined`: 17 by a warning, 17 by gamma, or the pressure.
use mathlib.Core.Bool.{false}
use mathlib.Core.Path.{◌≡◌, ap, ◌∙◌}
use Prim.Native.Nat.{ℕ}
use Rattle.std.proofs.Common.{rules}
use Rattle.integer.proofs.Machine.{back, back_ok}
use Rattle.air.specs.declared.Edges.TheVariants.{Unfitted, One}
use Rattle.air.specs.Held.{judges}
use Rattle.air.specs.Choices.{chosen}
use Rattle.air.specs.Places.{edge_by}
use Rattle.air_pressure.specs.Pressure.{letter_p, gamma_at, is_warned, beyond_gamma}
use Rattle.pressure.proofs.Laws.{own_ready, values_ready, warned_is, beyond_is, shown_is}
use Rattle.pressure.proofs.unjoined.Goals as goal

pub returns-then-is_warned : goal.returns-then-is_warned
returns-then-is_warned c = ap (λ (n : ℕ). judges n letter_p c.args.logs Unfitted) (search rules) ∙ warned_is c.requires (search rules)

pub gamma_at-edge-requires : goal.gamma_at-edge-requires
gamma_at-edge-requires c =
    let l = c.args.logs in
    let clear : is_warned l.y l.z ≡ false = search rules in
    rw (back {z = l.y} (search rules), back {z = l.z} (search rules)) (own_ready c.requires, clear)

pub returns-then-is_beyond : goal.returns-then-is_beyond
returns-then-is_beyond c =
    let l = c.args.logs in
    let x = c.gamma_at-edge.result in
    let own : x ≡ edge_by chosen (gamma_at l.y l.z) l.y l.z = search rules in
    ap (λ (n : ℕ). judges n letter_p l (One x)) (search rules) ∙ beyond_is c.requires x (search rules) own (search rules)

pub pressure_of-requires : goal.pressure_of-requires
pressure_of-requires c =
    let x = c.gamma_at-edge.result in
    let stays : beyond_gamma x.fit ≡ false = search rules in
    rw (back {z = x.fit} (search rules)) (values_ready c.requires, stays)

pub returns : goal.returns
returns c =
    let l = c.args.logs in
    let x = c.gamma_at-edge.result in
    let own : x ≡ edge_by chosen (gamma_at l.y l.z) l.y l.z = search rules in
    rw (back_ok c.pressure_of.result c.pressure_of.type_inv) (shown_is c.requires x c.pressure_of.result (search rules) own (search rules) (search rules))
