-- `airstate::eas_evaluate` refuses what no byte is.
use Rattle.std.specs.Prelude.{Option}
use mathlib.Core.Path.{◌≡◌, sym, ap, ◌∙◌}
use Prim.Native.Nat.{ℕ, ◌<◌}
use borrow.Author.Rules.{rules}
use Rattle.kind.specs.declared.Kind.{Kind}
use Rattle.kind.proofs.Byte.{no_kind}
use Rattle.air.specs.Choices.{chosen}
use Rattle.air.specs.Held.{refuses}
use Rattle.state.specs.State.{property_of, answer_by}
use Rattle.air.specs.Property.{held_by}
use Rattle.flat.specs.Flat.{flat}
use Rattle.c_laws.proofs.Allowed.{answer_made}
use Rattle.airstate.proofs.eas_evaluate.Goals as goal
use Rattle.airstate.proofs.eas_evaluate.Goals.{In-Err}

-- a number over 255 is no kind
no_answer : (k v w : ℕ) → 255 < k → refuses 6 ≡ answer_by chosen k v w
unfolding answer_by
no_answer k v w h = sym (ap (λ (x : Option Kind). held_by chosen (property_of x) v w) (no_kind k h))

no_byte : (c : In-Err) → 255 < c.args.kind
no_byte c = search rules

pub returns-in-Err-clause-value : goal.returns-in-Err-clause-value
returns-in-Err-clause-value c = c.flatten-in-Err.ensures ∙ ap (λ (n : ℕ). flat (refuses n)) (search rules) ∙ ap flat (no_answer c.args.kind c.args.first c.args.second (no_byte (goal.at.returns-in-Err-clause-value c).In-Err))

pub returns-in-Err-clause-flat_answer : goal.returns-in-Err-clause-flat_answer
returns-in-Err-clause-flat_answer c =
    answer_made _ _ _ _ (c.flatten-in-Err.ensures ∙ ap (λ (n : ℕ). flat (refuses n)) (search rules) ∙ ap flat (no_answer c.args.kind c.args.first c.args.second (no_byte (goal.at.returns-in-Err-clause-flat_answer c).In-Err)))
