-- `mark::mark_of` is the mark of what the answer holds.
use mathlib.Core.Path.{◌≡◌, sym, ap, ◌∙◌, subst}
use borrow.Author.Rules.{rules}
use mir.Syntax.{w64}
use mir.Val.{to_z, of_z}
use Rattle.std.specs.Prelude.{Ok}
use Rattle.integer.proofs.Machine.{back, back_ok}
use Rattle.air.specs.declared.Answer.{Answer}
use Rattle.air.specs.Held.{held}
use Rattle.mark.specs.Mark.{shown_value, mark_of, CanDraw}
use Rattle.mark.proofs.mark_of.Goals as goal
use Rattle.mark.proofs.mark_of.Goals.{After-shown_value}

shown : (c : After-shown_value) → to_z w64 (of_z w64 c.shown_value.result) ≡ shown_value c.in-Shows.letter c.in-Shows.value
shown c =
    rw (back_ok c.shown_value.result c.shown_value.type_inv) (rw (back {z = c.in-Shows.value} (search rules)) at c.shown_value.ensures)

pub point_of-requires : goal.point_of-requires
point_of-requires c =
    rw (back {z = c.in-Shows.logs.y} (search rules), shown (goal.at.point_of-requires c).After-shown_value)
    (subst (λ (x : Answer). CanDraw (held x)) c.in-Shows.is c.requires)

pub returns-in-Refused : goal.returns-in-Refused
unfolding mark_of
returns-in-Refused c = sym (ap (λ (a : Answer). mark_of (held a)) c.in-Refused.is)

pub returns-in-Judged : goal.returns-in-Judged
unfolding mark_of
returns-in-Judged c = sym (ap (λ (a : Answer). mark_of (held a)) c.in-Judged.is)

pub returns-in-Shows : goal.returns-in-Shows
unfolding mark_of
returns-in-Shows c =
    ap Ok (rw (back {z = c.in-Shows.logs.y} (search rules), shown (goal.at.returns-in-Shows c).After-shown_value) at c.point_of.ensures)
    ∙ sym (ap (λ (x : Answer). mark_of (held x)) c.in-Shows.is)
