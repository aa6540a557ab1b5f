-- `airstate::eas_line` flattens what the line gives; the room is as the line leaves it.
use mathlib.Core.Path.{ap, ◌∙◌}
use Rattle.flat_parts.specs.Flat.{flat_text}
use Rattle.c_laws.proofs.Allowed.{line_made}
use Rattle.airstate.proofs.eas_line.Goals as goal

pub returns : goal.returns
returns c =
    let e = c.text_for_c.ensures ∙ ap flat_text c.line.ensures.value in
    record { value = e; out_after = c.line.ensures.out_after; flat_line = line_made _ _ _ _ _ e c.line.ensures.out_after }
