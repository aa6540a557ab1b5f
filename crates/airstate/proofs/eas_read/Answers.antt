-- `airstate::eas_read` flattens what reading gives; the room is as reading leaves it.
use mathlib.Core.Path.{ap, ◌∙◌}
use Rattle.flat_parts.specs.Flat.{flat_text}
use Rattle.airstate.proofs.eas_read.Goals as goal

pub returns : goal.returns
returns c =
    record { value = c.text_for_c.ensures ∙ ap flat_text c.read.ensures.value; out_after = c.read.ensures.out_after }
