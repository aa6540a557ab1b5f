-- `airstate::eas_back` flattens what the way back gives; the room is as it leaves it.
use mathlib.Core.Path.{ap, ◌∙◌}
use Rattle.flat_parts.specs.Flat.{flat_text}
use Rattle.airstate.proofs.eas_back.Goals as goal

pub returns : goal.returns
returns c =
    record { value = c.text_for_c.ensures ∙ ap flat_text c.back.ensures.value; out_after = c.back.ensures.out_after }
