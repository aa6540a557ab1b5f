-- `airstate::eas_forward` flattens what the way forward gives; the room is as it leaves it.
use mathlib.Core.Path.{ap, ◌∙◌}
use Rattle.flat_parts.specs.Flat.{flat_text}
use Rattle.airstate.proofs.eas_forward.Goals as goal

pub returns : goal.returns
returns c =
    record { value = c.text_for_c.ensures ∙ ap flat_text c.forward.ensures.value; out_after = c.forward.ensures.out_after }
