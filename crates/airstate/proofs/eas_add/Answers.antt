-- `airstate::eas_add` flattens what an add gives; the room is as it leaves it.
use mathlib.Core.Path.{ap, ◌∙◌}
use Rattle.flat_parts.specs.Flat.{flat_text}
use Rattle.airstate.proofs.eas_add.Goals as goal

pub returns : goal.returns
returns c =
    record { value = c.text_for_c.ensures ∙ ap flat_text c.add.ensures.value; out_after = c.add.ensures.out_after }
