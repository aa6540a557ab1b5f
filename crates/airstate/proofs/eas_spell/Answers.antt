-- `airstate::eas_spell` flattens what spelling gives; the room is as spelling leaves it.
use mathlib.Core.Path.{ap, ◌∙◌}
use Rattle.flat_parts.specs.Flat.{flat_text}
use Rattle.airstate.proofs.eas_spell.Goals as goal

pub returns : goal.returns
returns c =
    record { value = c.text_for_c.ensures ∙ ap flat_text c.spell.ensures.value; out_after = c.spell.ensures.out_after }
