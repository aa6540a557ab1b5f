-- `airstate::eas_list` flattens what the listing gives; the room is as the listing leaves it.
use mathlib.Core.Path.{ap, ◌∙◌}
use Rattle.flat_parts.specs.Flat.{flat_text}
use Rattle.c_laws.proofs.Allowed.{listing_made}
use Rattle.airstate.proofs.eas_list.Goals as goal

pub returns : goal.returns
returns c =
    let e = c.text_for_c.ensures ∙ ap flat_text c.listing.ensures.value in
    record { value = e; out_after = c.listing.ensures.out_after; flat_listing = listing_made _ _ _ _ _ e c.listing.ensures.out_after }
