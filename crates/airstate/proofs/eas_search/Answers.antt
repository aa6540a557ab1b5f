-- `airstate::eas_search` meets its contract by its two calls.
use mathlib.Core.Path.{ap, ◌∙◌}
use Rattle.flat.specs.Flat.{flat}
use Rattle.c_laws.proofs.Allowed.{search_made}
use Rattle.airstate.proofs.eas_search.Goals as goal

pub returns : goal.returns
returns c =
    let e = c.flatten.ensures ∙ ap flat c.search.ensures.result_value in
    record { value = e; flat_search = search_made _ _ _ e }
