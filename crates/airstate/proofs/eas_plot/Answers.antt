-- `airstate::eas_plot` flattens the mark of what the search holds.
use mathlib.Core.Path.{sym, ap, ◌∙◌, subst}
use Rattle.mark.specs.Mark.{mark_of, CanDraw}
use Rattle.flat_parts.specs.Flat.{flat_mark}
use Rattle.c_laws.proofs.Plot.{search_shown}
use Rattle.c_laws.proofs.Allowed.{mark_made}
use Rattle.airstate.proofs.eas_plot.Goals as goal

pub mark_of-requires : goal.mark_of-requires
mark_of-requires c = subst CanDraw (sym c.search.ensures.result_value) (search_shown _ _)

pub returns : goal.returns
returns c =
    let e = c.flatten_mark.ensures ∙ ap flat_mark (c.mark_of.ensures ∙ ap mark_of c.search.ensures.result_value) in
    record { value = e; flat_mark = mark_made _ _ _ e }
