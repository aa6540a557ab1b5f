-- `calculator::found_name` hands back the part of the sheet that holds the found name.
use mathlib.Core.Path.{sym, ap, ◌∙◌, subst}
use Rattle.sheet_search.specs.Find.{handed_back, Inside}
use Rattle.calculator.proofs.Located.{locate_inside}
use Rattle.calculator.proofs.found_name.Goals as goal

pub handed_back-requires : goal.handed_back-requires
handed_back-requires c =
    subst (Inside c.args.sheet.now) (sym (c.by_number.ensures ∙ c.locate.ensures)) (locate_inside c.args.sheet.now c.args.spelled.now)

pub returns : goal.returns
returns c = c.handed_back.ensures ∙ ap (handed_back c.args.sheet.now) (c.by_number.ensures ∙ c.locate.ensures)
