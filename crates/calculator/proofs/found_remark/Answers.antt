-- `calculator::found_remark` hands back the part of the sheet that holds the found record's remark.
use mathlib.Core.Path.{sym, ap, ◌∙◌, subst}
use Rattle.sheet_search.specs.Find.{Inside}
use Rattle.sheet_remark.specs.Remark.{remark_of}
use Rattle.calculator.proofs.Located.{locate_inside}
use Rattle.calculator.proofs.found_remark.Goals as goal

pub remark_of-requires : goal.remark_of-requires
remark_of-requires c =
    let g = c.args in
    subst (Inside g.sheet.now) (sym (c.by_number.ensures ∙ c.locate.ensures)) (locate_inside g.sheet.now g.spelled.now)

pub returns : goal.returns
returns c =
    let g = c.args in
    let e = c.remark_of.ensures in
    record { value = e.value ∙ ap (remark_of g.sheet.now) (c.by_number.ensures ∙ c.locate.ensures); remark_inside = e.remark_inside }
