-- `airstate::eas_find` meets its contract by its two calls.
use mathlib.Core.Path.{sym, ap, subst, ◌∙◌}
use Prim.Native.Nat.{◌+◌, ◌≤◌}
use lib.ListN.{length}
use Rattle.calculator.proofs.Located.{locate_inside}
use Rattle.flat_parts.specs.declared.CRecord.{CRecord}
use Rattle.flat_parts.specs.Flat.{flat_found}
use Rattle.flat_parts.proofs.FoundPart.{found_inside}
use Rattle.airstate.proofs.eas_find.Goals as goal

pub returns : goal.returns
returns c =
    let a = c.args in
    let s = a.sheet.now in
    let e = c.record_for_c.ensures ∙ ap flat_found c.locate.ensures in
    record { value = e; length_in_bounds = subst (λ (p : CRecord). p.start + p.length ≤ length s) (sym e) (found_inside s _ (locate_inside s a.spelled.now)) }
