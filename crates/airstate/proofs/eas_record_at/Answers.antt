-- `airstate::eas_record_at` meets its contract by its two calls.
use mathlib.Core.Path.{sym, ap, subst, ◌∙◌}
use Prim.Native.Nat.{◌+◌, ◌≤◌}
use lib.ListN.{length}
use Rattle.sheet_walk.proofs.Pages.{numbered_inside}
use Rattle.flat_parts.specs.declared.CRecord.{CRecord}
use Rattle.flat_parts.specs.Flat.{flat_found}
use Rattle.flat_parts.proofs.FoundPart.{found_inside}
use Rattle.airstate.proofs.eas_record_at.Goals as goal

pub returns : goal.returns
returns c =
    let a = c.args in
    let s = a.sheet.now in
    let e = c.record_for_c.ensures ∙ ap flat_found c.record_at.ensures in
    record { value = e; length_in_bounds = subst (λ (p : CRecord). p.start + p.length ≤ length s) (sym e) (found_inside s _ (numbered_inside s a.i)) }
