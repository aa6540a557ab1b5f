-- `airstate::eas_remark` meets its contract by its two calls.
use mathlib.Core.Path.{sym, ap, subst, ◌∙◌}
use Prim.Native.Nat.{◌+◌, ◌≤◌}
use lib.ListN.{length}
use Rattle.flat_parts.specs.declared.CPart.{CPart}
use Rattle.flat_parts.specs.Flat.{flat_remark}
use Rattle.flat_parts.proofs.FoundPart.{remark_part}
use Rattle.airstate.proofs.eas_remark.Goals as goal

pub returns : goal.returns
returns c =
    let s = c.args.sheet.now in
    let e = c.flatten_remark.ensures in
    let m = c.found_remark in
    record { value = e ∙ ap flat_remark m.ensures.value; length_in_bounds = subst (λ (p : CPart). p.start + p.length ≤ length s) (sym e) (remark_part s m.result m.ensures.remark_inside) }
