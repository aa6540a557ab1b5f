-- `append::add`: the first refusal of the state, else the sheet that grew.
use mathlib.Core.Path.{sym, ap}
use native.Mathlib.Omega.{arith}
use Rattle.std.proofs.Common.{rules}
use Rattle.std.specs.Prelude.{Ok}
use Rattle.append.proofs.Faults.{Known, state_fits, state_length, state_refused, state_taken}
use Rattle.append.proofs.add.Goals as goal
use Rattle.append.proofs.add.Goals.{After-check}

known : (c : After-check) → Known c.args.s.now c.args.spelled.now c.args.kind c.in_ok-name.name.items c.is_known.result c.has.result c.len.result
known c =
    record {
      accepted = sym c.in_ok-sheet.ensures.value;
      name_is = sym c.in_ok-name.ensures;
      known_is = c.is_known.ensures;
      there_is = rw (c.in_ok-sheet.ensures.sheet, c.deref.ensures.0) at c.has.ensures;
      len_is = c.len.ensures.value;
      short = omega (arith, c.len.ensures.fits);
    }

pub returns-in_err-check-clause-value : goal.returns-in_err-check-clause-value
returns-in_err-check-clause-value c =
    let x = known (goal.at.returns-in_err-check-clause-value c).After-check in
    rw (state_refused x c.args.first c.args.second _ c.in_err-check.field-0.0 c.in_err-check.ensures) (search rules)

pub returns-in_err-check-clause-out_after : goal.returns-in_err-check-clause-out_after
returns-in_err-check-clause-out_after c =
    let x = known (goal.at.returns-in_err-check-clause-out_after c).After-check in
    rw (state_refused x c.args.first c.args.second _ c.in_err-check.field-0.0 c.in_err-check.ensures) (search rules)

pub put_grown-requires : goal.put_grown-requires
put_grown-requires c =
    let x = known (goal.at.put_grown-requires c).After-check in
    rw c.deref-2.ensures.0 (state_fits x c.args.first c.args.second _ c.in_ok-check.ensures)

pub returns-clause-value : goal.returns-clause-value
returns-clause-value c =
    let x = known (goal.at.returns-clause-value c).After-check in
    rw (state_taken x c.args.first c.args.second _ c.in_ok-check.ensures) (ap Ok (state_length x c.args.first c.args.second _ c.in_ok-check.ensures))

pub returns-clause-out_after : goal.returns-clause-out_after
returns-clause-out_after c =
    let x = known (goal.at.returns-clause-out_after c).After-check in
    rw (state_taken x c.args.first c.args.second _ c.in_ok-check.ensures) (rw c.deref-2.ensures.0 at c.put_grown.ensures)
