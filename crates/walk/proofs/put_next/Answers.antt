-- `walk::put_next` puts the line of the record that comes next.
use mathlib.Core.List.{[]}
use mathlib.Core.Path.{refl, sym}
use native.Mathlib.Omega.{arith}
use lib.ListN.{length}
use Rattle.octets.proofs.Told.{fits}
use Rattle.air.specs.Choices.{chosen}
use Rattle.sheet_walk.proofs.Pages.{numbered_fit}
use Rattle.walk.proofs.Steps.{fit_named, own_room, step_over, step_at}
use Rattle.walk.proofs.put_next.Goals as goal

pub returns-then-walk-clause-value : goal.returns-then-walk-clause-value
returns-then-walk-clause-value c =
    rw (step_over chosen c.args.sheet.now c.args.walk (length c.args.out.now) (sym c.in_ok-indexed.ensures.value) (omega (arith, c.if-walk.true))) refl

pub returns-then-walk-clause-out_after : goal.returns-then-walk-clause-out_after
returns-then-walk-clause-out_after c =
    rw (step_over chosen c.args.sheet.now c.args.walk (length c.args.out.now) (sym c.in_ok-indexed.ensures.value) (omega (arith, c.if-walk.true))) refl

pub put_record-requires : goal.put_record-requires
put_record-requires c = fit_named _ _ (numbered_fit c.args.sheet.now c.args.walk.given (sym (rw (c.in-Ok.is, c.in_ok-indexed.ensures.sheet) at c.record_in.ensures)))

pub returns-in-Err-clause-value : goal.returns-in-Err-clause-value
returns-in-Err-clause-value c =
    rw (step_at chosen c.args.sheet.now c.args.walk (length c.args.out.now) (sym c.in_ok-indexed.ensures.value) (omega (arith, c.if-walk.false)) _ (rw (c.in-Err.is, c.in_ok-indexed.ensures.sheet) at c.record_in.ensures), fits (length c.args.out.now) [] (omega arith)) refl

pub returns-in-Err-clause-out_after : goal.returns-in-Err-clause-out_after
returns-in-Err-clause-out_after c =
    rw (step_at chosen c.args.sheet.now c.args.walk (length c.args.out.now) (sym c.in_ok-indexed.ensures.value) (omega (arith, c.if-walk.false)) _ (rw (c.in-Err.is, c.in_ok-indexed.ensures.sheet) at c.record_in.ensures), fits (length c.args.out.now) [] (omega arith)) refl

pub returns-in-Ok-clause-value : goal.returns-in-Ok-clause-value
returns-in-Ok-clause-value c =
    rw (step_at chosen c.args.sheet.now c.args.walk (length c.args.out.now) (sym c.in_ok-indexed.ensures.value) (omega (arith, c.if-walk.false)) _ (rw (c.in-Ok.is, c.in_ok-indexed.ensures.sheet) at c.record_in.ensures)) c.put_record.ensures.value

pub returns-in-Ok-clause-out_after : goal.returns-in-Ok-clause-out_after
returns-in-Ok-clause-out_after c =
    rw (step_at chosen c.args.sheet.now c.args.walk (length c.args.out.now) (sym c.in_ok-indexed.ensures.value) (omega (arith, c.if-walk.false)) _ (rw (c.in-Ok.is, c.in_ok-indexed.ensures.sheet) at c.record_in.ensures)) c.put_record.ensures.out_after

pub returns-in_err-indexed-clause-out_after : goal.returns-in_err-indexed-clause-out_after
returns-in_err-indexed-clause-out_after c =
    own_room chosen c.args.sheet.now c.args.walk (length c.args.out.now) c.in_err-indexed.field-0.0 c.args.out.now c.in_err-indexed.ensures.value
