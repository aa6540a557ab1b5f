-- `walk::begin` counts the records of an accepted sheet.
use mathlib.Core.Path.{sym}
use native.Mathlib.Omega.{arith}
use Rattle.sheet.proofs.Accept.{headed, accepted_head}
use Rattle.sheet.proofs.Counted.{accepted_few}
use Rattle.walk.proofs.begin.Goals as goal

pub number-requires-in-Ok : goal.number-requires-in-Ok
number-requires-in-Ok c = (omega arith, (headed c.args.sheet.now (accepted_head c.args.sheet.now (sym c.in-Ok.ensures))).least)

pub overflow_cast-result : goal.overflow_cast-result
overflow_cast-result c =
    let s = c.args.sheet.now in
    record { fits = omega (arith, c.number-in-Ok.ensures, accepted_few s (sym c.in-Ok.ensures), (headed s (accepted_head s (sym c.in-Ok.ensures))).most) }
