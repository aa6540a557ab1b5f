-- `airstate::eas_next` takes a step, whose line is made of an answer that is allowed.
use Rattle.c_laws.proofs.Allowed.{step_made}
use Rattle.airstate.proofs.eas_next.Goals as goal

pub returns : goal.returns
returns c =
    let k = c.take_step in
    record { value = k.ensures.value; out_after = k.ensures.out_after; flat_step = step_made _ _ _ _ _ k.ensures.value k.ensures.out_after }
