-- `pressure::pressure`: the logarithms are those of values in range.
use Rattle.answers.proofs.Verdicts.{energy_carried}
use Rattle.pressure.proofs.pressure.Goals as goal

pub pressure_from-requires : goal.pressure_from-requires
pressure_from-requires c =
    let r = energy_carried c.args.e c.args.d c.energy_logs.ensures c.in-Ok.is in
    record { energy = r.energy; density = r.density; taken = r.taken }
