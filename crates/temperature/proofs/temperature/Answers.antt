-- `temperature::temperature`: the logarithms are those of values in range.
use Rattle.answers.proofs.Verdicts.{pressure_carried}
use Rattle.temperature.proofs.temperature.Goals as goal

pub temperature_from-requires : goal.temperature_from-requires
temperature_from-requires c =
    let r = pressure_carried c.args.p c.args.d c.pressure_logs.ensures c.in-Ok.is in
    record { density = r.density; taken = r.taken }
