-- `entropy::entropy`: where the logarithms of values in range lie.
use Rattle.air.proofs.Ranges.{place_ready}
use Rattle.answers.proofs.Verdicts.{energy_carried}
use Rattle.entropy.proofs.entropy.Goals as goal

pub entropy_from-requires : goal.entropy_from-requires
entropy_from-requires c =
    let r = energy_carried c.args.e c.args.d c.energy_logs.ensures c.in-Ok.is in
    place_ready _ _ _ _ r.energy r.density r.taken.y r.taken.z
