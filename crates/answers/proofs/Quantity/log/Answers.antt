-- `answers::Quantity::log`: how large a logarithm is.
use mathlib.Core.Bool.{true}
use mathlib.Core.Path.{◌≡◌}
use native.Mathlib.Omega.{arith}
use Rattle.std.proofs.Common.{rules, tests}
use Rattle.integer.proofs.Machine.{back_ok}
use Rattle.logarithm.proofs.Ratios.{log_small}
use Rattle.air.specs.Quantities.{within}
use Rattle.air.proofs.Tests.{at_least}
use Rattle.answers.proofs.Quantity.log.Goals as goal

pub returns-clause-size : goal.returns-clause-size
returns-clause-size c =
    let q = c.args.self in
    let e = c.contains.ensures.value in
    let inside : within q.least q.most c.args.n ≡ true = search (rules, tests) in
    rw (back_ok c.log10_ratio.result c.log10_ratio.type_inv, c.log10_ratio.ensures.value)
    (log_small c.args.n q.standard (omega (arith, at_least q.least q.most c.args.n inside, c.requires.0)) c.ranges.n.fits)
