-- `log10::mantissa` is the definition, whose tables it has.
use mathlib.Core.Path.{refl}
use Rattle.logarithm.specs.Choice.{factors, factor_logs, near_one, mantissa_of}
use Rattle.logarithm.proofs.Leading.{mantissa_is}
use Rattle.log10.proofs.mantissa.Goals as goal

pub returns : goal.returns
unfolding factors factor_logs near_one mantissa_of
returns c = rw (c.from-2.ensures, c.chord.ensures.0, c.from.ensures) (refl, (mantissa_is c.args.m c.requires.0 c.requires.1).most)
