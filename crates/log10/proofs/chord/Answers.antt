-- `log10::chord` is the definition, whose tables it has.
use mathlib.Core.Path.{refl}
use Rattle.logarithm.specs.Choice.{points, rises, chord_of}
use Rattle.logarithm.proofs.Chords.{chord_is}
use Rattle.log10.proofs.chord.Goals as goal

pub returns : goal.returns
unfolding points rises chord_of
returns c = rw (c.from.ensures, c.from-2.ensures) (refl, (chord_is c.args.i c.args.r c.requires.0 c.requires.1).most)
