-- `temperature::fitted`: outside the strips only the state's own place counts.
use mathlib.Core.Path.{◌≡◌, sym, ap, ◌∙◌}
use Rattle.std.proofs.Common.{rules}
use Rattle.std.specs.Prelude.{Option, None}
use Rattle.bands.specs.declared.Band.{Band}
use Rattle.bands.specs.declared.Strip.{Strip}
use Rattle.bands.specs.Bands.{strip_of}
use Rattle.bands.specs.Region.{temperature_index}
use Rattle.tgas1_temperature.specs.Pieces.{temperature_piece}
use Rattle.air.specs.Choices.{chosen}
use Rattle.air.specs.Places.{edge_by, point_of, point_by, fitted_by}
use Rattle.air.proofs.Places.{own_place}
use Rattle.air_temperature.specs.Temperature.{temperature_rule}
use Rattle.air_temperature.specs.Property.{kelvin_by}
use Rattle.temperature.proofs.fitted.Goals as goal

pub returns-in-None : goal.returns-in-None
returns-in-None c =
    let l = c.args.logs in
    let clear : strip_of l.y ≡ None = search rules in
    let edge : c.fit_in.result ≡ edge_by chosen (temperature_piece c.args.band (temperature_index c.args.band l.z)) l.y l.z = search rules in
    let own = edge ∙ ap (λ (b : Band). edge_by chosen (temperature_piece b (temperature_index b l.z)) l.y l.z) c.requires.band in
    c.unjoined.ensures
    ∙ own_place temperature_rule l (point_by chosen temperature_rule (kelvin_by chosen) l.z) (ap (point_of (kelvin_by chosen)) own)
    ∙ sym (ap (λ (x : Option Strip). fitted_by chosen temperature_rule (kelvin_by chosen) x l) clear)
