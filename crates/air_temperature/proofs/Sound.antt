-- Temperature is sound: what `state` asks of a property.
use native.Mathlib.Omega.{arith}
use Rattle.air_temperature.specs.Property.{temperature_property}
use Rattle.air.proofs.Sound.{Sound}
use Rattle.air_temperature.proofs.Allowed.{is_temperature}
use Rattle.air_temperature.proofs.Claim.{temperature_claim, temperature_unrefused}

pub temperature_sound : Sound temperature_property
temperature_sound =
    record {
      allowed = is_temperature;
      claim = temperature_claim;
      no_refusal = λ n v w h c. c.no_refusal;
      unrefused = temperature_unrefused;
      second_number_lem = λ e. omega (arith, e);
    }
