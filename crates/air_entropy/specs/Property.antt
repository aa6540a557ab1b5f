-- Entropy as a property.
use Rattle.std.specs.Prelude.{false}
use Rattle.air.specs.Quantities.{is_density, is_energy}
use Rattle.air_entropy.specs.Entropy.{IsEntropy, beyond_entropy, entropy_from}
use Rattle.air_entropy.specs.Claim.{EntropyClaim}
use Rattle.air.specs.Property.{Property}
use Rattle.air.specs.Carried.{energy_logs}

abbrev pub entropy_property : Property
entropy_property =
    record {
      is_first = is_energy;
      is_second = is_density;
      second_number = 11;
      by_logs = beyond_entropy;
      by_fit = λ e. false;
      Is = λ e d h. IsEntropy e d h;
      make = λ c e d. entropy_from (energy_logs c e d);
      Claim = λ n e d h. EntropyClaim e d h;
    }
