-- Where a long product is worked out in 64 bits.
use Rattle.std.specs.Prelude.{ℕ, ◌≤◌}

-- document 02, request 3: the pressure's factors, for all densities and energies in range; g is gamma - 10^10
pub record Multiplies (d e g : ℕ) : Type 0 where
  pub density : d ≤ 129200000000000
  pub energy : e ≤ 1000000000000
  pub gamma : g ≤ 10000000000
