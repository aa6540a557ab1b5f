-- Document 01, Temperature: the perfect gas.
use Rattle.std.specs.Prelude.{ℕ, ◌*◌, ◌/◌, ◌^◌, ◌≤◌, ◌<◌}

-- R, in units of 0.01 J/(kg K)
abbrev pub R : ℕ
R = 28706

-- pressure over R times density, in whole microkelvin, rounded down; p in micropascal, d in 10^-11 kg/m³
unfoldable pub perfect_gas : ℕ → ℕ → ℕ
perfect_gas p d = p * 10 ^ 13 / (R * d)

-- where the quotient is worked out in 64 bits: a density in range and a pressure ratio below ten times the density ratio
pub record Dividable (p d : ℕ) : Type 0 where
  pub some : 0 < d
  pub most : d ≤ 129200000000000
  pub ratio : p * 129200000000 < 10 * 101330000000 * d
