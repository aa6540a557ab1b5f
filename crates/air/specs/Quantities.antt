-- Document 01, Quantities: units, ranges and standards.
use Rattle.std.specs.Prelude.{Bool, ◌&&◌, ℕ, ◌^◌, leb}

-- P0, in micropascal
abbrev pub P0 : ℕ
P0 = 101330000000

-- D0, in 10^-11 kg/m³
abbrev pub D0 : ℕ
D0 = 129200000000

-- E0, in mJ/kg
abbrev pub E0 : ℕ
E0 = 78408400

-- T0, in microkelvin
abbrev pub T0 : ℕ
T0 = 273150000

abbrev pub within : ℕ → ℕ → ℕ → Bool
within least most n = leb least n && leb n most

-- P, a pressure in micropascal
abbrev pub is_pressure : ℕ → Bool
is_pressure p = within 1 (10 ^ 17) p

-- D, a density in 10^-11 kg/m³
abbrev pub is_density : ℕ → Bool
is_density d = within 12920 129200000000000 d

-- E, an energy in mJ/kg
abbrev pub is_energy : ℕ → Bool
is_energy e = within 7840840 (10 ^ 12) e
