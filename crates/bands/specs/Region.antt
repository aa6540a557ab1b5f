-- What a temperature's Y and Z choose.
use Rattle.std.specs.Prelude.{Bool, cond, ◌||◌, List, [], ◌∷◌, ℕ, ◌+◌, ℤ, pos, neg_ℤ, length}
use Rattle.std.specs.Int.Signed.{le_z, lt_z}
use Rattle.bands.specs.declared.Band.{Band}
use Rattle.bands.specs.declared.Band.TheVariants.{Low, Middle, High}
use Rattle.bands.specs.declared.Region.{Region}
use Rattle.bands.specs.declared.Region.TheVariants.{Refused, Perfect, Fitted}
use Rattle.bands.specs.Bands.{band_of}
use Rattle.bands.specs.Units.{index_in}

-- document 01, Temperature: where a band's fitted pieces end, upper end included; what lies above the last end is one more piece
abbrev pub temperature_ends : Band → List ℤ
temperature_ends Low = pos 950000 ∷ pos 1400000 ∷ pos 1950000 ∷ []
temperature_ends Middle = pos 950000 ∷ pos 1400000 ∷ pos 2000000 ∷ []
temperature_ends High = pos 950000 ∷ pos 1450000 ∷ []

abbrev pub piece_count : Band → ℕ
piece_count b = length (temperature_ends b) + 1

-- which piece a fitted Z falls to, from 0
abbrev pub temperature_index : Band → ℤ → ℕ
temperature_index b z = index_in (temperature_ends b) z

-- document 01, the refusal table: where a temperature's Z gets 12
abbrev pub beyond_window : ℤ → Bool
beyond_window z = lt_z z (neg_ℤ (pos 1000000)) || lt_z (pos 3000000) z

-- document 01, Temperature: in every band, up to this Z
abbrev pub is_perfect : ℤ → Bool
is_perfect z = le_z z (pos 250000)

-- refusal 12, the perfect gas, or the band and the index of the fitted piece
abbrev pub region_of : ℤ → ℤ → Region
region_of y z = cond (beyond_window z) Refused (cond (is_perfect z) Perfect (Fitted (band_of y) (temperature_index (band_of y) z)))
