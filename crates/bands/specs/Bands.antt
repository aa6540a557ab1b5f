-- Density bands and the strips between them.
use Rattle.std.specs.Prelude.{Bool, cond, ◌&&◌, Option, Some, None, ℕ, ℤ, pos, neg_ℤ, ◌+ℤ◌, ◌-ℤ◌}
use Rattle.std.specs.Int.Signed.{le_z, lt_z}
use Rattle.bands.specs.declared.Band.{Band}
use Rattle.bands.specs.declared.Band.TheVariants.{Low, Middle, High}
use Rattle.bands.specs.declared.Strip.{Strip}

-- the two edges between the bands
abbrev pub low_edge : ℤ
low_edge = neg_ℤ (pos 4500000)

abbrev pub high_edge : ℤ
high_edge = neg_ℤ (pos 500000)

-- document 01, Temperature: the density band of a Y; an edge belongs to the band below it
abbrev pub band_of : ℤ → Band
band_of y = cond (le_z y low_edge) Low (cond (le_z y high_edge) Middle High)

-- strictly within w of an edge e
abbrev pub inside : ℤ → ℕ → ℤ → Bool
inside e w y = lt_z (e -ℤ pos w) y && lt_z y (e +ℤ pos w)

-- the strip that reaches w to both sides of an edge e
abbrev pub around : ℤ → ℕ → Strip
around e w = record { low = e -ℤ pos w; high = e +ℤ pos w }

-- document 01, Entropy, the joins, and request 1: the strip that a Y is strictly inside of, if there is one
abbrev pub strip_of : ℤ → Option Strip
strip_of y = cond (inside low_edge 25000 y) (Some (around low_edge 25000)) (cond (inside high_edge 5000 y) (Some (around high_edge 5000)) None)
