-- The index among ends names a part, and a band's piece.
use mathlib.Core.Bool.{Bool, true, false, cond}
use mathlib.Core.List.{List, [], ◌∷◌}
use Prim.Native.Nat.{suc, ◌+◌, ◌<◌}
use native.Mathlib.Omega.{arith}
use lib.IntN.{ℤ}
use lib.ListN.{length}
use lib.Signed.{le_z}
use Rattle.bands.specs.declared.Band.{Band}
use Rattle.bands.specs.Units.{index_in}
use Rattle.bands.specs.Region.{temperature_ends, temperature_index, piece_count}

pub index_below : (es : List ℤ) (z : ℤ) → index_in es z < length es + 1
index_below [] z = omega arith
index_below (e ∷ es) z = go (le_z z e) (index_below es z)
  where
    go : (c : Bool) → index_in es z < length es + 1 → cond c 0 (suc (index_in es z)) < length (e ∷ es) + 1
    go true h = omega arith
    go false h = omega arith

pub index_is_piece : (b : Band) (z : ℤ) → temperature_index b z < piece_count b
index_is_piece b z = index_below (temperature_ends b) z
