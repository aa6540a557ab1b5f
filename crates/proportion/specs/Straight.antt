-- The straight line of a join.
use Rattle.std.specs.Prelude.{ℤ, nat_abs, ◌+ℤ◌, ◌-ℤ◌, ◌*ℤ◌}
use Rattle.std.specs.Int.Signed.{shr_z}

-- document 01, Entropy, the joins, and request 1: the straight line from low at a to high at b, at y; what is added to low is rounded down
abbrev pub straight : ℤ → ℤ → ℤ → ℤ → ℤ → ℤ
straight a b low high y = low +ℤ shr_z ((high -ℤ low) *ℤ (y -ℤ a)) (nat_abs (b -ℤ a))
