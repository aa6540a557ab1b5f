-- How the tables are written, and where a number falls among ends.
use Rattle.std.specs.Prelude.{cond, List, [], ◌∷◌, ℕ, suc, ℤ, pos, neg_ℤ}
use Rattle.std.specs.Int.Signed.{le_z}

-- a coefficient with + or - before it
abbrev pub p : ℕ → ℤ
p n = pos n

abbrev pub m : ℕ → ℤ
m n = neg_ℤ (pos n)

-- which part of a line a number falls to, from 0: a part has its upper end, and the last has none
abbrev pub index_in : List ℤ → ℤ → ℕ
index_in [] z = 0
index_in (e ∷ es) z = cond (le_z z e) 0 (suc (index_in es z))
