-- Ranges of machine numbers, as records that pass from a contract to the next.
use Rattle.std.specs.Prelude.{ℕ, ◌+◌, ◌*◌, ◌/◌, ◌^◌, ◌<◌, Bool, true, ◌&&◌, List, [], ◌∷◌, T, ltb, ℤ, pos, nat_abs, ◌≤ℤ◌, ◌<ℤ◌}

-- z is below 2^n in size
pub record In (n : ℕ) (z : ℤ) : Type 0 where
  pub size : nat_abs z < 2 ^ n

-- every number of a list is: a test that computes at a list that is written out
abbrev pub all_in : ℕ → List ℤ → Bool
all_in n [] = true
all_in n (z ∷ l) = ltb (nat_abs z) (2 ^ n) && all_in n l

pub record AllIn (n : ℕ) (l : List ℤ) : Type 0 where
  pub all : T (all_in n l)

-- a / m can be had in 64 bits
pub record Divides (a m : ℤ) : Type 0 where
  pub some : pos 0 <ℤ m
  pub size : nat_abs a + nat_abs m < 2 ^ 62

-- a * b / m can be had in 64 bits from the quotient and the rest of a by m
pub record Splits (a b m : ℤ) : Type 0 where
  pub first : Divides a m
  pub rest : nat_abs m * nat_abs b + nat_abs m < 2 ^ 62
  pub product : (nat_abs a / nat_abs m + 1 + nat_abs m) * nat_abs b + 1 < 2 ^ 63

-- y lies between two edges that are apart
pub record Between (a b y : ℤ) : Type 0 where
  pub apart : a <ℤ b
  pub low : a ≤ℤ y
  pub high : y ≤ℤ b
